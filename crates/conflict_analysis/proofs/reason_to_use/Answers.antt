use Rattle.std.proofs.Common.{sym, ◌∙◌}
use Rattle.conflict_analysis.proofs.Engines.{reason_active}
use Rattle.conflict_analysis.proofs.reason_to_use.Goals as goal

pub others_follow-requires-clause-active : goal.others_follow-requires-clause-active
others_follow-requires-clause-active c = reason_active c.args.engine.now c.args.l c.in-Some.slot c.requires.engine (sym c.reason.ensures.value ∙ c.in-Some.is)
