use Rattle.std.proofs.Common.{ap, ◌∙◌}
use Rattle.pair_matcher.proofs.TranslatingIds.{finish_is_ids}
use Rattle.pair_matcher.proofs.lidrup.LidrupSide.finish.Goals as goal

pub returns : goal.returns
returns c = finish_is_ids c.args.self.now c.phase.result c.end_rule.result (c.phase.ensures ∙ ap (λ z. z.events.phase) c.self.view_is) c.end_rule.ensures
