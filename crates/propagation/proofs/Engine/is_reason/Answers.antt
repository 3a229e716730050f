use Rattle.std.proofs.Common.{sym, ◌∙◌}
use Rattle.propagation.specs.Engine.{IsNoReason, IsReasonOf}
use Rattle.propagation.proofs.Releasing.{if_there, if_not_there, some_reason}
use Rattle.propagation.proofs.Engine.is_reason.Goals as goal

pub returns-clause-yes : goal.returns-clause-yes
returns-clause-yes c = λ t.
    let r = if_there (IsReasonOf c.args.self.now c.args.id) c.forced_by.result c.forced_by.ensures.some (sym c.is_some.ensures ∙ t) in
    some_reason c.args.self.now c.args.id r.0 r.1

pub returns-clause-no : goal.returns-clause-no
returns-clause-no c = λ f. if_not_there (IsNoReason c.args.self.now c.args.id) c.forced_by.result c.forced_by.ensures.none (sym c.is_some.ensures ∙ f)
