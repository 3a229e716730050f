use Rattle.std.proofs.Common.{sym, subst}
use Rattle.std.specs.Prelude.{All, ◌≤◌}
use Rattle.lits.specs.Literal.{var}
use Rattle.session_events.proofs.Standing.{core_reserved}
use Rattle.session_events.proofs.Events.core_rule.Goals as goal

pub returns-clause-reserved : goal.returns-clause-reserved
returns-clause-reserved c = core_reserved c.args.u.now c.as_slice-assumed.result.now c.self.inside.reserved c.of_core.result
    (subst (All (λ l. var l ≤ c.self.inside.reserved)) (sym c.as_slice-assumed.ensures.value) c.self.invariant.assumed_fit) c.of_core.ensures.rule
