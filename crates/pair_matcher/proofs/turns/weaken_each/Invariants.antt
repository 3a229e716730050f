use Rattle.session_rules.specs.declared.LStep.TheVariants as lsteps
use Rattle.session_rules.specs.declared.Standing.TheVariants.{Weakened}
use Rattle.session_rules.specs.Own.{is_active}
use Rattle.side_laws.specs.ClauseStates.{clauses_of_store}
use Rattle.side_laws.proofs.Turns.{Went}
use Rattle.pair_matcher.proofs.turns.weaken_each.Given as goal

abbrev pub invariant-loop-i : goal.invariant-loop-i
invariant-loop-i l = Went lsteps.Weaken is_active Weakened (clauses_of_store l.fn.store) (clauses_of_store l.store) l.ids l.i
