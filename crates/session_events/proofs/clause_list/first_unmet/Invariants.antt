use Rattle.std.proofs.Common.{not, length, All}
use Rattle.std.specs.List.{list_any}
use Rattle.session_events.specs.Ticks.{is_ticked, HasPlace}
use Rattle.session_events.proofs.Regions.{IsWalk}
use Rattle.session_events.proofs.clause_list.first_unmet.Given as goal

abbrev pub invariant-loop-i : goal.invariant-loop-i
invariant-loop-i l = IsWalk (λ c. not (list_any (is_ticked l.ticks) c)) (All (HasPlace (length l.ticks))) l.literals l.ends l.start l.i
