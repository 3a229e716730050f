use Rattle.std.proofs.Common.{[], List, ℕ, ap, sym, subst, ◌∙◌}
use Rattle.lits.proofs.Members.{not_in_nil}
use Rattle.occurrence_lists.specs.Occurring.{StandsFor, with_rows}
use Rattle.occurrence_lists.proofs.Standing.{none, grown}
use Rattle.engine_tests.proofs.boards.a_variable_of_no_clause_stays.Goals as goal

pub is_eligible_on-requires-clause-stands : goal.is_eligible_on-requires-clause-stands
is_eligible_on-requires-clause-stands g c = (
  [],
  record {
    stands = subst (λ (z : List (List ℕ)). StandsFor z []) (sym (c.in_ok-reserve-2.ensures.ok ∙ ap (λ (z : List (List ℕ)). with_rows z 6) c.new-lists.ensures)) (grown [] [] 6 none);
    active = λ id m. absurd (not_in_nil id m);
  },
)

pub would_be_eligible-requires-clause-stands : goal.would_be_eligible-requires-clause-stands
would_be_eligible-requires-clause-stands g c = (
  [],
  record {
    stands = subst (λ (z : List (List ℕ)). StandsFor z []) (sym (c.in_ok-reserve-2.ensures.ok ∙ ap (λ (z : List (List ℕ)). with_rows z 6) c.new-lists.ensures)) (grown [] [] 6 none);
    active = λ id m. absurd (not_in_nil id m);
  },
)
