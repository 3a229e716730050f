use Rattle.occurrence_lists.proofs.Standing.{added-there, more-there}
use Rattle.engine_tests.proofs.occurring.a_clause_comes_and_goes.Goals as goal

pub remove-requires-clause-there : goal.remove-requires-clause-there
remove-requires-clause-there g c = λ l m. more-there _ _ _ _ _ l c.in_ok-add-2.ensures.ok (added-there _ _ _ _ l c.in_ok-add.ensures.ok m)
