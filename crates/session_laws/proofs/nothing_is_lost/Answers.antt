use Rattle.session_laws.proofs.Laws.{sets_kept, ids_kept}
use Rattle.session_laws.proofs.nothing_is_lost.Goals as goal

pub returns-clause-by_sets : goal.returns-clause-by_sets
returns-clause-by_sets c = sets_kept

pub returns-clause-by_ids : goal.returns-clause-by_ids
returns-clause-by_ids c = ids_kept
