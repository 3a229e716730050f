use Rattle.session_laws.proofs.Laws.{core_contradicts, core_with_ids_contradicts}
use Rattle.session_laws.proofs.cores_contradict.Goals as goal

pub returns-clause-without_ids : goal.returns-clause-without_ids
returns-clause-without_ids c = core_contradicts

pub returns-clause-with_ids : goal.returns-clause-with_ids
returns-clause-with_ids c = core_with_ids_contradicts
