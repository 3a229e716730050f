use Rattle.session_laws.proofs.Laws.{model_satisfies, model_with_ids_satisfies}
use Rattle.session_laws.proofs.models_satisfy.Goals as goal

pub returns-clause-without_ids : goal.returns-clause-without_ids
returns-clause-without_ids c = model_satisfies

pub returns-clause-with_ids : goal.returns-clause-with_ids
returns-clause-with_ids c = model_with_ids_satisfies
