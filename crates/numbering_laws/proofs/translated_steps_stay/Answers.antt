use Rattle.numbering_laws.proofs.Growing.{steps-stay, known-stay, id_steps-stay, ids-known-stay}
use Rattle.numbering_laws.proofs.translated_steps_stay.Goals as goal

pub returns-clause-known : goal.returns-clause-known
returns-clause-known c = known-stay

pub returns-clause-translated : goal.returns-clause-translated
returns-clause-translated c = steps-stay

pub returns-clause-id_known : goal.returns-clause-id_known
returns-clause-id_known c = ids-known-stay

pub returns-clause-id_translated : goal.returns-clause-id_translated
returns-clause-id_translated c = id_steps-stay
