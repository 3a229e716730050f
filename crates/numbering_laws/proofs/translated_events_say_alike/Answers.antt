use Rattle.numbering_laws.proofs.Faults.{events_of-dense}
use Rattle.numbering_laws.proofs.IdFaults.{id_events-dense}
use Rattle.numbering_laws.proofs.Events.{phase-dense, assumed-dense, inputs-dense}
use Rattle.numbering_laws.proofs.translated_events_say_alike.Goals as goal

pub returns-clause-steps : goal.returns-clause-steps
returns-clause-steps c = events_of-dense

pub returns-clause-id_steps : goal.returns-clause-id_steps
returns-clause-id_steps c = id_events-dense

pub returns-clause-phase : goal.returns-clause-phase
returns-clause-phase c = phase-dense

pub returns-clause-assumed : goal.returns-clause-assumed
returns-clause-assumed c = assumed-dense

pub returns-clause-inputs : goal.returns-clause-inputs
returns-clause-inputs c = inputs-dense
