use Rattle.numbering_laws.proofs.Faults.{own-dense}
use Rattle.numbering_laws.proofs.IdFaults.{own_id-dense}
use Rattle.numbering_laws.proofs.KnownRules.{own-file, own_id-file}
use Rattle.numbering_laws.proofs.translated_steps_break_the_same_rules.Goals as goal

pub returns-clause-translated : goal.returns-clause-translated
returns-clause-translated c = own-dense

pub returns-clause-back : goal.returns-clause-back
returns-clause-back c = own-file

pub returns-clause-id_translated : goal.returns-clause-id_translated
returns-clause-id_translated c = own_id-dense

pub returns-clause-id_back : goal.returns-clause-id_back
returns-clause-id_back c = own_id-file
