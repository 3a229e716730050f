use Rattle.numbering_laws.proofs.Given.{next-dense, named-dense, given-dense, kept-back, set-back}
use Rattle.numbering_laws.proofs.translated_steps_name_the_same_ids.Goals as goal

pub returns-clause-next : goal.returns-clause-next
returns-clause-next c = next-dense

pub returns-clause-named : goal.returns-clause-named
returns-clause-named c = named-dense

pub returns-clause-given : goal.returns-clause-given
returns-clause-given c = given-dense

pub returns-clause-kept : goal.returns-clause-kept
returns-clause-kept c = kept-back

pub returns-clause-sets : goal.returns-clause-sets
returns-clause-sets c = set-back
