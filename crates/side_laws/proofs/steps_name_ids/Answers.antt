use Rattle.std.specs.Prelude.{true, false}
use Rattle.session_rules.specs.Own.{is_active, is_weakened}
use Rattle.side_laws.proofs.Given.{count-active, count-weakened}
use Rattle.side_laws.proofs.Held.{least_named}
use Rattle.side_laws.proofs.Named.{least-such, leaves-others, changes-named}
use Rattle.side_laws.proofs.steps_name_ids.Goals as goal

pub returns-clause-deleted : goal.returns-clause-deleted
returns-clause-deleted c = λ ps d id. least-such is_active d ps id

pub returns-clause-weakened : goal.returns-clause-weakened
returns-clause-weakened c = λ ps d id. least-such is_active d ps id

pub returns-clause-restored : goal.returns-clause-restored
returns-clause-restored c = λ ps d id. least-such is_weakened d ps id

pub returns-clause-changed : goal.returns-clause-changed
returns-clause-changed c = leaves-others

pub returns-clause-kept_active : goal.returns-clause-kept_active
returns-clause-kept_active c = λ m next ps d id ls. least_named m next ps true d id ls

pub returns-clause-kept_weakened : goal.returns-clause-kept_weakened
returns-clause-kept_weakened c = λ m next ps d id ls. least_named m next ps false d id ls

pub returns-clause-active_count : goal.returns-clause-active_count
returns-clause-active_count c = λ m next ps h d. count-active ps h.found d

pub returns-clause-weakened_count : goal.returns-clause-weakened_count
returns-clause-weakened_count c = λ m next ps h d. count-weakened ps h.found d

pub returns-clause-one_change : goal.returns-clause-one_change
returns-clause-one_change c = changes-named
