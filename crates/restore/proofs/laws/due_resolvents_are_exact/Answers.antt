use Rattle.restore.proofs.Keeping.{due_resolvent, due_new, due_once, due_written}
use Rattle.restore.proofs.laws.due_resolvents_are_exact.Goals as goal

pub returns-clause-resolvents : goal.returns-clause-resolvents
returns-clause-resolvents c = due_resolvent

pub returns-clause-new : goal.returns-clause-new
returns-clause-new c = due_new

pub returns-clause-once : goal.returns-clause-once
returns-clause-once c = due_once

pub returns-clause-each : goal.returns-clause-each
returns-clause-each c = due_written
