use Rattle.std.proofs.Common.{sym, ◌∙◌}
use Rattle.restore.specs.Resolution.{variables}
use Rattle.restore.proofs.Unwanted.{none_taken, all_left}
use Rattle.elimination.proofs.touching.take_entries.Goals as goal

pub returns-then-not-has_any-clause-taken : goal.returns-then-not-has_any-clause-taken
returns-then-not-has_any-clause-taken c = c.new.ensures ∙ sym (none_taken c.args.stack.now (variables c.args.lits.now) (sym c.has_any.ensures ∙ c.if-not-has_any.true))

pub returns-then-not-has_any-clause-left : goal.returns-then-not-has_any-clause-left
returns-then-not-has_any-clause-left c = sym (all_left c.args.stack.now (variables c.args.lits.now) (sym c.has_any.ensures ∙ c.if-not-has_any.true))
