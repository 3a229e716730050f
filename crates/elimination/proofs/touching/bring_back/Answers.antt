use Rattle.std.proofs.Common.{◌≡◌, List, sym, ◌∙◌, subst}
use Rattle.restore.specs.declared.lists.Elim.{Elim}
use Rattle.restore.specs.Resolution.{variables}
use Rattle.restore.specs.Stack.{is_wanted}
use Rattle.elimination.specs.Steps.{standing}
use Rattle.elimination.specs.Restoring.{kept_of, AreCopies}
use Rattle.elimination.proofs.Restored.{copies_chosen}
use Rattle.elimination.proofs.touching.bring_back.Goals as goal

pub restore_entries-requires-clause-copies : goal.restore_entries-requires-clause-copies
restore_entries-requires-clause-copies g c = subst (λ (z : List Elim). AreCopies (standing c.args.clauses.now.engine.clauses) (kept_of z)) (sym (c.as_slice.ensures ∙ c.in-Ok.ensures.taken))
    (copies_chosen (standing c.args.clauses.now.engine.clauses) (λ (e : Elim). is_wanted c.args.stack.now (variables c.args.lits.now) e.var) c.args.stack.now c.requires.copies)
