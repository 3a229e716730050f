use Rattle.std.proofs.Common.{◌≡◌, ◌+◌, ◌≤◌, ◌<◌, ◌^◌, ℕ, List, sym, ◌∙◌, subst}
use Rattle.session_rules.specs.declared.Told.TheVariants as told
use Rattle.elimination.specs.Steps.{standing}
use Rattle.elimination.proofs.Admitting.{when_ok}
use Rattle.elimination.proofs.Leading.{told_at}
use Rattle.elimination.proofs.Stepping.{restored_fresh, restored_active, restored}
use Rattle.elimination.proofs.database.Database.tell_restoring.Goals as goal

pub returns-then-is_err-clause-broken : goal.returns-then-is_err-clause-broken
returns-then-is_err-clause-broken g c = told_at g.L.Log.takes g.L.Log.refuses (standing c.args.self.now.engine.clauses) c.args.log.now c.restore.new.self (told.Restore c.args.kept.now.id c.args.kept.now.lits) c.requires.due
    (subst (λ (z : List ℕ). g.L.Log.takes c.args.log.now (told.Restore c.args.kept.now.id z) c.restore.new.self) c.as_slice.ensures c.in_default.ensures.ok)

pub list_clause-listed-requires-clause-fresh : goal.list_clause-listed-requires-clause-fresh
list_clause-listed-requires-clause-fresh g c = restored_fresh c.args.self.now c.requires.sound c.args.kept.now c.requires.due

pub list_clause-listed-requires-clause-active : goal.list_clause-listed-requires-clause-active
list_clause-listed-requires-clause-active g c = restored_active c.args.self.now c.requires.sound c.args.kept.now c.requires.due c.restore-2.new.self
    (when_ok c.restore-2.result (sym c.is_err.ensures.value ∙ c.if-is_err.false) c.restore-2.ensures.ok)

pub returns-then-is_err-2-clause-broken : goal.returns-then-is_err-2-clause-broken
returns-then-is_err-2-clause-broken g c = told_at g.L.Log.takes g.L.Log.refuses (standing c.args.self.now.engine.clauses) c.args.log.now c.restore.new.self (told.Restore c.args.kept.now.id c.args.kept.now.lits) c.requires.due
    (subst (λ (z : List ℕ). g.L.Log.takes c.args.log.now (told.Restore c.args.kept.now.id z) c.restore.new.self) c.as_slice.ensures c.in_default.ensures.ok)

pub returns-clause-restored : goal.returns-clause-restored
returns-clause-restored g c = restored c.args.self.now c.requires.sound c.args.kept.now c.requires.due c.restore-2.new.self
    (when_ok c.restore-2.result (sym c.is_err.ensures.value ∙ c.if-is_err.false) c.restore-2.ensures.ok) c.level.ensures.sound c.requires.clean
    c.list_clause-listed.new.irredundant c.list_clause-listed.new.occurrences
    (when_ok c.list_clause-listed.result (sym c.is_err-2.ensures.value ∙ c.if-is_err-2.false) c.list_clause-listed.ensures.inserted)
    (when_ok c.list_clause-listed.result (sym c.is_err-2.ensures.value ∙ c.if-is_err-2.false) c.list_clause-listed.ensures.added)
    g.L.Log.takes c.args.log.now c.restore.new.self (subst (λ (z : List ℕ). g.L.Log.takes c.args.log.now (told.Restore c.args.kept.now.id z) c.restore.new.self) c.as_slice.ensures c.in_default.ensures.ok)
