use Rattle.std.proofs.Common.{List, ℕ, refl, sym, ◌∙◌, subst}
use Rattle.session_rules.specs.declared.Told.TheVariants as told
use Rattle.elimination.specs.Steps.{standing, IsDue}
use Rattle.elimination.proofs.Admitting.{when_ok}
use Rattle.elimination.proofs.Leading.{refused_at}
use Rattle.elimination.proofs.Stepping.{deleted_sound, deleted_leads}
use Rattle.elimination.proofs.Stored.{deletion_due}
use Rattle.elimination.proofs.database.Database.tell_deletion.Goals as goal

pub returns-in-Err-clause-broken : goal.returns-in-Err-clause-broken
returns-in-Err-clause-broken g c =
    let due = subst (λ (z : List ℕ). IsDue (standing c.args.self.now.engine.clauses) (told.Delete c.args.id z)) (sym c.lits_of.ensures)
    (deletion_due c.args.self.now.engine.clauses c.store-store.result.now c.args.id c.store-store.ensures.clauses c.store-store.ensures.stored c.requires.active) in
    refused_at g.L.Log.takes g.L.Log.refuses (standing c.args.self.now.engine.clauses) c.args.log.now c.delete.new.self (told.Delete c.args.id c.lits_of.result.now) c.in-Err.fault due c.in-Err.ensures.err

pub returns-clause-deleted : goal.returns-clause-deleted
returns-clause-deleted g c =
    let due = subst (λ (z : List ℕ). IsDue (standing c.args.self.now.engine.clauses) (told.Delete c.args.id z)) (sym c.lits_of.ensures)
    (deletion_due c.args.self.now.engine.clauses c.store-store.result.now c.args.id c.store-store.ensures.clauses c.store-store.ensures.stored c.requires.active) in
    let gone = when_ok c.delete-2.result (sym c.is_err.ensures.value ∙ c.if-is_err.false) c.delete-2.ensures.ok in
    record {
      lits = c.lits_of.result.now;
      taken = c.in_default.ensures.ok;
      leads = deleted_leads c.args.self.now c.requires.sound c.args.id c.lits_of.result.now due c.requires.redundant c.delete-2.new.self gone;
      sound = deleted_sound c.args.self.now c.requires.sound c.args.id c.lits_of.result.now due c.requires.redundant c.delete-2.new.self gone;
      same = refl;
    }
