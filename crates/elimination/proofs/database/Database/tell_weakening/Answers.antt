use Rattle.std.proofs.Common.{◌≡◌, List, ℕ, refl, sym, ap, ◌∙◌, subst}
use Rattle.session_rules.specs.declared.Told.TheVariants as told
use Rattle.clause_store.specs.Clauses.{lits_at, IsOnce}
use Rattle.occurrence_lists.specs.Occurring.{row, times, AreListed, IsRemoved}
use Rattle.lits.specs.Clause.{has}
use Rattle.elimination.specs.Steps.{standing, IsDue}
use Rattle.elimination.proofs.Admitting.{when_ok}
use Rattle.elimination.proofs.Leading.{refused_at, told_at}
use Rattle.elimination.proofs.Listed.{once_stored}
use Rattle.elimination.proofs.Stepping.{weakened_sound, weakened_leads}
use Rattle.elimination.proofs.Stored.{copied, weakening_due, irredundant_active, listed_there, listed_within, taken_out}
use Rattle.elimination.proofs.database.Database.tell_weakening.Goals as goal

pub returns-in-Err-clause-broken : goal.returns-in-Err-clause-broken
returns-in-Err-clause-broken g c =
    let same = copied c.extend_from_slice.result c.extend_from_slice.new.self.items c.new-lits.result.items c.lits_of.result.now (lits_at c.store-store.result.now c.args.id) (sym c.is_err.ensures.value ∙ c.if-is_err.false)
    c.extend_from_slice.ensures.items c.new-lits.ensures.items c.lits_of.ensures in
    let due = subst (λ (z : List ℕ). IsDue (standing c.args.self.now.engine.clauses) (told.Weaken c.args.id z)) (sym (c.deref.ensures.value ∙ same))
    (weakening_due c.args.self.now.engine.clauses c.store-store.result.now c.args.id c.store-store.ensures.clauses c.store-store.ensures.stored
    (irredundant_active c.args.self.now c.requires.sound c.store-store.result.now c.store-store.ensures.literals c.args.id c.requires.irredundant)) in
    refused_at g.L.Log.takes g.L.Log.refuses (standing c.args.self.now.engine.clauses) c.args.log.now c.weaken.new.self (told.Weaken c.args.id c.deref.result.now) c.in-Err.fault due c.in-Err.ensures.err

pub returns-then-is_err-2-clause-broken : goal.returns-then-is_err-2-clause-broken
returns-then-is_err-2-clause-broken g c =
    let same = copied c.extend_from_slice.result c.extend_from_slice.new.self.items c.new-lits.result.items c.lits_of.result.now (lits_at c.store-store.result.now c.args.id) (sym c.is_err.ensures.value ∙ c.if-is_err.false)
    c.extend_from_slice.ensures.items c.new-lits.ensures.items c.lits_of.ensures in
    let due = subst (λ (z : List ℕ). IsDue (standing c.args.self.now.engine.clauses) (told.Weaken c.args.id z)) (sym (c.deref.ensures.value ∙ same))
    (weakening_due c.args.self.now.engine.clauses c.store-store.result.now c.args.id c.store-store.ensures.clauses c.store-store.ensures.stored
    (irredundant_active c.args.self.now c.requires.sound c.store-store.result.now c.store-store.ensures.literals c.args.id c.requires.irredundant)) in
    told_at g.L.Log.takes g.L.Log.refuses (standing c.args.self.now.engine.clauses) c.args.log.now c.weaken.new.self (told.Weaken c.args.id c.deref.result.now) due c.in_default.ensures.ok

pub remove-requires-2-clause-reserved : goal.remove-requires-2-clause-reserved
remove-requires-2-clause-reserved g c =
    let same = copied c.extend_from_slice.result c.extend_from_slice.new.self.items c.new-lits.result.items c.lits_of.result.now (lits_at c.store-store.result.now c.args.id) (sym c.is_err.ensures.value ∙ c.if-is_err.false)
    c.extend_from_slice.ensures.items c.new-lits.ensures.items c.lits_of.ensures in
    subst (λ (z : List ℕ). AreListed c.args.self.now.occurrences z) (sym (c.deref-2.ensures.value ∙ same))
    (listed_within c.args.self.now c.requires.sound c.store-store.result.now c.store-store.ensures.literals c.args.id c.requires.irredundant c.store-store.ensures.sound)

pub remove-requires-2-clause-once : goal.remove-requires-2-clause-once
remove-requires-2-clause-once g c =
    let same = copied c.extend_from_slice.result c.extend_from_slice.new.self.items c.new-lits.result.items c.lits_of.result.now (lits_at c.store-store.result.now c.args.id) (sym c.is_err.ensures.value ∙ c.if-is_err.false)
    c.extend_from_slice.ensures.items c.new-lits.ensures.items c.lits_of.ensures in
    subst (λ (z : List ℕ). IsOnce z) (sym (c.deref-2.ensures.value ∙ same)) (once_stored c.store-store.result.now c.args.id c.store-store.ensures.stored)

pub remove-requires-2-clause-there : goal.remove-requires-2-clause-there
remove-requires-2-clause-there g c =
    let same = copied c.extend_from_slice.result c.extend_from_slice.new.self.items c.new-lits.result.items c.lits_of.result.now (lits_at c.store-store.result.now c.args.id) (sym c.is_err.ensures.value ∙ c.if-is_err.false)
    c.extend_from_slice.ensures.items c.new-lits.ensures.items c.lits_of.ensures in
    λ l h. listed_there c.args.self.now c.requires.sound c.store-store.result.now c.store-store.ensures.literals c.args.id c.requires.irredundant l
    (ap (λ (z : List ℕ). has z l) (sym (c.deref-2.ensures.value ∙ same)) ∙ h)

pub returns-clause-weakened : goal.returns-clause-weakened
returns-clause-weakened g c =
    let same = copied c.extend_from_slice.result c.extend_from_slice.new.self.items c.new-lits.result.items c.lits_of.result.now (lits_at c.store-store.result.now c.args.id) (sym c.is_err.ensures.value ∙ c.if-is_err.false)
    c.extend_from_slice.ensures.items c.new-lits.ensures.items c.lits_of.ensures in
    let told_is : c.deref.result.now ≡ c.from_vec.result = c.deref.ensures.value ∙ sym c.from_vec.ensures in
    let kept_is : lits_at c.store-store.result.now c.args.id ≡ c.from_vec.result = sym same ∙ sym c.from_vec.ensures in
    let due = subst (λ (z : List ℕ). IsDue (standing c.args.self.now.engine.clauses) (told.Weaken c.args.id z)) kept_is
    (weakening_due c.args.self.now.engine.clauses c.store-store.result.now c.args.id c.store-store.ensures.clauses c.store-store.ensures.stored
    (irredundant_active c.args.self.now c.requires.sound c.store-store.result.now c.store-store.ensures.literals c.args.id c.requires.irredundant)) in
    let weak = when_ok c.weaken-2.result (sym c.is_err-2.ensures.value ∙ c.if-is_err-2.false) c.weaken-2.ensures.ok in
    let rows = taken_out c.args.self.now c.requires.sound c.store-store.result.now c.store-store.ensures.literals c.args.id c.requires.irredundant c.remove-2.new.self
    (subst (λ (z : List ℕ). IsRemoved c.args.self.now.occurrences c.args.id z c.remove-2.new.self) (c.deref-2.ensures.value ∙ same) c.remove-2.ensures) in
    record {
      taken = subst (λ (z : List ℕ). g.L.Log.takes c.args.log.now (told.Weaken c.args.id z) c.weaken.new.self) told_is c.in_default.ensures.ok;
      named = refl;
      leads = weakened_leads c.args.self.now c.requires.sound c.args.id c.from_vec.result due c.remove.new.self c.remove-2.new.self c.remove.ensures rows c.weaken-2.new.self weak;
      sound = weakened_sound c.args.self.now c.requires.sound c.args.id c.from_vec.result due c.remove.new.self c.remove-2.new.self c.remove.ensures rows c.weaken-2.new.self weak;
      taken_out = c.remove.ensures;
    }
