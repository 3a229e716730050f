-- Marks at places, seen as marks of the literals that have the places.
use Rattle.std.proofs.Common.{◌≡◌, ℕ, Bool, true, false, ◌||◌, if◌then◌else◌, nat_eq, List, [], ◌∷◌, Some, None, All, refl, sym, ◌∙◌, ap, subst, eqb-true}
use Rattle.std.specs.declared.option.Option.{Option}
use Rattle.std.proofs.lemmas.List.Elements.{All-contains}
use Rattle.std.specs.Prelude.{IsTrue}
use Rattle.lits.specs.Clause.{has}
use Rattle.lits.specs.Numbering.{is_known, dense_lit, dense_lits, find_dense_lit}
use Rattle.lits.proofs.Members.{has_at}
use Rattle.lits.proofs.Translated.{has-dense_known}
use Rattle.icnf_lines.specs.declared.marks.Mark.{Mark}
use Rattle.icnf_lines.specs.Marks.{blank, mark_at, mark_in, mark_of, is_at, is_place, AreKnown, IsBlank, also_held, also_met, Changes, PlacesChange, PlaceChanges}
use Rattle.icnf_lines.specs.Parts.{AreHeld}
use Rattle.icnf_lines.proofs.Marking.{or_false}

-- the places of literals are their translations
place_has : (vars ls : List ℕ) (p : ℕ) → is_place vars ls p ≡ has (dense_lits vars ls) p
place_has vars [] p = refl
place_has vars (x ∷ xs) p = ap (λ b. nat_eq p (dense_lit vars x) || b) (place_has vars xs p)

-- only a literal of the list has the place of one
placed : (vars ls : List ℕ) (l : ℕ) → is_known vars l ≡ true → is_place vars ls (dense_lit vars l) ≡ has ls l
placed vars ls l k = place_has vars ls (dense_lit vars l) ∙ has-dense_known vars ls l k

no_both : {b : Bool} → b ≡ true → b ≡ false → ⊥
no_both e f = cc (e, f)

-- literals that have numbers lack one that has none
lacks : (vars ls : List ℕ) (l : ℕ) → AreKnown vars ls → is_known vars l ≡ false → has ls l ≡ false
lacks vars ls l known e = by_has (has ls l) refl
  where
    by_has : (b : Bool) → has ls l ≡ b → b ≡ false
    by_has false f = refl
    by_has true f = absurd (no_both (All-contains (λ m. IsTrue (is_known vars m)) ls l known (has_at ls l f)) e)

pub none_seen : (vars : List ℕ) (t : List Mark) → IsBlank t → (l : ℕ) → mark_of vars t l ≡ blank
none_seen vars t none l = by_known (is_known vars l)
  where
    by_known : (b : Bool) → mark_in t (if b then Some (dense_lit vars l) else None) ≡ blank
    by_known true = none.each (dense_lit vars l)
    by_known false = refl

pub both_seen : (vars : List ℕ) (t u : List Mark) (l : ℕ) (ls : List ℕ) (change : Bool → Mark → Mark) → change false blank ≡ blank → AreKnown vars ls → PlacesChange vars change t u ls
    → mark_of vars u l ≡ change (has ls l) (mark_of vars t l)
both_seen vars t u l ls change none known h = by_known (is_known vars l) refl
  where
    by_known : (b : Bool) → is_known vars l ≡ b → mark_in u (if b then Some (dense_lit vars l) else None) ≡ change (has ls l) (mark_in t (if b then Some (dense_lit vars l) else None))
    by_known true e = h.each (dense_lit vars l) ∙ ap (λ b. change b (mark_at t (dense_lit vars l))) (placed vars ls l e)
    by_known false e = sym none ∙ ap (λ b. change b blank) (sym (lacks vars ls l known e))

-- what is met at the place of a literal is met of it alone
met_at : (vars : List ℕ) (l x : ℕ) → is_known vars x ≡ true → is_at (find_dense_lit vars l) (dense_lit vars x) ≡ has (l ∷ []) x
met_at vars l x e = by_known (is_known vars l) refl
  where
    by_same : (b : Bool) → nat_eq x l ≡ b → is_known vars l ≡ false → false ≡ (b || false)
    by_same false s f = refl
    by_same true s f = absurd (no_both (subst (λ z. is_known vars z ≡ true) (eqb-true x l s) e) f)

    by_known : (b : Bool) → is_known vars l ≡ b → is_at (if b then Some (dense_lit vars l) else None) (dense_lit vars x) ≡ has (l ∷ []) x
    by_known true f = sym (or_false (nat_eq (dense_lit vars x) (dense_lit vars l))) ∙ has-dense_known vars (l ∷ []) x e
    by_known false f = by_same (nat_eq x l) refl f

pub one_met : (vars : List ℕ) (now next : List Mark) (l : ℕ) (place : Option ℕ) → place ≡ find_dense_lit vars l → PlaceChanges also_met now next place → Changes vars also_met now next (l ∷ [])
one_met vars now next l place at h = record { each = λ x. by_known x (is_known vars x) refl }
  where
    by_known : (x : ℕ) (b : Bool) → is_known vars x ≡ b → mark_in next (if b then Some (dense_lit vars x) else None) ≡ also_met (has (l ∷ []) x) (mark_in now (if b then Some (dense_lit vars x) else None))
    by_known x true e = h.each (dense_lit vars x) ∙ ap (λ b. also_met b (mark_at now (dense_lit vars x))) (ap (λ o. is_at o (dense_lit vars x)) at ∙ met_at vars l x e)
    by_known x false e = refl

-- the literals that were marked as held are held
pub held_seen : (vars : List ℕ) (t u : List Mark) (ls : List ℕ) → IsBlank t → AreKnown vars ls → PlacesChange vars also_held t u ls → AreHeld vars u ls
held_seen vars t u ls none known h = record {
  each = λ l. ap (λ m. m.held) (both_seen vars t u l ls also_held refl known h ∙ ap (also_held (has ls l)) (none_seen vars t none l));
}
