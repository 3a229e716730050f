-- Marks of literals, as they are written one by one.
use Rattle.std.proofs.Common.{◌≡◌, ℕ, ◌+◌, ◌<◌, Bool, true, false, List, ◌∷◌, ◌||◌, nat_eq, length, get_or, set, drop, if◌then◌else◌, refl, sym, ap, ◌∙◌, subst, inl, inr, eq-eqb}
use Rattle.std.proofs.lemmas.Bool.{cases_Bool, cases_eq, ne_eqb}
use Rattle.std.proofs.lemmas.List.{drop_more, get_or-set_same, get_or-set_other}
use Rattle.lits.specs.Clause.{has}
use Rattle.lits.proofs.Members.{has_from}
use Rattle.resolvents.specs.Held.{AreBelow}

-- the item of a list at a place is one of it
pub item-has : (ls : List ℕ) (k l : ℕ) → k < length ls → l ≡ get_or ls k l → has ls l ≡ true
item-has ls k l lt is = has_from ls l (k, lt, sym is)

pub item-below : (ls : List ℕ) (k l code end : ℕ) → k < length ls → l ≡ get_or ls k l → code ≡ l → AreBelow end ls → code < end
item-below ls k l code end lt is e h = subst (λ z. z < end) (sym e) (h l (item-has ls k l lt is))

-- one mark more
pub marked-step : (ms : List Bool) (ls : List ℕ) (to : Bool) (k l code q : ℕ) → k < length ls → l ≡ get_or ls k l → code ≡ l → code < length ms
    → (if has (drop (k + 1) ls) q then to else get_or (set ms code to) q false) ≡ (if has (drop k ls) q then to else get_or ms q false)
marked-step ms ls to k l code q lt is e inside =
    let d : drop k ls ≡ code ∷ drop (k + 1) ls = drop_more ls k l lt ∙ ap (λ z. z ∷ drop (k + 1) ls) (sym is ∙ sym e) in
    rw d (elim (cases_eq q code) [
      | inl y ↦ same y
      | inr n ↦ other n
    ])
  where
    same : q ≡ code → (if has (drop (k + 1) ls) q then to else get_or (set ms code to) q false) ≡ (if nat_eq q code || has (drop (k + 1) ls) q then to else get_or ms q false)
    same y =
        let w : get_or (set ms code to) q false ≡ to = ap (λ z. get_or (set ms code to) z false) y ∙ get_or-set_same ms code to false inside in
        let t = eq-eqb q code y in
        elim (cases_Bool (has (drop (k + 1) ls) q)) [ inl a ↦ rw (a, t) refl | inr a ↦ rw (a, t) w ]

    other : (q ≡ code → ⊥) → (if has (drop (k + 1) ls) q then to else get_or (set ms code to) q false) ≡ (if nat_eq q code || has (drop (k + 1) ls) q then to else get_or ms q false)
    other n =
        let w : get_or (set ms code to) q false ≡ get_or ms q false = get_or-set_other ms code q to false n in
        let t = ne_eqb q code n in
        elim (cases_Bool (has (drop (k + 1) ls) q)) [ inl a ↦ rw (a, t) refl | inr a ↦ rw (a, t) w ]
