-- A mark that is cleared takes its id out.
use Rattle.std.proofs.Common.{◌≡◌, ℕ, zero, suc, ◌+◌, ◌<◌, ◌≤◌, Bool, true, false, List, [], ◌∷◌, ◌++◌, nat_eq, length, get_or, Contains, refl, sym, ap, ◌∙◌, subst, inl, inr, arith, eq-eqb}
use Rattle.std.specs.Prelude.{slice_set}
use Rattle.std.proofs.lemmas.Bool.{false_from_ne_true, ne_eqb}
use Rattle.lits.specs.Clause.{has}
use Rattle.lits.proofs.Members.{here_or_there, not_in_nil, has_at}
use Rattle.elimination.specs.Inside.{ids_from, IsInserted}

within : (n : ℕ) (ms : List Bool) (id : ℕ) → Contains (ids_from n ms) id → (n ≤ id) × (id < n + length ms)
within n [] id m = absurd (not_in_nil id m)
within n (true ∷ ms) id m = elim (here_or_there n id (ids_from (n + 1) ms) m) [
  | inl e ↦ (omega (arith, e), omega (arith, e))
  | inr k ↦ let r = within (n + 1) ms id k in let a = r.0 in let b = r.1 in (omega (arith, a), omega (arith, b))
]
within n (false ∷ ms) id m = let r = within (n + 1) ms id m in let a = r.0 in let b = r.1 in (omega (arith, a), omega (arith, b))

pub marked_within : (old : List ℕ) (id : ℕ) (ms : List Bool) → ids_from 0 ms ≡ old → Contains old id → id < length ms
marked_within old id ms e m = let r = (within 0 ms id (subst (λ z. Contains z id) (sym e) m)).1 in omega (arith, r)

clear_one : (n i id : ℕ) (ms : List Bool) → id ≡ n + i → Contains (ids_from n ms) id → IsInserted (ids_from n (slice_set ms i false)) id (ids_from n ms)
clear_one n i id [] e m = absurd (not_in_nil id m)
clear_one n zero id (true ∷ ms) e m = record { front = []; back = ids_from (n + 1) ms; before = refl; after = ap (λ z. z ∷ ids_from (n + 1) ms) (let q : n ≡ id = omega (arith, e) in q) }
clear_one n zero id (false ∷ ms) e m = let r = (within (n + 1) ms id m).0 in absurd (omega (arith, r, e))
clear_one n (suc i) id (true ∷ ms) e m = elim (here_or_there n id (ids_from (n + 1) ms) m) [
  | inl q ↦ absurd (omega (arith, q, e))
  | inr k ↦
      let r = clear_one (n + 1) i id ms (omega (arith, e)) k in
      record { front = n ∷ r.front; back = r.back; before = ap (λ z. n ∷ z) r.before; after = ap (λ z. n ∷ z) r.after }
]
clear_one n (suc i) id (false ∷ ms) e m = clear_one (n + 1) i id ms (omega (arith, e)) m

pub cleared : (old : List ℕ) (id : ℕ) (ms : List Bool) → ids_from 0 ms ≡ old → Contains old id → IsInserted (ids_from 0 (slice_set ms id false)) id old
cleared old id ms e m = subst (λ z. IsInserted (ids_from 0 (slice_set ms id false)) id z) e (clear_one 0 id id ms (omega arith) (subst (λ z. Contains z id) (sym e) m))

-- ---- Whether an id has a mark

beyond : (old : List ℕ) (id : ℕ) (ms : List Bool) → ids_from 0 ms ≡ old → length ms ≤ id → false ≡ has old id
beyond old id ms e le = sym (false_from_ne_true _ (λ h. let r = (within 0 ms id (subst (λ z. Contains z id) (sym e) (has_at old id h))).1 in omega (arith, r, le)))

mark_at : (n i id : ℕ) (ms : List Bool) (d : Bool) → id ≡ n + i → i < length ms → get_or ms i d ≡ has (ids_from n ms) id
mark_at n i id [] d e lt = absurd (omega (arith, lt))
mark_at n zero id (true ∷ ms) d e lt = let q : nat_eq id n ≡ true = eq-eqb id n (omega (arith, e)) in rw q refl
mark_at n zero id (false ∷ ms) d e lt = sym (false_from_ne_true _ (λ h. let r = (within (n + 1) ms id (has_at (ids_from (n + 1) ms) id h)).0 in omega (arith, r, e)))
mark_at n (suc i) id (true ∷ ms) d e lt = let q : nat_eq id n ≡ false = ne_eqb id n (λ f. omega (arith, e, f)) in rw q (mark_at (n + 1) i id ms d (omega (arith, e)) (omega (arith, lt)))
mark_at n (suc i) id (false ∷ ms) d e lt = mark_at (n + 1) i id ms d (omega (arith, e)) (omega (arith, lt))

pub unmarked_beyond : (old : List ℕ) (id n : ℕ) (ms : List Bool) → ids_from 0 ms ≡ old → n ≡ length ms → n ≤ id → false ≡ has old id
unmarked_beyond old id n ms e l le = beyond old id ms e (omega (arith, l, le))

pub marked_there : (old : List ℕ) (id : ℕ) (ms : List Bool) (d : Bool) → ids_from 0 ms ≡ old → id < length ms → get_or ms id d ≡ has old id
marked_there old id ms d e lt = mark_at 0 id id ms d (omega arith) lt ∙ ap (λ z. has z id) e
