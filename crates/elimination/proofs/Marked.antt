-- Ids as marks: rows that are added without a mark change nothing, and a mark that is set adds its id.
use Rattle.std.proofs.Common.{◌≡◌, ℕ, zero, suc, ◌+◌, ◌-◌, ◌<◌, ◌≤◌, Bool, true, false, List, [], ◌∷◌, ◌++◌, length, take, replicate, Contains, refl, sym, ap, ◌∙◌, subst, inl, inr, arith}
use Rattle.std.specs.Prelude.{slice_set}
use Rattle.std.proofs.lemmas.Bool.{cases_Bool}
use Rattle.std.proofs.lemmas.List.{take_all}
use Rattle.lits.proofs.Members.{here, there}
use Rattle.elimination.specs.Inside.{ids_from, IsInserted}

unmarked : (n k : ℕ) → ids_from n (replicate k false) ≡ []
unmarked n zero = refl
unmarked n (suc k) = unmarked (n + 1) k

longer : (n k : ℕ) (ms : List Bool) → ids_from n (ms ++ replicate k false) ≡ ids_from n ms
longer n k [] = unmarked n k
longer n k (true ∷ ms) = ap (λ z. n ∷ z) (longer (n + 1) k ms)
longer n k (false ∷ ms) = longer (n + 1) k ms

pub widened : (row k : ℕ) (ms new : List Bool) → length ms ≤ row → new ≡ take row ms ++ replicate k false → ids_from 0 new ≡ ids_from 0 ms
widened row k ms new h e = ap (ids_from 0) (e ∙ ap (λ z. z ++ replicate k false) (take_all row ms h)) ∙ longer 0 k ms

-- a mark that wasn't set is set, or it was set already
set_one : (n i id : ℕ) (ms : List Bool) → i < length ms → id ≡ n + i → (Contains (ids_from n ms) id → ⊥) → IsInserted (ids_from n ms) id (ids_from n (slice_set ms i true))
set_one n i id [] lt e f = absurd (omega (arith, lt))
set_one n zero id (true ∷ ms) lt e f = absurd (f (subst (λ z. Contains (n ∷ ids_from (n + 1) ms) z) (let q : n ≡ id = omega (arith, e) in q) (here n (ids_from (n + 1) ms))))
set_one n zero id (false ∷ ms) lt e f = record { front = []; back = ids_from (n + 1) ms; before = refl; after = ap (λ z. z ∷ ids_from (n + 1) ms) (let q : n ≡ id = omega (arith, e) in q) }
set_one n (suc i) id (true ∷ ms) lt e f =
    let r = set_one (n + 1) i id ms (omega (arith, lt)) (omega (arith, e)) (λ m. f (there n id (ids_from (n + 1) ms) m)) in
    record { front = n ∷ r.front; back = r.back; before = ap (λ z. n ∷ z) r.before; after = ap (λ z. n ∷ z) r.after }
set_one n (suc i) id (false ∷ ms) lt e f = set_one (n + 1) i id ms (omega (arith, lt)) (omega (arith, e)) f

pub inserted : (old : List ℕ) (id : ℕ) (ms : List Bool) → id < length ms → ids_from 0 ms ≡ old → (Contains old id → ⊥) → IsInserted old id (ids_from 0 (slice_set ms id true))
inserted old id ms lt e f =
    let r = set_one 0 id id ms lt (omega arith) (λ m. f (subst (λ z. Contains z id) e m)) in
    record { front = r.front; back = r.back; before = sym e ∙ r.before; after = r.after }
