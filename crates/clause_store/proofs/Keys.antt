-- A set's key is the same for each list that has its literals once.
use Rattle.std.proofs.Common.{◌≡◌, ℕ, ◌+◌, ◌%◌, ◌^◌, ◌<◌, true, false, List, [], ◌∷◌, length, get_or, take, refl, sym, ap, ◌∙◌, inl, inr, arith, nat_eq, nat_lt}
use Rattle.std.specs.List.{sum_by}
use Rattle.std.proofs.lemmas.Bool.{cases_Bool}
use Rattle.std.proofs.lemmas.List.Sums.{sum_by-cons, sum_by_more}
use Rattle.std.proofs.Math.Nat.{mod-add-mod}
use Rattle.lits.specs.Clause.{has, with_literal, set_of}
use Rattle.lits.proofs.Ascending.{has-set_of}
use Rattle.clause_store.specs.Clauses.{IsOnce}
use Rattle.clause_store.specs.Index.{scrambled, key_of}

-- one literal more
pub key_more : (ls : List ℕ) (i : ℕ) → i < length ls → (sum_by scrambled (take i ls) % 2 ^ 64 + scrambled (get_or ls i 0)) % 2 ^ 64 ≡ sum_by scrambled (take (i + 1) ls) % 2 ^ 64
key_more ls i lt = mod-add-mod (sum_by scrambled (take i ls)) (2 ^ 64) (scrambled (get_or ls i 0)) ∙ ap (λ n. n % 2 ^ 64) (sym (sum_by_more scrambled ls i 0 lt))

-- the sum over a set with a literal that it lacked
sum-with_literal : (f : ℕ → ℕ) (l : ℕ) (ms : List ℕ) → has ms l ≡ false → sum_by f (with_literal l ms) ≡ f l + sum_by f ms
unfolding with_literal
sum-with_literal f l [] h = sum_by-cons f l []
sum-with_literal f l (m ∷ ms) h = elim (cases_Bool (nat_lt l m)) [
  | inl q ↦ rw q (sum_by-cons f l (m ∷ ms))
  | inr q ↦ elim (cases_Bool (nat_eq l m)) [
    | inl e ↦ let g : true ≡ false = rw e at h in cc
    | inr e ↦ let g : has ms l ≡ false = rw e at h in rw (q, e) (
        let a = sum_by-cons f m (with_literal l ms) in let b = sum_by-cons f m ms in let r = sum-with_literal f l ms g in omega arith)
  ]
]

-- the sum over a set
sum-set_of : (f : ℕ → ℕ) (ls : List ℕ) → IsOnce ls → sum_by f (set_of ls) ≡ sum_by f ls
unfolding set_of
sum-set_of f [] o = refl
sum-set_of f (l ∷ ls) o = sum-with_literal f l (set_of ls) (has-set_of ls l ∙ o.0) ∙ ap (λ n. f l + n) (sum-set_of f ls o.1) ∙ sym (sum_by-cons f l ls)

pub key_of-set_of : (ls : List ℕ) → IsOnce ls → key_of ls ≡ key_of (set_of ls)
unfolding key_of
key_of-set_of ls o = ap (λ n. n % 2 ^ 64) (sym (sum-set_of scrambled ls o))
