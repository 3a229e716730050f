-- Two lists without repeats have the same set exactly where they are as long and the one has all of the other.
use Rattle.std.proofs.Common.{◌≡◌, ℕ, Bool, true, false, List, length, get_or, sym, ◌∙◌, inl, inr, arith}
use Rattle.std.specs.List.{list_all}
use Rattle.std.proofs.lemmas.Bool.{cases_Bool, both_ways, and_parts, and_from, false_from_ne_true}
use Rattle.lits.specs.Clause.{has, is_part, same_set}
use Rattle.lits.proofs.Members.{all_at, all_from, has_at, has_from}
use Rattle.clause_store.specs.Clauses.{IsOnce}
use Rattle.clause_store.proofs.Lists.{once-le, once-all}
use Rattle.resolvents.specs.Held.{marked}

part-has : (c d : List ℕ) (q : ℕ) → is_part c d ≡ true → has c q ≡ true → has d q ≡ true
part-has c d q p h = all_at (has d) c q p (has_at c q h)

pub other_length : (c d : List ℕ) → IsOnce c → IsOnce d → (length d ≡ length c → ⊥) → false ≡ same_set c d
other_length c d oc od n = sym (false_from_ne_true _ (λ h.
    let p = and_parts _ _ h in
    let a = once-le c d oc (λ q m. part-has c d q p.0 m) in
    let b = once-le d c od (λ q m. part-has d c q p.1 m) in
    n (omega (arith, a, b))))

same_part : (c d : List ℕ) → IsOnce c → IsOnce d → length d ≡ length c → is_part d c ≡ same_set c d
same_part c d oc od e = elim (cases_Bool (is_part d c)) [
  | inl p ↦
      let agree = once-all d c od (λ q m. part-has d c q p m) e in
      let back : is_part c d ≡ true = all_from (has d) c (λ q m. sym (agree q) ∙ has_from c q m) in
      p ∙ sym (and_from _ _ back p)
  | inr p ↦ p ∙ sym (false_from_ne_true _ (λ h. both_ways _ p (and_parts _ _ h).1))
]

marks_are : (marks : List Bool) (c d : List ℕ) → ((l : ℕ) → get_or marks l false ≡ has c l) → list_all (marked marks) d ≡ is_part d c
marks_are marks c d is = elim (cases_Bool (is_part d c)) [
  | inl p ↦ all_from (marked marks) d (λ l m. is l ∙ all_at (has c) d l p m) ∙ sym p
  | inr p ↦ false_from_ne_true _ (λ h. both_ways _ p (all_from (has c) d (λ l m. sym (is l) ∙ all_at (marked marks) d l h m))) ∙ sym p
]

pub same_length : (marks : List Bool) (c d : List ℕ) → ((l : ℕ) → get_or marks l false ≡ has c l) → IsOnce c → IsOnce d → length d ≡ length c → list_all (marked marks) d ≡ same_set c d
same_length marks c d is oc od e = marks_are marks c d is ∙ same_part c d oc od e
