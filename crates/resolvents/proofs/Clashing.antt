-- Where a resolvent of two clauses that are no tautologies is one.
use Rattle.std.proofs.Common.{◌≡◌, ℕ, Bool, true, false, not, nat_eq, List, Contains, refl, sym, ap, ◌∙◌, inl, inr}
use Rattle.std.specs.List.{list_any}
use Rattle.std.proofs.lemmas.Bool.{both_ways, and_parts, and_from}
use Rattle.lits.specs.Literal.{neg}
use Rattle.lits.specs.Clause.{has, is_tautology}
use Rattle.lits.proofs.Literal.{neg-neg, var-neg}
use Rattle.lits.proofs.Members.{any_at, any_from, filter_at, filter_from, has_at, has_from}
use Rattle.restore.specs.Resolution.{of_variable, without, resolvent}
use Rattle.restore.proofs.Joined.{append_at, append_left, append_right}
use Rattle.resolvents.specs.Held.{clashing_by}

-- tests that are true together are the same
pub same_tests : (a b : Bool) → (a ≡ true → b ≡ true) → (b ≡ true → a ≡ true) → a ≡ b
same_tests true b f g = sym (f refl)
same_tests false true f g = g refl
same_tests false false f g = refl

-- a literal and its negation are of the same variable
of-neg : (x l : ℕ) → of_variable x (neg l) ≡ of_variable x l
of-neg x l = ap (λ z. nat_eq z x) (var-neg l)

tautology_with : (c : List ℕ) (l : ℕ) → Contains c l → Contains c (neg l) → is_tautology c ≡ true
tautology_with c l m n = any_from (λ z. has c (neg z)) c l m (has_from c (neg l) n)

module _ (x : ℕ) (c d : List ℕ) (test : ℕ → Bool) (is : (l : ℕ) → test l ≡ has c l) where
  there : list_any (clashing_by test x) d ≡ true → is_tautology (resolvent x c d) ≡ true
  there h =
      let r = any_at (clashing_by test x) d h in let p = and_parts _ _ r.2 in
      let a : Contains (without x d) r.0 = filter_from (λ l. not (of_variable x l)) d r.0 r.1 p.0 in
      let n : not (of_variable x (neg r.0)) ≡ true = ap not (of-neg x r.0) ∙ p.0 in
      let b : Contains (without x c) (neg r.0) = filter_from (λ l. not (of_variable x l)) c (neg r.0) (has_at c (neg r.0) (sym (is (neg r.0)) ∙ p.1)) n in
      tautology_with (resolvent x c d) r.0 (append_right (without x c) (without x d) r.0 a) (append_left (without x c) (without x d) (neg r.0) b)

  back : is_tautology c ≡ false → is_tautology d ≡ false → is_tautology (resolvent x c d) ≡ true → list_any (clashing_by test x) d ≡ true
  back f g h =
      let r = any_at (λ l. has (resolvent x c d) (neg l)) (resolvent x c d) h in
      let o = has_at (resolvent x c d) (neg r.0) r.2 in
      elim (append_at (without x c) (without x d) r.0 r.1) [
        | inl a ↦ let a2 = filter_at (λ l. not (of_variable x l)) c r.0 a in
            elim (append_at (without x c) (without x d) (neg r.0) o) [
              | inl b ↦ absurd (both_ways _ f (tautology_with c r.0 a2.0 (filter_at (λ l. not (of_variable x l)) c (neg r.0) b).0))
              | inr b ↦ let b2 = filter_at (λ l. not (of_variable x l)) d (neg r.0) b in
                  any_from (clashing_by test x) d (neg r.0) b2.0 (and_from _ _ b2.1 (is (neg (neg r.0)) ∙ ap (has c) (neg-neg r.0) ∙ has_from c r.0 a2.0))
            ]
        | inr a ↦ let a2 = filter_at (λ l. not (of_variable x l)) d r.0 a in
            elim (append_at (without x c) (without x d) (neg r.0) o) [
              | inl b ↦ let b2 = filter_at (λ l. not (of_variable x l)) c (neg r.0) b in
                  any_from (clashing_by test x) d r.0 a2.0 (and_from _ _ a2.1 (is (neg r.0) ∙ has_from c (neg r.0) b2.0))
              | inr b ↦ absurd (both_ways _ g (tautology_with d r.0 a2.0 (filter_at (λ l. not (of_variable x l)) d (neg r.0) b).0))
            ]
      ]

  pub clash_is : is_tautology c ≡ false → is_tautology d ≡ false → list_any (clashing_by test x) d ≡ is_tautology (resolvent x c d)
  clash_is f g = same_tests _ _ there (back f g)
