-- The further pairs of an index, in order: what a change makes of them, and the first from one on.
use Rattle.std.proofs.Common.{◌≡◌, ◌≢◌, ℕ, ◌<◌, ◌≤◌, Bool, true, false, ◌&&◌, ◌||◌, not, cond, nat_eq, arith, refl, ap, ◌∙◌, List, [], ◌∷◌}
use Rattle.std.proofs.lemmas.Bool.Decides.{nat_tests}
use Rattle.std.proofs.lemmas.Bool.{false_from_ne_true}
use Rattle.std.specs.Ordering.{is_eq, is_gt}
use Rattle.std.specs.BTreeSet.{BTreeSet, Updates, IsKeyRangeOf}
use Rattle.std.specs.declared.ops.Bound.TheVariants.{Included, Excluded, Unbounded}
use Rattle.std.specs.declared.cmp.Ordering.TheVariants.{Less}
use Rattle.std.proofs.Common.{subst}
use Rattle.clause_store.specs.Index.{pair_cmp, in_more}

pub tied_pairs : (a b c d : ℕ) → is_eq (pair_cmp (a, b) (c, d)) ≡ (nat_eq a c && nat_eq b d)
tied_pairs a b c d = grind (arith, nat_tests)

pub added : (s n : BTreeSet (ℕ × ℕ)) (key id k i : ℕ) → Updates pair_cmp s n (key, id) true → in_more n k i ≡ ((nat_eq key k && nat_eq id i) || in_more s k i)
added s n key id k i u = u.0 (k, i) ∙ ap (λ b. cond b true (in_more s k i)) (tied_pairs key id k i) ∙ or_of (nat_eq key k && nat_eq id i) (in_more s k i)
  where
    or_of : (b c : Bool) → cond b true c ≡ (b || c)
    or_of true c = refl
    or_of false c = refl

pub removed : (s n : BTreeSet (ℕ × ℕ)) (key id k i : ℕ) → Updates pair_cmp s n (key, id) false → in_more n k i ≡ (not (nat_eq key k && nat_eq id i) && in_more s k i)
removed s n key id k i u = u.0 (k, i) ∙ ap (λ b. cond b false (in_more s k i)) (tied_pairs key id k i) ∙ and_of (nat_eq key k && nat_eq id i) (in_more s k i)
  where
    and_of : (b c : Bool) → cond b false c ≡ (not b && c)
    and_of true c = refl
    and_of false c = refl

-- at one key, the order is that of the ids
pub from_start : (key a x : ℕ) → a ≤ x → is_gt (pair_cmp (key, a) (key, x)) ≡ false
from_start key a x le = grind (arith, nat_tests)

pub start_of : (key a k x : ℕ) → is_gt (pair_cmp (key, a) (k, x)) ≡ false → k ≡ key → a ≤ x
start_of key a k x h e = grind (arith, nat_tests)

pub key_between : (key a k i x : ℕ) → is_gt (pair_cmp (key, a) (k, i)) ≡ false → is_gt (pair_cmp (k, i) (key, x)) ≡ false → k ≡ key
key_between key a k i x g h = grind (arith, nat_tests)

-- what the first pair from a pair on is
pub record Next (s : BTreeSet (ℕ × ℕ)) (key a : ℕ) (p : ℕ × ℕ) : Type 0 where
  pub inside : is_gt (pair_cmp (key, a) p) ≡ false
  pub member : in_more s p.0 p.1 ≡ true
  pub least : (x : ℕ) → a ≤ x → in_more s key x ≡ true → is_gt (pair_cmp p (key, x)) ≡ false

pub next_of : (s : BTreeSet (ℕ × ℕ)) (key a : ℕ) (r : List (ℕ × ℕ)) (p : ℕ × ℕ) (rest : List (ℕ × ℕ)) → IsKeyRangeOf pair_cmp (Included (key, a)) Unbounded s r → r ≡ p ∷ rest → Next s key a p
next_of s key a r p rest h e =
    let g : IsKeyRangeOf pair_cmp (Included (key, a)) Unbounded s (p ∷ rest) = subst (λ z. IsKeyRangeOf pair_cmp (Included (key, a)) Unbounded s z) e h in
    record { inside = g.1.0.0; member = g.1.1; least = λ x le m. g.2 (key, x) (from_start key a x le, tt) m }

pub none_of : (s : BTreeSet (ℕ × ℕ)) (key a : ℕ) (r : List (ℕ × ℕ)) → IsKeyRangeOf pair_cmp (Included (key, a)) Unbounded s r → r ≡ [] → (x : ℕ) → a ≤ x → in_more s key x ≡ false
none_of s key a r h e = λ x le. h.5 e (key, x) (from_start key a x le, tt)

pub at_key : (s : BTreeSet (ℕ × ℕ)) (key a : ℕ) (p : ℕ × ℕ) → Next s key a p → p.0 ≡ key → (in_more s key p.1 ≡ true) × (a ≤ p.1) × ((x : ℕ) → a ≤ x → in_more s key x ≡ true → p.1 ≤ x)
at_key s key a p h e =
    let same : p ≡ (key, p.1) = λ i. (e i, p.1) in
    (subst (λ k. in_more s k p.1 ≡ true) e h.member, start_of key a p.0 p.1 h.inside e, λ x le m. start_of key p.1 key x (subst (λ q. is_gt (pair_cmp q (key, x)) ≡ false) same (h.least x le m)) refl)

pub past_key : (s : BTreeSet (ℕ × ℕ)) (key a : ℕ) (p : ℕ × ℕ) → Next s key a p → p.0 ≢ key → (x : ℕ) → a ≤ x → in_more s key x ≡ false
past_key s key a p h ne x le = false_from_ne_true _ (λ m. ne (key_between key a p.0 p.1 x h.inside (h.least x le m)))

-- ---- The first pair beyond a pair

pub beyond : (key a x : ℕ) → a < x → pair_cmp (key, a) (key, x) ≡ Less
beyond key a x lt = grind (arith, nat_tests)

pub beyond_of : (key a k x : ℕ) → pair_cmp (key, a) (k, x) ≡ Less → k ≡ key → a < x
beyond_of key a k x h e = grind (arith, nat_tests)

pub key_beyond : (key a k i x : ℕ) → pair_cmp (key, a) (k, i) ≡ Less → is_gt (pair_cmp (k, i) (key, x)) ≡ false → k ≡ key
key_beyond key a k i x g h = grind (arith, nat_tests)

-- what the first pair beyond a pair is
pub record After (s : BTreeSet (ℕ × ℕ)) (key a : ℕ) (p : ℕ × ℕ) : Type 0 where
  pub inside : pair_cmp (key, a) p ≡ Less
  pub member : in_more s p.0 p.1 ≡ true
  pub least : (x : ℕ) → a < x → in_more s key x ≡ true → is_gt (pair_cmp p (key, x)) ≡ false

pub after_of : (s : BTreeSet (ℕ × ℕ)) (key a : ℕ) (r : List (ℕ × ℕ)) (p : ℕ × ℕ) (rest : List (ℕ × ℕ)) → IsKeyRangeOf pair_cmp (Excluded (key, a)) Unbounded s r → r ≡ p ∷ rest → After s key a p
after_of s key a r p rest h e =
    let g : IsKeyRangeOf pair_cmp (Excluded (key, a)) Unbounded s (p ∷ rest) = subst (λ z. IsKeyRangeOf pair_cmp (Excluded (key, a)) Unbounded s z) e h in
    record { inside = g.1.0.0; member = g.1.1; least = λ x lt m. g.2 (key, x) (beyond key a x lt, tt) m }

pub none_after : (s : BTreeSet (ℕ × ℕ)) (key a : ℕ) (r : List (ℕ × ℕ)) → IsKeyRangeOf pair_cmp (Excluded (key, a)) Unbounded s r → r ≡ [] → (x : ℕ) → a < x → in_more s key x ≡ false
none_after s key a r h e = λ x lt. h.5 e (key, x) (beyond key a x lt, tt)

pub after_key : (s : BTreeSet (ℕ × ℕ)) (key a : ℕ) (p : ℕ × ℕ) → After s key a p → p.0 ≡ key → (in_more s key p.1 ≡ true) × (a < p.1) × ((x : ℕ) → a < x → in_more s key x ≡ true → p.1 ≤ x)
after_key s key a p h e =
    let same : p ≡ (key, p.1) = λ i. (e i, p.1) in
    (subst (λ k. in_more s k p.1 ≡ true) e h.member, beyond_of key a p.0 p.1 h.inside e, λ x lt m. start_of key p.1 key x (subst (λ q. is_gt (pair_cmp q (key, x)) ≡ false) same (h.least x lt m)) refl)

pub after_past : (s : BTreeSet (ℕ × ℕ)) (key a : ℕ) (p : ℕ × ℕ) → After s key a p → p.0 ≢ key → (x : ℕ) → a < x → in_more s key x ≡ false
after_past s key a p h ne x lt = false_from_ne_true _ (λ m. ne (key_beyond key a p.0 p.1 x h.inside (h.least x lt m)))
