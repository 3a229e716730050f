-- Numbers and keys that ascend along a list.
use Rattle.std.proofs.Common.{◌≡◌, ℕ, ◌<◌, ◌≤◌, List, [], ◌∷◌, ◌++◌, Contains, refl, sym, ◌∙◌, ap, subst, inl, inr, arith}
use Rattle.std.proofs.lemmas.List.Elements.{Contains-append_cases}
use Rattle.lits.proofs.Members.{here, there, not_in_nil, here_or_there}
use Rattle.session_rules.specs.Pair.{Refusal}
use Rattle.session_rules.specs.Keys.{IsAtMost}

-- ---- Numbers

-- numbers ascend between two bounds
module _ {X : Type 0} (number : X → ℕ) where
  unfoldable pub Ascends : ℕ → List X → ℕ → Type 0
  Ascends low [] high = low ≤ high
  Ascends low (x ∷ xs) high = (low < number x) × Ascends (number x) xs high

  pub ascends_weaken : (low mid high : ℕ) (xs : List X) → low ≤ mid → Ascends mid xs high → Ascends low xs high
  unfolding Ascends
  ascends_weaken low mid high [] h b = omega (arith, h, b)
  ascends_weaken low mid high (x ∷ xs) h b = (omega (arith, h, b.0), b.1)

  pub ascends_append : (low mid high : ℕ) (xs ys : List X) → Ascends low xs mid → Ascends mid ys high → Ascends low (xs ++ ys) high
  unfolding Ascends
  ascends_append low mid high [] ys b c = ascends_weaken low mid high ys b c
  ascends_append low mid high (x ∷ xs) ys b c = (b.0, ascends_append (number x) mid high xs ys b.1 c)

  -- members lie between the bounds
  pub above_low : (low high : ℕ) (xs : List X) (y : X) → Ascends low xs high → Contains xs y → low < number y
  unfolding Ascends
  above_low low high [] y h m = absurd (not_in_nil y m)
  above_low low high (x ∷ xs) y h m = elim (here_or_there x y xs m) [
    | inl is ↦ subst (λ z. low < number z) is h.0
    | inr later ↦ omega (arith, h.0, above_low (number x) high xs y h.1 later)
  ]

  low_high : (low high : ℕ) (xs : List X) → Ascends low xs high → low ≤ high
  unfolding Ascends
  low_high low high [] h = h
  low_high low high (x ∷ xs) h = omega (arith, h.0, low_high (number x) high xs h.1)

  pub below_high : (low high : ℕ) (xs : List X) (y : X) → Ascends low xs high → Contains xs y → number y ≤ high
  unfolding Ascends
  below_high low high [] y h m = absurd (not_in_nil y m)
  below_high low high (x ∷ xs) y h m = elim (here_or_there x y xs m) [
    | inl is ↦ subst (λ z. number z ≤ high) is (low_high (number x) high xs h.1)
    | inr later ↦ below_high (number x) high xs y h.1 later
  ]

-- ---- Keys

-- keys that are at most one another are the same
pub at_most_both : (ns ms : List ℕ) → IsAtMost ns ms → IsAtMost ms ns → ns ≡ ms
at_most_both [] [] h g = refl
at_most_both [] (m ∷ ms) h g = absurd g
at_most_both (n ∷ ns) [] h g = absurd h
at_most_both (n ∷ ns) (m ∷ ms) h g = elim h [
  | inl lt ↦ absurd (elim g [ inl gt ↦ omega (arith, lt, gt) | inr e ↦ omega (arith, lt, e.0) ])
  | inr e ↦ elim g [
    | inl gt ↦ absurd (omega (arith, gt, e.0))
    | inr f ↦ let rest = at_most_both ns ms e.1 f.1 in ap (λ z. z ∷ ns) e.0 ∙ ap (λ z. m ∷ z) rest
  ]
]

pub at_most_trans : (ks ns ms : List ℕ) → IsAtMost ks ns → IsAtMost ns ms → IsAtMost ks ms
at_most_trans [] ns ms h g = tt
at_most_trans (k ∷ ks) [] ms h g = absurd h
at_most_trans (k ∷ ks) (n ∷ ns) [] h g = absurd g
at_most_trans (k ∷ ks) (n ∷ ns) (m ∷ ms) h g = elim h [
  | inl lt ↦ elim g [ inl less ↦ inl (omega (arith, lt, less)) | inr e ↦ inl (omega (arith, lt, e.0)) ]
  | inr e ↦ elim g [ inl less ↦ inl (omega (arith, e.0, less)) | inr f ↦ inr (e.0 ∙ f.0, at_most_trans ks ns ms e.1 f.1) ]
]

pub at_most_itself : (ns : List ℕ) → IsAtMost ns ns
at_most_itself [] = tt
at_most_itself (n ∷ ns) = inr (refl, at_most_itself ns)

pub at_most_same : (ns ms : List ℕ) → ms ≡ ns → IsAtMost ns ms
at_most_same ns ms e = subst (λ z. IsAtMost ns z) (sym e) (at_most_itself ns)

-- one key is before another
abbrev pub IsBefore : List ℕ → List ℕ → Type 0
IsBefore ns ms = IsAtMost ms ns → ⊥

-- keys with different first numbers
pub before_first : (n m : ℕ) (ns ms key other : List ℕ) → n < m → key ≡ n ∷ ns → other ≡ m ∷ ms → IsAtMost key other × IsBefore key other
before_first n m ns ms key other lt e f = subst (λ z. IsAtMost z other × IsBefore z other) (sym e) (subst (λ z. IsAtMost (n ∷ ns) z × IsBefore (n ∷ ns) z) (sym f) (
  inl lt,
  λ h. elim h [ inl gt ↦ omega (arith, lt, gt) | inr same ↦ omega (arith, lt, same.0) ],
))

-- each fault's key is before, and at most, those of the later ones
unfoldable pub KeysAscend : List (List ℕ × Refusal) → Type 0
KeysAscend [] = Unit {0}
KeysAscend (e ∷ es) = ((f : List ℕ × Refusal) → Contains es f → IsAtMost e.0 f.0 × IsBefore e.0 f.0) × KeysAscend es

pub keys_append : (es fs : List (List ℕ × Refusal)) → KeysAscend es → KeysAscend fs → ((e f : List ℕ × Refusal) → Contains es e → Contains fs f → IsAtMost e.0 f.0 × IsBefore e.0 f.0) → KeysAscend (es ++ fs)
unfolding KeysAscend
keys_append [] fs h g order = g
keys_append (e ∷ es) fs h g order = (
  λ f m. elim (Contains-append_cases es fs f m) [ inl left ↦ h.0 f left | inr right ↦ order e f (here e es) right ],
  keys_append es fs h.1 g (λ x f m n. order x f (there e x es m) n),
)

-- one fault a key
pub keys_unique : (key : List ℕ) (es : List (List ℕ × Refusal)) (r s : Refusal) → KeysAscend es → Contains es (key, r) → Contains es (key, s) → r ≡ s
unfolding KeysAscend
keys_unique key [] r s h m k = absurd (not_in_nil (key, r) m)
keys_unique key (e ∷ es) r s h m k = elim (here_or_there e (key, r) es m) [
  | inl is ↦ elim (here_or_there e (key, s) es k) [
    | inl too ↦ let f : (key, r) ≡ (key, s) = sym is ∙ too in ap (λ (z : List ℕ × Refusal). z.1) f
    | inr later ↦ let same : e.0 ≡ key = ap (λ (z : List ℕ × Refusal). z.0) is in absurd ((h.0 (key, s) later).1 (at_most_same key e.0 same))
  ]
  | inr later ↦ elim (here_or_there e (key, s) es k) [
    | inl too ↦ let same : e.0 ≡ key = ap (λ (z : List ℕ × Refusal). z.0) too in absurd ((h.0 (key, r) later).1 (at_most_same key e.0 same))
    | inr also ↦ keys_unique key es r s h.1 later also
  ]
]
