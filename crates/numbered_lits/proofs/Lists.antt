-- Lists that are translated literal by literal.
use Rattle.std.proofs.Common.{◌≡◌, ℕ, ◌+◌, ◌<◌, ◌≤◌, Bool, true, false, not, filter, List, [], ◌∷◌, ◌++◌, length, take, drop, get_or, append_assoc, Option, Some, None, refl, sym, ap, ◌∙◌, subst, inl, inr, arith, add-one}
use Rattle.std.proofs.Math.Seq.{take-suc}
use Rattle.std.proofs.lemmas.Bool.{cases_Bool, both_ways, and_parts, and_from}
use Rattle.std.proofs.lemmas.List.{map-append, get_or_default, take_all, take-append-drop}
use Rattle.std.proofs.lemmas.List.Elements.{All-map, All-from_get_or}
use Rattle.lits.specs.Literal.{var}
use Rattle.std.proofs.lemmas.List.Filters.{length-filter_both}
use Rattle.lits.specs.Clause.{has, is_tautology}
use Rattle.lits.proofs.Sets.{same_from, tautology-same}
use Rattle.lits.specs.Numbering.{place, is_known, are_known, dense_lit, find_dense_lit, dense_lits, with_var, with_lits, numbered_lits}
use Rattle.lits.proofs.Members.{has_from}
use Rattle.lits.proofs.Places.{place-known}
use Rattle.lits.proofs.Translated.{var-dense_lit, known_at, with_lits-extends, with_lits-push, numbered_lits-push, are_known-with_lits}
use Rattle.numbered_lits.specs.Numbers.{Continues, AreNumbers, known_front}

pub taken : (ls : List ℕ) (i : ℕ) → i < length ls → take (i + 1) ls ≡ take i ls ++ get_or ls i 0 ∷ []
taken ls i lt = ap (λ k. take k ls) (add-one i) ∙ take-suc ls i 0 lt

-- ---- Numbering

pub vars-step : (vars ls : List ℕ) (i : ℕ) → i < length ls → with_lits vars (take (i + 1) ls) ≡ with_var (with_lits vars (take i ls)) (var (get_or ls i 0))
vars-step vars ls i lt = ap (with_lits vars) (taken ls i lt) ∙ with_lits-push vars (take i ls) (get_or ls i 0)

pub numbered-step : (vars ls : List ℕ) (i : ℕ) → i < length ls
    → numbered_lits vars (take (i + 1) ls) ≡ numbered_lits vars (take i ls) ++ dense_lit (with_lits vars (take i ls)) (get_or ls i 0) ∷ []
numbered-step vars ls i lt = ap (numbered_lits vars) (taken ls i lt) ∙ numbered_lits-push vars (take i ls) (get_or ls i 0)

pub continues : (vars ls now : List ℕ) → now ≡ with_lits vars ls → Continues vars now
continues vars ls now e = let r = with_lits-extends vars ls in record { more = r.0; is = e ∙ r.1 }

-- ---- Looking up

known-push : (vars ls : List ℕ) (l : ℕ) → are_known vars ls ≡ true → is_known vars l ≡ true → are_known vars (ls ++ l ∷ []) ≡ true
known-push vars [] l k h = and_from _ _ h refl
known-push vars (x ∷ xs) l k h = let parts = and_parts (is_known vars x) (are_known vars xs) k in and_from _ _ parts.0 (known-push vars xs l parts.1 h)

pub known-step : (vars ls : List ℕ) (i : ℕ) → i < length ls → are_known vars (take i ls) ≡ true → is_known vars (get_or ls i 0) ≡ true → are_known vars (take (i + 1) ls) ≡ true
known-step vars ls i lt k h = subst (λ z. are_known vars z ≡ true) (sym (taken ls i lt)) (known-push vars (take i ls) (get_or ls i 0) k h)

pub dense-step : (vars ls : List ℕ) (i : ℕ) → i < length ls → dense_lits vars (take (i + 1) ls) ≡ dense_lits vars (take i ls) ++ dense_lit vars (get_or ls i 0) ∷ []
dense-step vars ls i lt = ap (dense_lits vars) (taken ls i lt) ∙ map-append (dense_lit vars) (take i ls) (get_or ls i 0 ∷ [])

has-item : (ls : List ℕ) (i : ℕ) → i < length ls → has ls (get_or ls i 0) ≡ true
has-item ls i lt = has_from ls (get_or ls i 0) (i, lt, get_or_default ls i (get_or ls i 0) 0 lt)

pub unknown-item : (vars ls : List ℕ) (i : ℕ) → i < length ls → is_known vars (get_or ls i 0) ≡ false → are_known vars ls ≡ false
unknown-item vars ls i lt n = elim (cases_Bool (are_known vars ls)) [
  | inl k ↦ absurd (both_ways _ n (known_at vars ls (get_or ls i 0) k (has-item ls i lt)))
  | inr q ↦ q
]

-- ---- The literals before the first that has no number

pub front-all : (vars ls : List ℕ) → are_known vars ls ≡ true → known_front vars ls ≡ ls
unfolding known_front
front-all vars [] k = refl
front-all vars (x ∷ xs) k = let parts = and_parts (is_known vars x) (are_known vars xs) k in rw parts.0 (ap (λ z. x ∷ z) (front-all vars xs parts.1))

front-before : (vars ls : List ℕ) (l : ℕ) (after : List ℕ) → are_known vars ls ≡ true → is_known vars l ≡ false → known_front vars (ls ++ l ∷ after) ≡ ls
unfolding known_front
front-before vars [] l after k n = rw n refl
front-before vars (x ∷ xs) l after k n = let parts = and_parts (is_known vars x) (are_known vars xs) k in rw parts.0 (ap (λ z. x ∷ z) (front-before vars xs l after parts.1 n))

split-at : (ls : List ℕ) (i : ℕ) → i < length ls → ls ≡ take i ls ++ get_or ls i 0 ∷ drop (i + 1) ls
split-at ls i lt = sym (take-append-drop (i + 1) ls) ∙ ap (λ z. z ++ drop (i + 1) ls) (taken ls i lt) ∙ append_assoc (take i ls) (get_or ls i 0 ∷ []) (drop (i + 1) ls)

pub front-at : (vars ls : List ℕ) (i : ℕ) → i < length ls → are_known vars (take i ls) ≡ true → is_known vars (get_or ls i 0) ≡ false → known_front vars ls ≡ take i ls
front-at vars ls i lt k n = ap (known_front vars) (split-at ls i lt) ∙ front-before vars (take i ls) (get_or ls i 0) (drop (i + 1) ls) k n

pub front-none : (vars ls items : List ℕ) (i l : ℕ) (found : Option ℕ) → i < length ls → l ≡ get_or ls i 0 → found ≡ find_dense_lit vars l → found ≡ None
    → are_known vars (take i ls) ≡ true → items ≡ dense_lits vars (take i ls) → items ≡ dense_lits vars (known_front vars ls)
front-none vars ls items i l found lt e f none k is = elim (cases_Bool (is_known vars l)) [
  | inl q ↦ let g : found ≡ Some (dense_lit vars l) = rw q at f in let h : Some (dense_lit vars l) ≡ None = sym g ∙ none in cc h
  | inr q ↦ is ∙ ap (dense_lits vars) (sym (front-at vars ls i lt k (subst (λ z. is_known vars z ≡ false) e q)))
]

pub front-end : (vars ls items : List ℕ) (i : ℕ) → length ls ≤ i → are_known vars (take i ls) ≡ true → items ≡ dense_lits vars (take i ls) → items ≡ dense_lits vars (known_front vars ls)
front-end vars ls items i ge k is = let all : take i ls ≡ ls = take_all i ls ge in
    is ∙ ap (dense_lits vars) (all ∙ sym (front-all vars ls (subst (λ z. are_known vars z ≡ true) all k)))

-- a list with a literal that has no number: the first such stands behind the front
pub record StandsBehind (vars front ls : List ℕ) : Type 0 where
  pub literal : ℕ
  pub after : List ℕ
  pub whole : ls ≡ front ++ literal ∷ after
  pub known : are_known vars front ≡ true
  pub unknown : is_known vars literal ≡ false

pub front-split : (vars ls : List ℕ) → are_known vars ls ≡ false → StandsBehind vars (known_front vars ls) ls
unfolding known_front
front-split vars [] n = cc
front-split vars (x ∷ xs) n = elim (cases_Bool (is_known vars x)) [
  | inl q ↦ let rest : are_known vars xs ≡ false = rw q at n in let more = front-split vars xs rest in
      rw q (record { literal = more.literal; after = more.after; whole = ap (λ z. x ∷ z) more.whole; known = and_from _ _ q more.known; unknown = more.unknown })
  | inr q ↦ rw q (record { literal = x; after = xs; whole = refl; known = refl; unknown = q })
]

-- ---- Numbers

pub are-numbers : (vars ls : List ℕ) → are_known vars ls ≡ true → AreNumbers vars (dense_lits vars ls)
are-numbers vars ls k = All-map (λ l. var l ≤ length vars) (dense_lit vars) ls
    (All-from_get_or (λ l. var (dense_lit vars l) ≤ length vars) ls 0 (λ i lt. number (get_or ls i 0) (known_at vars ls (get_or ls i 0) k (has-item ls i lt))))
  where
    number : (l : ℕ) → is_known vars l ≡ true → var (dense_lit vars l) ≤ length vars
    number l h = let p : place vars (var l) < length vars = place-known vars (var l) h in
        subst (λ n. n ≤ length vars) (sym (var-dense_lit vars l)) (omega arith)

pub are-numbers-after : (vars ls : List ℕ) → AreNumbers (with_lits vars ls) (numbered_lits vars ls)
are-numbers-after vars ls = are-numbers (with_lits vars ls) ls (are_known-with_lits vars ls)

-- ---- Those that have numbers, and the others

pub others-short : (vars ls others : List ℕ) → others ≡ filter (λ l. not (is_known vars l)) ls → length ls ≤ 16 → length others ≤ 16
others-short vars ls others e h = let both = length-filter_both (is_known vars) (λ l. not (is_known vars l)) (λ x. refl) ls in
    let f : length others ≡ length (filter (λ l. not (is_known vars l)) ls) = ap length e in omega arith

pub others-clash : (vars ls others set : List ℕ) (answer : Bool) → others ≡ filter (λ l. not (is_known vars l)) ls → ((l : ℕ) → has set l ≡ has others l) → answer ≡ is_tautology set
    → answer ≡ is_tautology (filter (λ l. not (is_known vars l)) ls)
others-clash vars ls others set answer e members is = is ∙ tautology-same set others (same_from set others members) ∙ ap is_tautology e
