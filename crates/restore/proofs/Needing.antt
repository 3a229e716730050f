-- The loop over a clause that looks whether it needs the variable.
use Rattle.std.proofs.Common.{◌≡◌, ℕ, suc, ◌+◌, ◌<◌, ◌≤◌, Bool, true, false, not, ◌&&◌, ◌||◌, List, length, take, get_or, refl, sym, ◌∙◌, ap, arith}
use Rattle.std.specs.Prelude.{slice_index}
use Rattle.std.specs.List.{list_any, list_all}
use Rattle.std.proofs.lemmas.List.{take_all}
use Rattle.std.proofs.lemmas.List.Folds.{list_any_more, list_all_more, list_all_at}
use Rattle.session_rules.specs.Logic.{satisfies}
use Rattle.restore.specs.Resolution.{is_plain, holds}
use Rattle.restore.specs.Stack.{needs}

-- whether a literal is the variable itself or false
abbrev pub passes : (ℕ → Bool) → ℕ → ℕ → Bool
passes v x l = is_plain x l || not (satisfies v l)

-- what is known after so many literals
pub record Looked (v : ℕ → Bool) (x : ℕ) (c : List ℕ) (k : ℕ) (held : Bool) : Type 0 where
  pub any : held ≡ holds x (take k c)
  pub all : list_all (passes v x) (take k c) ≡ true

pub looked-begin : (v : ℕ → Bool) (x : ℕ) (c : List ℕ) → Looked v x c 0 false
looked-begin v x c = record { any = refl; all = refl }

or_true : (b : Bool) → (b || true) ≡ true
or_true true = refl
or_true false = refl

or_false : (b : Bool) → (b || false) ≡ b
or_false true = refl
or_false false = refl

pub looked-plain : (v : ℕ → Bool) (x : ℕ) (c : List ℕ) (k l : ℕ) (held : Bool) → k < length c → l ≡ slice_index c k → is_plain x l ≡ true → Looked v x c k held
    → Looked v x c (k + 1) true
looked-plain v x c k l held lt e h s =
    let h2 : is_plain x (slice_index c k) ≡ true = ap (is_plain x) (sym e) ∙ h in
    record {
      any = sym (list_any_more (is_plain x) c k 0 lt ∙ ap (λ b. list_any (is_plain x) (take k c) || b) h2 ∙ or_true _);
      all = list_all_more (passes v x) c k 0 lt ∙ rw (s.all, h2) refl;
    }

pub looked-other : (v : ℕ → Bool) (x : ℕ) (c : List ℕ) (k l : ℕ) (held : Bool) → k < length c → l ≡ slice_index c k → is_plain x l ≡ false → satisfies v l ≡ false
    → Looked v x c k held → Looked v x c (k + 1) held
looked-other v x c k l held lt e h f s =
    let h2 : is_plain x (slice_index c k) ≡ false = ap (is_plain x) (sym e) ∙ h in
    let f2 : satisfies v (slice_index c k) ≡ false = ap (satisfies v) (sym e) ∙ f in
    record {
      any = s.any ∙ sym (list_any_more (is_plain x) c k 0 lt ∙ ap (λ b. list_any (is_plain x) (take k c) || b) h2 ∙ or_false _);
      all = list_all_more (passes v x) c k 0 lt ∙ rw (s.all, h2, f2) refl;
    }

pub other_true : (v : ℕ → Bool) (x : ℕ) (c : List ℕ) (k l : ℕ) → k < length c → l ≡ slice_index c k → is_plain x l ≡ false → satisfies v l ≡ true
    → false ≡ needs v x c
other_true v x c k l lt e h f =
    let h2 : is_plain x (slice_index c k) ≡ false = ap (is_plain x) (sym e) ∙ h in
    let f2 : satisfies v (slice_index c k) ≡ true = ap (satisfies v) (sym e) ∙ f in
    let fails : passes v x (slice_index c k) ≡ false = rw (h2, f2) refl in
    sym (ap (λ b. holds x c && b) (list_all_at (passes v x) c k 0 lt fails) ∙ and_false (holds x c))
  where
    and_false : (b : Bool) → (b && false) ≡ false
    and_false true = refl
    and_false false = refl

pub looked-end : (v : ℕ → Bool) (x : ℕ) (c : List ℕ) (k : ℕ) (held : Bool) → length c ≤ k → Looked v x c k held → held ≡ needs v x c
looked-end v x c k held le s =
    let whole : take k c ≡ c = take_all k c le in
    let all : list_all (passes v x) c ≡ true = ap (list_all (passes v x)) (sym whole) ∙ s.all in
    s.any ∙ ap (holds x) whole ∙ sym (ap (λ b. holds x c && b) all ∙ and_true (holds x c))
  where
    and_true : (b : Bool) → (b && true) ≡ b
    and_true true = refl
    and_true false = refl
