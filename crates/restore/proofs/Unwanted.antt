-- Where no asked variable has an entry nothing is taken out, and what is taken out by choice.
use Rattle.std.proofs.Common.{◌≡◌, ℕ, suc, ◌≤◌, ◌<◌, Bool, true, false, not, ◌||◌, nat_eq, List, [], ◌∷◌, ◌++◌, length, map, filter, take, drop, Contains, refl, sym, ◌∙◌, ap, subst, inl, inr, arith, eqb-true, eq-eqb}
use Rattle.std.specs.List.{list_any}
use Rattle.std.proofs.lemmas.Bool.{cases_Bool, both_ways}
use Rattle.std.proofs.lemmas.List.{take_all, drop_all}
use Rattle.lits.proofs.Members.{here, there, any_from, has_at}
use Rattle.session_rules.specs.Logic.{has}
use Rattle.restore.specs.declared.lists.Elim.{Elim}
use Rattle.restore.specs.Stack.{has_entry, taken, left_in, is_wanted}
use Rattle.restore.specs.Split.{with_choice}
use Rattle.restore.proofs.Taking.{is_wanted-least}
use Rattle.restore.proofs.Splitting.{with_choice-test, without_choice-test}

unwanted : (es : List Elim) (xs : List ℕ) → list_any (has_entry es) xs ≡ false → (e : Elim) → Contains es e → is_wanted es xs e.var ≡ false
unwanted es xs none e m = elim (cases_Bool (is_wanted es xs e.var)) [
  | inl h ↦ absurd (both_ways false refl (is_wanted-least es xs (λ x. false) (λ e f ce cf s w. s) (λ f cf a.
      absurd (both_ways _ none (any_from (has_entry es) xs f.var (has_at xs f.var a) (any_from (λ (d : Elim). nat_eq d.var f.var) es f cf (eq-eqb _ _ refl))))) e m h))
  | inr h ↦ h
]

filter_none : (p : Elim → Bool) (es : List Elim) → ((e : Elim) → Contains es e → p e ≡ false) → filter p es ≡ []
filter_none p [] h = refl
filter_none p (e ∷ es) h = rw (h e (here e es)) (filter_none p es (λ d m. h d (there e d es m)))

filter_all : (p : Elim → Bool) (es : List Elim) → ((e : Elim) → Contains es e → p e ≡ true) → filter p es ≡ es
filter_all p [] h = refl
filter_all p (e ∷ es) h = rw (h e (here e es)) (ap (λ (ds : List Elim). e ∷ ds) (filter_all p es (λ d m. h d (there e d es m))))

pub none_taken : (es : List Elim) (xs : List ℕ) → list_any (has_entry es) xs ≡ false → taken (is_wanted es xs) es ≡ []
none_taken es xs h = filter_none (λ (e : Elim). is_wanted es xs e.var) es (unwanted es xs h)

pub all_left : (es : List Elim) (xs : List ℕ) → list_any (has_entry es) xs ≡ false → left_in (is_wanted es xs) es ≡ es
all_left es xs h = filter_all (λ (e : Elim). not (is_wanted es xs e.var)) es (λ e m. ap not (unwanted es xs h e m))

pub choice_taken : (es gone : List Elim) (xs : List ℕ) (ms : List Bool) → ms ≡ map (λ (e : Elim). is_wanted es xs e.var) es → gone ≡ with_choice true ms es → gone ≡ taken (is_wanted es xs) es
choice_taken es gone xs ms em eg = eg ∙ ap (λ ns. with_choice true ns es) em ∙ with_choice-test (is_wanted es xs) es

pub choice_left : (es rest : List Elim) (xs : List ℕ) (ms : List Bool) → ms ≡ map (λ (e : Elim). is_wanted es xs e.var) es → rest ≡ with_choice false ms es → rest ≡ left_in (is_wanted es xs) es
choice_left es rest xs ms em er = er ∙ ap (λ ns. with_choice false ns es) em ∙ without_choice-test (is_wanted es xs) es

pub length-choice : (es : List Elim) (p : Elim → Bool) (ms : List Bool) → ms ≡ map p es → length ms ≡ length es
length-choice es p ms e = ap length e ∙ mapped es
  where
    mapped : (ds : List Elim) → length (map p ds) ≡ length ds
    mapped [] = refl
    mapped (d ∷ ds) = ap suc (mapped ds)

-- a list that was written over in place
pub written : (xs ys : List ℕ) (n : ℕ) → n ≡ length xs → length ys ≡ length xs → take n (ys ++ drop (length ys) xs) ≡ ys
written xs ys n en long =
    let rest : drop (length ys) xs ≡ [] = drop_all (length ys) xs (omega arith) in
    rw rest (ap (take n) (right_nil ys) ∙ take_all n ys (omega arith))
  where
    right_nil : (xs : List ℕ) → xs ++ [] ≡ xs
    right_nil [] = refl
    right_nil (x ∷ xs) = ap (λ ys. x ∷ ys) (right_nil xs)
