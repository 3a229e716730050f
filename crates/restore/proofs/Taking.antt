-- The rounds over a stack find the least closed set of its entries.
use Rattle.std.proofs.Common.{◌≡◌, ℕ, zero, suc, ◌<◌, ◌≤◌, ◌⊎◌, Bool, true, false, not, ◌||◌, nat_eq, List, [], ◌∷◌, ◌++◌, length, map, filter, flat_map, Contains, refl, sym, ◌∙◌, subst, inl, inr, arith, eqb-true, eq-eqb}
use Rattle.std.specs.List.{list_any, list_all}
use Rattle.std.proofs.lemmas.Bool.{and_parts, or_cases, or_parts, or_left, or_right, cases_Bool, both_ways, not-true, not_from_true, not_from_false}
use Rattle.lits.specs.Literal.{var}
use Rattle.session_rules.specs.Logic.{has}
use Rattle.lits.proofs.Members.{here, there, not_in_nil, here_or_there, all_at, all_from, any_at, any_from, filter_from, filter_at, has_at, has_from}
use Rattle.restore.specs.Resolution.{of_variable, has_variable, variables, all_variables}
use Rattle.restore.specs.declared.lists.Elim.{Elim}
use Rattle.restore.specs.Stack.{clauses_of, wants, IsClosed, with_entries, with_entries_times, is_wanted, has_entry, left_in}
use Rattle.restore.proofs.Joined.{count-lt, append_at, append_left, append_right, map_at, map_from, flat_at, flat_from}
use Rattle.restore.proofs.Extending.{none_at, none_from, not_all_at}

-- a variable of clauses is one that a clause has_variable
pub all_variables_from : (cs : List (List ℕ)) (c : List ℕ) (x : ℕ) → Contains cs c → has_variable x c ≡ true → Contains (all_variables cs) x
all_variables_from cs c x m h = let l = any_at (of_variable x) c h in
    flat_from variables cs c x m (subst (λ z. Contains (variables c) z) (eqb-true _ _ l.2) (map_from var c l.0 l.1))

pub all_variables_at : (cs : List (List ℕ)) (x : ℕ) → Contains (all_variables cs) x → list_any (has_variable x) cs ≡ true
all_variables_at cs x m = let c = flat_at variables cs x m in let l = map_at var c.0 x c.2 in
    any_from (has_variable x) cs c.0 c.1 (any_from (of_variable x) c.0 l.0 l.1 (eq-eqb _ _ l.2))

-- what is reached stays reached
grows : (ds : List Elim) (xs : List ℕ) (x : ℕ) → has xs x ≡ true → has (with_entries ds xs) x ≡ true
grows [] xs x h = h
grows (d ∷ ds) xs x h = elim (cases_Bool (has xs d.var)) [
  | inl q ↦ rw q (grows ds (all_variables (clauses_of d) ++ xs) x (has_from _ x (append_right (all_variables (clauses_of d)) xs x (has_at xs x h))))
  | inr q ↦ rw q (grows ds xs x h)
]

-- the variables of a reached entry are reached
covers : (ds : List Elim) (xs : List ℕ) (e : Elim) (x : ℕ) → Contains ds e → has xs e.var ≡ true → Contains (all_variables (clauses_of e)) x
    → has (with_entries ds xs) x ≡ true
covers [] xs e x m h n = absurd (not_in_nil e m)
covers (d ∷ ds) xs e x m h n = elim (here_or_there d e ds m) [
  | inl q ↦ let g : has xs d.var ≡ true = subst (λ (z : Elim). has xs z.var ≡ true) (sym q) h in
      let k : Contains (all_variables (clauses_of d)) x = subst (λ (z : Elim). Contains (all_variables (clauses_of z)) x) (sym q) n in
      rw g (grows ds (all_variables (clauses_of d) ++ xs) x (has_from _ x (append_left (all_variables (clauses_of d)) xs x k)))
  | inr i ↦ elim (cases_Bool (has xs d.var)) [
    | inl q ↦ rw q (covers ds (all_variables (clauses_of d) ++ xs) e x i (has_from _ e.var (append_right (all_variables (clauses_of d)) xs e.var (has_at xs e.var h))) n)
    | inr q ↦ rw q (covers ds xs e x i h n)
  ]
]

-- a round stays within each closed set
abbrev WithinSet : List Elim → (ℕ → Bool) → List ℕ → Type 0
WithinSet es s xs = (f : Elim) → Contains es f → has xs f.var ≡ true → s f.var ≡ true

stays : (es : List Elim) (s : ℕ → Bool) → IsClosed es s → (ds : List Elim) → ((e : Elim) → Contains ds e → Contains es e) → (xs : List ℕ)
    → WithinSet es s xs → WithinSet es s (with_entries ds xs)
stays es s z [] a xs w = w
stays es s z (d ∷ ds) a xs w = elim (cases_Bool (has xs d.var)) [
  | inl q ↦ rw q (stays es s z ds (λ e m. a e (there d e ds m)) (all_variables (clauses_of d) ++ xs)
      (λ f m h. elim (append_at (all_variables (clauses_of d)) xs f.var (has_at _ _ h)) [
        | inl n ↦ z d f (a d (here d ds)) m (w d (a d (here d ds)) q) (all_variables_at (clauses_of d) f.var n)
        | inr n ↦ w f m (has_from xs f.var n)
      ]))
  | inr q ↦ rw q (stays es s z ds (λ e m. a e (there d e ds m)) xs w)
]

stays_times : (n : ℕ) (es : List Elim) (s : ℕ → Bool) → IsClosed es s → (xs : List ℕ) → WithinSet es s xs → WithinSet es s (with_entries_times n es xs)
unfolding with_entries_times
stays_times zero es s z xs w = w
stays_times (suc n) es s z xs w = stays_times n es s z (with_entries es xs) (stays es s z es (λ e m. m) xs w)

-- the set that was asked for is within the least
pub is_wanted-least : (es : List Elim) (xs : List ℕ) (s : ℕ → Bool) → IsClosed es s → ((f : Elim) → Contains es f → has xs f.var ≡ true → s f.var ≡ true)
    → (f : Elim) → Contains es f → is_wanted es xs f.var ≡ true → s f.var ≡ true
unfolding is_wanted
is_wanted-least es xs s z w f m h = stays_times (length es) es s z xs w f m h

grows_times : (n : ℕ) (es : List Elim) (xs : List ℕ) (x : ℕ) → has xs x ≡ true → has (with_entries_times n es xs) x ≡ true
unfolding with_entries_times
grows_times zero es xs x h = h
grows_times (suc n) es xs x h = grows_times n es (with_entries es xs) x (grows es xs x h)

pub is_wanted-asked : (es : List Elim) (xs : List ℕ) (x : ℕ) → has xs x ≡ true → is_wanted es xs x ≡ true
unfolding is_wanted
is_wanted-asked es xs x h = grows_times (length es) es xs x h

-- a round keeps a closed set closed
closed-round : (es : List Elim) (xs : List ℕ) → IsClosed es (has xs) → IsClosed es (has (with_entries es xs))
closed-round es xs z = λ e f m n h k. let g = stays es (has xs) z es (λ e m. m) xs (λ f m h. h) e m h in grows es xs f.var (z e f m n g k)

closed-times : (n : ℕ) (es : List Elim) (xs : List ℕ) → IsClosed es (has xs) → IsClosed es (has (with_entries_times n es xs))
unfolding with_entries_times
closed-times zero es xs z = z
closed-times (suc n) es xs z = closed-times n es (with_entries es xs) (closed-round es xs z)

-- how many entries aren't reached
abbrev unreached : List Elim → List ℕ → ℕ
unreached es xs = length (filter (λ (e : Elim). not (has xs e.var)) es)

-- whether a round reaches no further entry
abbrev reaches_none : List Elim → List ℕ → Bool
reaches_none es xs = list_all (λ (e : Elim). not (has (with_entries es xs) e.var) || has xs e.var) es

wants_variables : (e f : Elim) → wants e f ≡ true → Contains (all_variables (clauses_of e)) f.var
wants_variables e f h = let c = any_at (has_variable f.var) (clauses_of e) h in all_variables_from (clauses_of e) c.0 f.var c.1 c.2

closed-found : (es : List Elim) (xs : List ℕ) → reaches_none es xs ≡ true → IsClosed es (has (with_entries es xs))
closed-found es xs r = λ e f m n h k.
    elim (or_cases _ _ (all_at (λ (e : Elim). not (has (with_entries es xs) e.var) || has xs e.var) es e r m)) [
      | inl q ↦ absurd (both_ways _ (not-true _ q) h)
      | inr q ↦ covers es xs e f.var m q (wants_variables e f k)
    ]

fewer : (es : List Elim) (xs : List ℕ) → reaches_none es xs ≡ false → unreached es (with_entries es xs) < unreached es xs
fewer es xs r = let e = not_all_at (λ (e : Elim). not (has (with_entries es xs) e.var) || has xs e.var) es r in
    let o = or_parts _ _ e.2 in
    count-lt (λ (e : Elim). not (has xs e.var)) (λ (e : Elim). not (has (with_entries es xs) e.var)) es e.0
    (λ d h. elim (cases_Bool (has xs d.var)) [
      | inl q ↦ absurd (both_ways _ (not-true _ h) (grows es xs d.var q))
      | inr q ↦ not_from_false _ q
    ])
    e.1 (not_from_false _ o.1) o.0

closed-after : (n : ℕ) (es : List Elim) (xs : List ℕ) → unreached es xs ≤ n → IsClosed es (has (with_entries_times n es xs))
unfolding with_entries_times
closed-after zero es xs h = λ e f m n g k. elim (cases_Bool (has xs f.var)) [
  | inl q ↦ q
  | inr q ↦ let r = filter_from (λ (e : Elim). not (has xs e.var)) es f n (not_from_false _ q) in let lt = r.1 in absurd (omega arith)
]
closed-after (suc n) es xs h = elim (cases_Bool (reaches_none es xs)) [
  | inl q ↦ closed-times n es (with_entries es xs) (closed-found es xs q)
  | inr q ↦ let lt = fewer es xs q in closed-after n es (with_entries es xs) (omega arith)
]

filter-le : (p : Elim → Bool) (es : List Elim) → length (filter p es) ≤ length es
filter-le p [] = omega arith
filter-le p (e ∷ es) = let r = filter-le p es in elim (cases_Bool (p e)) [ inl q ↦ rw q (omega arith) | inr q ↦ rw q (omega arith) ]

pub is_wanted-closed : (es : List Elim) (xs : List ℕ) → IsClosed es (is_wanted es xs)
unfolding is_wanted
is_wanted-closed es xs = closed-after (length es) es xs (filter-le _ es)

-- no variable that was asked for has an entry left
pub none_left : (es : List Elim) (xs : List ℕ) (x : ℕ) → has xs x ≡ true → has_entry (left_in (is_wanted es xs) es) x ≡ false
none_left es xs x h = none_from (λ (e : Elim). nat_eq e.var x) (left_in (is_wanted es xs) es) (λ e m.
    let r = filter_at (λ (e : Elim). not (is_wanted es xs e.var)) es e m in elim (cases_Bool (nat_eq e.var x)) [
      | inl q ↦ let f : e.var ≡ x = eqb-true _ _ q in
          absurd (both_ways _ (not-true _ r.1) (is_wanted-asked es xs e.var (subst (λ z. has xs z ≡ true) (sym f) h)))
      | inr q ↦ q
    ])
