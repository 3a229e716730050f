-- What is left of a clause as its literals are met one after another, and which literals are true.
use Rattle.std.proofs.Common.{◌≡◌, ◌≢◌, ℕ, suc, zero, ◌+◌, ◌*◌, ◌<◌, ◌≤◌, ◌⊎◌, List, [], ◌∷◌, ◌++◌, length, take, drop, filter, get_or, Option, Some, None, refl, sym, ap, ◌∙◌, subst, inl, inr, arith, true, false, Bool, not, nat_eq, ◌||◌, ◌&&◌, Contains, eqb-true, eq-eqb, cond}
use Rattle.std.proofs.Math.ListN.{set}
use Rattle.std.specs.Prelude.{option_map}
use Rattle.std.specs.List.{list_any, list_all}
use Rattle.std.proofs.lemmas.List.{get_or-set_same, get_or-set_other, length-set}
use Rattle.std.proofs.lemmas.Option.{none-some}
use Rattle.std.proofs.lemmas.Bool.{cases_Bool, both_ways}
use Rattle.std.proofs.lemmas.Bool.Decides.{nat_tests}
use Rattle.std.specs.FinMap.{get}
use Rattle.lits.specs.Literal.{var, neg}
use Rattle.lits.specs.Clause.{has}
use Rattle.lits.proofs.Ascending.{has-set_of}
use Rattle.lits.proofs.Members.{here, there, not_in_nil, here_or_there, all_at, all_from, has_at, has_from, filter_at, filter_from}
use Rattle.session_rules.specs.declared.Left.{Left}
use Rattle.session_rules.specs.declared.Left.TheVariants.{Falsified, UnitLiteral, Open}
use Rattle.session_rules.specs.Logic.{left, left_of, is_tautology, hints_fail, hints_fail_from, after_hint}
use Rattle.clause_store.specs.Clauses.{Store, ClauseEntry, Place, slot_at, lits_at, IsStore}
use Rattle.clause_store.proofs.Lists.{has-push}
use Rattle.hint_check.specs.Hints.{active_at}
use Rattle.hint_check.specs.Runs.{AreTrueIn, NoneLater}

-- ---- The table

cases : (q i : ℕ) → (q ≡ i) ⊎ (q ≢ i)
cases q i = grind arith

pub true-put : (ms : List ℕ) (run_number c : ℕ) (ts us : List ℕ) → c < length ms → AreTrueIn ms run_number ts → ((q : ℕ) → has us q ≡ (has ts q || nat_eq q c)) → AreTrueIn (set ms c run_number) run_number us
true-put ms run_number c ts us lt h more l inside = elim (cases l c) [
  | inl e ↦
      let put : get_or (set ms c run_number) c 0 ≡ run_number = get_or-set_same ms c run_number 0 lt in
      subst (λ z. nat_eq (get_or (set ms c run_number) z 0) run_number ≡ has us z) (sym e) (eq-eqb _ _ put ∙ sym (more c ∙ or_true (has ts c) (nat_eq c c) (eq-eqb c c refl)))
  | inr n ↦
      let kept : get_or (set ms c run_number) l 0 ≡ get_or ms l 0 = get_or-set_other ms c l run_number 0 n in
      ap (λ z. nat_eq z run_number) kept ∙ h l (subst (λ z. l < z) (length-set ms c run_number) inside) ∙ sym (more l ∙ or_false (has ts l) (nat_eq l c) (differs l c n))
]
  where
    or_true : (a b : Bool) → b ≡ true → (a || b) ≡ true
    or_true true b e = refl
    or_true false b e = e

    or_false : (a b : Bool) → b ≡ false → (a || b) ≡ a
    or_false true b e = refl
    or_false false b e = e

    differs : (l c : ℕ) → l ≢ c → nat_eq l c ≡ false
    differs l c n = grind (arith, nat_tests)

pub has-cons : (c : ℕ) (ts : List ℕ) (q : ℕ) → has (c ∷ ts) q ≡ (has ts q || nat_eq q c)
has-cons c ts q = flip (nat_eq q c) (has ts q)
  where
    flip : (a b : Bool) → (a || b) ≡ (b || a)
    flip true true = refl
    flip true false = refl
    flip false true = refl
    flip false false = refl

take-next : (xs : List ℕ) (i : ℕ) → i < length xs → take (suc i) xs ≡ take i xs ++ get_or xs i 0 ∷ []
take-next [] i lt = absurd (omega arith)
take-next (x ∷ xs) zero lt = refl
take-next (x ∷ xs) (suc i) lt = ap (λ z. x ∷ z) (take-next xs i (omega arith))

pub has-take : (xs : List ℕ) (i : ℕ) → i < length xs → (q : ℕ) → has (take (suc i) xs) q ≡ (has (take i xs) q || nat_eq q (get_or xs i 0))
has-take xs i lt q = ap (λ z. has z q) (take-next xs i lt) ∙ has-push (take i xs) (get_or xs i 0) q

-- ---- What is left, as literals are met

abbrev live : List ℕ → ℕ → Bool
live trues m = not (has trues (neg m))

-- what is left with one more literal that isn't false
abbrev with_one : Left → ℕ → Left
with_one Falsified l = UnitLiteral l
with_one (UnitLiteral m) l = cond (nat_eq m l) (UnitLiteral m) Open
with_one Open l = Open

filter-push : (p : ℕ → Bool) (xs : List ℕ) (y : ℕ) → filter p (xs ++ y ∷ []) ≡ cond (p y) (filter p xs ++ y ∷ []) (filter p xs)
filter-push p [] y = elim (cases_Bool (p y)) [ inl e ↦ rw e refl | inr e ↦ rw e refl ]
filter-push p (x ∷ xs) y = elim (cases_Bool (p x)) [
  | inl e ↦ rw e (ap (λ z. x ∷ z) (filter-push p xs y) ∙ inside (p y))
  | inr e ↦ rw e (filter-push p xs y)
]
  where
    inside : (b : Bool) → x ∷ cond b (filter p xs ++ y ∷ []) (filter p xs) ≡ cond b ((x ∷ filter p xs) ++ y ∷ []) (x ∷ filter p xs)
    inside true = refl
    inside false = refl

all-push : (m : ℕ) (ls : List ℕ) (y : ℕ) → list_all (nat_eq m) (ls ++ y ∷ []) ≡ (list_all (nat_eq m) ls && nat_eq m y)
all-push m [] y = ends (nat_eq m y)
  where
    ends : (b : Bool) → (b && true) ≡ b
    ends true = refl
    ends false = refl
all-push m (l ∷ ls) y = elim (cases_Bool (nat_eq m l)) [
  | inl e ↦ rw e (all-push m ls y)
  | inr e ↦ rw e refl
]

left_of-push : (ls : List ℕ) (y : ℕ) → left_of (ls ++ y ∷ []) ≡ with_one (left_of ls) y
left_of-push [] y = refl
left_of-push (l ∷ ls) y = ap (λ b. cond b (UnitLiteral l) Open) (all-push l ls y) ∙ by_case (list_all (nat_eq l) ls)
  where
    by_case : (b : Bool) → cond (b && nat_eq l y) (UnitLiteral l) Open ≡ with_one (cond b (UnitLiteral l) Open) y
    by_case true = refl
    by_case false = refl

left-take : (trues xs : List ℕ) (i : ℕ) → i < length xs → left trues (take (suc i) xs) ≡ cond (live trues (get_or xs i 0)) (with_one (left trues (take i xs)) (get_or xs i 0)) (left trues (take i xs))
left-take trues xs i lt = ap (left trues) (take-next xs i lt) ∙ ap left_of (filter-push (live trues) (take i xs) (get_or xs i 0)) ∙ by_case (live trues (get_or xs i 0))
  where
    by_case : (b : Bool) → left_of (cond b (filter (live trues) (take i xs) ++ get_or xs i 0 ∷ []) (filter (live trues) (take i xs))) ≡ cond b (with_one (left trues (take i xs)) (get_or xs i 0)) (left trues (take i xs))
    by_case true = left_of-push (filter (live trues) (take i xs)) (get_or xs i 0)
    by_case false = refl

pub left-false : (trues xs : List ℕ) (i : ℕ) → i < length xs → has trues (neg (get_or xs i 0)) ≡ true → left trues (take (suc i) xs) ≡ left trues (take i xs)
left-false trues xs i lt h = left-take trues xs i lt ∙ ap (λ b. cond (not b) (with_one (left trues (take i xs)) (get_or xs i 0)) (left trues (take i xs))) h

pub left-first : (trues xs : List ℕ) (i : ℕ) → i < length xs → has trues (neg (get_or xs i 0)) ≡ false → Falsified ≡ left trues (take i xs) → UnitLiteral (get_or xs i 0) ≡ left trues (take (suc i) xs)
left-first trues xs i lt h e = sym (left-take trues xs i lt ∙ ap (λ b. cond (not b) (with_one (left trues (take i xs)) (get_or xs i 0)) (left trues (take i xs))) h ∙ ap (λ z. with_one z (get_or xs i 0)) (sym e))

pub left-again : (trues xs : List ℕ) (i m : ℕ) → i < length xs → has trues (neg (get_or xs i 0)) ≡ false → UnitLiteral m ≡ left trues (take i xs) → m ≡ get_or xs i 0 → UnitLiteral m ≡ left trues (take (suc i) xs)
left-again trues xs i m lt h e same = sym (left-take trues xs i lt ∙ ap (λ b. cond (not b) (with_one (left trues (take i xs)) (get_or xs i 0)) (left trues (take i xs))) h ∙ ap (λ z. with_one z (get_or xs i 0)) (sym e) ∙ ap (λ b. cond b (UnitLiteral m) Open) (eq-eqb m (get_or xs i 0) same))

left-two : (trues xs : List ℕ) (i m : ℕ) → i < length xs → has trues (neg (get_or xs i 0)) ≡ false → UnitLiteral m ≡ left trues (take i xs) → m ≢ get_or xs i 0 → Open ≡ left trues (take (suc i) xs)
left-two trues xs i m lt h e other = sym (left-take trues xs i lt ∙ ap (λ b. cond (not b) (with_one (left trues (take i xs)) (get_or xs i 0)) (left trues (take i xs))) h ∙ ap (λ z. with_one z (get_or xs i 0)) (sym e) ∙ ap (λ b. cond b (UnitLiteral m) Open) (differs m (get_or xs i 0) other))
  where
    differs : (l c : ℕ) → l ≢ c → nat_eq l c ≡ false
    differs l c n = grind (arith, nat_tests)

left-step_open : (trues xs : List ℕ) (i : ℕ) → i < length xs → Open ≡ left trues (take i xs) → Open ≡ left trues (take (suc i) xs)
left-step_open trues xs i lt e = sym (left-take trues xs i lt ∙ by_case (live trues (get_or xs i 0)))
  where
    by_case : (b : Bool) → cond b (with_one (left trues (take i xs)) (get_or xs i 0)) (left trues (take i xs)) ≡ Open
    by_case true = ap (λ z. with_one z (get_or xs i 0)) (sym e)
    by_case false = sym e

take-all : (xs : List ℕ) (i : ℕ) → length xs ≤ i → take i xs ≡ xs
take-all [] zero h = refl
take-all [] (suc i) h = refl
take-all (x ∷ xs) zero h = absurd (omega arith)
take-all (x ∷ xs) (suc i) h = ap (λ z. x ∷ z) (take-all xs i (omega arith))

stays_open : (trues xs : List ℕ) (i n : ℕ) → length xs ≤ i + n → Open ≡ left trues (take i xs) → Open ≡ left trues xs
stays_open trues xs i zero h e = e ∙ ap (left trues) (take-all xs i (omega arith))
stays_open trues xs i (suc n) h e = elim (split i (length xs)) [
  | inl lt ↦ stays_open trues xs (suc i) n (omega arith) (left-step_open trues xs i lt e)
  | inr ge ↦ e ∙ ap (left trues) (take-all xs i ge)
]
  where
    split : (i n : ℕ) → (i < n) ⊎ (n ≤ i)
    split i n = grind arith

pub left-more : (trues xs : List ℕ) (i m : ℕ) → i < length xs → has trues (neg (get_or xs i 0)) ≡ false → UnitLiteral m ≡ left trues (take i xs) → m ≢ get_or xs i 0 → Open ≡ left trues xs
left-more trues xs i m lt h e other = stays_open trues xs (suc i) (length xs) (omega arith) (left-two trues xs i m lt h e other)

pub left-end : (trues xs : List ℕ) (i : ℕ) (z : Left) → length xs ≤ i → z ≡ left trues (take i xs) → z ≡ left trues xs
left-end trues xs i z h e = e ∙ ap (left trues) (take-all xs i h)

-- ---- The set decides what is left

left_of-same : (ls ms : List ℕ) → ((q : ℕ) → Contains ls q → Contains ms q) → ((q : ℕ) → Contains ms q → Contains ls q) → left_of ls ≡ left_of ms
left_of-same [] [] f g = refl
left_of-same [] (m ∷ ms) f g = absurd (not_in_nil m (g m (here m ms)))
left_of-same (l ∷ ls) [] f g = absurd (not_in_nil l (f l (here l ls)))
left_of-same (l ∷ ls) (m ∷ ms) f g = elim (cases_Bool (list_all (nat_eq l) ls)) [
  | inl y ↦
      let one = only l ls y in
      let same : l ≡ m = sym (one m (g m (here m ms))) in
      let all : list_all (nat_eq m) ms ≡ true = all_from (nat_eq m) ms (λ q c. eq-eqb m q (sym (one q (g q (there m q ms c)) ∙ same))) in
      rw (y, all) (ap UnitLiteral same)
  | inr n ↦ elim (cases_Bool (list_all (nat_eq m) ms)) [
    | inl y ↦
        let one = only m ms y in
        absurd (both_ways _ n (all_from (nat_eq l) ls (λ q c. eq-eqb l q (one l (f l (here l ls)) ∙ sym (one q (f q (there l q ls c)))))))
    | inr o ↦ rw (n, o) refl
  ]
]
  where
    only : (l : ℕ) (ls : List ℕ) → list_all (nat_eq l) ls ≡ true → (q : ℕ) → Contains (l ∷ ls) q → q ≡ l
    only l ls y q c = elim (here_or_there l q ls c) [ inl e ↦ sym e | inr r ↦ sym (eqb-true l q (all_at (nat_eq l) ls q y r)) ]

pub left-same : (trues ls ms : List ℕ) → ((q : ℕ) → has ls q ≡ has ms q) → left trues ls ≡ left trues ms
left-same trues ls ms h = left_of-same _ _
    (λ q c. let r = filter_at (live trues) ls q c in filter_from (live trues) ms q (has_at ms q (sym (h q) ∙ has_from ls q r.0)) r.1)
    (λ q c. let r = filter_at (live trues) ms q c in filter_from (live trues) ls q (has_at ls q (h q ∙ has_from ms q r.0)) r.1)

-- ---- The active clause of an id

pub record Active (m : Store) (id : ℕ) (ls : List ℕ) : Type 0 where
  pub lits : List ℕ
  pub here : active_at m id ≡ Some lits
  pub same : (q : ℕ) → has ls q ≡ has lits q
  pub held : ClauseEntry
  pub got : get m id ≡ Some held
  pub of_held : held.literals ≡ lits

pub active_slot : (m : Store) (id s : ℕ) (ls : List ℕ) → IsStore m → slot_at m id ≡ Some s → lits_at m id ≡ ls → Active m id ls
active_slot m id s ls k e list = by_value (get m id) refl
  where
    by_place : (h : ClauseEntry) → get m id ≡ Some h → (o : Option Place) → h.place ≡ o → Active m id ls
    by_place h g None p = let f : slot_at m id ≡ None = rw (g, p) refl in absurd (none-some s (sym f ∙ e))
    by_place h g (Some z) p =
        let lits : lits_at m id ≡ z.lits = rw (g, p) refl in
        record {
          lits = h.literals;
          here = rw (g, p) refl;
          same = λ q. ap (λ w. has w q) (sym list ∙ lits) ∙ sym (has-set_of z.lits q) ∙ ap (λ w. has w q) (k.same_literals id h z g p).0;
          held = h;
          got = g;
          of_held = refl;
        }

    by_value : (o : Option ClauseEntry) → get m id ≡ o → Active m id ls
    by_value None g = let f : slot_at m id ≡ None = rw g refl in absurd (none-some s (sym f ∙ e))
    by_value (Some h) g = by_place h g h.place refl

pub not_active : (m : Store) (id : ℕ) → slot_at m id ≡ None → active_at m id ≡ None
not_active m id e = by_value (get m id) refl
  where
    by_place : (h : ClauseEntry) → get m id ≡ Some h → (o : Option Place) → h.place ≡ o → active_at m id ≡ None
    by_place h g None p = rw (g, p) refl
    by_place h g (Some z) p = let f : slot_at m id ≡ Some z.slot = rw (g, p) refl in absurd (none-some z.slot (sym e ∙ f))

    by_value : (o : Option ClauseEntry) → get m id ≡ o → active_at m id ≡ None
    by_value None g = rw g refl
    by_value (Some h) g = by_place h g h.place refl

-- ---- One hint

pub hint_step : (active : ℕ → Option (List ℕ)) (place : ℕ) (trues hs : List ℕ) (i : ℕ) → i < length hs
    → hints_fail_from active place trues (drop i hs) ≡ after_hint place (option_map (left trues) (active (get_or hs i 0))) (λ l. hints_fail_from active (place + 1) (l ∷ trues) (drop (suc i) hs))
unfolding hints_fail_from
hint_step active place trues [] i lt = absurd (omega arith)
hint_step active place trues (h ∷ hs) zero lt = refl
hint_step active place trues (h ∷ hs) (suc i) lt = hint_step active place trues hs i (omega arith)

pub hint_end : (active : ℕ → Option (List ℕ)) (place : ℕ) (trues hs : List ℕ) (i : ℕ) → length hs ≤ i → hints_fail_from active place trues (drop i hs) ≡ Some place
unfolding hints_fail_from
hint_end active place trues [] zero h = refl
hint_end active place trues [] (suc i) h = refl
hint_end active place trues (x ∷ hs) zero h = absurd (omega arith)
hint_end active place trues (x ∷ hs) (suc i) h = hint_end active place trues hs i (omega arith)

pub any_none : (p : ℕ → Bool) (xs : List ℕ) → ((k : ℕ) → k < length xs → p (get_or xs k 0) ≡ false) → list_any p xs ≡ false
any_none p [] h = refl
any_none p (x ∷ xs) h = rw (h zero (omega arith)) (any_none p xs (λ k lt. h (suc k) (omega arith)))

module _ (active : ℕ → Option (List ℕ)) (place : ℕ) (trues hs : List ℕ) (i : ℕ) (lt : i < length hs) where
  pub hint_none : active (get_or hs i 0) ≡ None → hints_fail_from active place trues (drop i hs) ≡ Some place
  hint_none e = hint_step active place trues hs i lt ∙ ap (λ o. after_hint place (option_map (left trues) o) (λ l. hints_fail_from active (place + 1) (l ∷ trues) (drop (suc i) hs))) e

  pub hint_left : (c : List ℕ) (z : Left) → active (get_or hs i 0) ≡ Some c → z ≡ left trues c → hints_fail_from active place trues (drop i hs) ≡ after_hint place (Some z) (λ l. hints_fail_from active (place + 1) (l ∷ trues) (drop (suc i) hs))
  hint_left c z e f = hint_step active place trues hs i lt ∙ ap (λ o. after_hint place (option_map (left trues) o) (λ l. hints_fail_from active (place + 1) (l ∷ trues) (drop (suc i) hs))) e
      ∙ ap (λ y. after_hint place (Some y) (λ l. hints_fail_from active (place + 1) (l ∷ trues) (drop (suc i) hs))) (sym f)

pub none_later-put : (ms : List ℕ) (run_number c : ℕ) → NoneLater ms run_number → NoneLater (set ms c run_number) run_number
none_later-put ms run_number c h k inside = elim (cases k c) [
  | inl e ↦ elim (split c (length ms)) [
    | inl lt ↦ let put : get_or (set ms c run_number) c 0 ≡ run_number = get_or-set_same ms c run_number 0 lt in subst (λ z. get_or (set ms c run_number) z 0 ≤ run_number) (sym e) (omega (arith, put))
    | inr ge ↦ absurd (omega (arith, e, length-set ms c run_number, inside, ge))
  ]
  | inr n ↦ let kept : get_or (set ms c run_number) k 0 ≡ get_or ms k 0 = get_or-set_other ms c k run_number 0 n in omega (arith, kept, h k (subst (λ z. k < z) (length-set ms c run_number) inside))
]
  where
    split : (i n : ℕ) → (i < n) ⊎ (n ≤ i)
    split i n = grind arith

pub inside_var : (l n m : ℕ) → var l ≤ n → m ≡ 2 * n → (l < m) × (neg l < m)
inside_var l n m h e = (omega arith, omega arith)

abbrev pub has_or : List ℕ → ℕ → ℕ → Bool
has_or ts q c = has ts q || nat_eq q c

pub different : (b : Bool) → not b ≡ true → b ≡ true → ⊥
different true e f = both_ways false refl e
different false e f = both_ways false refl f

pub same_test : (a b : ℕ) → a ≡ b → nat_eq a b ≡ true
same_test a b e = eq-eqb a b e

pub hints_closed : (active : ℕ → Option (List ℕ)) (ls hs : List ℕ) → is_tautology ls ≡ true → hints_fail active ls hs ≡ None
unfolding hints_fail
hints_closed active ls hs h = rw h refl

pub hints_go : (active : ℕ → Option (List ℕ)) (ls hs : List ℕ) → is_tautology ls ≡ false → hints_fail active ls hs ≡ hints_fail_from active 1 ls hs
unfolding hints_fail
hints_go active ls hs h = rw h refl
