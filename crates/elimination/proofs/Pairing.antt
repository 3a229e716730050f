-- The resolvents of clauses that hold a variable with clauses that hold its negation, counted pair by pair.
use Rattle.std.proofs.Common.{◌≡◌, ◌≢◌, ℕ, suc, ◌+◌, ◌<◌, ◌≤◌, Bool, true, false, not, ◌&&◌, List, [], ◌∷◌, ◌++◌, length, length-append, filter, flat_map, drop, get_or, Contains, refl, sym, ap, ◌∙◌, subst, inl, inr, arith, eqb-true}
use Rattle.std.proofs.lemmas.Bool.{cases_Bool, both_ways, and_parts, and_from, not-true, false_from_ne_true, le-leb, lt-leb}
use Rattle.std.proofs.lemmas.List.{drop_more, drop_all}
use Rattle.std.proofs.lemmas.List.Sums.{sum_by-cons}
use Rattle.std.proofs.lemmas.List.Concat.{length-flat_map}
use Rattle.std.proofs.lemmas.List.Elements.{filter-append}
use Rattle.lits.specs.Literal.{var, positive, neg}
use Rattle.std.specs.List.{list_any}
use Rattle.lits.specs.Clause.{has, is_tautology}
use Rattle.lits.proofs.Literal.{same_var}
use Rattle.lits.proofs.Members.{here, there, any_at, any_from, has_from}
use Rattle.clause_store.specs.Clauses.{Store, lits_at}
use Rattle.restore.specs.Resolution.{is_plain, is_negated, of_variable, has_variable, holds, holds_negated, resolvents_with, resolvents}
use Rattle.restore.proofs.Joined.{append_at, map_at}
use Rattle.elimination_laws.specs.Eligible.{how_many, most_holding, has_few_resolvents, eligible, OftenAs}
use Rattle.elimination_laws.proofs.Deciding.{eligible-local}
use Rattle.elimination.specs.Pairs.{clauses_at, found_with, found_pairs, may_go, AreUsable, AreClean}

-- ---- Filters

module _ {X : Type 0} where
  filter-all : (p : X → Bool) (xs : List X) → ((x : X) → Contains xs x → p x ≡ true) → filter p xs ≡ xs
  filter-all p [] h = refl
  filter-all p (x ∷ xs) h = let e = h x (here x xs) in rw e (ap (λ z. x ∷ z) (filter-all p xs (λ y m. h y (there x y xs m))))

  filter-none : (p : X → Bool) (xs : List X) → ((x : X) → Contains xs x → p x ≡ false) → filter p xs ≡ []
  filter-none p [] h = refl
  filter-none p (x ∷ xs) h = let e = h x (here x xs) in rw e (filter-none p xs (λ y m. h y (there x y xs m)))

  append-nil : (xs : List X) → xs ++ [] ≡ xs
  append-nil [] = refl
  append-nil (x ∷ xs) = ap (λ z. x ∷ z) (append-nil xs)

-- ---- A clause holds a variable in one sign

apart : (l m : ℕ) → positive l ≡ true → positive m ≡ false → l ≢ m
apart l m p q e = both_ways _ q (subst (λ z. positive z ≡ true) e p)

both_signs : (x : ℕ) (c : List ℕ) → holds x c ≡ true → holds_negated x c ≡ true → is_tautology c ≡ true
both_signs x c h k =
    let a = any_at (is_plain x) c h in let b = any_at (is_negated x) c k in
    let p = and_parts _ _ a.2 in let q = and_parts _ _ b.2 in
    let vars : var a.0 ≡ var b.0 = eqb-true (var a.0) x p.0 ∙ sym (eqb-true (var b.0) x q.0) in
    let e : a.0 ≡ neg b.0 = same_var a.0 b.0 vars (apart a.0 b.0 p.1 (not-true _ q.1)) in
    any_from (λ z. has c (neg z)) c b.0 b.1 (subst (λ z. has c z ≡ true) e (has_from c a.0 a.1))

one_sign : (x : ℕ) (c : List ℕ) → is_tautology c ≡ false → holds x c ≡ true → holds_negated x c ≡ false
one_sign x c t h = false_from_ne_true _ (λ k. both_ways _ t (both_signs x c h k))

other_sign : (x : ℕ) (c : List ℕ) → is_tautology c ≡ false → holds_negated x c ≡ true → holds x c ≡ false
other_sign x c t k = false_from_ne_true _ (λ h. both_ways _ t (both_signs x c h k))

has-plain : (x : ℕ) (c : List ℕ) → holds x c ≡ true → has_variable x c ≡ true
has-plain x c h = let a = any_at (is_plain x) c h in any_from (of_variable x) c a.0 a.1 (and_parts _ _ a.2).0

has-negated : (x : ℕ) (c : List ℕ) → holds_negated x c ≡ true → has_variable x c ≡ true
has-negated x c h = let a = any_at (is_negated x) c h in any_from (of_variable x) c a.0 a.1 (and_parts _ _ a.2).0

-- ---- The clauses with a variable and those with its negation

module _ (x : ℕ) (ps ns : List (List ℕ)) (with_it : (c : List ℕ) → Contains ps c → (holds x c ≡ true) × (is_tautology c ≡ false)) (against_it : (c : List ℕ) → Contains ns c → (holds_negated x c ≡ true) × (is_tautology c ≡ false)) where
  positive_ones : filter (holds x) (ps ++ ns) ≡ ps
  positive_ones = filter-append (holds x) ps ns ∙ ap (λ z. z ++ filter (holds x) ns) (filter-all (holds x) ps (λ c m. (with_it c m).0))
      ∙ ap (λ z. ps ++ z) (filter-none (holds x) ns (λ c m. let h = against_it c m in other_sign x c h.1 h.0)) ∙ append-nil ps

  negative_ones : filter (holds_negated x) (ps ++ ns) ≡ ns
  negative_ones = filter-append (holds_negated x) ps ns ∙ ap (λ z. z ++ filter (holds_negated x) ns) (filter-none (holds_negated x) ps (λ c m. let h = with_it c m in one_sign x c h.1 h.0))
      ∙ filter-all (holds_negated x) ns (λ c m. (against_it c m).0)

  counted : length (resolvents x (ps ++ ns)) ≡ found_pairs x ps ns
  counted = ap (λ z. length (flat_map (resolvents_with x (ps ++ ns)) z)) positive_ones ∙ length-flat_map (resolvents_with x (ps ++ ns)) ps
      ∙ ap (λ (ds : List (List ℕ)). found_pairs x ps ds) negative_ones

  all_have : how_many (has_variable x) (ps ++ ns) ≡ length ps + length ns
  all_have = ap length (filter-all (has_variable x) (ps ++ ns) (λ c m. elim (append_at ps ns c m) [
    | inl a ↦ has-plain x c (with_it c a).0
    | inr b ↦ has-negated x c (against_it c b).0
  ])) ∙ length-append ps ns

-- ---- Tests

and-first : (a b : Bool) → a ≡ false → (a && b) ≡ false
and-first a b e = rw e refl

and-second : (a b : Bool) → b ≡ false → (a && b) ≡ false
and-second true b e = e
and-second false b e = refl

and-true : (a b : Bool) → a ≡ true → (a && b) ≡ b
and-true a b e = rw e refl

none_any : (p : List ℕ → Bool) (cs : List (List ℕ)) → how_many p cs ≡ 0 → list_any p cs ≡ false
none_any p [] h = refl
none_any p (c ∷ cs) h = elim (cases_Bool (p c)) [
  | inl y ↦ let f : suc (how_many p cs) ≡ 0 = rw y at h in absurd (omega (arith, f))
  | inr n ↦ let f : how_many p cs ≡ 0 = rw n at h in rw n (none_any p cs f)
]

some_any : (p : List ℕ → Bool) (cs : List (List ℕ)) → 0 < how_many p cs → list_any p cs ≡ true
some_any p cs h = elim (cases_Bool (list_any p cs)) [
  | inl y ↦ y
  | inr n ↦ absurd (none p cs n h)
]
  where
    none : (p : List ℕ → Bool) (cs : List (List ℕ)) → list_any p cs ≡ false → 0 < how_many p cs → ⊥
    none p [] n h = omega (arith, h)
    none p (c ∷ cs) n h = elim (cases_Bool (p c)) [
      | inl y ↦ both_ways _ n (rw y refl)
      | inr z ↦ let n2 : list_any p cs ≡ false = rw z at n in let h2 : 0 < how_many p cs = rw z at h in none p cs n2 h2
    ]

-- ---- A variable's own clauses

pub own_clauses : (cs ds : List (List ℕ)) (frozen assigned : List ℕ) (x : ℕ) → ((c : List ℕ) → Contains ds c → has_variable x c ≡ true) → OftenAs (filter (has_variable x) cs) ds
    → eligible cs frozen assigned x ≡ ((not (has_variable x frozen) && not (has_variable x assigned)) && may_go ds x)
unfolding eligible
own_clauses cs ds frozen assigned x h o =
    let e : ds ≡ filter (has_variable x) ds = sym (filter-all (has_variable x) ds h) in
    eligible-local cs ds frozen frozen assigned assigned x (subst (λ z. OftenAs (filter (has_variable x) cs) z) e o) refl refl

-- ---- By ids

length-clauses : (m : Store) (ids : List ℕ) → length (clauses_at m ids) ≡ length ids
length-clauses m [] = refl
length-clauses m (id ∷ ids) = ap suc (length-clauses m ids)

pub are_clean : (m : Store) (vars : ℕ) (ids : List ℕ) → AreUsable m vars ids → AreClean m ids
are_clean m vars ids u = λ id k. (u id k).no_tautology

module _ (m : Store) (x : ℕ) (with_ids against : List ℕ) (clean : AreClean m with_ids) (clean2 : AreClean m against)
    (hold : (id : ℕ) → Contains with_ids id → holds x (lits_at m id) ≡ true) (hold_negation : (id : ℕ) → Contains against id → holds_negated x (lits_at m id) ≡ true) where
  with_it : (c : List ℕ) → Contains (clauses_at m with_ids) c → (holds x c ≡ true) × (is_tautology c ≡ false)
  with_it c k = let r = map_at (lits_at m) with_ids c k in subst (λ z. (holds x z ≡ true) × (is_tautology z ≡ false)) r.2 (hold r.0 r.1, clean r.0 r.1)

  against_it : (c : List ℕ) → Contains (clauses_at m against) c → (holds_negated x c ≡ true) × (is_tautology c ≡ false)
  against_it c k = let r = map_at (lits_at m) against c k in subst (λ z. (holds_negated x z ≡ true) × (is_tautology z ≡ false)) r.2 (hold_negation r.0 r.1, clean2 r.0 r.1)

  most : how_many (has_variable x) (clauses_at m with_ids ++ clauses_at m against) ≡ length with_ids + length against
  most = all_have x (clauses_at m with_ids) (clauses_at m against) with_it against_it ∙ ap (λ z. z + length (clauses_at m against)) (length-clauses m with_ids) ∙ ap (λ z. length with_ids + z) (length-clauses m against)

  found : length (resolvents x (clauses_at m with_ids ++ clauses_at m against)) ≡ found_pairs x (clauses_at m with_ids) (clauses_at m against)
  found = counted x (clauses_at m with_ids) (clauses_at m against) with_it against_it

  pub too_many : length with_ids + length against < found_pairs x (clauses_at m with_ids) (clauses_at m against) → false ≡ has_few_resolvents (clauses_at m with_ids ++ clauses_at m against) x
  too_many h = sym (lt-leb _ _ (omega (arith, h, most, found)))

  pub few_enough : found_pairs x (clauses_at m with_ids) (clauses_at m against) ≤ length with_ids + length against → true ≡ has_few_resolvents (clauses_at m with_ids ++ clauses_at m against) x
  few_enough h = sym (le-leb _ _ (omega (arith, h, most, found)))

  holding : how_many (holds x) (clauses_at m with_ids ++ clauses_at m against) ≡ length with_ids
  holding = ap length (positive_ones x (clauses_at m with_ids) (clauses_at m against) with_it against_it) ∙ length-clauses m with_ids

  holding_negation : how_many (holds_negated x) (clauses_at m with_ids ++ clauses_at m against) ≡ length against
  holding_negation = ap length (negative_ones x (clauses_at m with_ids) (clauses_at m against) with_it against_it) ∙ length-clauses m against

  pub none_goes : length with_ids + length against ≡ 0 → false ≡ may_go (clauses_at m with_ids ++ clauses_at m against) x
  none_goes h = sym (and-first _ _ (none_any (has_variable x) (clauses_at m with_ids ++ clauses_at m against) (most ∙ h)))

  pub many_with : most_holding < length with_ids → false ≡ may_go (clauses_at m with_ids ++ clauses_at m against) x
  many_with h = sym (and-second _ _ (and-first _ _ (and-first _ _ (lt-leb _ _ (subst (λ z. most_holding < z) (sym holding) h)))))

  pub many_against : most_holding < length against → false ≡ may_go (clauses_at m with_ids ++ clauses_at m against) x
  many_against h = sym (and-second _ _ (and-first _ _ (and-second _ _ (lt-leb _ _ (subst (λ z. most_holding < z) (sym holding_negation) h)))))

  pub few_go : (b : Bool) → 0 < length with_ids + length against → length with_ids ≤ most_holding → length against ≤ most_holding
      → b ≡ has_few_resolvents (clauses_at m with_ids ++ clauses_at m against) x → b ≡ may_go (clauses_at m with_ids ++ clauses_at m against) x
  few_go b up p n e = e ∙ sym (and-true _ _ (some_any (has_variable x) (clauses_at m with_ids ++ clauses_at m against) (subst (λ z. 0 < z) (sym most) up))
      ∙ and-true _ _ (and_from _ _ (le-leb _ _ (subst (λ z. z ≤ most_holding) (sym holding) p)) (le-leb _ _ (subst (λ z. z ≤ most_holding) (sym holding_negation) n))))

-- ---- As code counts them

-- of the clauses from a place on, those of the first are counted
pub counted_first : (m : Store) (x : ℕ) (ids against : List ℕ) (k id count held total : ℕ) → k < length ids → id ≡ get_or ids k 0
    → held ≡ found_with x (lits_at m id) (clauses_at m against)
    → count + found_pairs x (clauses_at m (drop k ids)) (clauses_at m against) ≡ total → count + held ≤ total
counted_first m x ids against k id count held total lt is e h =
    let d : drop k ids ≡ id ∷ drop (k + 1) ids = drop_more ids k 0 lt ∙ ap (λ z. z ∷ drop (k + 1) ids) (sym is) in
    let rest = found_pairs x (clauses_at m (drop (k + 1) ids)) (clauses_at m against) in
    let s : found_pairs x (clauses_at m (drop k ids)) (clauses_at m against) ≡ found_with x (lits_at m id) (clauses_at m against) + rest
    = ap (λ z. found_pairs x (clauses_at m z) (clauses_at m against)) d ∙ sum_by-cons (λ c. found_with x c (clauses_at m against)) (lits_at m id) (clauses_at m (drop (k + 1) ids)) in
    omega (arith, h, s, e)

pub counted_all : (m : Store) (x : ℕ) (ids against : List ℕ) (k count total : ℕ) → length ids ≤ k
    → count + found_pairs x (clauses_at m (drop k ids)) (clauses_at m against) ≡ total → count ≡ total
counted_all m x ids against k count total done h =
    let n : found_pairs x (clauses_at m (drop k ids)) (clauses_at m against) ≡ 0 = ap (λ z. found_pairs x (clauses_at m z) (clauses_at m against)) (drop_all k ids done) in
    omega (arith, h, n)
