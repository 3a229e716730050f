-- The lists of a variable's two literals have just the irredundant clauses with it, each as often, so they decide its eligibility.
use Rattle.std.proofs.Common.{◌≡◌, ℕ, suc, ◌+◌, ◌-◌, ◌*◌, ◌/◌, ◌%◌, ◌<◌, Bool, true, false, not, ◌&&◌, ◌||◌, nat_eq, List, [], ◌∷◌, ◌++◌, length, length-append, filter, Contains, refl, sym, ap, ◌∙◌, subst, inl, inr, arith, eqb-true, eq-eqb}
use Rattle.std.specs.List.{list_any}
use Rattle.std.proofs.lemmas.Bool.{cases_Bool, both_ways, and_parts, and_from, or_cases, or_left, or_right, false_from_ne_true, ne_eqb}
use Rattle.std.proofs.lemmas.List.Elements.{filter-append}
use Rattle.lits.specs.Literal.{var, neg, of_var}
use Rattle.lits.specs.Clause.{has, same_set, is_tautology}
use Rattle.lits.proofs.Members.{here, there, any_from, has_at, has_from}
use Rattle.clause_store.specs.Clauses.{Store, lits_at}
use Rattle.resolvents.proofs.Clashing.{same_tests}
use Rattle.restore.specs.Resolution.{of_variable, has_variable, is_plain, is_negated, holds, holds_negated}
use Rattle.restore.proofs.Joined.{append_at, map_at, map_from}
use Rattle.elimination_laws.specs.Eligible.{how_many, eligible, OftenAs}
use Rattle.occurrence_lists.specs.Occurring.{row, StandsFor, Numbered, ids_with}
use Rattle.occurrence_lists.proofs.Counting.{counts_from_times}
use Rattle.occurrence_lists.proofs.Standing.{held_is_listed, listed_is_held, contained}
use Rattle.elimination.specs.Pairs.{clauses_at, may_go, AreClean}
use Rattle.elimination.specs.Known.{numbered}
use Rattle.elimination.proofs.Pairing.{own_clauses}

-- ---- A variable and its two literals

two_literals : (x l : ℕ) → 0 < x → of_variable x l ≡ (nat_eq (of_var x) l || nat_eq (neg (of_var x)) l)
two_literals x l z = same_tests _ _
    (λ h. let e : l / 2 + 1 ≡ x = eqb-true (var l) x h in elim (cases_Bool (nat_eq (of_var x) l)) [
      | inl y ↦ or_left _ _ y
      | inr n ↦ or_right _ _ (eq-eqb (neg (of_var x)) l (other l e (λ s. both_ways _ n (eq-eqb (of_var x) l s))))
    ])
    (λ h. elim (or_cases _ _ h) [
      | inl y ↦ let e : 2 * (x - 1) ≡ l = eqb-true (of_var x) l y in eq-eqb (var l) x (omega arith)
      | inr y ↦ let e = eqb-true (neg (of_var x)) l y in eq-eqb (var l) x (omega arith)
    ])
  where
    other : (l : ℕ) → l / 2 + 1 ≡ x → (2 * (x - 1) ≡ l → ⊥) → neg (of_var x) ≡ l
    other l e n = omega arith

any-or : (p q r : ℕ → Bool) (c : List ℕ) → ((l : ℕ) → p l ≡ (q l || r l)) → list_any p c ≡ (list_any q c || list_any r c)
any-or p q r [] h = refl
any-or p q r (l ∷ c) h = let e = h l in let n = any-or p q r c h in ap (λ z. z || list_any p c) e ∙ ap (λ z. (q l || r l) || z) n ∙ regroup (q l) (r l) (list_any q c) (list_any r c)
  where
    regroup : (a b d e : Bool) → ((a || b) || (d || e)) ≡ ((a || d) || (b || e))
    regroup true b d e = refl
    regroup false true true e = refl
    regroup false true false e = refl
    regroup false false d e = refl

pub has_either : (x : ℕ) (c : List ℕ) → 0 < x → has_variable x c ≡ (has c (of_var x) || has c (neg (of_var x)))
has_either x c z = any-or (of_variable x) (nat_eq (of_var x)) (nat_eq (neg (of_var x))) c (λ l. two_literals x l z)

not_both : (l : ℕ) (c : List ℕ) → is_tautology c ≡ false → (has c l && has c (neg l)) ≡ false
not_both l c t = false_from_ne_true _ (λ h. let p = and_parts _ _ h in both_ways _ t (any_from (λ m. has c (neg m)) c l (has_at c l p.0) p.1))

-- ---- Counts

-- how many of some ids pass a test
many : (ℕ → Bool) → List ℕ → ℕ
many p ids = length (filter p ids)

many-map : (m : Store) (p : List ℕ → Bool) (ids : List ℕ) → how_many p (clauses_at m ids) ≡ many (λ id. p (lits_at m id)) ids
unfolding many
many-map m p [] = refl
many-map m p (id ∷ ids) = let r = many-map m p ids in elim (cases_Bool (p (lits_at m id))) [ inl y ↦ rw y (ap suc r) | inr n ↦ rw n r ]

many-filter : (m : Store) (p q : List ℕ → Bool) (ids : List ℕ) → how_many p (filter q (clauses_at m ids)) ≡ many (λ id. q (lits_at m id) && p (lits_at m id)) ids
unfolding many
many-filter m p q [] = refl
many-filter m p q (id ∷ ids) = let r = many-filter m p q ids in elim (cases_Bool (q (lits_at m id))) [
  | inl y ↦ elim (cases_Bool (p (lits_at m id))) [ inl w ↦ rw (y, w) (ap suc r) | inr w ↦ rw (y, w) r ]
  | inr y ↦ rw y r
]

many-with : (m : Store) (p : ℕ → Bool) (l : ℕ) (ids : List ℕ) → many p (ids_with l (numbered m ids)) ≡ many (λ id. has (lits_at m id) l && p id) ids
unfolding many
many-with m p l [] = refl
many-with m p l (id ∷ ids) = let r = many-with m p l ids in elim (cases_Bool (has (lits_at m id) l)) [
  | inl y ↦ elim (cases_Bool (p id)) [ inl w ↦ rw (y, w) (ap suc r) | inr w ↦ rw (y, w) r ]
  | inr y ↦ rw y r
]

many-either : (p q r : ℕ → Bool) (ids : List ℕ) → ((id : ℕ) → Contains ids id → (q id && r id) ≡ false)
    → many (λ id. (q id || r id) && p id) ids ≡ many (λ id. q id && p id) ids + many (λ id. r id && p id) ids
unfolding many
many-either p q r [] h = refl
many-either p q r (id ∷ ids) h =
    let n = many-either p q r ids (λ j k. h j (there id j ids k)) in let o = h id (here id ids) in
    elim (cases_Bool (q id)) [
      | inl a ↦ elim (cases_Bool (r id)) [
        | inl b ↦ absurd (both_ways _ o (and_from _ _ a b))
        | inr b ↦ elim (cases_Bool (p id)) [ inl w ↦ rw (a, b, w) (omega (arith, n)) | inr w ↦ rw (a, b, w) n ]
      ]
      | inr a ↦ elim (cases_Bool (r id)) [
        | inl b ↦ elim (cases_Bool (p id)) [ inl w ↦ rw (a, b, w) (omega (arith, n)) | inr w ↦ rw (a, b, w) n ]
        | inr b ↦ rw (a, b) n
      ]
    ]

many-same : (p q : ℕ → Bool) (ids : List ℕ) → ((id : ℕ) → p id ≡ q id) → many p ids ≡ many q ids
unfolding many
many-same p q [] h = refl
many-same p q (id ∷ ids) h = let e = h id in let r = many-same p q ids h in elim (cases_Bool (q id)) [ inl y ↦ let f = e ∙ y in rw (f, y) (ap suc r) | inr y ↦ let f = e ∙ y in rw (f, y) r ]

-- ---- The two lists

module _ (m : Store) (rows : List (List ℕ)) (ids : List ℕ) (x : ℕ) (z : 0 < x) (s : StandsFor rows (numbered m ids)) (clean : (id : ℕ) → Contains ids id → is_tautology (lits_at m id) ≡ false) where
  in_row : (p : ℕ → Bool) (l : ℕ) → many p (row rows l) ≡ many (λ id. has (lits_at m id) l && p id) ids
  unfolding many
  in_row p l = counts_from_times p (row rows l) (ids_with l (numbered m ids)) (s.listed l) ∙ many-with m p l ids

  as_often : OftenAs (filter (has_variable x) (clauses_at m ids)) (clauses_at m (row rows (of_var x)) ++ clauses_at m (row rows (neg (of_var x))))
  as_often c =
      let p : ℕ → Bool = λ id. same_set c (lits_at m id) in
      many-filter m (same_set c) (has_variable x) ids
      ∙ many-same (λ id. has_variable x (lits_at m id) && p id) (λ id. (has (lits_at m id) (of_var x) || has (lits_at m id) (neg (of_var x))) && p id) ids (λ id. ap (λ b. b && p id) (has_either x (lits_at m id) z))
      ∙ many-either p (λ id. has (lits_at m id) (of_var x)) (λ id. has (lits_at m id) (neg (of_var x))) ids (λ id k. not_both (of_var x) (lits_at m id) (clean id k))
      ∙ ap (λ n. n + many (λ id. has (lits_at m id) (neg (of_var x)) && p id) ids) (sym (in_row p (of_var x)) ∙ sym (many-map m (same_set c) (row rows (of_var x))))
      ∙ ap (λ n. how_many (same_set c) (clauses_at m (row rows (of_var x))) + n) (sym (in_row p (neg (of_var x))) ∙ sym (many-map m (same_set c) (row rows (neg (of_var x)))))
      ∙ sym (length-append (filter (same_set c) (clauses_at m (row rows (of_var x)))) (filter (same_set c) (clauses_at m (row rows (neg (of_var x))))))
      ∙ ap length (sym (filter-append (same_set c) (clauses_at m (row rows (of_var x))) (clauses_at m (row rows (neg (of_var x))))))

  in_clause : (l : ℕ) (c : List ℕ) → Contains (clauses_at m (row rows l)) c → has c l ≡ true
  in_clause l c k =
      let w = map_at (lits_at m) (row rows l) c k in
      let n = listed_is_held rows (numbered m ids) w.0 l s w.1 in
      let j = map_at (λ id. (id, lits_at m id)) ids n.0 n.1 in
      let e : j.0 ≡ w.0 = ap (λ (d : Numbered). d.0) j.2 ∙ n.2 in
      let same : n.0.1 ≡ c = sym (ap (λ (d : Numbered). d.1) j.2) ∙ ap (lits_at m) e ∙ w.2 in
      subst (λ d. has d l ≡ true) same n.3

  each_has : (c : List ℕ) → Contains (clauses_at m (row rows (of_var x)) ++ clauses_at m (row rows (neg (of_var x)))) c → has_variable x c ≡ true
  each_has c k = has_either x c z ∙ elim (append_at _ _ c k) [
    | inl a ↦ or_left _ _ (in_clause (of_var x) c a)
    | inr b ↦ or_right _ _ (in_clause (neg (of_var x)) c b)
  ]

  pub lists_decide : (frozen assigned : List ℕ) → eligible (clauses_at m ids) frozen assigned x
      ≡ ((not (has_variable x frozen) && not (has_variable x assigned)) && may_go (clauses_at m (row rows (of_var x)) ++ clauses_at m (row rows (neg (of_var x)))) x)
  lists_decide frozen assigned = own_clauses (clauses_at m ids) (clauses_at m (row rows (of_var x)) ++ clauses_at m (row rows (neg (of_var x)))) frozen assigned x each_has as_often

-- ---- As code asks

plain_of : (x : ℕ) → 0 < x → is_plain x (of_var x) ≡ true
plain_of x z = and_from _ _ (eq-eqb (var (of_var x)) x (omega arith)) (eq-eqb (of_var x % 2) 0 (omega arith))

negated_of : (x : ℕ) → 0 < x → is_negated x (neg (of_var x)) ≡ true
negated_of x z = and_from _ _ (eq-eqb (var (neg (of_var x))) x (omega arith)) (ap not (ne_eqb (neg (of_var x) % 2) 0 (λ e. omega arith)))

module _ (m : Store) (rows : List (List ℕ)) (ids : List ℕ) (s : StandsFor rows (numbered m ids)) where
  listed_has : (l id : ℕ) → Contains (row rows l) id → has (lits_at m id) l ≡ true
  listed_has l id k =
      let n = listed_is_held rows (numbered m ids) id l s k in
      let j = map_at (λ i. (i, lits_at m i)) ids n.0 n.1 in
      let e : j.0 ≡ id = ap (λ (d : Numbered). d.0) j.2 ∙ n.2 in
      let same : n.0.1 ≡ lits_at m id = sym (ap (λ (d : Numbered). d.1) j.2) ∙ ap (lits_at m) e in
      subst (λ d. has d l ≡ true) same n.3

  pub listed_holds : (x id : ℕ) → 0 < x → Contains (row rows (of_var x)) id → holds x (lits_at m id) ≡ true
  listed_holds x id z k = any_from (is_plain x) (lits_at m id) (of_var x) (has_at (lits_at m id) (of_var x) (listed_has (of_var x) id k)) (plain_of x z)

  pub listed_negated : (x id : ℕ) → 0 < x → Contains (row rows (neg (of_var x))) id → holds_negated x (lits_at m id) ≡ true
  listed_negated x id z k = any_from (is_negated x) (lits_at m id) (neg (of_var x)) (has_at (lits_at m id) (neg (of_var x)) (listed_has (neg (of_var x)) id k)) (negated_of x z)

  clean_one : (id : ℕ) → ((l : ℕ) → AreClean m (row rows l)) → Contains ids id → (c : List ℕ) → c ≡ lits_at m id → is_tautology (lits_at m id) ≡ false
  clean_one id u k [] e = ap is_tautology (sym e)
  clean_one id u k (l ∷ c) e =
      let h : has (lits_at m id) l ≡ true = subst (λ d. has d l ≡ true) e (has_from (l ∷ c) l (here l c)) in
      let n : Contains (numbered m ids) (id, lits_at m id) = map_from (λ i. (i, lits_at m i)) ids id k in
      u l id (contained id (row rows l) (held_is_listed rows (numbered m ids) (id, lits_at m id) l s n h))

  pub frozen_stays : (x : ℕ) (frozen assigned : List ℕ) → has_variable x frozen ≡ true → false ≡ eligible (clauses_at m ids) frozen assigned x
  unfolding eligible
  frozen_stays x frozen assigned h = rw h refl

  pub decided : (x : ℕ) (frozen assigned : List ℕ) (b : Bool) → 0 < x → ((l : ℕ) → AreClean m (row rows l)) → has_variable x frozen ≡ false → has_variable x assigned ≡ false
      → b ≡ may_go (clauses_at m (row rows (of_var x)) ++ clauses_at m (row rows (neg (of_var x)))) x → b ≡ eligible (clauses_at m ids) frozen assigned x
  decided x frozen assigned b z u f a e =
      let d = lists_decide m rows ids x z s (λ id k. clean_one id u k (lits_at m id) refl) frozen assigned in
      e ∙ sym (d ∙ ap (λ t. (not t && not (has_variable x assigned)) && may_go (clauses_at m (row rows (of_var x)) ++ clauses_at m (row rows (neg (of_var x)))) x) f
      ∙ ap (λ t. (true && not t) && may_go (clauses_at m (row rows (of_var x)) ++ clauses_at m (row rows (neg (of_var x)))) x) a)
