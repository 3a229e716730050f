-- Where clauses close there are hints that close, none of them twice: a clause is passed over where its unit is true already, and
-- one whose unit is false closes. So no clause that is named has a true literal then, and each has one behind its hint.
use Rattle.std.proofs.Common.{◌≡◌, ℕ, suc, ◌+◌, ◌<◌, ◌⊎◌, Bool, true, false, not, ◌||◌, nat_eq, nat_lt, if◌then◌else◌, List, [], ◌∷◌, filter, filter_map, Contains, Option, Some, None, refl, sym, ◌∙◌, ap, subst, inl, inr, arith, eqb-true, eq-eqb, ltb-true}
use Rattle.std.specs.Prelude.{option_map, slice_get}
use Rattle.std.specs.List.{list_all, list_any}
use Rattle.std.proofs.lemmas.Bool.{and_parts, and_from, or_cases, cases_Bool, both_ways, not-true, not_from_false}
use Rattle.lits.specs.Literal.{neg}
use Rattle.lits.specs.Clause.{has, same_set, is_tautology}
use Rattle.lits.proofs.Members.{here, there, not_in_nil, here_or_there, all_at, all_from, any_at, any_from, filter_from, filter_at, has_at, has_from}
use Rattle.lits.proofs.Sets.{same_at, tautology_at}
use Rattle.session_rules.specs.declared.Left.TheVariants.{Falsified, UnitLiteral}
use Rattle.session_rules.specs.declared.Step.{Step}
use Rattle.session_rules.specs.Logic.{is_falsified, is_unit, is_closed, Propagates, trues_after, Closes, left_of, left, hints_fail_from, hints_fail}
use Rattle.session_rules.specs.Own.{is_active, added_clause, active_copies, active_clauses}
use Rattle.session_rules.proofs.Rounds.{Within, tautology-within, falsified-within}
use Rattle.side_laws.specs.Sets.{GivenClause, given_by, standing_or_absent, standing_at, clause_at, how_many, all_find}
use Rattle.side_laws.proofs.Given.{many-some, count-active}
use Rattle.elimination_laws.specs.Answers.{has_none_twice}
use Rattle.conversion_laws.specs.Converted.{active_at, HintsClose}

-- ---- What is left of a clause

left_of_one : (ls : List ℕ) (l : ℕ) → Contains ls l → ((m : ℕ) → Contains ls m → m ≡ l) → left_of ls ≡ UnitLiteral l
left_of_one [] l m h = absurd (not_in_nil l m)
left_of_one (x ∷ xs) l m h = let e : x ≡ l = h x (here x xs) in
    let q : list_all (nat_eq x) xs ≡ true = all_from (nat_eq x) xs (λ y n. eq-eqb _ _ (e ∙ sym (h y (there x y xs n)))) in
    rw q (ap UnitLiteral e)

falsified_left : (trues c : List ℕ) → is_falsified trues c ≡ true → left trues c ≡ Falsified
falsified_left trues [] h = refl
falsified_left trues (m ∷ ms) h = let parts = and_parts (has trues (neg m)) (is_falsified trues ms) h in rw parts.0 (falsified_left trues ms parts.1)

unit_left : (trues c : List ℕ) (l : ℕ) → is_unit trues c l ≡ true → has trues (neg l) ≡ false → left trues c ≡ UnitLiteral l
unit_left trues c l h n = let parts = and_parts (has c l) _ h in
    left_of_one (filter (λ m. not (has trues (neg m))) c) l
    (filter_from (λ m. not (has trues (neg m))) c l (has_at c l parts.0) (not_from_false _ n))
    (λ m k. let r = filter_at (λ m. not (has trues (neg m))) c m k in
    elim (or_cases (nat_eq l m) (has trues (neg m)) (all_at (λ m. nat_eq l m || has trues (neg m)) c m parts.1 r.0)) [
      | inl e ↦ sym (eqb-true l m e)
      | inr f ↦ absurd (both_ways _ (not-true _ r.1) f)
    ])

-- ---- Hints

neg_neg : (l : ℕ) → neg (neg l) ≡ l
neg_neg l = omega arith

no_opposite : (trues : List ℕ) (l : ℕ) → is_tautology trues ≡ false → has trues (neg l) ≡ true → has trues l ≡ false
no_opposite trues l t h = elim (cases_Bool (has trues l)) [
  | inr n ↦ n
  | inl y ↦ absurd (both_ways _ t (any_from (λ m. has trues (neg m)) trues l (has_at trues l y) h))
]

module _ (active : ℕ → Option (List ℕ)) where
  -- an id whose clause has no true literal
  record IsUntouched (trues : List ℕ) (id : ℕ) : Type 0 where
    pub clause : List ℕ
    pub is : active id ≡ Some clause
    pub none : (m : ℕ) → Contains clause m → has trues m ≡ false

  record Hints (trues : List ℕ) : Type 0 where
    pub hints : List ℕ
    pub close : (place : ℕ) → hints_fail_from active place trues hints ≡ None
    pub once : has_none_twice hints ≡ true
    pub untouched : (id : ℕ) → Contains hints id → IsUntouched trues id

  module _ (trues : List ℕ) (t : is_tautology trues ≡ false) (id : ℕ) (c : List ℕ) (a : active id ≡ Some c) where
    last_hint : is_falsified trues c ≡ true → Hints trues
    unfolding hints_fail_from
    last_hint f = let e = falsified_left trues c f in record {
      hints = id ∷ [];
      close = λ place. rw (a, e) refl;
      once = refl;
      untouched = λ x m. elim (here_or_there id x [] m) [
        | inl y ↦ subst (IsUntouched trues) y (record { clause = c; is = a; none = λ l k. no_opposite trues l t (all_at (λ m. has trues (neg m)) c l f k) })
        | inr n ↦ absurd (not_in_nil x n)
      ];
    }

    module _ (l : ℕ) (u : is_unit trues c l ≡ true) (free : has trues (neg l) ≡ false) (open_ : has trues l ≡ false) where
      unit_untouched : IsUntouched trues id
      unit_untouched = record {
        clause = c;
        is = a;
        none = λ m k. elim (or_cases (nat_eq l m) (has trues (neg m)) (all_at (λ m. nat_eq l m || has trues (neg m)) c m (and_parts (has c l) _ u).1 k)) [
          | inl e ↦ subst (λ z. has trues z ≡ false) (eqb-true l m e) open_
          | inr f ↦ no_opposite trues m t f
        ];
      }

      not_later : (next : Hints (l ∷ trues)) → has next.hints id ≡ false
      not_later next = elim (cases_Bool (has next.hints id)) [
        | inr n ↦ n
        | inl y ↦ let w = next.untouched id (has_at next.hints id y) in
            let e : w.clause ≡ c = cc (w.is, a) in
            absurd (both_ways _ (w.none l (subst (λ z. Contains z l) (sym e) (has_at c l (and_parts (has c l) _ u).0))) (has_from (l ∷ trues) l (here l trues)))
      ]

      less_true : (id : ℕ) → IsUntouched (l ∷ trues) id → IsUntouched trues id
      less_true x w = record {
        clause = w.clause;
        is = w.is;
        none = λ m k. elim (cases_Bool (has trues m)) [
          | inr n ↦ n
          | inl y ↦ absurd (both_ways _ (w.none m k) (has_from (l ∷ trues) m (there l m trues (has_at trues m y))))
        ];
      }

      more_hints : Hints (l ∷ trues) → Hints trues
      unfolding hints_fail_from
      more_hints next = let e = unit_left trues c l u free in record {
        hints = id ∷ next.hints;
        close = λ place. rw (a, e) (next.close (place + 1));
        once = and_from _ _ (not_from_false _ (not_later next)) next.once;
        untouched = λ x m. elim (here_or_there id x next.hints m) [
          | inl y ↦ subst (IsUntouched trues) y unit_untouched
          | inr n ↦ less_true x (next.untouched x n)
        ];
      }

-- ---- Units and sets

same_member : (c d : List ℕ) → same_set c d ≡ true → (m : ℕ) → Contains d m → Contains c m
same_member c d h m k = has_at c m (same_at c d h m ∙ has_from d m k)

falsified-same : (trues c d : List ℕ) → same_set c d ≡ true → is_falsified trues c ≡ true → is_falsified trues d ≡ true
falsified-same trues c d h f = all_from (λ m. has trues (neg m)) d (λ m k. all_at (λ m. has trues (neg m)) c m f (same_member c d h m k))

unit-same : (trues c d : List ℕ) (l : ℕ) → same_set c d ≡ true → is_unit trues c l ≡ true → is_unit trues d l ≡ true
unit-same trues c d l h u = let parts = and_parts (has c l) _ u in and_from _ _ (sym (same_at c d h l) ∙ parts.0)
    (all_from (λ m. nat_eq l m || has trues (neg m)) d (λ m k. all_at (λ m. nat_eq l m || has trues (neg m)) c m parts.1 (same_member c d h m k)))

either_way : (a b : Bool) → (a ≡ true) ⊎ (b ≡ true) → (a || b) ≡ true
either_way true b h = refl
either_way false b (inl e) = cc e
either_way false b (inr e) = e

unit-within : (trues all c : List ℕ) (l : ℕ) → Within trues all → is_unit trues c l ≡ true → is_unit all c l ≡ true
unit-within trues all c l w u = let parts = and_parts (has c l) _ u in and_from _ _ parts.0
    (all_from (λ m. nat_eq l m || has all (neg m)) c (λ m k. elim (or_cases (nat_eq l m) (has trues (neg m)) (all_at (λ m. nat_eq l m || has trues (neg m)) c m parts.1 k)) [
      | inl e ↦ either_way _ _ (inl e)
      | inr f ↦ either_way _ _ (inr (w (neg m) f))
    ]))

unit_false : (trues c : List ℕ) (l : ℕ) → is_unit trues c l ≡ true → has trues (neg l) ≡ true → is_falsified trues c ≡ true
unit_false trues c l u h = let parts = and_parts (has c l) _ u in
    all_from (λ m. has trues (neg m)) c (λ m k. elim (or_cases (nat_eq l m) (has trues (neg m)) (all_at (λ m. nat_eq l m || has trues (neg m)) c m parts.1 k)) [
      | inl e ↦ subst (λ z. has trues (neg z) ≡ true) (eqb-true l m e) h
      | inr f ↦ f
    ])

still_consistent : (trues : List ℕ) (l : ℕ) → is_tautology trues ≡ false → has trues (neg l) ≡ false → is_tautology (l ∷ trues) ≡ false
still_consistent trues l t n = elim (cases_Bool (is_tautology (l ∷ trues))) [
  | inr f ↦ f
  | inl y ↦ let r = tautology_at (l ∷ trues) y in absurd (elim (here_or_there l r.0 trues r.1) [
    | inl e ↦ elim (here_or_there l (neg r.0) trues r.2) [
      | inl f ↦ not_itself l (f ∙ ap neg (sym e))
      | inr k ↦ both_ways _ n (has_from trues (neg l) (subst (λ z. Contains trues (neg z)) (sym e) k))
    ]
    | inr m ↦ elim (here_or_there l (neg r.0) trues r.2) [
      | inl f ↦ both_ways _ n (has_from trues (neg l) (subst (λ z. Contains trues z) (sym (ap neg f ∙ neg_neg r.0)) m))
      | inr k ↦ both_ways _ t (any_from (λ l. has trues (neg l)) trues r.0 m (has_from trues (neg r.0) k))
    ]
  ])
]
  where
    not_itself : (l : ℕ) → l ≡ neg l → ⊥
    not_itself l e = omega arith

-- ---- From a closing sequence

module _ (active : ℕ → Option (List ℕ)) (cs : List (List ℕ))
    (given : (c : List ℕ) → Contains cs c → (id : ℕ) × (d : List ℕ) × (active id ≡ Some d) × (same_set c d ≡ true)) where
  find : (pairs : List (List ℕ × ℕ)) (trues all : List ℕ) → Within trues all → is_tautology all ≡ false → Propagates cs trues pairs → is_closed cs (trues_after trues pairs) ≡ true → Hints active all
  find [] trues all w t k h = elim (or_cases (is_tautology trues) (list_any (is_falsified trues) cs) h) [
    | inl y ↦ absurd (both_ways _ t (tautology-within trues all w y))
    | inr y ↦ let c = any_at (is_falsified trues) cs y in let g = given c.0 c.1 in
        last_hint active all t g.0 g.1 g.2 (falsified-same all c.0 g.1 g.3 (falsified-within trues all c.0 w c.2))
  ]
  find (p ∷ ps) trues all w t k h = let g = given p.0 k.0 in let u = unit-within trues all p.0 p.1 w k.1 in elim (cases_Bool (has all (neg p.1))) [
    | inl y ↦ last_hint active all t g.0 g.1 g.2 (falsified-same all p.0 g.1 g.3 (unit_false all p.0 p.1 u y))
    | inr n ↦ elim (cases_Bool (has all p.1)) [
      | inl y ↦ find ps (p.1 ∷ trues) all (λ m i. elim (or_cases (nat_eq m p.1) (has trues m) i) [ inl e ↦ subst (λ z. has all z ≡ true) (sym (eqb-true m p.1 e)) y | inr j ↦ w m j ]) t k.2 h
      | inr o ↦ more_hints active all t g.0 g.1 g.2 p.1 (unit-same all p.0 g.1 p.1 g.3 u) n o
          (find ps (p.1 ∷ trues) (p.1 ∷ all) (λ m i. elim (or_cases (nat_eq m p.1) (has trues m) i) [ inl e ↦ either_way (nat_eq m p.1) (has all m) (inl e) | inr j ↦ either_way (nat_eq m p.1) (has all m) (inr (w m j)) ])
          (still_consistent all p.1 t n) k.2 h)
    ]
  ]

-- ---- Over the clauses that steps leave active

module _ (ps : List Step) (found : all_find [] ps ≡ true) where
  active_there : (c : List ℕ) → Contains (active_clauses ps) c → (id : ℕ) × (d : List ℕ) × (active_at ps id ≡ Some d) × (same_set c d ≡ true)
  active_there c m = let r = filter_at (λ d. nat_lt 0 (active_copies ps d)) (filter_map added_clause ps) c m in
      let lt : 0 < how_many is_active c (given_by ps) = subst (λ z. 0 < z) (count-active ps found c) (ltb-true _ _ r.1) in
      let g = many-some is_active c (given_by ps) lt in
      let parts = and_parts (is_active g.1.standing) (same_set c g.1.clause) g.3 in
      (suc g.0, g.1.clause, at g.0 g.1 g.2 parts.0, parts.1)
    where
      at : (k : ℕ) (g : GivenClause) → slice_get (given_by ps) k ≡ Some g → is_active g.standing ≡ true → active_at ps (suc k) ≡ Some g.clause
      at k g e h = ap (λ o. if is_active (standing_or_absent o) then option_map (λ (x : GivenClause). x.clause) o else None) e ∙ rw h refl

  was_active : (id : ℕ) (c : List ℕ) → active_at ps id ≡ Some c → is_active (standing_at ps id) ≡ true
  was_active id c h = by_test (is_active (standing_at ps id)) h
    where
      by_test : (b : Bool) → (if b then clause_at ps id else None) ≡ Some c → b ≡ true
      by_test true h = refl
      by_test false h = cc h

  -- clauses that close have hints
  pub hints_are_there : (ls : List ℕ) → Closes (active_clauses ps) ls → (hints : List ℕ) × HintsClose ps ls hints
  unfolding hints_fail
  hints_are_there ls h = elim (cases_Bool (is_tautology ls)) [
    | inl y ↦ ([], record { close = rw y refl; once = refl; active = refl })
    | inr n ↦ let r = find (active_at ps) (active_clauses ps) active_there h.0 ls ls (λ m i. i) n h.1 h.2 in (
      r.hints,
      record {
        close = rw n (r.close 1);
        once = r.once;
        active = all_from (λ id. is_active (standing_at ps id)) r.hints (λ id m. let w = r.untouched id m in was_active id w.clause w.is);
      },
    )
  ]
