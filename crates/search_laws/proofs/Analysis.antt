-- The steps of the analysis of a conflict.
use Rattle.std.proofs.Common.{◌≡◌, ◌≢◌, ℕ, ◌+◌, ◌⊎◌, Bool, true, false, not, ◌||◌, nat_eq, List, [], ◌∷◌, ◌++◌, map, Contains, Option, Some, None, refl, sym, ◌∙◌, ap, subst, inl, inr, eqb-true, eq-eqb, append_assoc}
use Rattle.std.specs.Prelude.{is_some}
use Rattle.std.specs.List.{list_all}
use Rattle.std.proofs.lemmas.Bool.{cases_Bool, both_ways, and_parts, and_from, or_cases, or_left, or_right, not-true}
use Rattle.std.proofs.lemmas.List.{append-nil}
use Rattle.std.proofs.lemmas.Option.{same_Some}
use Rattle.lits.specs.Literal.{neg}
use Rattle.session_rules.specs.declared.Left.TheVariants.{Falsified, UnitLiteral}
use Rattle.session_rules.specs.Logic.{has, is_unit, is_falsified, is_tautology, left, left_of, hints_fail_from, hints_fail}
use Rattle.lits.proofs.Literal.{neg-neg}
use Rattle.lits.proofs.Members.{here, there, not_in_nil, here_or_there, all_at, all_from, filter_at, has_at, has_from}
use Rattle.propagation.specs.declared.TrailEntry.{TrailEntry}
use Rattle.propagation.specs.Clauses.{slot_of, active_at}
use Rattle.propagation.specs.Engine.{EngineView, IsEngine, literals}
use Rattle.propagation.proofs.Assigning.{cut_at}
use Rattle.propagation.proofs.Closing.{consistent_trail}
use Rattle.propagation.proofs.Hints.{left_falsified}
use Rattle.search_laws.specs.Analysis.{Closing, needed, IsAnalysed, IsForcedBy}
use Rattle.propagation.proofs.Parts.{has-front, has-either, has-back}
use Rattle.search_laws.proofs.Placing.{has-first, lacks}
use Rattle.search_laws.proofs.Asserting.{append_left, append_last}

-- ---- Hints

-- of a clause whose literals are false but for one, this is left, or nothing
left_all : (ls : List ℕ) (l : ℕ) → ((m : ℕ) → Contains ls m → l ≡ m) → (left_of ls ≡ UnitLiteral l) ⊎ (left_of ls ≡ Falsified)
left_all [] l h = inr refl
left_all (x ∷ xs) l h =
    let q : list_all (nat_eq x) xs ≡ true = all_from (nat_eq x) xs (λ m n. eq-eqb x m (sym (h x (here x xs)) ∙ h m (there x m xs n))) in
    rw q (inl (ap UnitLiteral (sym (h x (here x xs)))))

left_unit : (trues c : List ℕ) (l : ℕ) → ((m : ℕ) → Contains c m → (l ≡ m) ⊎ (has trues (neg m) ≡ true)) → (left trues c ≡ UnitLiteral l) ⊎ (left trues c ≡ Falsified)
left_unit trues c l h = left_all _ l (λ m n. let r = filter_at (λ x. not (has trues (neg x))) c m n in elim (h m r.0) [
  | inl q ↦ q
  | inr q ↦ absurd (both_ways _ (not-true _ r.1) q)
])

hint_closes : (active : ℕ → Option (List ℕ)) (place : ℕ) (trues hints c : List ℕ) (id : ℕ) → active id ≡ Some c → left trues c ≡ Falsified → hints_fail_from active place trues (id ∷ hints) ≡ None
unfolding hints_fail_from
hint_closes active place trues hints c id a e = rw a (rw e refl)

hint_adds : (active : ℕ → Option (List ℕ)) (place : ℕ) (trues hints c : List ℕ) (id l : ℕ) → active id ≡ Some c → left trues c ≡ UnitLiteral l
    → hints_fail_from active (place + 1) (l ∷ trues) hints ≡ None → hints_fail_from active place trues (id ∷ hints) ≡ None
unfolding hints_fail_from
hint_adds active place trues hints c id l a e h = rw a (rw e h)

-- a false clause
pub closing-start : (active : ℕ → Option (List ℕ)) (need : ℕ → Bool) (id : ℕ) (c : List ℕ) → active id ≡ Some c → ((m : ℕ) → Contains c m → need (neg m) ≡ true) → Closing active need (id ∷ [])
closing-start active need id c a h place trues p = hint_closes active place trues [] c id a (left_falsified trues c (all_from _ c (λ m n. p (neg m) (h m n))))

-- a literal that is needed is replaced by the negations of the others of a clause, whatever the order in which they came
pub closing-step : (active : ℕ → Option (List ℕ)) (need now : ℕ → Bool) (hints : List ℕ) (id l : ℕ) (c : List ℕ) → active id ≡ Some c → ((m : ℕ) → Contains c m → (l ≡ m) ⊎ (now (neg m) ≡ true))
    → ((m : ℕ) → need m ≡ true → (m ≡ l) ⊎ (now m ≡ true)) → Closing active need hints → Closing active now (id ∷ hints)
closing-step active need now hints id l c a others kept h place trues p = elim (left_unit trues c l (λ m n. elim (others m n) [ inl q ↦ inl q | inr q ↦ inr (p (neg m) q) ])) [
  | inl u ↦ hint_adds active place trues hints c id l a u (h (place + 1) (l ∷ trues) (λ m n. elim (kept m n) [
    | inl q ↦ or_left (nat_eq m l) (has trues m) (eq-eqb m l q)
    | inr q ↦ or_right (nat_eq m l) (has trues m) (p m q)
  ]))
  | inr u ↦ hint_closes active place trues hints c id a u
]

pub closing-more : (active : ℕ → Option (List ℕ)) (need now : ℕ → Bool) (hints : List ℕ) → ((m : ℕ) → need m ≡ true → now m ≡ true) → Closing active need hints → Closing active now hints
closing-more active need now hints w h place trues p = h place trues (λ l n. p l (w l n))

pub closing-end : (active : ℕ → Option (List ℕ)) (need : ℕ → Bool) (hints ls : List ℕ) → ((l : ℕ) → need l ≡ true → has ls l ≡ true) → Closing active need hints → hints_fail active ls hints ≡ None
unfolding hints_fail
closing-end active need hints ls w h = elim (cases_Bool (is_tautology ls)) [ inl q ↦ rw q refl | inr q ↦ rw q (h 1 ls w) ]

negated : (ls : List ℕ) (l : ℕ) → Contains ls l → Contains (map neg ls) (neg l)
negated [] l m = absurd (not_in_nil l m)
negated (x ∷ ls) l m = elim (here_or_there x l ls m) [
  | inl q ↦ subst (λ z. Contains (map neg (x ∷ ls)) (neg z)) q (here (neg x) (map neg ls))
  | inr n ↦ there (neg x) (neg l) (map neg ls) (negated ls l n)
]

-- ---- Reasons

has_step : (ss : List TrailEntry) (s : TrailEntry) → Contains ss s → has (literals ss) s.lit ≡ true
has_step ss s m = let r = cut_at ss s m in subst (λ z. has (literals z) s.lit ≡ true) (sym r.2) (has-back r.0 (s ∷ r.1) s.lit (has-first s r.1))

-- a forcing clause has the literal, and its others are false by earlier entries
pub record Forces (before : List TrailEntry) (s : TrailEntry) (c : List ℕ) : Type 0 where
  pub member : Contains c s.lit
  pub others : (m : ℕ) → Contains c m → (s.lit ≡ m) ⊎ (has (literals before) (neg m) ≡ true)

pub forces : (e : EngineView) (before after : List TrailEntry) (s : TrailEntry) (id : ℕ) (c : List ℕ) → IsEngine e → e.trail ≡ before ++ s ∷ after → IsForcedBy e.clauses s id c → Forces before s c
forces e before after s id c k at f =
    let r = (k.entries before after s at).reason f.slot f.reason_is in
    let same : r.0 ≡ id = k.slots_apart r.0 id f.slot r.2 f.slot_is in
    let clause : r.1 ≡ c = same_Some _ _ (sym r.3 ∙ ap (active_at e.clauses) same ∙ f.clause_is) in
    let u : is_unit (literals before) c s.lit ≡ true = subst (λ z. is_unit (literals before) z s.lit ≡ true) clause r.4 in
    record {
      member = has_at c s.lit (and_parts _ _ u).0;
      others = λ m n. elim (or_cases _ _ (all_at (λ x. nat_eq s.lit x || has (literals before) (neg x)) c m (and_parts _ _ u).1 n)) [
        | inl q ↦ inl (eqb-true s.lit m q)
        | inr q ↦ inr q
      ];
    }

-- a clause that is the reason of a later entry, or false, is no reason of an earlier one
reason_apart : (e : EngineView) (before after : List TrailEntry) (id : ℕ) (c : List ℕ) → IsEngine e → e.trail ≡ before ++ after → active_at e.clauses id ≡ Some c
    → ((l : ℕ) → Contains c l → has (literals before) l ≡ true → has (literals e.trail) (neg l) ≡ true)
    → (r : ℕ) (s : TrailEntry) → Contains before s → s.reason ≡ Some r → slot_of e.clauses id ≢ Some r
reason_apart e before after id c k at a f r s m is slot =
    let q = cut_at before s m in
    let at2 : e.trail ≡ q.0 ++ s ∷ (q.1 ++ after) = at ∙ ap (λ z. z ++ after) q.2 ∙ append_assoc q.0 (s ∷ q.1) after in
    let w = forces e q.0 (q.1 ++ after) s id c k at2 (record { slot = r; reason_is = is; slot_is = slot; clause_is = a }) in
    let h : has (literals before) s.lit ≡ true = has_step before s m in
    consistent_trail e k s.lit (subst (λ z. has (literals z) s.lit ≡ true) (sym at) (has-front before after s.lit h)) (f s.lit w.member h)

-- ---- The steps of an analysis

module _ (e : EngineView) (k : IsEngine e) where
  one_active : (id s : ℕ) → slot_of e.clauses id ≡ Some s → (x : ℕ) → has (id ∷ []) x ≡ true → is_some (slot_of e.clauses x) ≡ true
  one_active id s at x h = elim (or_cases (nat_eq x id) false h) [
    | inl y ↦ ap (λ z. is_some (slot_of e.clauses z)) (eqb-true x id y) ∙ ap is_some at
    | inr y ↦ cc y
  ]

  -- at a false clause
  pub analysis-start : (pending : ℕ → Bool) (id s : ℕ) (c : List ℕ) → slot_of e.clauses id ≡ Some s → active_at e.clauses id ≡ Some c → is_falsified (literals e.trail) c ≡ true
      → ((m : ℕ) → Contains c m → pending (neg m) ≡ true) → IsAnalysed e.clauses e.trail pending [] (id ∷ [])
  analysis-start pending id s c slot a f marks = record {
    closing = closing-start _ _ id c a (λ m n. or_right false _ (and_from _ _ (all_at (λ x. has (literals e.trail) (neg x)) c m f n) (marks m n)));
    ids_active = one_active id s slot;
    no_id_twice = (refl, tt);
    unused = λ x r t h m is. elim (or_cases (nat_eq x id) false h) [
      | inl y ↦ subst (λ z. slot_of e.clauses z ≢ Some r) (sym (eqb-true x id y))
          (reason_apart e e.trail [] id c k (sym (append-nil e.trail)) a (λ l n g. all_at (λ z. has (literals e.trail) (neg z)) c l f n) r t m is)
      | inr y ↦ cc y
    ];
  }

  -- a clause is the reason of one entry alone
  forced_apart : (before after : List TrailEntry) (s : TrailEntry) (id : ℕ) (c : List ℕ) → e.trail ≡ before ++ s ∷ after → IsForcedBy e.clauses s id c
      → (r : ℕ) (t : TrailEntry) → Contains before t → t.reason ≡ Some r → slot_of e.clauses id ≢ Some r
  forced_apart before after s id c at f = let w = forces e before after s id c k at f in
      reason_apart e before (s ∷ after) id c k at f.clause_is (λ l n h. elim (w.others l n) [
        | inl q ↦ absurd (both_ways _ (k.entries before after s at).free.0 (subst (λ z. has (literals before) z ≡ true) (sym q) h))
        | inr q ↦ subst (λ z. has (literals z) (neg l) ≡ true) (sym at) (has-front before (s ∷ after) (neg l) q)
      ])

  -- at an assumption that an entry has made false; its negation, this entry's literal, stands for the lemma
  pub analysis-start_at : (before after : List TrailEntry) (s : TrailEntry) (pending : ℕ → Bool) (id : ℕ) (c : List ℕ) → e.trail ≡ before ++ s ∷ after → IsForcedBy e.clauses s id c
      → ((m : ℕ) → Contains c m → (s.lit ≡ m) ⊎ (pending (neg m) ≡ true)) → IsAnalysed e.clauses before pending (s.lit ∷ []) (id ∷ [])
  analysis-start_at before after s pending id c at f marks = let w = forces e before after s id c k at f in record {
    closing = closing-start _ _ id c f.clause_is (λ m n. elim (marks m n) [
      | inl q ↦ or_left _ _ (or_left (nat_eq (neg (neg m)) s.lit) false (eq-eqb (neg (neg m)) s.lit (neg-neg m ∙ sym q)))
      | inr q ↦ elim (w.others m n) [
        | inl r ↦ or_left _ _ (or_left (nat_eq (neg (neg m)) s.lit) false (eq-eqb (neg (neg m)) s.lit (neg-neg m ∙ sym r)))
        | inr r ↦ or_right _ _ (and_from _ _ r q)
      ]
    ]);
    ids_active = one_active id f.slot f.slot_is;
    no_id_twice = (refl, tt);
    unused = λ x r t h m is. elim (or_cases (nat_eq x id) false h) [
      | inl y ↦ subst (λ z. slot_of e.clauses z ≢ Some r) (sym (eqb-true x id y)) (forced_apart before after s id c at f r t m is)
      | inr y ↦ cc y
    ];
  }

  -- what is needed of a front with one more entry
  need_push : (before : List TrailEntry) (s : TrailEntry) (pending : ℕ → Bool) (lemma : List ℕ) (l : ℕ) → needed (before ++ s ∷ []) pending lemma l ≡ true
      → (has lemma (neg l) ≡ true) ⊎ ((has (literals before) l ≡ true) × (pending l ≡ true)) ⊎ ((l ≡ s.lit) × (pending l ≡ true))
  need_push before s pending lemma l h = elim (or_cases _ _ h) [
    | inl y ↦ inl y
    | inr y ↦ let r = and_parts _ _ y in elim (has-either before (s ∷ []) l r.0) [
      | inl z ↦ inr (inl (z, r.1))
      | inr z ↦ elim (or_cases (nat_eq l s.lit) false z) [ inl w ↦ inr (inr (eqb-true l s.lit w, r.1)) | inr w ↦ cc w ]
    ]
  ]

  contains_front : (before : List TrailEntry) (s t : TrailEntry) → Contains before t → Contains (before ++ s ∷ []) t
  contains_front [] s t m = absurd (not_in_nil t m)
  contains_front (x ∷ before) s t m = elim (here_or_there x t before m) [
    | inl q ↦ subst (λ z. Contains (x ∷ (before ++ s ∷ [])) z) q (here x (before ++ s ∷ []))
    | inr n ↦ there x t (before ++ s ∷ []) (contains_front before s t n)
  ]

  contains_last : (before : List TrailEntry) (s : TrailEntry) → Contains (before ++ s ∷ []) s
  contains_last [] s = here s []
  contains_last (x ∷ before) s = there x s (before ++ s ∷ []) (contains_last before s)

  -- an entry that isn't pending
  pub analysis-skip : (before : List TrailEntry) (s : TrailEntry) (pending : ℕ → Bool) (lemma hints : List ℕ) → pending s.lit ≡ false
      → IsAnalysed e.clauses (before ++ s ∷ []) pending lemma hints → IsAnalysed e.clauses before pending lemma hints
  analysis-skip before s pending lemma hints u h = record {
    closing = closing-more _ _ _ hints (λ l n. elim (need_push before s pending lemma l n) [
      | inl y ↦ or_left _ _ y
      | inr (inl y) ↦ or_right _ _ (and_from _ _ y.0 y.1)
      | inr (inr y) ↦ absurd (both_ways _ u (subst (λ z. pending z ≡ true) y.0 y.1))
    ]) h.closing;
    ids_active = h.ids_active;
    no_id_twice = h.no_id_twice;
    unused = λ x r t y m. h.unused x r t y (contains_front before s t m);
  }

  -- a pending entry whose literal's negation stays in the lemma
  pub analysis-keep : (before : List TrailEntry) (s : TrailEntry) (pending : ℕ → Bool) (lemma hints : List ℕ)
      → IsAnalysed e.clauses (before ++ s ∷ []) pending lemma hints → IsAnalysed e.clauses before pending (lemma ++ neg s.lit ∷ []) hints
  analysis-keep before s pending lemma hints h = record {
    closing = closing-more _ _ _ hints (λ l n. elim (need_push before s pending lemma l n) [
      | inl y ↦ or_left _ _ (has_from (lemma ++ neg s.lit ∷ []) (neg l) (append_left lemma (neg s.lit) (neg l) (has_at lemma (neg l) y)))
      | inr (inl y) ↦ or_right _ _ (and_from _ _ y.0 y.1)
      | inr (inr y) ↦ or_left _ _ (has_from (lemma ++ neg s.lit ∷ []) (neg l) (subst (λ z. Contains (lemma ++ neg s.lit ∷ []) (neg z)) (sym y.0) (append_last lemma (neg s.lit))))
    ]) h.closing;
    ids_active = h.ids_active;
    no_id_twice = h.no_id_twice;
    unused = λ x r t y m. h.unused x r t y (contains_front before s t m);
  }

  -- a pending entry whose literal is replaced by the negations of the others of its reason
  pub analysis-resolve : (before after : List TrailEntry) (s : TrailEntry) (pending now : ℕ → Bool) (lemma hints : List ℕ) (id : ℕ) (c : List ℕ) → e.trail ≡ before ++ s ∷ after → IsForcedBy e.clauses s id c
      → ((m : ℕ) → Contains c m → (s.lit ≡ m) ⊎ (now (neg m) ≡ true)) → ((l : ℕ) → has (literals before) l ≡ true → pending l ≡ true → now l ≡ true)
      → IsAnalysed e.clauses (before ++ s ∷ []) pending lemma hints → IsAnalysed e.clauses before now lemma (id ∷ hints)
  analysis-resolve before after s pending now lemma hints id c at f marks kept h = let w = forces e before after s id c k at f in record {
    closing = closing-step (active_at e.clauses) (needed (before ++ s ∷ []) pending lemma) (needed before now lemma) hints id s.lit c f.clause_is
        (λ m n. elim (marks m n) [
          | inl q ↦ inl q
          | inr q ↦ elim (w.others m n) [ inl r ↦ inl r | inr r ↦ inr (or_right (has lemma (neg (neg m))) _ (and_from _ _ r q)) ]
        ])
        (λ l n. elim (need_push before s pending lemma l n) [
          | inl y ↦ inr (or_left _ _ y)
          | inr (inl y) ↦ inr (or_right (has lemma (neg l)) _ (and_from _ _ y.0 (kept l y.0 y.1)))
          | inr (inr y) ↦ inl y.0
        ]) h.closing;
    ids_active = λ x y. elim (or_cases (nat_eq x id) (has hints x) y) [
      | inl z ↦ ap (λ q. is_some (slot_of e.clauses q)) (eqb-true x id z) ∙ ap is_some f.slot_is
      | inr z ↦ h.ids_active x z
    ];
    no_id_twice = (lacks hints id (λ y. h.unused id f.slot s y (contains_last before s) f.reason_is f.slot_is), h.no_id_twice);
    unused = λ x r t y m is. elim (or_cases (nat_eq x id) (has hints x) y) [
      | inl z ↦ subst (λ q. slot_of e.clauses q ≢ Some r) (sym (eqb-true x id z)) (forced_apart before after s id c at f r t m is)
      | inr z ↦ h.unused x r t z (contains_front before s t m) is
    ];
  }

  -- where nothing is pending, the hints close from literals that have the negations of the lemma
  pub analysis-end : (before : List TrailEntry) (pending : ℕ → Bool) (lemma hints ls : List ℕ) → ((l : ℕ) → has (literals before) l ≡ true → pending l ≡ false)
      → ((l : ℕ) → Contains lemma l → has ls (neg l) ≡ true) → IsAnalysed e.clauses before pending lemma hints → hints_fail (active_at e.clauses) ls hints ≡ None
  analysis-end before pending lemma hints ls clear p h = closing-end _ _ hints ls (λ l n. elim (or_cases _ _ n) [
    | inl y ↦ subst (λ z. has ls z ≡ true) (neg-neg l) (p (neg l) (has_at lemma (neg l) y))
    | inr y ↦ let r = and_parts _ _ y in absurd (both_ways _ (clear l r.0) r.1)
  ]) h.closing

  -- and from these negations themselves
  pub analysis-lemma : (before : List TrailEntry) (pending : ℕ → Bool) (lemma hints : List ℕ) → ((l : ℕ) → has (literals before) l ≡ true → pending l ≡ false)
      → IsAnalysed e.clauses before pending lemma hints → hints_fail (active_at e.clauses) (map neg lemma) hints ≡ None
  analysis-lemma before pending lemma hints clear h = analysis-end before pending lemma hints (map neg lemma) clear (λ l m. has_from (map neg lemma) (neg l) (negated lemma l m)) h

  -- more may be pending
  pub analysis-more : (before : List TrailEntry) (pending now : ℕ → Bool) (lemma hints : List ℕ) → ((l : ℕ) → has (literals before) l ≡ true → pending l ≡ true → now l ≡ true)
      → IsAnalysed e.clauses before pending lemma hints → IsAnalysed e.clauses before now lemma hints
  analysis-more before pending now lemma hints w h = record {
    closing = closing-more _ _ _ hints (λ l n. elim (or_cases _ _ n) [
      | inl y ↦ or_left _ _ y
      | inr y ↦ let r = and_parts _ _ y in or_right _ _ (and_from _ _ r.0 (w l r.0 r.1))
    ]) h.closing;
    ids_active = h.ids_active;
    no_id_twice = h.no_id_twice;
    unused = h.unused;
  }
