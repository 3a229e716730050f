-- The steps of an analysis that goes back to what was assumed.
use Rattle.std.proofs.Common.{◌≡◌, ℕ, zero, suc, ◌-◌, ◌/◌, ◌≤◌, ◌⊎◌, true, false, ◌&&◌, List, [], ◌∷◌, ◌++◌, length, take, get_or, set, map, reverse, Contains, Option, Some, None, nat_eq, eqb-true, refl, sym, ◌∙◌, ap, subst, inl, inr, arith}
use Rattle.std.proofs.lemmas.List.{length-set, reverse-append}
use Rattle.std.specs.Prelude.{unwrap_or}
use Rattle.std.proofs.lemmas.List.Quantifiers.{position-Some}
use Rattle.std.proofs.lemmas.Bool.{both_ways, cases_eq, or_cases, or_right}
use Rattle.lits.specs.Literal.{neg}
use Rattle.session_rules.specs.Logic.{has, hints_fail}
use Rattle.lits.proofs.Literal.{neg-neg}
use Rattle.lits.proofs.Sets.{tautology_from}
use Rattle.lits.proofs.Members.{here, there, not_in_nil, here_or_there, has_at, has_from, all_at}
use Rattle.propagation.specs.declared.TrailEntry.{TrailEntry}
use Rattle.propagation.specs.Clauses.{slot_of, active_at}
use Rattle.propagation.specs.Engine.{EngineView, IsEngine, IsFalseAt, IsOnce, literals, level_after, place_in, reason_in}
use Rattle.propagation.proofs.Cuts.{take_all}
use Rattle.propagation.proofs.Trail.{length-literals}
use Rattle.propagation.proofs.Closing.{consistent_trail}
use Rattle.propagation.proofs.Places.{no_place-absent, place-below}
use Rattle.search_laws.proofs.Asserting.{append_either}
use Rattle.search_laws.specs.Analysis.{IsAnalysed, needed}
use Rattle.search_laws.proofs.Placing.{lacks, level_after-assumed}
use Rattle.search_laws.proofs.Analysis.{forces, analysis-start, analysis-start_at, analysis-skip, analysis-keep, analysis-more, closing-end}
use Rattle.conflict_analysis.specs.declared.marks.Mark.{Mark}
use Rattle.conflict_analysis.specs.declared.marks.Mark.TheVariants as mark
use Rattle.conflict_analysis.specs.Marked.{is_pending, pending, IsClear}
use Rattle.conflict_analysis.specs.Walking.{IsClauseAt, IsActive, IsMarked, IsMore, IsOfClause}
use Rattle.conflict_analysis.specs.Cores.{IsAssumed, IsWanted, IsNeededBy, AreNeeded, IsTracing, IsCore}
use Rattle.conflict_analysis.proofs.Engines.{has_taken}
use Rattle.conflict_analysis.proofs.Ending.{take_none}
use Rattle.conflict_analysis.proofs.Stepping.{Below, below, default_same, pending-neg, forced_here, none_here, named, true_here, other_here, analysed_here, resolved, front_in, here_in, left_here}

once-push : (ls : List ℕ) (x : ℕ) → IsOnce ls → has ls x ≡ false → IsOnce (ls ++ x ∷ [])
once-push [] x o h = (refl, tt)
once-push (y ∷ ls) x o h = (
  lacks (ls ++ x ∷ []) y (λ q. elim (append_either ls x y (has_at (ls ++ x ∷ []) y q)) [
    | inl m ↦ both_ways _ o.0 (has_from ls y m)
    | inr r ↦ both_ways _ h (has_from (y ∷ ls) x (subst (λ z. Contains (y ∷ ls) z) r (here y ls)))
  ]),
  once-push ls x o.1 (lacks ls x (λ q. both_ways _ h (has_from (y ∷ ls) x (there y x ls (has_at ls x q))))),
)

map-push : (ls : List ℕ) (x : ℕ) → map neg (ls ++ x ∷ []) ≡ map neg ls ++ neg x ∷ []
map-push [] x = refl
map-push (y ∷ ls) x = ap (λ z. neg y ∷ z) (map-push ls x)

-- what is pending now was pending, or is of the clause
abbrev pub OnlyOf : EngineView → List Mark → List Mark → ℕ → Type 0
OnlyOf e ms ns s = (x : ℕ) → pending ns x ≡ true → (pending ms x ≡ true) ⊎ IsOfClause e s x

-- ---- Hints that are needed

wanted_more : (e : EngineView) (id l : ℕ) (hs : List ℕ) → IsWanted e hs l → IsWanted e (id ∷ hs) l
wanted_more e id l hs w = (w.0, w.1, or_right _ _ w.2, w.3, w.4)

needed_more : (e : EngineView) (id : ℕ) (hs : List ℕ) → IsNeededBy e id hs → AreNeeded e hs → AreNeeded e (id ∷ hs)
needed_more e id [] n h = tt
needed_more e id (x ∷ hs) n h = (n, h)

-- a false literal of a true one's variable is its negation
opposite_of : (e : EngineView) (x m : ℕ) → IsEngine e → has (literals e.trail) x ≡ true → has (literals e.trail) (neg m) ≡ true → x / 2 ≡ m / 2 → m ≡ neg x
opposite_of e x m k h f v = elim (cases_eq m x) [
  | inl q ↦ absurd (consistent_trail e k x h (subst (λ z. has (literals e.trail) (neg z) ≡ true) q f))
  | inr q ↦ omega (arith, q, v)
]

wanted_first : (e : EngineView) (id x m : ℕ) (c hs : List ℕ) → IsEngine e → active_at e.clauses id ≡ Some c → Contains c m → has (literals e.trail) x ≡ true → has (literals e.trail) (neg m) ≡ true → x / 2 ≡ m / 2 → IsWanted e (id ∷ hs) x
wanted_first e id x m c hs k at n h f v = (id, c, has_from (id ∷ hs) id (here id hs), at, subst (λ z. Contains c z) (opposite_of e x m k h f v) n)

module _ (e : EngineView) (k : IsEngine e) (i l : ℕ) (b : Below e i l) where
  -- a literal that the reason of the present one marks is one of those that it has negated
  wanted_here : (s id x : ℕ) (hs : List ℕ) → IsActive e s → slot_of e.clauses id ≡ Some s → reason_in e.trail l ≡ Some s → has (literals (take (i - 1) e.trail)) x ≡ true → IsOfClause e s x → IsWanted e (id ∷ hs) x
  wanted_here s id x hs a slot r h of =
      let n = named e k i l b s id a slot in
      let m = of id n.0 n.1 in
      elim ((forces e (take (i - 1) e.trail) b.after b.step id n.0 k b.split (forced_here e k i l b s id n.0 r n.1)).others m.0 m.1) [
        | inl q ↦ absurd (other_here e k i l b x h (m.2 ∙ ap (λ z. z / 2) (sym q ∙ b.lit)))
        | inr q ↦ wanted_first e id x m.0 n.0 hs k n.1.clause_is m.1 (has_taken e (i - 1) x h) (has_taken e (i - 1) (neg m.0) q) m.2
      ]

  later_here : (ls : List ℕ) → ((x : ℕ) → Contains ls x → has (literals (take i e.trail)) x ≡ false) → (x : ℕ) → Contains ls x → has (literals (take (i - 1) e.trail)) x ≡ false
  later_here ls h x m = lacks (literals (take (i - 1) e.trail)) x (λ y. both_ways _ (h x m) (front_in e k i l b x y))

  pub trace_skip : (ms : List Mark) (given core hints : List ℕ) → IsTracing e i ms given core hints → pending ms l ≡ false → IsTracing e (i - 1) ms given core hints
  trace_skip ms given core hints h p = record {
    within = let w = h.within in omega (arith, w);
    room = h.room;
    analysed = analysis-skip e k (take (i - 1) e.trail) b.step (pending ms) (map neg core) (reverse hints) (ap (pending ms) b.lit ∙ p) (analysed_here e k i l b ms (map neg core) (reverse hints) h.analysed);
    assumed = h.assumed;
    once = h.once;
    later = later_here core h.later;
    wanted = λ x m q. h.wanted x (front_in e k i l b x m) q;
    needed = h.needed;
  }

  pub trace_resolve : (ms ns : List Mark) (given core hints more : List ℕ) (s id : ℕ) → IsTracing e i ms given core hints → pending ms l ≡ true → IsActive e s → slot_of e.clauses id ≡ Some s → reason_in e.trail l ≡ Some s
      → IsMarked e ns s → OnlyOf e ms ns s → IsMore ms ns → length ns ≡ length ms → more ≡ hints ++ id ∷ [] → IsTracing e (i - 1) ns given core more
  trace_resolve ms ns given core hints more s id h p a at r marked only m len is = record {
    within = let w = h.within in omega (arith, w);
    room = let q = h.room in omega (arith, q, len);
    analysed = subst (λ z. IsAnalysed e.clauses (take (i - 1) e.trail) (pending ns) (map neg core) (reverse z)) (sym is) (resolved e k i l b ms ns (map neg core) hints s id a at r marked m h.analysed);
    assumed = h.assumed;
    once = h.once;
    later = later_here core h.later;
    wanted = λ x n q. subst (λ z. IsWanted e z x) (sym turned) (elim (only x q) [
      | inl y ↦ wanted_more e id x (reverse hints) (h.wanted x (front_in e k i l b x n) y)
      | inr y ↦ wanted_here s id x (reverse hints) a at r n y
    ]);
    needed = subst (AreNeeded e) (sym turned) (needed_more e id (reverse hints) (l, (s, at, r), h.wanted l (here_in e k i l b) p) h.needed);
  }
    where
      turned : reverse more ≡ id ∷ reverse hints
      turned = ap reverse is ∙ reverse-append hints (id ∷ [])

  pub trace_keep : (ms : List Mark) (given core more hints : List ℕ) → IsTracing e i ms given core hints → pending ms l ≡ true → reason_in e.trail l ≡ None → more ≡ core ++ l ∷ [] → IsTracing e (i - 1) ms given more hints
  trace_keep ms given core more hints h p r is = subst (λ z. IsTracing e (i - 1) ms given z hints) (sym is) (record {
    within = let w = h.within in omega (arith, w);
    room = h.room;
    analysed = subst (λ z. IsAnalysed e.clauses (take (i - 1) e.trail) (pending ms) z (reverse hints)) (ap (λ z. map neg core ++ neg z ∷ []) b.lit ∙ sym (map-push core l))
        (analysis-keep e k (take (i - 1) e.trail) b.step (pending ms) (map neg core) (reverse hints) (analysed_here e k i l b ms (map neg core) (reverse hints) h.analysed));
    assumed = λ x m. elim (append_either core l x m) [ inl y ↦ h.assumed x y | inr y ↦ inr (subst (IsAssumed e) (sym y) (true_here e k i l b, r)) ];
    once = once-push core l h.once (lacks core l (λ y. both_ways _ (h.later l (has_at core l y)) (here_in e k i l b)));
    later = λ x m. elim (append_either core l x m) [
      | inl y ↦ later_here core h.later x y
      | inr y ↦ subst (λ z. has (literals (take (i - 1) e.trail)) z ≡ false) (b.lit ∙ sym y) (k.entries (take (i - 1) e.trail) b.after b.step b.split).free.0
    ];
    wanted = λ x m q. h.wanted x (front_in e k i l b x m) q;
    needed = h.needed;
  })

  pub trace_visited : (ns rs : List Mark) (given core hints : List ℕ) → IsTracing e (i - 1) ns given core hints → rs ≡ set ns (l / 2) mark.Clear → IsTracing e (i - 1) rs given core hints
  trace_visited ns rs given core hints h is = subst (λ z. IsTracing e (i - 1) z given core hints) (sym is) (record {
    within = h.within;
    room = let q = h.room in let n = length-set ns (l / 2) mark.Clear in omega (arith, q, n);
    analysed = analysis-more e k (take (i - 1) e.trail) (pending ns) (pending (set ns (l / 2) mark.Clear)) (map neg core) (reverse hints) (λ x m q. left_here e k i l b ns x m ∙ q) h.analysed;
    assumed = h.assumed;
    once = h.once;
    later = h.later;
    wanted = λ x m q. h.wanted x m (sym (left_here e k i l b ns x m) ∙ q);
    needed = h.needed;
  })

-- where nothing is pending, it is at its end
pub trace_stops : (e : EngineView) (k : IsEngine e) (i : ℕ) (ms : List Mark) (given core hints : List ℕ) → IsTracing e i ms given core hints → ((x : ℕ) → pending ms x ≡ false) → IsTracing e 0 ms given core hints
trace_stops e k zero ms given core hints h n = h
trace_stops e k (suc i) ms given core hints h n =
    let w = h.within in
    let long = length-literals e.trail in
    let l = get_or (literals e.trail) (suc i - 1) 0 in
    let b = below e (suc i) l (literals e.trail) (omega arith) w refl (default_same (literals e.trail) (suc i - 1) 0 l (omega (arith, w, long))) in
    let same : suc i - 1 ≡ i = omega arith in
    trace_stops e k i ms given core hints (subst (λ z. IsTracing e z ms given core hints) same (trace_skip e k (suc i) l b ms given core hints h (n l))) n

-- ---- The end

pub trace_ends : (e : EngineView) (ms : List Mark) (given core hints : List ℕ) → IsEngine e → IsTracing e 0 ms given core hints → IsCore e given core (reverse hints)
trace_ends e ms given core hints k h = record {
  assumed = h.assumed;
  once = h.once;
  closes = λ ls m. closing-end (active_at e.clauses) (needed (take 0 e.trail) (pending ms) (map neg core)) (reverse hints) ls (λ l n. from_needed ls m l n) h.analysed.closing;
  no_id_twice = h.analysed.no_id_twice;
  needed = h.needed;
  ids_active = h.analysed.ids_active;
}
  where
    back : (xs : List ℕ) (l : ℕ) → Contains (map neg xs) (neg l) → Contains xs l
    back [] l m = absurd (not_in_nil (neg l) m)
    back (x ∷ xs) l m = elim (here_or_there (neg x) (neg l) (map neg xs) m) [
      | inl q ↦ subst (λ z. Contains (x ∷ xs) z) (sym (neg-neg x) ∙ ap neg q ∙ neg-neg l) (here x xs)
      | inr n ↦ there x l xs (back xs l n)
    ]

    from_needed : (ls : List ℕ) → ((l : ℕ) → Contains core l → Contains ls l) → (l : ℕ) → needed (take 0 e.trail) (pending ms) (map neg core) l ≡ true → has ls l ≡ true
    from_needed ls m l n = elim (or_cases _ _ n) [
      | inl y ↦ has_from ls l (m l (back core l (has_at (map neg core) (neg l) y)))
      | inr y ↦ let f = subst (λ z. has (literals z) l && pending ms l ≡ true) (take_none e.trail) y in cc f
    ]

-- ---- The start

-- at a false clause
pub conflict_starts : (e : EngineView) (s id n : ℕ) (ms : List Mark) (core hints : List ℕ) → IsEngine e → IsFalseAt e s → e.vars ≤ length ms → IsMarked e ms s → ((x : ℕ) → pending ms x ≡ true → IsOfClause e s x)
    → slot_of e.clauses id ≡ Some s → core ≡ [] → hints ≡ id ∷ [] → n ≡ length e.trail → IsTracing e n ms core core hints
conflict_starts e s id n ms core hints k f room marked only slot none is len =
    let same : id ≡ f.0 = k.slots_apart id f.0 s slot f.2 in
    let clause : active_at e.clauses id ≡ Some f.1 = ap (active_at e.clauses) same ∙ f.3 in
    let at : IsClauseAt e s id f.1 = record { slot_is = slot; clause_is = clause } in
    let whole : take n e.trail ≡ e.trail = take_all e.trail n (omega (arith, len)) in
    let r = analysis-start e k (pending ms) id s f.1 slot clause f.4 (λ m x. pending-neg ms m ∙ marked id f.1 at m x) in
    subst (λ z. IsTracing e n ms z z hints) (sym none) (record {
      within = omega (arith, len);
      room = room;
      analysed = subst (λ z. IsAnalysed e.clauses z (pending ms) [] (reverse hints)) (sym whole) (subst (λ z. IsAnalysed e.clauses e.trail (pending ms) [] (reverse z)) (sym is) r);
      assumed = λ l m. inl m;
      once = tt;
      later = λ l m. absurd (not_in_nil l m);
      wanted = λ x m q. let o = only x q id f.1 at in
          subst (λ z. IsWanted e (reverse z) x) (sym is) (wanted_first e id x o.0 f.1 [] k clause o.1 (has_taken e n x m) (all_at (λ y. has (literals e.trail) (neg y)) f.1 o.0 f.4 o.1) o.2);
      needed = subst (λ z. AreNeeded e (reverse z)) (sym is) tt;
    })

-- the place that is asked for, of a literal that is on the trail
pub placed_at : (e : EngineView) (o p : ℕ) (r : Option ℕ) → has (literals e.trail) o ≡ true → r ≡ place_in (literals e.trail) o → p ≡ unwrap_or r 0 → Some p ≡ place_in (literals e.trail) o
placed_at e o p None h at is = absurd (both_ways _ (no_place-absent e.trail o at) h)
placed_at e o p (Some q) h at is = ap Some is ∙ at

pub below_place : (e : EngineView) (o p : ℕ) → Some p ≡ place_in (literals e.trail) o → Below e (suc p) o
below_place e o p at =
    let r = position-Some (nat_eq o) (literals e.trail) p 0 (sym at) in
    let lt = place-below e.trail o p at in
    let same : p ≡ suc p - 1 = omega arith in
    below e (suc p) o (literals e.trail) (omega arith) (omega (arith, lt)) refl (eqb-true o _ r.1 ∙ default_same (literals e.trail) p 0 o r.0 ∙ ap (λ z. get_or (literals e.trail) z o) same)

one_of : (l x : ℕ) → Contains (l ∷ []) x → x ≡ l
one_of l x m = elim (here_or_there l x [] m) [ inl q ↦ sym q | inr n ↦ absurd (not_in_nil x n) ]

-- at a false assumption, its own literal's mark taken off
pub assumption_starts : (e : EngineView) (p l s id : ℕ) (ns rs : List Mark) (core hints : List ℕ) → (k : IsEngine e) → Some p ≡ place_in (literals e.trail) (neg l) → has (literals e.trail) (neg l) ≡ true
    → reason_in e.trail (neg l) ≡ Some s → IsActive e s → slot_of e.clauses id ≡ Some s → IsMarked e ns s → ((x : ℕ) → pending ns x ≡ true → IsOfClause e s x) → e.vars ≤ length ns → core ≡ l ∷ [] → hints ≡ id ∷ [] → rs ≡ set ns (neg l / 2) mark.Clear
    → IsTracing e p rs core core hints
assumption_starts e p l s id ns rs core hints k at h r a slot marked of room is only cleared =
    let b = below_place e (neg l) p at in
    let n = named e k (suc p) (neg l) b s id a slot in
    let w = place-below e.trail (neg l) p at in
    let start = analysis-start_at e k (take (suc p - 1) e.trail) b.after b.step (pending ns) id n.0 b.split (forced_here e k (suc p) (neg l) b s id n.0 r n.1) (λ m x. inr (pending-neg ns m ∙ marked id n.0 n.1 m x)) in
    let same : suc p - 1 ≡ p = omega arith in
    let begun : IsTracing e (suc p - 1) ns (l ∷ []) (l ∷ []) (id ∷ []) = record {
      within = omega (arith, w);
      room = room;
      analysed = subst (λ z. IsAnalysed e.clauses (take (suc p - 1) e.trail) (pending ns) (z ∷ []) (id ∷ [])) b.lit start;
      assumed = λ x m. inl m;
      once = (refl, tt);
      later = λ x m. lacks (literals (take (suc p - 1) e.trail)) x (λ y. consistent_trail e k l (subst (λ z. has (literals e.trail) z ≡ true) (one_of l x m) (has_taken e (suc p - 1) x y)) h);
      wanted = λ x m q. wanted_here e k (suc p) (neg l) b s id x [] a slot r m (of x q);
      needed = tt;
    } in
    subst (λ z. IsTracing e p rs z z hints) (sym is) (subst (λ z. IsTracing e p rs (l ∷ []) (l ∷ []) z) (sym only)
    (subst (λ z. IsTracing e z rs (l ∷ []) (l ∷ []) (id ∷ [])) same (trace_visited e k (suc p) (neg l) b ns rs (l ∷ []) (l ∷ []) (id ∷ []) begun cleared)))

-- a literal and its negation close by themselves
pub opposites_close : (e : EngineView) (l : ℕ) (core hints : List ℕ) → IsEngine e → has (literals e.trail) (neg l) ≡ true → reason_in e.trail (neg l) ≡ None → core ≡ l ∷ neg l ∷ [] → hints ≡ [] → IsCore e (l ∷ []) core (reverse hints)
unfolding hints_fail
opposites_close e l core hints k h r is none = subst (λ z. IsCore e (l ∷ []) z (reverse hints)) (sym is) (subst (λ z. IsCore e (l ∷ []) (l ∷ neg l ∷ []) (reverse z)) (sym none) (record {
  assumed = λ x m. elim (here_or_there l x (neg l ∷ []) m) [
    | inl q ↦ inl (subst (λ z. Contains (l ∷ []) z) q (here l []))
    | inr n ↦ inr (subst (IsAssumed e) (sym (one_of (neg l) x n)) (h, r))
  ];
  once = (lacks (neg l ∷ []) l (λ y. let q = one_of (neg l) l (has_at (neg l ∷ []) l y) in absurd (omega (arith, q))), (refl, tt));
  closes = λ ls m. rw (tautology_from ls l (m l (here l (neg l ∷ []))) (m (neg l) (there l (neg l) (neg l ∷ []) (here (neg l) [])))) refl;
  no_id_twice = tt;
  needed = tt;
  ids_active = λ id y. cc y;
}))

pub none_unless : (r : Option ℕ) → ((s : ℕ) → r ≡ Some s → ⊥) → r ≡ None
none_unless None h = refl
none_unless (Some s) h = absurd (h s refl)

-- the entry of a literal that was assumed
pub record AssumedEntry (ss : List TrailEntry) (x : ℕ) : Type 0 where
  pub before : List TrailEntry
  pub step : TrailEntry
  pub after : List TrailEntry
  pub split : ss ≡ before ++ step ∷ after
  pub lit : step.lit ≡ x
  pub reason : step.reason ≡ None

pub assumed_entry : (e : EngineView) (x : ℕ) → IsEngine e → IsAssumed e x → AssumedEntry e.trail x
assumed_entry e x k a =
    let p = unwrap_or (place_in (literals e.trail) x) 0 in
    let b = below_place e x p (placed_at e x p (place_in (literals e.trail) x) a.0 refl refl) in
    record { before = take (suc p - 1) e.trail; step = b.step; after = b.after; split = b.split; lit = b.lit; reason = none_here e k (suc p) x b a.1 }

-- which is above level 0
assumed_above : (e : EngineView) (x : ℕ) → IsEngine e → IsAssumed e x → level_after e.trail ≡ 0 → ⊥
assumed_above e x k a none =
    let b = assumed_entry e x k a in
    let f = level_after-assumed b.before b.after b.step b.reason in
    let g : level_after e.trail ≡ _ = ap level_after b.split ∙ f in
    omega (arith, g, none)

pub no_core_at_zero : (e : EngineView) (core hints : List ℕ) → IsEngine e → IsCore e [] core hints → level_after e.trail ≡ 0 → core ≡ []
no_core_at_zero e [] hints k h none = refl
no_core_at_zero e (x ∷ core) hints k h none = elim (h.assumed x (here x core)) [
  | inl m ↦ absurd (not_in_nil x m)
  | inr a ↦ absurd (assumed_above e x k a none)
]

-- where nothing was marked, what is pending is of the clause
pub only_new : {P : ℕ → Type 0} → (ms ns : List Mark) → IsClear ms → ((x : ℕ) → pending ns x ≡ true → (pending ms x ≡ true) ⊎ P x) → (x : ℕ) → pending ns x ≡ true → P x
only_new ms ns h only x p = elim (only x p) [ inl y ↦ absurd (both_ways _ (ap is_pending (h (x / 2))) y) | inr y ↦ y ]
