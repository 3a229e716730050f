-- The steps of an analysis down the trail.
use Rattle.std.proofs.Common.{◌≡◌, ℕ, zero, suc, ◌+◌, ◌-◌, ◌/◌, ◌<◌, ◌≤◌, ◌⊎◌, Bool, true, false, ◌&&◌, List, [], ◌∷◌, ◌++◌, length, take, drop, filter, get_or, set, reverse, Contains, Some, None, refl, sym, ◌∙◌, ap, subst, inl, inr, arith, append_assoc}
use Rattle.std.specs.Prelude.{is_none}
use Rattle.std.proofs.lemmas.List.{reverse-append, length-set}
use Rattle.std.proofs.lemmas.Bool.{cases_Bool, both_ways, and_parts, and_from, cases_eq}
use Rattle.lits.specs.Literal.{neg}
use Rattle.session_rules.specs.Logic.{has}
use Rattle.lits.proofs.Literal.{neg-neg}
use Rattle.lits.proofs.Members.{here, there, not_in_nil, here_or_there, has_at, has_from}
use Rattle.propagation.specs.declared.TrailEntry.{TrailEntry}
use Rattle.propagation.specs.Assigned.{AreNew}
use Rattle.propagation.specs.Clauses.{slot_of, active_at}
use Rattle.propagation.specs.Engine.{EngineView, IsEngine, literals, level_after, up_to_level, reason_in}
use Rattle.propagation.proofs.Levels.{up_to_level-prefix, up_to_level-assumed}
use Rattle.propagation.proofs.Trail.{new_entries, literals-push, length-literals}
use Rattle.propagation.proofs.Assigning.{reason_at, reserved-true}
use Rattle.search_laws.specs.Asserting.{IsPicked}
use Rattle.search_laws.specs.Analysis.{IsAnalysed, IsForcedBy}
use Rattle.propagation.proofs.Parts.{has-front, has-back, later-free}
use Rattle.search_laws.proofs.Placing.{lacks, has-first, split_parts, stays-at, level_after-assumed}
use Rattle.search_laws.proofs.Asserting.{append_either, picks-skip, picks-keep}
use Rattle.search_laws.proofs.Analysis.{forces, analysis-skip, analysis-keep, analysis-more, analysis-resolve}
use Rattle.conflict_analysis.specs.declared.marks.Mark.{Mark}
use Rattle.conflict_analysis.specs.declared.marks.Mark.TheVariants as mark
use Rattle.conflict_analysis.specs.Marked.{is_pending, pending}
use Rattle.conflict_analysis.proofs.Marking.{pending-other, count-same}
use Rattle.conflict_analysis.specs.Walking.{IsClauseAt, IsActive, IsMarked, IsMore, IsSearching, IsWalking, lower_trail, is_top, count_top}

-- ---- The step at a place

-- as in propagation, with what stands behind the place
record Cut (xs : List TrailEntry) (i : ℕ) : Type 0 where
  pub entry : TrailEntry
  pub split : xs ≡ take i xs ++ entry ∷ drop (suc i) xs
  pub longer : take (suc i) xs ≡ take i xs ++ entry ∷ []
  pub rest : drop i xs ≡ entry ∷ drop (suc i) xs
  pub lit : get_or (literals xs) i 0 ≡ entry.lit

cut : (xs : List TrailEntry) (i : ℕ) → i < length xs → Cut xs i
cut [] i lt = absurd (omega arith)
cut (x ∷ xs) zero lt = record { entry = x; split = refl; longer = refl; rest = refl; lit = refl }
cut (x ∷ xs) (suc i) lt = let r = cut xs i (omega arith) in record { entry = r.entry; split = ap (λ z. x ∷ z) r.split; longer = ap (λ z. x ∷ z) r.longer; rest = r.rest; lit = r.lit }

-- the one below a place
pub record Below (e : EngineView) (i l : ℕ) : Type 0 where
  pub step : TrailEntry
  pub after : List TrailEntry
  pub split : e.trail ≡ take (i - 1) e.trail ++ step ∷ after
  pub longer : take i e.trail ≡ take (i - 1) e.trail ++ step ∷ []
  pub rest : drop (i - 1) e.trail ≡ step ∷ after
  pub behind : drop i e.trail ≡ after
  pub lit : step.lit ≡ l

pub default_same : (ls : List ℕ) (i d x : ℕ) → i < length ls → get_or ls i d ≡ get_or ls i x
default_same [] i d x lt = absurd (omega arith)
default_same (y ∷ ls) zero d x lt = refl
default_same (y ∷ ls) (suc i) d x lt = default_same ls i d x (omega arith)

pub below : (e : EngineView) (i l : ℕ) (ls : List ℕ) → 0 < i → i ≤ length e.trail → ls ≡ literals e.trail → l ≡ get_or ls (i - 1) l → Below e i l
below e i l ls pos within same is =
    let r = cut e.trail (i - 1) (omega (arith, pos, within)) in
    let s : suc (i - 1) ≡ i = omega (arith, pos) in
    let n = length-literals e.trail in
    record {
      step = r.entry;
      after = drop (suc (i - 1)) e.trail;
      split = r.split;
      longer = ap (λ z. take z e.trail) (sym s) ∙ r.longer;
      rest = r.rest;
      behind = ap (λ z. drop z e.trail) (sym s);
      lit = sym r.lit ∙ default_same (literals e.trail) (i - 1) 0 l (omega (arith, pos, within, n)) ∙ ap (λ z. get_or z (i - 1) l) (sym same) ∙ sym is;
    }

-- ---- The part of the trail below the present level

pub lower_front : (e : EngineView) (before after : List TrailEntry) (s : TrailEntry) → IsEngine e → e.trail ≡ before ++ s ∷ after → has (literals (lower_trail e)) s.lit ≡ true
    → (x : ℕ) → has (literals (before ++ s ∷ [])) x ≡ true → has (literals (lower_trail e)) x ≡ true
lower_front e before after s k at h x m =
    let p = up_to_level-prefix (level_after e.trail - 1) e.trail in
    elim (split_parts (lower_trail e) p.0 before after s (sym p.1 ∙ at)) [
      | inl r ↦
          let whole : lower_trail e ≡ (before ++ s ∷ []) ++ r.0 = r.1 ∙ sym (append_assoc before (s ∷ []) r.0) in
          subst (λ z. has (literals z) x ≡ true) (sym whole) (has-front (before ++ s ∷ []) r.0 x m)
      | inr r ↦
          let late : has (literals p.0) s.lit ≡ true = subst (λ z. has (literals z) s.lit ≡ true) (sym r.1) (has-back r.0 (s ∷ after) s.lit (has-first s after)) in
          absurd (both_ways _ (later-free e.vars e.trail (lower_trail e) p.0 s.lit (new_entries e k) p.1 late).0 h)
    ]

-- below an assumed literal of the present level all is of lower levels
pub lower_assumed : (e : EngineView) (before after : List TrailEntry) (s : TrailEntry) → e.trail ≡ before ++ s ∷ after → s.reason ≡ None → has (literals (lower_trail e)) s.lit ≡ false → lower_trail e ≡ before
lower_assumed e before after s at r f =
    let whole : level_after e.trail ≡ level_after (before ++ s ∷ after) = ap level_after at in
    let a = level_after-assumed before after s r in
    let b = level_after-assumed before [] s r in
    let low : level_after (before ++ s ∷ []) ≤ level_after e.trail - 1 → ⊥ =
    λ le. both_ways _ f (subst (λ z. has (literals (up_to_level (level_after e.trail - 1) z)) s.lit ≡ true) (sym at) (stays-at (level_after e.trail - 1) before after s le)) in
    let same : level_after e.trail - 1 ≡ level_after before = number (level_after e.trail) (level_after (before ++ s ∷ [])) (level_after before) (level_after after) (whole ∙ a) b low in
    ap (λ z. up_to_level z e.trail) same ∙ ap (up_to_level (level_after before)) at ∙ up_to_level-assumed before after s (ap is_none r)
  where
    number : (n b x y : ℕ) → n ≡ x + suc y → b ≡ x + 1 → (b ≤ n - 1 → ⊥) → n - 1 ≡ x
    number n b x y p q h = omega (arith, p, q, h)

-- ---- Counts

count-push : (p : ℕ → Bool) (ls : List ℕ) (x : ℕ) → p x ≡ true → length (filter p (ls ++ x ∷ [])) ≡ length (filter p ls) + 1
count-push p [] x h = rw h (omega arith)
count-push p (y ∷ ls) x h = let r = count-push p ls x h in elim (cases_Bool (p y)) [ inl q ↦ rw q (omega (arith, r)) | inr q ↦ rw q r ]

count-pass : (p : ℕ → Bool) (ls : List ℕ) (x : ℕ) → p x ≡ false → length (filter p (ls ++ x ∷ [])) ≡ length (filter p ls)
count-pass p [] x h = rw h refl
count-pass p (y ∷ ls) x h = let r = count-pass p ls x h in elim (cases_Bool (p y)) [ inl q ↦ rw q (ap suc r) | inr q ↦ rw q r ]

pub count-none : (p : ℕ → Bool) (ls : List ℕ) → ((x : ℕ) → Contains ls x → p x ≡ false) → length (filter p ls) ≡ 0
count-none p [] h = refl
count-none p (y ∷ ls) h = rw (h y (here y ls)) (count-none p ls (λ x m. h x (there y x ls m)))

pub none-counted : (p : ℕ → Bool) (ls : List ℕ) → length (filter p ls) ≡ 0 → (x : ℕ) → Contains ls x → p x ≡ false
none-counted p [] z x m = absurd (not_in_nil x m)
none-counted p (y ∷ ls) z x m = elim (cases_Bool (p y)) [
  | inl q ↦ let f : suc (length (filter p ls)) ≡ 0 = rw q at z in absurd (omega (arith, f))
  | inr q ↦ let f : length (filter p ls) ≡ 0 = rw q at z in elim (here_or_there y x ls m) [
    | inl r ↦ subst (λ w. p w ≡ false) r q
    | inr r ↦ none-counted p ls f x r
  ]
]

count-le : (p q : ℕ → Bool) (ls : List ℕ) → ((x : ℕ) → p x ≡ true → q x ≡ true) → length (filter p ls) ≤ length (filter q ls)
count-le p q [] h = omega arith
count-le p q (y ∷ ls) h = let r = count-le p q ls h in elim (cases_Bool (p y)) [
  | inl a ↦ rw (a, h y a) (omega (arith, r))
  | inr a ↦ elim (cases_Bool (q y)) [ inl b ↦ rw (a, b) (omega (arith, r)) | inr b ↦ rw (a, b) r ]
]

pub count-more_marks : (e : EngineView) (ms ns : List Mark) (ls : List ℕ) → IsMore ms ns → count_top e ms ls ≤ count_top e ns ls
count-more_marks e ms ns ls h = count-le (λ l. is_top e l && pending ms l) (λ l. is_top e l && pending ns l) ls (λ x y. let r = and_parts _ _ y in and_from _ _ r.0 (h x r.1))

pub pending-neg : (ms : List Mark) (m : ℕ) → pending ms (neg m) ≡ pending ms m
pending-neg ms m = let v : neg m / 2 ≡ m / 2 = omega arith in ap (λ z. is_pending (get_or ms z mark.Clear)) v

-- ---- One step

module _ (e : EngineView) (k : IsEngine e) (i l : ℕ) (b : Below e i l) where
  pub true_here : has (literals e.trail) l ≡ true
  true_here = subst (λ z. has (literals e.trail) z ≡ true) b.lit (subst (λ z. has (literals z) b.step.lit ≡ true) (sym b.split) (has-back (take (i - 1) e.trail) (b.step ∷ b.after) b.step.lit (has-first b.step b.after)))

  pub room_here : (n : ℕ) → e.vars ≤ n → l / 2 < n
  room_here n h = let r = reserved-true e.vars e.trail l (new_entries e k) true_here in omega (arith, r, h)

  -- the reason that the engine names is the step's
  reason_here : (s : ℕ) → reason_in e.trail l ≡ Some s → b.step.reason ≡ Some s
  reason_here s h =
      let n = subst (λ z. AreNew e.vars z) b.split (new_entries e k) in
      sym (reason_at e.vars (take (i - 1) e.trail) b.after b.step n) ∙ ap (λ z. reason_in z b.step.lit) (sym b.split) ∙ ap (reason_in e.trail) b.lit ∙ h

  pub none_here : reason_in e.trail l ≡ None → b.step.reason ≡ None
  none_here h =
      let n = subst (λ z. AreNew e.vars z) b.split (new_entries e k) in
      sym (reason_at e.vars (take (i - 1) e.trail) b.after b.step n) ∙ ap (λ z. reason_in z b.step.lit) (sym b.split) ∙ ap (reason_in e.trail) b.lit ∙ h

  pub forced_here : (s id : ℕ) (c : List ℕ) → reason_in e.trail l ≡ Some s → IsClauseAt e s id c → IsForcedBy e.clauses b.step id c
  forced_here s id c h at = record { slot = s; reason_is = reason_here s h; slot_is = at.slot_is; clause_is = at.clause_is }

  -- the other literals of the reason are false by the steps before
  pub open_here : (ms : List Mark) (s : ℕ) → pending ms l ≡ true → reason_in e.trail l ≡ Some s → (id : ℕ) (c : List ℕ) → IsClauseAt e s id c → (m : ℕ) → Contains c m
      → (pending ms m ≡ true) ⊎ (has (literals (take (i - 1) e.trail)) (neg m) ≡ true)
  open_here ms s p h id c at m n = elim ((forces e (take (i - 1) e.trail) b.after b.step id c k b.split (forced_here s id c h at)).others m n) [
    | inl q ↦ inl (subst (λ z. pending ms z ≡ true) (sym b.lit ∙ q) p)
    | inr q ↦ inr q
  ]

  -- the clause of a slot has the id that the store names
  pub named : (s id : ℕ) → IsActive e s → slot_of e.clauses id ≡ Some s → (c : List ℕ) × IsClauseAt e s id c
  named s id a h = let same : id ≡ a.0 = k.slots_apart id a.0 s h a.2.slot_is in (a.1, record { slot_is = h; clause_is = ap (active_at e.clauses) same ∙ a.2.clause_is })

  pub analysed_here : (ms : List Mark) (lemma hints : List ℕ) → IsAnalysed e.clauses (take i e.trail) (pending ms) lemma hints → IsAnalysed e.clauses (take (i - 1) e.trail ++ b.step ∷ []) (pending ms) lemma hints
  analysed_here ms lemma hints h = subst (λ z. IsAnalysed e.clauses z (pending ms) lemma hints) b.longer h

  pub resolved : (ms ns : List Mark) (lemma hints : List ℕ) (s id : ℕ) → IsActive e s → slot_of e.clauses id ≡ Some s → reason_in e.trail l ≡ Some s → IsMarked e ns s → IsMore ms ns
      → IsAnalysed e.clauses (take i e.trail) (pending ms) lemma (reverse hints) → IsAnalysed e.clauses (take (i - 1) e.trail) (pending ns) lemma (reverse (hints ++ id ∷ []))
  resolved ms ns lemma hints s id a at h marked more an =
      let c = named s id a at in
      subst (λ z. IsAnalysed e.clauses (take (i - 1) e.trail) (pending ns) lemma z) (sym (reverse-append hints (id ∷ [])))
      (analysis-resolve e k (take (i - 1) e.trail) b.after b.step (pending ms) (pending ns) lemma (reverse hints) id c.0 b.split (forced_here s id c.0 h c.1)
      (λ m n. inr (pending-neg ns m ∙ marked id c.0 c.1 m n)) (λ x p q. more x q) (analysed_here ms lemma (reverse hints) an))

  literals_here : literals (take i e.trail) ≡ literals (take (i - 1) e.trail) ++ l ∷ []
  literals_here = ap literals b.longer ∙ literals-push (take (i - 1) e.trail) b.step ∙ ap (λ z. literals (take (i - 1) e.trail) ++ z ∷ []) b.lit

  lower_here : has (literals (lower_trail e)) l ≡ true → (x : ℕ) → has (literals (take i e.trail)) x ≡ true → has (literals (lower_trail e)) x ≡ true
  lower_here h x m = lower_front e (take (i - 1) e.trail) b.after b.step k b.split (subst (λ z. has (literals (lower_trail e)) z ≡ true) (sym b.lit) h) x (subst (λ z. has (literals z) x ≡ true) b.longer m)

  -- the latest pending literal is of the present level while one is
  top_here : (ms : List Mark) (count : ℕ) → count ≡ count_top e ms (literals (take i e.trail)) → 0 < count → has (literals (lower_trail e)) l ≡ false
  top_here ms count is pos = lacks (literals (lower_trail e)) l (λ h.
      let z = count-none (λ x. is_top e x && pending ms x) (literals (take i e.trail)) (λ x m. not_top x (lower_here h x (has_from (literals (take i e.trail)) x m)) (pending ms x)) in
      omega (arith, is, pos, z))
    where
      not_top : (x : ℕ) → has (literals (lower_trail e)) x ≡ true → (q : Bool) → (is_top e x && q) ≡ false
      not_top x h q = rw h refl

  counted_here : (ms : List Mark) → has (literals (lower_trail e)) l ≡ false → pending ms l ≡ true → count_top e ms (literals (take i e.trail)) ≡ count_top e ms (literals (take (i - 1) e.trail)) + 1
  counted_here ms t p = ap (count_top e ms) literals_here ∙ count-push (λ x. is_top e x && pending ms x) (literals (take (i - 1) e.trail)) l (and_from _ _ (top t) p)
    where
      top : has (literals (lower_trail e)) l ≡ false → is_top e l ≡ true
      top t = rw t refl

  pub count_here : (ms : List Mark) (hints : List ℕ) (count : ℕ) → IsSearching e i ms hints count → pending ms l ≡ true → count - 1 ≡ count_top e ms (literals (take (i - 1) e.trail))
  count_here ms hints count h p =
      let c = counted_here ms (top_here ms count h.count_is h.some) p in let is = h.count_is in omega (arith, c, is)

  pub search_skip : (ms : List Mark) (hints : List ℕ) (count : ℕ) → IsSearching e i ms hints count → pending ms l ≡ false → IsSearching e (i - 1) ms hints count
  search_skip ms hints count h p = record {
    within = let w = h.within in omega (arith, w);
    room = h.room;
    analysed = analysis-skip e k (take (i - 1) e.trail) b.step (pending ms) [] (reverse hints) (ap (pending ms) b.lit ∙ p) (analysed_here ms [] (reverse hints) h.analysed);
    count_is = h.count_is ∙ ap (count_top e ms) literals_here ∙ count-pass (λ x. is_top e x && pending ms x) (literals (take (i - 1) e.trail)) l (second (is_top e l) (pending ms l) p);
    some = h.some;
  }
    where
      second : (x y : Bool) → y ≡ false → (x && y) ≡ false
      second true y q = q
      second false y q = refl

  pub search_resolve : (ms ns : List Mark) (hints more : List ℕ) (count now s id : ℕ) → IsSearching e i ms hints count → pending ms l ≡ true → 1 < count → IsActive e s → slot_of e.clauses id ≡ Some s
      → reason_in e.trail l ≡ Some s → IsMarked e ns s → IsMore ms ns → length ns ≡ length ms → more ≡ hints ++ id ∷ [] → now ≡ count_top e ns (literals (take (i - 1) e.trail)) → IsSearching e (i - 1) ns more now
  search_resolve ms ns hints more count now s id h p gt a at r marked m len is c = record {
    within = let w = h.within in omega (arith, w);
    room = let q = h.room in omega (arith, q, len);
    analysed = subst (λ z. IsAnalysed e.clauses (take (i - 1) e.trail) (pending ns) [] (reverse z)) (sym is) (resolved ms ns [] hints s id a at r marked m h.analysed);
    count_is = c;
    some = let q = count_here ms hints count h p in let g = count-more_marks e ms ns (literals (take (i - 1) e.trail)) m in omega (arith, q, g, gt, c);
  }

  pub search_found : (ms : List Mark) (hints lemma : List ℕ) (count : ℕ) → IsSearching e i ms hints count → pending ms l ≡ true → (reason_in e.trail l ≡ None) ⊎ (count ≤ 1) → lemma ≡ neg l ∷ []
      → IsWalking e (i - 1) ms lemma hints
  search_found ms hints lemma count h p why is = record {
    within = let w = h.within in omega (arith, w);
    room = h.room;
    analysed = subst (λ z. IsAnalysed e.clauses (take (i - 1) e.trail) (pending ms) z (reverse hints)) (ap (λ z. neg z ∷ []) b.lit ∙ sym is)
        (analysis-keep e k (take (i - 1) e.trail) b.step (pending ms) [] (reverse hints) (analysed_here ms [] (reverse hints) h.analysed));
    picked = subst (λ z. IsPicked (take (i - 1) e.trail) (drop (i - 1) e.trail) z) (ap (λ z. neg z ∷ []) b.lit ∙ sym is)
        (subst (λ z. IsPicked (take (i - 1) e.trail) z (neg b.step.lit ∷ [])) (sym b.rest)
        (picks-keep e (take (i - 1) e.trail) b.after b.step [] k b.split (record { order = tt; once = tt; behind = λ x m. absurd (not_in_nil x m) })));
    lower = λ x m q. elim why [
      | inl n ↦ subst (λ z. has (literals z) x ≡ true) (sym (lower_assumed e (take (i - 1) e.trail) b.after b.step b.split (none_here n) (subst (λ z. has (literals (lower_trail e)) z ≡ false) (sym b.lit) (top_here ms count h.count_is h.some)))) m
      | inr n ↦
          let c = count_here ms hints count h p in
          let z = none-counted (λ y. is_top e y && pending ms y) (literals (take (i - 1) e.trail)) (omega (arith, c, n)) x (has_at (literals (take (i - 1) e.trail)) x m) in
          not_top x (pending ms x) q z
    ];
    first = neg l;
    rest = [];
    lemma_is = is;
    first_top = subst (λ z. has (literals (lower_trail e)) z ≡ false) (sym (neg-neg l)) (top_here ms count h.count_is h.some);
    rest_lower = λ m n. absurd (not_in_nil m n);
  }
    where
      not_top : (x : ℕ) (q : Bool) → q ≡ true → (is_top e x && q) ≡ false → has (literals (lower_trail e)) x ≡ true
      not_top x q y z = elim (cases_Bool (has (literals (lower_trail e)) x)) [
        | inl a ↦ a
        | inr a ↦ let t : is_top e x ≡ true = rw a refl in absurd (both_ways _ z (and_from _ _ t y))
      ]

  -- ---- Behind the literal that alone is pending

  pub front_in : (x : ℕ) → has (literals (take (i - 1) e.trail)) x ≡ true → has (literals (take i e.trail)) x ≡ true
  front_in x m = subst (λ z. has (literals z) x ≡ true) (sym b.longer) (has-front (take (i - 1) e.trail) (b.step ∷ []) x m)

  pub here_in : has (literals (take i e.trail)) l ≡ true
  here_in = subst (λ z. has (literals (take i e.trail)) z ≡ true) b.lit (subst (λ z. has (literals z) b.step.lit ≡ true) (sym b.longer) (has-back (take (i - 1) e.trail) (b.step ∷ []) b.step.lit (has-first b.step [])))

  picked_here : (lemma : List ℕ) → IsPicked (take i e.trail) (drop i e.trail) lemma → IsPicked (take (i - 1) e.trail ++ b.step ∷ []) b.after lemma
  picked_here lemma p = subst (λ z. IsPicked z b.after lemma) b.longer (subst (λ z. IsPicked (take i e.trail) z lemma) b.behind p)

  picked_skip : (lemma : List ℕ) → IsPicked (take i e.trail) (drop i e.trail) lemma → IsPicked (take (i - 1) e.trail) (drop (i - 1) e.trail) lemma
  picked_skip lemma p = subst (λ z. IsPicked (take (i - 1) e.trail) z lemma) (sym b.rest) (picks-skip (take (i - 1) e.trail) b.after b.step lemma (picked_here lemma p))

  pub walk_skip : (ms : List Mark) (lemma hints : List ℕ) → IsWalking e i ms lemma hints → pending ms l ≡ false → IsWalking e (i - 1) ms lemma hints
  walk_skip ms lemma hints h p = record {
    within = let w = h.within in omega (arith, w);
    room = h.room;
    analysed = analysis-skip e k (take (i - 1) e.trail) b.step (pending ms) lemma (reverse hints) (ap (pending ms) b.lit ∙ p) (analysed_here ms lemma (reverse hints) h.analysed);
    picked = picked_skip lemma h.picked;
    lower = λ x m q. h.lower x (front_in x m) q;
    first = h.first;
    rest = h.rest;
    lemma_is = h.lemma_is;
    first_top = h.first_top;
    rest_lower = h.rest_lower;
  }

  pub walk_keep : (ms ns : List Mark) (lemma more hints : List ℕ) → IsWalking e i ms lemma hints → pending ms l ≡ true → ((x : ℕ) → pending ns x ≡ pending ms x) → length ns ≡ length ms
      → more ≡ lemma ++ neg l ∷ [] → IsWalking e (i - 1) ns more hints
  walk_keep ms ns lemma more hints h p same len is = record {
    within = let w = h.within in omega (arith, w);
    room = let q = h.room in omega (arith, q, len);
    analysed = subst (λ z. IsAnalysed e.clauses (take (i - 1) e.trail) (pending ns) z (reverse hints)) (ap (λ z. lemma ++ neg z ∷ []) b.lit ∙ sym is)
        (analysis-more e k (take (i - 1) e.trail) (pending ms) (pending ns) (lemma ++ neg b.step.lit ∷ []) (reverse hints) (λ x m q. same x ∙ q)
        (analysis-keep e k (take (i - 1) e.trail) b.step (pending ms) lemma (reverse hints) (analysed_here ms lemma (reverse hints) h.analysed)));
    picked = subst (λ z. IsPicked (take (i - 1) e.trail) (drop (i - 1) e.trail) z) (ap (λ z. lemma ++ neg z ∷ []) b.lit ∙ sym is)
        (subst (λ z. IsPicked (take (i - 1) e.trail) z (lemma ++ neg b.step.lit ∷ [])) (sym b.rest)
        (picks-keep e (take (i - 1) e.trail) b.after b.step lemma k b.split (picked_here lemma h.picked)));
    lower = λ x m q. h.lower x (front_in x m) (sym (same x) ∙ q);
    first = h.first;
    rest = h.rest ++ neg l ∷ [];
    lemma_is = is ∙ ap (λ z. z ++ neg l ∷ []) h.lemma_is;
    first_top = h.first_top;
    rest_lower = λ m n. elim (append_either h.rest (neg l) m n) [
      | inl y ↦ h.rest_lower m y
      | inr y ↦ subst (λ z. has (literals (lower_trail e)) z ≡ true) (sym (ap neg y ∙ neg-neg l)) (h.lower l here_in p)
    ];
  }

  pub walk_resolve : (ms ns : List Mark) (lemma hints more : List ℕ) (s id : ℕ) → IsWalking e i ms lemma hints → pending ms l ≡ true → IsActive e s → slot_of e.clauses id ≡ Some s → reason_in e.trail l ≡ Some s
      → IsMarked e ns s → IsMore ms ns → length ns ≡ length ms → more ≡ hints ++ id ∷ [] → IsWalking e (i - 1) ns lemma more
  walk_resolve ms ns lemma hints more s id h p a at r marked m len is = record {
    within = let w = h.within in omega (arith, w);
    room = let q = h.room in omega (arith, q, len);
    analysed = subst (λ z. IsAnalysed e.clauses (take (i - 1) e.trail) (pending ns) lemma (reverse z)) (sym is) (resolved ms ns lemma hints s id a at r marked m h.analysed);
    picked = picked_skip lemma h.picked;
    lower = λ x n q. lower_here (h.lower l here_in p) x (front_in x n);
    first = h.first;
    rest = h.rest;
    lemma_is = h.lemma_is;
    first_top = h.first_top;
    rest_lower = h.rest_lower;
  }

  -- ---- The visited entry's mark is taken off

  pub other_here : (x : ℕ) → has (literals (take (i - 1) e.trail)) x ≡ true → x / 2 ≡ l / 2 → ⊥
  other_here x m q =
      let f = (k.entries (take (i - 1) e.trail) b.after b.step b.split).free in
      elim (cases_eq x l) [
        | inl y ↦ both_ways _ f.0 (subst (λ z. has (literals (take (i - 1) e.trail)) z ≡ true) (y ∙ sym b.lit) m)
        | inr y ↦ let opposite : x ≡ neg l = omega (arith, y, q) in both_ways _ f.1 (subst (λ z. has (literals (take (i - 1) e.trail)) z ≡ true) (opposite ∙ ap neg (sym b.lit)) m)
      ]

  pub left_here : (ns : List Mark) (x : ℕ) → has (literals (take (i - 1) e.trail)) x ≡ true → pending (set ns (l / 2) mark.Clear) x ≡ pending ns x
  left_here ns x m = pending-other ns l x mark.Clear (other_here x m)

  pub search_visited : (ns rs : List Mark) (hints : List ℕ) (count : ℕ) → IsSearching e (i - 1) ns hints count → rs ≡ set ns (l / 2) mark.Clear → IsSearching e (i - 1) rs hints count
  search_visited ns rs hints count h is = subst (λ z. IsSearching e (i - 1) z hints count) (sym is) (record {
    within = h.within;
    room = let q = h.room in let n = length-set ns (l / 2) mark.Clear in omega (arith, q, n);
    analysed = analysis-more e k (take (i - 1) e.trail) (pending ns) (pending (set ns (l / 2) mark.Clear)) [] (reverse hints) (λ x m q. left_here ns x m ∙ q) h.analysed;
    count_is = h.count_is ∙ count-same (λ x. is_top e x && pending ns x) (λ x. is_top e x && pending (set ns (l / 2) mark.Clear) x) (literals (take (i - 1) e.trail))
        (λ x m. ap (λ z. is_top e x && z) (sym (left_here ns x (has_from (literals (take (i - 1) e.trail)) x m))));
    some = h.some;
  })

  pub walk_visited : (ns rs : List Mark) (lemma hints : List ℕ) → IsWalking e (i - 1) ns lemma hints → rs ≡ set ns (l / 2) mark.Clear → IsWalking e (i - 1) rs lemma hints
  walk_visited ns rs lemma hints h is = subst (λ z. IsWalking e (i - 1) z lemma hints) (sym is) (record {
    within = h.within;
    room = let q = h.room in let n = length-set ns (l / 2) mark.Clear in omega (arith, q, n);
    analysed = analysis-more e k (take (i - 1) e.trail) (pending ns) (pending (set ns (l / 2) mark.Clear)) lemma (reverse hints) (λ x m q. left_here ns x m ∙ q) h.analysed;
    picked = h.picked;
    lower = λ x m q. h.lower x m (sym (left_here ns x m) ∙ q);
    first = h.first;
    rest = h.rest;
    lemma_is = h.lemma_is;
    first_top = h.first_top;
    rest_lower = h.rest_lower;
  })

-- where nothing is pending, the walk is at its end
pub walk_stops : (e : EngineView) (k : IsEngine e) (i : ℕ) (ms : List Mark) (lemma hints : List ℕ) → IsWalking e i ms lemma hints → ((x : ℕ) → pending ms x ≡ false) → IsWalking e 0 ms lemma hints
walk_stops e k zero ms lemma hints h n = h
walk_stops e k (suc i) ms lemma hints h n =
    let w = h.within in
    let long = length-literals e.trail in
    let l = get_or (literals e.trail) (suc i - 1) 0 in
    let b = below e (suc i) l (literals e.trail) (omega arith) w refl (default_same (literals e.trail) (suc i - 1) 0 l (omega (arith, w, long))) in
    let same : suc i - 1 ≡ i = omega arith in
    walk_stops e k i ms lemma hints (subst (λ z. IsWalking e z ms lemma hints) same (walk_skip e k (suc i) l b ms lemma hints h (n l))) n
