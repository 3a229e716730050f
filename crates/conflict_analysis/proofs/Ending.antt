-- Where an analysis begins, and what it gives at its end.
use Rattle.std.proofs.Common.{◌≡◌, ℕ, zero, suc, ◌-◌, ◌/◌, ◌<◌, ◌≤◌, Bool, true, false, ◌&&◌, List, [], ◌∷◌, ◌++◌, length, take, drop, get_or, map, reverse, Contains, Option, Some, None, refl, sym, ◌∙◌, ap, subst, inl, inr, arith}
use Rattle.std.specs.Prelude.{unwrap_or}
use Rattle.std.proofs.lemmas.Bool.{cases_Bool, both_ways, and_from}
use Rattle.std.proofs.lemmas.Option.{same_Some}
use Rattle.lits.specs.Literal.{neg}
use Rattle.session_rules.specs.Logic.{has, is_falsified, hints_fail}
use Rattle.lits.proofs.Members.{here, there, all_at, all_from, has_at}
use Rattle.propagation.specs.declared.TrailEntry.{TrailEntry}
use Rattle.propagation.specs.Clauses.{slot_of, active_at}
use Rattle.propagation.specs.Engine.{with_trail, up_to_level, EngineView, IsEngine, IsFalseAt, IsOnce, literals, level_after, level_behind}
use Rattle.search_laws.specs.Asserting.{CanAssert, IsPicked, IsLatestFirst, level_below, level_of_others}
use Rattle.search_laws.specs.Freshness.{AreLevelsPropagated, IsFresh}
use Rattle.propagation.proofs.Cuts.{take_all}
use Rattle.propagation.proofs.Levels.{up_to_level-prefix}
use Rattle.propagation.proofs.Trail.{IsEngine-prefix}
use Rattle.search_laws.specs.Analysis.{IsAnalysed}
use Rattle.search_laws.proofs.Asserting.{Placed, placed, stays-false, goes-free, asserts, goes_back}
use Rattle.search_laws.proofs.Fresh.{ended_below, fresh}
use Rattle.search_laws.proofs.Analysis.{analysis-start, analysis-lemma}
use Rattle.conflict_analysis.specs.declared.marks.Mark.{Mark}
use Rattle.conflict_analysis.specs.Marked.{is_pending, pending, IsClear}
use Rattle.conflict_analysis.specs.Walking.{IsClauseAt, IsActive, IsOpen, IsMarked, IsSearching, IsWalking, IsLemma, lower_trail, is_top, count_top}
use Rattle.conflict_analysis.proofs.Stepping.{count-none, none-counted, pending-neg}

pub take_none : (xs : List TrailEntry) → take 0 xs ≡ []
take_none [] = refl
take_none (x ∷ xs) = refl

drop_none : (xs : List TrailEntry) → drop 0 xs ≡ xs
drop_none [] = refl
drop_none (x ∷ xs) = refl

-- ---- The start

pub conflict_active : (e : EngineView) (s : ℕ) → IsFalseAt e s → IsActive e s
conflict_active e s f = (f.0, f.1, record { slot_is = f.2; clause_is = f.3 })

same_clause : (e : EngineView) (s id : ℕ) (c : List ℕ) → IsEngine e → (f : IsFalseAt e s) → IsClauseAt e s id c → is_falsified (literals e.trail) c ≡ true
same_clause e s id c k f at =
    let same : id ≡ f.0 = k.slots_apart id f.0 s at.slot_is f.2 in
    let clause : f.1 ≡ c = same_Some _ _ (sym f.3 ∙ ap (active_at e.clauses) (sym same) ∙ at.clause_is) in
    subst (λ z. is_falsified (literals e.trail) z ≡ true) clause f.4

pub conflict_open : (e : EngineView) (s n : ℕ) (ms : List Mark) → IsEngine e → IsFalseAt e s → length e.trail ≤ n → IsOpen e ms n s
conflict_open e s n ms k f h id c at m x = inr (subst (λ z. has (literals z) (neg m) ≡ true) (sym (take_all e.trail n h)) (all_at (λ y. has (literals e.trail) (neg y)) c m (same_clause e s id c k f at) x))

pub count_clear : (e : EngineView) (ms : List Mark) (ls : List ℕ) → IsClear ms → 0 ≡ count_top e ms ls
count_clear e ms ls h = sym (count-none (λ l. is_top e l && pending ms l) ls (λ l m. second (is_top e l) (pending ms l) (ap is_pending (h (l / 2)))))
  where
    second : (x y : Bool) → y ≡ false → (x && y) ≡ false
    second true y q = q
    second false y q = refl

pub search_starts : (e : EngineView) (s id count n : ℕ) (ms : List Mark) (hints : List ℕ) → IsEngine e → IsFalseAt e s → 0 < level_after e.trail → AreLevelsPropagated e → e.vars ≤ length ms → IsMarked e ms s
    → slot_of e.clauses id ≡ Some s → hints ≡ id ∷ [] → n ≡ length e.trail → count ≡ count_top e ms (literals (take n e.trail)) → IsSearching e (length e.trail) ms hints count
search_starts e s id count n ms hints k f pos ended room marked slot is len c =
    let same : id ≡ f.0 = k.slots_apart id f.0 s slot f.2 in
    let clause : active_at e.clauses id ≡ Some f.1 = ap (active_at e.clauses) same ∙ f.3 in
    let at : IsClauseAt e s id f.1 = record { slot_is = slot; clause_is = clause } in
    let whole : take (length e.trail) e.trail ≡ e.trail = take_all e.trail (length e.trail) (omega arith) in
    let c2 : count ≡ count_top e ms (literals (take (length e.trail) e.trail)) = c ∙ ap (λ z. count_top e ms (literals (take z e.trail))) len in
    let c3 : count ≡ count_top e ms (literals e.trail) = c2 ∙ ap (λ z. count_top e ms (literals z)) whole in
    let quiet = ended_below e (level_after e.trail - 1) ended (omega (arith, pos)) f.0 f.1 f.3 in
    let q = λ (m : ℕ) (x : Contains f.1 m). pending-neg ms m ∙ marked id f.1 at m x in
    record {
      within = omega arith;
      room = room;
      analysed = subst (λ z. IsAnalysed e.clauses z (pending ms) [] (reverse hints)) (sym whole) (subst (λ z. IsAnalysed e.clauses e.trail (pending ms) [] (reverse z)) (sym is) (analysis-start e k (pending ms) id s f.1 slot clause f.4 q));
      count_is = c2;
      some = positive count (λ z. both_ways _ quiet.not_false (all_from (λ m. has (literals (lower_trail e)) (neg m)) f.1 (λ m x.
          let h : has (literals e.trail) (neg m) ≡ true = all_at (λ y. has (literals e.trail) (neg y)) f.1 m f.4 x in
          low (neg m) (pending ms (neg m)) (q m x) (none-counted (λ l. is_top e l && pending ms l) (literals e.trail) (sym c3 ∙ z) (neg m) (has_at (literals e.trail) (neg m) h)))));
    }
  where
    positive : (n : ℕ) → (n ≡ 0 → ⊥) → 0 < n
    positive zero h = absurd (h refl)
    positive (suc n) h = omega arith

    low : (x : ℕ) (q : Bool) → q ≡ true → (is_top e x && q) ≡ false → has (literals (lower_trail e)) x ≡ true
    low x q y z = elim (cases_Bool (has (literals (lower_trail e)) x)) [
      | inl a ↦ a
      | inr a ↦ let t : is_top e x ≡ true = rw a refl in absurd (both_ways _ z (and_from _ _ t y))
    ]

-- ---- The end

-- the level of a literal that is false below the present level
low_level : (e : EngineView) (m d : ℕ) → IsEngine e → has (literals e.trail) (neg m) ≡ true → has (literals (lower_trail e)) (neg m) ≡ true → level_behind 0 e.trail m ≡ Some d → d ≤ level_after e.trail - 1
low_level e m d k h low at = number d (level_after e.trail - 1) (λ lt. both_ways _ (goes-free e m (level_after e.trail - 1) d k h at lt).1 low)
  where
    number : (d n : ℕ) → (n < d → ⊥) → d ≤ n
    number d n f = omega (arith, f)

high_level : (e : EngineView) (m d : ℕ) → IsEngine e → has (literals e.trail) (neg m) ≡ true → has (literals (lower_trail e)) (neg m) ≡ false → level_behind 0 e.trail m ≡ Some d → level_after e.trail - 1 < d
high_level e m d k h top at = number d (level_after e.trail - 1) (λ le. both_ways _ top (stays-false e m (level_after e.trail - 1) d k h at le))
  where
    number : (d n : ℕ) → (d ≤ n → ⊥) → n < d
    number d n f = omega (arith, f)

others_below : (e : EngineView) (ms : List ℕ) → IsEngine e → ((m : ℕ) → Contains ms m → has (literals e.trail) (neg m) ≡ true) → ((m : ℕ) → Contains ms m → has (literals (lower_trail e)) (neg m) ≡ true)
    → level_of_others e.trail ms ≤ level_after e.trail - 1
others_below e [] k h low = omega arith
others_below e (m ∷ ms) k h low =
    let r = placed e m k (h m (here m ms)) in
    let at : level_of_others e.trail (m ∷ ms) ≡ level_after (r.before ++ r.step ∷ []) = ap (λ z. unwrap_or z 0) r.level in
    let le = low_level e m (level_after (r.before ++ r.step ∷ [])) k (h m (here m ms)) (low m (here m ms)) r.level in
    omega (arith, at, le)

pub walk_ends : (e : EngineView) (ms : List Mark) (lemma hints : List ℕ) → IsEngine e → AreLevelsPropagated e → IsWalking e 0 ms lemma hints → IsLemma e lemma (reverse hints)
walk_ends e ms lemma hints k ended h = subst (λ z. IsLemma e z (reverse hints)) (sym h.lemma_is) (record {
  goes_back = goes_back e k h.first d h.rest first_false placed_first.level below_first;
  asserts = can;
  fresh = record { no_part = is_fresh.no_part; no_tautology = is_fresh.no_tautology };
  closes = subst (λ z. hints_fail (active_at e.clauses) (map neg z) (reverse hints) ≡ None) h.lemma_is
      (analysis-lemma e k [] (pending ms) lemma (reverse hints) (λ l n. cc n) analysed);
  no_id_twice = h.analysed.no_id_twice;
  ids_active = h.analysed.ids_active;
})
  where
    picked : IsPicked [] e.trail lemma
    picked = subst (λ z. IsPicked [] z lemma) (drop_none e.trail) (subst (λ z. IsPicked z (drop 0 e.trail) lemma) (take_none e.trail) h.picked)

    analysed : IsAnalysed e.clauses [] (pending ms) lemma (reverse hints)
    analysed = subst (λ z. IsAnalysed e.clauses z (pending ms) lemma (reverse hints)) (take_none e.trail) h.analysed

    each_false : (m : ℕ) → Contains (h.first ∷ h.rest) m → has (literals e.trail) (neg m) ≡ true
    each_false m n = picked.behind m (subst (λ z. Contains z m) (sym h.lemma_is) n)

    first_false : has (literals e.trail) (neg h.first) ≡ true
    first_false = each_false h.first (here h.first h.rest)

    placed_first : Placed e.trail h.first
    placed_first = placed e h.first k first_false

    d : ℕ
    d = level_after (placed_first.before ++ placed_first.step ∷ [])

    below_first : level_below e.trail (h.first ∷ h.rest) < d
    below_first =
        let a = high_level e h.first d k first_false h.first_top placed_first.level in
        let b = others_below e h.rest k (λ m n. each_false m (there h.first m h.rest n)) h.rest_lower in
        omega (arith, a, b)

    can : CanAssert (with_trail e (up_to_level (level_below e.trail (h.first ∷ h.rest)) e.trail)) (h.first ∷ h.rest)
    can = asserts e k h.first d h.rest (subst (λ z. IsLatestFirst (literals e.trail) z) h.lemma_is picked.order) (subst IsOnce h.lemma_is picked.once) each_false placed_first.level below_first

    is_fresh : IsFresh (with_trail e (up_to_level (level_below e.trail (h.first ∷ h.rest)) e.trail)) (h.first ∷ h.rest)
    is_fresh = let p = up_to_level-prefix (level_below e.trail (h.first ∷ h.rest)) e.trail in
        fresh (with_trail e (up_to_level (level_below e.trail (h.first ∷ h.rest)) e.trail)) (h.first ∷ h.rest) (IsEngine-prefix e (up_to_level (level_below e.trail (h.first ∷ h.rest)) e.trail) p.0 k p.1)
        (ended_below e (level_below e.trail (h.first ∷ h.rest)) ended (goes_back e k h.first d h.rest first_false placed_first.level below_first)) can

-- ---- The level of the second literal

pub level_short : (ss : List TrailEntry) (ls : List ℕ) → length ls < 2 → 0 ≡ level_below ss ls
level_short ss [] h = refl
level_short ss (l ∷ []) h = refl
level_short ss (l ∷ m ∷ ms) h = absurd (omega (arith, h))

pub level_second : (ss : List TrailEntry) (ls : List ℕ) (m n : ℕ) (o : Option ℕ) → 2 ≤ length ls → m ≡ get_or ls 1 m → o ≡ level_behind 0 ss m → n ≡ unwrap_or o 0 → n ≡ level_below ss ls
level_second ss [] m n o h is at e = absurd (omega (arith, h))
level_second ss (l ∷ []) m n o h is at e = absurd (omega (arith, h))
level_second ss (l ∷ k ∷ ms) m n o h is at e = e ∙ ap (λ z. unwrap_or z 0) at ∙ ap (λ z. unwrap_or (level_behind 0 ss z) 0) is
