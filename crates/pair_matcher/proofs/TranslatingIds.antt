-- What the judgement of the file's steps with ids by their translations rests on.
use Rattle.std.proofs.Common.{◌≡◌, ℕ, Bool, true, false, if◌then◌else◌, List, [], ◌∷◌, ◌++◌, length, Option, Some, None, option_map, Result, Ok, Err, refl, sym, ap, ◌∙◌, subst, inl, inr, arith}
use Rattle.std.specs.Prelude.{IfOk, IfNone, slice_get}
use Rattle.std.specs.declared.alloc.AllocError.{AllocError}
use Rattle.std.specs.FinMap as finmap
use Rattle.std.proofs.lemmas.Bool.{cases_Bool, and_from}
use Rattle.std.proofs.lemmas.List.{map-append}
use Rattle.std.proofs.lemmas.List.Folds.{list_all-append}
use Rattle.lits.specs.Numbering.{is_known, are_known, dense_lits}
use Rattle.lits.specs.Clause.{is_tautology}
use Rattle.numbered_lits.specs.Numbers.{Continues}
use Rattle.session_rules.specs.declared.Event.{Event}
use Rattle.session_rules.specs.declared.Event.TheVariants as events
use Rattle.session_rules.specs.declared.LStep.{LStep}
use Rattle.session_rules.specs.declared.LStep.TheVariants as lsteps
use Rattle.session_rules.specs.declared.Rule.{Rule}
use Rattle.session_rules.specs.declared.Rule.TheVariants as rules
use Rattle.session_rules.specs.declared.Phase.{Phase}
use Rattle.session_rules.specs.Pair.{is_idle}
use Rattle.session_rules.specs.Logic.{hints_fail}
use Rattle.session_rules.specs.History.{assumed, phase, fits_phase, first_missing, broken_unless, order_faults, core_faults}
use Rattle.session_rules.specs.Own.{id_event_of, id_events_of, active_clause, hint_faults, own_id_faults}
use Rattle.clause_store.specs.Clauses.{Store}
use Rattle.hint_check.specs.Hints.{active_at, end_of}
use Rattle.hint_check.specs.declared.HintEnd.{HintEnd}
use Rattle.hint_check.specs.declared.HintEnd.TheVariants.{Closed, Fails}
use Rattle.session_events.specs.State.{State, StandsFor, start, behind, kind_of, order_rules}
use Rattle.side_laws.specs.ClauseStates.{Clauses, clauses_of_store}
use Rattle.numbering_laws.specs.Dense.{dense_id_step, dense_id_steps, is_known_id_step, are_known_id_steps, known_of, unknown_of, file_rule}
use Rattle.numbering_laws.proofs.Events.{assumed-dense, assumed-known, order-dense, phase-dense}
use Rattle.numbering_laws.proofs.IdFaults.{id_events-dense, id_events-known, active_clause-dense, active_clause-known}
use Rattle.numbering_laws.proofs.Growing.{id_steps-stay, ids-known-stay}
use Rattle.numbering_laws.proofs.Hints.{fail-dense, fail-parted}
use Rattle.numbering_laws.proofs.KnownRules.{own_id-file}
use Rattle.pair_matcher.specs.Sides.{first_rule, LidrupState, LidrupView, AreAfterIds, AreAfterIdsThrough, JudgedId, JudgedIdThrough, holding_ids, asked_after_id}
use Rattle.pair_matcher.specs.Sides as sides
use Rattle.pair_matcher.specs.Inside.{IsReadyForIds}
use Rattle.pair_matcher.proofs.Rules.{first-skip, first-here, first-broken, order_is}
use Rattle.pair_matcher.proofs.Insides.{inside-new, stands-new}
use Rattle.pair_matcher.proofs.Judging.{judged-after, events-some, events-none, closed_is, fails_is, run_is}
use Rattle.pair_matcher.proofs.Translating.{first-mapped, known-more, order-same, said_by, said_for}
use Rattle.session_events.proofs.Standing.{stands_behind}

-- ---- A step that was judged by its translation

module _ (vars after : List ℕ) (more : Continues vars after) where
  through_stays : (s : LidrupState) (ps : List LStep) → AreAfterIdsThrough vars s ps → AreAfterIdsThrough after s ps
  through_stays s ps h = record {
    known = subst (λ z. are_known_id_steps z ps ≡ true) (sym more.is) (ids-known-stay vars more.more ps h.known);
    translated = subst (AreAfterIds s) (sym (ap (λ z. dense_id_steps z ps) more.is ∙ id_steps-stay vars more.more ps h.known)) h.translated;
  }

  through_rule : (old new : LidrupState) (step : LStep) (answer : Option Rule) → is_known_id_step after step ≡ true → JudgedId old new (dense_id_step after step) answer
      → (ps : List LStep) → AreAfterIdsThrough vars old ps → option_map (file_rule after) answer ≡ first_rule (own_id_faults ps step)
  through_rule old new step answer k j ps h = let g = through_stays old ps h in
      ap (option_map (file_rule after)) (j.rule (dense_id_steps after ps) g.translated)
      ∙ sym (first-mapped (file_rule after) (own_id_faults (dense_id_steps after ps) (dense_id_step after step)))
      ∙ ap first_rule (own_id-file after ps step g.known k)

  through : (old new : LidrupState) (step : LStep) (answer : Option Rule) → is_known_id_step after step ≡ true → JudgedId old new (dense_id_step after step) answer
      → JudgedIdThrough vars after old new step (option_map (file_rule after) answer)
  through old new step None k j = record {
    rule = through_rule old new step None k j;
    known = k;
    stands = λ ps h. let g = through_stays old ps h in record {
      known = list_all-append (is_known_id_step after) ps (step ∷ []) ∙ and_from _ _ g.known (and_from _ _ k refl);
      translated = subst (AreAfterIds new) (sym (map-append (dense_id_step after) ps (step ∷ []))) (j.stands (dense_id_steps after ps) g.translated);
    };
  }
  through old new step (Some r) k j = record { rule = through_rule old new step (Some r) k j; known = tt; stands = tt }

-- the calls of an arm: variables came, room was made, the translation was judged, and its rule was read back
pub judged_through : (vars after : List ℕ) → Continues vars after → (m : Clauses) (s : State) (k : Clauses) (r : State) (n : Clauses) (t : State) (step q : LStep) (d : List ℕ) (answer shown : Option Rule)
    → ((ps : List LStep) → AreAfterIds (holding_ids m s) ps → AreAfterIds (holding_ids k r) ps) → is_known_id_step after step ≡ true → q ≡ dense_id_step after step
    → JudgedId (holding_ids k r) (holding_ids n t) q answer → shown ≡ option_map (file_rule d) answer → d ≡ after → JudgedIdThrough vars after (holding_ids m s) (holding_ids n t) step shown
judged_through vars after more m s k r n t step q d answer shown grows known is j e f =
    subst (λ z. JudgedIdThrough vars after (holding_ids m s) (holding_ids n t) step z) (sym (e ∙ ap (λ z. option_map (file_rule z) answer) f))
    (through vars after more (holding_ids m s) (holding_ids n t) step answer known
    (subst (λ z. JudgedId (holding_ids m s) (holding_ids n t) z answer) is (judged-after m s k r n t q answer grows j)))

-- a step that is refused whatever steps were before, if these are known
refused_through : (vars after : List ℕ) (old new : LidrupState) (step : LStep) (r : Rule) → ((ps : List LStep) → AreAfterIdsThrough vars old ps → first_rule (own_id_faults ps step) ≡ Some r)
    → JudgedIdThrough vars after old new step (Some r)
refused_through vars after old new step r refuses = record { rule = λ ps h. sym (refuses ps h); known = tt; stands = tt }

pub known_of_none : (vars after : List ℕ) (old new : LidrupState) (step : LStep) (answer : Option Rule) → JudgedIdThrough vars after old new step answer → answer ≡ None → is_known_id_step after step ≡ true
known_of_none vars after old new step None j e = j.known
known_of_none vars after old new step (Some r) j e = cc e

pub found-known : (vars after ls : List ℕ) (known : Bool) → after ≡ vars → known ≡ are_known vars ls → known ≡ true → are_known after ls ≡ true
found-known vars after ls known same is sure = ap (λ z. are_known z ls) same ∙ sym is ∙ sure

-- ---- Hints of a core with a literal that has no number

known-filtered : (vars ls : List ℕ) → are_known vars (known_of vars ls) ≡ true
known-filtered vars [] = refl
known-filtered vars (l ∷ ls) = elim (cases_Bool (is_known vars l)) [
  | inl q ↦ rw q (and_from _ _ q (known-filtered vars ls))
  | inr q ↦ rw q (known-filtered vars ls)
]

module _ (vars u hs : List ℕ) (m : Store) (s : State) (clash : Bool) (clash_is : clash ≡ is_tautology (unknown_of vars u)) where
  parted : (ps : List LStep) → AreAfterIdsThrough vars (holding_ids (clauses_of_store m) s) ps → hints_fail (active_clause ps) u hs ≡ (if clash then None else hints_fail (active_clause ps) (known_of vars u) hs)
  parted ps h = fail-parted vars (active_clause ps) (active_clause-known vars ps h.known) u hs ∙ ap (λ b. if b then None else hints_fail (active_clause ps) (known_of vars u) hs) (sym clash_is)

  pub strange_closed : clash ≡ true → (ps : List LStep) → AreAfterIdsThrough vars (holding_ids (clauses_of_store m) s) ps → Closed ≡ end_of (hints_fail (active_clause ps) u hs)
  strange_closed q ps h = sym (ap end_of (parted ps h ∙ ap (λ b. if b then None else hints_fail (active_clause ps) (known_of vars u) hs) q))

  pub strange_run : clash ≡ false → (m2 : Store) (s2 : State) → ((ps : List LStep) → AreAfterIds (holding_ids (clauses_of_store m) s) ps → AreAfterIds (holding_ids (clauses_of_store m2) s2) ps)
      → (x : List ℕ) → x ≡ dense_lits vars (known_of vars u) → (end : HintEnd) → end ≡ end_of (hints_fail (active_at m2) x hs)
      → (ps : List LStep) → AreAfterIdsThrough vars (holding_ids (clauses_of_store m) s) ps → end ≡ end_of (hints_fail (active_clause ps) u hs)
  strange_run q m2 s2 grows x is end run ps h = let a = grows (dense_id_steps vars ps) h.translated in
      sym (run_is m2 (dense_id_steps vars ps) a.clauses x hs end run)
      ∙ ap (λ z. end_of (hints_fail (active_clause (dense_id_steps vars ps)) z hs)) is
      ∙ ap end_of (fail-dense vars (active_clause ps) (active_clause (dense_id_steps vars ps)) (active_clause-known vars ps h.known) (λ id. active_clause-dense vars ps id) (known_of vars u) hs (known-filtered vars u))
      ∙ sym (ap end_of (parted ps h ∙ ap (λ b. if b then None else hints_fail (active_clause ps) (known_of vars u) hs) q))

-- ---- Cores with a literal that has no number

module _ (vars after : List ℕ) (m n : Clauses) (s t : State) (u hs : List ℕ) (answer : Option Rule) (order : answer ≡ slice_get (order_rules s (kind_of (events.Core u))) 0) where
  order_through : (ps : List LStep) → AreAfterIdsThrough vars (holding_ids m s) ps → first_rule (order_faults (id_events_of ps) (events.Core u)) ≡ answer
  order_through ps h = sym (order-same vars (fits_phase (events.Core u) (phase (id_events_of ps))))
      ∙ ap first_rule (sym (order-dense vars (id_events_of ps) (events.Core u)))
      ∙ ap (λ z. first_rule (order_faults z (events.Core (dense_lits vars u)))) (sym (id_events-dense vars ps))
      ∙ order_is s (id_events_of (dense_id_steps vars ps)) h.translated.events answer (events.Core (dense_lits vars u)) order

  pub strange_order : (r : Rule) → answer ≡ Some r → JudgedIdThrough vars after (holding_ids m s) (holding_ids n t) (lsteps.Core u hs) (Some r)
  unfolding own_id_faults
  strange_order r is = refused_through vars after (holding_ids m s) (holding_ids n t) (lsteps.Core u hs) r (λ ps h.
      first-here (order_faults (id_events_of ps) (events.Core u) ++ hint_faults ps u hs) (core_faults (id_events_of ps) u) r
      (first-here (order_faults (id_events_of ps) (events.Core u)) (hint_faults ps u hs) r (order_through ps h ∙ is)))

  module _ (kept : answer ≡ None) (end : HintEnd) (run : (ps : List LStep) → AreAfterIdsThrough vars (holding_ids m s) ps → end ≡ end_of (hints_fail (active_clause ps) u hs)) where
    pub strange_hint : (p : ℕ) → end ≡ Fails p → JudgedIdThrough vars after (holding_ids m s) (holding_ids n t) (lsteps.Core u hs) (Some (rules.Hint p))
    unfolding own_id_faults
    strange_hint p is = refused_through vars after (holding_ids m s) (holding_ids n t) (lsteps.Core u hs) (rules.Hint p) (λ ps h.
        first-here (order_faults (id_events_of ps) (events.Core u) ++ hint_faults ps u hs) (core_faults (id_events_of ps) u) (rules.Hint p)
        (first-skip (order_faults (id_events_of ps) (events.Core u)) (hint_faults ps u hs) (order_through ps h ∙ kept)
        ∙ first-broken rules.Hint (hints_fail (active_clause ps) u hs) ∙ ap (option_map rules.Hint) (fails_is (hints_fail (active_clause ps) u hs) p (sym (run ps h) ∙ is))))

    pub strange_done : end ≡ Closed → (k : Clauses) (q : State) → ((ps : List LStep) → AreAfterIds (holding_ids m s) ps → AreAfterIds (holding_ids k q) ps) → (d : List ℕ) → d ≡ vars → (r : Rule)
        → ((given : List ℕ) → are_known d given ≡ true → q.assumed ≡ dense_lits d given → option_map rules.CoreStranger (first_missing u given) ≡ Some r)
        → JudgedIdThrough vars after (holding_ids m s) (holding_ids n t) (lsteps.Core u hs) (Some r)
    unfolding own_id_faults
    strange_done closed k q grows d same r stranger = refused_through vars after (holding_ids m s) (holding_ids n t) (lsteps.Core u hs) r (λ ps h.
        let a = grows (dense_id_steps vars ps) h.translated in
        first-skip (order_faults (id_events_of ps) (events.Core u) ++ hint_faults ps u hs) (core_faults (id_events_of ps) u)
        (first-skip (order_faults (id_events_of ps) (events.Core u)) (hint_faults ps u hs) (order_through ps h ∙ kept)
        ∙ first-broken rules.Hint (hints_fail (active_clause ps) u hs) ∙ ap (option_map rules.Hint) (closed_is (hints_fail (active_clause ps) u hs) (sym (run ps h) ∙ closed)))
        ∙ first-broken rules.CoreStranger (first_missing u (assumed (id_events_of ps)))
        ∙ stranger (assumed (id_events_of ps)) (subst (λ z. are_known z (assumed (id_events_of ps)) ≡ true) (sym same) (assumed-known vars (id_events_of ps) (id_events-known vars ps h.known)))
        (a.events.assumed ∙ ap assumed (id_events-dense vars ps) ∙ assumed-dense vars (id_events_of ps) ∙ ap (λ z. dense_lits z (assumed (id_events_of ps))) (sym same)))

-- ---- What the file's last query asks

pub asked-known : (vars after asked : List ℕ) (step : LStep) → Continues vars after → are_known vars asked ≡ true → is_known_id_step after step ≡ true → are_known after (asked_after_id asked step) ≡ true
asked-known vars after asked (lsteps.Query c) more k h = h
asked-known vars after asked (lsteps.Input id c) more k h = known-more vars after asked more k
asked-known vars after asked (lsteps.Lemma id c hs) more k h = known-more vars after asked more k
asked-known vars after asked (lsteps.Delete is) more k h = known-more vars after asked more k
asked-known vars after asked (lsteps.Weaken is) more k h = known-more vars after asked more k
asked-known vars after asked (lsteps.Restore is) more k h = known-more vars after asked more k
asked-known vars after asked (lsteps.Status w) more k h = known-more vars after asked more k
asked-known vars after asked (lsteps.Model c) more k h = known-more vars after asked more k
asked-known vars after asked (lsteps.Core c hs) more k h = known-more vars after asked more k

asked-event : (ps : List LStep) (p : LStep) (e : Event) → id_event_of p ≡ Some e → assumed (id_events_of (ps ++ p ∷ [])) ≡ (behind (said_by (id_events_of ps)) e).assumed
asked-event ps p e is = ap assumed (events-some ps p e is) ∙ sym (stands_behind (said_by (id_events_of ps)) e (id_events_of ps) (said_for (id_events_of ps))).assumed

asked-step : (ps : List LStep) (step : LStep) → assumed (id_events_of (ps ++ step ∷ [])) ≡ asked_after_id (assumed (id_events_of ps)) step
asked-step ps (lsteps.Query c) = asked-event ps (lsteps.Query c) (events.Query c) refl
asked-step ps (lsteps.Input id c) = asked-event ps (lsteps.Input id c) (events.Input c) refl
asked-step ps (lsteps.Status w) = asked-event ps (lsteps.Status w) (events.Status w) refl
asked-step ps (lsteps.Model c) = asked-event ps (lsteps.Model c) (events.Model c) refl
asked-step ps (lsteps.Core c hs) = asked-event ps (lsteps.Core c hs) (events.Core c) refl
asked-step ps (lsteps.Lemma id c hs) = ap assumed (events-none ps (lsteps.Lemma id c hs) refl)
asked-step ps (lsteps.Delete is) = ap assumed (events-none ps (lsteps.Delete is) refl)
asked-step ps (lsteps.Weaken is) = ap assumed (events-none ps (lsteps.Weaken is) refl)
asked-step ps (lsteps.Restore is) = ap assumed (events-none ps (lsteps.Restore is) refl)

pub id_step_stands : (v w : LidrupView) (step : LStep) (result : Result (Option Rule) AllocError) → IfOk result (λ r. JudgedIdThrough v.vars w.vars (holding_ids v.clauses v.events) (holding_ids w.clauses w.events) step r)
    → IfOk result (λ r. IfNone r (w.asked ≡ asked_after_id v.asked step)) → IfOk result (λ r. IfNone r ((ps : List LStep) → sides.StandsForIds v ps → sides.StandsForIds w (ps ++ step ∷ [])))
id_step_stands v w step (Ok None) j a = λ ps h. record { through = j.stands ps h.through; asked = a ∙ ap (λ z. asked_after_id z step) h.asked ∙ sym (asked-step ps step) }
id_step_stands v w step (Ok (Some r)) j a = tt
id_step_stands v w step (Err e) j a = tt

-- ---- The start and the end

pub ready-new-ids : (m : Store) (s : State) (room : ℕ) (vars asked : List ℕ) (live : Bool) → m ≡ finmap.empty → s ≡ start → vars ≡ [] → asked ≡ [] → IsReadyForIds m s room vars asked live
ready-new-ids m s room vars asked live is same unnumbered none = record {
  between = inside-new m s room is same;
  known = subst (λ z. are_known vars z ≡ true) (sym none) refl;
  ready = λ _. let none_is : length vars ≡ 0 = ap length unnumbered in omega arith;
}

pub stands-new-ids : (m : Store) (s : State) (vars asked : List ℕ) (live : Bool) → m ≡ finmap.empty → StandsFor s [] → asked ≡ []
    → sides.StandsForIds (record { live = live; clauses = clauses_of_store m; events = s; vars = vars; asked = asked }) []
stands-new-ids m s vars asked live is h none = record { through = record { known = refl; translated = stands-new m s is h }; asked = none }

pub finish_is_ids : (v : LidrupView) (p : Phase) (answer : Option Rule) → p ≡ v.events.phase → answer ≡ first_rule (broken_unless (is_idle p) rules.Unfinished)
    → (ps : List LStep) → sides.StandsForIds v ps → answer ≡ first_rule (broken_unless (is_idle (phase (id_events_of ps))) rules.Unfinished)
finish_is_ids v p answer same is ps h = is ∙ ap (λ z. first_rule (broken_unless (is_idle z) rules.Unfinished))
    (same ∙ h.through.translated.events.phase ∙ ap phase (id_events-dense v.vars ps) ∙ phase-dense v.vars (id_events_of ps))
