-- What the judgement of each step with ids rests on.
use Rattle.std.proofs.Common.{◌≡◌, ℕ, Bool, true, false, not, List, [], ◌∷◌, ◌++◌, map, flat_map, Option, Some, None, option_map, refl, sym, ap, ◌∙◌, subst, append-nil}
use Rattle.std.specs.Prelude.{slice_get}
use Rattle.std.proofs.Math.Path.{fun_ext}
use Rattle.std.proofs.lemmas.List.Elements.{filter_map-append}
use Rattle.std.specs.FinMap as finmap
use Rattle.lits.specs.Literal.{neg}
use Rattle.session_rules.specs.declared.StatusWord.{StatusWord}
use Rattle.session_rules.specs.declared.Event.{Event}
use Rattle.session_rules.specs.declared.Event.TheVariants as events
use Rattle.session_rules.specs.declared.LStep.{LStep}
use Rattle.session_rules.specs.declared.LStep.TheVariants as lsteps
use Rattle.session_rules.specs.declared.Rule.{Rule}
use Rattle.session_rules.specs.declared.Rule.TheVariants as rules
use Rattle.session_rules.specs.declared.Standing.{Standing}
use Rattle.session_rules.specs.declared.Standing.TheVariants.{Active, Weakened, Absent}
use Rattle.session_rules.specs.Logic.{hints_fail}
use Rattle.session_rules.specs.History.{broken_at, order_faults, model_faults, core_faults}
use Rattle.session_rules.specs.Own as own
use Rattle.session_rules.specs.Own.{given_clause, mentions, standing_after, active_clause, first_not, id_event_of, id_events_of, id_faults, hint_faults, own_id_faults}
use Rattle.clause_store.specs.Clauses.{Store, is_held, new_clause}
use Rattle.clause_store.specs.declared.StoreFault.{StoreFault}
use Rattle.clause_store.specs.declared.StoreFault.TheVariants.{IdTaken, Memory}
use Rattle.hint_check.specs.Hints.{active_at, end_of}
use Rattle.hint_check.specs.declared.HintEnd.{HintEnd}
use Rattle.hint_check.specs.declared.HintEnd.TheVariants.{Closed, Fails}
use Rattle.session_events.specs.State.{State, StandsFor, kind_of, order_rules, model_rules, core_rules}
use Rattle.side_laws.specs.ClauseStates.{Clauses, clauses_of_store}
use Rattle.side_laws.specs.Ids.{HoldsIds}
use Rattle.side_laws.proofs.Ids.{holds_given, holds_silent, hints_over_kept}
use Rattle.side_laws.proofs.Stores.{absent-store, store_added, active_in-store}
use Rattle.pair_matcher.specs.Sides.{first_rule, AreAfterIds, JudgedId, holding_ids}
use Rattle.pair_matcher.specs.Turns.{Turned}
use Rattle.pair_matcher.proofs.Rules.{first-skip, first-here, first-broken, first-kept, first-unkept, order_is, model_is, core_is}

-- ---- Events

pub events-some : (ps : List LStep) (p : LStep) (e : Event) → id_event_of p ≡ Some e → id_events_of (ps ++ p ∷ []) ≡ id_events_of ps ++ e ∷ []
events-some ps p e is = rw (filter_map-append, is) refl

pub events-none : (ps : List LStep) (p : LStep) → id_event_of p ≡ None → id_events_of (ps ++ p ∷ []) ≡ id_events_of ps
events-none ps p is = rw (filter_map-append, is, append-nil) refl

-- what the events say of the order is what the steps say
fits_order : {s : State} {answer o : Option Rule} (ps : List LStep) → StandsFor s (id_events_of ps) → (e : Event) → answer ≡ slice_get (order_rules s (kind_of e)) 0 → answer ≡ o → first_rule (order_faults (id_events_of ps) e) ≡ o
fits_order {s} {answer} {o} ps h e order is = order_is s (id_events_of ps) h answer e order ∙ is

-- what a call that takes an event says
abbrev pub TakesEvent : State → State → Event → Type 0
TakesEvent s t e = (es : List Event) → StandsFor s es → StandsFor t (es ++ e ∷ [])

module _ (m : Clauses) (s t : State) (step : LStep) (e : Event) (is : id_event_of step ≡ Some e) (gives : given_clause step ≡ None) (names : mentions step ≡ []) (takes : TakesEvent s t e) where
  after_event : (ps : List LStep) → AreAfterIds (holding_ids m s) ps → AreAfterIds (holding_ids m t) (ps ++ step ∷ [])
  after_event ps a = record {
    clauses = holds_silent m ps step gives names a.clauses;
    events = subst (StandsFor t) (sym (events-some ps step e is)) (takes (id_events_of ps) a.events);
  }

-- a rule is the answer
stops : (m : Clauses) (s : State) (n : Clauses) (t : State) (step : LStep) (r : Rule) → ((ps : List LStep) → AreAfterIds (holding_ids m s) ps → first_rule (own_id_faults ps step) ≡ Some r) → JudgedId (holding_ids m s) (holding_ids n t) step (Some r)
stops m s n t step r h = record { rule = λ ps a. sym (h ps a); stands = tt }

goes_on : (m : Clauses) (s : State) (n : Clauses) (t : State) (step : LStep) → ((ps : List LStep) → AreAfterIds (holding_ids m s) ps → first_rule (own_id_faults ps step) ≡ None)
    → ((ps : List LStep) → AreAfterIds (holding_ids m s) ps → AreAfterIds (holding_ids n t) (ps ++ step ∷ [])) → JudgedId (holding_ids m s) (holding_ids n t) step None
goes_on m s n t step h k = record { rule = λ ps a. sym (h ps a); stands = k }

-- ---- Queries, statuses and models

module _ (m : Clauses) (s t : State) (answer : Option Rule) where
  module _ (c : List ℕ) (order : answer ≡ slice_get (order_rules s (kind_of (events.Query c))) 0) where
    pub query_order : (r : Rule) → answer ≡ Some r → JudgedId (holding_ids m s) (holding_ids m t) (lsteps.Query c) (Some r)
    unfolding own_id_faults
    query_order r is = stops m s m t (lsteps.Query c) r (λ ps a. fits_order ps a.events (events.Query c) order is)

    pub query_done : answer ≡ None → TakesEvent s t (events.Query c) → JudgedId (holding_ids m s) (holding_ids m t) (lsteps.Query c) None
    unfolding own_id_faults
    query_done is takes = goes_on m s m t (lsteps.Query c) (λ ps a. fits_order ps a.events (events.Query c) order is)
        (after_event m s t (lsteps.Query c) (events.Query c) refl refl refl takes)

  module _ (w : StatusWord) (order : answer ≡ slice_get (order_rules s (kind_of (events.Status w))) 0) where
    pub status_order : (r : Rule) → answer ≡ Some r → JudgedId (holding_ids m s) (holding_ids m t) (lsteps.Status w) (Some r)
    unfolding own_id_faults
    status_order r is = stops m s m t (lsteps.Status w) r (λ ps a. fits_order ps a.events (events.Status w) order is)

    pub status_done : answer ≡ None → TakesEvent s t (events.Status w) → JudgedId (holding_ids m s) (holding_ids m t) (lsteps.Status w) None
    unfolding own_id_faults
    status_done is takes = goes_on m s m t (lsteps.Status w) (λ ps a. fits_order ps a.events (events.Status w) order is)
        (after_event m s t (lsteps.Status w) (events.Status w) refl refl refl takes)

  module _ (c : List ℕ) (order : answer ≡ slice_get (order_rules s (kind_of (events.Model c))) 0) where
    pub model_order : (r : Rule) → answer ≡ Some r → JudgedId (holding_ids m s) (holding_ids m t) (lsteps.Model c) (Some r)
    unfolding own_id_faults
    model_order r is = stops m s m t (lsteps.Model c) r (λ ps a. first-here (order_faults (id_events_of ps) (events.Model c)) (model_faults (id_events_of ps) c) r
        (fits_order ps a.events (events.Model c) order is))

    module _ (kept : answer ≡ None) (own_answer : Option Rule) (model : own_answer ≡ slice_get (model_rules s c) 0) where
      model_rest : (ps : List LStep) → AreAfterIds (holding_ids m s) ps → first_rule (own_id_faults ps (lsteps.Model c)) ≡ own_answer
      unfolding own_id_faults
      model_rest ps a = first-skip (order_faults (id_events_of ps) (events.Model c)) (model_faults (id_events_of ps) c) (fits_order ps a.events (events.Model c) order kept)
          ∙ model_is s (id_events_of ps) a.events own_answer c model

      pub model_broken : (r : Rule) → own_answer ≡ Some r → JudgedId (holding_ids m s) (holding_ids m t) (lsteps.Model c) (Some r)
      model_broken r is = stops m s m t (lsteps.Model c) r (λ ps a. model_rest ps a ∙ is)

      pub model_done : own_answer ≡ None → TakesEvent s t (events.Model c) → JudgedId (holding_ids m s) (holding_ids m t) (lsteps.Model c) None
      model_done is takes = goes_on m s m t (lsteps.Model c) (λ ps a. model_rest ps a ∙ is) (after_event m s t (lsteps.Model c) (events.Model c) refl refl refl takes)

-- ---- Hints

pub closed_is : (o : Option ℕ) → end_of o ≡ Closed → o ≡ None
closed_is None e = refl
closed_is (Some p) e = cc e

pub fails_is : (o : Option ℕ) (p : ℕ) → end_of o ≡ Fails p → o ≡ Some p
fails_is None p e = cc e
fails_is (Some q) p e = let f : q ≡ p = cc e in ap Some f

module _ (m : Store) (ps : List LStep) (h : HoldsIds (clauses_of_store m) ps) (ls hs : List ℕ) (end : HintEnd) (run : end ≡ end_of (hints_fail (active_at m) ls hs)) where
  pub run_is : end_of (hints_fail (active_clause ps) ls hs) ≡ end
  run_is = sym (run ∙ ap (λ f. end_of (hints_fail f ls hs)) (fun_ext (active_in-store m)) ∙ ap end_of (hints_over_kept (clauses_of_store m) ps h ls hs))

  hints_closed : end ≡ Closed → first_rule (hint_faults ps ls hs) ≡ None
  hints_closed is = first-broken rules.Hint (hints_fail (active_clause ps) ls hs) ∙ ap (option_map rules.Hint) (closed_is (hints_fail (active_clause ps) ls hs) (run_is ∙ is))

  hints_broken : (p : ℕ) → end ≡ Fails p → first_rule (hint_faults ps ls hs) ≡ Some (rules.Hint p)
  hints_broken p is = first-broken rules.Hint (hints_fail (active_clause ps) ls hs) ∙ ap (option_map rules.Hint) (fails_is (hints_fail (active_clause ps) ls hs) p (run_is ∙ is))

-- ---- Cores

module _ (m : Store) (s t : State) (answer : Option Rule) (u hs : List ℕ) (order : answer ≡ slice_get (order_rules s (kind_of (events.Core u))) 0) where
  pub core_order : (r : Rule) → answer ≡ Some r → JudgedId (holding_ids (clauses_of_store m) s) (holding_ids (clauses_of_store m) t) (lsteps.Core u hs) (Some r)
  unfolding own_id_faults
  core_order r is = stops (clauses_of_store m) s (clauses_of_store m) t (lsteps.Core u hs) r (λ ps a.
      first-here (order_faults (id_events_of ps) (events.Core u) ++ hint_faults ps u hs) (core_faults (id_events_of ps) u) r
      (first-here (order_faults (id_events_of ps) (events.Core u)) (hint_faults ps u hs) r (fits_order ps a.events (events.Core u) order is)))

  module _ (kept : answer ≡ None) (end : HintEnd) (run : end ≡ end_of (hints_fail (active_at m) u hs)) where
    pub core_hint : (p : ℕ) → end ≡ Fails p → JudgedId (holding_ids (clauses_of_store m) s) (holding_ids (clauses_of_store m) t) (lsteps.Core u hs) (Some (rules.Hint p))
    unfolding own_id_faults
    core_hint p is = stops (clauses_of_store m) s (clauses_of_store m) t (lsteps.Core u hs) (rules.Hint p) (λ ps a.
        first-here (order_faults (id_events_of ps) (events.Core u) ++ hint_faults ps u hs) (core_faults (id_events_of ps) u) (rules.Hint p)
        (first-skip (order_faults (id_events_of ps) (events.Core u)) (hint_faults ps u hs) (fits_order ps a.events (events.Core u) order kept)
        ∙ hints_broken m ps a.clauses u hs end run p is))

    module _ (closed : end ≡ Closed) (own_answer : Option Rule) (core : own_answer ≡ slice_get (core_rules s u) 0) where
      core_rest : (ps : List LStep) → AreAfterIds (holding_ids (clauses_of_store m) s) ps → first_rule (own_id_faults ps (lsteps.Core u hs)) ≡ own_answer
      unfolding own_id_faults
      core_rest ps a = first-skip (order_faults (id_events_of ps) (events.Core u) ++ hint_faults ps u hs) (core_faults (id_events_of ps) u)
          (first-skip (order_faults (id_events_of ps) (events.Core u)) (hint_faults ps u hs) (fits_order ps a.events (events.Core u) order kept)
          ∙ hints_closed m ps a.clauses u hs end run closed)
          ∙ core_is s (id_events_of ps) a.events own_answer u core

      pub core_stranger : (r : Rule) → own_answer ≡ Some r → JudgedId (holding_ids (clauses_of_store m) s) (holding_ids (clauses_of_store m) t) (lsteps.Core u hs) (Some r)
      core_stranger r is = stops (clauses_of_store m) s (clauses_of_store m) t (lsteps.Core u hs) r (λ ps a. core_rest ps a ∙ is)

      pub core_done : own_answer ≡ None → TakesEvent s t (events.Core u) → JudgedId (holding_ids (clauses_of_store m) s) (holding_ids (clauses_of_store m) t) (lsteps.Core u hs) None
      core_done is takes = goes_on (clauses_of_store m) s (clauses_of_store m) t (lsteps.Core u hs) (λ ps a. core_rest ps a ∙ is) (after_event (clauses_of_store m) s t (lsteps.Core u hs) (events.Core u) refl refl refl takes)

-- ---- Inputs and lemmas

-- an id that the store refuses is taken
pub taken_by_fault : (b : Bool) (e : StoreFault) → e ≡ IdTaken → (b ≡ false → e ≡ Memory) → b ≡ true
taken_by_fault true e is h = refl
taken_by_fault false e is h = let f : IdTaken ≡ Memory = sym is ∙ h refl in cc f

module _ (m : Store) (ps : List LStep) (h : HoldsIds (clauses_of_store m) ps) (id : ℕ) where
  id_taken : is_held m id ≡ true → first_rule (id_faults ps id) ≡ Some rules.IdTaken
  id_taken e = first-unkept (own.is_absent (standing_after ps id)) rules.IdTaken
      (ap own.is_absent (sym (h.standings id)) ∙ sym (absent-store m id) ∙ ap not e)

  id_free : is_held m id ≡ false → first_rule (id_faults ps id) ≡ None
  id_free e = first-kept (own.is_absent (standing_after ps id)) rules.IdTaken
      (ap own.is_absent (sym (h.standings id)) ∙ sym (absent-store m id) ∙ ap not e)

module _ (m n : Store) (s t : State) (id : ℕ) (c : List ℕ) where
  -- an input
  module _ (answer : Option Rule) (order : answer ≡ slice_get (order_rules s (kind_of (events.Input c))) 0) where
    pub input_order : (r : Rule) → answer ≡ Some r → JudgedId (holding_ids (clauses_of_store m) s) (holding_ids (clauses_of_store n) t) (lsteps.Input id c) (Some r)
    unfolding own_id_faults
    input_order r is = stops (clauses_of_store m) s (clauses_of_store n) t (lsteps.Input id c) r (λ ps a.
        first-here (order_faults (id_events_of ps) (events.Input c)) (id_faults ps id) r (fits_order ps a.events (events.Input c) order is))

    pub input_taken : answer ≡ None → is_held m id ≡ true → JudgedId (holding_ids (clauses_of_store m) s) (holding_ids (clauses_of_store n) t) (lsteps.Input id c) (Some rules.IdTaken)
    unfolding own_id_faults
    input_taken is taken = stops (clauses_of_store m) s (clauses_of_store n) t (lsteps.Input id c) rules.IdTaken (λ ps a.
        first-skip (order_faults (id_events_of ps) (events.Input c)) (id_faults ps id) (fits_order ps a.events (events.Input c) order is)
        ∙ id_taken m ps a.clauses id taken)

    pub input_done : answer ≡ None → is_held m id ≡ false → (slot : ℕ) → n ≡ finmap.insert m id (new_clause c slot) → TakesEvent s t (events.Input c)
        → JudgedId (holding_ids (clauses_of_store m) s) (holding_ids (clauses_of_store n) t) (lsteps.Input id c) None
    unfolding own_id_faults
    input_done is free slot added takes = goes_on (clauses_of_store m) s (clauses_of_store n) t (lsteps.Input id c)
        (λ ps a. first-skip (order_faults (id_events_of ps) (events.Input c)) (id_faults ps id) (fits_order ps a.events (events.Input c) order is) ∙ id_free m ps a.clauses id free)
        (λ ps a. record {
          clauses = holds_given (clauses_of_store m) (clauses_of_store n) ps (lsteps.Input id c) id c refl refl (store_added m n id slot c added) a.clauses;
          events = subst (StandsFor t) (sym (events-some ps (lsteps.Input id c) (events.Input c) refl)) (takes (id_events_of ps) a.events);
        })

  -- a lemma
  module _ (hs : List ℕ) where
    pub lemma_taken : is_held m id ≡ true → JudgedId (holding_ids (clauses_of_store m) s) (holding_ids (clauses_of_store n) t) (lsteps.Lemma id c hs) (Some rules.IdTaken)
    unfolding own_id_faults
    lemma_taken taken = stops (clauses_of_store m) s (clauses_of_store n) t (lsteps.Lemma id c hs) rules.IdTaken (λ ps a.
        first-here (id_faults ps id) (hint_faults ps (map neg c) hs) rules.IdTaken (id_taken m ps a.clauses id taken))

    module _ (free : is_held m id ≡ false) (end : HintEnd) (run : end ≡ end_of (hints_fail (active_at m) (map neg c) hs)) where
      pub lemma_hint : (p : ℕ) → end ≡ Fails p → JudgedId (holding_ids (clauses_of_store m) s) (holding_ids (clauses_of_store n) t) (lsteps.Lemma id c hs) (Some (rules.Hint p))
      unfolding own_id_faults
      lemma_hint p is = stops (clauses_of_store m) s (clauses_of_store n) t (lsteps.Lemma id c hs) (rules.Hint p) (λ ps a.
          first-skip (id_faults ps id) (hint_faults ps (map neg c) hs) (id_free m ps a.clauses id free) ∙ hints_broken m ps a.clauses (map neg c) hs end run p is)

      pub lemma_done : end ≡ Closed → (slot : ℕ) → n ≡ finmap.insert m id (new_clause c slot) → t ≡ s → JudgedId (holding_ids (clauses_of_store m) s) (holding_ids (clauses_of_store n) t) (lsteps.Lemma id c hs) None
      unfolding own_id_faults
      lemma_done is slot added same = goes_on (clauses_of_store m) s (clauses_of_store n) t (lsteps.Lemma id c hs)
          (λ ps a. first-skip (id_faults ps id) (hint_faults ps (map neg c) hs) (id_free m ps a.clauses id free) ∙ hints_closed m ps a.clauses (map neg c) hs end run is)
          (λ ps a. record {
            clauses = holds_given (clauses_of_store m) (clauses_of_store n) ps (lsteps.Lemma id c hs) id c refl refl (store_added m n id slot c added) a.clauses;
            events = subst (StandsFor t) (sym (events-none ps (lsteps.Lemma id c hs) refl)) (subst (λ z. StandsFor z (id_events_of ps)) (sym same) a.events);
          })

-- ---- Steps with a list of ids

module _ (step : List ℕ → LStep) (is_so : Standing → Bool) (left : Standing) (rule : ℕ → Rule)
    (faults : (ps : List LStep) (is : List ℕ) → own_id_faults ps (step is) ≡ broken_at rule (first_not is_so left (flat_map mentions ps) 1 is))
    (silent : (is : List ℕ) → id_event_of (step is) ≡ None) (m n : Store) (s : State) (is : List ℕ) where
  named_stop : (place : ℕ) → Turned step is_so left m n is (Some place) → JudgedId (holding_ids (clauses_of_store m) s) (holding_ids (clauses_of_store n) s) (step is) (Some (rule place))
  named_stop place t = stops (clauses_of_store m) s (clauses_of_store n) s (step is) (rule place) (λ ps a.
      ap first_rule (faults ps is) ∙ first-broken rule (first_not is_so left (flat_map mentions ps) 1 is) ∙ ap (option_map rule) (sym (t.first ps a.clauses)))

  named_done : Turned step is_so left m n is None → JudgedId (holding_ids (clauses_of_store m) s) (holding_ids (clauses_of_store n) s) (step is) None
  named_done t = goes_on (clauses_of_store m) s (clauses_of_store n) s (step is)
      (λ ps a. ap first_rule (faults ps is) ∙ first-broken rule (first_not is_so left (flat_map mentions ps) 1 is) ∙ ap (option_map rule) (sym (t.first ps a.clauses)))
      (λ ps a. record { clauses = t.holds ps a.clauses; events = subst (StandsFor s) (sym (events-none ps (step is) (silent is))) a.events })

delete_faults : (ps : List LStep) (is : List ℕ) → own_id_faults ps (lsteps.Delete is) ≡ broken_at rules.NotActive (first_not own.is_active Absent (flat_map mentions ps) 1 is)
unfolding own_id_faults
delete_faults ps is = refl

weaken_faults : (ps : List LStep) (is : List ℕ) → own_id_faults ps (lsteps.Weaken is) ≡ broken_at rules.NotActive (first_not own.is_active Weakened (flat_map mentions ps) 1 is)
unfolding own_id_faults
weaken_faults ps is = refl

restore_faults : (ps : List LStep) (is : List ℕ) → own_id_faults ps (lsteps.Restore is) ≡ broken_at rules.NotWeakened (first_not own.is_weakened Active (flat_map mentions ps) 1 is)
unfolding own_id_faults
restore_faults ps is = refl

module _ (m n : Store) (s : State) (is : List ℕ) where
  pub delete_stop : (place : ℕ) → Turned lsteps.Delete own.is_active Absent m n is (Some place) → JudgedId (holding_ids (clauses_of_store m) s) (holding_ids (clauses_of_store n) s) (lsteps.Delete is) (Some (rules.NotActive place))
  delete_stop place t = named_stop lsteps.Delete own.is_active Absent rules.NotActive delete_faults (λ is. refl) m n s is place t

  pub delete_done : Turned lsteps.Delete own.is_active Absent m n is None → JudgedId (holding_ids (clauses_of_store m) s) (holding_ids (clauses_of_store n) s) (lsteps.Delete is) None
  delete_done t = named_done lsteps.Delete own.is_active Absent rules.NotActive delete_faults (λ is. refl) m n s is t

  pub weaken_stop : (o : Option ℕ) (place : ℕ) → o ≡ Some place → Turned lsteps.Weaken own.is_active Weakened m n is o → JudgedId (holding_ids (clauses_of_store m) s) (holding_ids (clauses_of_store n) s) (lsteps.Weaken is) (Some (rules.NotActive place))
  weaken_stop o place e t = named_stop lsteps.Weaken own.is_active Weakened rules.NotActive weaken_faults (λ is. refl) m n s is place (subst (Turned lsteps.Weaken own.is_active Weakened m n is) e t)

  pub weaken_done : (o : Option ℕ) → o ≡ None → Turned lsteps.Weaken own.is_active Weakened m n is o → JudgedId (holding_ids (clauses_of_store m) s) (holding_ids (clauses_of_store n) s) (lsteps.Weaken is) None
  weaken_done o e t = named_done lsteps.Weaken own.is_active Weakened rules.NotActive weaken_faults (λ is. refl) m n s is (subst (Turned lsteps.Weaken own.is_active Weakened m n is) e t)

  pub restore_stop : (o : Option ℕ) (place : ℕ) → o ≡ Some place → Turned lsteps.Restore own.is_weakened Active m n is o → JudgedId (holding_ids (clauses_of_store m) s) (holding_ids (clauses_of_store n) s) (lsteps.Restore is) (Some (rules.NotWeakened place))
  restore_stop o place e t = named_stop lsteps.Restore own.is_weakened Active rules.NotWeakened restore_faults (λ is. refl) m n s is place (subst (Turned lsteps.Restore own.is_weakened Active m n is) e t)

  pub restore_done : (o : Option ℕ) → o ≡ None → Turned lsteps.Restore own.is_weakened Active m n is o → JudgedId (holding_ids (clauses_of_store m) s) (holding_ids (clauses_of_store n) s) (lsteps.Restore is) None
  restore_done o e t = named_done lsteps.Restore own.is_weakened Active rules.NotWeakened restore_faults (λ is. refl) m n s is (subst (Turned lsteps.Restore own.is_weakened Active m n is) e t)

-- a step that was judged after room was made
pub judged-after : (m : Clauses) (s : State) (k : Clauses) (r : State) (n : Clauses) (t : State) (step : LStep) (answer : Option Rule)
    → ((ps : List LStep) → AreAfterIds (holding_ids m s) ps → AreAfterIds (holding_ids k r) ps) → JudgedId (holding_ids k r) (holding_ids n t) step answer → JudgedId (holding_ids m s) (holding_ids n t) step answer
judged-after m s k r n t step None h j = record { rule = λ ps a. j.rule ps (h ps a); stands = λ ps a. j.stands ps (h ps a) }
judged-after m s k r n t step (Some rule) h j = record { rule = λ ps a. j.rule ps (h ps a); stands = tt }
