-- What the judgement of each step without ids rests on.
use Rattle.std.proofs.Common.{◌≡◌, ℕ, ◌+◌, ◌≤◌, Bool, true, false, nat_lt, List, [], ◌∷◌, ◌++◌, map, Option, Some, None, Result, Ok, Err, refl, sym, ap, ◌∙◌, subst, append-nil}
use Rattle.std.specs.Prelude.{slice_get, IfOk}
use Rattle.std.proofs.lemmas.List.Elements.{filter_map-append}
use Rattle.std.specs.FinMap as finmap
use Rattle.std.specs.declared.alloc.AllocError.{AllocError}
use Rattle.lits.specs.Literal.{neg}
use Rattle.lits.specs.Clause.{has, same_set, set_of}
use Rattle.lits.proofs.Sets.{same_set-flip}
use Rattle.lits.proofs.Ascending.{has-set_of}
use Rattle.lits.proofs.Sets.{same_from}
use Rattle.session_rules.specs.declared.StatusWord.{StatusWord}
use Rattle.session_rules.specs.declared.Event.{Event}
use Rattle.session_rules.specs.declared.Event.TheVariants as events
use Rattle.session_rules.specs.declared.Step.{Step}
use Rattle.session_rules.specs.declared.Step.TheVariants as steps
use Rattle.session_rules.specs.declared.Rule.{Rule}
use Rattle.session_rules.specs.declared.Rule.TheVariants as rules
use Rattle.session_rules.specs.Logic.{closes, Closes}
use Rattle.session_rules.specs.History.{broken_unless, order_faults, model_faults, core_faults}
use Rattle.session_rules.specs.Own.{active_copies, weakened_copies, active_clauses, event_of, events_of, own_faults}
use Rattle.clause_store.specs.Clauses as store
use Rattle.clause_store.specs.Clauses.{Store}
use Rattle.propagation.specs.Clauses as seen
use Rattle.propagation.specs.Clauses.{clauses_of, active}
use Rattle.propagation.specs.Engine as engine
use Rattle.propagation.specs.Engine.{EngineView}
use Rattle.session_events.specs.State.{State, StandsFor, kind_of, order_rules, model_rules, core_rules}
use Rattle.side_laws.specs.ClauseStates.{ClauseState, Clauses, kept, ChangesAt}
use Rattle.side_laws.specs.Sets.{new_clause, HoldsSets}
use Rattle.side_laws.proofs.Named.{changes-named}
use Rattle.side_laws.proofs.Held.{holds_no_sets, sets_silent, sets_given, sets_deleted, sets_weakened, sets_restored, active_some, weakened_some, active_none, weakened_none}
use Rattle.pair_matcher.specs.Sides.{first_rule, AreAfter, Judged, holding}
use Rattle.pair_matcher.specs.Inside.{kept_of_clause, clauses_of_engine}
use Rattle.pair_matcher.proofs.Rules.{first-skip, first-here, first-kept, first-unkept, order_is, model_is, core_is}
use Rattle.pair_matcher.proofs.Engines.{found_active, found_weakened, none_active, none_weakened, least_active, least_weakened, engine_deleted, engine_weakened, engine_restored, closes_is, grown_clauses}
use Rattle.side_laws.proofs.Maps.{empty-kept_by}
use Rattle.std.specs.Cmp.{nat_cmp_total}
use Rattle.std.specs.Ordering.{nat_cmp}

-- ---- Events

pub events-some : (ps : List Step) (e : Event) → events_of (ps ++ steps.Event e ∷ []) ≡ events_of ps ++ e ∷ []
events-some ps e = rw filter_map-append refl

pub events-none : (ps : List Step) (p : Step) → event_of p ≡ None → events_of (ps ++ p ∷ []) ≡ events_of ps
events-none ps p is = rw (filter_map-append, is, append-nil) refl

-- what the events say of the order is what the steps say
fits_order : {s : State} {answer o : Option Rule} (ps : List Step) → StandsFor s (events_of ps) → (e : Event) → answer ≡ slice_get (order_rules s (kind_of e)) 0 → answer ≡ o → first_rule (order_faults (events_of ps) e) ≡ o
fits_order {s} {answer} {o} ps h e order is = order_is s (events_of ps) h answer e order ∙ is

-- what a call that takes an event says
abbrev pub TakesEvent : State → State → Event → Type 0
TakesEvent s t e = (es : List Event) → StandsFor s es → StandsFor t (es ++ e ∷ [])

-- an event that changes no clause
after_event : (m : Clauses) (next : ℕ) (s t : State) (e : Event) → new_clause (steps.Event e) ≡ None → TakesEvent s t e
    → (ps : List Step) → AreAfter (holding m next s) ps → AreAfter (holding m next t) (ps ++ steps.Event e ∷ [])
after_event m next s t e gives takes ps a = record {
  clauses = sets_silent m next ps (steps.Event e) gives refl refl a.clauses;
  events = subst (StandsFor t) (sym (events-some ps e)) (takes (events_of ps) a.events);
}

module _ (m : Clauses) (next : ℕ) (s : State) (n : Clauses) (after : ℕ) (t : State) (step : Step) where
  stops : (r : Rule) → ((ps : List Step) → AreAfter (holding m next s) ps → first_rule (own_faults ps step) ≡ Some r) → Judged (holding m next s) (holding n after t) step (Some r)
  stops r h = record { rule = λ ps a. sym (h ps a); stands = tt; named = tt }

  goes_on : ((ps : List Step) → AreAfter (holding m next s) ps → first_rule (own_faults ps step) ≡ None)
      → ((ps : List Step) → AreAfter (holding m next s) ps → AreAfter (holding n after t) (ps ++ step ∷ [])) → Judged (holding m next s) (holding n after t) step None
  goes_on h k = record { rule = λ ps a. sym (h ps a); stands = k; named = λ ps a id e. changes-named m n next after ps step id a.clauses (k ps a).clauses e }

-- ---- Queries, statuses and models

module _ (m n : Clauses) (next after : ℕ) (s t : State) (answer : Option Rule) where
  module _ (c : List ℕ) (order : answer ≡ slice_get (order_rules s (kind_of (events.Query c))) 0) where
    pub query_order : (r : Rule) → answer ≡ Some r → Judged (holding m next s) (holding n after t) (steps.Event (events.Query c)) (Some r)
    unfolding own_faults
    query_order r is = stops m next s n after t (steps.Event (events.Query c)) r (λ ps a. fits_order ps a.events (events.Query c) order is)

    pub query_done : answer ≡ None → TakesEvent s t (events.Query c) → Judged (holding m next s) (holding m next t) (steps.Event (events.Query c)) None
    unfolding own_faults
    query_done is takes = goes_on m next s m next t (steps.Event (events.Query c)) (λ ps a. fits_order ps a.events (events.Query c) order is)
        (after_event m next s t (events.Query c) refl takes)

  module _ (w : StatusWord) (order : answer ≡ slice_get (order_rules s (kind_of (events.Status w))) 0) where
    pub status_order : (r : Rule) → answer ≡ Some r → Judged (holding m next s) (holding n after t) (steps.Event (events.Status w)) (Some r)
    unfolding own_faults
    status_order r is = stops m next s n after t (steps.Event (events.Status w)) r (λ ps a. fits_order ps a.events (events.Status w) order is)

    pub status_done : answer ≡ None → TakesEvent s t (events.Status w) → Judged (holding m next s) (holding m next t) (steps.Event (events.Status w)) None
    unfolding own_faults
    status_done is takes = goes_on m next s m next t (steps.Event (events.Status w)) (λ ps a. fits_order ps a.events (events.Status w) order is)
        (after_event m next s t (events.Status w) refl takes)

  module _ (c : List ℕ) (order : answer ≡ slice_get (order_rules s (kind_of (events.Model c))) 0) where
    pub model_order : (r : Rule) → answer ≡ Some r → Judged (holding m next s) (holding n after t) (steps.Event (events.Model c)) (Some r)
    unfolding own_faults
    model_order r is = stops m next s n after t (steps.Event (events.Model c)) r (λ ps a. first-here (order_faults (events_of ps) (events.Model c)) (model_faults (events_of ps) c) r
        (fits_order ps a.events (events.Model c) order is))

    module _ (held : answer ≡ None) (own_answer : Option Rule) (model : own_answer ≡ slice_get (model_rules s c) 0) where
      model_rest : (ps : List Step) → AreAfter (holding m next s) ps → first_rule (own_faults ps (steps.Event (events.Model c))) ≡ own_answer
      unfolding own_faults
      model_rest ps a = first-skip (order_faults (events_of ps) (events.Model c)) (model_faults (events_of ps) c) (fits_order ps a.events (events.Model c) order held)
          ∙ model_is s (events_of ps) a.events own_answer c model

      pub model_broken : (r : Rule) → own_answer ≡ Some r → Judged (holding m next s) (holding n after t) (steps.Event (events.Model c)) (Some r)
      model_broken r is = stops m next s n after t (steps.Event (events.Model c)) r (λ ps a. model_rest ps a ∙ is)

      pub model_done : own_answer ≡ None → TakesEvent s t (events.Model c) → Judged (holding m next s) (holding m next t) (steps.Event (events.Model c)) None
      model_done is takes = goes_on m next s m next t (steps.Event (events.Model c)) (λ ps a. model_rest ps a ∙ is) (after_event m next s t (events.Model c) refl takes)

-- ---- Parts of models and of cores, which have no place in a proof

pub values_order : (m : Clauses) (next : ℕ) (s : State) (c : List ℕ) → Judged (holding m next s) (holding m next s) (steps.Event (events.Values c)) (Some rules.Order)
unfolding own_faults
values_order m next s c = stops m next s m next s (steps.Event (events.Values c)) rules.Order (λ ps a. refl)

pub failed_order : (m : Clauses) (next : ℕ) (s : State) (c : List ℕ) → Judged (holding m next s) (holding m next s) (steps.Event (events.Failed c)) (Some rules.Order)
unfolding own_faults
failed_order m next s c = stops m next s m next s (steps.Event (events.Failed c)) rules.Order (λ ps a. refl)

-- ---- Cores

-- the test of closing over an engine whose clauses are these
pub record TestsClosing (m : Clauses) (ls : List ℕ) (answer : Bool) : Type 0 where
  pub is : (next : ℕ) (ps : List Step) → HoldsSets m next ps → closes (active_clauses ps) ls ≡ answer

pub tests_closing : (e : EngineView) (ls : List ℕ) (answer : Bool) → (answer ≡ true → Closes (active e.clauses) ls) → (Closes (active e.clauses) ls → answer ≡ true) → TestsClosing (clauses_of_engine e) ls answer
tests_closing e ls answer sound complete = record { is = λ next ps h. closes_is e next ps h ls answer sound complete }

module _ (m n : Clauses) (next after : ℕ) (s t : State) (u : List ℕ) (answer : Option Rule) (order : answer ≡ slice_get (order_rules s (kind_of (events.Core u))) 0) where
  core_first : List Step → List Rule
  core_first ps = order_faults (events_of ps) (events.Core u) ++ core_faults (events_of ps) u

  core_last : List Step → List Rule
  core_last ps = broken_unless (closes (active_clauses ps) u) rules.CoreOpen

  pub core_order : (r : Rule) → answer ≡ Some r → Judged (holding m next s) (holding n after t) (steps.Event (events.Core u)) (Some r)
  unfolding own_faults core_first core_last
  core_order r is = stops m next s n after t (steps.Event (events.Core u)) r (λ ps a. first-here (core_first ps) (core_last ps) r
      (first-here (order_faults (events_of ps) (events.Core u)) (core_faults (events_of ps) u) r (fits_order ps a.events (events.Core u) order is)))

  module _ (held : answer ≡ None) (own_answer : Option Rule) (core : own_answer ≡ slice_get (core_rules s u) 0) where
    core_firsts : (ps : List Step) → AreAfter (holding m next s) ps → first_rule (core_first ps) ≡ own_answer
    unfolding core_first
    core_firsts ps a = first-skip (order_faults (events_of ps) (events.Core u)) (core_faults (events_of ps) u) (fits_order ps a.events (events.Core u) order held)
        ∙ core_is s (events_of ps) a.events own_answer u core

    pub core_stranger : (r : Rule) → own_answer ≡ Some r → Judged (holding m next s) (holding n after t) (steps.Event (events.Core u)) (Some r)
    unfolding own_faults core_first core_last
    core_stranger r is = stops m next s n after t (steps.Event (events.Core u)) r (λ ps a. first-here (core_first ps) (core_last ps) r (core_firsts ps a ∙ is))

    pub core_open : own_answer ≡ None → TestsClosing m u false → Judged (holding m next s) (holding n after t) (steps.Event (events.Core u)) (Some rules.CoreOpen)
    unfolding own_faults core_first core_last
    core_open is test = stops m next s n after t (steps.Event (events.Core u)) rules.CoreOpen (λ ps a. first-skip (core_first ps) (core_last ps) (core_firsts ps a ∙ is)
        ∙ first-unkept (closes (active_clauses ps) u) rules.CoreOpen (test.is next ps a.clauses))

    pub core_done : own_answer ≡ None → TestsClosing m u true → n ≡ m → TakesEvent s t (events.Core u) → Judged (holding m next s) (holding n next t) (steps.Event (events.Core u)) None
    unfolding own_faults core_first core_last
    core_done is test same takes = goes_on m next s n next t (steps.Event (events.Core u)) (λ ps a. first-skip (core_first ps) (core_last ps) (core_firsts ps a ∙ is)
        ∙ first-kept (closes (active_clauses ps) u) rules.CoreOpen (test.is next ps a.clauses))
        (λ ps a. subst (λ z. AreAfter (holding z next t) (ps ++ steps.Event (events.Core u) ∷ [])) (sym same) (after_event m next s t (events.Core u) refl takes ps a))

-- ---- Inputs and lemmas

module _ (m n : Clauses) (next : ℕ) (s t : State) (c : List ℕ) where
  pub input_order : (after : ℕ) (answer : Option Rule) → answer ≡ slice_get (order_rules s (kind_of (events.Input c))) 0 → (r : Rule) → answer ≡ Some r
      → Judged (holding m next s) (holding n after t) (steps.Event (events.Input c)) (Some r)
  unfolding own_faults
  input_order after answer order r is = stops m next s n after t (steps.Event (events.Input c)) r (λ ps a. fits_order ps a.events (events.Input c) order is)

  pub input_done : (answer : Option Rule) → answer ≡ slice_get (order_rules s (kind_of (events.Input c))) 0 → answer ≡ None
      → ChangesAt m n next (Some (kept true (set_of c))) → TakesEvent s t (events.Input c) → Judged (holding m next s) (holding n (next + 1) t) (steps.Event (events.Input c)) None
  unfolding own_faults
  input_done answer order is change takes = goes_on m next s n (next + 1) t (steps.Event (events.Input c)) (λ ps a. fits_order ps a.events (events.Input c) order is)
      (λ ps a. record {
        clauses = sets_given m n next ps (steps.Event (events.Input c)) c refl change a.clauses;
        events = subst (StandsFor t) (sym (events-some ps (events.Input c))) (takes (events_of ps) a.events);
      })

  pub lemma_open : (after : ℕ) → TestsClosing m (map neg c) false → Judged (holding m next s) (holding n after t) (steps.Lemma c) (Some rules.Lemma)
  unfolding own_faults
  lemma_open after test = stops m next s n after t (steps.Lemma c) rules.Lemma (λ ps a. first-unkept (closes (active_clauses ps) (map neg c)) rules.Lemma (test.is next ps a.clauses))

  pub lemma_done : TestsClosing m (map neg c) true → ChangesAt m n next (Some (kept true (set_of c))) → Judged (holding m next s) (holding n (next + 1) s) (steps.Lemma c) None
  unfolding own_faults
  lemma_done test change = goes_on m next s n (next + 1) s (steps.Lemma c) (λ ps a. first-kept (closes (active_clauses ps) (map neg c)) rules.Lemma (test.is next ps a.clauses))
      (λ ps a. record {
        clauses = sets_given m n next ps (steps.Lemma c) c refl change a.clauses;
        events = subst (StandsFor s) (sym (events-none ps (steps.Lemma c) refl)) a.events;
      })

-- ---- Deletions, weakenings, restorings

pub its_set : (c set : List ℕ) → set ≡ set_of c → same_set c set ≡ true
its_set c set e = same_set-flip set c (same_from set c (λ x. ap (λ z. has z x) e ∙ has-set_of c x))

module _ (m : Store) (e f : EngineView) (same : clauses_of m ≡ e.clauses) (next : ℕ) (s : State) (c set : List ℕ) (is : set ≡ set_of c) where
  pub deletion_none : (n : Clauses) → ((x : ℕ) → store.IsActiveWith m set x → ⊥) → Judged (holding (clauses_of_engine e) next s) (holding n next s) (steps.Delete c) (Some (rules.NotActive 1))
  unfolding own_faults
  deletion_none n none = stops (clauses_of_engine e) next s n next s (steps.Delete c) (rules.NotActive 1) (λ ps a. first-unkept (nat_lt 0 (active_copies ps c)) (rules.NotActive 1)
      (active_none (clauses_of_engine e) next ps a.clauses c (none_active m e same next ps a.clauses c set is none)))

  pub weakening_none : (n : Clauses) → ((x : ℕ) → store.IsActiveWith m set x → ⊥) → Judged (holding (clauses_of_engine e) next s) (holding n next s) (steps.Weaken c) (Some (rules.NotActive 1))
  unfolding own_faults
  weakening_none n none = stops (clauses_of_engine e) next s n next s (steps.Weaken c) (rules.NotActive 1) (λ ps a. first-unkept (nat_lt 0 (active_copies ps c)) (rules.NotActive 1)
      (active_none (clauses_of_engine e) next ps a.clauses c (none_active m e same next ps a.clauses c set is none)))

  pub restoring_none : (n : Clauses) → ((x : ℕ) → store.IsWeakenedWith m set x → ⊥) → Judged (holding (clauses_of_engine e) next s) (holding n next s) (steps.Restore c) (Some (rules.NotWeakened 1))
  unfolding own_faults
  restoring_none n none = stops (clauses_of_engine e) next s n next s (steps.Restore c) (rules.NotWeakened 1) (λ ps a. first-unkept (nat_lt 0 (weakened_copies ps c)) (rules.NotWeakened 1)
      (weakened_none (clauses_of_engine e) next ps a.clauses c (none_weakened m e same next ps a.clauses c set is none)))

  module _ (id : ℕ) where
    pub deletion_done : store.IsActiveWith m set id → ((x : ℕ) → store.IsActiveWith m set x → id ≤ x) → f ≡ engine.with_clauses e (finmap.remove e.clauses id) → Judged (holding (clauses_of_engine e) next s) (holding (clauses_of_engine f) next s) (steps.Delete c) None
    unfolding own_faults
    deletion_done found least change = let g = found_active m e same set id found in let set_same = its_set c set is in
        goes_on (clauses_of_engine e) next s (clauses_of_engine f) next s (steps.Delete c)
        (λ ps a. first-kept (nat_lt 0 (active_copies ps c)) (rules.NotActive 1) (active_some (clauses_of_engine e) next ps a.clauses c id set g set_same))
        (λ ps a. record {
          clauses = sets_deleted (clauses_of_engine e) (clauses_of_engine f) next ps c id set a.clauses (least_active m e same next ps a.clauses c set is id set_same found least) (engine_deleted e f id change);
          events = subst (StandsFor s) (sym (events-none ps (steps.Delete c) refl)) a.events;
        })

    pub weakening_done : store.IsActiveWith m set id → ((x : ℕ) → store.IsActiveWith m set x → id ≤ x) → f ≡ engine.with_clauses e (finmap.insert e.clauses id (engine.weakened_clause (seen.literals_at e.clauses id)))
        → Judged (holding (clauses_of_engine e) next s) (holding (clauses_of_engine f) next s) (steps.Weaken c) None
    unfolding own_faults
    weakening_done found least change = let g = found_active m e same set id found in let set_same = its_set c set is in
        goes_on (clauses_of_engine e) next s (clauses_of_engine f) next s (steps.Weaken c)
        (λ ps a. first-kept (nat_lt 0 (active_copies ps c)) (rules.NotActive 1) (active_some (clauses_of_engine e) next ps a.clauses c id set g set_same))
        (λ ps a. record {
          clauses = sets_weakened (clauses_of_engine e) (clauses_of_engine f) next ps c id set a.clauses (least_active m e same next ps a.clauses c set is id set_same found least) (engine_weakened e f id true set g change);
          events = subst (StandsFor s) (sym (events-none ps (steps.Weaken c) refl)) a.events;
        })

    pub restoring_done : store.IsWeakenedWith m set id → ((x : ℕ) → store.IsWeakenedWith m set x → id ≤ x) → engine.IsRestored e id f → Judged (holding (clauses_of_engine e) next s) (holding (clauses_of_engine f) next s) (steps.Restore c) None
    unfolding own_faults
    restoring_done found least change = let g = found_weakened m e same set id found in let set_same = its_set c set is in
        goes_on (clauses_of_engine e) next s (clauses_of_engine f) next s (steps.Restore c)
        (λ ps a. first-kept (nat_lt 0 (weakened_copies ps c)) (rules.NotWeakened 1) (weakened_some (clauses_of_engine e) next ps a.clauses c id set g set_same))
        (λ ps a. record {
          clauses = sets_restored (clauses_of_engine e) (clauses_of_engine f) next ps c id set a.clauses (least_weakened m e same next ps a.clauses c set is id set_same found least) (engine_restored e f id false set g change);
          events = subst (StandsFor s) (sym (events-none ps (steps.Restore c) refl)) a.events;
        })

-- a step that was judged after other calls that left all that steps leave
pub judged-after : (m k n : Clauses) (next now after : ℕ) (s r t : State) (step : Step) (answer : Option Rule)
    → ((ps : List Step) → AreAfter (holding m next s) ps → AreAfter (holding k now r) ps) → Judged (holding k now r) (holding n after t) step answer → Judged (holding m next s) (holding n after t) step answer
judged-after m k n next now after s r t step None h j = record {
  rule = λ ps a. j.rule ps (h ps a);
  stands = λ ps a. j.stands ps (h ps a);
  named = λ ps a id e. changes-named m n next after ps step id a.clauses (j.stands ps (h ps a)).clauses e;
}
judged-after m k n next now after s r t step (Some rule) h j = record { rule = λ ps a. j.rule ps (h ps a); stands = tt; named = tt }

pub judged_ok : (m k n : Clauses) (next now after : ℕ) (s r t : State) (step : Step) (result : Result (Option Rule) AllocError)
    → ((ps : List Step) → AreAfter (holding m next s) ps → AreAfter (holding k now r) ps) → IfOk result (λ a. Judged (holding k now r) (holding n after t) step a) → IfOk result (λ a. Judged (holding m next s) (holding n after t) step a)
judged_ok m k n next now after s r t step (Ok a) h j = judged-after m k n next now after s r t step a h j
judged_ok m k n next now after s r t step (Err e) h j = tt

-- ---- What the test of closing tells and leaves

pub tested : (e : EngineView) (ls ms : List ℕ) (answer b : Bool) → (answer ≡ true → Closes (active e.clauses) ls) → (Closes (active e.clauses) ls → answer ≡ true) → answer ≡ b → ls ≡ ms
    → TestsClosing (clauses_of_engine e) ms b
tested e ls ms answer b sound complete h same = subst (λ z. TestsClosing (clauses_of_engine e) z b) same (subst (TestsClosing (clauses_of_engine e) ls) h
    (tests_closing e ls answer sound complete))

pub tested_then : (e f g : EngineView) (id : ℕ) (now : Option ClauseState) → engine.Grows e f → ChangesAt (clauses_of_engine f) (clauses_of_engine g) id now → ChangesAt (clauses_of_engine e) (clauses_of_engine g) id now
tested_then e f g id now grows change = subst (λ z. ChangesAt z (clauses_of_engine g) id now) (grown_clauses e f grows) change

-- ---- The start

nothing_kept : clauses_of_engine engine.no_engine ≡ finmap.empty
nothing_kept = finmap.same_map nat_cmp_total finmap.nat_cmp-IsAntisymmetric _ _ (λ q. empty-kept_by kept_of_clause q ∙ sym (finmap.get-empty nat_cmp q))

pub stands-new-sets : (e : EngineView) (s : State) → e ≡ engine.no_engine → StandsFor s [] → AreAfter (holding (clauses_of_engine e) 1 s) []
stands-new-sets e s is h = record { clauses = subst (λ z. HoldsSets z 1 []) (sym (ap clauses_of_engine is ∙ nothing_kept)) holds_no_sets; events = h }
