-- What is found of a step that becomes one with ids and hints: over an engine, over numbers and over the file's variables.
use Rattle.std.proofs.Common.{◌≡◌, ℕ, ◌+◌, ◌≤◌, Bool, true, false, if◌then◌else◌, List, [], ◌∷◌, ◌++◌, map, Option, Some, None, Result, Ok, Err, option_map, refl, sym, ap, ◌∙◌, subst}
use Rattle.std.specs.Prelude.{IfOk, IfNone, is_some, option_and_then}
use Rattle.std.specs.List.{list_all}
use Rattle.std.specs.FinMap.{get}
use Rattle.std.specs.declared.alloc.AllocError.{AllocError}
use Rattle.std.proofs.Math.Path.{fun_ext}
use Rattle.std.proofs.lemmas.Option.{same_Some}
use Rattle.lits.specs.Literal.{neg}
use Rattle.lits.specs.Clause.{has, set_of}
use Rattle.lits.specs.Numbering.{are_known, dense_lits}
use Rattle.numbered_lits.specs.Numbers.{Continues}
use Rattle.session_rules.specs.declared.Event.{Event}
use Rattle.session_rules.specs.declared.Event.TheVariants as events
use Rattle.session_rules.specs.declared.Step.{Step}
use Rattle.session_rules.specs.declared.Step.TheVariants as steps
use Rattle.session_rules.specs.declared.LStep.{LStep}
use Rattle.session_rules.specs.declared.LStep.TheVariants as lsteps
use Rattle.session_rules.specs.declared.Rule.{Rule}
use Rattle.session_rules.specs.declared.Standing.{Standing}
use Rattle.session_rules.specs.Own.{is_active, own_faults}
use Rattle.session_rules.specs.Logic.{Closes, hints_fail}
use Rattle.session_rules.proofs.Closing.{hints_close}
use Rattle.clause_store.specs.Clauses as store
use Rattle.clause_store.specs.Clauses.{Store}
use Rattle.propagation.specs.Clauses as seen
use Rattle.propagation.specs.Clauses.{Clause, clauses_of}
use Rattle.propagation.specs.Engine.{EngineView}
use Rattle.propagation.proofs.ClausesMap.{Contains-active}
use Rattle.session_events.specs.State.{State}
use Rattle.side_laws.specs.ClauseStates.{Clauses, active_literals, active_in}
use Rattle.side_laws.specs.Ids.{SameClauses}
use Rattle.side_laws.specs.Sets.{GivenClause, given_by, with_id, standing_or_absent, standing_at, next_id, HoldsSets}
use Rattle.side_laws.proofs.Maps.{get-kept_by}
use Rattle.side_laws.proofs.Held.{least_named}
use Rattle.numbering_laws.specs.Dense.{dense_step, dense_steps, is_known_step, are_known_steps, file_rule, KnownById}
use Rattle.numbering_laws.specs.Kept.{dense_given}
use Rattle.numbering_laws.proofs.Propagated.{negs-dense, negs-known}
use Rattle.numbering_laws.proofs.Hints.{fail-dense}
use Rattle.numbering_laws.proofs.Given.{given-dense, given-known, with_id-dense, id-known, next-dense, named-dense}
use Rattle.conversion_laws.specs.Converted.{active_at, HintsClose, IsConvertedStep, input, lemma, deletion, weakening, restoring, query, status, model, core}
use Rattle.conversion_laws.proofs.Kept.{same_kept, hints_from}
use Rattle.pair_matcher.specs.declared.conversion.Converted.{Converted}
use Rattle.pair_matcher.specs.Sides.{first_rule, IdrupState, IdrupView, AreAfter, AreAfterThrough, StandsFor, JudgedThrough, ChangesNamedAlone, holding, asked_after}
use Rattle.pair_matcher.specs.Inside.{kept_of_clause, clauses_of_engine}
use Rattle.pair_matcher.specs.Conversion.{CloseOver, Found, Finds, FindsThrough, line_of, rule_broken, IfLine, Becomes}
use Rattle.pair_matcher.proofs.Engines.{least_active, least_weakened}
use Rattle.pair_matcher.proofs.JudgingSets.{its_set}
use Rattle.pair_matcher.proofs.Translating.{through_stays, continues-same, step_stands, step_named}

-- ---- Over an engine

by_clause : (o : Option Clause) → option_and_then seen.if_active o ≡ active_literals (option_map kept_of_clause o)
by_clause None = refl
by_clause (Some x) = refl

active_in-engine : (e : EngineView) (id : ℕ) → seen.active_at e.clauses id ≡ active_in (clauses_of_engine e) id
active_in-engine e id = by_clause (get e.clauses id) ∙ ap active_literals (sym (get-kept_by kept_of_clause e.clauses id))

has_clause : (o : Option Clause) → is_some (option_and_then (λ (c : Clause). c.slot) o) ≡ true → is_some (option_and_then seen.if_active o) ≡ true
has_clause None e = cc e
has_clause (Some x) e = rw e refl

-- hints that close give a closing sequence
pub hinted : (m : seen.Clauses) (ls hints : List ℕ) (result : Result Bool AllocError) → IfOk result (λ b. b ≡ true → hints_fail (seen.active_at m) ls hints ≡ None) → IfOk result (λ b. b ≡ true → Closes (seen.active m) ls)
hinted m ls hints (Ok b) f = λ t. hints_close (seen.active m) (seen.active_at m) (λ id c e. Contains-active m id c e) ls hints (f t)
hinted m ls hints (Err e) f = tt

-- hints over the engine's clauses are hints over those that the steps leave
module _ (e : EngineView) (next : ℕ) (s : State) where
  close_over : (ps : List Step) → HoldsSets (clauses_of_engine e) next ps → (ls hints : List ℕ) → CloseOver e.clauses ls hints → HintsClose ps ls hints
  close_over ps h ls hints c = hints_from (seen.active_at e.clauses) ps
      (subst (λ f. SameClauses f (active_at ps)) (sym (fun_ext (active_in-engine e))) (same_kept (clauses_of_engine e) next ps h))
      ls hints c.close c.once (λ id m. has_clause (get e.clauses id) (c.active id m))

  module _ (wanted : Bool) (c : List ℕ) (id : ℕ) (hints : List ℕ) where
    pub lemma_found : (ls : List ℕ) → ls ≡ map neg c → (wanted ≡ true → CloseOver e.clauses ls hints) → Finds wanted (holding (clauses_of_engine e) next s) (steps.Lemma c) id hints
    lemma_found ls is f = record { found = λ w ps a. close_over ps a.clauses (map neg c) hints (subst (λ z. CloseOver e.clauses z hints) is (f w)) }

    pub core_found : (wanted ≡ true → CloseOver e.clauses c hints) → Finds wanted (holding (clauses_of_engine e) next s) (steps.Event (events.Core c)) id hints
    core_found f = record { found = λ w ps a. close_over ps a.clauses c hints (f w) }

-- the least id of the store's is the one that is named
module _ (m : Store) (e : EngineView) (same : clauses_of m ≡ e.clauses) (next : ℕ) (s : State) (c set : List ℕ) (is : set ≡ set_of c) (id : ℕ) (hints : List ℕ) where
  module _ (found : store.IsActiveWith m set id) (least : (x : ℕ) → store.IsActiveWith m set x → id ≤ x) where
    pub deletion_found : Finds true (holding (clauses_of_engine e) next s) (steps.Delete c) id hints
    deletion_found = record { found = λ w ps a. least_named (clauses_of_engine e) next ps true c id set a.clauses (least_active m e same next ps a.clauses c set is id (its_set c set is) found least) }

    pub weakening_found : Finds true (holding (clauses_of_engine e) next s) (steps.Weaken c) id hints
    weakening_found = record { found = λ w ps a. least_named (clauses_of_engine e) next ps true c id set a.clauses (least_active m e same next ps a.clauses c set is id (its_set c set is) found least) }

  pub restoring_found : store.IsWeakenedWith m set id → ((x : ℕ) → store.IsWeakenedWith m set x → id ≤ x) → Finds true (holding (clauses_of_engine e) next s) (steps.Restore c) id hints
  restoring_found found least = record { found = λ w ps a. least_named (clauses_of_engine e) next ps false c id set a.clauses (least_weakened m e same next ps a.clauses c set is id (its_set c set is) found least) }

-- ---- Over the file's variables

by_standing : (vars : List ℕ) (b : Bool) (c : List ℕ) → (if b then Some (dense_lits vars c) else None) ≡ option_map (dense_lits vars) (if b then Some c else None)
by_standing vars true c = refl
by_standing vars false c = refl

-- the clause that was given if it is active
abbrev active_given : Option GivenClause → Option (List ℕ)
active_given o = if is_active (standing_or_absent o) then option_map (λ (g : GivenClause). g.clause) o else None

given_active : (vars : List ℕ) (o : Option GivenClause) → active_given (option_map (dense_given vars) o) ≡ option_map (dense_lits vars) (active_given o)
given_active vars None = refl
given_active vars (Some g) = by_standing vars (is_active g.standing) g.clause

given_standing : (vars : List ℕ) (o : Option GivenClause) → standing_or_absent (option_map (dense_given vars) o) ≡ standing_or_absent o
given_standing vars None = refl
given_standing vars (Some g) = refl

clause_given : (b : Bool) (c d : List ℕ) → (if b then Some c else None) ≡ Some d → c ≡ d
clause_given true c d e = same_Some _ _ e
clause_given false c d e = cc e

module _ (vars : List ℕ) (ps : List Step) (k : are_known_steps vars ps ≡ true) where
  at-dense : (id : ℕ) → with_id (given_by (dense_steps vars ps)) id ≡ option_map (dense_given vars) (with_id (given_by ps) id)
  at-dense id = ap (λ gs. with_id gs id) (given-dense vars ps k) ∙ with_id-dense vars (given_by ps) id

  active-dense : (id : ℕ) → active_at (dense_steps vars ps) id ≡ option_map (dense_lits vars) (active_at ps id)
  active-dense id = ap active_given (at-dense id) ∙ given_active vars (with_id (given_by ps) id)

  standing-dense : (id : ℕ) → standing_at (dense_steps vars ps) id ≡ standing_at ps id
  standing-dense id = ap standing_or_absent (at-dense id) ∙ given_standing vars (with_id (given_by ps) id)

  known_by : (id : ℕ) (o : Option GivenClause) → with_id (given_by ps) id ≡ o → (c : List ℕ) → active_given o ≡ Some c → are_known vars c ≡ true
  known_by id None is c e = cc e
  known_by id (Some g) is c e = subst (λ z. are_known vars z ≡ true) (clause_given (is_active g.standing) g.clause c e)
      (id-known vars (given_by ps) id g (given-known vars ps k) is)

  active-known : KnownById vars (active_at ps)
  active-known = λ id c e. known_by id (with_id (given_by ps) id) refl c e

  -- hints over numbers are hints over the file's variables
  hints-dense : (ls hints : List ℕ) → are_known vars ls ≡ true → HintsClose (dense_steps vars ps) (dense_lits vars ls) hints → HintsClose ps ls hints
  hints-dense ls hints known h = record {
    close = sym (fail-dense vars (active_at ps) (active_at (dense_steps vars ps)) active-known active-dense ls hints known) ∙ h.close;
    once = h.once;
    active = subst (λ (f : ℕ → Standing). list_all (λ id. is_active (f id)) hints ≡ true) (fun_ext standing-dense) h.active;
  }

  found-dense : (step : Step) (id : ℕ) (hints : List ℕ) → is_known_step vars step ≡ true → Found (dense_steps vars ps) (dense_step vars step) id hints → Found ps step id hints
  found-dense (steps.Event (events.Input c)) id hints known f = tt
  found-dense (steps.Event (events.Query c)) id hints known f = tt
  found-dense (steps.Event (events.Status w)) id hints known f = tt
  found-dense (steps.Event (events.Model c)) id hints known f = tt
  found-dense (steps.Event (events.Core u)) id hints known f = hints-dense u hints known f
  found-dense (steps.Event (events.Values c)) id hints known f = tt
  found-dense (steps.Event (events.Failed c)) id hints known f = tt
  found-dense (steps.Lemma c) id hints known f = hints-dense (map neg c) hints (negs-known vars c known) (subst (λ ls. HintsClose (dense_steps vars ps) ls hints) (negs-dense vars c) f)
  found-dense (steps.Delete c) id hints known f = sym (named-dense vars ps (steps.Delete c) k) ∙ f
  found-dense (steps.Weaken c) id hints known f = sym (named-dense vars ps (steps.Weaken c) k) ∙ f
  found-dense (steps.Restore c) id hints known f = sym (named-dense vars ps (steps.Restore c) k) ∙ f

finds_through : (wanted : Bool) (vars after : List ℕ) → Continues vars after → (old mid : IdrupState) (step q : Step) (id : ℕ) (hints : List ℕ)
    → ((ps : List Step) → AreAfter old ps → AreAfter mid ps) → is_known_step after step ≡ true → q ≡ dense_step after step → Finds wanted mid q id hints → FindsThrough wanted vars old step id hints
finds_through wanted vars after more old mid step q id hints grows known is f = record {
  found = λ w ps h. let g = through_stays vars after more old ps h in
      found-dense after ps g.known step id hints known (subst (λ z. Found (dense_steps after ps) z id hints) is (f.found w (dense_steps after ps) (grows (dense_steps after ps) g.translated)));
}

-- an answer that was read back is none where the answer was
while_none : (A B : Type 0) (answer shown : Option Rule) (f : Rule → Rule) → shown ≡ option_map f answer → (A → B) → IfNone answer A → IfNone shown B
while_none A B None shown f e g a = subst (λ z. IfNone z B) (sym e) (g a)
while_none A B (Some r) shown f e g a = subst (λ z. IfNone z B) (sym e) tt

-- the calls of an arm: variables came, room was made, the translation was judged, and its rule was read back
pub found_behind : (wanted : Bool) (vars after : List ℕ) → Continues vars after → (old mid : IdrupState) (step q : Step) (id : ℕ) (hints d : List ℕ) (answer shown : Option Rule)
    → ((ps : List Step) → AreAfter old ps → AreAfter mid ps) → is_known_step after step ≡ true → q ≡ dense_step after step
    → IfNone answer (Finds wanted mid q id hints) → shown ≡ option_map (file_rule d) answer → IfNone shown (FindsThrough wanted vars old step id hints)
found_behind wanted vars after more old mid step q id hints d answer shown grows known is f e = while_none (Finds wanted mid q id hints) (FindsThrough wanted vars old step id hints) answer shown (file_rule d) e
    (finds_through wanted vars after more old mid step q id hints grows known is) f

-- a step that was judged by its translation as it stood
pub found_here : (wanted : Bool) (vars after x ls : List ℕ) (old : IdrupState) (make : List ℕ → Step) (step : Step) (id : ℕ) (hints d : List ℕ) (answer shown : Option Rule) (known : Bool)
    → after ≡ vars → known ≡ are_known vars ls → known ≡ true → x ≡ dense_lits vars ls → ((v : List ℕ) → is_known_step v step ≡ are_known v ls) → ((v : List ℕ) → make (dense_lits v ls) ≡ dense_step v step)
    → IfNone answer (Finds wanted old (make x) id hints) → shown ≡ option_map (file_rule d) answer → IfNone shown (FindsThrough wanted vars old step id hints)
found_here wanted vars after x ls old make step id hints d answer shown known same is sure lits same_known same_step f e =
    found_behind wanted vars vars (continues-same vars vars refl) old old step (make x) id hints d answer shown (λ ps h. h) (same_known vars ∙ sym is ∙ sure) (ap make lits ∙ same_step vars) f e

-- ---- Arms

-- what an arm found of its own step was found of the step that is judged
pub found_arm : (result : Result (Option Rule) AllocError) (wanted told : Bool) (vars : List ℕ) (s : IdrupState) (step own : Step) (id : ℕ) (hints : List ℕ) → step ≡ own → (wanted ≡ true → told ≡ true)
    → IfOk result (λ r. IfNone r (FindsThrough told vars s own id hints)) → IfOk result (λ r. IfNone r (FindsThrough wanted vars s step id hints))
found_arm (Ok None) wanted told vars s step own id hints is more f = record { found = λ w ps h. subst (λ z. Found ps z id hints) (sym is) (f.found (more w) ps h) }
found_arm (Ok (Some r)) wanted told vars s step own id hints is more f = tt
found_arm (Err e) wanted told vars s step own id hints is more f = tt

-- nothing is to be found of an event that is no core
pub nothing_found : (result : Result (Option Rule) AllocError) (wanted : Bool) (vars : List ℕ) (s : IdrupState) (event own : Event) (id : ℕ) (hints : List ℕ) → event ≡ own → ((ps : List Step) → Found ps (steps.Event own) id hints)
    → IfOk result (λ r. IfNone r (FindsThrough wanted vars s (steps.Event event) id hints))
nothing_found result wanted vars s event own id hints is f = found_arm result wanted true vars s (steps.Event event) (steps.Event own) id hints (ap steps.Event is) (λ w. refl) (all_none result (record { found = λ w ps h. f ps }))
  where
    all_none : {A : Type 0} (r : Result (Option Rule) AllocError) → A → IfOk r (λ o. IfNone o A)
    all_none (Ok None) a = a
    all_none (Ok (Some x)) a = tt
    all_none (Err e) a = tt

-- ---- The line

pub line_by : (result : Result Converted AllocError) (next id : ℕ) (hints : List ℕ) (event : Event) (step : Step) → step ≡ steps.Event event
    → IfOk result (λ c. (i : ℕ) → c ≡ line_of next i hints (steps.Event event)) → IfOk result (λ c. c ≡ line_of next id hints step)
line_by (Ok c) next id hints event step is f = f id ∙ ap (line_of next id hints) (sym is)
line_by (Err e) next id hints event step is f = tt

module _ (v : IdrupView) (id : ℕ) (hints : List ℕ) where
  next_is : (ps : List Step) → StandsFor v ps → v.next ≡ next_id ps
  next_is ps h = (h.through.translated.clauses).given ∙ next-dense v.vars ps h.through.known

  becomes_line : (step : Step) → FindsThrough true v.vars (holding v.clauses v.next v.events) step id hints → IfLine (line_of v.next id hints step) (Becomes v step)
  becomes_line (steps.Event (events.Input c)) f = record { converted = λ ps h. subst (λ n. IsConvertedStep ps (steps.Event (events.Input c)) (lsteps.Input n c)) (sym (next_is ps h)) (input c) }
  becomes_line (steps.Event (events.Query c)) f = record { converted = λ ps h. query c }
  becomes_line (steps.Event (events.Status w)) f = record { converted = λ ps h. status w }
  becomes_line (steps.Event (events.Model c)) f = record { converted = λ ps h. model c }
  becomes_line (steps.Event (events.Core u)) f = record { converted = λ ps h. core u hints (f.found refl ps h.through) }
  becomes_line (steps.Event (events.Values c)) f = tt
  becomes_line (steps.Event (events.Failed c)) f = tt
  becomes_line (steps.Lemma c) f = record { converted = λ ps h. subst (λ n. IsConvertedStep ps (steps.Lemma c) (lsteps.Lemma n c hints)) (sym (next_is ps h)) (lemma c hints (f.found refl ps h.through)) }
  becomes_line (steps.Delete c) f = record { converted = λ ps h. deletion c id (f.found refl ps h.through) }
  becomes_line (steps.Weaken c) f = record { converted = λ ps h. weakening c id (f.found refl ps h.through) }
  becomes_line (steps.Restore c) f = record { converted = λ ps h. restoring c id (f.found refl ps h.through) }

  pub line_becomes : (step : Step) (c : Converted) → FindsThrough true v.vars (holding v.clauses v.next v.events) step id hints → c ≡ line_of v.next id hints step → IfLine c (Becomes v step)
  line_becomes step c f e = subst (λ z. IfLine z (Becomes v step)) (sym e) (becomes_line step f)

-- a side of which this is seen
abbrev pub seen_as : Bool → Clauses → ℕ → State → List ℕ → List ℕ → IdrupView
seen_as live clauses next events vars asked = record { live = live; clauses = clauses; next = next; events = events; vars = vars; asked = asked }

pub of_none : {X : Type 0} (r : Option Rule) → r ≡ None → IfNone r X → X
of_none None is x = x
of_none (Some r) is x = cc is

if_none : {X : Type 0} (o : Option Rule) → X → IfNone o X
if_none None x = x
if_none (Some r) x = tt

rule_by : (next id : ℕ) (hints : List ℕ) (ps : List Step) (step : Step) → None ≡ first_rule (own_faults ps step) → rule_broken (line_of next id hints step) ≡ first_rule (own_faults ps step)
unfolding own_faults
rule_by next id hints ps (steps.Event (events.Input c)) h = h
rule_by next id hints ps (steps.Event (events.Query c)) h = h
rule_by next id hints ps (steps.Event (events.Status w)) h = h
rule_by next id hints ps (steps.Event (events.Model c)) h = h
rule_by next id hints ps (steps.Event (events.Core u)) h = h
rule_by next id hints ps (steps.Event (events.Values c)) h = refl
rule_by next id hints ps (steps.Event (events.Failed c)) h = refl
rule_by next id hints ps (steps.Lemma c) h = h
rule_by next id hints ps (steps.Delete c) h = h
rule_by next id hints ps (steps.Weaken c) h = h
rule_by next id hints ps (steps.Restore c) h = h

-- a step that was judged without a rule, and what became of it
pub line_rule : (v : IdrupView) (after : List ℕ) (new : IdrupState) (step : Step) (r : Option Rule) (next id : ℕ) (hints : List ℕ) (c : Converted) → JudgedThrough v.vars after (holding v.clauses v.next v.events) new step r → r ≡ None
    → c ≡ line_of next id hints step → (ps : List Step) → StandsFor v ps → rule_broken c ≡ first_rule (own_faults ps step)
line_rule v after new step r next id hints c j is e = λ ps h. ap rule_broken e ∙ rule_by next id hints ps step (sym is ∙ j.rule ps h.through)

module _ (v w : IdrupView) (step : Step) (r : Option Rule) (c : Converted) (j : JudgedThrough v.vars w.vars (holding v.clauses v.next v.events) (holding w.clauses w.next w.events) step r) (is : r ≡ None) where
  pub line_stands : IfNone r (w.asked ≡ asked_after v.asked step) → IfNone (rule_broken c) ((ps : List Step) → StandsFor v ps → StandsFor w (ps ++ step ∷ []))
  line_stands a = if_none (rule_broken c) (of_none r is (step_stands v w step (Ok r) j a))

  pub line_named : IfNone (rule_broken c) (ChangesNamedAlone v w step)
  line_named = if_none (rule_broken c) (of_none r is (step_named v w step (Ok r) j))
