-- What the judgement of the file's steps by their translations rests on.
use Rattle.std.proofs.Common.{◌≡◌, ℕ, ◌+◌, ◌<◌, Bool, true, false, List, [], ◌∷◌, ◌++◌, map, length, get_or, Option, Some, None, option_map, Result, Ok, Err, refl, sym, ap, ◌∙◌, subst, append-nil, arith}
use Rattle.std.specs.Prelude.{OnOk, IfOk, IfNone, slice_get}
use Rattle.std.specs.declared.alloc.AllocError.{AllocError}
use Rattle.std.proofs.Math.Seq.{get_or-append_seam}
use Rattle.std.proofs.lemmas.Bool.{and_from}
use Rattle.std.proofs.lemmas.List.{map-append, length-append, length-map}
use Rattle.std.proofs.lemmas.Option.{same_Some}
use Rattle.std.proofs.lemmas.List.Folds.{list_all-append}
use Rattle.lits.specs.Numbering.{are_known, dense_lit, dense_lits, with_lits}
use Rattle.lits.proofs.Translated.{are_known-with_lits, are_known-append}
use Rattle.numbered_lits.specs.Numbers.{Continues, known_front}
use Rattle.numbered_lits.proofs.Lists.{StandsBehind, front-split}
use Rattle.session_rules.specs.declared.Event.{Event}
use Rattle.session_rules.specs.declared.Event.TheVariants as events
use Rattle.session_rules.specs.declared.Step.{Step}
use Rattle.session_rules.specs.declared.Step.TheVariants as steps
use Rattle.session_rules.specs.declared.Rule.{Rule}
use Rattle.session_rules.specs.declared.Rule.TheVariants as rules
use Rattle.session_rules.specs.History.{assumed, phase, inputs, fits_phase, first_missing, broken_at, broken_unless, order_faults, core_faults}
use Rattle.session_rules.specs.Logic.{closes}
use Rattle.session_rules.specs.Own.{events_of, own_faults, active_clauses}
use Rattle.session_events.specs.State.{State, StandsFor, start, behind, kind_of, order_rules}
use Rattle.session_events.proofs.Standing.{stands_behind}
use Rattle.side_laws.specs.ClauseStates.{Clauses, ChangesAt}
use Rattle.side_laws.specs.Sets.{kept_at}
use Rattle.numbering_laws.specs.Dense.{dense_step, dense_steps, is_known_step, are_known_steps, dense_rule, file_rule}
use Rattle.numbering_laws.proofs.Events.{missing-dense, assumed-dense, assumed-known, order-dense, phase-dense}
use Rattle.numbering_laws.proofs.Faults.{events_of-dense, events-known}
use Rattle.numbering_laws.proofs.Given.{named-dense}
use Rattle.numbering_laws.proofs.Growing.{steps-stay, known-stay, missing-front, missing-unknown}
use Rattle.numbering_laws.proofs.KnownRules.{own-file, rule-back, missing-known}
use Rattle.pair_matcher.specs.Sides.{first_rule, IdrupState, IdrupView, AreAfter, AreAfterThrough, Judged, JudgedThrough, ChangesNamedAlone, holding, asked_after}
use Rattle.pair_matcher.specs.Sides as sides
use Rattle.pair_matcher.proofs.Rules.{first-skip, first-here, first-broken, order_is}
use Rattle.session_rules.specs.declared.Phase.{Phase}
use Rattle.session_rules.specs.Pair.{is_idle}
use Rattle.propagation.specs.Engine as engine
use Rattle.propagation.specs.Engine.{EngineView}
use Rattle.pair_matcher.specs.Inside.{IsReady, clauses_of_engine}
use Rattle.pair_matcher.proofs.Insides.{between-new}
use Rattle.pair_matcher.proofs.JudgingSets.{judged-after, events-some, events-none, stands-new-sets}

pub on-ok : {X E A : Type 0} (r : Result X E) → A → OnOk r A
on-ok (Ok x) a = a
on-ok (Err e) a = tt

pub numbered-known : (vars after ls : List ℕ) → after ≡ with_lits vars ls → are_known after ls ≡ true
numbered-known vars after ls e = subst (λ z. are_known z ls ≡ true) (sym e) (are_known-with_lits vars ls)

pub continues-same : (vars after : List ℕ) → after ≡ vars → Continues vars after
continues-same vars after e = record { more = []; is = e ∙ sym (append-nil vars) }

pub first-mapped : (f : Rule → Rule) (rs : List Rule) → first_rule (map f rs) ≡ option_map f (first_rule rs)
first-mapped f [] = refl
first-mapped f (r ∷ rs) = refl

pub known-more : (vars after ls : List ℕ) → Continues vars after → are_known vars ls ≡ true → are_known after ls ≡ true
known-more vars after ls c k = subst (λ z. are_known z ls ≡ true) (sym c.is) (are_known-append vars c.more ls k)

-- ---- A step that was judged by its translation

module _ (vars after : List ℕ) (more : Continues vars after) where
  pub through_stays : (s : IdrupState) (ps : List Step) → AreAfterThrough vars s ps → AreAfterThrough after s ps
  through_stays s ps h = record {
    known = subst (λ z. are_known_steps z ps ≡ true) (sym more.is) (known-stay vars more.more ps h.known);
    translated = subst (AreAfter s) (sym (ap (λ z. dense_steps z ps) more.is ∙ steps-stay vars more.more ps h.known)) h.translated;
  }

  through_rule : (old new : IdrupState) (step : Step) (answer : Option Rule) → is_known_step after step ≡ true → Judged old new (dense_step after step) answer
      → (ps : List Step) → AreAfterThrough vars old ps → option_map (file_rule after) answer ≡ first_rule (own_faults ps step)
  through_rule old new step answer k j ps h = let g = through_stays old ps h in
      ap (option_map (file_rule after)) (j.rule (dense_steps after ps) g.translated)
      ∙ sym (first-mapped (file_rule after) (own_faults (dense_steps after ps) (dense_step after step)))
      ∙ ap first_rule (own-file after ps step g.known k)

  one_more : (ps : List Step) (step : Step) → dense_steps after ps ++ dense_step after step ∷ [] ≡ dense_steps after (ps ++ step ∷ [])
  one_more ps step = sym (map-append (dense_step after) ps (step ∷ []))

  through : (old new : IdrupState) (step : Step) (answer : Option Rule) → is_known_step after step ≡ true → Judged old new (dense_step after step) answer
      → JudgedThrough vars after old new step (option_map (file_rule after) answer)
  through old new step None k j = record {
    rule = through_rule old new step None k j;
    known = k;
    stands = λ ps h. let g = through_stays old ps h in record {
      known = list_all-append (is_known_step after) ps (step ∷ []) ∙ and_from _ _ g.known (and_from _ _ k refl);
      translated = subst (AreAfter new) (one_more ps step) (j.stands (dense_steps after ps) g.translated);
    };
    named = λ ps h id e. let g = through_stays old ps h in
        subst (λ z. ChangesAt old.clauses new.clauses id (kept_at z id)) (one_more ps step)
        (j.named (dense_steps after ps) g.translated id (named-dense after ps step g.known ∙ e));
  }
  through old new step (Some r) k j = record { rule = through_rule old new step (Some r) k j; known = tt; stands = tt; named = tt }

-- the calls of an arm: variables came, room was made, the translation was judged, and its rule was read back
pub judged_through : (vars after : List ℕ) → Continues vars after → (m k n : Clauses) (next now nx : ℕ) (s r t : State) (step q : Step) (d : List ℕ) (answer shown : Option Rule)
    → ((ps : List Step) → AreAfter (holding m next s) ps → AreAfter (holding k now r) ps) → is_known_step after step ≡ true → q ≡ dense_step after step
    → Judged (holding k now r) (holding n nx t) q answer → shown ≡ option_map (file_rule d) answer → d ≡ after → JudgedThrough vars after (holding m next s) (holding n nx t) step shown
judged_through vars after more m k n next now nx s r t step q d answer shown grows known is j e f =
    subst (λ z. JudgedThrough vars after (holding m next s) (holding n nx t) step z) (sym (e ∙ ap (λ z. option_map (file_rule z) answer) f))
    (through vars after more (holding m next s) (holding n nx t) step answer known
    (subst (λ z. Judged (holding m next s) (holding n nx t) z answer) is (judged-after m k n next now nx s r t q answer grows j)))

-- a step that was judged by its translation as it stood
pub found_through : (vars after x ls : List ℕ) (old new : IdrupState) (make : List ℕ → Step) (step : Step) (d : List ℕ) (answer shown : Option Rule) (known : Bool)
    → after ≡ vars → known ≡ are_known vars ls → known ≡ true → x ≡ dense_lits vars ls → ((v : List ℕ) → is_known_step v step ≡ are_known v ls) → make (dense_lits after ls) ≡ dense_step after step
    → Judged old new (make x) answer → shown ≡ option_map (file_rule d) answer → d ≡ after → JudgedThrough vars after old new step shown
found_through vars after x ls old new make step d answer shown known same is sure lits same_known same_step j e f =
    let k : are_known after ls ≡ true = ap (λ z. are_known z ls) same ∙ sym is ∙ sure in
    subst (λ z. JudgedThrough vars after old new step z) (sym (e ∙ ap (λ z. option_map (file_rule z) answer) f))
    (through vars after (continues-same vars after same) old new step answer (same_known after ∙ k)
    (subst (λ z. Judged old new z answer) (ap make (lits ∙ ap (λ z. dense_lits z ls) (sym same)) ∙ same_step) j))

-- a step that is refused whatever steps were before, if these are known
pub refused_through : (vars after : List ℕ) (old new : IdrupState) (step : Step) (r : Rule) → ((ps : List Step) → AreAfterThrough vars old ps → first_rule (own_faults ps step) ≡ Some r) → JudgedThrough vars after old new step (Some r)
refused_through vars after old new step r refuses = record { rule = λ ps h. sym (refuses ps h); known = tt; stands = tt; named = tt }

pub known_of_none : (vars after : List ℕ) (old new : IdrupState) (step : Step) (answer : Option Rule) → JudgedThrough vars after old new step answer → answer ≡ None → is_known_step after step ≡ true
known_of_none vars after old new step None j e = j.known
known_of_none vars after old new step (Some r) j e = cc e

-- ---- Parts, which have no place in a proof

pub values_through : (vars : List ℕ) (old : IdrupState) (c : List ℕ) → JudgedThrough vars vars old old (steps.Event (events.Values c)) (Some rules.Order)
unfolding own_faults
values_through vars old c = refused_through vars vars old old (steps.Event (events.Values c)) rules.Order (λ ps h. refl)

pub failed_through : (vars : List ℕ) (old : IdrupState) (c : List ℕ) → JudgedThrough vars vars old old (steps.Event (events.Failed c)) (Some rules.Order)
unfolding own_faults
failed_through vars old c = refused_through vars vars old old (steps.Event (events.Failed c)) rules.Order (λ ps h. refl)

-- ---- Cores with a literal that has no number

first-core : (o : Option ℕ) → slice_get (broken_at rules.CoreStranger o) 0 ≡ option_map rules.CoreStranger o
first-core None = refl
first-core (Some l) = refl

pub place_of_strange : (vars u x : List ℕ) → x ≡ dense_lits vars (known_front vars u) → are_known vars u ≡ false → length x < length u
place_of_strange vars u x x_is strange = let b = front-split vars u strange in
    let e : length x ≡ length (known_front vars u) = ap length x_is ∙ length-map (known_front vars u) (dense_lit vars) in
    let f : length u ≡ length (known_front vars u) + length (b.literal ∷ b.after) = ap length b.whole ∙ length-append (known_front vars u) (b.literal ∷ b.after) in
    omega (arith, e, f)

pub literal_of_strange : (vars u x : List ℕ) (b : StandsBehind vars (known_front vars u) u) → x ≡ dense_lits vars (known_front vars u) → get_or u (length x) 0 ≡ b.literal
literal_of_strange vars u x b x_is = ap (λ n. get_or u n 0) (ap length x_is ∙ length-map (known_front vars u) (dense_lit vars))
    ∙ ap (λ z. get_or z (length (known_front vars u)) 0) b.whole ∙ get_or-append_seam (known_front vars u) b.literal b.after 0

module _ (vars u x : List ℕ) (x_is : x ≡ dense_lits vars (known_front vars u)) (strange : are_known vars u ≡ false)
    (given dense_given : List ℕ) (known : are_known vars given ≡ true) (given_is : dense_given ≡ dense_lits vars given) where
  front_missing : first_missing x dense_given ≡ option_map (dense_lit vars) (first_missing (known_front vars u) given)
  front_missing = ap (λ z. first_missing z dense_given) x_is ∙ ap (first_missing (dense_lits vars (known_front vars u))) given_is ∙ missing-dense vars (known_front vars u) given known

  stranger_by : (o : Option ℕ) → first_missing (known_front vars u) given ≡ o → (answer : Option Rule) → answer ≡ option_map rules.CoreStranger (option_map (dense_lit vars) o)
      → (rule shown : Rule) → answer ≡ Some rule → shown ≡ file_rule vars rule → option_map rules.CoreStranger (first_missing u given) ≡ Some shown
  stranger_by None e answer a rule shown is s = let f : None ≡ Some rule = sym a ∙ is in cc f
  stranger_by (Some l) e answer a rule shown is s = let b = front-split vars u strange in
      let f : Some (rules.CoreStranger (dense_lit vars l)) ≡ Some rule = sym a ∙ is in
      let g : rules.CoreStranger (dense_lit vars l) ≡ rule = same_Some _ _ f in
      let back : shown ≡ rules.CoreStranger l = s ∙ ap (file_rule vars) (sym g) ∙ rule-back vars (rules.CoreStranger l) (missing-known vars (known_front vars u) given l b.known e) in
      ap (λ z. option_map rules.CoreStranger (first_missing z given)) b.whole
      ∙ ap (option_map rules.CoreStranger) (missing-front (known_front vars u) (b.literal ∷ b.after) given l e) ∙ ap Some (sym back)

  pub stranger_before : (answer : Option Rule) → answer ≡ slice_get (broken_at rules.CoreStranger (first_missing x dense_given)) 0 → (rule shown : Rule) (d : List ℕ) → answer ≡ Some rule
      → shown ≡ file_rule d rule → d ≡ vars → option_map rules.CoreStranger (first_missing u given) ≡ Some shown
  stranger_before answer a rule shown d is s e = stranger_by (first_missing (known_front vars u) given) refl answer
      (a ∙ first-core (first_missing x dense_given) ∙ ap (option_map rules.CoreStranger) front_missing) rule shown is (s ∙ ap (λ z. file_rule z rule) e)

  strange_by : (o : Option ℕ) → first_missing (known_front vars u) given ≡ o → (answer : Option Rule) → answer ≡ option_map rules.CoreStranger (option_map (dense_lit vars) o)
      → answer ≡ None → first_missing (known_front vars u) given ≡ None
  strange_by None e answer a is = e
  strange_by (Some l) e answer a is = let f : Some (rules.CoreStranger (dense_lit vars l)) ≡ None = sym a ∙ is in cc f

  pub stranger_itself : (answer : Option Rule) → answer ≡ slice_get (broken_at rules.CoreStranger (first_missing x dense_given)) 0 → answer ≡ None → (l : ℕ) → l ≡ get_or u (length x) 0
      → option_map rules.CoreStranger (first_missing u given) ≡ Some (rules.CoreStranger l)
  stranger_itself answer a is l e = let b = front-split vars u strange in
      let none = strange_by (first_missing (known_front vars u) given) refl answer (a ∙ first-core (first_missing x dense_given) ∙ ap (option_map rules.CoreStranger) front_missing) is in
      ap (λ z. option_map rules.CoreStranger (first_missing z given)) b.whole
      ∙ ap (option_map rules.CoreStranger) (missing-unknown vars (known_front vars u) b.literal b.after given known b.unknown none)
      ∙ ap (λ z. Some (rules.CoreStranger z)) (sym (e ∙ literal_of_strange vars u x b x_is))

pub order-same : (vars : List ℕ) (b : Bool) → first_rule (map (dense_rule vars) (broken_unless b rules.Order)) ≡ first_rule (broken_unless b rules.Order)
order-same vars true = refl
order-same vars false = refl

module _ (vars : List ℕ) (m n : Clauses) (next nx : ℕ) (s t : State) (u : List ℕ) (answer : Option Rule) (order : answer ≡ slice_get (order_rules s (kind_of (events.Core u))) 0) where
  order_through : (ps : List Step) → AreAfterThrough vars (holding m next s) ps → first_rule (order_faults (events_of ps) (events.Core u)) ≡ answer
  order_through ps h = sym (order-same vars (fits_phase (events.Core u) (phase (events_of ps))))
      ∙ ap first_rule (sym (order-dense vars (events_of ps) (events.Core u)))
      ∙ ap (λ z. first_rule (order_faults z (events.Core (dense_lits vars u)))) (sym (events_of-dense vars ps))
      ∙ order_is s (events_of (dense_steps vars ps)) h.translated.events answer (events.Core (dense_lits vars u)) order

  strange_first : List Step → List Rule
  strange_first ps = order_faults (events_of ps) (events.Core u) ++ core_faults (events_of ps) u

  strange_last : List Step → List Rule
  strange_last ps = broken_unless (closes (active_clauses ps) u) rules.CoreOpen

  pub strange_order : (r : Rule) → answer ≡ Some r → JudgedThrough vars vars (holding m next s) (holding n nx t) (steps.Event (events.Core u)) (Some r)
  unfolding own_faults strange_first strange_last
  strange_order r is = refused_through vars vars (holding m next s) (holding n nx t) (steps.Event (events.Core u)) r (λ ps h. first-here (strange_first ps) (strange_last ps) r
      (first-here (order_faults (events_of ps) (events.Core u)) (core_faults (events_of ps) u) r (order_through ps h ∙ is)))

  pub strange_done : answer ≡ None → (r : Rule) → ((given : List ℕ) → are_known vars given ≡ true → s.assumed ≡ dense_lits vars given → option_map rules.CoreStranger (first_missing u given) ≡ Some r)
      → JudgedThrough vars vars (holding m next s) (holding n nx t) (steps.Event (events.Core u)) (Some r)
  unfolding own_faults strange_first strange_last
  strange_done is r stranger = refused_through vars vars (holding m next s) (holding n nx t) (steps.Event (events.Core u)) r (λ ps h. first-here (strange_first ps) (strange_last ps) r
      (first-skip (order_faults (events_of ps) (events.Core u)) (core_faults (events_of ps) u) (order_through ps h ∙ is)
      ∙ first-broken rules.CoreStranger (first_missing u (assumed (events_of ps)))
      ∙ stranger (assumed (events_of ps)) (assumed-known vars (events_of ps) (events-known vars ps h.known))
      (h.translated.events.assumed ∙ ap assumed (events_of-dense vars ps) ∙ assumed-dense vars (events_of ps))))

-- ---- What the file's last query asks

pub asked-known : (vars after asked : List ℕ) (step : Step) → Continues vars after → are_known vars asked ≡ true → is_known_step after step ≡ true → are_known after (asked_after asked step) ≡ true
asked-known vars after asked (steps.Event (events.Query c)) more k h = h
asked-known vars after asked (steps.Event (events.Input c)) more k h = known-more vars after asked more k
asked-known vars after asked (steps.Event (events.Status w)) more k h = known-more vars after asked more k
asked-known vars after asked (steps.Event (events.Model c)) more k h = known-more vars after asked more k
asked-known vars after asked (steps.Event (events.Core c)) more k h = known-more vars after asked more k
asked-known vars after asked (steps.Event (events.Values c)) more k h = known-more vars after asked more k
asked-known vars after asked (steps.Event (events.Failed c)) more k h = known-more vars after asked more k
asked-known vars after asked (steps.Lemma c) more k h = known-more vars after asked more k
asked-known vars after asked (steps.Delete c) more k h = known-more vars after asked more k
asked-known vars after asked (steps.Weaken c) more k h = known-more vars after asked more k
asked-known vars after asked (steps.Restore c) more k h = known-more vars after asked more k

-- a state that says what events say
abbrev pub said_by : List Event → State
said_by es = record { phase = phase es; assumed = assumed es; inputs = inputs es; reserved = 0 }

pub said_for : (es : List Event) → StandsFor (said_by es) es
said_for es = record { phase = refl; assumed = refl; inputs = refl }

asked-event : (ps : List Step) (e : Event) → assumed (events_of (ps ++ steps.Event e ∷ [])) ≡ (behind (said_by (events_of ps)) e).assumed
asked-event ps e = ap assumed (events-some ps e) ∙ sym (stands_behind (said_by (events_of ps)) e (events_of ps) (said_for (events_of ps))).assumed

asked-step : (ps : List Step) (step : Step) → assumed (events_of (ps ++ step ∷ [])) ≡ asked_after (assumed (events_of ps)) step
asked-step ps (steps.Event (events.Query c)) = asked-event ps (events.Query c)
asked-step ps (steps.Event (events.Input c)) = asked-event ps (events.Input c)
asked-step ps (steps.Event (events.Status w)) = asked-event ps (events.Status w)
asked-step ps (steps.Event (events.Model c)) = asked-event ps (events.Model c)
asked-step ps (steps.Event (events.Core c)) = asked-event ps (events.Core c)
asked-step ps (steps.Event (events.Values c)) = asked-event ps (events.Values c)
asked-step ps (steps.Event (events.Failed c)) = asked-event ps (events.Failed c)
asked-step ps (steps.Lemma c) = ap assumed (events-none ps (steps.Lemma c) refl)
asked-step ps (steps.Delete c) = ap assumed (events-none ps (steps.Delete c) refl)
asked-step ps (steps.Weaken c) = ap assumed (events-none ps (steps.Weaken c) refl)
asked-step ps (steps.Restore c) = ap assumed (events-none ps (steps.Restore c) refl)

pub side_stands : (v w : IdrupView) (step : Step) (ps : List Step) → w.asked ≡ asked_after v.asked step → AreAfterThrough w.vars (holding w.clauses w.next w.events) (ps ++ step ∷ []) → sides.StandsFor v ps → sides.StandsFor w (ps ++ step ∷ [])
side_stands v w step ps asked through h = record { through = through; asked = asked ∙ ap (λ z. asked_after z step) h.asked ∙ sym (asked-step ps step) }

pub step_stands : (v w : IdrupView) (step : Step) (result : Result (Option Rule) AllocError) → IfOk result (λ r. JudgedThrough v.vars w.vars (holding v.clauses v.next v.events) (holding w.clauses w.next w.events) step r)
    → IfOk result (λ r. IfNone r (w.asked ≡ asked_after v.asked step)) → IfOk result (λ r. IfNone r ((ps : List Step) → sides.StandsFor v ps → sides.StandsFor w (ps ++ step ∷ [])))
step_stands v w step (Ok None) j a = λ ps h. side_stands v w step ps a (j.stands ps h.through) h
step_stands v w step (Ok (Some r)) j a = tt
step_stands v w step (Err e) j a = tt

pub step_named : (v w : IdrupView) (step : Step) (result : Result (Option Rule) AllocError) → IfOk result (λ r. JudgedThrough v.vars w.vars (holding v.clauses v.next v.events) (holding w.clauses w.next w.events) step r)
    → IfOk result (λ r. IfNone r (ChangesNamedAlone v w step))
step_named v w step (Ok None) j = record { named = λ ps h id e. j.named ps h.through id e }
step_named v w step (Ok (Some r)) j = tt
step_named v w step (Err e) j = tt

-- ---- The start and the end

pub ready-new : (e : EngineView) (s : State) (vars asked : List ℕ) → e ≡ engine.no_engine → s ≡ start → asked ≡ [] → IsReady e s vars asked
ready-new e s vars asked is same none = record { between = between-new e s is same; known = subst (λ z. are_known vars z ≡ true) (sym none) refl }

pub stands-new-side : (e : EngineView) (s : State) (vars asked : List ℕ) (live : Bool) → e ≡ engine.no_engine → StandsFor s [] → asked ≡ []
    → sides.StandsFor (record { live = live; clauses = clauses_of_engine e; next = 1; events = s; vars = vars; asked = asked }) []
stands-new-side e s vars asked live is h none = record { through = record { known = refl; translated = stands-new-sets e s is h }; asked = none }

pub finish_is : (v : IdrupView) (p : Phase) (answer : Option Rule) → p ≡ v.events.phase → answer ≡ first_rule (broken_unless (is_idle p) rules.Unfinished)
    → (ps : List Step) → sides.StandsFor v ps → answer ≡ first_rule (broken_unless (is_idle (phase (events_of ps))) rules.Unfinished)
finish_is v p answer same is ps h = is ∙ ap (λ z. first_rule (broken_unless (is_idle z) rules.Unfinished))
    (same ∙ h.through.translated.events.phase ∙ ap phase (events_of-dense v.vars ps) ∙ phase-dense v.vars (events_of ps))
