-- The texts of steps without faults and of their events are accepted.
use Rattle.std.proofs.Common.{◌≡◌, ℕ, ◌+◌, ◌≤◌, true, false, List, [], ◌∷◌, ◌++◌, length, map, drop, take, count_by, filter_map, All, Contains, codes, Option, Some, None, Ok, refl, sym, ◌∙◌, ap, subst, arith, append-nil, append_assoc}
use Rattle.std.specs.Prelude.{⊤}
use Rattle.std.proofs.lemmas.List.Elements.{filter_map-append}
use Rattle.std.proofs.Math.Seq.{take-append_seam, drop-append_seam}
use Rattle.lits.proofs.Members.{here, there, has_from}
use Rattle.lits.proofs.Sets.{same_set-itself}
use Rattle.session_rules.specs.declared.Form.{Form}
use Rattle.session_rules.specs.declared.Form.TheVariants.{Idrup, Lidrup}
use Rattle.session_rules.specs.declared.StatusWord.{StatusWord}
use Rattle.session_rules.specs.declared.StatusWord.TheVariants.{Satisfiable, Unsatisfiable, Unknown}
use Rattle.session_rules.specs.declared.Phase.{Phase}
use Rattle.session_rules.specs.declared.Phase.TheVariants.{Idle}
use Rattle.session_rules.specs.declared.Event.{Event}
use Rattle.session_rules.specs.declared.Event.TheVariants as events
use Rattle.session_rules.specs.declared.Step.{Step}
use Rattle.session_rules.specs.declared.Step.TheVariants as steps
use Rattle.session_rules.specs.declared.LStep.{LStep}
use Rattle.session_rules.specs.declared.LStep.TheVariants as lsteps
use Rattle.session_rules.specs.declared.Rule.{Rule}
use Rattle.session_rules.specs.declared.Rule.TheVariants as rules
use Rattle.session_rules.specs.declared.Verdict.TheVariants.{Accepted}
use Rattle.session_rules.specs.Logic.{has, closes}
use Rattle.session_rules.specs.Lines.{Line, lines, end_line, most_bytes}
use Rattle.session_rules.specs.Reading.{header_fault, steps_of}
use Rattle.session_rules.specs.History.{phase, assumed, first_missing, order_faults, core_faults, broken_unless}
use Rattle.session_rules.specs.Own.{event_of, active_clauses, own_faults, id_event_of, own_id_faults, hint_faults}
use Rattle.session_rules.specs.Pair.{ProofForm, without_ids, with_ids, same_status, partner_count, pair_faults, is_idle, faults_from, pair_refusals, is_query, verdict_by, verdict}
use Rattle.session_rules.specs.Spelling.{text, event_words, step_words, id_step_words, header_words, IsEvent, IsProofEvent, IsStep, IsIdStep, numbered_values}
use Rattle.session_rules.specs.Verdicts.{StepOf, rules_of, events_among, OwnFault}
use Rattle.session_rules.proofs.Positions.{get_dropped}
use Rattle.session_rules.proofs.Spelled.{All-cons, IsPlainLine, proof_event, icnf_line-event_words, idrup_line-step_words, lidrup_line-id_step_words, icnf_text_back, idrup_text_back, lidrup_text_back}
use Rattle.elimination_laws.specs.Accepted.{interaction_text, proof_text, IsFinished}
use Rattle.elimination_laws.proofs.TextLines.{spelled_lines, All-first, All-more, event_plain, step_plain, id_step_plain, lines-text}

-- ---- An event and itself as its partner

none_missing : (ls ms : List ℕ) → ((l : ℕ) → Contains ls l → has ms l ≡ true) → first_missing ls ms ≡ None
none_missing [] ms h = refl
none_missing (l ∷ ls) ms h = let q = h l (here l ls) in rw q (none_missing ls ms (λ k m. h k (there l k ls m)))

none_missing_of_itself : (ls : List ℕ) → first_missing ls ls ≡ None
none_missing_of_itself ls = none_missing ls ls (λ l m. has_from ls l m)

same_status-itself : (s : StatusWord) → same_status s s ≡ true
same_status-itself Satisfiable = refl
same_status-itself Unsatisfiable = refl
same_status-itself Unknown = refl

-- a core is of the assumptions
abbrev WithinAssumptions : List ℕ → Event → Type 0
WithinAssumptions qs (events.Core u) = first_missing u qs ≡ None
WithinAssumptions qs _ = ⊤

-- the line of an event
abbrev event_line : ℕ → Event → Line
event_line n e = record { number = n; words = event_words e; cut = false; word_cut = false }

-- it is the one partner
one_partner : (e : Event) (n : ℕ) (more : List Line) → partner_count e (event_line n e ∷ more) ≡ 1
one_partner (events.Input c) n more = refl
one_partner (events.Query c) n more = refl
one_partner (events.Status s) n more = refl
one_partner (events.Model m) n more = refl
one_partner (events.Core u) n more = refl
one_partner (events.Values c) n more = refl
one_partner (events.Failed c) n more = refl

no_pair_faults : (qs : List ℕ) (e : Event) → IsProofEvent e → WithinAssumptions qs e → pair_faults qs e e ≡ []
unfolding pair_faults
no_pair_faults qs (events.Values c) f w = absurd f
no_pair_faults qs (events.Failed c) f w = absurd f
no_pair_faults qs (events.Input c) f w = rw (same_set-itself c) refl
no_pair_faults qs (events.Query c) f w = rw (same_set-itself c) refl
no_pair_faults qs (events.Status s) f w = rw (same_status-itself s) refl
no_pair_faults qs (events.Model m) f w = rw (none_missing_of_itself m) refl
no_pair_faults qs (events.Core u) f w = rw (none_missing_of_itself u, w) refl

-- ---- Any form

module _ {S : Type 0} (form : ProofForm S) (Fits : S → Type 0) (words_of : S → List (List ℕ))
    (back : (p : S) → Fits p → form.read (words_of p) ≡ Ok p)
    (fits_event : (p : S) (e : Event) → form.event p ≡ Some e → Fits p → IsProofEvent e)
    (core_within : (before : List S) (p : S) (e : Event) → form.event p ≡ Some e → form.faults before p ≡ [] → WithinAssumptions (assumed (filter_map form.event before)) e) where
  -- no step ahead has a fault behind those before it
  abbrev pub AreClean : List S → List S → Type 0
  AreClean before [] = ⊤
  AreClean before (p ∷ ps) = (form.faults before p ≡ []) × AreClean (before ++ p ∷ []) ps

  abbrev proof_lines : ℕ → List S → List Line
  proof_lines n ps = spelled_lines n (map words_of ps)

  abbrev event_lines : ℕ → List Event → List Line
  event_lines n es = spelled_lines n (map event_words es)

  events-push : (before : List S) (p : S) (ps : List S) → is_idle (phase (filter_map form.event (before ++ p ∷ ps))) ≡ true
      → is_idle (phase (filter_map form.event ((before ++ p ∷ []) ++ ps))) ≡ true
  events-push before p ps h = rw append_assoc h

  abbrev IsFaultless : List S → ℕ → List Line → List Line → Type 0
  IsFaultless before end ls ms = faults_from form before end ls ms ≡ []

  -- a line of the proof with its event's line
  at_step : (before : List S) (p : S) (rest : List Line) (end n m : ℕ) (o : Option Event) (es : List Event) → form.event p ≡ o → Fits p → form.faults before p ≡ []
      → ((k : ℕ) → IsFaultless (before ++ p ∷ []) end rest (event_lines k es))
      → IsFaultless before end (record { number = n; words = words_of p; cut = false; word_cut = false } ∷ rest) (event_lines m (filter_map form.event (p ∷ []) ++ es))
  unfolding faults_from
  at_step before p rest end n m None es e f own next = rw (back p f, own, e) (next m)
  at_step before p rest end n m (Some x) es e f own next =
      let fits = fits_event p x e f in
      let i = icnf_line-event_words x (proof_event x fits) in
      let q = no_pair_faults (assumed (filter_map form.event before)) x fits (core_within before p x e own) in
      let one = one_partner x m (event_lines (m + 1) es) in
      rw (back p f, own, e, one, i, q) (next (m + 1))

  at_end : (before : List S) (end : ℕ) → is_idle (phase (filter_map form.event before)) ≡ true → IsFaultless before end [] []
  unfolding faults_from
  at_end before end h = rw h refl

  no_faults_from : (ps before : List S) (end n m : ℕ) → All Fits ps → AreClean before ps → is_idle (phase (filter_map form.event (before ++ ps))) ≡ true
      → IsFaultless before end (proof_lines n ps) (event_lines m (filter_map form.event ps))
  no_faults_from [] before end n m f c i = at_end before end (subst (λ z. is_idle (phase (filter_map form.event z)) ≡ true) (append-nil before) i)
  no_faults_from (p ∷ ps) before end n m f c i =
      let next = λ (k : ℕ). no_faults_from ps (before ++ p ∷ []) end (n + 1) k (All-more Fits p ps f) c.1 (events-push before p ps i) in
      subst (λ z. IsFaultless before end (proof_lines n (p ∷ ps)) (event_lines m z)) (sym (filter_map-append form.event (p ∷ []) ps))
      (at_step before p (proof_lines (n + 1) ps) end n m (form.event p) (filter_map form.event ps) refl (All-first Fits p ps f) c.0 next)

  -- what has no fault at any place is clean
  clean-from : (ps before : List S) → ((front : List S) (p : S) (after : List S) → before ++ ps ≡ front ++ p ∷ after → form.faults front p ≡ []) → AreClean before ps
  clean-from [] before h = tt
  clean-from (p ∷ ps) before h = (h before p ps refl, clean-from ps (before ++ p ∷ []) (λ front q after e. h front q after (sym (append_assoc before (p ∷ []) ps) ∙ e)))

  event_fits : (p : S) (ps : List S) (o : Option Event) → form.event p ≡ o → Fits p → All IsEvent (filter_map form.event ps) → All IsEvent (filter_map form.event (p ∷ ps))
  event_fits p ps None e f more = rw e more
  event_fits p ps (Some x) e f more = rw e (All-cons IsEvent x (filter_map form.event ps) (proof_event x (fits_event p x e f)) more)

  events_fit : (ps : List S) → All Fits ps → All IsEvent (filter_map form.event ps)
  events_fit [] f = λ k d lt. absurd (omega arith)
  events_fit (p ∷ ps) f = event_fits p ps (form.event p) refl (All-first Fits p ps f) (events_fit ps (All-more Fits p ps f))

  values_back : (ps : List S) (n : ℕ) → map (λ (p : ℕ × S). p.1) (numbered_values n ps) ≡ ps
  unfolding numbered_values
  values_back [] n = refl
  values_back (p ∷ ps) n = ap (λ z. p ∷ z) (values_back ps (n + 1))

  -- the two texts, by their lines
  accepted : (ps : List S) (a b : List ℕ) → All Fits ps → AreClean [] ps → is_idle (phase (filter_map form.event ps)) ≡ true
      → header_fault (codes "icnf") a ≡ None → header_fault form.name b ≡ None
      → drop 1 (lines a) ≡ event_lines 2 (filter_map form.event ps) → drop 1 (lines b) ≡ proof_lines 2 ps → steps_of form.read b ≡ numbered_values 2 ps
      → verdict_by form a b ≡ Accepted (count_by (is_query form) ps)
  unfolding verdict_by pair_refusals
  accepted ps a b f c i ha hb la lb back =
      let none : faults_from form [] (end_line b) (drop 1 (lines b)) (drop 1 (lines a)) ≡ [] = rw (la, lb) (no_faults_from ps [] (end_line b) 2 2 f c i) in
      let v = values_back ps 2 in
      rw (ha, hb, none, back, v) refl

-- ---- The two forms

no_faults_at : (faults : List Rule) → ((r : Rule) → Contains faults r → ⊥) → faults ≡ []
no_faults_at [] h = refl
no_faults_at (r ∷ rs) h = absurd (h r (here r rs))

idle_is : (p : Phase) → p ≡ Idle → is_idle p ≡ true
idle_is p e = rw e refl

-- a step without own faults is without them behind the steps before it
module _ (form : Form) (ps : List (StepOf form)) (none : (k : ℕ) (rule : Rule) → OwnFault form ps k rule → ⊥) where
  pub faultless_at : (front : List (StepOf form)) (p : StepOf form) (after : List (StepOf form)) → ps ≡ front ++ p ∷ after → (rules_of form).faults front p ≡ []
  faultless_at front p after e = no_faults_at ((rules_of form).faults front p) (λ r m. none (length front) r (record {
    step = p;
    is_step = (get_dropped ps (length front) p after (ap (drop (length front)) e ∙ drop-append_seam front (p ∷ after))).0;
    breaks = subst (λ z. Contains ((rules_of form).faults z p) r) (sym (ap (take (length front)) e ∙ take-append_seam front (p ∷ after))) m;
  }))

first_none : {X : Type 0} (xs ys : List X) → xs ++ ys ≡ [] → (xs ≡ []) × (ys ≡ [])
first_none [] ys h = (refl, h)
first_none (x ∷ xs) ys h = cc h

-- no literal of a core without faults is a stranger
core_faults-none : (es : List Event) (u : List ℕ) → core_faults es u ≡ [] → first_missing u (assumed es) ≡ None
core_faults-none es u h = by_detail (first_missing u (assumed es)) refl
  where
    by_detail : (o : Option ℕ) → first_missing u (assumed es) ≡ o → first_missing u (assumed es) ≡ None
    by_detail None e = e
    by_detail (Some l) e = let f : rules.CoreStranger l ∷ [] ≡ [] = rw e at h in cc f

step_core_within : (before : List Step) (p : Step) (e : Event) → event_of p ≡ Some e → own_faults before p ≡ [] → WithinAssumptions (assumed (filter_map event_of before)) e
unfolding own_faults
step_core_within before (steps.Event (events.Core u)) (events.Core v) e h = let f : u ≡ v = cc e in
    let es = filter_map event_of before in let unclosed = broken_unless (closes (active_clauses before) u) rules.CoreOpen in
    let a = first_none (order_faults es (events.Core u) ++ core_faults es u) unclosed h in let b = first_none (order_faults es (events.Core u)) (core_faults es u) a.0 in
    subst (λ z. first_missing z (assumed (filter_map event_of before)) ≡ None) f (core_faults-none (filter_map event_of before) u b.1)
step_core_within before p (events.Input c) e h = tt
step_core_within before p (events.Query c) e h = tt
step_core_within before p (events.Status c) e h = tt
step_core_within before p (events.Model c) e h = tt
step_core_within before p (events.Values c) e h = tt
step_core_within before p (events.Failed c) e h = tt
step_core_within before (steps.Event (events.Input c)) (events.Core v) e h = cc e
step_core_within before (steps.Event (events.Query c)) (events.Core v) e h = cc e
step_core_within before (steps.Event (events.Status c)) (events.Core v) e h = cc e
step_core_within before (steps.Event (events.Model c)) (events.Core v) e h = cc e
step_core_within before (steps.Event (events.Values c)) (events.Core v) e h = cc e
step_core_within before (steps.Event (events.Failed c)) (events.Core v) e h = cc e
step_core_within before (steps.Lemma c) (events.Core v) e h = cc e
step_core_within before (steps.Delete c) (events.Core v) e h = cc e
step_core_within before (steps.Weaken c) (events.Core v) e h = cc e
step_core_within before (steps.Restore c) (events.Core v) e h = cc e

id_step_core_within : (before : List LStep) (p : LStep) (e : Event) → id_event_of p ≡ Some e → own_id_faults before p ≡ [] → WithinAssumptions (assumed (filter_map id_event_of before)) e
unfolding own_id_faults
id_step_core_within before (lsteps.Core u hs) (events.Core v) e h = let f : u ≡ v = cc e in
    let es = filter_map id_event_of before in
    let a = first_none (order_faults es (events.Core u) ++ hint_faults before u hs) (core_faults es u) h in
    subst (λ z. first_missing z (assumed (filter_map id_event_of before)) ≡ None) f (core_faults-none (filter_map id_event_of before) u a.1)
id_step_core_within before p (events.Input c) e h = tt
id_step_core_within before p (events.Query c) e h = tt
id_step_core_within before p (events.Status c) e h = tt
id_step_core_within before p (events.Model c) e h = tt
id_step_core_within before p (events.Values c) e h = tt
id_step_core_within before p (events.Failed c) e h = tt
id_step_core_within before (lsteps.Input id c) (events.Core v) e h = cc e
id_step_core_within before (lsteps.Lemma id c hs) (events.Core v) e h = cc e
id_step_core_within before (lsteps.Delete is) (events.Core v) e h = cc e
id_step_core_within before (lsteps.Weaken is) (events.Core v) e h = cc e
id_step_core_within before (lsteps.Restore is) (events.Core v) e h = cc e
id_step_core_within before (lsteps.Query c) (events.Core v) e h = cc e
id_step_core_within before (lsteps.Status s) (events.Core v) e h = cc e
id_step_core_within before (lsteps.Model c) (events.Core v) e h = cc e

step_event_fits : (p : Step) (e : Event) → event_of p ≡ Some e → IsStep p → IsProofEvent e
step_event_fits (steps.Event x) e h f = let g : x ≡ e = cc h in subst IsProofEvent g f
step_event_fits (steps.Lemma c) e h f = cc h
step_event_fits (steps.Delete c) e h f = cc h
step_event_fits (steps.Weaken c) e h f = cc h
step_event_fits (steps.Restore c) e h f = cc h

id_step_event_fits : (p : LStep) (e : Event) → id_event_of p ≡ Some e → IsIdStep p → IsProofEvent e
id_step_event_fits (lsteps.Input id c) e h f = let g : events.Input c ≡ e = cc h in subst IsProofEvent g f.1
id_step_event_fits (lsteps.Query c) e h f = let g : events.Query c ≡ e = cc h in subst IsProofEvent g f
id_step_event_fits (lsteps.Status s) e h f = let g : events.Status s ≡ e = cc h in subst IsProofEvent g f
id_step_event_fits (lsteps.Model c) e h f = let g : events.Model c ≡ e = cc h in subst IsProofEvent g f
id_step_event_fits (lsteps.Core c hs) e h f = let g : events.Core c ≡ e = cc h in subst IsProofEvent g f.0
id_step_event_fits (lsteps.Lemma id c hs) e h f = cc h
id_step_event_fits (lsteps.Delete is) e h f = cc h
id_step_event_fits (lsteps.Weaken is) e h f = cc h
id_step_event_fits (lsteps.Restore is) e h f = cc h

icnf_header : IsPlainLine (header_words (codes "icnf"))
icnf_header = record { content = refl; each = refl }

idrup_header : IsPlainLine (header_words (codes "idrup"))
idrup_header = record { content = refl; each = refl }

lidrup_header : IsPlainLine (header_words (codes "lidrup"))
lidrup_header = record { content = refl; each = refl }

-- the lines after the header
body_lines : {A : Type 0} (Fits : A → Type 0) (words_of : A → List (List ℕ)) → ((x : A) → Fits x → IsPlainLine (words_of x)) → (name : List ℕ) (xs : List A) → IsPlainLine (header_words name)
    → All Fits xs → length (text words_of name xs) ≤ most_bytes → drop 1 (lines (text words_of name xs)) ≡ spelled_lines 2 (map words_of xs)
body_lines Fits words_of plain name xs header f small = ap (drop 1) (lines-text Fits words_of plain name xs header f small)

pub finished-accepted : (form : Form) (ps : List (StepOf form)) → IsFinished form ps
    → verdict form (interaction_text (events_among form ps)) (proof_text form ps) ≡ Accepted (count_by (is_query (rules_of form)) ps)
unfolding verdict
finished-accepted Idrup ps d = let es = events_among Idrup ps in
    let fits : All IsEvent es = events_fit without_ids IsStep step_words idrup_line-step_words step_event_fits step_core_within ps d.within in
    accepted without_ids IsStep step_words idrup_line-step_words step_event_fits step_core_within ps (interaction_text es) (proof_text Idrup ps) d.within
    (clean-from without_ids IsStep step_words idrup_line-step_words step_event_fits step_core_within ps [] (faultless_at Idrup ps d.no_faults))
    (idle_is (phase es) d.idle) (icnf_text_back es fits d.interaction_fits).header_spells (idrup_text_back ps d.within d.proof_fits).header_spells
    (body_lines IsEvent event_words event_plain (codes "icnf") es icnf_header fits d.interaction_fits)
    (body_lines IsStep step_words step_plain (codes "idrup") ps idrup_header d.within d.proof_fits) (idrup_text_back ps d.within d.proof_fits).lines_say
finished-accepted Lidrup ps d = let es = events_among Lidrup ps in
    let fits : All IsEvent es = events_fit with_ids IsIdStep id_step_words lidrup_line-id_step_words id_step_event_fits id_step_core_within ps d.within in
    accepted with_ids IsIdStep id_step_words lidrup_line-id_step_words id_step_event_fits id_step_core_within ps (interaction_text es) (proof_text Lidrup ps) d.within
    (clean-from with_ids IsIdStep id_step_words lidrup_line-id_step_words id_step_event_fits id_step_core_within ps [] (faultless_at Lidrup ps d.no_faults))
    (idle_is (phase es) d.idle) (icnf_text_back es fits d.interaction_fits).header_spells (lidrup_text_back ps d.within d.proof_fits).header_spells
    (body_lines IsEvent event_words event_plain (codes "icnf") es icnf_header fits d.interaction_fits)
    (body_lines IsIdStep id_step_words id_step_plain (codes "lidrup") ps lidrup_header d.within d.proof_fits) (lidrup_text_back ps d.within d.proof_fits).lines_say
