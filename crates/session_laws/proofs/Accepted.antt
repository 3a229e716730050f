-- An accepted pair is certified.
use Rattle.std.proofs.Common.{◌≡◌, ℕ, suc, ◌+◌, ◌-◌, ◌≤◌, nat_lt, Bool, true, false, ◌&&◌, if◌then◌else◌, length, filter, is_some, ap, ◌∙◌, List, [], ◌∷◌, ◌++◌, take, drop, map, flat_map, filter_map, Contains, Option, Some, None, Result, Ok, Err, codes, refl, sym, subst, inl, inr, arith, append-nil}
use Rattle.std.proofs.lemmas.List.{length-append, length-drop, length-take-le, take-append-drop}
use Rattle.std.proofs.lemmas.List.Elements.{filter_map-append}
use Rattle.lits.proofs.Members.{here, there, not_in_nil, here_or_there}
use Rattle.std.proofs.lemmas.List.Sums.{length-filter}
use Rattle.std.proofs.lemmas.Bool.{cases_Bool}
use Rattle.session_rules.specs.declared.Form.{Form}
use Rattle.session_rules.specs.declared.Form.TheVariants.{Idrup, Lidrup}
use Rattle.session_rules.specs.declared.Side.TheVariants.{Interaction, Proof}
use Rattle.session_rules.specs.declared.Phase.{Phase}
use Rattle.session_rules.specs.declared.Phase.TheVariants.{Idle, Asked, Told}
use Rattle.session_rules.specs.declared.Event.{Event}
use Rattle.session_rules.specs.declared.Event.TheVariants as events
use Rattle.session_rules.specs.declared.Step.{Step}
use Rattle.session_rules.specs.declared.Step.TheVariants as steps
use Rattle.session_rules.specs.declared.LStep.{LStep}
use Rattle.session_rules.specs.declared.LStep.TheVariants as lsteps
use Rattle.session_rules.specs.declared.Rule.{Rule}
use Rattle.session_rules.specs.declared.Rule.TheVariants as rules
use Rattle.session_rules.specs.declared.Verdict.TheVariants.{Accepted}
use Rattle.session_rules.specs.declared.Letter.{Letter}
use Rattle.session_rules.specs.declared.Letter.TheVariants as letters
use Rattle.session_rules.specs.Lines.{Line, is_nil, has_content, without_cut_word, judged_words, lines, end_line}
use Rattle.session_rules.specs.Reading.{Fault, wrong, missing, ◌>>=◌, Part, whole, literal_list, letter_of, of_literals, event_at, of_whole_line, of_cut_line, value_of, values_of, icnf_line, header_fault}
use Rattle.session_rules.specs.Logic.{is_part}
use Rattle.session_rules.specs.History.{phase, fits_phase, assumed, query_of, broken_at, first_missing, order_faults, core_faults}
use Rattle.session_rules.specs.Own.{event_of, events_of, own_faults, active_clauses, id_event_of, id_events_of, own_id_faults, hint_faults}
use Rattle.session_rules.specs.Pair.{ProofForm, without_ids, with_ids, pair_faults, Refusal, refusal, refusals, first_letter, line_letter, is_cut_early, same_letter, run_length, answer_count, next_count, partner_count, owes_partner, partner_rules, partner_faults, missing_partner, match_faults, is_idle, surplus, unfinished, one_refusal, step_partners, step_matches, line_faults, partners_of, with_step, faults_from, pair_refusals, is_query, verdict_of, verdict_by, verdict, Certified, events_in}
use Rattle.session_rules.proofs.Closing.{Closes-from_closes, Contradicts-from_Closes}
use Rattle.session_rules.specs.declared.Side.{Side}
use Rattle.session_rules.specs.Verdicts.{body, steps_in, events_among, lines_taken}
use Rattle.session_laws.specs.Refusals.{IsWhole}
use Rattle.session_laws.proofs.Justified.{Justified, justified-push, broken_unless_kept, active_satisfied}
use Rattle.session_laws.proofs.IdsJustified.{IdsJustified, ids-justified-push, none_broken, first_nil, hints_contradict}
use Rattle.session_laws.proofs.Certify.{missing_none, AreSound, SoundContent, AreParts, IsRun, one_line, model_line, model_parts, core_line, core_parts, Matched, none_left, matched_run, certified}

-- the values of lines, without their numbers
abbrev values : {A : Type 0} → (List (List ℕ) → Result A Fault) → List Line → List A
values read ls = map (λ p. p.1) (values_of read ls)

values-ok : {A : Type 0} (read : List (List ℕ) → Result A Fault) (line : Line) (more : List Line) (x : A) → value_of read line ≡ Ok x → values read (line ∷ more) ≡ x ∷ values read more
unfolding values_of
values-ok read line more x e = rw e refl

map_nil : {A B : Type 0} (f : A → B) (xs : List A) → map f xs ≡ [] → xs ≡ []
map_nil f [] e = refl
map_nil f (x ∷ xs) e = cc

idle_is : (p : Phase) → is_idle p ≡ true → p ≡ Idle
idle_is Idle e = refl
idle_is Asked e = cc
idle_is (Told s) e = cc

-- a partner with no fault is read, and agrees
partner_read : (qs : List ℕ) (e : Event) (o : Result Event Rule) → partner_rules qs e o ≡ [] → (f : Event) × (o ≡ Ok f) × (pair_faults qs e f ≡ [])
partner_read qs e (Err r) h = cc
partner_read qs e (Ok f) h = (f, refl, h)

-- ---- What the lines of a run say

-- these lines say these events
abbrev Say : List Line → List Event → Type 0
Say [] fs = fs ≡ []
Say (l ∷ ls) [] = ⊥
Say (l ∷ ls) (f ∷ fs) = (value_of icnf_line l ≡ Ok f) × Say ls fs

values_said : (ls more : List Line) (fs : List Event) → Say ls fs → values icnf_line (ls ++ more) ≡ fs ++ values icnf_line more
values_said [] more fs h = rw h refl
values_said (l ∷ ls) more [] h = absurd h
values_said (l ∷ ls) more (f ∷ fs) h = values-ok icnf_line l (ls ++ more) f h.0 ∙ ap (λ zs. f ∷ zs) (values_said ls more fs h.1)

as_many_said : (ls : List Line) (fs : List Event) → Say ls fs → length fs ≡ length ls
as_many_said [] fs h = ap length h
as_many_said (l ∷ ls) [] h = absurd h
as_many_said (l ∷ ls) (f ∷ fs) h = ap suc (as_many_said ls fs h.1)

said_rest : (n : ℕ) (ls : List Line) (fs : List Event) → Say (take n ls) fs → values icnf_line ls ≡ fs ++ values icnf_line (drop n ls)
said_rest n ls fs h = ap (λ zs. values icnf_line zs) (sym (take-append-drop n ls)) ∙ values_said (take n ls) (drop n ls) fs h

-- a letter that begins a line is the first of its words
same_letter_none : (part : Letter) → same_letter letters.NoLetter part ≡ true → ⊥
same_letter_none part h = cc h

same_letter_is : (given part : Letter) → same_letter given part ≡ true → given ≡ part
same_letter_is letters.Model letters.Model h = refl
same_letter_is letters.Core letters.Core h = refl
same_letter_is letters.Values letters.Values h = refl
same_letter_is letters.Failed letters.Failed h = refl
same_letter_is _ _ h = absurd (cc h)

first_uncut : (w : List ℕ) (ws : List (List ℕ)) (part : Letter) → same_letter (first_letter (without_cut_word (w ∷ ws))) part ≡ true → letter_of w ≡ part
first_uncut w [] part h = by_length (nat_lt 32 (length w)) h
  where
    by_length : (long : Bool) → same_letter (first_letter (if long then w ∷ [] else [])) part ≡ true → letter_of w ≡ part
    by_length true h = same_letter_is (letter_of w) part h
    by_length false h = absurd (same_letter_none part h)
first_uncut w (v ∷ ws) part h = same_letter_is (letter_of w) part h

first_judged : (w : List ℕ) (ws : List (List ℕ)) (content open_word : Bool) (part : Letter)
    → same_letter (first_letter (if content then (if open_word then without_cut_word (w ∷ ws) else w ∷ ws) else [])) part ≡ true → letter_of w ≡ part
first_judged w ws true true part h = first_uncut w ws part h
first_judged w ws true false part h = same_letter_is (letter_of w) part h
first_judged w ws false open_word part h = absurd (same_letter_none part h)

whole_is : {A : Type 0} (r : Result A Fault) (x : A) → of_whole_line r ≡ Ok x → r ≡ Ok x
whole_is (Ok y) x h = let same : y ≡ x = cc h in ap Ok same
whole_is (Err f) x h = absurd (cc h)

never_cut : {A : Type 0} (r : Result A Fault) (x : A) → of_cut_line r ≡ Ok x → ⊥
never_cut (Ok y) x h = cc h
never_cut (Err (wrong rule)) x h = cc h
never_cut (Err (missing rule)) x h = cc h

-- what a line with this letter says
line_says : (line : Line) (part : Letter) (f : Event) → same_letter (line_letter line) part ≡ true → value_of icnf_line line ≡ Ok f
    → (ws : List (List ℕ)) × (event_at part ws ≡ Ok f)
unfolding icnf_line
line_says line part f l v = by_cut line.cut v
  where
    by_words : (ws : List (List ℕ)) → same_letter (first_letter (if has_content ws then (if line.word_cut then without_cut_word ws else ws) else [])) part ≡ true
        → icnf_line ws ≡ Ok f → (vs : List (List ℕ)) × (event_at part vs ≡ Ok f)
    by_words [] l v = absurd (cc v)
    by_words (w ∷ ws) l v = (ws, subst (λ letter. event_at letter ws ≡ Ok f) (first_judged w ws (has_content (w ∷ ws)) line.word_cut part l) v)

    by_cut : (cut : Bool) → (if cut then of_cut_line (icnf_line (judged_words line)) else of_whole_line (icnf_line line.words)) ≡ Ok f → (ws : List (List ℕ)) × (event_at part ws ≡ Ok f)
    by_cut true v = absurd (never_cut _ f v)
    by_cut false v = by_words line.words l (whole_is _ f v)

-- a line that is cut says nothing
cut_early_says : (line : Line) (f : Event) → is_cut_early line ≡ true → value_of icnf_line line ≡ Ok f → ⊥
cut_early_says line f h v = by_cut line.cut h v
  where
    by_cut : (cut : Bool) → cut && is_nil (judged_words line) ≡ true → (if cut then of_cut_line (icnf_line (judged_words line)) else of_whole_line (icnf_line line.words)) ≡ Ok f → ⊥
    by_cut true h v = never_cut _ f v
    by_cut false h v = cc h

-- a line of literals alone
literals_made : (make : List ℕ → Event) (ws : List (List ℕ)) (f : Event) → of_literals make ws ≡ Ok f → (n : List ℕ) × (f ≡ make n)
literals_made make ws f h = by_list (literal_list ws) h
  where
    by_rest : (n : List ℕ) (vs : List (List ℕ)) → whole (make n) vs ≡ Ok f → (n : List ℕ) × (f ≡ make n)
    by_rest n [] h = let same : make n ≡ f = cc h in (n, sym same)
    by_rest n (v ∷ vs) h = absurd (cc h)

    by_list : (r : Part (List ℕ)) → (r >>= λ ls. whole (make ls.0) ls.1) ≡ Ok f → (n : List ℕ) × (f ≡ make n)
    by_list (Ok p) h = by_rest p.0 p.1 h
    by_list (Err e) h = absurd (cc h)

-- a line that has no fault with an event says one that agrees
line_agrees : (qs : List ℕ) (e : Event) (line : Line) → partner_faults qs e line ≡ [] → (f : Event) × (value_of icnf_line line ≡ Ok f) × (pair_faults qs e f ≡ [])
line_agrees qs e line h = partner_read qs e (value_of icnf_line line) (map_nil (refusal Interaction line.number) _ h)

-- ---- Runs of parts

-- lines say parts of an answer, each of which agrees with it
record SayParts (qs : List ℕ) (e : Event) (make : List ℕ → Event) (ls : List Line) : Type 0 where
  parts : List (List ℕ)
  says : Say ls (map make parts)
  agree : (n : List ℕ) → Contains parts n → pair_faults qs e (make n) ≡ []

module _ (qs : List ℕ) (e : Event) (part : Letter) (make : List ℕ → Event) (made : (ws : List (List ℕ)) (f : Event) → event_at part ws ≡ Ok f → (n : List ℕ) × (f ≡ make n)) where
  no_parts : SayParts qs e make []
  no_parts = record { parts = []; says = refl; agree = λ n m. absurd (not_in_nil n m) }

  -- a line with the letter says a part
  one_part : (line : Line) → same_letter (line_letter line) part ≡ true → partner_faults qs e line ≡ []
      → (n : List ℕ) × (value_of icnf_line line ≡ Ok (make n)) × (pair_faults qs e (make n) ≡ [])
  one_part line l h =
      let said = line_agrees qs e line h in
      let word = line_says line part said.0 l said.1 in
      let is = made word.0 said.0 word.1 in
      (is.0, said.1 ∙ ap Ok is.1, subst (λ f. pair_faults qs e f ≡ []) is.1 said.2)

  more_parts : (line : Line) (ls : List Line) → same_letter (line_letter line) part ≡ true → partner_faults qs e line ≡ [] → SayParts qs e make ls → SayParts qs e make (line ∷ ls)
  more_parts line ls l h rest = let first = one_part line l h in record {
    parts = first.0 ∷ rest.parts;
    says = (first.1, rest.says);
    agree = λ n m. elim (here_or_there first.0 n rest.parts m) [ inl is ↦ subst (λ z. pair_faults qs e (make z) ≡ []) is first.2 | inr later ↦ rest.agree n later ];
  }

  run_parts : (ls : List Line) → flat_map (partner_faults qs e) (take (run_length part ls) ls) ≡ [] → SayParts qs e make (take (run_length part ls) ls)
  unfolding run_length
  run_parts [] h = no_parts
  run_parts (line ∷ more) h = by_letter (same_letter (line_letter line) part) (is_cut_early line) refl refl (λ none. run_parts more none) h
    where
      by_letter : (is early : Bool) → same_letter (line_letter line) part ≡ is → is_cut_early line ≡ early
          → (flat_map (partner_faults qs e) (take (run_length part more) more) ≡ [] → SayParts qs e make (take (run_length part more) more))
          → flat_map (partner_faults qs e) (take (if is then suc (run_length part more) else (if early then 1 else 0)) (line ∷ more)) ≡ []
          → SayParts qs e make (take (if is then suc (run_length part more) else (if early then 1 else 0)) (line ∷ more))
      by_letter true early l c next h = let none = first_nil (partner_faults qs e line) _ h in more_parts line _ l none.0 (next none.1)
      by_letter false true l c next h = let none = first_nil (partner_faults qs e line) [] h in let said = line_agrees qs e line none.0 in
          absurd (cut_early_says line said.0 c said.1)
      by_letter false false l c next h = no_parts

  -- the one line of an answer that is told whole
  whole_said : (line : Line) (more : List Line) → same_letter (line_letter line) part ≡ true → flat_map (partner_faults qs e) (take 1 (line ∷ more)) ≡ []
      → (n : List ℕ) × Say (take 1 (line ∷ more)) (make n ∷ []) × (pair_faults qs e (make n) ≡ [])
  whole_said line more l h = let first = one_part line l (first_nil (partner_faults qs e line) [] h).0 in (first.0, (first.1, refl), first.2)

all_parts : (ns : List (List ℕ)) (m : List ℕ) → ((n : List ℕ) → Contains ns n → is_part n m ≡ true) → AreParts ns m
all_parts [] m h = tt
all_parts (n ∷ ns) m h = (h n (here n ns), all_parts ns m (λ k c. h k (there n k ns c)))

-- ---- The run of an event

-- the first of these lines, as many as an event has partners, say what the interaction says of it
record SaidRun (qs : List ℕ) (e : Event) (n : ℕ) (ls : List Line) : Type 0 where
  run : List Event
  says : Say (take n ls) run
  is_run : IsRun qs e run

told_next : (qs : List ℕ) (number : ℕ) (e : Event) (ls : List Line) → owes_partner e ≡ true
    → missing_partner number e ls ++ flat_map (partner_faults qs e) (take (next_count ls) ls) ≡ [] → SaidRun qs e (next_count ls) ls
told_next qs number e [] o h = let f : refusal Proof number rules.Ended ∷ [] ≡ [] = rw o at h in absurd (cc f)
told_next qs number e (line ∷ more) o h =
    let said = line_agrees qs e line (first_nil (partner_faults qs e line) [] h).0 in
    record { run = said.0 ∷ []; says = (said.1, refl); is_run = one_line e said.0 o said.2 }

model_agrees : (qs m n : List ℕ) → pair_faults qs (events.Model m) (events.Model n) ≡ [] → is_part n m ≡ true
unfolding pair_faults
model_agrees qs m n h = missing_none n m (none_broken rules.ModelPart _ h)

values_agree : (qs m n : List ℕ) → pair_faults qs (events.Model m) (events.Values n) ≡ [] → is_part n m ≡ true
unfolding pair_faults
values_agree qs m n h = missing_none n m (none_broken rules.ModelPart _ h)

core_agrees : (qs u w : List ℕ) → pair_faults qs (events.Core u) (events.Core w) ≡ [] → (is_part u w ≡ true) × (is_part w qs ≡ true)
unfolding pair_faults
core_agrees qs u w h = let both = first_nil (broken_at rules.CorePart (first_missing u w)) _ h in
    (missing_none u w (none_broken rules.CorePart _ both.0), missing_none w qs (none_broken rules.CoreClaim _ both.1))

failed_agree : (qs u n : List ℕ) → pair_faults qs (events.Core u) (events.Failed n) ≡ [] → is_part n u ≡ true
unfolding pair_faults
failed_agree qs u n h = missing_none n u (none_broken rules.FailedPart _ h)

told_model : (qs m : List ℕ) (ls : List Line) → flat_map (partner_faults qs (events.Model m)) (take (answer_count letters.Model letters.Values ls) ls) ≡ []
    → SaidRun qs (events.Model m) (answer_count letters.Model letters.Values ls) ls
told_model qs m [] h = record { run = []; says = refl; is_run = model_parts m [] tt }
told_model qs m (line ∷ more) h = by_letter (same_letter (line_letter line) letters.Model) refl h
  where
    by_letter : (is : Bool) → same_letter (line_letter line) letters.Model ≡ is
        → flat_map (partner_faults qs (events.Model m)) (take (if is then 1 else run_length letters.Values (line ∷ more)) (line ∷ more)) ≡ []
        → SaidRun qs (events.Model m) (if is then 1 else run_length letters.Values (line ∷ more)) (line ∷ more)
    by_letter true l h = let said = whole_said qs (events.Model m) letters.Model events.Model (λ ws f e. literals_made events.Model ws f e) line more l h in
        record { run = events.Model said.0 ∷ []; says = said.1; is_run = model_line m said.0 (model_agrees qs m said.0 said.2) }
    by_letter false l h = let said = run_parts qs (events.Model m) letters.Values events.Values (λ ws f e. literals_made events.Values ws f e) (line ∷ more) h in
        record { run = map events.Values said.parts; says = said.says; is_run = model_parts m said.parts (all_parts said.parts m (λ n c. values_agree qs m n (said.agree n c))) }

told_core : (qs u : List ℕ) (ls : List Line) → flat_map (partner_faults qs (events.Core u)) (take (answer_count letters.Core letters.Failed ls) ls) ≡ []
    → SaidRun qs (events.Core u) (answer_count letters.Core letters.Failed ls) ls
told_core qs u [] h = record { run = []; says = refl; is_run = core_parts u [] tt }
told_core qs u (line ∷ more) h = by_letter (same_letter (line_letter line) letters.Core) refl h
  where
    by_letter : (is : Bool) → same_letter (line_letter line) letters.Core ≡ is
        → flat_map (partner_faults qs (events.Core u)) (take (if is then 1 else run_length letters.Failed (line ∷ more)) (line ∷ more)) ≡ []
        → SaidRun qs (events.Core u) (if is then 1 else run_length letters.Failed (line ∷ more)) (line ∷ more)
    by_letter true l h = let said = whole_said qs (events.Core u) letters.Core events.Core (λ ws f e. literals_made events.Core ws f e) line more l h in
        let agrees = core_agrees qs u said.0 said.2 in
        record { run = events.Core said.0 ∷ []; says = said.1; is_run = core_line u said.0 agrees.0 agrees.1 }
    by_letter false l h = let said = run_parts qs (events.Core u) letters.Failed events.Failed (λ ws f e. literals_made events.Failed ws f e) (line ∷ more) h in
        record { run = map events.Failed said.parts; says = said.says; is_run = core_parts u said.parts (all_parts said.parts u (λ n c. failed_agree qs u n (said.agree n c))) }

-- the partners of an event that has no fault with them
said_run : (qs : List ℕ) (number : ℕ) (e : Event) (ls : List Line) → match_faults qs number e ls ≡ [] → SaidRun qs e (partner_count e ls) ls
said_run qs number (events.Model m) ls h = told_model qs m ls (first_nil (missing_partner number (events.Model m) ls) _ h).1
said_run qs number (events.Core u) ls h = told_core qs u ls (first_nil (missing_partner number (events.Core u) ls) _ h).1
said_run qs number (events.Input c) ls h = told_next qs number (events.Input c) ls refl h
said_run qs number (events.Query c) ls h = told_next qs number (events.Query c) ls refl h
said_run qs number (events.Status s) ls h = told_next qs number (events.Status s) ls refl h
said_run qs number (events.Values c) ls h = told_next qs number (events.Values c) ls refl h
said_run qs number (events.Failed c) ls h = told_next qs number (events.Failed c) ls refl h

-- no event has more partners than lines are left
run_within : (part : Letter) (ls : List Line) → run_length part ls ≤ length ls
unfolding run_length
run_within part [] = omega arith
run_within part (line ∷ more) = by_letter (same_letter (line_letter line) part) (is_cut_early line) (run_within part more)
  where
    by_letter : (is early : Bool) → run_length part more ≤ length more → (if is then suc (run_length part more) else (if early then 1 else 0)) ≤ suc (length more)
    by_letter true early h = omega (arith, h)
    by_letter false true h = omega arith
    by_letter false false h = omega arith

answer_within : (full part : Letter) (ls : List Line) → answer_count full part ls ≤ length ls
answer_within full part [] = omega arith
answer_within full part (line ∷ more) = by_letter (same_letter (line_letter line) full) (run_within part (line ∷ more))
  where
    by_letter : (is : Bool) → run_length part (line ∷ more) ≤ length (line ∷ more) → (if is then 1 else run_length part (line ∷ more)) ≤ length (line ∷ more)
    by_letter true h = omega arith
    by_letter false h = h

next_within : (ls : List Line) → next_count ls ≤ length ls
next_within [] = omega arith
next_within (line ∷ more) = omega arith

partners_within : (e : Event) (ls : List Line) → partner_count e ls ≤ length ls
partners_within (events.Model m) ls = answer_within letters.Model letters.Values ls
partners_within (events.Core u) ls = answer_within letters.Core letters.Failed ls
partners_within (events.Input c) ls = next_within ls
partners_within (events.Query c) ls = next_within ls
partners_within (events.Status s) ls = next_within ls
partners_within (events.Values c) ls = next_within ls
partners_within (events.Failed c) ls = next_within ls

-- ---- A pair without faults

module _ {S : Type 0} (form : ProofForm S) (Holds : List S → Type 0)
    (push : (ps : List S) (p : S) → form.faults ps p ≡ [] → Holds ps → Holds (ps ++ p ∷ []))
    (sound : (ps : List S) (p : S) (e : Event) → form.event p ≡ Some e → form.faults ps p ≡ [] → Holds ps
    → (fits_phase e (phase (filter_map form.event ps)) ≡ true) × SoundContent (filter_map form.event ps) e) where
  abbrev proof_events : List Line → List Event
  proof_events proof_lines = filter_map form.event (values form.read proof_lines)

  -- what lines without fault say, behind these events: the proof's events are sound, what the interaction's lines say is matched
  -- with them, each of these lines says an event, and each is a partner
  record Agrees (es : List Event) (proof_lines ls : List Line) : Type 0 where
    matched : Matched es (proof_events proof_lines) (values icnf_line ls)
    are_sound : AreSound es (proof_events proof_lines)
    all_say : length (values icnf_line ls) ≡ length ls
    all_taken : lines_taken (proof_events proof_lines) ls ≡ length ls

  events-none : (ps : List S) (p : S) → form.event p ≡ None → filter_map form.event (ps ++ p ∷ []) ≡ filter_map form.event ps
  events-none ps p e = rw (filter_map-append, e, append-nil) refl

  events-some : (ps : List S) (p : S) (e : Event) → form.event p ≡ Some e → filter_map form.event (ps ++ p ∷ []) ≡ filter_map form.event ps ++ e ∷ []
  events-some ps p e h = rw (filter_map-append, h) refl

  next-none : (p : S) (line : Line) (more : List Line) → value_of form.read line ≡ Ok p → form.event p ≡ None → proof_events (line ∷ more) ≡ proof_events more
  next-none p line more v e = rw (values-ok form.read line more p v, e) refl

  next-some : (p : S) (line : Line) (more : List Line) (e : Event) → value_of form.read line ≡ Ok p → form.event p ≡ Some e → proof_events (line ∷ more) ≡ e ∷ proof_events more
  next-some p line more e v is = rw (values-ok form.read line more p v, is) refl

  at_end : (ps : List S) (end : ℕ) (ls : List Line) → unfinished (filter_map form.event ps) end ++ surplus ls ≡ [] → Agrees (filter_map form.event ps) [] ls
  unfolding values_of lines_taken
  at_end ps end [] h = let none = first_nil (unfinished (filter_map form.event ps) end) [] h in record {
    matched = none_left (filter_map form.event ps);
    are_sound = idle_is _ (broken_unless_kept _ rules.Unfinished (map_nil (refusal Proof end) _ none.0));
    all_say = refl;
    all_taken = refl;
  }
  at_end ps end (line ∷ more) h = let none = first_nil (unfinished (filter_map form.event ps) end) _ h in absurd (cc none.1)

  -- at a step that is no event
  at_step : (ps : List S) (p : S) (line : Line) (more ls : List Line) → value_of form.read line ≡ Ok p → form.event p ≡ None
      → Agrees (filter_map form.event (ps ++ p ∷ [])) more ls → Agrees (filter_map form.event ps) (line ∷ more) ls
  at_step ps p line more ls v e h =
      let same = sym (next-none p line more v e) in
      let es = filter_map form.event ps in
      let rest = subst (λ zs. Agrees zs more ls) (events-none ps p e) h in record {
        matched = subst (λ zs. Matched es zs (values icnf_line ls)) same rest.matched;
        are_sound = subst (AreSound es) same rest.are_sound;
        all_say = rest.all_say;
        all_taken = subst (λ zs. lines_taken zs ls ≡ length ls) same rest.all_taken;
      }

  -- at an event and its partners
  at_event : (ps : List S) (p : S) (line : Line) (more ls : List Line) (e : Event) → value_of form.read line ≡ Ok p → form.event p ≡ Some e
      → SaidRun (assumed (filter_map form.event ps)) e (partner_count e ls) ls
      → (fits_phase e (phase (filter_map form.event ps)) ≡ true) × SoundContent (filter_map form.event ps) e
      → Agrees (filter_map form.event (ps ++ p ∷ [])) more (drop (partner_count e ls) ls) → Agrees (filter_map form.event ps) (line ∷ more) ls
  unfolding lines_taken
  at_event ps p line more ls e v is t own h =
      let same = sym (next-some p line more e v is) in
      let es = filter_map form.event ps in
      let count = partner_count e ls in
      let rest = subst (λ zs. Agrees zs more (drop count ls)) (events-some ps p e is) h in
      let says = said_rest count ls t.run t.says in
      let left : length (drop count ls) ≡ length ls - count = length-drop count ls in
      let within = partners_within e ls in
      let run_many : length t.run ≡ count = as_many_said (take count ls) t.run t.says ∙ length-take-le count ls within in
      let taken : count + lines_taken (proof_events more) (drop count ls) ≡ length ls = omega (arith, rest.all_taken, left, within) in record {
        matched = subst (λ zs. Matched es zs (values icnf_line ls)) same
            (subst (Matched es (e ∷ proof_events more)) (sym says) (matched_run es e (proof_events more) t.run _ t.is_run rest.matched));
        are_sound = subst (AreSound es) same (own.0, own.1, rest.are_sound);
        all_say = ap length says ∙ length-append t.run (values icnf_line (drop count ls)) ∙ omega (arith, run_many, rest.all_say, left, within);
        all_taken = subst (λ zs. lines_taken zs ls ≡ length ls) same taken;
      }

  -- a step's event, where it has one, and its partners
  by_event : (ps : List S) (p : S) (line : Line) (more ls : List Line) (number : ℕ) (o : Option Event) → form.event p ≡ o → value_of form.read line ≡ Ok p → form.faults ps p ≡ [] → Holds ps
      → step_matches form (assumed (filter_map form.event ps)) number o ls ≡ [] → Agrees (filter_map form.event (ps ++ p ∷ [])) more (drop (step_partners form o ls) ls)
      → Agrees (filter_map form.event ps) (line ∷ more) ls
  by_event ps p line more ls number None is v own j m next = at_step ps p line more ls v is next
  by_event ps p line more ls number (Some e) is v own j m next =
      at_event ps p line more ls e v is (said_run (assumed (filter_map form.event ps)) number e ls m) (sound ps p e is own j) next

  -- at a line
  at_line : (ps : List S) (line : Line) (more ls : List Line) (end : ℕ) → Holds ps → (o : Result S Rule) → value_of form.read line ≡ o
      → line_faults form ps line.number o ls (faults_from form (with_step form ps o) end more (drop (partners_of form o ls) ls)) ≡ []
      → ((qs : List S) (ms : List Line) → Holds qs → faults_from form qs end more ms ≡ [] → Agrees (filter_map form.event qs) more ms) → Agrees (filter_map form.event ps) (line ∷ more) ls
  at_line ps line more ls end j (Err r) v h next = absurd (cc h)
  at_line ps line more ls end j (Ok p) v h next =
      let outer = first_nil (refusals Proof line.number (form.faults ps p) ++ step_matches form (assumed (filter_map form.event ps)) line.number (form.event p) ls) _ h in
      let inner = first_nil (refusals Proof line.number (form.faults ps p)) _ outer.0 in
      let own = map_nil (refusal Proof line.number) _ inner.0 in
      by_event ps p line more ls line.number (form.event p) refl v own j inner.1 (next (ps ++ p ∷ []) _ (push ps p own j) outer.1)

  -- lines without a fault are sound and matched
  without_faults : (proof_lines ls : List Line) (ps : List S) (end : ℕ) → Holds ps → faults_from form ps end proof_lines ls ≡ [] → Agrees (filter_map form.event ps) proof_lines ls
  unfolding faults_from
  without_faults [] ls ps end j h = at_end ps end ls h
  without_faults (line ∷ more) ls ps end j h = at_line ps line more ls end j (value_of form.read line) refl h (λ qs ms k e. without_faults more ms qs end k e)

  accepted_none : (queries n : ℕ) (rs : List Refusal) → verdict_of queries rs ≡ Accepted n → rs ≡ []
  accepted_none queries n [] e = refl
  accepted_none queries n (r ∷ more) e = cc e

  -- an accepted pair's events are sound and matched
  accepted_agrees : (a b : List ℕ) (n : ℕ) → Holds [] → verdict_by form a b ≡ Accepted n → Agrees [] (drop 1 (lines b)) (drop 1 (lines a))
  unfolding verdict_by pair_refusals
  accepted_agrees a b n start e =
      let none = accepted_none _ n _ e in
      let rest = first_nil (one_refusal Interaction (header_fault (codes "icnf") a) ++ one_refusal Proof (header_fault form.name b)) _ none in
      without_faults (drop 1 (lines b)) (drop 1 (lines a)) [] (end_line b) start rest.1

  -- an accepted pair is certified
  accepted_certified : (a b : List ℕ) (n : ℕ) → Holds [] → verdict_by form a b ≡ Accepted n → Certified (values icnf_line (drop 1 (lines a))) (proof_events (drop 1 (lines b)))
  accepted_certified a b n start e = let r = accepted_agrees a b n start e in certified _ _ r.matched r.are_sound

  -- the interaction's lines say events
  accepted_whole : (a b : List ℕ) (n : ℕ) → Holds [] → verdict_by form a b ≡ Accepted n → IsWhole a
  unfolding verdict_by pair_refusals
  accepted_whole a b n start e = record {
    header_spells = no_header Interaction (header_fault (codes "icnf") a) (first_nil (one_refusal Interaction (header_fault (codes "icnf") a)) _
        (first_nil (one_refusal Interaction (header_fault (codes "icnf") a) ++ one_refusal Proof (header_fault form.name b)) _ (accepted_none _ n _ e)).0).0;
    lines_say = (accepted_agrees a b n start e).all_say;
  }
    where
      no_header : (side : Side) (o : Option (ℕ × Rule)) → one_refusal side o ≡ [] → o ≡ None
      no_header side None h = refl
      no_header side (Some f) h = cc h

  -- each of them is a partner of an event of the proof
  accepted_partners : (a b : List ℕ) (n : ℕ) → Holds [] → verdict_by form a b ≡ Accepted n
      → lines_taken (proof_events (drop 1 (lines b))) (drop 1 (lines a)) ≡ length (drop 1 (lines a))
  accepted_partners a b n start e = (accepted_agrees a b n start e).all_taken

  -- whether an event is a query
  asks : Event → Bool
  asks e = is_some (query_of e)

  counted_events : (ps : List S) → length (filter (is_query form) ps) ≡ length (filter asks (filter_map form.event ps))
  unfolding asks
  counted_events [] = refl
  counted_events (p ∷ ps) = by_event_of (form.event p) refl (counted_events ps)
    where
      by_event_of : (o : Option Event) → form.event p ≡ o → length (filter (is_query form) ps) ≡ length (filter asks (filter_map form.event ps))
          → length (filter (is_query form) (p ∷ ps)) ≡ length (filter asks (filter_map form.event (p ∷ ps)))
      by_event_of None is rest = rw is rest
      by_event_of (Some e) is rest = elim (cases_Bool (is_some (query_of e))) [
        | inl q ↦ rw (is, q) (ap suc rest)
        | inr q ↦ rw (is, q) rest
      ]

  same_kind : (qs : List ℕ) (e f : Event) → owes_partner e ≡ true → pair_faults qs e f ≡ [] → asks e ≡ asks f
  unfolding pair_faults asks
  same_kind qs (events.Input c) (events.Input d) o h = refl
  same_kind qs (events.Query c) (events.Query d) o h = refl
  same_kind qs (events.Status s) (events.Status t) o h = refl
  same_kind qs (events.Model m) f o h = absurd (cc o)
  same_kind qs (events.Core u) f o h = absurd (cc o)
  same_kind qs _ _ o h = absurd (cc h)

  -- parts are no queries
  parts_count : (make : List ℕ → Event) → ((n : List ℕ) → asks (make n) ≡ false) → (ns : List (List ℕ)) (rest : List Event) → length (filter asks (map make ns ++ rest)) ≡ length (filter asks rest)
  parts_count make quiet [] rest = refl
  parts_count make quiet (n ∷ ns) rest = rw (quiet n) (parts_count make quiet ns rest)

  run_count : (qs : List ℕ) (e : Event) (more run rest : List Event) → IsRun qs e run → length (filter asks more) ≡ length (filter asks rest)
      → length (filter asks (e ∷ more)) ≡ length (filter asks (run ++ rest))
  unfolding asks
  run_count qs _ more _ rest (one_line e f o h) r =
      ap (λ q. length (if q then e ∷ filter asks more else filter asks more)) (same_kind qs e f o h) ∙ by_test (asks f) r
    where
      by_test : (q : Bool) → length (filter asks more) ≡ length (filter asks rest)
          → length (if q then e ∷ filter asks more else filter asks more) ≡ length (if q then f ∷ filter asks rest else filter asks rest)
      by_test true r = ap suc r
      by_test false r = r
  run_count qs _ more _ rest (model_line m n p) r = r
  run_count qs _ more _ rest (model_parts m ns p) r = r ∙ sym (parts_count events.Values (λ n. refl) ns rest)
  run_count qs _ more _ rest (core_line u w p q) r = r
  run_count qs _ more _ rest (core_parts u ns p) r = r ∙ sym (parts_count events.Failed (λ n. refl) ns rest)

  matched_count : (es more fs : List Event) → Matched es more fs → length (filter asks more) ≡ length (filter asks fs)
  matched_count _ _ _ (none_left es) = refl
  matched_count _ _ _ (matched_run es e more run rest is next) = run_count (assumed es) e more run rest is (matched_count (es ++ e ∷ []) more rest next)

  -- the verdict's number is that of the interaction's queries
  accepted_count : (a b : List ℕ) (n : ℕ) → Holds [] → verdict_by form a b ≡ Accepted n
      → n ≡ length (filter (λ e. is_some (query_of e)) (values icnf_line (drop 1 (lines a))))
  unfolding verdict_by asks
  accepted_count a b n start e =
      let r = accepted_agrees a b n start e in
      let proof_values = values form.read (drop 1 (lines b)) in
      number_is _ n _ e ∙ sym (length-filter (is_query form) proof_values) ∙ counted_events proof_values
      ∙ matched_count [] (filter_map form.event proof_values) (values icnf_line (drop 1 (lines a))) r.matched
    where
      number_is : (queries n : ℕ) (rs : List Refusal) → verdict_of queries rs ≡ Accepted n → n ≡ queries
      number_is queries n [] e = cc e
      number_is queries n (r ∷ more) e = cc e

-- ---- The two forms

pub sound_event : (ps : List Step) (x : Event) → own_faults ps (steps.Event x) ≡ [] → Justified ps → (fits_phase x (phase (events_of ps)) ≡ true) × SoundContent (events_of ps) x
unfolding own_faults
sound_event ps (events.Input c) h j = (broken_unless_kept _ rules.Order h, tt)
sound_event ps (events.Query c) h j = (broken_unless_kept _ rules.Order h, tt)
sound_event ps (events.Status s) h j = (broken_unless_kept _ rules.Order h, tt)
sound_event ps (events.Model m) h j = let parts = first_nil (order_faults (events_of ps) (events.Model m)) _ h in (broken_unless_kept _ rules.Order parts.0, parts.1)
sound_event ps (events.Values c) h j = (broken_unless_kept _ rules.Order h, tt)
sound_event ps (events.Failed c) h j = (broken_unless_kept _ rules.Order h, tt)
sound_event ps (events.Core u) h j =
    let parts = first_nil (order_faults (events_of ps) (events.Core u) ++ core_faults (events_of ps) u) _ h in
    let firsts = first_nil (order_faults (events_of ps) (events.Core u)) _ parts.0 in
    let closing = Closes-from_closes (active_clauses ps) u (broken_unless_kept _ rules.CoreOpen parts.1) in
    (broken_unless_kept _ rules.Order firsts.0, (firsts.1, λ v f t. Contradicts-from_Closes (active_clauses ps) u closing v (active_satisfied ps j v f) t))

sound_without_ids : (ps : List Step) (p : Step) (e : Event) → event_of p ≡ Some e → own_faults ps p ≡ [] → Justified ps
    → (fits_phase e (phase (events_of ps)) ≡ true) × SoundContent (events_of ps) e
sound_without_ids ps (steps.Event x) e is h j = let same : x ≡ e = cc is in
    subst (λ z. (fits_phase z (phase (events_of ps)) ≡ true) × SoundContent (events_of ps) z) same (sound_event ps x h j)
sound_without_ids ps _ e is h j = cc is

module _ (ps : List LStep) (e : Event) where
  Sound : Event → Type 0
  Sound x = (fits_phase x (phase (id_events_of ps)) ≡ true) × SoundContent (id_events_of ps) x

  at_same : (x : Event) → Some x ≡ Some e → Sound x → (fits_phase e (phase (id_events_of ps)) ≡ true) × SoundContent (id_events_of ps) e
  unfolding Sound
  at_same x is h = let same : x ≡ e = cc is in subst Sound same h

pub sound_with_ids : (ps : List LStep) (p : LStep) (e : Event) → id_event_of p ≡ Some e → own_id_faults ps p ≡ [] → IdsJustified ps
    → (fits_phase e (phase (id_events_of ps)) ≡ true) × SoundContent (id_events_of ps) e
unfolding own_id_faults Sound
sound_with_ids ps (lsteps.Input id c) e is h j = at_same ps e (events.Input c) is
    (broken_unless_kept _ rules.Order (first_nil (order_faults (id_events_of ps) (events.Input c)) _ h).0, tt)
sound_with_ids ps (lsteps.Query c) e is h j = at_same ps e (events.Query c) is (broken_unless_kept _ rules.Order h, tt)
sound_with_ids ps (lsteps.Status s) e is h j = at_same ps e (events.Status s) is (broken_unless_kept _ rules.Order h, tt)
sound_with_ids ps (lsteps.Model m) e is h j = let parts = first_nil (order_faults (id_events_of ps) (events.Model m)) _ h in
    at_same ps e (events.Model m) is (broken_unless_kept _ rules.Order parts.0, parts.1)
sound_with_ids ps (lsteps.Core u hs) e is h j =
    let parts = first_nil (order_faults (id_events_of ps) (events.Core u) ++ hint_faults ps u hs) _ h in
    let firsts = first_nil (order_faults (id_events_of ps) (events.Core u)) _ parts.0 in
    at_same ps e (events.Core u) is (broken_unless_kept _ rules.Order firsts.0, (parts.1, hints_contradict ps u hs j (none_broken rules.Hint _ firsts.1)))
sound_with_ids ps _ e is h j = cc is

pub nothing_justified : Justified []
nothing_justified = λ c h. elim h [ inl x ↦ absurd (omega arith) | inr x ↦ absurd (omega arith) ]

pub no_ids_justified : IdsJustified []
no_ids_justified = λ id c there_is is. let none : ⊥ = cc is in absurd none

-- an accepted pair is certified
pub verdict_certifies : (form : Form) (a b : List ℕ) (n : ℕ) → verdict form a b ≡ Accepted n → Certified (events_in a) (events_among form (steps_in form b))
unfolding verdict
verdict_certifies Idrup a b n e = accepted_certified without_ids Justified justified-push sound_without_ids a b n nothing_justified e
verdict_certifies Lidrup a b n e = accepted_certified with_ids IdsJustified ids-justified-push sound_with_ids a b n no_ids_justified e

-- its interaction is whole
pub verdict_whole : (form : Form) (a b : List ℕ) (n : ℕ) → verdict form a b ≡ Accepted n → IsWhole a
unfolding verdict
verdict_whole Idrup a b n e = accepted_whole without_ids Justified justified-push sound_without_ids a b n nothing_justified e
verdict_whole Lidrup a b n e = accepted_whole with_ids IdsJustified ids-justified-push sound_with_ids a b n no_ids_justified e

-- each of its lines is a partner
pub verdict_partners : (form : Form) (a b : List ℕ) (n : ℕ) → verdict form a b ≡ Accepted n → lines_taken (events_among form (steps_in form b)) (body a) ≡ length (body a)
unfolding verdict
verdict_partners Idrup a b n e = accepted_partners without_ids Justified justified-push sound_without_ids a b n nothing_justified e
verdict_partners Lidrup a b n e = accepted_partners with_ids IdsJustified ids-justified-push sound_with_ids a b n no_ids_justified e

-- the number of an accepted pair is that of the interaction's queries
pub verdict_counts : (form : Form) (a b : List ℕ) (n : ℕ) → verdict form a b ≡ Accepted n → n ≡ length (filter (λ e. is_some (query_of e)) (events_in a))
unfolding verdict
verdict_counts Idrup a b n e = accepted_count without_ids Justified justified-push sound_without_ids a b n nothing_justified e
verdict_counts Lidrup a b n e = accepted_count with_ids IdsJustified ids-justified-push sound_with_ids a b n no_ids_justified e
