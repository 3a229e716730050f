-- A run of lines, each of which tells a part of a model or of a core.
use Rattle.std.proofs.Common.{◌≡◌, ℕ, suc, ◌+◌, ◌-◌, ◌^◌, ◌<◌, ◌≤◌, Bool, true, false, not, ◌&&◌, if◌then◌else◌, List, [], ◌∷◌, ◌++◌, length, find, slice_get, Some, None, Ok, Err, refl, sym, ap, ◌∙◌, subst, inl, inr, arith, append_assoc}
use mathlib.Core.Path.{fun_ext}
use Rattle.std.proofs.lemmas.List.Elements.{All-nil, All-cons, All-append}
use Rattle.std.specs.declared.option.Option.{Option}
use Rattle.std.specs.declared.result.Result.{Result}
use Rattle.std.specs.Option.{option_map}
use Rattle.session_rules.specs.declared.Event.{Event}
use Rattle.session_rules.specs.declared.Event.TheVariants as events
use Rattle.session_rules.specs.declared.Letter.{Letter}
use Rattle.session_rules.specs.declared.Letter.TheVariants as letters
use Rattle.session_rules.specs.declared.Rule.{Rule}
use Rattle.session_rules.specs.declared.Rule.TheVariants as rules
use Rattle.session_rules.specs.declared.LineFault.{LineFault}
use Rattle.session_rules.specs.declared.LineFault.TheVariants as faults
use Rattle.session_rules.specs.History.{event_literals, first_missing, broken_at}
use Rattle.session_rules.specs.Lines.{Line, is_nil, judged_words}
use Rattle.session_rules.specs.Pair.{pair_faults, partner_count, owes_partner, line_letter, first_letter, is_cut_early, same_letter, run_length}
use Rattle.session_rules.specs.Reading.{icnf_line, event_at}
use Rattle.slice_tokens.specs.Place.{Place, WhereTold, later}
use Rattle.slice_tokens.proofs.Places.{passed_trans}
use Rattle.line_reading.specs.Parts.{Stays}
use Rattle.line_reading.specs.Whole.{Says, Entered, Enters, Sees, ReadsBody, LineAnswers, literals_body}
use Rattle.line_reading.specs.Readers.{Reader, to_come, BodyRead, LetterRead, LetterPeeked}
use Rattle.line_reading.proofs.Joined.{told_then, told_map, told_at_start, moves_trans, rose_later}
use Rattle.line_reading.proofs.ByLetter.{literals_as, line_says, line_fails, line_unentered}
use Rattle.line_reading.proofs.WholeBodies.{mapped_ok, mapped_err}
use Rattle.icnf_lines.specs.declared.marks.Mark.{Mark}
use Rattle.icnf_lines.specs.declared.matching.Match.{Match}
use Rattle.icnf_lines.specs.declared.matching.Match.TheVariants.{Agrees, Ended, Differs}
use Rattle.icnf_lines.specs.declared.matching.MatchFault.{MatchFault}
use Rattle.icnf_lines.specs.declared.matching.MatchFault.TheVariants.{Read}
use Rattle.icnf_lines.specs.Marks.{mark_of}
use Rattle.icnf_lines.specs.Partners.{LiteralsFound, match_fault}
use Rattle.icnf_lines.specs.declared.meeting.Found.{Found}
use Rattle.icnf_lines.specs.NextLine.{NextMatches, NextMatched}
use Rattle.icnf_lines.specs.Matching.{IsGood, Matches, Matched, LineMatched}
use Rattle.icnf_lines.specs.Parts.{part_letter, whole_letter, part_rule, AreHeld, BeginWith, PartAgrees, PartMatches, PartMatched, AnyLines}
use Rattle.icnf_lines.proofs.EventLines.{icnf_line_is}
use Rattle.icnf_lines.proofs.Partnering.{none_broken, Passes, passes_none, passes_seen, behind, line_differs, line_breaks, behind_cut, stops, next_matches, none_matched, other_matched, unseen_matched}

-- ---- Letters

-- a line that the bound cuts early begins with no letter
early_letter : (line : Line) → is_cut_early line ≡ true → line_letter line ≡ letters.NoLetter
early_letter line e = by_words (judged_words line) refl (ap (λ b. b) e)
  where
    by_cut : (c : Bool) → (c && false) ≡ true → ⊥
    by_cut true h = cc h
    by_cut false h = cc h

    by_words : (ws : List (List ℕ)) → judged_words line ≡ ws → (line.cut && is_nil (judged_words line)) ≡ true → line_letter line ≡ letters.NoLetter
    by_words [] f h = ap first_letter f
    by_words (w ∷ ws) f h = absurd (by_cut line.cut (sym (ap (λ vs. line.cut && is_nil vs) f) ∙ h))

part_same : (e : Event) → same_letter (part_letter e) (part_letter e) ≡ true
part_same (events.Core u) = refl
part_same (events.Input u) = refl
part_same (events.Query u) = refl
part_same (events.Status u) = refl
part_same (events.Model u) = refl
part_same (events.Values u) = refl
part_same (events.Failed u) = refl

-- a letter is the one of the parts only where it is the same
part_is : (e : Event) (l : Letter) → same_letter l (part_letter e) ≡ true → l ≡ part_letter e
part_is (events.Core u) letters.Failed h = refl
part_is (events.Core u) _ h = cc h
part_is (events.Input u) letters.Values h = refl
part_is (events.Input u) _ h = cc h
part_is (events.Query u) letters.Values h = refl
part_is (events.Query u) _ h = cc h
part_is (events.Status u) letters.Values h = refl
part_is (events.Status u) _ h = cc h
part_is (events.Model u) letters.Values h = refl
part_is (events.Model u) _ h = cc h
part_is (events.Values u) letters.Values h = refl
part_is (events.Values u) _ h = cc h
part_is (events.Failed u) letters.Values h = refl
part_is (events.Failed u) _ h = cc h

none_same : (part : Letter) → same_letter letters.NoLetter part ≡ false
none_same letters.Model = refl
none_same letters.Core = refl
none_same letters.Values = refl
none_same letters.Failed = refl
none_same _ = refl

-- ---- How many lines a run has

run_is : (part : Letter) (line : Line) (more : List Line) → run_length part (line ∷ more) ≡ (if same_letter (line_letter line) part then suc (run_length part more) else (if is_cut_early line then 1 else 0))
unfolding run_length
run_is part line more = refl

run_none : (part : Letter) → run_length part [] ≡ 0
unfolding run_length
run_none part = refl

pub run_goes_on : (part : Letter) (line : Line) (more : List Line) → same_letter (line_letter line) part ≡ true → run_length part (line ∷ more) ≡ suc (run_length part more)
run_goes_on part line more e = run_is part line more ∙ ap (λ b. if b then suc (run_length part more) else (if is_cut_early line then 1 else 0)) e

pub run_ends : (part : Letter) (line : Line) (more : List Line) → same_letter (line_letter line) part ≡ false → is_cut_early line ≡ false → run_length part (line ∷ more) ≡ 0
run_ends part line more e f = run_is part line more ∙ ap (λ b. if b then suc (run_length part more) else (if is_cut_early line then 1 else 0)) e ∙ ap (λ b. if b then 1 else 0) f

pub run_cut : (part : Letter) (line : Line) (more : List Line) → is_cut_early line ≡ true → run_length part (line ∷ more) ≡ 1
run_cut part line more e = run_is part line more
    ∙ ap (λ b. if b then suc (run_length part more) else (if is_cut_early line then 1 else 0)) (ap (λ l. same_letter l part) (early_letter line e) ∙ none_same part) ∙ ap (λ b. if b then 1 else 0) e

-- a run behind lines that are of it
abbrev pub AreOf : Letter → List Line → Type 0
AreOf part [] = Unit {0}
AreOf part (line ∷ more) = (same_letter (line_letter line) part ≡ true) × AreOf part more

run_behind : (part : Letter) (good rest : List Line) → AreOf part good → run_length part (good ++ rest) ≡ length good + run_length part rest
run_behind part [] rest h = omega arith
run_behind part (line ∷ more) rest h = run_goes_on part line (more ++ rest) h.0 ∙ ap (λ n. suc n) (run_behind part more rest h.1) ∙ omega arith

of_push : (part : Letter) (good : List Line) (line : Line) → AreOf part good → same_letter (line_letter line) part ≡ true → AreOf part (good ++ line ∷ [])
of_push part [] line h e = (e, tt)
of_push part (x ∷ xs) line h e = (h.0, of_push part xs line h.1 e)

-- ---- What a line of the run breaks

-- the event that a line with such literals says
abbrev part_event : Event → List ℕ → Event
part_event (events.Core u) ls = events.Failed ls
part_event _ ls = events.Values ls

model_first : (o : Option ℕ) → slice_get (broken_at rules.ModelPart o) 0 ≡ option_map rules.ModelPart o
model_first None = refl
model_first (Some l) = refl

failed_first : (o : Option ℕ) → slice_get (broken_at rules.FailedPart o) 0 ≡ option_map rules.FailedPart o
failed_first None = refl
failed_first (Some l) = refl

part_breaks : (e : Event) (qs ls : List ℕ) → owes_partner e ≡ false → slice_get (pair_faults qs e (part_event e ls)) 0 ≡ part_rule e (first_missing ls (event_literals e))
unfolding pair_faults
part_breaks (events.Core u) qs ls free = failed_first (first_missing ls u)
part_breaks (events.Model m) qs ls free = model_first (first_missing ls m)
part_breaks (events.Input c) qs ls free = cc free
part_breaks (events.Query c) qs ls free = cc free
part_breaks (events.Status c) qs ls free = cc free
part_breaks (events.Values c) qs ls free = cc free
part_breaks (events.Failed c) qs ls free = cc free

part_body : (e : Event) (ls : List ℕ) (p q : Place) (t u : List ℕ) → ReadsBody literals_body (Ok ls) p t q u → ReadsBody (event_at (part_letter e)) (Ok (part_event e ls)) p t q u
part_body (events.Core c) ls p q t u h = mapped_ok events.Failed literals_body (event_at letters.Failed) (λ ws. literals_as events.Failed ws) ls p q t u h
part_body (events.Model c) ls p q t u h = mapped_ok events.Values literals_body (event_at letters.Values) (λ ws. literals_as events.Values ws) ls p q t u h
part_body (events.Input c) ls p q t u h = mapped_ok events.Values literals_body (event_at letters.Values) (λ ws. literals_as events.Values ws) ls p q t u h
part_body (events.Query c) ls p q t u h = mapped_ok events.Values literals_body (event_at letters.Values) (λ ws. literals_as events.Values ws) ls p q t u h
part_body (events.Status c) ls p q t u h = mapped_ok events.Values literals_body (event_at letters.Values) (λ ws. literals_as events.Values ws) ls p q t u h
part_body (events.Values c) ls p q t u h = mapped_ok events.Values literals_body (event_at letters.Values) (λ ws. literals_as events.Values ws) ls p q t u h
part_body (events.Failed c) ls p q t u h = mapped_ok events.Values literals_body (event_at letters.Values) (λ ws. literals_as events.Values ws) ls p q t u h

part_fails : (e : Event) (fault : LineFault) (p q : Place) (t u : List ℕ) → ReadsBody literals_body (Err fault) p t q u → ReadsBody (event_at (part_letter e)) (Err fault) p t q u
part_fails (events.Core c) fault p q t u h = mapped_err events.Failed literals_body (event_at letters.Failed) (λ ws. literals_as events.Failed ws) fault p q t u h
part_fails (events.Model c) fault p q t u h = mapped_err events.Values literals_body (event_at letters.Values) (λ ws. literals_as events.Values ws) fault p q t u h
part_fails (events.Input c) fault p q t u h = mapped_err events.Values literals_body (event_at letters.Values) (λ ws. literals_as events.Values ws) fault p q t u h
part_fails (events.Query c) fault p q t u h = mapped_err events.Values literals_body (event_at letters.Values) (λ ws. literals_as events.Values ws) fault p q t u h
part_fails (events.Status c) fault p q t u h = mapped_err events.Values literals_body (event_at letters.Values) (λ ws. literals_as events.Values ws) fault p q t u h
part_fails (events.Values c) fault p q t u h = mapped_err events.Values literals_body (event_at letters.Values) (λ ws. literals_as events.Values ws) fault p q t u h
part_fails (events.Failed c) fault p q t u h = mapped_err events.Values literals_body (event_at letters.Values) (λ ws. literals_as events.Values ws) fault p q t u h

-- ---- A line that begins with the letter of the parts

-- the letter that was read is the one that the line begins with
entered_part : (part letter : Letter) (o p : Place) (t u : List ℕ) → BeginWith part (later o t) → Entered letter o t p u → Entered part o t p u
entered_part part letter o p t u given k = subst (λ l. Entered l o t p u) is k
  where
    begins : line_letter k.line ≡ part
    begins = subst (λ ls. BeginWith part ls) k.lines given

    is : letter ≡ part
    is = sym k.is_letter ∙ sym (ap first_letter k.judged) ∙ begins

module _ (e : Event) (qs : List ℕ) (free : owes_partner e ≡ false) (o p q : Place) (t u v : List ℕ) (stays : Stays p q) (given : BeginWith (part_letter e) (later o t)) where
  some_part : (line : Line) (more : List Line) → later o t ≡ line ∷ more → 0 < run_length (part_letter e) (later o t)
  some_part line more f = let begins : line_letter line ≡ part_letter e = subst (λ ls. BeginWith (part_letter e) ls) f given in
      let is = ap (run_length (part_letter e)) f ∙ run_goes_on (part_letter e) line more (ap (λ l. same_letter l (part_letter e)) begins ∙ part_same e) in omega (arith, is)

  part_said : (letter : Letter) (ls : List ℕ) → Entered letter o t p u → ReadsBody literals_body (Ok ls) p u q v → Says icnf_line (part_event e ls) o t q v
  part_said letter ls k h = subst (λ f. Says f (part_event e ls) o t q v) (fun_ext icnf_line_is)
      (line_says event_at (λ ws. refl) (part_letter e) (part_event e ls) o p q t u v stays (entered_part (part_letter e) letter o p t u given k) (part_body e ls p q u v h))

  part_agrees : (letter : Letter) (ls : List ℕ) → part_rule e (first_missing ls (event_literals e)) ≡ None → Entered letter o t p u → ReadsBody literals_body (Ok ls) p u q v → PartAgrees e qs o t q v
  part_agrees letter ls none k h = let s = part_said letter ls k h in record {
    line = s.line;
    lines = s.lines;
    good = record { partner = part_event e ls; value = s.value; kept = none_broken (pair_faults qs e (part_event e ls)) (part_breaks e qs ls free ∙ none) };
    part = ap (λ l. same_letter l (part_letter e)) (subst (λ ms. BeginWith (part_letter e) ms) s.lines given) ∙ part_same e;
    cut = s.cut;
    last = s.last;
    passed = s.passed;
  }

  part_differs : (letter : Letter) (ls : List ℕ) (r : Rule) → part_rule e (first_missing ls (event_literals e)) ≡ Some r → Entered letter o t p u → ReadsBody literals_body (Ok ls) p u q v
      → PartMatches e qs o t q v (Ok (Differs r))
  part_differs letter ls r rule k h = line_differs e qs o q t v (run_length (part_letter e) (later o t)) some_part (part_event e ls) r (part_said letter ls k h) (part_breaks e qs ls free ∙ rule)

-- a fault of a line that begins with the letter of the parts
module _ (e : Event) (qs : List ℕ) (o q : Place) (t v : List ℕ) (given : BeginWith (part_letter e) (later o t)) where
  first_part : (line : Line) (more : List Line) → later o t ≡ line ∷ more → 0 < run_length (part_letter e) (later o t)
  first_part line more f = let begins : line_letter line ≡ part_letter e = subst (λ ls. BeginWith (part_letter e) ls) f given in
      let is = ap (run_length (part_letter e)) f ∙ run_goes_on (part_letter e) line more (ap (λ l. same_letter l (part_letter e)) begins ∙ part_same e) in omega (arith, is)

  part_at_fault : (fault : LineFault) → (fault ≡ faults.Memory → ⊥) → LineAnswers icnf_line o t q v (Err fault) → PartMatches e qs o t q v (Err (match_fault fault))
  part_at_fault (faults.Syntax r) some (inl k) = inl (line_breaks e qs o q t v (run_length (part_letter e) (later o t)) first_part r k)
  part_at_fault (faults.Syntax r) some (inr k) = inr (behind_cut e qs r o q t v k)
  part_at_fault faults.Read some k = stops e qs o q t v k
  part_at_fault faults.Memory some k = absurd (some refl)

  part_unentered : (fault : LineFault) → (fault ≡ faults.Memory → ⊥) → Enters o t q v (Err fault) → PartMatches e qs o t q v (Err (match_fault fault))
  part_unentered fault some k = part_at_fault fault some (subst (λ f. LineAnswers f o t q v (Err fault)) (fun_ext icnf_line_is) (line_unentered event_at (λ ws. refl) fault o q t v k))

part_broken : (e : Event) (qs : List ℕ) (o p q : Place) (t u v : List ℕ) → Stays p q → BeginWith (part_letter e) (later o t) → (letter : Letter) (fault : LineFault) → (fault ≡ faults.Memory → ⊥)
    → Entered letter o t p u → ReadsBody literals_body (Err fault) p u q v → PartMatches e qs o t q v (Err (match_fault fault))
part_broken e qs o p q t u v stays given letter fault some k h = part_at_fault e qs o q t v given fault some (subst (λ f. LineAnswers f o t q v (Err fault)) (fun_ext icnf_line_is)
    (line_fails event_at (λ ws. refl) (part_letter e) fault o p q t u v stays.line (entered_part (part_letter e) letter o p t u given k) (part_fails e fault p q u v h)))

-- ---- Over a source

failed_line : {A : Type 0} (fault : LineFault) → (fault ≡ faults.Memory → ⊥) → (let a : Result Match MatchFault = Err (match_fault fault) in a) ≡ Err Read → (let b : Result A LineFault = Err fault in b) ≡ Err faults.Read
failed_line (faults.Syntax r) some f = cc f
failed_line faults.Read some f = refl
failed_line faults.Memory some f = absurd (some refl)

-- the first stranger among the marks is the first literal that the event lacks
stranger_is : (vars : List ℕ) (table : List Mark) (c ls : List ℕ) → AreHeld vars table c → find (λ l. not (mark_of vars table l).held) ls ≡ first_missing ls c
stranger_is vars table c ls held = ap (λ p. find p ls) (fun_ext (λ l. ap (λ b. not b) (held.each l)))

module _ (e : Event) (qs : List ℕ) (o m n : Reader) (letter : Letter) (entered : LetterRead o m (Ok (Some letter))) where
  module _ (free : owes_partner e ≡ false) (vars : List ℕ) (table now : List Mark) (held : AreHeld vars table (event_literals e)) (found : Found) (literals : LiteralsFound vars table now found m n) where
    rule_found : part_rule e found.stranger ≡ part_rule e (first_missing literals.literals (event_literals e))
    rule_found = ap (part_rule e) (literals.stranger ∙ stranger_is vars table (event_literals e) literals.literals held)

    pub next_agrees : part_rule e found.stranger ≡ None → PartMatched (BeginWith (part_letter e)) e qs o n (Ok Agrees)
    next_agrees none = record {
      moves = moves_trans _ _ _ entered.moves literals.read.stays.moves;
      told = told_then _ _ _ _ _ (λ t v. BeginWith (part_letter e) (later o.place t) → PartMatches e qs o.place t n.place v (Ok Agrees)) entered.told literals.read.told
          (λ t u v k h. λ given. part_agrees e qs free o.place m.place n.place t u v literals.read.stays given letter literals.literals (sym rule_found ∙ none) k h);
      count = let a = entered.count in let b = literals.read.count in omega (arith, a, b);
      read = λ f. cc f;
    }

    pub next_differs : (r : Rule) → part_rule e found.stranger ≡ Some r → PartMatched (BeginWith (part_letter e)) e qs o n (Ok (Differs r))
    next_differs r rule = record {
      moves = moves_trans _ _ _ entered.moves literals.read.stays.moves;
      told = told_then _ _ _ _ _ (λ t v. BeginWith (part_letter e) (later o.place t) → PartMatches e qs o.place t n.place v (Ok (Differs r))) entered.told literals.read.told
          (λ t u v k h. λ given. part_differs e qs free o.place m.place n.place t u v literals.read.stays given letter literals.literals r (sym rule_found ∙ rule) k h);
      count = let a = entered.count in let b = literals.read.count in omega (arith, a, b);
      read = λ f. cc f;
    }

  pub next_broken : (fault : LineFault) → (fault ≡ faults.Memory → ⊥) → BodyRead literals_body m n (Err fault) → PartMatched (BeginWith (part_letter e)) e qs o n (Err (match_fault fault))
  next_broken fault some h = record {
    moves = moves_trans _ _ _ entered.moves h.stays.moves;
    told = told_then _ _ _ _ _ (λ t v. BeginWith (part_letter e) (later o.place t) → PartMatches e qs o.place t n.place v (Err (match_fault fault))) entered.told h.told
        (λ t u v k b. λ given. part_broken e qs o.place m.place n.place t u v h.stays given letter fault some k b);
    count = let a = entered.count in let b = h.count in omega (arith, a, b);
    read = λ f. rose_later _ _ _ entered.count (h.read (failed_line fault some f));
  }

pub next_unentered : (e : Event) (qs : List ℕ) (o n : Reader) (fault : LineFault) → (fault ≡ faults.Memory → ⊥) → LetterRead o n (Err fault) → PartMatched (BeginWith (part_letter e)) e qs o n (Err (match_fault fault))
next_unentered e qs o n fault some h = record {
  moves = h.moves;
  told = told_map _ _ _ (λ t v. BeginWith (part_letter e) (later o.place t) → PartMatches e qs o.place t n.place v (Err (match_fault fault))) h.told (λ t v k. λ given. part_unentered e qs o.place n.place t v given fault some k);
  count = h.count;
  read = λ f. h.read (failed_line fault some f);
}

-- ---- Behind the letter that was seen

module _ (e : Event) (qs : List ℕ) (free : owes_partner e ≡ false) where
  seen_count : (letter : Letter) (o p : Place) (t u : List ℕ) → Sees letter o t p u → run_length (part_letter e) (later o t) ≡ 0 + run_length (part_letter e) (later p u)
  seen_count letter o p t u s = let is = ap (run_length (part_letter e)) s.due in omega (arith, is)

  part_behind : (letter : Letter) (o p q : Place) (t u v : List ℕ) (r : Result Match MatchFault) → Sees letter o t p u → PartMatches e qs p u q v r → PartMatches e qs o t q v r
  part_behind letter o p q t u v (Ok Agrees) s k = record {
    line = k.line;
    lines = sym s.due ∙ k.lines;
    good = k.good;
    part = k.part;
    cut = k.cut ∙ s.cut;
    last = k.last ∙ s.last;
    passed = passed_trans o p q t u v s.passed k.passed;
  }
  part_behind letter o p q t u v (Ok Ended) s k = behind e qs o p q t u v (passes_seen e qs letter o p t u s) _ _ (Ok Agrees) free (seen_count letter o p t u s) k
  part_behind letter o p q t u v (Ok (Differs r)) s k = behind e qs o p q t u v (passes_seen e qs letter o p t u s) _ _ (Ok (Differs r)) free (seen_count letter o p t u s) k
  part_behind letter o p q t u v (Err fault) s k = behind e qs o p q t u v (passes_seen e qs letter o p t u s) _ _ (Err fault) free (seen_count letter o p t u s) k

  seen_begins : (letter : Letter) (o p : Place) (t u : List ℕ) → same_letter letter (part_letter e) ≡ true → Sees letter o t p u → BeginWith (part_letter e) (later p u)
  seen_begins letter o p t u same s = subst (λ ls. BeginWith (part_letter e) ls) (sym (s.due ∙ s.lines)) (s.is_letter ∙ part_is e letter same)

  pub seen_part : (letter : Letter) (o m n : Reader) (r : Result Match MatchFault) → same_letter letter (part_letter e) ≡ true → LetterPeeked o m (Ok (Some letter)) → PartMatched (BeginWith (part_letter e)) e qs m n r
      → PartMatched AnyLines e qs o n r
  seen_part letter o m n r same h k = record {
    moves = moves_trans _ _ _ h.moves k.moves;
    told = told_then _ _ _ _ _ (λ t v. AnyLines (later o.place t) → PartMatches e qs o.place t n.place v r) h.told k.told
        (λ t u v s j. λ any. part_behind letter o.place m.place n.place t u v r s (j (seen_begins letter o.place m.place t u same s)));
    count = let a = h.count in let b = k.count in omega (arith, a, b);
    read = λ f. rose_later _ _ _ h.count (k.read f);
  }

  ended_as : (o n : Reader) → Matched (run_length (part_letter e)) e qs o n (Ok Agrees) → PartMatched AnyLines e qs o n (Ok Ended)
  ended_as o n h = record { moves = h.moves; told = told_map _ _ _ (λ t v. AnyLines (later o.place t) → PartMatches e qs o.place t n.place v (Ok Ended)) h.told (λ t v k. λ any. k); count = h.count; read = λ f. cc f }

  pub seen_none : (o n : Reader) → LetterPeeked o n (Ok None) → PartMatched AnyLines e qs o n (Ok Ended)
  seen_none o n h = ended_as o n (none_matched e qs (run_length (part_letter e)) free o n (run_none (part_letter e)) h)

  pub seen_other : (letter : Letter) (o n : Reader) → same_letter letter (part_letter e) ≡ false → LetterPeeked o n (Ok (Some letter)) → PartMatched AnyLines e qs o n (Ok Ended)
  seen_other letter o n other h = ended_as o n (other_matched e qs (run_length (part_letter e)) free o n letter
      (λ line more is judged. run_ends (part_letter e) line more (ap (λ l. same_letter l (part_letter e)) is ∙ other) judged) h)

  pub seen_fault : (o n : Reader) (fault : LineFault) → (fault ≡ faults.Memory → ⊥) → LetterPeeked o n (Err fault) → PartMatched AnyLines e qs o n (Err (match_fault fault))
  seen_fault o n fault some h =
      let k = unseen_matched e qs (run_length (part_letter e)) free o n fault some (λ line more early. run_cut (part_letter e) line more early) h in record {
        moves = k.moves;
        told = told_map _ _ _ (λ t v. AnyLines (later o.place t) → PartMatches e qs o.place t n.place v (Err (match_fault fault))) k.told (λ t v j. λ any. j);
        count = k.count;
        read = k.read;
      }

-- ---- The lines of a run so far

module _ (e : Event) (qs : List ℕ) where
  -- lines of the run were passed over, all of them good
  pub record PassesParts (old : Place) (bytes : List ℕ) (new : Place) (rest : List ℕ) : Type 0 where
    pub passes : Passes e qs old bytes new rest
    pub are_of : AreOf (part_letter e) passes.good

  pub record Ran (old new : Reader) : Type 0 where
    pub passed : old.place.passed ≤ new.place.passed
    pub ended : old.place.ended ≡ true → new.place.ended ≡ true
    pub told : WhereTold (to_come old) (to_come new) (λ t u. PassesParts old.place t new.place u)
    pub count : old.faults ≤ new.faults

  pub ran_none : (o : Reader) → Ran o o
  ran_none o = record {
    passed = omega arith;
    ended = λ f. f;
    told = told_at_start (to_come o) (λ t u. PassesParts o.place t o.place u) (λ t. record { passes = passes_none e qs o.place t; are_of = tt });
    count = omega arith;
  }

  -- a line more
  passes_more : (o p q : Place) (t u v : List ℕ) → PassesParts o t p u → PartAgrees e qs p u q v → PassesParts o t q v
  passes_more o p q t u v h k = let g = h.passes in record {
    passes = record {
      good = g.good ++ k.line ∷ [];
      lines = g.lines ∙ ap (λ ls. g.good ++ ls) k.lines ∙ sym (append_assoc g.good (k.line ∷ []) (later q v));
      are_good = All-append (IsGood e qs) g.good (k.line ∷ []) g.are_good (All-cons (IsGood e qs) k.line [] k.good (All-nil (IsGood e qs)));
      cut = k.cut ∙ g.cut;
      last = k.last ∙ g.last;
      passed = passed_trans o p q t u v g.passed k.passed;
    };
    are_of = of_push (part_letter e) g.good k.line h.are_of k.part;
  }

  pub ran_more : (o m n : Reader) → Ran o m → PartMatched AnyLines e qs m n (Ok Agrees) → Ran o n
  ran_more o m n h k = record {
    passed = let a = h.passed in let b = k.moves.passed in omega (arith, a, b);
    ended = λ f. k.moves.ended (h.ended f);
    told = told_then _ _ _ _ _ (λ t v. PassesParts o.place t n.place v) h.told k.told (λ t u v a b. passes_more o.place m.place n.place t u v a (b tt));
    count = let a = h.count in let b = k.count in omega (arith, a, b);
  }

  -- how long the run is by what is left of it
  ran_count : (o p : Place) (t u : List ℕ) (h : PassesParts o t p u) → run_length (part_letter e) (later o t) ≡ length h.passes.good + run_length (part_letter e) (later p u)
  ran_count o p t u h = ap (run_length (part_letter e)) h.passes.lines ∙ run_behind (part_letter e) h.passes.good (later p u) h.are_of

  module _ (free : owes_partner e ≡ false) (o m n : Reader) (h : Ran o m) where
    ran_by : (r s : Result Match MatchFault) → ((u v : List ℕ) → PartMatches e qs m.place u n.place v r → Matches e qs (run_length (part_letter e) (later m.place u)) m.place u n.place v s)
        → (s ≡ Err Read → r ≡ Err Read) → PartMatched AnyLines e qs m n r → Matched (run_length (part_letter e)) e qs o n s
    ran_by r s turn read k = record {
      moves = record {
        passed = let a = h.passed in let b = k.moves.passed in omega (arith, a, b);
        bounded = k.moves.bounded;
        counted = k.moves.counted;
        ended = λ f. k.moves.ended (h.ended f);
      };
      told = told_then _ _ _ _ _ (λ t v. Matches e qs (run_length (part_letter e) (later o.place t)) o.place t n.place v s) h.told k.told
          (λ t u v a b. behind e qs o.place m.place n.place t u v a.passes _ _ s free (ran_count o.place m.place t u a) (turn u v (b tt)));
      count = let a = h.count in let b = k.count in omega (arith, a, b);
      read = λ f. rose_later _ _ _ h.count (k.read (read f));
    }

    pub ran_ends : PartMatched AnyLines e qs m n (Ok Ended) → Matched (run_length (part_letter e)) e qs o n (Ok Agrees)
    ran_ends k = ran_by (Ok Ended) (Ok Agrees) (λ u v j. j) (λ f. cc f) k

    pub ran_differs : (r : Rule) → PartMatched AnyLines e qs m n (Ok (Differs r)) → Matched (run_length (part_letter e)) e qs o n (Ok (Differs r))
    ran_differs r k = ran_by (Ok (Differs r)) (Ok (Differs r)) (λ u v j. j) (λ f. cc f) k

    pub ran_fails : (fault : MatchFault) → PartMatched AnyLines e qs m n (Err fault) → Matched (run_length (part_letter e)) e qs o n (Err fault)
    ran_fails fault k = ran_by (Err fault) (Err fault) (λ u v j. j) (λ f. f) k

-- ---- How many partners an event has

one_partner : (e : Event) (line : Line) (more : List Line) → owes_partner e ≡ true → partner_count e (line ∷ more) ≡ 1
one_partner (events.Input c) line more owes = refl
one_partner (events.Query c) line more owes = refl
one_partner (events.Status c) line more owes = refl
one_partner (events.Values c) line more owes = refl
one_partner (events.Failed c) line more owes = refl
one_partner (events.Model c) line more owes = cc owes
one_partner (events.Core c) line more owes = cc owes

no_partner : (e : Event) → owes_partner e ≡ false → partner_count e [] ≡ 0
no_partner (events.Input c) free = cc free
no_partner (events.Query c) free = cc free
no_partner (events.Status c) free = cc free
no_partner (events.Values c) free = cc free
no_partner (events.Failed c) free = cc free
no_partner (events.Model c) free = refl
no_partner (events.Core c) free = refl

-- by whether the first line that is left tells all of the event
told_partners : (e : Event) (line : Line) (more : List Line) → owes_partner e ≡ false
    → partner_count e (line ∷ more) ≡ (if same_letter (line_letter line) (whole_letter e) then 1 else run_length (part_letter e) (line ∷ more))
told_partners (events.Input c) line more free = cc free
told_partners (events.Query c) line more free = cc free
told_partners (events.Status c) line more free = cc free
told_partners (events.Values c) line more free = cc free
told_partners (events.Failed c) line more free = cc free
told_partners (events.Model c) line more free = refl
told_partners (events.Core c) line more free = refl

module _ (e : Event) (qs : List ℕ) (free : owes_partner e ≡ false) where
  whole_partner : (line : Line) (more : List Line) → same_letter (line_letter line) (whole_letter e) ≡ true → partner_count e (line ∷ more) ≡ 1
  whole_partner line more is = told_partners e line more free ∙ ap (λ b. if b then 1 else run_length (part_letter e) (line ∷ more)) is

  part_partners : (line : Line) (more : List Line) → same_letter (line_letter line) (whole_letter e) ≡ false → partner_count e (line ∷ more) ≡ run_length (part_letter e) (line ∷ more)
  part_partners line more is = told_partners e line more free ∙ ap (λ b. if b then 1 else run_length (part_letter e) (line ∷ more)) is

  early_partner : (line : Line) (more : List Line) → is_cut_early line ≡ true → partner_count e (line ∷ more) ≡ 1
  early_partner line more early = part_partners line more (ap (λ l. same_letter l (whole_letter e)) (early_letter line early) ∙ none_same (whole_letter e)) ∙ run_cut (part_letter e) line more early

  other_partners : (letter : Letter) → same_letter letter (whole_letter e) ≡ false → same_letter letter (part_letter e) ≡ false
      → (line : Line) (more : List Line) → line_letter line ≡ letter → is_cut_early line ≡ false → partner_count e (line ∷ more) ≡ 0
  other_partners letter whole part line more is judged = part_partners line more (ap (λ l. same_letter l (whole_letter e)) is ∙ whole)
      ∙ run_ends (part_letter e) line more (ap (λ l. same_letter l (part_letter e)) is ∙ part) judged

  -- ---- A model or a core, by the letter that was seen

  pub told_none : (o n : Reader) → LetterPeeked o n (Ok None) → LineMatched e qs o n (Ok Agrees)
  told_none o n h = none_matched e qs (partner_count e) free o n (no_partner e free) h

  pub told_other : (letter : Letter) (o n : Reader) → same_letter letter (whole_letter e) ≡ false → same_letter letter (part_letter e) ≡ false → LetterPeeked o n (Ok (Some letter)) → LineMatched e qs o n (Ok Agrees)
  told_other letter o n whole part h = other_matched e qs (partner_count e) free o n letter (other_partners letter whole part) h

  pub told_fault : (o n : Reader) (fault : LineFault) → (fault ≡ faults.Memory → ⊥) → LetterPeeked o n (Err fault) → LineMatched e qs o n (Err (match_fault fault))
  told_fault o n fault some h = unseen_matched e qs (partner_count e) free o n fault some early_partner h

  -- the line that comes next tells all of the event
  whole_matches : (letter : Letter) (o p q : Place) (t u v : List ℕ) (r : Result Match MatchFault) → same_letter letter (whole_letter e) ≡ true → Sees letter o t p u → NextMatches e qs p u q v r
      → Matches e qs (partner_count e (later o t)) o t q v r
  whole_matches letter o p q t u v r is s k = behind e qs o p q t u v (passes_seen e qs letter o p t u s) (partner_count e (later o t)) 1 r free
      (ap (partner_count e) s.lines ∙ whole_partner s.line s.more (ap (λ l. same_letter l (whole_letter e)) s.is_letter ∙ is))
      (next_matches e qs p q u v 1 r (λ line more f. refl) (λ none. let f : [] ≡ s.line ∷ s.more = sym none ∙ s.due ∙ s.lines in cc f) k)

  pub told_whole : (letter : Letter) (o m n : Reader) (r : Result Match MatchFault) → same_letter letter (whole_letter e) ≡ true → LetterPeeked o m (Ok (Some letter)) → NextMatched e qs m n r → LineMatched e qs o n r
  told_whole letter o m n r is h k = record {
    moves = moves_trans _ _ _ h.moves k.moves;
    told = told_then _ _ _ _ _ (λ t v. Matches e qs (partner_count e (later o.place t)) o.place t n.place v r) h.told k.told
        (λ t u v s j. whole_matches letter o.place m.place n.place t u v r is s j);
    count = let a = h.count in let b = k.count in omega (arith, a, b);
    read = λ f. rose_later _ _ _ h.count (k.read f);
  }

  -- lines that tell parts of the event come next
  run_matches : (letter : Letter) (o p q : Place) (t u v : List ℕ) (r : Result Match MatchFault) → same_letter letter (whole_letter e) ≡ false → Sees letter o t p u
      → Matches e qs (run_length (part_letter e) (later p u)) p u q v r → Matches e qs (partner_count e (later o t)) o t q v r
  run_matches letter o p q t u v r is s k = behind e qs o p q t u v (passes_seen e qs letter o p t u s) (partner_count e (later o t)) (run_length (part_letter e) (later p u)) r free
      (let f = ap (partner_count e) s.lines ∙ part_partners s.line s.more (ap (λ l. same_letter l (whole_letter e)) s.is_letter ∙ is) ∙ sym (ap (run_length (part_letter e)) (s.due ∙ s.lines)) in omega (arith, f)) k

  pub told_run : (letter : Letter) (o m n : Reader) (r : Result Match MatchFault) → same_letter letter (whole_letter e) ≡ false → LetterPeeked o m (Ok (Some letter))
      → Matched (run_length (part_letter e)) e qs m n r → LineMatched e qs o n r
  told_run letter o m n r is h k = record {
    moves = moves_trans _ _ _ h.moves k.moves;
    told = told_then _ _ _ _ _ (λ t v. Matches e qs (partner_count e (later o.place t)) o.place t n.place v r) h.told k.told
        (λ t u v s j. run_matches letter o.place m.place n.place t u v r is s j);
    count = let a = h.count in let b = k.count in omega (arith, a, b);
    read = λ f. rose_later _ _ _ h.count (k.read f);
  }

-- the next line is the one partner of an event that owes one
pub owed_matched : (e : Event) (qs : List ℕ) (o n : Reader) (r : Result Match MatchFault) → owes_partner e ≡ true → NextMatched e qs o n r → LineMatched e qs o n r
owed_matched e qs o n r owes h = record {
  moves = h.moves;
  told = told_map _ _ _ (λ t v. Matches e qs (partner_count e (later o.place t)) o.place t n.place v r) h.told
      (λ t v k. next_matches e qs o.place n.place t v (partner_count e (later o.place t)) r (λ line more f. ap (partner_count e) f ∙ one_partner e line more owes) (λ none. owes) k);
  count = h.count;
  read = h.read;
}

-- what is left to the bound falls as the window goes on
pub less_left : (a b : ℕ) → a < b → b ≤ 2 ^ 62 → 2 ^ 62 - b < 2 ^ 62 - a
less_left a b h k = omega (arith, h, k)
