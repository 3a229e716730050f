-- Lines that were held against an event, one after another, and what the next one adds.
use Rattle.std.proofs.Common.{◌≡◌, ℕ, ◌+◌, ◌<◌, Bool, true, false, ◌&&◌, if◌then◌else◌, List, [], ◌∷◌, ◌++◌, length, take, drop, slice_get, Some, None, Ok, Err, refl, sym, ap, ◌∙◌, subst, inl, inr, arith, append_assoc, length-append}
use Rattle.std.proofs.Math.Seq.{take-append-add, drop-append-add}
use Rattle.std.proofs.lemmas.List.Elements.{All-nil, All-cons, All-append}
use Rattle.std.specs.declared.option.Option.{Option}
use Rattle.std.specs.declared.result.Result.{Result}
use Rattle.session_rules.specs.declared.Event.{Event}
use Rattle.session_rules.specs.declared.Letter.{Letter}
use Rattle.session_rules.specs.declared.Rule.{Rule}
use Rattle.session_rules.specs.declared.Rule.TheVariants as rules
use Rattle.session_rules.specs.declared.LineFault.{LineFault}
use Rattle.session_rules.specs.declared.LineFault.TheVariants as faults
use Rattle.session_rules.specs.Lines.{Line, is_nil, judged_words}
use Rattle.session_rules.specs.Pair.{pair_faults, owes_partner, line_letter, is_cut_early}
use Rattle.session_rules.specs.Reading.{icnf_line, value_of, of_cut_line, of_whole_line}
use Rattle.slice_tokens.specs.Place.{Place, later, is_cut, last_line}
use Rattle.slice_tokens.specs.Calls.{Passed, AtEnd}
use Rattle.slice_tokens.proofs.Places.{passed_refl, passed_trans}
use Rattle.line_reading.specs.Whole.{Says, Breaks, BehindCut, StopsInOrBefore, Sees, CutEarly, SeesNext}
use Rattle.line_reading.specs.Readers.{Reader, LetterPeeked}
use Rattle.line_reading.proofs.Joined.{told_map}
use Rattle.icnf_lines.specs.declared.matching.Match.{Match}
use Rattle.icnf_lines.specs.declared.matching.Match.TheVariants.{Agrees, Ended, Differs}
use Rattle.icnf_lines.specs.declared.matching.MatchFault.{MatchFault}
use Rattle.icnf_lines.specs.declared.matching.MatchFault.TheVariants.{Syntax, Read}
use Rattle.icnf_lines.specs.Partners.{match_fault}
use Rattle.icnf_lines.specs.NextLine.{NextMatches}
use Rattle.icnf_lines.specs.Matching.{IsGood, AreGood, AllAgree, StandsBehind, OneDiffers, OneBreaks, CutBehindRun, StopsInRun, Matches, Matched}

-- no rule is broken where none is the first
pub none_broken : (rs : List Rule) → slice_get rs 0 ≡ None → rs ≡ []
none_broken [] e = refl
none_broken (r ∷ rs) e = cc e

-- a line that the bound cuts before a word of it is judged breaks Length
early_breaks : (line : Line) → is_cut_early line ≡ true → value_of icnf_line line ≡ Err rules.Length
unfolding icnf_line
early_breaks line e = by_cut line.cut (judged_words line) refl refl e
  where
    by_cut : (c : Bool) (ws : List (List ℕ)) → line.cut ≡ c → judged_words line ≡ ws → (c && is_nil ws) ≡ true → value_of icnf_line line ≡ Err rules.Length
    by_cut true [] f g e = ap (λ k. if k then of_cut_line (icnf_line (judged_words line)) else of_whole_line (icnf_line line.words)) f ∙ ap (λ ws. of_cut_line (icnf_line ws)) g
    by_cut true (w ∷ ws) f g e = cc e
    by_cut false ws f g e = cc e

module _ (e : Event) (qs : List ℕ) where
  pub no_line : AreGood e qs []
  no_line = All-nil (IsGood e qs)

  -- ---- Lines that were passed over

  -- good lines were passed over, and those behind them come next
  pub record Passes (old : Place) (bytes : List ℕ) (new : Place) (rest : List ℕ) : Type 0 where
    pub good : List Line
    pub lines : later old bytes ≡ good ++ later new rest
    pub are_good : AreGood e qs good
    pub cut : is_cut new rest ≡ is_cut old bytes
    pub last : last_line new rest ≡ last_line old bytes
    pub passed : Passed old bytes new rest

  abbrev pub passes_none : (o : Place) (t : List ℕ) → Passes o t o t
  passes_none o t = record { good = []; lines = refl; are_good = no_line; cut = refl; last = refl; passed = passed_refl o t }

  abbrev pub passes_seen : (letter : Letter) (o p : Place) (t u : List ℕ) → Sees letter o t p u → Passes o t p u
  passes_seen letter o p t u s = record { good = []; lines = sym s.due; are_good = no_line; cut = s.cut; last = s.last; passed = s.passed }

  module _ (o p q : Place) (t u v : List ℕ) (h : Passes o t p u) where
    stands_behind : (n m : ℕ) (good : List Line) (line : Line) (more : List Line) → n ≡ length h.good + m → StandsBehind e qs m good line more p u q v
        → StandsBehind e qs n (h.good ++ good) line more o t q v
    stands_behind n m good line more is k = record {
      lines = h.lines ∙ ap (λ ls. h.good ++ ls) k.lines ∙ sym (append_assoc h.good good (line ∷ more));
      are_good = All-append (IsGood e qs) h.good good h.are_good k.are_good;
      within = omega (arith, is, k.within, length-append h.good good);
      number = k.number;
      last = k.last ∙ h.last;
      passed = passed_trans o p q t u v h.passed k.passed;
    }

    -- behind the lines that were passed over m more were held against the event
    pub behind : (n m : ℕ) (r : Result Match MatchFault) → owes_partner e ≡ false → n ≡ length h.good + m → Matches e qs m p u q v r → Matches e qs n o t q v r
    behind n m (Ok Agrees) free is k = record {
      good = subst (λ ls. AreGood e qs ls) (sym (ap (λ i. take i (later o t)) is ∙ ap (λ ls. take (length h.good + m) ls) h.lines ∙ take-append-add h.good (later p u) m))
          (All-append (IsGood e qs) h.good (take m (later p u)) h.are_good k.good);
      lines = k.lines ∙ sym (ap (λ i. drop i (later o t)) is ∙ ap (λ ls. drop (length h.good + m) ls) h.lines ∙ drop-append-add h.good (later p u) m);
      found = λ owes. let f : false ≡ true = sym free ∙ owes in cc f;
      cut = k.cut ∙ h.cut;
      last = k.last ∙ h.last;
      passed = passed_trans o p q t u v h.passed k.passed;
    }
    behind n m (Ok Ended) free is k = let f : false ≡ true = sym free ∙ k.owes in cc f
    behind n m (Ok (Differs r)) free is k = record {
      good = h.good ++ k.good;
      line = k.line;
      partner = k.partner;
      stands = stands_behind n m k.good k.line (later q v) is k.stands;
      value = k.value;
      rule = k.rule;
      cut = k.cut ∙ h.cut;
    }
    behind n m (Err (Syntax r)) free is (inl k) = inl (record {
      good = h.good ++ k.good;
      line = k.line;
      more = k.more;
      stands = stands_behind n m k.good k.line k.more is k.stands;
      rule = k.rule;
    })
    behind n m (Err (Syntax r)) free is (inr k) = inr (record {
      good = subst (λ ls. AreGood e qs ls) (sym h.lines) (All-append (IsGood e qs) h.good (later p u) h.are_good k.good);
      cut = sym h.cut ∙ k.cut;
      rule = k.rule;
      passed = passed_trans o p q t u v h.passed k.passed;
    })
    behind n m (Err Read) free is k = record {
      good = h.good ++ k.good;
      between = k.between;
      coming = k.coming;
      lines = h.lines ∙ ap (λ ls. h.good ++ ls) k.lines ∙ sym (append_assoc h.good k.good (later k.between k.coming));
      are_good = All-append (IsGood e qs) h.good k.good h.are_good k.are_good;
      cut = k.cut ∙ h.cut;
      last = k.last ∙ h.last;
      passed = passed_trans o p k.between t u k.coming h.passed k.passed;
      stops = k.stops;
    }

  -- ---- The one line that comes next

  line_good : (o q : Place) (t v : List ℕ) (n : ℕ) → ((line : Line) (more : List Line) → later o t ≡ line ∷ more → n ≡ 1) → (partner : Event) (s : Says icnf_line partner o t q v) → pair_faults qs e partner ≡ [] → AllAgree e qs n o t q v
  line_good o q t v n one partner s kept = let is = one s.line (later q v) s.lines in record {
    good = subst (λ ls. AreGood e qs ls) (sym (ap (λ i. take i (later o t)) is ∙ ap (λ ls. take 1 ls) s.lines)) (All-cons (IsGood e qs) s.line [] (record { partner = partner; value = s.value; kept = kept }) no_line);
    lines = sym (ap (λ i. drop i (later o t)) is ∙ ap (λ ls. drop 1 ls) s.lines);
    found = λ owes. omega (arith, is);
    cut = s.cut;
    last = s.last;
    passed = s.passed;
  }

  module _ (o q : Place) (t v : List ℕ) (n : ℕ) (some : (line : Line) (more : List Line) → later o t ≡ line ∷ more → 0 < n) where
    pub line_differs : (partner : Event) (r : Rule) → Says icnf_line partner o t q v → slice_get (pair_faults qs e partner) 0 ≡ Some r → OneDiffers e qs n r o t q v
    line_differs partner r s rule = record {
      good = [];
      line = s.line;
      partner = partner;
      stands = record { lines = s.lines; are_good = no_line; within = some s.line (later q v) s.lines; number = s.number; last = s.last; passed = s.passed };
      value = s.value;
      rule = rule;
      cut = s.cut;
    }

    pub line_breaks : (r : Rule) → Breaks icnf_line r o t q v → OneBreaks e qs n r o t q v
    line_breaks r s = record {
      good = [];
      line = s.line;
      more = s.more;
      stands = record { lines = s.lines; are_good = no_line; within = some s.line s.more s.lines; number = s.number; last = s.last; passed = s.passed };
      rule = s.rule;
    }

  pub behind_cut : (r : Rule) (o q : Place) (t v : List ℕ) → BehindCut r o t q v → CutBehindRun e qs r o t q v
  behind_cut r o q t v k = record { good = subst (λ ls. AreGood e qs ls) (sym k.lines) no_line; cut = k.cut; rule = k.rule; passed = k.passed }

  pub stops : (o q : Place) (t v : List ℕ) → StopsInOrBefore o t q v → StopsInRun e qs o t q v
  stops o q t v k = record { good = []; between = o; coming = t; lines = refl; are_good = no_line; cut = refl; last = refl; passed = passed_refl o t; stops = k }

  pub next_matches : (o q : Place) (t v : List ℕ) (n : ℕ) (r : Result Match MatchFault) → ((line : Line) (more : List Line) → later o t ≡ line ∷ more → n ≡ 1)
      → (later o t ≡ [] → owes_partner e ≡ true) → NextMatches e qs o t q v r → Matches e qs n o t q v r
  next_matches o q t v n (Ok Agrees) one owes k = line_good o q t v n one k.partner k.says (none_broken (pair_faults qs e k.partner) k.rule)
  next_matches o q t v n (Ok Ended) one owes k = record { end = k; owes = owes k.none }
  next_matches o q t v n (Ok (Differs r)) one owes k = line_differs o q t v n (λ line more f. let is = one line more f in omega (arith, is)) k.partner r k.says k.rule
  next_matches o q t v n (Err (Syntax r)) one owes (inl k) = inl (line_breaks o q t v n (λ line more f. let is = one line more f in omega (arith, is)) r k)
  next_matches o q t v n (Err (Syntax r)) one owes (inr k) = inr (behind_cut r o q t v k)
  next_matches o q t v n (Err Read) one owes k = stops o q t v k

  -- ---- No line, or another

  pub none_left : (o q : Place) (t v : List ℕ) (n : ℕ) → owes_partner e ≡ false → n ≡ 0 → AtEnd o t q v → AllAgree e qs n o t q v
  none_left o q t v n free is k = record {
    good = subst (λ i. AreGood e qs (take i (later o t))) (sym is) no_line;
    lines = k.later ∙ sym (ap (λ i. drop i (later o t)) is ∙ k.none);
    found = λ owes. let f : false ≡ true = sym free ∙ owes in cc f;
    cut = k.behind.cut;
    last = k.behind.last;
    passed = k.behind.passed;
  }

  pub other_line : (letter : Letter) (o q : Place) (t v : List ℕ) (n : ℕ) → owes_partner e ≡ false → n ≡ 0 → Sees letter o t q v → AllAgree e qs n o t q v
  other_line letter o q t v n free is k = record {
    good = subst (λ i. AreGood e qs (take i (later o t))) (sym is) no_line;
    lines = k.due ∙ sym (ap (λ i. drop i (later o t)) is);
    found = λ owes. let f : false ≡ true = sym free ∙ owes in cc f;
    cut = k.cut;
    last = k.last;
    passed = k.passed;
  }

  pub cut_early : (r : Rule) (o q : Place) (t v : List ℕ) (n : ℕ) → n ≡ 1 → CutEarly r o t q v → OneBreaks e qs n r o t q v
  cut_early r o q t v n is k = record {
    good = [];
    line = k.line;
    more = k.more;
    stands = record { lines = k.lines; are_good = no_line; within = omega (arith, is); number = k.number; last = k.last; passed = k.passed };
    rule = early_breaks k.line k.early ∙ ap (λ z. Err z) (sym k.rule);
  }

  -- ---- Over a source, by the letter that was seen

  module _ (many : List Line → ℕ) (free : owes_partner e ≡ false) (o n : Reader) where
    pub none_matched : many [] ≡ 0 → LetterPeeked o n (Ok None) → Matched many e qs o n (Ok Agrees)
    none_matched zero_is h = record {
      moves = h.moves;
      told = told_map _ _ _ _ h.told (λ t v k. none_left o.place n.place t v (many (later o.place t)) free (ap many k.none ∙ zero_is) k);
      count = h.count;
      read = λ f. cc f;
    }

    pub other_matched : (letter : Letter) → ((line : Line) (more : List Line) → line_letter line ≡ letter → is_cut_early line ≡ false → many (line ∷ more) ≡ 0)
        → LetterPeeked o n (Ok (Some letter)) → Matched many e qs o n (Ok Agrees)
    other_matched letter zero_is h = record {
      moves = h.moves;
      told = told_map _ _ _ _ h.told (λ t v k. other_line letter o.place n.place t v (many (later o.place t)) free (ap many k.lines ∙ zero_is k.line k.more k.is_letter k.judged) k);
      count = h.count;
      read = λ f. cc f;
    }

    unseen : (fault : LineFault) (t v : List ℕ) → ((line : Line) (more : List Line) → is_cut_early line ≡ true → many (line ∷ more) ≡ 1)
        → SeesNext o.place t n.place v (Err fault) → Matches e qs (many (later o.place t)) o.place t n.place v (Err (match_fault fault))
    unseen (faults.Syntax r) t v one (inl k) = inl (cut_early r o.place n.place t v (many (later o.place t)) (ap many k.lines ∙ one k.line k.more k.early) k)
    unseen (faults.Syntax r) t v one (inr k) = inr (behind_cut r o.place n.place t v k)
    unseen faults.Read t v one k = stops o.place n.place t v k
    unseen faults.Memory t v one k = absurd k

    failed : (fault : LineFault) → (fault ≡ faults.Memory → ⊥) → (let a : Result Match MatchFault = Err (match_fault fault) in a) ≡ Err Read → (let b : Result (Option Letter) LineFault = Err fault in b) ≡ Err faults.Read
    failed (faults.Syntax r) some f = cc f
    failed faults.Read some f = refl
    failed faults.Memory some f = absurd (some refl)

    pub unseen_matched : (fault : LineFault) → (fault ≡ faults.Memory → ⊥) → ((line : Line) (more : List Line) → is_cut_early line ≡ true → many (line ∷ more) ≡ 1)
        → LetterPeeked o n (Err fault) → Matched many e qs o n (Err (match_fault fault))
    unseen_matched fault some one h = record {
      moves = h.moves;
      told = told_map _ _ _ _ h.told (λ t v k. unseen fault t v one k);
      count = h.count;
      read = λ f. h.read (failed fault some f);
    }
