-- The letter of the line that comes next, where no word of it is taken.
use Rattle.std.proofs.Common.{◌≡◌, ℕ, ◌≤◌, ◌⊎◌, Bool, true, false, ◌&&◌, nat_lt, if◌then◌else◌, List, [], ◌∷◌, length, Some, Ok, Err, refl, sym, ap, ◌∙◌, inl, inr, ltb-true, arith}
use Rattle.std.proofs.lemmas.Bool.{cases_Bool}
use Rattle.std.specs.declared.option.Option.{Option}
use Rattle.std.specs.declared.result.Result.{Result}
use Rattle.std.specs.Prelude.{IfSome, IsErrOf}
use Rattle.outside.specs.Faults.{Rose}
use Rattle.session_rules.specs.declared.Letter.{Letter}
use Rattle.session_rules.specs.declared.Letter.TheVariants as letters
use Rattle.session_rules.specs.declared.Rule.TheVariants as rules
use Rattle.session_rules.specs.declared.LineFault.{LineFault}
use Rattle.session_rules.specs.declared.LineFault.TheVariants.{Syntax, Read}
use Rattle.session_rules.specs.Lines.{Line, is_nil, has_content, judged_words}
use Rattle.session_rules.specs.Pair.{first_letter}
use Rattle.session_rules.specs.Reading.{letter_of}
use Rattle.slice_tokens.specs.Place.{Place, WhereTold, present, lines_behind, later, last_line}
use Rattle.slice_tokens.specs.Due.{Due, due_word, due_end, due_long, due_cut, due_of, due, known_words}
use Rattle.slice_tokens.specs.Calls.{Moves, InLine, SameLines, AtBound, OnlyCut}
use Rattle.slice_tokens.proofs.Places.{passed_trans}
use Rattle.line_reading.specs.Whole.{StandsInLine, BehindCut, Sees, CutEarly, SeesNext}
use Rattle.line_reading.specs.Readers.{Reader, to_come, LetterPeeked}
use Rattle.line_reading.proofs.Joined.{told_then, told_map, told_from, moves_trans, rose_later}
use Rattle.line_reading.proofs.FirstLetter.{cut_where_none}
use Rattle.line_reading.proofs.LongWords.{long_letter}
use Rattle.line_reading.proofs.Opening.{long_first, cut_first}

-- ---- What is due in a line

-- a word is due: it is the first that is known
word_first : (cut : Bool) (ws : List (List ℕ)) (w : List ℕ) → due_of cut ws ≡ due_word w → (more : List (List ℕ)) × (ws ≡ w ∷ more)
word_first true [] w e = cc e
word_first false [] w e = cc e
word_first cut (v ∷ more) w e = elim (cases_Bool (nat_lt 32 (length v))) [
  | inl q ↦ let f : due_long ≡ due_word w = rw q at e in cc f
  | inr q ↦ let f : due_word v ≡ due_word w = rw q at e in (more, let g : v ≡ w = cc f in ap (λ x. x ∷ more) g)
]

-- the line's end is due: no word is left, and the line isn't cut
end_first : (cut : Bool) (ws : List (List ℕ)) → due_of cut ws ≡ due_end → (ws ≡ []) × (cut ≡ false)
end_first true [] e = cc e
end_first false [] e = (refl, refl)
end_first cut (v ∷ more) e = elim (cases_Bool (nat_lt 32 (length v))) [
  | inl q ↦ let f : due_long ≡ due_end = rw q at e in cc f
  | inr q ↦ let f : due_word v ≡ due_end = rw q at e in cc f
]

-- in a line with content the known words are those that are judged
judged_known : (line : Line) → has_content line.words ≡ true → judged_words line ≡ known_words line
judged_known line e = ap (λ c. if c then known_words line else []) e

never_early : (cut : Bool) → (cut && false) ≡ false
never_early true = refl
never_early false = refl

module _ (o p q : Place) (t u v : List ℕ) (i : InLine o t p u) (s : SameLines p u q v) where
  sees_first : (letter : Letter) (w : List ℕ) (more : List (List ℕ)) → known_words (present p u) ≡ w ∷ more → letter_of w ≡ letter → Sees letter o t q v
  sees_first letter w more known is = let line = present p u in record {
    line = line;
    more = lines_behind p u;
    lines = i.lines;
    due = s.later ∙ i.due;
    is_letter = ap first_letter (judged_known line i.content ∙ known) ∙ is;
    judged = ap (λ ws. line.cut && is_nil ws) (judged_known line i.content ∙ known) ∙ never_early line.cut;
    cut = s.behind.cut ∙ i.cut;
    last = s.behind.last ∙ i.last;
    passed = passed_trans o p q t u v i.passed s.behind.passed;
  }

  sees_word : (w : List ℕ) → due (present p u) ≡ due_word w → Sees (letter_of w) o t q v
  sees_word w d = let f = word_first (present p u).cut (known_words (present p u)) w d in sees_first (letter_of w) w f.0 f.1 refl

  sees_long : due (present p u) ≡ due_long → Sees letters.NoLetter o t q v
  sees_long d = let f = long_first (present p u).cut (known_words (present p u)) d in sees_first letters.NoLetter f.0 f.1 f.2 (long_letter f.0 (ltb-true _ _ f.3))

  -- a line with content doesn't end before its first word
  sees_end : due (present p u) ≡ due_end → Sees letters.NoLetter o t q v
  sees_end d = let f = end_first (present p u).cut (known_words (present p u)) d in let c = cut_where_none o p t u i f.0 in let e : true ≡ false = sym c ∙ f.1 in cc e

  sees_cut : q.line ≡ p.line → due (present p u) ≡ due_cut → CutEarly rules.Length o t q v
  sees_cut stays d = let line = present p u in let f = cut_first line.cut (known_words line) d in record {
    line = line;
    more = lines_behind p u;
    lines = i.lines;
    early = ap (λ ws. line.cut && is_nil ws) (judged_known line i.content ∙ f.0) ∙ ap (λ c. c && true) f.1;
    number = i.number ∙ sym stays;
    rule = refl;
    last = s.behind.last ∙ i.last;
    passed = passed_trans o p q t u v i.passed s.behind.passed;
  }

  stopped_in : q.line ≡ p.line → StandsInLine o t q v
  stopped_in stays = record {
    line = present p u;
    lines = i.lines ∙ ap (λ ls. present p u ∷ ls) (sym s.behind.lines);
    number = i.number ∙ sym stays;
    cut = s.behind.cut ∙ i.cut;
    last = s.behind.last ∙ i.last;
    passed = passed_trans o p q t u v i.passed s.behind.passed;
  }

-- the bound was met before a line with content
bound_met : (o q : Place) (t v : List ℕ) → AtBound o t q v → CutEarly rules.Length o t q v ⊎ BehindCut rules.Length o t q v
bound_met o q t v h = by_lines (later o t) refl h.only
  where
    by_lines : (ls : List Line) → later o t ≡ ls → OnlyCut ls (last_line o t) → CutEarly rules.Length o t q v ⊎ BehindCut rules.Length o t q v
    by_lines [] f k = inr (record { lines = f; cut = h.cut; rule = refl; passed = h.behind.passed })
    by_lines (line ∷ more) f k = inl (record {
      line = line;
      more = more;
      lines = f;
      early = ap (λ c. line.cut && is_nil (if c then known_words line else [])) k.2 ∙ ap (λ c. c && true) k.1;
      number = k.3 ∙ sym h.line;
      rule = refl;
      last = h.behind.last;
      passed = h.behind.passed;
    })

-- ---- Over a source

module _ (o m n : Reader) (moves : Moves o.place m.place) (count : o.faults ≤ m.faults) (entered_line : WhereTold (to_come o) (to_come m) (λ t u. InLine o.place t m.place u))
    (seen : Moves m.place n.place) (line : n.place.line ≡ m.place.line) (told : WhereTold (to_come m) (to_come n) (λ u v. SameLines m.place u n.place v)) (more : m.faults ≤ n.faults) where
  peeked_by : (r : Result (Option Letter) LineFault) (d : Due) → IfSome (to_come m) (λ u. due (present m.place u) ≡ d) → (IsErrOf r Read → Rose o.faults n.faults)
      → ((t u v : List ℕ) → InLine o.place t m.place u → SameLines m.place u n.place v → due (present m.place u) ≡ d → SeesNext o.place t n.place v r) → LetterPeeked o n r
  peeked_by r d answer read step = record {
    moves = moves_trans _ _ _ moves seen;
    told = told_then _ _ _ _ _ _ entered_line (told_from _ _ (λ u. due (present m.place u) ≡ d) _ (λ u v. SameLines m.place u n.place v × (due (present m.place u) ≡ d)) answer told (λ u v e s. (s, e)))
        (λ t u v i s. step t u v i s.0 s.1);
    count = omega (arith, count, more);
    read = read;
  }

  pub peeked_word : (w : List ℕ) → IfSome (to_come m) (λ u. due (present m.place u) ≡ due_word w) → LetterPeeked o n (Ok (Some (letter_of w)))
  peeked_word w answer = peeked_by (Ok (Some (letter_of w))) (due_word w) answer (λ e. cc e) (λ t u v i s d. sees_word o.place m.place n.place t u v i s w d)

  pub peeked_long : IfSome (to_come m) (λ u. due (present m.place u) ≡ due_long) → LetterPeeked o n (Ok (Some letters.NoLetter))
  peeked_long answer = peeked_by (Ok (Some letters.NoLetter)) due_long answer (λ e. cc e) (λ t u v i s d. sees_long o.place m.place n.place t u v i s d)

  pub peeked_end : IfSome (to_come m) (λ u. due (present m.place u) ≡ due_end) → LetterPeeked o n (Ok (Some letters.NoLetter))
  peeked_end answer = peeked_by (Ok (Some letters.NoLetter)) due_end answer (λ e. cc e) (λ t u v i s d. sees_end o.place m.place n.place t u v i s d)

  pub peeked_cut : IfSome (to_come m) (λ u. due (present m.place u) ≡ due_cut) → LetterPeeked o n (Err (Syntax rules.Length))
  peeked_cut answer = peeked_by (Err (Syntax rules.Length)) due_cut answer (λ e. cc e) (λ t u v i s d. inl (sees_cut o.place m.place n.place t u v i s line d))

  pub peek_failed : Rose m.faults n.faults → LetterPeeked o n (Err Read)
  peek_failed rose = record {
    moves = moves_trans _ _ _ moves seen;
    told = told_then _ _ _ _ _ _ entered_line told (λ t u v i s. inl (stopped_in o.place m.place n.place t u v i s line));
    count = omega (arith, count, more);
    read = λ e. rose_later _ _ _ count rose;
  }

module _ (o n : Reader) (moves : Moves o.place n.place) (count : o.faults ≤ n.faults) where
  pub peek_at_bound : WhereTold (to_come o) (to_come n) (λ t v. AtBound o.place t n.place v) → LetterPeeked o n (Err (Syntax rules.Length))
  peek_at_bound h = record {
    moves = moves;
    told = told_map _ _ _ _ h (λ t v k. bound_met o.place n.place t v k);
    count = count;
    read = λ e. cc e;
  }
