-- The letter of the line that comes next.
use Rattle.std.proofs.Common.{◌≡◌, ℕ, ◌<◌, ◌≤◌, ◌⊎◌, Bool, true, false, nat_lt, if◌then◌else◌, List, [], ◌∷◌, length, Some, Ok, Err, refl, sym, ap, ◌∙◌, subst, inl, inr, ltb-true, arith}
use Rattle.std.proofs.lemmas.Bool.{cases_Bool}
use Rattle.std.specs.declared.result.Result.{Result}
use Rattle.session_rules.specs.declared.Letter.{Letter}
use Rattle.session_rules.specs.declared.Letter.TheVariants as letters
use Rattle.session_rules.specs.declared.Rule.{Rule}
use Rattle.session_rules.specs.declared.Rule.TheVariants as rules
use Rattle.session_rules.specs.declared.LineFault.{LineFault}
use Rattle.session_rules.specs.declared.LineFault.TheVariants.{Syntax, Read, Memory}
use Rattle.session_rules.specs.Lines.{has_content, judged_words, without_cut_word}
use Rattle.session_rules.specs.Reading.{Fault, wrong, missing, letter_of}
use Rattle.slice_tokens.specs.Place.{Place, WhereTold, present, lines_behind}
use Rattle.slice_tokens.specs.Due.{known_words}
use Rattle.slice_tokens.specs.Calls.{Moves, SameLater, InLine}
use Rattle.line_reading.specs.Parts.{PartAnswers, fault_rule, ReadsPart, word_part, word_or_fault}
use Rattle.line_reading.specs.Kinds.{letter_says, letter_or_rule}
use Rattle.line_reading.proofs.LongWords.{long_letter}
use Rattle.line_reading.specs.Readers.{Reader, to_come, PartRead, LetterRead}
use Rattle.line_reading.proofs.Joined.{told_then, moves_trans, rose_later, same_fault}
use Rattle.slice_tokens.proofs.Places.{passed_trans}
use Rattle.line_reading.specs.Whole.{StandsInLine, Entered, Unentered, Enters}

-- a letter as the first word
abbrev letter_part : List (List ℕ) → Result (Letter × List (List ℕ)) Fault
letter_part = word_part letter_says rules.Letter rules.Letter

letter_is : (o l : Letter) → letter_or_rule o ≡ Ok l → o ≡ l
letter_is letters.NoLetter l h = cc h
letter_is _ l h = cc h

not_letter : (o : Letter) (r : Rule) → letter_or_rule o ≡ Err r → (o ≡ letters.NoLetter) × (r ≡ rules.Letter)
not_letter letters.NoLetter r h = (refl, let e : rules.Letter ≡ r = cc h in sym e)
not_letter _ r h = cc h

-- what one word says
word_read : (o : Result Letter Rule) (ws us : List (List ℕ)) (l : Letter) → word_or_fault o ws ≡ Ok (l, us) → (o ≡ Ok l) × (ws ≡ us)
word_read (Ok x) ws us l h = let p = pair_same (x, ws) (l, us) h in (ap (λ z. Ok z) (ap (λ q. q.0) p), ap (λ q. q.1) p)
  where
    pair_same : (p q : Letter × List (List ℕ)) → (let a : Result (Letter × List (List ℕ)) Fault = Ok p in a) ≡ Ok q → p ≡ q
    pair_same p q e = cc
word_read (Err r) ws us l h = cc h

-- the letter that a part of words begins with
part_letter : (vs us : List (List ℕ)) (l : Letter) → letter_part vs ≡ Ok (l, us) → (w : List ℕ) × (vs ≡ w ∷ us) × (letter_of w ≡ l)
unfolding letter_says
part_letter [] us l h = cc h
part_letter (w ∷ ws) us l h = elim (cases_Bool (nat_lt 32 (length w))) [
  | inl q ↦ let f : (let a : Result (Letter × List (List ℕ)) Fault = Err (wrong rules.Letter) in a) ≡ Ok (l, us) = rw q at h in cc f
  | inr q ↦ let r = word_read (letter_or_rule (letter_of w)) ws us l (rw q at h) in (w, ap (λ z. w ∷ z) r.1, letter_is (letter_of w) l r.0)
]

-- ---- Where the window entered a line

pub entered : (l : Letter) (o p q : Place) (t u v : List ℕ) → q.line ≡ p.line → q.fresh ≡ false → InLine o t p u → ReadsPart letter_part (Ok l) p u q v → Entered l o t q v
entered l o p q t u v stays taken i k =
    let line = present p u in
    let r = part_letter (known_words line) (known_words (present q v)) l k.answer in record {
      line = line;
      word = r.0;
      lines = i.lines ∙ ap (λ ls. line ∷ ls) (sym k.behind.lines);
      taken = taken;
      number = i.number ∙ sym stays;
      is_letter = r.2;
      same_cut = k.line.cut;
      judged = ap (λ c. if c then known_words line else []) i.content ∙ r.1;
      whole_words = λ e. let uncut = i.whole e in sym (ap (λ c. if c then without_cut_word line.words else line.words) uncut) ∙ r.1;
      cut = k.behind.cut ∙ i.cut;
      last = k.behind.last ∙ i.last;
      passed = passed_trans o p q t u v i.passed k.behind.passed;
    }

-- words that begin with no letter
no_letter_said : (cut : Bool) (ws : List (List ℕ)) (f : Fault) → (ws ≡ [] → cut ≡ true) → letter_part ws ≡ Err f
    → ((w : List ℕ) × (us : List (List ℕ)) × (letter_of w ≡ letters.NoLetter) × (ws ≡ w ∷ us) × (fault_rule cut f ≡ rules.Letter)) ⊎ ((ws ≡ []) × (cut ≡ true) × (fault_rule cut f ≡ rules.Length))
unfolding letter_says
no_letter_said cut [] f full h = let g : missing rules.Letter ≡ f = cc h in let c = full refl in
    inr (refl, c, subst (λ z. fault_rule cut z ≡ rules.Length) g (ap (λ k. if k then rules.Length else rules.Letter) c))
no_letter_said cut (w ∷ us) f full h = elim (cases_Bool (nat_lt 32 (length w))) [
  | inl q ↦ let e : (let a : Result (Letter × List (List ℕ)) Fault = Err (wrong rules.Letter) in a) ≡ Err f = rw q at h in let g : wrong rules.Letter ≡ f = cc e in
      inl (w, us, long_letter w (ltb-true _ _ q), refl, subst (λ z. fault_rule cut z ≡ rules.Letter) g refl)
  | inr q ↦ by_says (letter_or_rule (letter_of w)) refl (rw q at h)
]
  where
    by_says : (o : Result Letter Rule) → letter_or_rule (letter_of w) ≡ o → word_or_fault o us ≡ Err f
        → ((v : List ℕ) × (vs : List (List ℕ)) × (letter_of v ≡ letters.NoLetter) × (w ∷ us ≡ v ∷ vs) × (fault_rule cut f ≡ rules.Letter)) ⊎ ((w ∷ us ≡ []) × (cut ≡ true) × (fault_rule cut f ≡ rules.Length))
    by_says (Ok x) e h = cc h
    by_says (Err r) e h = let n = not_letter (letter_of w) r e in let g : wrong r ≡ f = cc h in
        inl (w, us, n.0, refl, subst (λ z. fault_rule cut z ≡ rules.Letter) g n.1)

no_content : (ws : List (List ℕ)) → has_content ws ≡ true → ws ≡ [] → ⊥
no_content [] h e = cc h
no_content (w ∷ ws) h e = cc e

-- where no known word is left in a line with content, it is cut
pub cut_where_none : (o p : Place) (t u : List ℕ) → InLine o t p u → known_words (present p u) ≡ [] → (present p u).cut ≡ true
cut_where_none o p t u i e = elim (cases_Bool (present p u).cut) [
  | inl c ↦ c
  | inr c ↦ let uncut = i.whole c in
      absurd (no_content (present p u).words i.content (sym (ap (λ k. if k then without_cut_word (present p u).words else (present p u).words) uncut) ∙ e))
]

module _ (o p q : Place) (t u v : List ℕ) (stays : q.line ≡ p.line) (i : InLine o t p u) where
  unentered_by : (f : Fault) → SameLater p u q v → letter_part (known_words (present p u)) ≡ Err f → Unentered (fault_rule (present p u).cut f) o t q v
  unentered_by f b e = let line = present p u in record {
    line = line;
    more = lines_behind p u;
    lines = i.lines;
    number = i.number ∙ sym stays;
    last = b.last ∙ i.last;
    passed = passed_trans o p q t u v i.passed b.passed;
    reason = elim (no_letter_said line.cut (known_words line) f (cut_where_none o p t u i) e) [
      | inl n ↦ inl (n.0, n.1, n.2, judged_is ∙ n.3, λ c. sym (ap (λ k. if k then without_cut_word line.words else line.words) (i.whole c)) ∙ n.3, n.4)
      | inr n ↦ inr (judged_is ∙ n.0, n.1, n.2)
    ];
  }
    where
      judged_is : judged_words (present p u) ≡ known_words (present p u)
      judged_is = ap (λ c. if c then known_words (present p u) else []) i.content

  -- the window is still in the line that came next
  stands_in : SameLater p u q v → StandsInLine o t q v
  stands_in k = record { line = present p u; lines = i.lines ∙ ap (λ ls. present p u ∷ ls) (sym k.lines); number = i.number ∙ sym stays; cut = k.cut ∙ i.cut; last = k.last ∙ i.last; passed = passed_trans o p q t u v i.passed k.passed }

  by_fault : (e : LineFault) (a : Result (Letter × List (List ℕ)) Fault) → letter_part (known_words (present p u)) ≡ a → (present q v).cut ≡ (present p u).cut
      → SameLater p u q v → PartAnswers a (present q v) (Err e) → Enters o t q v (Err e)
  by_fault (Syntax r) (Ok m) h c b k = absurd k
  by_fault (Syntax r) (Err f) h c b k = inl (subst (λ z. Unentered z o t q v) (sym (k ∙ ap (λ d. fault_rule d f) c)) (unentered_by f b h))
  by_fault Read a h c b k = inl (stands_in b)
  by_fault Memory a h c b k = stands_in b

  pub unentered : (e : LineFault) → ReadsPart letter_part (Err e) p u q v → Enters o t q v (Err e)
  unentered e k = by_fault e (letter_part (known_words (present p u))) refl k.line.cut k.behind k.answer

-- ---- Over a source

module _ (o m n : Reader) (moves : Moves o.place m.place) (count : o.faults ≤ m.faults) (entered_line : WhereTold (to_come o) (to_come m) (λ t u. InLine o.place t m.place u)) where
  pub letter_read : (l : Letter) → m.place.passed < n.place.passed → n.place.fresh ≡ false → PartRead letter_part m n (Ok l) → LetterRead o n (Ok (Some l))
  letter_read l progress taken k = record {
    moves = moves_trans _ _ _ moves k.stays.moves;
    progress = λ _. omega (arith, moves.passed, progress);
    told = told_then _ _ _ _ _ _ entered_line k.told (λ t u v i j. entered l o.place m.place n.place t u v k.stays.line taken i j);
    count = omega (arith, count, k.count);
    read = λ e. cc e;
  }

  pub letter_fails : (e : LineFault) → PartRead letter_part m n (Err e) → LetterRead o n (Err e)
  letter_fails e k = record {
    moves = moves_trans _ _ _ moves k.stays.moves;
    progress = tt;
    told = told_then _ _ _ _ _ _ entered_line k.told (λ t u v i j. unentered o.place m.place n.place t u v k.stays.line i e j);
    count = omega (arith, count, k.count);
    read = λ f. rose_later _ _ _ count (k.read (same_fault e Read f));
  }
