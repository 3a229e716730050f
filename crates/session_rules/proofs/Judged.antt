-- The rule that a line breaks, cut or not, is the one that its first wrong word, its end or the cut tells.
use Rattle.std.proofs.Common.{◌≡◌, ℕ, List, [], None, Some, Result, Ok, Err, refl, sym, ◌∙◌, ap, subst, ◌↔◌, inl, inr, true, false}
use Rattle.std.proofs.lemmas.Bool.{cases_Bool}
use Rattle.session_rules.specs.declared.Rule.{Rule}
use Rattle.session_rules.specs.declared.Rule.TheVariants as rules
use Rattle.session_rules.specs.Lines.{Line, has_content, judged_words}
use Rattle.session_rules.specs.Reading.{Fault, wrong, missing, of_whole_line, of_cut_line, rule_or_none, broken}
use Rattle.session_rules.specs.Spelling.{Spells}
use Rattle.session_rules.specs.WrongWord.{BreaksLine, at_word, at_end, cut_without_content, at_word_before_cut, at_cut}
use Rattle.session_rules.proofs.FirstWrong.{IsRead}

module _ {A : Type 0} (Fits : A → Type 0) (words_of : A → List (List ℕ)) (read : List (List ℕ) → Result A Fault) (ByWord AtEnd : List (List ℕ) → Rule → Type 0)
    (is : IsRead Fits words_of read ByWord AtEnd) where
  -- the rule of a line that isn't cut, and of one that is
  uncut : (line : Line) → line.cut ≡ false → broken read line ≡ rule_or_none (of_whole_line (read line.words))
  uncut line e = rw e refl

  cut : (line : Line) → line.cut ≡ true → broken read line ≡ rule_or_none (of_cut_line (read (judged_words line)))
  cut line e = rw e refl

  whole_breaks : (line : Line) (r : Rule) → line.cut ≡ false → (o : Result A Fault) → read line.words ≡ o → rule_or_none (of_whole_line o) ≡ Some r → BreaksLine ByWord AtEnd line r
  whole_breaks line r c (Ok x) e h = cc h
  whole_breaks line r c (Err (wrong s)) e h = let same : s ≡ r = cc h in at_word c ((is.by_word line.words r).0 (e ∙ ap (λ q. Err (wrong q)) same))
  whole_breaks line r c (Err (missing s)) e h = let same : s ≡ r = cc h in at_end c ((is.at_end line.words r).0 (e ∙ ap (λ q. Err (missing q)) same))

  -- where a cut line has no wrong word before the cut
  none_before : (line : Line) (r : Rule) → line.cut ≡ true → (o : Result A Fault) → read (judged_words line) ≡ o → ((s : Rule) → o ≡ Err (wrong s) → ⊥) → r ≡ rules.Length → BreaksLine ByWord AtEnd line r
  none_before line r c o e none h = elim (cases_Bool (has_content line.words)) [
    | inl t ↦ at_cut c t (λ s b. none s (sym e ∙ (is.by_word (judged_words line) s).1 b)) h
    | inr f ↦ cut_without_content c f h
  ]

  no_words : (line : Line) → has_content line.words ≡ false → judged_words line ≡ []
  no_words line f = rw f refl

  wrong_before : (line : Line) (r : Rule) → line.cut ≡ true → read (judged_words line) ≡ Err (wrong r) → BreaksLine ByWord AtEnd line r
  wrong_before line r c e = let b = (is.by_word (judged_words line) r).0 e in elim (cases_Bool (has_content line.words)) [
    | inl t ↦ at_word_before_cut c t b
    | inr f ↦ absurd (is.nothing r (subst (λ ws. ByWord ws r) (no_words line f) b))
  ]

  cut_breaks : (line : Line) (r : Rule) → line.cut ≡ true → (o : Result A Fault) → read (judged_words line) ≡ o → rule_or_none (of_cut_line o) ≡ Some r → BreaksLine ByWord AtEnd line r
  cut_breaks line r c (Ok x) e h = none_before line r c (Ok x) e (λ s f. cc f) (cc h)
  cut_breaks line r c (Err (missing s)) e h = none_before line r c (Err (missing s)) e (λ s f. cc f) (cc h)
  cut_breaks line r c (Err (wrong s)) e h = let same : s ≡ r = cc h in wrong_before line r c (e ∙ ap (λ q. Err (wrong q)) same)

  no_wrong : (o : Result A Fault) → ((s : Rule) → o ≡ Err (wrong s) → ⊥) → rule_or_none (of_cut_line o) ≡ Some rules.Length
  no_wrong (Ok x) none = refl
  no_wrong (Err (missing s)) none = refl
  no_wrong (Err (wrong s)) none = absurd (none s refl)

  breaks_broken : (line : Line) (r : Rule) → BreaksLine ByWord AtEnd line r → broken read line ≡ Some r
  breaks_broken line r (at_word c b) = uncut line c ∙ ap (λ o. rule_or_none (of_whole_line o)) ((is.by_word line.words r).1 b)
  breaks_broken line r (at_end c b) = uncut line c ∙ ap (λ o. rule_or_none (of_whole_line o)) ((is.at_end line.words r).1 b)
  breaks_broken line r (at_word_before_cut c t b) = cut line c ∙ ap (λ o. rule_or_none (of_cut_line o)) ((is.by_word (judged_words line) r).1 b)
  breaks_broken line r (cut_without_content c f h) = cut line c ∙ ap (λ ws. rule_or_none (of_cut_line (read ws))) (no_words line f)
      ∙ no_wrong (read []) (λ s e. is.nothing s ((is.by_word [] s).0 e)) ∙ ap (λ q. Some q) (sym h)
  breaks_broken line r (at_cut c t none h) = cut line c ∙ no_wrong (read (judged_words line)) (λ s e. none s ((is.by_word (judged_words line) s).0 e)) ∙ ap (λ q. Some q) (sym h)

  broken_breaks : (line : Line) (r : Rule) → broken read line ≡ Some r → BreaksLine ByWord AtEnd line r
  broken_breaks line r h = elim (cases_Bool line.cut) [
    | inl t ↦ cut_breaks line r t (read (judged_words line)) refl (sym (cut line t) ∙ h)
    | inr f ↦ whole_breaks line r f (read line.words) refl (sym (uncut line f) ∙ h)
  ]

  -- the rule that is computed is the one that the line breaks
  pub broken-some : (line : Line) (r : Rule) → (broken read line ≡ Some r) ↔ BreaksLine ByWord AtEnd line r
  broken-some line r = (broken_breaks line r, breaks_broken line r)

  whole_spelled : (o : Result A Fault) → rule_or_none (of_whole_line o) ≡ None → (x : A) × (o ≡ Ok x)
  whole_spelled (Ok x) h = (x, refl)
  whole_spelled (Err e) h = cc h

  never_none : (o : Result A Fault) → rule_or_none (of_cut_line o) ≡ None → ⊥
  never_none (Ok x) h = cc h
  never_none (Err (wrong s)) h = cc h
  never_none (Err (missing s)) h = cc h

  unbroken : (line : Line) → broken read line ≡ None → (line.cut ≡ false) × ((x : A) × Spells Fits words_of line.words x)
  unbroken line h = elim (cases_Bool line.cut) [
    | inl t ↦ absurd (never_none (read (judged_words line)) (sym (cut line t) ∙ h))
    | inr f ↦ let o = whole_spelled (read line.words) (sym (uncut line f) ∙ h) in (f, (o.0, (is.spelled line.words o.0).0 o.1))
  ]

  unbroken_back : (line : Line) → (line.cut ≡ false) × ((x : A) × Spells Fits words_of line.words x) → broken read line ≡ None
  unbroken_back line h = uncut line h.0 ∙ ap (λ o. rule_or_none (of_whole_line o)) ((is.spelled line.words h.1.0).1 h.1.1)

  -- no rule is broken exactly where the line isn't cut and spells a value
  pub broken-none : (line : Line) → (broken read line ≡ None) ↔ (line.cut ≡ false) × ((x : A) × Spells Fits words_of line.words x)
  broken-none line = (unbroken line, unbroken_back line)
