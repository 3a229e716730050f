-- Where a line is not read, its first wrong word and the rule are those that the spelled lines tell.
use Rattle.std.proofs.Common.{◌≡◌, ℕ, List, [], ◌∷◌, ◌++◌, codes, Result, Ok, Err, refl, sym, ◌∙◌, ap, subst, append-nil, append_assoc, ◌⊎◌, inl, inr, ◌↔◌, true, false}
use Rattle.std.proofs.lemmas.Bool.{cases_Bool}
use Rattle.session_rules.specs.declared.Rule.{Rule}
use Rattle.session_rules.specs.declared.Rule.TheVariants as rules
use Rattle.session_rules.specs.declared.Letter.{Letter}
use Rattle.session_rules.specs.declared.Letter.TheVariants as letters
use Rattle.session_rules.specs.Reading.{Fault, wrong, missing, letter_of, by_letter, same_word}
use Rattle.session_rules.specs.Spelling.{Spells}
use Rattle.session_rules.specs.WrongWord.{Begins, FirstWrong, EndsEarly, RuleAt, letter_due, status_due, nothing_due, literal_due, id_due, rule_at_end, BreaksByWord, BreaksAtEnd}
use Rattle.session_rules.proofs.Readers.{Accepts, IsTail, TailRule, status_place, no_place, literal_place, id_place}
use Rattle.session_rules.proofs.WhatIsRead.{status_word_is_s, same_word-true}

-- ---- Two ways to cut a list at an element

cut_compared : (xs ys : List (List ℕ)) (x y : List ℕ) (more rest : List (List ℕ)) → xs ++ x ∷ more ≡ ys ++ y ∷ rest
    → ((xs ≡ ys) × (x ≡ y)) ⊎ ((m : List (List ℕ)) × (ys ≡ xs ++ x ∷ m)) ⊎ ((m : List (List ℕ)) × (xs ≡ ys ++ y ∷ m))
cut_compared [] [] x y more rest e = inl (refl, cc e)
cut_compared [] (v ∷ ys) x y more rest e = let same : x ≡ v = cc e in inr (inl (ys, ap (λ w. w ∷ ys) (sym same)))
cut_compared (v ∷ xs) [] x y more rest e = let same : v ≡ y = cc e in inr (inr (xs, ap (λ w. w ∷ xs) same))
cut_compared (v ∷ xs) (w ∷ ys) x y more rest e = let same : v ≡ w = cc e in let behind : xs ++ x ∷ more ≡ ys ++ y ∷ rest = cc e in
    elim (cut_compared xs ys x y more rest behind) [
      | inl h ↦ inl (cc (same, h.0), h.1)
      | inr (inl h) ↦ inr (inl (h.0, cc (same, h.1)))
      | inr (inr h) ↦ inr (inr (h.0, cc (same, h.1)))
    ]

not_cut : (xs : List (List ℕ)) (x : List ℕ) (more : List (List ℕ)) → [] ≡ xs ++ x ∷ more → ⊥
not_cut [] x more e = cc e
not_cut (y ∷ xs) x more e = cc e

-- ---- What begins a spelled line

module _ {A : Type 0} (Fits : A → Type 0) (words_of : A → List (List ℕ)) where
  begins_less : (us vs : List (List ℕ)) → Begins Fits words_of (us ++ vs) → Begins Fits words_of us
  begins_less us vs b = record { value = b.value; fits = b.fits; more = vs ++ b.more; spelled = b.spelled ∙ append_assoc us vs b.more }

  -- a word in the midst of what begins a line isn't wrong
  not_within : (us : List (List ℕ)) (w : List ℕ) (vs : List (List ℕ)) → (Begins Fits words_of (us ++ w ∷ []) → ⊥) → Begins Fits words_of (us ++ w ∷ vs) → ⊥
  not_within us w vs ends b = ends (begins_less (us ++ w ∷ []) vs (subst (Begins Fits words_of) (sym (append_assoc us (w ∷ []) vs)) b))

  whole_begins : (ws : List (List ℕ)) (x : A) → Spells Fits words_of ws x → Begins Fits words_of ws
  whole_begins ws x s = record { value = x; fits = s.0; more = []; spelled = sym s.1 ∙ sym (append-nil ws) }

  pub wrong_begins_not : (ws : List (List ℕ)) → FirstWrong Fits words_of ws → Begins Fits words_of ws → ⊥
  wrong_begins_not ws f b = not_within f.before f.word f.after f.ends (subst (Begins Fits words_of) f.parts b)

  pub wrong_spells_not : (ws : List (List ℕ)) (x : A) → FirstWrong Fits words_of ws → Spells Fits words_of ws x → ⊥
  wrong_spells_not ws x f s = wrong_begins_not ws f (whole_begins ws x s)

  -- there is one first wrong word
  pub same_place : (ws : List (List ℕ)) (f g : FirstWrong Fits words_of ws) → (f.before ≡ g.before) × (f.word ≡ g.word)
  same_place ws f g = elim (cut_compared f.before g.before f.word g.word f.after g.after (sym f.parts ∙ g.parts)) [
    | inl h ↦ h
    | inr (inl h) ↦ absurd (not_within f.before f.word h.0 f.ends (subst (Begins Fits words_of) h.1 g.begins))
    | inr (inr h) ↦ absurd (not_within g.before g.word h.0 g.ends (subst (Begins Fits words_of) h.1 f.begins))
  ]

  pub nothing_wrong : FirstWrong Fits words_of [] → ⊥
  nothing_wrong f = not_cut f.before f.word f.after f.parts

-- ---- A reading against what is spelled

-- what is read, where the first wrong word stands and where a line ends early are as the spelled lines tell
pub record IsRead {A : Type 0} (Fits : A → Type 0) (words_of : A → List (List ℕ)) (read : List (List ℕ) → Result A Fault) (ByWord AtEnd : List (List ℕ) → Rule → Type 0) : Type 0 where
  pub spelled : (ws : List (List ℕ)) (x : A) → (read ws ≡ Ok x) ↔ Spells Fits words_of ws x
  pub by_word : (ws : List (List ℕ)) (r : Rule) → (read ws ≡ Err (wrong r)) ↔ ByWord ws r
  pub at_end : (ws : List (List ℕ)) (r : Rule) → (read ws ≡ Err (missing r)) ↔ AtEnd ws r
  pub nothing : (r : Rule) → ByWord [] r → ⊥

-- so the words spell one value
pub one_value : {A : Type 0} (Fits : A → Type 0) (words_of : A → List (List ℕ)) (read : List (List ℕ) → Result A Fault) (ByWord AtEnd : List (List ℕ) → Rule → Type 0)
    → IsRead Fits words_of read ByWord AtEnd → (ws : List (List ℕ)) (x y : A) → Spells Fits words_of ws x → Spells Fits words_of ws y → x ≡ y
one_value Fits words_of read ByWord AtEnd is ws x y s t = cc (sym ((is.spelled ws x).1 s) ∙ (is.spelled ws y).1 t)

module _ {A : Type 0} (Fits : A → Type 0) (words_of : A → List (List ℕ)) (read : List (List ℕ) → Result A Fault) (ByWord AtEnd : List (List ℕ) → Rule → Type 0)
    (complete : (x : A) → Fits x → read (words_of x) ≡ Ok x) (sound : (ws : List (List ℕ)) (x : A) → read ws ≡ Ok x → Spells Fits words_of ws x)
    (by_word : (ws : List (List ℕ)) (r : Rule) → read ws ≡ Err (wrong r) → ByWord ws r) (at_end : (ws : List (List ℕ)) (r : Rule) → read ws ≡ Err (missing r) → AtEnd ws r)
    (first : (ws : List (List ℕ)) (r : Rule) → ByWord ws r → FirstWrong Fits words_of ws) (early : (ws : List (List ℕ)) (r : Rule) → AtEnd ws r → EndsEarly Fits words_of ws)
    (one_by_word : (ws : List (List ℕ)) (r s : Rule) → ByWord ws r → ByWord ws s → r ≡ s) (one_at_end : (ws : List (List ℕ)) (r s : Rule) → AtEnd ws r → AtEnd ws s → r ≡ s) where
  spelled_read : (ws : List (List ℕ)) (x : A) → Spells Fits words_of ws x → read ws ≡ Ok x
  spelled_read ws x s = ap read s.1 ∙ complete x s.0

  word_read : (ws : List (List ℕ)) (r : Rule) → ByWord ws r → (o : Result A Fault) → read ws ≡ o → o ≡ Err (wrong r)
  word_read ws r h (Ok x) e = absurd (wrong_spells_not Fits words_of ws x (first ws r h) (sound ws x e))
  word_read ws r h (Err (missing s)) e = absurd (wrong_begins_not Fits words_of ws (first ws r h) (early ws s (at_end ws s e)).begins)
  word_read ws r h (Err (wrong s)) e = ap (λ q. Err (wrong q)) (one_by_word ws s r (by_word ws s e) h)

  end_read : (ws : List (List ℕ)) (r : Rule) → AtEnd ws r → (o : Result A Fault) → read ws ≡ o → o ≡ Err (missing r)
  end_read ws r h (Ok x) e = absurd ((early ws r h).unspelled x (sound ws x e))
  end_read ws r h (Err (missing s)) e = ap (λ q. Err (missing q)) (one_at_end ws s r (at_end ws s e) h)
  end_read ws r h (Err (wrong s)) e = absurd (wrong_begins_not Fits words_of ws (first ws s (by_word ws s e)) (early ws r h).begins)

  pub is_read : IsRead Fits words_of read ByWord AtEnd
  is_read = record {
    spelled = λ ws x. (sound ws x, spelled_read ws x);
    by_word = λ ws r. (by_word ws r, λ h. word_read ws r h (read ws) refl);
    at_end = λ ws r. (at_end ws r, λ h. end_read ws r h (read ws) refl);
    nothing = λ r h. nothing_wrong Fits words_of (first [] r h);
  }

-- ---- Lines that are read by their letter

-- what a form makes of a letter: no line, or one whose reader finds its faults
pub data LetterCase {A : Type 0} (at : Letter → List (List ℕ) → Result A Fault) (c : Letter) : Type 0 where
  no_line : ((ws : List (List ℕ)) → at c ws ≡ Err (wrong rules.Letter)) → LetterCase at c
  line : IsTail (c ≡ letters.Status) (at c) → LetterCase at c

s_is_same_word : same_word (codes "s") (codes "s") ≡ true
unfolding same_word
s_is_same_word = refl

module _ {A : Type 0} (Fits : A → Type 0) (words_of : A → List (List ℕ)) (at : Letter → List (List ℕ) → Result A Fault)
    (complete : (x : A) → Fits x → by_letter at (words_of x) ≡ Ok x) (sound : (ws : List (List ℕ)) (x : A) → by_letter at ws ≡ Ok x → Spells Fits words_of ws x)
    (cases : (c : Letter) → LetterCase at c) (some : (x : A) × Fits x) where
  begins_nil : Begins Fits words_of []
  begins_nil = record { value = some.0; fits = some.1; more = words_of some.0; spelled = refl }

  read_begins : (us more : List (List ℕ)) (x : A) → by_letter at (us ++ more) ≡ Ok x → Begins Fits words_of us
  read_begins us more x e = let s = sound (us ++ more) x e in record { value = x; fits = s.0; more = more; spelled = sym s.1 }

  accepts_begins : (w : List ℕ) (us : List (List ℕ)) → Accepts (at (letter_of w)) us → Begins Fits words_of (w ∷ us)
  accepts_begins w us a = read_begins (w ∷ us) a.more a.value a.is

  -- where a word could stand, the line goes on to a value
  begun : (us : List (List ℕ)) (w : List ℕ) → Begins Fits words_of (us ++ w ∷ []) → (more : List (List ℕ)) × (x : A) × (by_letter at (us ++ w ∷ more) ≡ Ok x)
  begun us w b = (b.more, b.value, ap (by_letter at) (sym (b.spelled ∙ append_assoc us (w ∷ []) b.more)) ∙ complete b.value b.fits)

  fault_begins_not : (us : List (List ℕ)) (w : List ℕ) (f : Fault) → ((more : List (List ℕ)) → by_letter at (us ++ w ∷ more) ≡ Err f) → Begins Fits words_of (us ++ w ∷ []) → ⊥
  fault_begins_not us w f h b = let g = begun us w b in cc (sym (h g.0) ∙ g.2)

  tail_rule : (w : List ℕ) (before : List (List ℕ)) (v : List ℕ) (r : Rule) → TailRule (letter_of w ≡ letters.Status) (at (letter_of w)) before v r → RuleAt Fits words_of (w ∷ before) v r
  tail_rule w before v r (status_place s e q) = status_due (cc (status_word_is_s w s, e)) q
  tail_rule w before v r (no_place x e q) = nothing_due x (sound (w ∷ before) x e) q
  tail_rule w before v r (literal_place a q) = literal_due (accepts_begins w (before ++ codes "-1" ∷ []) a) q
  tail_rule w before v r (id_place a h q) = id_due (accepts_begins w (before ++ codes "1" ∷ []) a) (fault_begins_not (w ∷ before) (codes "-1") (wrong rules.Number) h) q

  wrong_case : (w : List ℕ) (ws : List (List ℕ)) (r : Rule) → LetterCase at (letter_of w) → at (letter_of w) ws ≡ Err (wrong r) → BreaksByWord Fits words_of (w ∷ ws) r
  wrong_case w ws r (no_line none) e = let g = sym (none ws) ∙ e in let same : r ≡ rules.Letter = cc g in record {
    first = record { before = []; word = w; after = ws; parts = refl; begins = begins_nil; ends = fault_begins_not [] w (wrong rules.Letter) none };
    rule = letter_due refl same;
  }
  wrong_case w ws r (line tail) e = let t = tail.on_wrong ws r e in record {
    first = record {
      before = w ∷ t.before;
      word = t.word;
      after = t.after;
      parts = ap (λ vs. w ∷ vs) t.parts;
      begins = accepts_begins w t.before t.begins;
      ends = fault_begins_not (w ∷ t.before) t.word (wrong r) t.stays;
    };
    rule = tail_rule w t.before t.word r t.rule;
  }

  pub by_letter-wrong : (ws : List (List ℕ)) (r : Rule) → by_letter at ws ≡ Err (wrong r) → BreaksByWord Fits words_of ws r
  by_letter-wrong [] r e = cc e
  by_letter-wrong (w ∷ ws) r e = wrong_case w ws r (cases (letter_of w)) e

  other_word : (w : List ℕ) → (letter_of w ≡ letters.Status → ⊥) → same_word w (codes "s") ≡ false
  other_word w h = elim (cases_Bool (same_word w (codes "s"))) [
    | inl q ↦ absurd (h (ap letter_of (same_word-true w (codes "s") q)))
    | inr q ↦ q
  ]

  end_rule : (w : List ℕ) (ws : List (List ℕ)) (r : Rule) → ((letter_of w ≡ letters.Status) → ⊥) × (r ≡ rules.Unclosed) ⊎ (letter_of w ≡ letters.Status) × (ws ≡ []) × (r ≡ rules.Word) → r ≡ rule_at_end (w ∷ ws)
  end_rule w [] r (inl h) = rw (other_word w h.0) h.1
  end_rule w (x ∷ ws) r (inl h) = h.1
  end_rule w [] r (inr h) = rw (status_word_is_s w h.0, s_is_same_word) h.2
  end_rule w (x ∷ ws) r (inr h) = cc h.1

  missing_case : (w : List ℕ) (ws : List (List ℕ)) (r : Rule) → LetterCase at (letter_of w) → at (letter_of w) ws ≡ Err (missing r) → BreaksAtEnd Fits words_of (w ∷ ws) r
  missing_case w ws r (no_line none) e = cc (sym (none ws) ∙ e)
  missing_case w ws r (line tail) e = let t = tail.on_missing ws r e in record {
    early = record { begins = accepts_begins w ws t.begins; unspelled = λ x s. cc (sym e ∙ ap (by_letter at) s.1 ∙ complete x s.0) };
    rule = end_rule w ws r t.rule;
  }

  pub by_letter-missing : (ws : List (List ℕ)) (r : Rule) → by_letter at ws ≡ Err (missing r) → BreaksAtEnd Fits words_of ws r
  by_letter-missing [] r e = let same : r ≡ rules.Letter = cc e in record {
    early = record { begins = begins_nil; unspelled = λ x s. cc (sym e ∙ ap (by_letter at) s.1 ∙ complete x s.0) };
    rule = same;
  }
  by_letter-missing (w ∷ ws) r e = missing_case w ws r (cases (letter_of w)) e

  -- ---- A place has one rule

  more_case : (w : List ℕ) (ws : List (List ℕ)) (x : A) → LetterCase at (letter_of w) → at (letter_of w) ws ≡ Ok x → (v : List ℕ) (more : List (List ℕ)) → at (letter_of w) (ws ++ v ∷ more) ≡ Err (wrong rules.Excess)
  more_case w ws x (no_line none) e v more = cc (sym (none ws) ∙ e)
  more_case w ws x (line tail) e v more = tail.on_more ws x e v more

  -- no word may follow a whole line
  not_behind_whole : (us : List (List ℕ)) (x : A) → Spells Fits words_of us x → (v : List ℕ) → Begins Fits words_of (us ++ v ∷ []) → ⊥
  not_behind_whole us x s v b = excess us (ap (by_letter at) s.1 ∙ complete x s.0) (begun us v b)
    where
      excess : (us : List (List ℕ)) → by_letter at us ≡ Ok x → (more : List (List ℕ)) × (y : A) × (by_letter at (us ++ v ∷ more) ≡ Ok y) → ⊥
      excess [] e g = cc e
      excess (w ∷ us) e g = cc (sym (more_case w us x (cases (letter_of w)) e v g.0) ∙ g.2)

  module _ (none : (ws : List (List ℕ)) → at letters.NoLetter ws ≡ Err (wrong rules.Letter)) (no_end : (x : A) → at letters.Status [] ≡ Ok x → ⊥)
      (no_minus_one : (more : List (List ℕ)) (x : A) → at letters.Status (codes "-1" ∷ more) ≡ Ok x → ⊥) (no_one : (more : List (List ℕ)) (x : A) → at letters.Status (codes "1" ∷ more) ≡ Ok x → ⊥) where
    letter_no_whole : (us : List (List ℕ)) (x : A) → us ≡ [] → Spells Fits words_of us x → ⊥
    letter_no_whole us x e s = cc (ap (by_letter at) (sym e ∙ s.1) ∙ complete x s.0)

    status_no_whole : (us : List (List ℕ)) (x : A) → us ≡ codes "s" ∷ [] → Spells Fits words_of us x → ⊥
    status_no_whole us x e s = no_end x (ap (by_letter at) (sym e ∙ s.1) ∙ complete x s.0)

    letter_no_number : (us : List (List ℕ)) (v : List ℕ) → us ≡ [] → letter_of v ≡ letters.NoLetter → Begins Fits words_of (us ++ v ∷ []) → ⊥
    letter_no_number us v e n b = let g = begun us v b in cc (sym (ap (λ c. at c g.0) n ∙ none g.0) ∙ ap (λ vs. by_letter at (vs ++ v ∷ g.0)) (sym e) ∙ g.2)

    status_no_number : (us : List (List ℕ)) (v : List ℕ) → us ≡ codes "s" ∷ [] → ((more : List (List ℕ)) (x : A) → at letters.Status (v ∷ more) ≡ Ok x → ⊥) → Begins Fits words_of (us ++ v ∷ []) → ⊥
    status_no_number us v e n b = let g = begun us v b in n g.0 g.1 (ap (λ vs. by_letter at (vs ++ v ∷ g.0)) (sym e) ∙ g.2)

    one_rule : (us : List (List ℕ)) (w : List ℕ) (r s : Rule) → RuleAt Fits words_of us w r → RuleAt Fits words_of us w s → r ≡ s
    one_rule us w r s (letter_due e p) (letter_due f q) = p ∙ sym q
    one_rule us w r s (letter_due e p) (status_due f q) = cc (sym e ∙ f)
    one_rule us w r s (letter_due e p) (nothing_due x h q) = absurd (letter_no_whole us x e h)
    one_rule us w r s (letter_due e p) (literal_due b q) = absurd (letter_no_number us (codes "-1") e refl b)
    one_rule us w r s (letter_due e p) (id_due b n q) = absurd (letter_no_number us (codes "1") e refl b)
    one_rule us w r s (status_due e p) (letter_due f q) = cc (sym e ∙ f)
    one_rule us w r s (status_due e p) (status_due f q) = p ∙ sym q
    one_rule us w r s (status_due e p) (nothing_due x h q) = absurd (status_no_whole us x e h)
    one_rule us w r s (status_due e p) (literal_due b q) = absurd (status_no_number us (codes "-1") e no_minus_one b)
    one_rule us w r s (status_due e p) (id_due b n q) = absurd (status_no_number us (codes "1") e no_one b)
    one_rule us w r s (nothing_due x h p) (letter_due f q) = absurd (letter_no_whole us x f h)
    one_rule us w r s (nothing_due x h p) (status_due f q) = absurd (status_no_whole us x f h)
    one_rule us w r s (nothing_due x h p) (nothing_due y k q) = p ∙ sym q
    one_rule us w r s (nothing_due x h p) (literal_due b q) = absurd (not_behind_whole us x h (codes "-1") b)
    one_rule us w r s (nothing_due x h p) (id_due b n q) = absurd (not_behind_whole us x h (codes "1") b)
    one_rule us w r s (literal_due b p) (letter_due f q) = absurd (letter_no_number us (codes "-1") f refl b)
    one_rule us w r s (literal_due b p) (status_due f q) = absurd (status_no_number us (codes "-1") f no_minus_one b)
    one_rule us w r s (literal_due b p) (nothing_due x h q) = absurd (not_behind_whole us x h (codes "-1") b)
    one_rule us w r s (literal_due b p) (literal_due c q) = p ∙ sym q
    one_rule us w r s (literal_due b p) (id_due c n q) = absurd (n b)
    one_rule us w r s (id_due b n p) (letter_due f q) = absurd (letter_no_number us (codes "1") f refl b)
    one_rule us w r s (id_due b n p) (status_due f q) = absurd (status_no_number us (codes "1") f no_one b)
    one_rule us w r s (id_due b n p) (nothing_due x h q) = absurd (not_behind_whole us x h (codes "1") b)
    one_rule us w r s (id_due b n p) (literal_due c q) = absurd (n c)
    one_rule us w r s (id_due b n p) (id_due c m q) = p ∙ sym q

    pub one_rule_by_word : (ws : List (List ℕ)) (r s : Rule) → BreaksByWord Fits words_of ws r → BreaksByWord Fits words_of ws s → r ≡ s
    one_rule_by_word ws r s h k = let same = same_place Fits words_of ws h.first k.first in
        one_rule k.first.before k.first.word r s (moved h.first.before k.first.before h.first.word k.first.word same.0 same.1 h.rule) k.rule
      where
        moved : (us vs : List (List ℕ)) (v w : List ℕ) → us ≡ vs → v ≡ w → RuleAt Fits words_of us v r → RuleAt Fits words_of vs w r
        moved us vs v w e f rule = subst (λ xs. RuleAt Fits words_of xs w r) e (subst (λ x. RuleAt Fits words_of us x r) f rule)

-- a line's end has one rule
pub one_rule_at_end : {A : Type 0} (Fits : A → Type 0) (words_of : A → List (List ℕ)) (ws : List (List ℕ)) (r s : Rule)
    → BreaksAtEnd Fits words_of ws r → BreaksAtEnd Fits words_of ws s → r ≡ s
one_rule_at_end Fits words_of ws r s h k = h.rule ∙ sym k.rule

-- ---- A form

-- what a form's lines owe: what is spelled is read, what is read is spelled, each letter has its case, some value fits, and
-- behind the letter s neither the line's end nor a number is read
pub record IsForm {A : Type 0} (Fits : A → Type 0) (words_of : A → List (List ℕ)) (at : Letter → List (List ℕ) → Result A Fault) : Type 0 where
  pub complete : (x : A) → Fits x → by_letter at (words_of x) ≡ Ok x
  pub sound : (ws : List (List ℕ)) (x : A) → by_letter at ws ≡ Ok x → Spells Fits words_of ws x
  pub cases : (c : Letter) → LetterCase at c
  pub some : (x : A) × Fits x
  pub none : (ws : List (List ℕ)) → at letters.NoLetter ws ≡ Err (wrong rules.Letter)
  pub no_end : (x : A) → at letters.Status [] ≡ Ok x → ⊥
  pub no_minus_one : (more : List (List ℕ)) (x : A) → at letters.Status (codes "-1" ∷ more) ≡ Ok x → ⊥
  pub no_one : (more : List (List ℕ)) (x : A) → at letters.Status (codes "1" ∷ more) ≡ Ok x → ⊥

module _ {A : Type 0} (Fits : A → Type 0) (words_of : A → List (List ℕ)) (at : Letter → List (List ℕ) → Result A Fault) (form : IsForm Fits words_of at) where
  by_word : (ws : List (List ℕ)) (r : Rule) → by_letter at ws ≡ Err (wrong r) → BreaksByWord Fits words_of ws r
  by_word = by_letter-wrong Fits words_of at form.complete form.sound form.cases form.some

  at_end : (ws : List (List ℕ)) (r : Rule) → by_letter at ws ≡ Err (missing r) → BreaksAtEnd Fits words_of ws r
  at_end = by_letter-missing Fits words_of at form.complete form.sound form.cases form.some

  one_by_word : (ws : List (List ℕ)) (r s : Rule) → BreaksByWord Fits words_of ws r → BreaksByWord Fits words_of ws s → r ≡ s
  one_by_word = one_rule_by_word Fits words_of at form.complete form.sound form.cases form.some form.none form.no_end form.no_minus_one form.no_one

  -- the reading of the form's lines against what is spelled
  pub form_read : IsRead Fits words_of (by_letter at) (BreaksByWord Fits words_of) (BreaksAtEnd Fits words_of)
  form_read = is_read Fits words_of (by_letter at) (BreaksByWord Fits words_of) (BreaksAtEnd Fits words_of) form.complete form.sound by_word at_end
      (λ ws r h. h.first) (λ ws r h. h.early) one_by_word (one_rule_at_end Fits words_of)
