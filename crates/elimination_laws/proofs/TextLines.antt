-- The lines of a text are those of its header and its values, and no others.
use Rattle.std.proofs.Common.{◌≡◌, ℕ, suc, ◌+◌, ◌^◌, ◌<◌, ◌≤◌, Bool, true, false, not, nat_eq, List, [], ◌∷◌, ◌++◌, length, map, filter, flat_map, All, take, take_all, decimal, refl, sym, ◌∙◌, ap, subst, arith, suc-le-suc, zero-lt-suc, inl, inr, leb-true, ne_eqb, le-ltb, append_assoc}
use Rattle.std.specs.List.{list_all, slice_split, onto_first}
use Rattle.std.proofs.lemmas.List.Splits.{slice_split-cons_yes, slice_split-cons_no}
use Rattle.std.specs.Str.{all_ascii_digits}
use Rattle.std.specs.Char.{is_ascii_digit}
use Rattle.std.proofs.lemmas.List.Folds.{list_all-append}
use Rattle.std.proofs.lemmas.Bool.{and_parts, and_from, cases_Bool, not-true}
use Rattle.lits.specs.Literal.{IsLiteral, positive, var}
use Rattle.lits.specs.Word.{literal_text}
use Rattle.lits.proofs.Words.{IsWord-decimal}
use Rattle.session_rules.specs.declared.StatusWord.{StatusWord}
use Rattle.session_rules.specs.declared.StatusWord.TheVariants.{Satisfiable, Unsatisfiable, Unknown}
use Rattle.session_rules.specs.declared.Event.{Event}
use Rattle.session_rules.specs.declared.Event.TheVariants as events
use Rattle.session_rules.specs.declared.Step.{Step}
use Rattle.session_rules.specs.declared.Step.TheVariants as steps
use Rattle.session_rules.specs.declared.LStep.{LStep}
use Rattle.session_rules.specs.declared.LStep.TheVariants as lsteps
use Rattle.session_rules.specs.Lines.{Line, lines, lines_within, all_lines, numbered, line_of, counts, words, is_blank, is_line_feed, most_bytes}
use Rattle.session_rules.specs.Spelling.{literal_words, id_words, status_text, event_words, step_words, id_step_words, header_words, line_text, text, AreLiterals, AreIds, IsId, IsEvent, IsStep, IsIdStep}
use Rattle.session_rules.proofs.Spelled.{All-cons, is_plain, is_word, is_plain_word, IsPlainLine, proof_event}

module _ {X : Type 0} (P : X → Type 0) where
  pub All-first : (x : X) (xs : List X) → All P (x ∷ xs) → P x
  All-first x xs h = h 0 x (zero-lt-suc _)

  pub All-more : (x : X) (xs : List X) → All P (x ∷ xs) → All P xs
  All-more x xs h = λ k d lt. h (suc k) d (suc-le-suc lt)

-- ---- The words of values have no byte that separates

digit_plain : (b : ℕ) → is_ascii_digit b ≡ true → is_plain b ≡ true
digit_plain b e = let at = and_parts _ _ e in let low : 48 ≤ b = leb-true _ _ at.0 in
    let space : nat_eq b 32 ≡ false = ne_eqb b 32 (λ f. omega arith) in
    let tab : nat_eq b 9 ≡ false = ne_eqb b 9 (λ f. omega arith) in
    let cr : nat_eq b 13 ≡ false = ne_eqb b 13 (λ f. omega arith) in
    let lf : nat_eq b 10 ≡ false = ne_eqb b 10 (λ f. omega arith) in
    rw (space, tab, cr, lf) refl

digits_plain : (ds : List ℕ) → all_ascii_digits ds ≡ true → list_all is_plain ds ≡ true
digits_plain [] e = refl
digits_plain (d ∷ ds) e = let parts = and_parts (is_ascii_digit d) (all_ascii_digits ds) e in and_from _ _ (digit_plain d parts.0) (digits_plain ds parts.1)

not_empty : (w : List ℕ) → 0 < length w → is_word w ≡ true
not_empty [] h = absurd (omega arith)
not_empty (b ∷ bs) h = refl

decimal_plain : (n : ℕ) → 0 < n → n < 2 ^ 63 → is_plain_word (decimal n) ≡ true
decimal_plain n pos small = let w = IsWord-decimal n pos small in and_from _ _ (not_empty (decimal n) w.nonempty) (digits_plain (decimal n) w.digits)

literal_plain : (l : ℕ) → IsLiteral l → is_plain_word (literal_text l) ≡ true
literal_plain l small = elim (cases_Bool (positive l)) [
  | inl q ↦ rw q (decimal_plain (var l) (omega arith) (omega arith))
  | inr q ↦ rw q (let w = IsWord-decimal (var l) (omega arith) (omega arith) in and_from _ _ refl (digits_plain (decimal (var l)) w.digits))
]

literal_words_plain : (ls : List ℕ) → AreLiterals ls → list_all is_plain_word (literal_words ls) ≡ true
literal_words_plain [] h = refl
literal_words_plain (l ∷ ls) h = and_from _ _ (literal_plain l (All-first IsLiteral l ls h)) (literal_words_plain ls (All-more IsLiteral l ls h))

id_words_plain : (is : List ℕ) → AreIds is → list_all is_plain_word (id_words is) ≡ true
id_words_plain [] h = refl
id_words_plain (i ∷ is) h = let own = All-first IsId i is h in and_from _ _ (decimal_plain i own.0 own.1) (id_words_plain is (All-more IsId i is h))

both_plain : (ws xs : List (List ℕ)) → list_all is_plain_word ws ≡ true → list_all is_plain_word xs ≡ true → list_all is_plain_word (ws ++ xs) ≡ true
both_plain ws xs h k = list_all-append is_plain_word ws xs ∙ and_from _ _ h k

status_plain : (s : StatusWord) → list_all is_plain_word (status_text s ∷ []) ≡ true
status_plain Satisfiable = refl
status_plain Unsatisfiable = refl
status_plain Unknown = refl

pub event_plain : (e : Event) → IsEvent e → IsPlainLine (event_words e)
event_plain (events.Input ls) h = record { content = refl; each = literal_words_plain ls h }
event_plain (events.Query ls) h = record { content = refl; each = literal_words_plain ls h }
event_plain (events.Status s) h = record { content = refl; each = status_plain s }
event_plain (events.Model ls) h = record { content = refl; each = literal_words_plain ls h }
event_plain (events.Core ls) h = record { content = refl; each = literal_words_plain ls h }
event_plain (events.Values ls) h = record { content = refl; each = literal_words_plain ls h }
event_plain (events.Failed ls) h = record { content = refl; each = literal_words_plain ls h }

pub step_plain : (p : Step) → IsStep p → IsPlainLine (step_words p)
step_plain (steps.Event e) h = event_plain e (proof_event e h)
step_plain (steps.Lemma ls) h = record { content = refl; each = literal_words_plain ls h }
step_plain (steps.Delete ls) h = record { content = refl; each = literal_words_plain ls h }
step_plain (steps.Weaken ls) h = record { content = refl; each = literal_words_plain ls h }
step_plain (steps.Restore ls) h = record { content = refl; each = literal_words_plain ls h }

pub id_step_plain : (p : LStep) → IsIdStep p → IsPlainLine (id_step_words p)
id_step_plain (lsteps.Input id ls) h = record { content = refl; each = and_from _ _ (decimal_plain id h.0.0 h.0.1) (literal_words_plain ls h.1) }
id_step_plain (lsteps.Lemma id ls hs) h = record {
  content = refl;
  each = and_from _ _ (decimal_plain id h.0.0 h.0.1) (both_plain (literal_words ls) (id_words hs) (literal_words_plain ls h.1) (id_words_plain hs h.2));
}
id_step_plain (lsteps.Delete is) h = record { content = refl; each = id_words_plain is h }
id_step_plain (lsteps.Weaken is) h = record { content = refl; each = id_words_plain is h }
id_step_plain (lsteps.Restore is) h = record { content = refl; each = id_words_plain is h }
id_step_plain (lsteps.Query ls) h = record { content = refl; each = literal_words_plain ls h }
id_step_plain (lsteps.Status s) h = record { content = refl; each = status_plain s }
id_step_plain (lsteps.Model ls) h = record { content = refl; each = literal_words_plain ls h }
id_step_plain (lsteps.Core ls hs) h = record { content = refl; each = both_plain (literal_words ls) (id_words hs) (literal_words_plain ls h.0) (id_words_plain hs h.1) }

-- ---- Words, joined and split again

-- the words with a space between each two
abbrev joined : List (List ℕ) → List ℕ
joined [] = []
joined (w ∷ []) = w
joined (w ∷ x ∷ ws) = w ++ 32 ∷ joined (x ∷ ws)

line_text-joined : (ws : List (List ℕ)) → line_text ws ≡ joined ws ++ 10 ∷ []
line_text-joined [] = refl
line_text-joined (w ∷ []) = refl
line_text-joined (w ∷ x ∷ ws) = rw (line_text-joined (x ∷ ws)) (sym (append_assoc w (32 ∷ joined (x ∷ ws)) (10 ∷ [])))

all_not : (p q : ℕ → Bool) → ((b : ℕ) → q b ≡ true → p b ≡ false) → (xs : List ℕ) → list_all q xs ≡ true → list_all (λ b. not (p b)) xs ≡ true
all_not p q h [] e = refl
all_not p q h (x ∷ xs) e = let parts = and_parts _ _ e in rw (h x parts.0) (all_not p q h xs parts.1)

plain_not_blank : (b : ℕ) → is_plain b ≡ true → is_blank b ≡ false
plain_not_blank b e = not-true _ (and_parts _ _ e).0

plain_not_line_feed : (b : ℕ) → is_plain b ≡ true → is_line_feed b ≡ false
plain_not_line_feed b e = not-true _ (and_parts _ _ e).1

module _ (p : ℕ → Bool) where
  -- bytes up to the first that separates are the first part
  split-separated : (xs ys : List ℕ) (s : ℕ) → list_all (λ b. not (p b)) xs ≡ true → p s ≡ true → slice_split p (xs ++ s ∷ ys) ≡ xs ∷ slice_split p ys
  split-separated [] ys s e h = slice_split-cons_yes p s ys h
  split-separated (x ∷ xs) ys s e h = let parts = and_parts _ _ e in
      slice_split-cons_no p x (xs ++ s ∷ ys) (not-true _ parts.0) ∙ ap (onto_first x) (split-separated xs ys s parts.1 h)

  split-whole : (xs : List ℕ) → list_all (λ b. not (p b)) xs ≡ true → slice_split p xs ≡ xs ∷ []
  split-whole [] e = refl
  split-whole (x ∷ xs) e = let parts = and_parts _ _ e in
      slice_split-cons_no p x xs (not-true _ parts.0) ∙ ap (onto_first x) (split-whole xs parts.1)

plain_bytes : (w : List ℕ) → is_plain_word w ≡ true → list_all (λ b. not (is_blank b)) w ≡ true
plain_bytes w e = all_not is_blank is_plain plain_not_blank w (and_parts _ _ e).1

plain_bytes_of_line : (w : List ℕ) → is_plain_word w ≡ true → list_all (λ b. not (is_line_feed b)) w ≡ true
plain_bytes_of_line w e = all_not is_line_feed is_plain plain_not_line_feed w (and_parts _ _ e).1

split-joined : (w : List ℕ) (ws : List (List ℕ)) → list_all is_plain_word (w ∷ ws) ≡ true → slice_split is_blank (joined (w ∷ ws)) ≡ w ∷ ws
split-joined w [] e = split-whole is_blank w (plain_bytes w (and_parts _ _ e).0)
split-joined w (x ∷ ws) e = let parts = and_parts _ _ e in
    split-separated is_blank w (joined (x ∷ ws)) 32 (plain_bytes w parts.0) refl ∙ ap (λ vs. w ∷ vs) (split-joined x ws parts.1)

joined_no_line_feed : (ws : List (List ℕ)) → list_all is_plain_word ws ≡ true → list_all (λ b. not (is_line_feed b)) (joined ws) ≡ true
joined_no_line_feed [] e = refl
joined_no_line_feed (w ∷ []) e = plain_bytes_of_line w (and_parts _ _ e).0
joined_no_line_feed (w ∷ x ∷ ws) e = let parts = and_parts _ _ e in
    rw (list_all-append (λ b. not (is_line_feed b)) w (32 ∷ joined (x ∷ ws)), plain_bytes_of_line w parts.0) (joined_no_line_feed (x ∷ ws) parts.1)

filter-all : (p : List ℕ → Bool) (ws : List (List ℕ)) → list_all p ws ≡ true → filter p ws ≡ ws
filter-all p [] e = refl
filter-all p (w ∷ ws) e = let parts = and_parts (p w) (list_all p ws) e in rw (parts.0, filter-all p ws parts.1) refl

all_words : (ws : List (List ℕ)) → list_all is_plain_word ws ≡ true → list_all is_word ws ≡ true
all_words [] e = refl
all_words (w ∷ ws) e = let parts = and_parts _ _ e in and_from _ _ (and_parts _ _ parts.0).0 (all_words ws parts.1)

words-joined : (ws : List (List ℕ)) → IsPlainLine ws → words (joined ws) ≡ ws
unfolding words
words-joined [] h = refl
words-joined (w ∷ ws) h = ap (filter is_word) (split-joined w ws h.each) ∙ filter-all is_word (w ∷ ws) (all_words (w ∷ ws) h.each)

-- the lines of these words, from a number on
abbrev pub spelled_lines : ℕ → List (List (List ℕ)) → List Line
spelled_lines n [] = []
spelled_lines n (ws ∷ more) = record { number = n; words = ws; cut = false; word_cut = false } ∷ spelled_lines (n + 1) more

counted-joined : (n : ℕ) (ws : List (List ℕ)) (more : List Line) → IsPlainLine ws
    → filter counts (line_of n false (joined ws) ∷ more) ≡ record { number = n; words = ws; cut = false; word_cut = false } ∷ filter counts more
counted-joined n ws more h = rw (words-joined ws h, h.content) refl

counted-text : (wss : List (List (List ℕ))) (n : ℕ) → All IsPlainLine wss
    → filter counts (numbered n false (slice_split is_line_feed (flat_map line_text wss))) ≡ spelled_lines n wss
unfolding numbered words
counted-text [] n h = refl
counted-text (ws ∷ more) n h = let own = All-first IsPlainLine ws more h in let rest = flat_map line_text more in
    let parted : slice_split is_line_feed (line_text ws ++ rest) ≡ joined ws ∷ slice_split is_line_feed rest =
    rw (line_text-joined ws, append_assoc) (split-separated is_line_feed (joined ws) rest 10 (joined_no_line_feed ws own.each) refl) in
    ap (λ ts. filter counts (numbered n false ts)) parted
    ∙ counted-joined n ws (numbered (n + 1) false (slice_split is_line_feed rest)) own
    ∙ ap (λ ls. record { number = n; words = ws; cut = false; word_cut = false } ∷ ls) (counted-text more (n + 1) (All-more IsPlainLine ws more h))

-- the lines of a text of at most so many bytes
lines_within-spelled : (bound : ℕ) (wss : List (List (List ℕ))) → All IsPlainLine wss → length (flat_map line_text wss) ≤ bound
    → lines_within bound (flat_map line_text wss) ≡ spelled_lines 1 wss
unfolding lines_within all_lines
lines_within-spelled bound wss h small =
    ap (λ c. filter counts (numbered 1 c (slice_split is_line_feed (take bound (flat_map line_text wss))))) (le-ltb _ _ small)
    ∙ ap (λ t. filter counts (numbered 1 false (slice_split is_line_feed t))) (take_all bound (flat_map line_text wss) small)
    ∙ counted-text wss 1 h

-- ---- The lines of values

module _ {A : Type 0} (Fits : A → Type 0) (words_of : A → List (List ℕ)) (plain : (x : A) → Fits x → IsPlainLine (words_of x)) where
  all_plain : (xs : List A) → All Fits xs → All IsPlainLine (map words_of xs)
  all_plain [] h = λ k d lt. absurd (omega arith)
  all_plain (x ∷ xs) h = All-cons IsPlainLine (words_of x) (map words_of xs) (plain x (All-first Fits x xs h)) (all_plain xs (All-more Fits x xs h))

  each_line : (xs : List A) → flat_map (λ v. line_text (words_of v)) xs ≡ flat_map line_text (map words_of xs)
  each_line [] = refl
  each_line (x ∷ xs) = ap (λ zs. line_text (words_of x) ++ zs) (each_line xs)

  pub lines-text : (name : List ℕ) (xs : List A) → IsPlainLine (header_words name) → All Fits xs → length (text words_of name xs) ≤ most_bytes
      → lines (text words_of name xs) ≡ spelled_lines 1 (header_words name ∷ map words_of xs)
  unfolding lines
  lines-text name xs header h small =
      let is : text words_of name xs ≡ flat_map line_text (header_words name ∷ map words_of xs) = ap (λ ys. line_text (header_words name) ++ ys) (each_line xs) in
      let short : length (flat_map line_text (header_words name ∷ map words_of xs)) ≤ most_bytes = subst (λ z. length z ≤ most_bytes) is small in
      ap (lines_within most_bytes) is
      ∙ lines_within-spelled most_bytes (header_words name ∷ map words_of xs) (All-cons IsPlainLine (header_words name) (map words_of xs) header (all_plain xs h)) short
