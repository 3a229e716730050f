-- What the words of a value say is the value, and the lines of a text are the words of its values.
use Rattle.std.proofs.Common.{◌≡◌, ℕ, zero, suc, ◌+◌, ◌^◌, ◌<◌, ◌≤◌, Bool, true, false, not, ◌&&◌, nat_eq, List, [], ◌∷◌, ◌++◌, length, map, filter, flat_map, All, drop, decimal, None, Result, Ok, refl, sym, ap, subst, arith, append-nil, append_assoc, suc-le-suc, le_of_suc-le-suc, zero-lt-suc, take, take_all, le-ltb, inl, inr}
use Rattle.std.proofs.Common.{◌∙◌, codes}
use Rattle.std.specs.List.{list_all, slice_split, onto_first}
use Rattle.std.proofs.lemmas.List.Splits.{slice_split-cons_yes, slice_split-cons_no}
use Rattle.std.proofs.lemmas.List.Folds.{list_all-append}
use Rattle.std.proofs.lemmas.Bool.{and_parts, and_from, cases_Bool, not-true}
use Rattle.std.specs.Str.{all_ascii_digits}
use Rattle.std.specs.Char.{is_ascii_digit}
use Rattle.std.proofs.Common.{leb-true, ne_eqb}
use Rattle.lits.specs.Literal.{IsLiteral, positive, var}
use Rattle.lits.specs.Word.{literal_word, id_word, literal_text}
use Rattle.lits.proofs.Words.{literal_word-literal_text, id_word-decimal, IsWord-decimal}
use Rattle.session_rules.specs.declared.StatusWord.{StatusWord}
use Rattle.session_rules.specs.declared.StatusWord.TheVariants.{Satisfiable, Unsatisfiable, Unknown}
use Rattle.session_rules.specs.declared.Event.{Event}
use Rattle.session_rules.specs.declared.Event.TheVariants as events
use Rattle.session_rules.specs.declared.Step.{Step}
use Rattle.session_rules.specs.declared.Step.TheVariants as steps
use Rattle.session_rules.specs.declared.LStep.{LStep}
use Rattle.session_rules.specs.declared.LStep.TheVariants as lsteps
use Rattle.session_rules.specs.Lines.{Line, lines, most_bytes, end_line, lines_within, all_lines, numbered, line_of, counts, words, is_nil, is_blank, is_line_feed, has_content}
use Rattle.session_rules.specs.Reading.{Fault, literal_list, id_list, own_id, status_word, same_word, of_literals, of_ids, of_status, icnf_line, script_line, idrup_line, lidrup_line, header_line, header_fault, first_fault, with_number, rule_or_none, of_whole_line, values_of, steps_of}
use Rattle.session_rules.specs.Spelling.{literal_words, id_words, status_text, event_words, step_words, id_step_words, header_words, line_text, text, AreLiterals, AreIds, IsId, IsEvent, IsProofEvent, IsScriptLine, IsStep, IsIdStep, numbered_values}
use Rattle.std.proofs.lemmas.List.{length-map}
use Rattle.session_rules.specs.Verdicts.{IsReadAs}

-- ---- From words to values

module _ {X : Type 0} (P : X → Type 0) where
  All-head : (x : X) (xs : List X) → All P (x ∷ xs) → P x
  All-head x xs h = h 0 x (zero-lt-suc _)

  All-tail : (x : X) (xs : List X) → All P (x ∷ xs) → All P xs
  All-tail x xs h = λ k d lt. h (suc k) d (suc-le-suc lt)

pub All-cons : {X : Type 0} (P : X → Type 0) (x : X) (xs : List X) → P x → All P xs → All P (x ∷ xs)
All-cons P x xs p h zero d lt = p
All-cons P x xs p h (suc k) d lt = h k d (le_of_suc-le-suc lt)

pub literal_list-literal_words : (ls : List ℕ) (ws : List (List ℕ)) → AreLiterals ls → literal_list (literal_words ls ++ ws) ≡ Ok (ls, ws)
unfolding literal_list literal_word
literal_list-literal_words [] ws h = refl
literal_list-literal_words (l ∷ ls) ws h =
    rw (literal_word-literal_text l (All-head IsLiteral l ls h), literal_list-literal_words ls ws (All-tail IsLiteral l ls h)) refl

pub id_list-id_words : (is : List ℕ) (ws : List (List ℕ)) → AreIds is → id_list (id_words is ++ ws) ≡ Ok (is, ws)
unfolding id_list id_word
id_list-id_words [] ws h = refl
id_list-id_words (i ∷ is) ws h = let own = All-head IsId i is h in
    rw (id_word-decimal i own.0 own.1, id_list-id_words is ws (All-tail IsId i is h)) refl

-- a list at a line's end
of_literals-literal_words : {A : Type 0} (make : List ℕ → A) (ls : List ℕ) → AreLiterals ls → of_literals make (literal_words ls) ≡ Ok (make ls)
of_literals-literal_words make ls h = let e : literal_list (literal_words ls) ≡ Ok (ls, []) = rw append-nil at (literal_list-literal_words ls [] h) in rw e refl

of_ids-id_words : {A : Type 0} (make : List ℕ → A) (is : List ℕ) → AreIds is → of_ids make (id_words is) ≡ Ok (make is)
of_ids-id_words make is h = let e : id_list (id_words is) ≡ Ok (is, []) = rw append-nil at (id_list-id_words is [] h) in rw e refl

of_status-status_text : {A : Type 0} (make : StatusWord → A) (s : StatusWord) → of_status make (status_text s ∷ []) ≡ Ok (make s)
unfolding status_word same_word
of_status-status_text make Satisfiable = refl
of_status-status_text make Unsatisfiable = refl
of_status-status_text make Unknown = refl

-- the words of an event are read as it
pub icnf_line-event_words : (e : Event) → IsEvent e → icnf_line (event_words e) ≡ Ok e
unfolding icnf_line
icnf_line-event_words (events.Input ls) h = of_literals-literal_words events.Input ls h
icnf_line-event_words (events.Query ls) h = of_literals-literal_words events.Query ls h
icnf_line-event_words (events.Status s) h = of_status-status_text events.Status s
icnf_line-event_words (events.Model ls) h = of_literals-literal_words events.Model ls h
icnf_line-event_words (events.Core ls) h = of_literals-literal_words events.Core ls h
icnf_line-event_words (events.Values ls) h = of_literals-literal_words events.Values ls h
icnf_line-event_words (events.Failed ls) h = of_literals-literal_words events.Failed ls h

-- the words of a script's line are read as it
pub script_line-event_words : (e : Event) → IsScriptLine e → script_line (event_words e) ≡ Ok e
unfolding script_line
script_line-event_words (events.Input ls) h = of_literals-literal_words events.Input ls h
script_line-event_words (events.Query ls) h = of_literals-literal_words events.Query ls h
script_line-event_words (events.Status s) h = absurd h
script_line-event_words (events.Model ls) h = absurd h
script_line-event_words (events.Core ls) h = absurd h
script_line-event_words (events.Values ls) h = absurd h
script_line-event_words (events.Failed ls) h = absurd h

-- the words of a step are read as it
pub idrup_line-step_words : (p : Step) → IsStep p → idrup_line (step_words p) ≡ Ok p
unfolding idrup_line
idrup_line-step_words (steps.Event (events.Input ls)) h = rw (of_literals-literal_words events.Input ls h) refl
idrup_line-step_words (steps.Event (events.Query ls)) h = rw (of_literals-literal_words events.Query ls h) refl
idrup_line-step_words (steps.Event (events.Status s)) h = rw (of_status-status_text events.Status s) refl
idrup_line-step_words (steps.Event (events.Model ls)) h = rw (of_literals-literal_words events.Model ls h) refl
idrup_line-step_words (steps.Event (events.Core ls)) h = rw (of_literals-literal_words events.Core ls h) refl
idrup_line-step_words (steps.Event (events.Values ls)) h = absurd h
idrup_line-step_words (steps.Event (events.Failed ls)) h = absurd h
idrup_line-step_words (steps.Lemma ls) h = of_literals-literal_words steps.Lemma ls h
idrup_line-step_words (steps.Delete ls) h = of_literals-literal_words steps.Delete ls h
idrup_line-step_words (steps.Weaken ls) h = of_literals-literal_words steps.Weaken ls h
idrup_line-step_words (steps.Restore ls) h = of_literals-literal_words steps.Restore ls h

-- the words of a step with ids are read as it
pub lidrup_line-id_step_words : (p : LStep) → IsIdStep p → lidrup_line (id_step_words p) ≡ Ok p
unfolding lidrup_line own_id
lidrup_line-id_step_words (lsteps.Input id ls) h = rw (id_word-decimal id h.0.0 h.0.1) (of_literals-literal_words (lsteps.Input id) ls h.1)
lidrup_line-id_step_words (lsteps.Lemma id ls hs) h =
    rw (id_word-decimal id h.0.0 h.0.1, literal_list-literal_words ls (id_words hs) h.1) (of_ids-id_words (lsteps.Lemma id ls) hs h.2)
lidrup_line-id_step_words (lsteps.Delete is) h = of_ids-id_words lsteps.Delete is h
lidrup_line-id_step_words (lsteps.Weaken is) h = of_ids-id_words lsteps.Weaken is h
lidrup_line-id_step_words (lsteps.Restore is) h = of_ids-id_words lsteps.Restore is h
lidrup_line-id_step_words (lsteps.Query ls) h = of_literals-literal_words lsteps.Query ls h
lidrup_line-id_step_words (lsteps.Status s) h = of_status-status_text lsteps.Status s
lidrup_line-id_step_words (lsteps.Model ls) h = of_literals-literal_words lsteps.Model ls h
lidrup_line-id_step_words (lsteps.Core ls hs) h = rw (literal_list-literal_words ls (id_words hs) h.0) (of_ids-id_words (lsteps.Core ls) hs h.1)

-- ---- From text to lines

-- a byte of a word
abbrev pub is_plain : ℕ → Bool
is_plain b = not (is_blank b) && not (is_line_feed b)

-- whether there is a byte
abbrev pub is_word : List ℕ → Bool
is_word w = not (is_nil w)

-- a word as bytes can have it
abbrev pub is_plain_word : List ℕ → Bool
is_plain_word w = is_word w && list_all is_plain w

-- words of a line that counts
pub record IsPlainLine (ws : List (List ℕ)) : Type 0 where
  pub content : has_content ws ≡ true
  pub each : list_all is_plain_word ws ≡ true

-- the words with a space between each two
joined : List (List ℕ) → List ℕ
joined [] = []
joined (w ∷ []) = w
joined (w ∷ x ∷ ws) = w ++ 32 ∷ joined (x ∷ ws)

line_text-joined : (ws : List (List ℕ)) → line_text ws ≡ joined ws ++ 10 ∷ []
unfolding joined
line_text-joined [] = refl
line_text-joined (w ∷ []) = refl
line_text-joined (w ∷ x ∷ ws) = rw (line_text-joined (x ∷ ws)) (sym (append_assoc w (32 ∷ joined (x ∷ ws)) (10 ∷ [])))

all_not : (p q : ℕ → Bool) → ((b : ℕ) → q b ≡ true → p b ≡ false) → (xs : List ℕ) → list_all q xs ≡ true → list_all (λ b. not (p b)) xs ≡ true
all_not p q h [] e = refl
all_not p q h (x ∷ xs) e = let parts = and_parts _ _ e in rw (h x parts.0) (all_not p q h xs parts.1)

plain_not_blank : (b : ℕ) → is_plain b ≡ true → is_blank b ≡ false
plain_not_blank b e = not-true _ (and_parts _ _ e).0

plain_not_line_feed : (b : ℕ) → is_plain b ≡ true → is_line_feed b ≡ false
plain_not_line_feed b e = not-true _ (and_parts _ _ e).1

module _ (p : ℕ → Bool) where
  -- bytes up to the first that separates are the first part
  split-separated : (xs ys : List ℕ) (s : ℕ) → list_all (λ b. not (p b)) xs ≡ true → p s ≡ true → slice_split p (xs ++ s ∷ ys) ≡ xs ∷ slice_split p ys
  split-separated [] ys s e h = slice_split-cons_yes p s ys h
  split-separated (x ∷ xs) ys s e h = let parts = and_parts _ _ e in
      slice_split-cons_no p x (xs ++ s ∷ ys) (not-true _ parts.0) ∙ ap (onto_first x) (split-separated xs ys s parts.1 h)

  split-whole : (xs : List ℕ) → list_all (λ b. not (p b)) xs ≡ true → slice_split p xs ≡ xs ∷ []
  split-whole [] e = refl
  split-whole (x ∷ xs) e = let parts = and_parts _ _ e in
      slice_split-cons_no p x xs (not-true _ parts.0) ∙ ap (onto_first x) (split-whole xs parts.1)

plain_bytes : (w : List ℕ) → is_plain_word w ≡ true → list_all (λ b. not (is_blank b)) w ≡ true
plain_bytes w e = all_not is_blank is_plain plain_not_blank w (and_parts _ _ e).1

plain_bytes_of_line : (w : List ℕ) → is_plain_word w ≡ true → list_all (λ b. not (is_line_feed b)) w ≡ true
plain_bytes_of_line w e = all_not is_line_feed is_plain plain_not_line_feed w (and_parts _ _ e).1

split-joined : (w : List ℕ) (ws : List (List ℕ)) → list_all is_plain_word (w ∷ ws) ≡ true → slice_split is_blank (joined (w ∷ ws)) ≡ w ∷ ws
unfolding joined
split-joined w [] e = split-whole is_blank w (plain_bytes w (and_parts _ _ e).0)
split-joined w (x ∷ ws) e = let parts = and_parts _ _ e in
    split-separated is_blank w (joined (x ∷ ws)) 32 (plain_bytes w parts.0) refl ∙ ap (λ vs. w ∷ vs) (split-joined x ws parts.1)

joined_no_line_feed : (ws : List (List ℕ)) → list_all is_plain_word ws ≡ true → list_all (λ b. not (is_line_feed b)) (joined ws) ≡ true
unfolding joined
joined_no_line_feed [] e = refl
joined_no_line_feed (w ∷ []) e = plain_bytes_of_line w (and_parts _ _ e).0
joined_no_line_feed (w ∷ x ∷ ws) e = let parts = and_parts _ _ e in
    rw (list_all-append (λ b. not (is_line_feed b)) w (32 ∷ joined (x ∷ ws)), plain_bytes_of_line w parts.0) (joined_no_line_feed (x ∷ ws) parts.1)

filter-all : (p : List ℕ → Bool) (ws : List (List ℕ)) → list_all p ws ≡ true → filter p ws ≡ ws
filter-all p [] e = refl
filter-all p (w ∷ ws) e = let parts = and_parts (p w) (list_all p ws) e in rw (parts.0, filter-all p ws parts.1) refl

all_words : (ws : List (List ℕ)) → list_all is_plain_word ws ≡ true → list_all is_word ws ≡ true
all_words [] e = refl
all_words (w ∷ ws) e = let parts = and_parts _ _ e in and_from _ _ (and_parts _ _ parts.0).0 (all_words ws parts.1)

words-joined : (ws : List (List ℕ)) → IsPlainLine ws → words (joined ws) ≡ ws
unfolding words
words-joined [] h = cc h.content
words-joined (w ∷ ws) h = ap (filter is_word) (split-joined w ws h.each) ∙ filter-all is_word (w ∷ ws) (all_words (w ∷ ws) h.each)

-- the lines of these words, from a number on
pub plain_lines : ℕ → List (List (List ℕ)) → List Line
plain_lines n [] = []
plain_lines n (ws ∷ more) = record { number = n; words = ws; cut = false; word_cut = false } ∷ plain_lines (n + 1) more

counted-joined : (n : ℕ) (ws : List (List ℕ)) (more : List Line) → IsPlainLine ws
    → filter counts (line_of n false (joined ws) ∷ more) ≡ record { number = n; words = ws; cut = false; word_cut = false } ∷ filter counts more
counted-joined n ws more h = rw (words-joined ws h, h.content) refl

counted-text : (wss : List (List (List ℕ))) (n : ℕ) → All IsPlainLine wss
    → filter counts (numbered n false (slice_split is_line_feed (flat_map line_text wss))) ≡ plain_lines n wss
unfolding numbered plain_lines words
counted-text [] n h = refl
counted-text (ws ∷ more) n h = let own = All-head IsPlainLine ws more h in let rest = flat_map line_text more in
    let parted : slice_split is_line_feed (line_text ws ++ rest) ≡ joined ws ∷ slice_split is_line_feed rest =
    rw (line_text-joined ws, append_assoc) (split-separated is_line_feed (joined ws) rest 10 (joined_no_line_feed ws own.each) refl) in
    ap (λ ts. filter counts (numbered n false ts)) parted
    ∙ counted-joined n ws (numbered (n + 1) false (slice_split is_line_feed rest)) own
    ∙ ap (λ ls. record { number = n; words = ws; cut = false; word_cut = false } ∷ ls) (counted-text more (n + 1) (All-tail IsPlainLine ws more h))

-- the lines of a text of at most so many bytes
pub lines_within-text : (bound : ℕ) (wss : List (List (List ℕ))) → All IsPlainLine wss → length (flat_map line_text wss) ≤ bound
    → lines_within bound (flat_map line_text wss) ≡ plain_lines 1 wss
unfolding lines_within all_lines
lines_within-text bound wss h small =
    ap (λ c. filter counts (numbered 1 c (slice_split is_line_feed (take bound (flat_map line_text wss))))) (le-ltb _ _ small)
    ∙ ap (λ t. filter counts (numbered 1 false (slice_split is_line_feed t))) (take_all bound (flat_map line_text wss) small)
    ∙ counted-text wss 1 h

-- ---- The words of values are words of a line

digit_plain : (b : ℕ) → is_ascii_digit b ≡ true → is_plain b ≡ true
digit_plain b e = let at = and_parts _ _ e in let low : 48 ≤ b = leb-true _ _ at.0 in
    let space : nat_eq b 32 ≡ false = ne_eqb b 32 (λ f. omega arith) in
    let tab : nat_eq b 9 ≡ false = ne_eqb b 9 (λ f. omega arith) in
    let cr : nat_eq b 13 ≡ false = ne_eqb b 13 (λ f. omega arith) in
    let lf : nat_eq b 10 ≡ false = ne_eqb b 10 (λ f. omega arith) in
    rw (space, tab, cr, lf) refl

digits_plain : (ds : List ℕ) → all_ascii_digits ds ≡ true → list_all is_plain ds ≡ true
digits_plain [] e = refl
digits_plain (d ∷ ds) e = let parts = and_parts (is_ascii_digit d) (all_ascii_digits ds) e in and_from _ _ (digit_plain d parts.0) (digits_plain ds parts.1)

not_empty : (w : List ℕ) → 0 < length w → is_word w ≡ true
not_empty [] h = absurd (omega arith)
not_empty (b ∷ bs) h = refl

decimal_plain : (n : ℕ) → 0 < n → n < 2 ^ 63 → is_plain_word (decimal n) ≡ true
decimal_plain n pos small = let w = IsWord-decimal n pos small in and_from _ _ (not_empty (decimal n) w.nonempty) (digits_plain (decimal n) w.digits)

literal_plain : (l : ℕ) → IsLiteral l → is_plain_word (literal_text l) ≡ true
literal_plain l small = elim (cases_Bool (positive l)) [
  | inl q ↦ rw q (decimal_plain (var l) (omega arith) (omega arith))
  | inr q ↦ rw q (let w = IsWord-decimal (var l) (omega arith) (omega arith) in and_from _ _ refl (digits_plain (decimal (var l)) w.digits))
]

literal_words_plain : (ls : List ℕ) → AreLiterals ls → list_all is_plain_word (literal_words ls) ≡ true
literal_words_plain [] h = refl
literal_words_plain (l ∷ ls) h = and_from _ _ (literal_plain l (All-head IsLiteral l ls h)) (literal_words_plain ls (All-tail IsLiteral l ls h))

status_plain : (s : StatusWord) → list_all is_plain_word (status_text s ∷ []) ≡ true
status_plain Satisfiable = refl
status_plain Unsatisfiable = refl
status_plain Unknown = refl

event_plain : (e : Event) → IsEvent e → IsPlainLine (event_words e)
event_plain (events.Input ls) h = record { content = refl; each = literal_words_plain ls h }
event_plain (events.Query ls) h = record { content = refl; each = literal_words_plain ls h }
event_plain (events.Status s) h = record { content = refl; each = status_plain s }
event_plain (events.Model ls) h = record { content = refl; each = literal_words_plain ls h }
event_plain (events.Core ls) h = record { content = refl; each = literal_words_plain ls h }
event_plain (events.Values ls) h = record { content = refl; each = literal_words_plain ls h }
event_plain (events.Failed ls) h = record { content = refl; each = literal_words_plain ls h }

script_plain : (e : Event) → IsScriptLine e → IsPlainLine (event_words e)
script_plain (events.Input ls) h = record { content = refl; each = literal_words_plain ls h }
script_plain (events.Query ls) h = record { content = refl; each = literal_words_plain ls h }
script_plain (events.Status s) h = absurd h
script_plain (events.Model ls) h = absurd h
script_plain (events.Core ls) h = absurd h
script_plain (events.Values ls) h = absurd h
script_plain (events.Failed ls) h = absurd h

-- an event of a proof is one of an interaction
pub proof_event : (e : Event) → IsProofEvent e → IsEvent e
proof_event (events.Input ls) h = h
proof_event (events.Query ls) h = h
proof_event (events.Status s) h = h
proof_event (events.Model ls) h = h
proof_event (events.Core ls) h = h
proof_event (events.Values ls) h = absurd h
proof_event (events.Failed ls) h = absurd h

step_plain : (p : Step) → IsStep p → IsPlainLine (step_words p)
step_plain (steps.Event e) h = event_plain e (proof_event e h)
step_plain (steps.Lemma ls) h = record { content = refl; each = literal_words_plain ls h }
step_plain (steps.Delete ls) h = record { content = refl; each = literal_words_plain ls h }
step_plain (steps.Weaken ls) h = record { content = refl; each = literal_words_plain ls h }
step_plain (steps.Restore ls) h = record { content = refl; each = literal_words_plain ls h }

id_words_plain : (is : List ℕ) → AreIds is → list_all is_plain_word (id_words is) ≡ true
id_words_plain [] h = refl
id_words_plain (i ∷ is) h = let own = All-head IsId i is h in and_from _ _ (decimal_plain i own.0 own.1) (id_words_plain is (All-tail IsId i is h))

both_plain : (ws xs : List (List ℕ)) → list_all is_plain_word ws ≡ true → list_all is_plain_word xs ≡ true → list_all is_plain_word (ws ++ xs) ≡ true
both_plain ws xs h k = list_all-append is_plain_word ws xs ∙ and_from _ _ h k

id_step_plain : (p : LStep) → IsIdStep p → IsPlainLine (id_step_words p)
id_step_plain (lsteps.Input id ls) h = record { content = refl; each = and_from _ _ (decimal_plain id h.0.0 h.0.1) (literal_words_plain ls h.1) }
id_step_plain (lsteps.Lemma id ls hs) h = record {
  content = refl;
  each = and_from _ _ (decimal_plain id h.0.0 h.0.1) (both_plain (literal_words ls) (id_words hs) (literal_words_plain ls h.1) (id_words_plain hs h.2));
}
id_step_plain (lsteps.Delete is) h = record { content = refl; each = id_words_plain is h }
id_step_plain (lsteps.Weaken is) h = record { content = refl; each = id_words_plain is h }
id_step_plain (lsteps.Restore is) h = record { content = refl; each = id_words_plain is h }
id_step_plain (lsteps.Query ls) h = record { content = refl; each = literal_words_plain ls h }
id_step_plain (lsteps.Status s) h = record { content = refl; each = status_plain s }
id_step_plain (lsteps.Model ls) h = record { content = refl; each = literal_words_plain ls h }
id_step_plain (lsteps.Core ls hs) h = record { content = refl; each = both_plain (literal_words ls) (id_words hs) (literal_words_plain ls h.0) (id_words_plain hs h.1) }

-- ---- A whole text

length-plain_lines : (ws : List (List (List ℕ))) (n : ℕ) → length (plain_lines n ws) ≡ length ws
unfolding plain_lines
length-plain_lines [] n = refl
length-plain_lines (w ∷ ws) n = ap suc (length-plain_lines ws (n + 1))

module _ {A : Type 0} (Fits : A → Type 0) (words_of : A → List (List ℕ)) (read : List (List ℕ) → Result A Fault)
    (back : (x : A) → Fits x → read (words_of x) ≡ Ok x) (plain : (x : A) → Fits x → IsPlainLine (words_of x)) where
  values_of-plain_lines : (xs : List A) (n : ℕ) → All Fits xs → values_of read (plain_lines n (map words_of xs)) ≡ numbered_values n xs
  unfolding values_of plain_lines numbered_values
  values_of-plain_lines [] n h = refl
  values_of-plain_lines (x ∷ xs) n h = rw (back x (All-head Fits x xs h), values_of-plain_lines xs (n + 1) (All-tail Fits x xs h)) refl

  all_plain : (xs : List A) → All Fits xs → All IsPlainLine (map words_of xs)
  all_plain [] h = λ k d lt. absurd (omega arith)
  all_plain (x ∷ xs) h = All-cons IsPlainLine (words_of x) (map words_of xs) (plain x (All-head Fits x xs h)) (all_plain xs (All-tail Fits x xs h))

  text_is : (name : List ℕ) (xs : List A) → text words_of name xs ≡ flat_map line_text (header_words name ∷ map words_of xs)
  text_is name xs = ap (λ ys. line_text (header_words name) ++ ys) (each_line xs)
    where
      each_line : (ys : List A) → flat_map (λ v. line_text (words_of v)) ys ≡ flat_map line_text (map words_of ys)
      each_line [] = refl
      each_line (y ∷ ys) = ap (λ zs. line_text (words_of y) ++ zs) (each_line ys)

  -- the lines of a text
  text_lines : (name : List ℕ) (xs : List A) → IsPlainLine (header_words name) → All Fits xs → length (text words_of name xs) ≤ most_bytes
      → lines (text words_of name xs) ≡ plain_lines 1 (header_words name ∷ map words_of xs)
  unfolding lines
  text_lines name xs header h small =
      let short : length (flat_map line_text (header_words name ∷ map words_of xs)) ≤ most_bytes = subst (λ z. length z ≤ most_bytes) (text_is name xs) small in
      ap (lines_within most_bytes) (text_is name xs)
      ∙ lines_within-text most_bytes (header_words name ∷ map words_of xs) (All-cons IsPlainLine (header_words name) (map words_of xs) header (all_plain xs h)) short

  -- the values of a text's lines are the values
  steps_of-text : (name : List ℕ) (xs : List A) → IsPlainLine (header_words name) → All Fits xs → length (text words_of name xs) ≤ most_bytes
      → steps_of read (text words_of name xs) ≡ numbered_values 2 xs
  unfolding plain_lines
  steps_of-text name xs header h small = ap (λ ls. values_of read (drop 1 ls)) (text_lines name xs header h small) ∙ values_of-plain_lines xs 2 h

  -- the header of a text has no fault
  header_fault-text : (name : List ℕ) (xs : List A) → IsPlainLine (header_words name) → header_line name (header_words name) ≡ Ok tt
      → All Fits xs → length (text words_of name xs) ≤ most_bytes → header_fault name (text words_of name xs) ≡ None
  unfolding header_fault plain_lines
  header_fault-text name xs header ok h small =
      ap (first_fault name (end_line (text words_of name xs))) (text_lines name xs header h small) ∙ ap (λ o. with_number 1 (rule_or_none (of_whole_line o))) ok

  -- no line is left behind the values of a text
  length-text_lines : (name : List ℕ) (xs : List A) → IsPlainLine (header_words name) → All Fits xs → length (text words_of name xs) ≤ most_bytes
      → length (drop 1 (lines (text words_of name xs))) ≡ length xs
  unfolding plain_lines
  length-text_lines name xs header h small = ap (λ ls. length (drop 1 ls)) (text_lines name xs header h small) ∙ length-plain_lines (map words_of xs) 2 ∙ length-map xs words_of

  pub text_back : (name : List ℕ) (xs : List A) → IsPlainLine (header_words name) → header_line name (header_words name) ≡ Ok tt
      → All Fits xs → length (text words_of name xs) ≤ most_bytes → IsReadAs read name (text words_of name xs) xs
  text_back name xs header ok h small = record {
    header_spells = header_fault-text name xs header ok h small;
    lines_say = steps_of-text name xs header h small;
    none_left = length-text_lines name xs header h small;
  }

-- the headers
icnf_header : IsPlainLine (header_words (codes "icnf"))
icnf_header = record { content = refl; each = refl }

idrup_header : IsPlainLine (header_words (codes "idrup"))
idrup_header = record { content = refl; each = refl }

lidrup_header : IsPlainLine (header_words (codes "lidrup"))
lidrup_header = record { content = refl; each = refl }

-- the texts of the four forms are read back
pub icnf_text_back : (es : List Event) → All IsEvent es → length (text event_words (codes "icnf") es) ≤ most_bytes
    → IsReadAs icnf_line (codes "icnf") (text event_words (codes "icnf") es) es
unfolding header_line same_word
icnf_text_back es = text_back IsEvent event_words icnf_line icnf_line-event_words event_plain (codes "icnf") es icnf_header refl

pub script_text_back : (es : List Event) → All IsScriptLine es → length (text event_words (codes "icnf") es) ≤ most_bytes
    → IsReadAs script_line (codes "icnf") (text event_words (codes "icnf") es) es
unfolding header_line same_word
script_text_back es = text_back IsScriptLine event_words script_line script_line-event_words script_plain (codes "icnf") es icnf_header refl

pub idrup_text_back : (ps : List Step) → All IsStep ps → length (text step_words (codes "idrup") ps) ≤ most_bytes
    → IsReadAs idrup_line (codes "idrup") (text step_words (codes "idrup") ps) ps
unfolding header_line same_word
idrup_text_back ps = text_back IsStep step_words idrup_line idrup_line-step_words step_plain (codes "idrup") ps idrup_header refl

pub lidrup_text_back : (ps : List LStep) → All IsIdStep ps → length (text id_step_words (codes "lidrup") ps) ≤ most_bytes
    → IsReadAs lidrup_line (codes "lidrup") (text id_step_words (codes "lidrup") ps) ps
unfolding header_line same_word
lidrup_text_back ps = text_back IsIdStep id_step_words lidrup_line lidrup_line-id_step_words id_step_plain (codes "lidrup") ps lidrup_header refl
