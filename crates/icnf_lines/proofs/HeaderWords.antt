-- A header by its words, and by the line that came next.
use Rattle.std.proofs.Common.{◌≡◌, ℕ, ◌≤◌, Bool, true, false, ◌&&◌, nat_lt, if◌then◌else◌, List, [], ◌∷◌, length, Ok, Err, codes, refl, sym, ap, ◌∙◌, subst, inl, inr, arith, ltb-true}
use mathlib.Core.Path.{fun_ext}
use Rattle.std.proofs.lemmas.Bool.{cases_Bool}
use Rattle.std.specs.Prelude.{IsErrOf}
use Rattle.outside.specs.Faults.{Rose}
use Rattle.std.specs.declared.result.Result.{Result}
use Rattle.session_rules.specs.declared.Rule.{Rule}
use Rattle.session_rules.specs.declared.Rule.TheVariants as rules
use Rattle.session_rules.specs.declared.LineFault.{LineFault}
use Rattle.session_rules.specs.declared.LineFault.TheVariants as lines
use Rattle.session_rules.specs.Lines.{Line, has_content, judged_words, without_cut_word}
use Rattle.session_rules.specs.Reading.{Fault, wrong, missing, ◌>>=◌, Part, same_word, header_line, value_of, of_cut_line, of_whole_line}
use Rattle.slice_tokens.specs.Place.{Place, WhereTold, present, lines_behind}
use Rattle.slice_tokens.specs.Due.{known_words}
use Rattle.slice_tokens.proofs.Places.{later_taken, passed_trans}
use Rattle.slice_tokens.specs.declared.token.TokenFault.{TokenFault}
use Rattle.slice_tokens.specs.declared.token.TokenFault.TheVariants as tokens
use Rattle.slice_tokens.specs.Calls.{Moves, InLine, AtBound, Reaches}
use Rattle.line_reading.specs.Parts.{word_or_fault}
use Rattle.line_reading.specs.Readers.{Reader, to_come, PartRead, BodyRead}
use Rattle.line_reading.specs.Whole.{of_line, ReadsBody}
use Rattle.line_reading.specs.Expected.{expected_word, expected_end}
use Rattle.line_reading.proofs.LongWords.{other_length}
use Rattle.line_reading.proofs.Joined.{told_then, told_map, moves_trans, rose_later, in_line_map, in_line_then}
use Rattle.line_reading.proofs.WholeBodies.{with_more, body_then, body_fault}
use Rattle.line_reading.proofs.AtBounds.{next_cut}
use Rattle.icnf_lines.specs.declared.header.HeaderFault.{HeaderFault}
use Rattle.icnf_lines.specs.declared.header.HeaderFault.TheVariants as headers
use Rattle.icnf_lines.specs.Headers.{HeaderAnswers, HeaderRead, SameFault, stream_fault_of}

-- a word that was held against the given one
abbrev tested : Rule → Bool → List (List ℕ) → Part (Unit {0})
tested rule same ws = if same then Ok (tt, ws) else Err (wrong rule)

-- a given word of at most 32 bytes, as the first of some words
expected_first : (word : List ℕ) → length word ≤ 32 → (rule : Rule) (w : List ℕ) (ws : List (List ℕ)) → expected_word word rule (w ∷ ws) ≡ tested rule (same_word w word) ws
expected_first word short rule w ws = elim (cases_Bool (nat_lt 32 (length w))) [
  | inl q ↦ rw (q, other_length w word (ltb-true _ _ q) short) refl
  | inr q ↦ rw q (by_test (same_word w word))
]
  where
    by_test : (b : Bool) → word_or_fault {A = Unit {0}} (if b then Ok tt else Err rule) ws ≡ tested rule b ws
    by_test true = refl
    by_test false = refl

-- the name and the line's end, behind the first word
abbrev behind_first : List ℕ → Unit {0} → List (List ℕ) → Result (Unit {0}) Fault
behind_first name u ws = with_more (expected_word name rules.Header) (λ v. expected_end rules.Header) ws

-- the words of a header, one after the other
abbrev by_words : List ℕ → List (List ℕ) → Result (Unit {0}) Fault
by_words name ws = with_more (expected_word (codes "p") rules.Header) (behind_first name) ws

-- what stands behind a part that was the first word, and behind one that was the name
abbrev after_first : List ℕ → Part (Unit {0}) → Result (Unit {0}) Fault
after_first name o = o >>= λ m. behind_first name m.0 m.1

abbrev after_name : Part (Unit {0}) → Result (Unit {0}) Fault
after_name o = o >>= λ m. expected_end rules.Header m.1

begun : (name w : List ℕ) (ws : List (List ℕ)) → by_words name (w ∷ ws) ≡ after_first name (tested rules.Header (same_word w (codes "p")) ws)
begun name w ws = ap (after_first name) (expected_first (codes "p") (omega arith) rules.Header w ws)

named : (name : List ℕ) → length name ≤ 32 → (x : List ℕ) (ws : List (List ℕ)) → behind_first name tt (x ∷ ws) ≡ after_name (tested rules.Header (same_word x name) ws)
named name short x ws = ap after_name (expected_first name short rules.Header x ws)

header_is : (name : List ℕ) → length name ≤ 32 → (ws : List (List ℕ)) → by_words name ws ≡ header_line name ws
unfolding header_line
header_is name short [] = refl
header_is name short (w ∷ []) = begun name w [] ∙ by_first (same_word w (codes "p"))
  where
    by_first : (b : Bool) → after_first name (tested rules.Header b []) ≡ Err (if b then missing rules.Header else wrong rules.Header)
    by_first true = refl
    by_first false = refl
header_is name short (w ∷ x ∷ []) = begun name w (x ∷ []) ∙ by_first (same_word w (codes "p"))
  where
    by_second : (b : Bool) → after_name (tested rules.Header b []) ≡ (if b then Ok tt else Err (wrong rules.Header))
    by_second true = refl
    by_second false = refl

    by_first : (b : Bool) → after_first name (tested rules.Header b (x ∷ [])) ≡ (if b && same_word x name then Ok tt else Err (wrong rules.Header))
    by_first true = named name short x [] ∙ by_second (same_word x name)
    by_first false = refl
header_is name short (w ∷ x ∷ y ∷ ws) = begun name w (x ∷ y ∷ ws) ∙ by_first (same_word w (codes "p"))
  where
    by_second : (b : Bool) → after_name (tested rules.Header b (y ∷ ws)) ≡ Err (wrong rules.Header)
    by_second true = refl
    by_second false = refl

    by_first : (b : Bool) → after_first name (tested rules.Header b (x ∷ y ∷ ws)) ≡ Err (wrong rules.Header)
    by_first true = named name short x (y ∷ ws) ∙ by_second (same_word x name)
    by_first false = refl

-- ---- The words to the line's end

as_header : (name : List ℕ) → length name ≤ 32 → (r : Result (Unit {0}) LineFault) (p q : Place) (t u : List ℕ) → ReadsBody (by_words name) r p t q u → ReadsBody (header_line name) r p t q u
as_header name short r p q t u h = subst (λ f. ReadsBody f r p t q u) (fun_ext (header_is name short)) h

-- the rest behind the first word
behind : (name : List ℕ) → length name ≤ 32 → (x : Unit {0}) (r : Result (Unit {0}) LineFault) (o m n : Reader)
    → PartRead (expected_word (codes "p") rules.Header) o m (Ok x) → BodyRead (behind_first name x) m n r → BodyRead (header_line name) o n r
behind name short x r o m n h k = in_line_then _ _ (ReadsBody (header_line name) r) _ _ r o m n (λ e. e) h k (λ t u v i j.
    as_header name short r o.place n.place t v (body_then (expected_word (codes "p") rules.Header) (behind_first name) x r o.place m.place n.place t u v i j))

pub header_ended : (name : List ℕ) → length name ≤ 32 → (x y : Unit {0}) (r : Result (Unit {0}) LineFault) (o p q n : Reader)
    → PartRead (expected_word (codes "p") rules.Header) o p (Ok x) → PartRead (expected_word name rules.Header) p q (Ok y) → BodyRead (expected_end rules.Header) q n r → BodyRead (header_line name) o n r
header_ended name short x y r o p q n h k l = behind name short x r o p n h (in_line_then _ _ (ReadsBody (behind_first name x) r) _ _ r p q n (λ e. e) k l (λ t u v i j.
    body_then (expected_word name rules.Header) (λ w. expected_end rules.Header) y r p.place q.place n.place t u v i j))

pub header_unnamed : (name : List ℕ) → length name ≤ 32 → (x : Unit {0}) (e : LineFault) (o m n : Reader)
    → PartRead (expected_word (codes "p") rules.Header) o m (Ok x) → PartRead (expected_word name rules.Header) m n (Err e) → BodyRead (header_line name) o n (Err e)
header_unnamed name short x e o m n h k = behind name short x (Err e) o m n h (in_line_map _ (ReadsBody (behind_first name x) (Err e)) _ _ m n (λ f. f) k (λ t u i.
    body_fault (expected_word name rules.Header) (λ w. expected_end rules.Header) e m.place n.place t u i))

pub header_unbegun : (name : List ℕ) → length name ≤ 32 → (e : LineFault) (o n : Reader) → PartRead (expected_word (codes "p") rules.Header) o n (Err e) → BodyRead (header_line name) o n (Err e)
header_unbegun name short e o n h = in_line_map _ (ReadsBody (header_line name) (Err e)) _ _ o n (λ f. f) h (λ t u i.
    as_header name short (Err e) o.place n.place t u (body_fault (expected_word (codes "p") rules.Header) (behind_first name) e o.place n.place t u i))

-- ---- The line that came next

no_words : (name : List ℕ) → header_line name [] ≡ Err (missing rules.Header)
unfolding header_line
no_words name = refl

at_bound : (name : List ℕ) (o q : Place) (t u : List ℕ) → AtBound o t q u → HeaderAnswers name o t q u (Err (headers.Syntax rules.Length))
at_bound name o q t u h = elim (next_cut (header_line name) rules.Header (no_words name) o q t u h) [
  | inl b ↦ inl b
  | inr b ↦ inr (inl b)
]

not_reached : (name : List ℕ) (e : TokenFault) (o q : Place) (t u : List ℕ) → Reaches o t q u (Err e) → HeaderAnswers name o t q u (Err (stream_fault_of e))
not_reached name tokens.Read o q t u h = inr h
not_reached name tokens.LongWord o q t u h = absurd h
not_reached name tokens.Length o q t u h = at_bound name o q t u h

-- the words of the line that came next are the header's, or break it
said_header : (name : List ℕ) (line : Line) (x : Result (Unit {0}) Rule) → has_content line.words ≡ true → (line.cut ≡ false → line.word_cut ≡ false)
    → of_line line.cut (header_line name (known_words line)) ≡ x → value_of (header_line name) line ≡ x
said_header name line x content whole e = by_cut line.cut refl e
  where
    by_cut : (c : Bool) → line.cut ≡ c → of_line c (header_line name (known_words line)) ≡ x
        → (if c then of_cut_line (header_line name (judged_words line)) else of_whole_line (header_line name line.words)) ≡ x
    by_cut true f e = ap (λ q. of_cut_line (header_line name (if q then known_words line else []))) content ∙ e
    by_cut false f e = ap (λ q. of_whole_line (header_line name (if q then without_cut_word line.words else line.words))) (sym (whole f)) ∙ e

header_entered : (name : List ℕ) (o p q : Place) (t u v : List ℕ) → q.line ≡ p.line → q.fresh ≡ false → InLine o t p u → ReadsBody (header_line name) (Ok tt) p u q v → HeaderAnswers name o t q v (Ok tt)
header_entered name o p q t u v stays taken i k = record {
  line = present p u;
  lines = i.lines ∙ ap (λ ls. present p u ∷ ls) (sym (later_taken q v taken ∙ k.behind.lines));
  value = said_header name (present p u) (Ok tt) i.content i.whole k.answer;
  number = i.number ∙ sym stays;
  cut = k.behind.cut ∙ i.cut;
  last = k.behind.last ∙ i.last;
  passed = passed_trans o p q t u v i.passed k.behind.passed;
}

header_at_fault : (name : List ℕ) (e : LineFault) (f : HeaderFault) (o p q : Place) (t u v : List ℕ) → q.line ≡ p.line → SameFault e f → InLine o t p u → ReadsBody (header_line name) (Err e) p u q v → HeaderAnswers name o t q v (Err f)
header_at_fault name (lines.Syntax r) f o p q t u v stays same i k = subst (λ g. HeaderAnswers name o t q v (Err g)) (sym same) (inl (record {
  line = present p u;
  more = lines_behind p u;
  lines = i.lines;
  rule = said_header name (present p u) (Err r) i.content i.whole k.answer;
  number = i.number ∙ sym stays;
  last = k.behind.last ∙ i.last;
  passed = passed_trans o p q t u v i.passed k.behind.passed;
}))
header_at_fault name lines.Read f o p q t u v stays same i k = subst (λ g. HeaderAnswers name o t q v (Err g)) (sym same) (inl (record {
  line = present p u;
  lines = i.lines ∙ ap (λ ls. present p u ∷ ls) (sym k.behind.lines);
  number = i.number ∙ sym stays;
  cut = k.behind.cut ∙ i.cut;
  last = k.behind.last ∙ i.last;
  passed = passed_trans o p q t u v i.passed k.behind.passed;
}))
header_at_fault name lines.Memory f o p q t u v stays same i k = absurd same

module _ (name : List ℕ) (o m n : Reader) (moves : Moves o.place m.place) (count : o.faults ≤ m.faults) (entered : WhereTold (to_come o) (to_come m) (λ t u. InLine o.place t m.place u)) where
  pub header_said : n.place.fresh ≡ false → BodyRead (header_line name) m n (Ok tt) → HeaderRead name o n (Ok tt)
  header_said taken k = record {
    moves = moves_trans _ _ _ moves k.stays.moves;
    told = told_then _ _ _ _ _ _ entered k.told (λ t u v i j. header_entered name o.place m.place n.place t u v k.stays.line taken i j);
    count = omega (arith, count, k.count);
    read = λ e. cc e;
  }

  fault_read : (e : LineFault) (f : HeaderFault) → SameFault e f → (let a : Result (Unit {0}) HeaderFault = Err f in a) ≡ Err headers.Read → (let b : Result (Unit {0}) LineFault = Err e in b) ≡ Err lines.Read
  fault_read (lines.Syntax r) f same h = let g : f ≡ headers.Read = cc h in let k : headers.Syntax r ≡ headers.Read = sym same ∙ g in cc k
  fault_read lines.Read f same h = refl
  fault_read lines.Memory f same h = absurd same

  pub header_broken : (e : LineFault) (f : HeaderFault) → SameFault e f → BodyRead (header_line name) m n (Err e) → HeaderRead name o n (Err f)
  header_broken e f same k = record {
    moves = moves_trans _ _ _ moves k.stays.moves;
    told = told_then _ _ _ _ _ _ entered k.told (λ t u v i j. header_at_fault name e f o.place m.place n.place t u v k.stays.line same i j);
    count = omega (arith, count, k.count);
    read = λ g. rose_later _ _ _ count (k.read (fault_read e f same g));
  }

-- a fault of the window is a failed read only where a read failed
failed_read : (e : TokenFault) → (let a : Result (Unit {0}) HeaderFault = Err (stream_fault_of e) in a) ≡ Err headers.Read → (let b : Result Bool TokenFault = Err e in b) ≡ Err tokens.Read
failed_read tokens.Read h = refl
failed_read tokens.LongWord h = cc h
failed_read tokens.Length h = cc h

-- the window answered a fault in place of the next line
pub header_unreached : (name : List ℕ) (e : TokenFault) (o n : Reader) → Moves o.place n.place → o.faults ≤ n.faults
    → (IsErrOf (let b : Result Bool TokenFault = Err e in b) tokens.Read → Rose o.faults n.faults)
    → WhereTold (to_come o) (to_come n) (λ t u. Reaches o.place t n.place u (Err e)) → HeaderRead name o n (Err (stream_fault_of e))
header_unreached name e o n moves count read h = record {
  moves = moves;
  told = told_map _ _ _ _ h (λ t u k. not_reached name e o.place n.place t u k);
  count = count;
  read = λ f. read (failed_read e f);
}
