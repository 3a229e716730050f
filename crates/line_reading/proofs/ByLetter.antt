-- A whole line, from its letter and what stands behind it.
use Rattle.std.proofs.Common.{◌≡◌, ℕ, Bool, true, false, if◌then◌else◌, List, [], ◌∷◌, Some, Ok, Err, refl, sym, ap, ◌∙◌, subst, inl, inr, arith}
use mathlib.Core.Path.{fun_ext}
use Rattle.std.specs.declared.option.Option.{Option}
use Rattle.std.specs.declared.result.Result.{Result}
use Rattle.session_rules.specs.declared.Letter.{Letter}
use Rattle.session_rules.specs.declared.Letter.TheVariants as letters
use Rattle.session_rules.specs.declared.StatusWord.{StatusWord}
use Rattle.session_rules.specs.declared.Rule.{Rule}
use Rattle.session_rules.specs.declared.Rule.TheVariants as rules
use Rattle.session_rules.specs.declared.LineFault.{LineFault}
use Rattle.session_rules.specs.declared.LineFault.TheVariants.{Syntax, Read, Memory}
use Rattle.session_rules.specs.Lines.{Line, judged_words}
use Rattle.session_rules.specs.Reading.{Fault, wrong, ◌>>=◌, Part, letter_of, by_letter, of_whole_line, of_cut_line, value_of, whole, literal_list, id_list, status_word, of_literals, of_ids, of_status}
use Rattle.slice_tokens.specs.Place.{Place, present, lines_behind}
use Rattle.slice_tokens.specs.Due.{known_words}
use Rattle.slice_tokens.specs.Calls.{SameLater}
use Rattle.slice_tokens.proofs.Places.{later_taken, passed_trans}
use Rattle.line_reading.specs.Parts.{Stays}
use Rattle.line_reading.specs.Whole.{of_line, Tells, ReadsBody, literals_body, ids_body, status_body, Says, StandsInLine, LineAnswers, Entered, NoLetterIn, Enters}
use Rattle.line_reading.specs.Readers.{Reader, BodyRead, LetterRead, LineRead}
use Rattle.line_reading.proofs.Joined.{told_then, told_map, moves_trans, rose_later, same_fault, in_line_map}
use Rattle.line_reading.proofs.WholeBodies.{mapped, mapped_ok, mapped_err}

-- ---- A letter's rest as a value

list_as : {B : Type 0} (f : List ℕ → B) (o : Part (List ℕ)) → (o >>= λ ls. whole (f ls.0) ls.1) ≡ mapped f (o >>= λ ls. whole ls.0 ls.1)
list_as f (Ok m) = whole_as m.0 m.1
  where
    whole_as : (x : List ℕ) (ws : List (List ℕ)) → whole (f x) ws ≡ mapped f (whole x ws)
    whole_as x [] = refl
    whole_as x (w ∷ ws) = refl
list_as f (Err e) = refl

status_as_value : {B : Type 0} (f : StatusWord → B) (o : Part StatusWord) → (o >>= λ s. whole (f s.0) s.1) ≡ mapped f (o >>= λ s. whole s.0 s.1)
status_as_value f (Ok m) = whole_as m.0 m.1
  where
    whole_as : (x : StatusWord) (ws : List (List ℕ)) → whole (f x) ws ≡ mapped f (whole x ws)
    whole_as x [] = refl
    whole_as x (w ∷ ws) = refl
status_as_value f (Err e) = refl

pub literals_as : {B : Type 0} (f : List ℕ → B) (ws : List (List ℕ)) → of_literals f ws ≡ mapped f (literals_body ws)
literals_as f ws = list_as f (literal_list ws)

pub ids_as : {B : Type 0} (f : List ℕ → B) (ws : List (List ℕ)) → of_ids f ws ≡ mapped f (ids_body ws)
ids_as f ws = list_as f (id_list ws)

pub status_as : {B : Type 0} (f : StatusWord → B) (ws : List (List ℕ)) → of_status f ws ≡ mapped f (status_body ws)
status_as f ws = status_as_value f (status_word ws)

-- ---- The line

module _ {A : Type 0} (at : Letter → List (List ℕ) → Result A Fault) (none : (ws : List (List ℕ)) → at letters.NoLetter ws ≡ Err (wrong rules.Letter)) where
  -- what a line says that begins with this word
  begun : (line : Line) (word : List ℕ) (ws : List (List ℕ)) → judged_words line ≡ word ∷ ws → (line.cut ≡ false → line.words ≡ word ∷ ws)
      → value_of (by_letter at) line ≡ of_line line.cut (at (letter_of word) ws)
  begun line word ws judged whole_words = by_cut line.cut refl
    where
      by_cut : (c : Bool) → line.cut ≡ c → (if c then of_cut_line (by_letter at (judged_words line)) else of_whole_line (by_letter at line.words)) ≡ of_line c (at (letter_of word) ws)
      by_cut true e = ap (λ us. of_cut_line (by_letter at us)) judged
      by_cut false e = ap (λ us. of_whole_line (by_letter at us)) (whole_words e)

  said : (letter : Letter) (o p : Place) (t u : List ℕ) → (e : Entered letter o t p u) → value_of (by_letter at) e.line ≡ of_line (present p u).cut (at letter (known_words (present p u)))
  said letter o p t u e = begun e.line e.word (known_words (present p u)) e.judged e.whole_words
      ∙ ap (λ l. of_line e.line.cut (at l (known_words (present p u)))) e.is_letter ∙ ap (λ c. of_line c (at letter (known_words (present p u)))) (sym e.same_cut)

  pub line_says : (letter : Letter) (x : A) (o p q : Place) (t u v : List ℕ) → Stays p q → Entered letter o t p u → ReadsBody (at letter) (Ok x) p u q v → Says (by_letter at) x o t q v
  line_says letter x o p q t u v stays e k = record {
    line = e.line;
    lines = e.lines ∙ ap (λ ls. e.line ∷ ls) (sym (later_taken q v (stays.taken e.taken) ∙ k.behind.lines));
    value = said letter o p t u e ∙ k.answer;
    number = e.number ∙ sym stays.line;
    cut = k.behind.cut ∙ e.cut;
    last = k.behind.last ∙ e.last;
    passed = passed_trans o p q t u v e.passed k.behind.passed;
  }

  -- the window is still in the line that was entered
  stands_in : (letter : Letter) (o p q : Place) (t u v : List ℕ) → q.line ≡ p.line → Entered letter o t p u → SameLater p u q v → StandsInLine o t q v
  stands_in letter o p q t u v stays e b = record { line = e.line; lines = e.lines ∙ ap (λ ls. e.line ∷ ls) (sym b.lines); number = e.number ∙ sym stays; cut = b.cut ∙ e.cut; last = b.last ∙ e.last; passed = passed_trans o p q t u v e.passed b.passed }

  breaks_by : (letter : Letter) (fault : LineFault) (o p q : Place) (t u v : List ℕ) → q.line ≡ p.line → Entered letter o t p u → SameLater p u q v
      → Tells (of_line (present p u).cut (at letter (known_words (present p u)))) (Err fault) → LineAnswers (by_letter at) o t q v (Err fault)
  breaks_by letter (Syntax r) o p q t u v stays e b k = inl (record { line = e.line; more = lines_behind p u; lines = e.lines; rule = said letter o p t u e ∙ k; number = e.number ∙ sym stays; last = b.last ∙ e.last; passed = passed_trans o p q t u v e.passed b.passed })
  breaks_by letter Read o p q t u v stays e b k = inl (stands_in letter o p q t u v stays e b)
  breaks_by letter Memory o p q t u v stays e b k = stands_in letter o p q t u v stays e b

  pub line_fails : (letter : Letter) (fault : LineFault) (o p q : Place) (t u v : List ℕ) → q.line ≡ p.line → Entered letter o t p u → ReadsBody (at letter) (Err fault) p u q v
      → LineAnswers (by_letter at) o t q v (Err fault)
  line_fails letter fault o p q t u v stays e k = breaks_by letter fault o p q t u v stays e k.behind k.answer

  no_letter_breaks : (line : Line) (r : Rule) → NoLetterIn line r → value_of (by_letter at) line ≡ Err r
  no_letter_breaks line r (inl n) = begun line n.0 n.1 n.3 n.4 ∙ ap (λ l. of_line line.cut (at l n.1)) n.2 ∙ ap (of_line line.cut) (none n.1) ∙ letter_rule line.cut ∙ ap (λ z. Err z) (sym n.5)
    where
      letter_rule : (c : Bool) → of_line {A = A} c (Err (wrong rules.Letter)) ≡ Err rules.Letter
      letter_rule true = refl
      letter_rule false = refl
  no_letter_breaks line r (inr n) = ap (λ c. if c then of_cut_line (by_letter at (judged_words line)) else of_whole_line (by_letter at line.words)) n.1
      ∙ ap (λ us. of_cut_line (by_letter at us)) n.0 ∙ ap (λ z. Err z) (sym n.2)

  pub line_unentered : (fault : LineFault) (o q : Place) (t v : List ℕ) → Enters o t q v (Err fault) → LineAnswers (by_letter at) o t q v (Err fault)
  line_unentered (Syntax r) o q t v (inl u) = inl (record { line = u.line; more = u.more; lines = u.lines; rule = no_letter_breaks u.line r u.reason; number = u.number; last = u.last; passed = u.passed })
  line_unentered (Syntax r) o q t v (inr b) = inr b
  line_unentered Read o q t v h = h
  line_unentered Memory o q t v h = h

-- the rest of a line as another value of the same words
module _ {A B : Type 0} (says : List (List ℕ) → Result A Fault) (other : List (List ℕ) → Result B Fault) (f : A → B) (same : (ws : List (List ℕ)) → other ws ≡ mapped f (says ws)) where
  pub body_as : (x : A) (o n : Reader) → BodyRead says o n (Ok x) → BodyRead other o n (Ok (f x))
  body_as x o n h = in_line_map (ReadsBody says (Ok x)) (ReadsBody other (Ok (f x))) _ _ o n (λ e. cc e) h (λ t u k. mapped_ok f says other same x o.place n.place t u k)

  pub body_fails : (e : LineFault) (o n : Reader) → BodyRead says o n (Err e) → BodyRead other o n (Err e)
  body_fails e o n h = in_line_map (ReadsBody says (Err e)) (ReadsBody other (Err e)) _ _ o n (same_fault e Read) h (λ t u k. mapped_err f says other same e o.place n.place t u k)

-- a line that is read by its letter
module _ {A : Type 0} (at : Letter → List (List ℕ) → Result A Fault) (none : (ws : List (List ℕ)) → at letters.NoLetter ws ≡ Err (wrong rules.Letter))
    (read : List (List ℕ) → Result A Fault) (same : (ws : List (List ℕ)) → by_letter at ws ≡ read ws) where
  as_read : (r : Result (Option A) LineFault) (o q : Place) (t v : List ℕ) → LineAnswers (by_letter at) o t q v r → LineAnswers read o t q v r
  as_read r o q t v h = subst (λ f. LineAnswers f o t q v r) (fun_ext same) h

  pub line_read : (letter : Letter) (x : A) (o m n : Reader) → LetterRead o m (Ok (Some letter)) → BodyRead (at letter) m n (Ok x) → LineRead read o n (Ok (Some x))
  line_read letter x o m n h k = record {
    moves = moves_trans _ _ _ h.moves k.stays.moves;
    progress = λ _. omega (arith, h.progress refl, k.stays.moves.passed);
    told = told_then _ _ _ _ _ _ h.told k.told (λ t u v e j. as_read (Ok (Some x)) o.place n.place t v (line_says at none letter x o.place m.place n.place t u v k.stays e j));
    count = omega (arith, h.count, k.count);
    read = λ e. cc e;
  }

  pub line_broken : (letter : Letter) (fault : LineFault) (o m n : Reader) → LetterRead o m (Ok (Some letter)) → BodyRead (at letter) m n (Err fault) → LineRead read o n (Err fault)
  line_broken letter fault o m n h k = record {
    moves = moves_trans _ _ _ h.moves k.stays.moves;
    progress = tt;
    told = told_then _ _ _ _ _ _ h.told k.told (λ t u v e j. as_read (Err fault) o.place n.place t v (line_fails at none letter fault o.place m.place n.place t u v k.stays.line e j));
    count = omega (arith, h.count, k.count);
    read = λ e. rose_later _ _ _ h.count (k.read (same_fault fault Read e));
  }

  pub line_not_entered : (fault : LineFault) (o n : Reader) → LetterRead o n (Err fault) → LineRead read o n (Err fault)
  line_not_entered fault o n h = record {
    moves = h.moves;
    progress = tt;
    told = told_map _ _ _ _ h.told (λ t v e. as_read (Err fault) o.place n.place t v (line_unentered at none fault o.place n.place t v e));
    count = h.count;
    read = λ e. h.read (same_fault fault Read e);
  }
