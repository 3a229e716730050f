-- What the readers of whole lines answer, and those of a line's body, which is what stands in it behind its letter.
use Rattle.std.specs.Prelude.{◌≡◌, ℕ, ◌⊎◌, Bool, true, false, if◌then◌else◌, List, [], ◌∷◌, Some, None, Ok, Err, ⊤}
use Rattle.std.specs.declared.option.Option.{Option}
use Rattle.std.specs.declared.result.Result.{Result}
use Rattle.session_rules.specs.declared.Letter.{Letter}
use Rattle.session_rules.specs.declared.Letter.TheVariants as letters
use Rattle.session_rules.specs.declared.StatusWord.{StatusWord}
use Rattle.session_rules.specs.declared.Rule.{Rule}
use Rattle.session_rules.specs.declared.Rule.TheVariants as rules
use Rattle.session_rules.specs.declared.LineFault.{LineFault}
use Rattle.session_rules.specs.declared.LineFault.TheVariants.{Syntax, Read, Memory}
use Rattle.session_rules.specs.Lines.{Line, judged_words}
use Rattle.session_rules.specs.Pair.{line_letter, is_cut_early}
use Rattle.session_rules.specs.Reading.{Fault, letter_of, ◌>>=◌, of_whole_line, of_cut_line, value_of, whole, own_id, literal_list, id_list, of_literals, of_ids, of_status}
use Rattle.slice_tokens.specs.Place.{Place, present, lines_behind, later, is_cut, last_line}
use Rattle.slice_tokens.specs.Due.{known_words}
use Rattle.slice_tokens.specs.Calls.{Passed, SameLater, SameContent, AtEnd}

-- what words say in a line that is cut, or isn't: a value, or a rule
abbrev pub of_line : {A : Type 0} → Bool → Result A Fault → Result A Rule
of_line cut said = if cut then of_cut_line said else of_whole_line said

-- the value or the rule was answered, unless a read failed or memory was wanting
abbrev pub Tells : {A : Type 0} → Result A Rule → Result A LineFault → Type 0
Tells said (Ok x) = said ≡ Ok x
Tells said (Err (Syntax r)) = said ≡ Err r
Tells said (Err Read) = ⊤
Tells said (Err Memory) = ⊤

-- the body of the present line was read: all its words from here to the line's end
pub record ReadsBody {A : Type 0} (says : List (List ℕ) → Result A Fault) (result : Result A LineFault) (old : Place) (bytes : List ℕ) (new : Place) (rest : List ℕ) : Type 0 where
  pub answer : Tells (of_line (present old bytes).cut (says (known_words (present old bytes)))) result
  pub behind : SameLater old bytes new rest

-- ---- What may stand behind a letter

abbrev pub literals_body : List (List ℕ) → Result (List ℕ) Fault
literals_body ws = of_literals (λ ls. ls) ws

abbrev pub ids_body : List (List ℕ) → Result (List ℕ) Fault
ids_body ws = of_ids (λ is. is) ws

abbrev pub status_body : List (List ℕ) → Result StatusWord Fault
status_body ws = of_status (λ s. s) ws

abbrev pub id_literals_body : List (List ℕ) → Result (ℕ × List ℕ) Fault
id_literals_body ws = own_id ws >>= λ i. literal_list i.1 >>= λ ls. whole (i.0, ls.0) ls.1

abbrev pub id_literals_ids_body : List (List ℕ) → Result (ℕ × List ℕ × List ℕ) Fault
id_literals_ids_body ws = own_id ws >>= λ i. literal_list i.1 >>= λ ls. id_list ls.1 >>= λ hs. whole (i.0, ls.0, hs.0) hs.1

abbrev pub literals_ids_body : List (List ℕ) → Result (List ℕ × List ℕ) Fault
literals_ids_body ws = literal_list ws >>= λ ls. id_list ls.1 >>= λ hs. whole (ls.0, hs.0) hs.1

-- ---- Whole lines

-- the next line says a value: it stands in the stream's lines to come, and those behind it are still to come
pub record Says {A : Type 0} (read : List (List ℕ) → Result A Fault) (x : A) (old : Place) (bytes : List ℕ) (new : Place) (rest : List ℕ) : Type 0 where
  pub line : Line
  pub lines : later old bytes ≡ line ∷ later new rest
  pub value : value_of read line ≡ Ok x
  pub number : line.number ≡ new.line
  pub cut : is_cut new rest ≡ is_cut old bytes
  pub last : last_line new rest ≡ last_line old bytes
  pub passed : Passed old bytes new rest

-- the next line breaks a rule
pub record Breaks {A : Type 0} (read : List (List ℕ) → Result A Fault) (r : Rule) (old : Place) (bytes : List ℕ) (new : Place) (rest : List ℕ) : Type 0 where
  pub line : Line
  pub more : List Line
  pub lines : later old bytes ≡ line ∷ more
  pub rule : value_of read line ≡ Err r
  pub number : line.number ≡ new.line
  pub last : last_line new rest ≡ last_line old bytes
  pub passed : Passed old bytes new rest

-- the bound cuts the present line, and none comes behind it
pub record BehindCut (r : Rule) (old : Place) (bytes : List ℕ) (new : Place) (rest : List ℕ) : Type 0 where
  pub lines : later old bytes ≡ []
  pub cut : is_cut old bytes ≡ true
  pub rule : r ≡ rules.Length
  pub passed : Passed old bytes new rest

-- the window stands in the line that came next, and those behind it are still to come
pub record StandsInLine (old : Place) (bytes : List ℕ) (new : Place) (rest : List ℕ) : Type 0 where
  pub line : Line
  pub lines : later old bytes ≡ line ∷ lines_behind new rest
  pub number : line.number ≡ new.line
  pub cut : is_cut new rest ≡ is_cut old bytes
  pub last : last_line new rest ≡ last_line old bytes
  pub passed : Passed old bytes new rest

-- where a failed read leaves the window: in the line that came next, or before it
abbrev pub StopsInOrBefore : Place → List ℕ → Place → List ℕ → Type 0
StopsInOrBefore old bytes new rest = StandsInLine old bytes new rest ⊎ SameContent old bytes new rest

-- what reading the next line answers
abbrev pub LineAnswers : {A : Type 0} → (List (List ℕ) → Result A Fault) → Place → List ℕ → Place → List ℕ → Result (Option A) LineFault → Type 0
LineAnswers read old bytes new rest (Ok None) = AtEnd old bytes new rest
LineAnswers read old bytes new rest (Ok (Some x)) = Says read x old bytes new rest
LineAnswers read old bytes new rest (Err (Syntax r)) = Breaks read r old bytes new rest ⊎ BehindCut r old bytes new rest
LineAnswers read old bytes new rest (Err Read) = StopsInOrBefore old bytes new rest
LineAnswers read old bytes new rest (Err Memory) = StandsInLine old bytes new rest

-- ---- The letter of a line

-- the window stands behind the first word of the line that came next, which is this letter
pub record Entered (letter : Letter) (old : Place) (bytes : List ℕ) (new : Place) (rest : List ℕ) : Type 0 where
  pub line : Line
  pub word : List ℕ
  pub lines : later old bytes ≡ line ∷ lines_behind new rest
  pub taken : new.fresh ≡ false
  pub number : line.number ≡ new.line
  pub is_letter : letter_of word ≡ letter
  pub same_cut : (present new rest).cut ≡ line.cut
  pub judged : judged_words line ≡ word ∷ known_words (present new rest)
  pub whole_words : line.cut ≡ false → line.words ≡ word ∷ known_words (present new rest)
  pub cut : is_cut new rest ≡ is_cut old bytes
  pub last : last_line new rest ≡ last_line old bytes
  pub passed : Passed old bytes new rest

-- the line that came next begins with no letter, or the bound cuts it before its first word ended
abbrev pub NoLetterIn : Line → Rule → Type 0
NoLetterIn line r = ((word : List ℕ) × (ws : List (List ℕ)) × (letter_of word ≡ letters.NoLetter) × (judged_words line ≡ word ∷ ws) × (line.cut ≡ false → line.words ≡ word ∷ ws) × (r ≡ rules.Letter))
    ⊎ ((judged_words line ≡ []) × (line.cut ≡ true) × (r ≡ rules.Length))

pub record Unentered (r : Rule) (old : Place) (bytes : List ℕ) (new : Place) (rest : List ℕ) : Type 0 where
  pub line : Line
  pub more : List Line
  pub lines : later old bytes ≡ line ∷ more
  pub number : line.number ≡ new.line
  pub reason : NoLetterIn line r
  pub last : last_line new rest ≡ last_line old bytes
  pub passed : Passed old bytes new rest

-- what going to the next line answers
abbrev pub Enters : Place → List ℕ → Place → List ℕ → Result (Option Letter) LineFault → Type 0
Enters old bytes new rest (Ok None) = AtEnd old bytes new rest
Enters old bytes new rest (Ok (Some letter)) = Entered letter old bytes new rest
Enters old bytes new rest (Err (Syntax r)) = Unentered r old bytes new rest ⊎ BehindCut r old bytes new rest
Enters old bytes new rest (Err Read) = StopsInOrBefore old bytes new rest
Enters old bytes new rest (Err Memory) = StandsInLine old bytes new rest

-- ---- The letter of a line that is still due

-- the window stands before the line that came next, which begins with this letter
pub record Sees (letter : Letter) (old : Place) (bytes : List ℕ) (new : Place) (rest : List ℕ) : Type 0 where
  pub line : Line
  pub more : List Line
  pub lines : later old bytes ≡ line ∷ more
  pub due : later new rest ≡ later old bytes
  pub is_letter : line_letter line ≡ letter
  pub judged : is_cut_early line ≡ false
  pub cut : is_cut new rest ≡ is_cut old bytes
  pub last : last_line new rest ≡ last_line old bytes
  pub passed : Passed old bytes new rest

-- the bound cuts the line that came next before any word of it is judged
pub record CutEarly (r : Rule) (old : Place) (bytes : List ℕ) (new : Place) (rest : List ℕ) : Type 0 where
  pub line : Line
  pub more : List Line
  pub lines : later old bytes ≡ line ∷ more
  pub early : is_cut_early line ≡ true
  pub number : line.number ≡ new.line
  pub rule : r ≡ rules.Length
  pub last : last_line new rest ≡ last_line old bytes
  pub passed : Passed old bytes new rest

-- what looking at the next line's letter answers
abbrev pub SeesNext : Place → List ℕ → Place → List ℕ → Result (Option Letter) LineFault → Type 0
SeesNext old bytes new rest (Ok None) = AtEnd old bytes new rest
SeesNext old bytes new rest (Ok (Some letter)) = Sees letter old bytes new rest
SeesNext old bytes new rest (Err (Syntax r)) = CutEarly r old bytes new rest ⊎ BehindCut r old bytes new rest
SeesNext old bytes new rest (Err Read) = StopsInOrBefore old bytes new rest
SeesNext old bytes new rest (Err Memory) = ⊥
