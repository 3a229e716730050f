-- What words of each kind say, and the parts of lines that are made of them.
use Rattle.std.specs.Prelude.{ℕ, if◌then◌else◌, List, Some, None, Ok, Err, codes}
use Rattle.std.specs.declared.option.Option.{Option}
use Rattle.std.specs.declared.result.Result.{Result}
use Rattle.lits.specs.declared.LitWord.{LitWord}
use Rattle.lits.specs.declared.LitWord.TheVariants as literals
use Rattle.lits.specs.declared.IdWord.{IdWord}
use Rattle.lits.specs.declared.IdWord.TheVariants as ids
use Rattle.lits.specs.Word.{literal_word, id_word}
use Rattle.session_rules.specs.declared.Letter.{Letter}
use Rattle.session_rules.specs.declared.Letter.TheVariants as letters
use Rattle.session_rules.specs.declared.StatusWord.{StatusWord}
use Rattle.session_rules.specs.declared.StatusWord.TheVariants.{Satisfiable, Unsatisfiable, Unknown}
use Rattle.session_rules.specs.declared.Rule.{Rule}
use Rattle.session_rules.specs.declared.Rule.TheVariants as rules
use Rattle.session_rules.specs.Reading.{letter_of, same_word}

-- the letter that begins a line
abbrev pub letter_or_rule : Letter → Result Letter Rule
letter_or_rule letters.NoLetter = Err rules.Letter
letter_or_rule letter = Ok letter

unfoldable pub letter_says : List ℕ → Result Letter Rule
letter_says w = letter_or_rule (letter_of w)

-- a literal of a list, or none where the 0 at its end stands
abbrev pub literal_or_rule : LitWord → Result (Option ℕ) Rule
literal_or_rule literals.Zero = Ok None
literal_or_rule (literals.Value l) = Ok (Some l)
literal_or_rule literals.NotNumber = Err rules.Number
literal_or_rule literals.OutOfRange = Err rules.Range

unfoldable pub literal_says : List ℕ → Result (Option ℕ) Rule
literal_says w = literal_or_rule (literal_word w)

-- an id of a list, or none where the 0 at its end stands
abbrev pub listed_or_rule : IdWord → Result (Option ℕ) Rule
listed_or_rule ids.Zero = Ok None
listed_or_rule (ids.Value i) = Ok (Some i)
listed_or_rule ids.NotNumber = Err rules.Number
listed_or_rule ids.OutOfRange = Err rules.Range

unfoldable pub id_says : List ℕ → Result (Option ℕ) Rule
id_says w = listed_or_rule (id_word w)

-- the line's own id
abbrev pub own_or_rule : IdWord → Result ℕ Rule
own_or_rule ids.Zero = Err rules.Range
own_or_rule (ids.Value i) = Ok i
own_or_rule ids.NotNumber = Err rules.Number
own_or_rule ids.OutOfRange = Err rules.Range

unfoldable pub own_id_says : List ℕ → Result ℕ Rule
own_id_says w = own_or_rule (id_word w)

-- a status
unfoldable pub status_says : List ℕ → Result StatusWord Rule
status_says w = if same_word w (codes "SATISFIABLE") then Ok Satisfiable
    else (if same_word w (codes "UNSATISFIABLE") then Ok Unsatisfiable
    else (if same_word w (codes "UNKNOWN") then Ok Unknown else Err rules.Word))
