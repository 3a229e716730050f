-- A word that is given, and the end of a line's words, where anything else breaks a given rule.
use Rattle.std.specs.Prelude.{ℕ, if◌then◌else◌, List, [], ◌∷◌, Ok, Err}
use Rattle.std.specs.declared.result.Result.{Result}
use Rattle.session_rules.specs.declared.Rule.{Rule}
use Rattle.session_rules.specs.Reading.{Fault, wrong, Part, same_word}
use Rattle.line_reading.specs.Parts.{word_part}

-- whether a word is the given one
abbrev pub expected_says : List ℕ → Rule → List ℕ → Result (Unit {0}) Rule
expected_says word rule w = if same_word w word then Ok tt else Err rule

-- the given word as a part of a line
abbrev pub expected_word : List ℕ → Rule → List (List ℕ) → Part (Unit {0})
expected_word word rule = word_part (expected_says word rule) rule rule

-- no further word
abbrev pub expected_end : Rule → List (List ℕ) → Result (Unit {0}) Fault
expected_end rule [] = Ok tt
expected_end rule (w ∷ ws) = Err (wrong rule)
