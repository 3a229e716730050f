-- A given word, and the line's end, by what is due in the line.
use Rattle.std.proofs.Common.{◌≡◌, ℕ, Bool, true, false, List, Err, refl}
use Rattle.session_rules.specs.declared.Rule.{Rule}
use Rattle.session_rules.specs.Lines.{Line}
use Rattle.session_rules.specs.Reading.{wrong}
use Rattle.slice_tokens.specs.declared.token.TokenFault.{TokenFault}
use Rattle.slice_tokens.specs.declared.token.TokenFault.TheVariants as tokens
use Rattle.slice_tokens.specs.Place.{Place, present}
use Rattle.slice_tokens.specs.Due.{due, known_words}
use Rattle.slice_tokens.specs.Calls.{Answers, LeavesLines}
use Rattle.line_reading.specs.Parts.{line_fault_of}
use Rattle.line_reading.specs.Whole.{of_line, Tells, ReadsBody}
use Rattle.line_reading.specs.Expected.{expected_end}
use Rattle.line_reading.proofs.Opening.{long_first, cut_first}

module _ (rule : Rule) where
  -- a further word breaks the rule, whether the line is cut or not
  wrong_said : (cut : Bool) → of_line {A = Unit {0}} cut (Err (wrong rule)) ≡ Err rule
  wrong_said true = refl
  wrong_said false = refl

  end_said : (line : Line) (fault : TokenFault) → Answers (due line) (Err fault)
      → Tells {A = Unit {0}} (of_line line.cut (expected_end rule (known_words line))) (Err (line_fault_of rule fault))
  end_said line tokens.Read d = tt
  end_said line tokens.LongWord d = let o = long_first line.cut (known_words line) d in rw o.2 (wrong_said line.cut)
  end_said line tokens.Length d = let o = cut_first line.cut (known_words line) d in rw (o.0, o.1) refl

  -- the window answered a fault in place of the line's end
  pub end_fault : (p q : Place) (t u : List ℕ) (fault : TokenFault) → Answers (due (present p t)) (Err fault) → LeavesLines (Err fault) p t q u
      → ReadsBody (expected_end rule) (Err (line_fault_of rule fault)) p t q u
  end_fault p q t u fault d left = record { answer = end_said (present p t) fault d; behind = left.behind }
