-- What contracts see of a log that writes lines, and what a told step makes of it.
use Rattle.std.specs.Prelude.{◌≡◌, ℕ, List, [], ◌∷◌, Result, Ok, Err}
use Rattle.session_rules.specs.declared.Form.{Form}
use Rattle.session_rules.specs.declared.Told.{Told}
use Rattle.session_rules.specs.declared.LogFault.{LogFault}
use Rattle.session_rules.specs.declared.LogFault.TheVariants.{Write, Exhausted}
use Rattle.session_rules.specs.declared.WriteFault.{WriteFault}
use Rattle.session_rules.specs.declared.WriteFault.TheVariants as lines
use Rattle.session_rules.specs.declared.Form.TheVariants.{Idrup, Lidrup}
use Rattle.lits.specs.Numbering.{file_lits}
use Rattle.session_rules.specs.Spelling.{line_text, literal_words, id_words}
use Rattle.session_rules.specs.Telling.{Names, told_words}
use Rattle.line_writing.specs.Writing.{Writer, Wrote, FailedLine, RefusedLine}

-- the form of its lines, the variables of the numbering, the sink with the reference by which it is held, and the room that is left
pub record LogView (K : Type 0) : Type 0 where
  pub form : Form
  pub names : Names
  pub sink : K
  pub reference : ℕ
  pub room : ℕ

-- the line that tells a step
abbrev pub told_line : {K : Type 0} → LogView K → Told → List ℕ
told_line log told = line_text (told_words log.form log.names told)

-- the words of a line of a letter that names a clause: by its literals, or by its id
abbrev pub named_words : Form → ℕ → Names → List ℕ → List ℕ → List (List ℕ)
named_words Idrup letter names ids lits = (letter ∷ []) ∷ literal_words (file_lits names lits)
named_words Lidrup letter names ids lits = (letter ∷ []) ∷ id_words ids

-- the step's line was written, and nothing but sink and room changed
pub record Takes {K : Type 0} (at : K → ℕ → Writer K) (old : LogView K) (told : Told) (new : LogView K) : Type 0 where
  pub form : new.form ≡ old.form
  pub names : new.names ≡ old.names
  pub reference : new.reference ≡ old.reference
  pub wrote : Wrote (told_line old told) (at old.sink old.room) (at new.sink new.room)

-- a write failed within the step's line
pub record Fails {K : Type 0} (at : K → ℕ → Writer K) (old : LogView K) (told : Told) (new : LogView K) : Type 0 where
  pub form : new.form ≡ old.form
  pub names : new.names ≡ old.names
  pub reference : new.reference ≡ old.reference
  pub failed : FailedLine (told_line old told) (at old.sink old.room) (at new.sink new.room)

-- a refusal: the fault's cause, and with Exhausted the log is as it was
abbrev pub Refuses : {K : Type 0} → (K → ℕ → Writer K) → LogView K → Told → LogFault → LogView K → Type 0 → Type 0
Refuses at old told Write new same = Fails at old told new
Refuses at old told Exhausted new same = same × RefusedLine (told_line old told) (at old.sink old.room) (at new.sink new.room)

-- the fault of a log for that of a line
abbrev pub LineGives : Result Unit WriteFault → Result Unit LogFault → Type 0
LineGives (Ok done) answer = answer ≡ Ok done
LineGives (Err lines.Write) answer = answer ≡ Err Write
LineGives (Err lines.Exhausted) answer = answer ≡ Err Exhausted
