-- What a log is told of a solver's steps, and the line of each in the log's form.
use Rattle.std.specs.Prelude.{ℕ, List, [], ◌∷◌, length}
use Rattle.lits.specs.Numbering.{file_lits}
use Rattle.session_rules.specs.declared.Form.{Form}
use Rattle.session_rules.specs.declared.Form.TheVariants.{Idrup, Lidrup}
use Rattle.session_rules.specs.declared.Step.{Step}
use Rattle.session_rules.specs.declared.Step.TheVariants as steps
use Rattle.session_rules.specs.declared.LStep.{LStep}
use Rattle.session_rules.specs.declared.LStep.TheVariants as lsteps
use Rattle.session_rules.specs.declared.Told.{Told}
use Rattle.session_rules.specs.declared.Told.TheVariants.{Lemma, Delete, Weaken, Restore}
use Rattle.session_rules.specs.Spelling.{step_words, id_step_words, line_text}

-- the variables of a numbering, in the order of their numbers; lines print them
abbrev pub Names : Type 0
Names = List ℕ

-- what is told, with the variables in place of their numbers
abbrev pub printed : Names → Told → Told
printed names (Lemma id ls hs) = Lemma id (file_lits names ls) hs
printed names (Delete id ls) = Delete id (file_lits names ls)
printed names (Weaken id ls) = Weaken id (file_lits names ls)
printed names (Restore id ls) = Restore id (file_lits names ls)

-- the step of a proof without ids that tells this
abbrev pub step_of : Told → Step
step_of (Lemma id ls hs) = steps.Lemma ls
step_of (Delete id ls) = steps.Delete ls
step_of (Weaken id ls) = steps.Weaken ls
step_of (Restore id ls) = steps.Restore ls

-- the step of a proof with ids that tells this
abbrev pub id_step_of : Told → LStep
id_step_of (Lemma id ls hs) = lsteps.Lemma id ls hs
id_step_of (Delete id ls) = lsteps.Delete (id ∷ [])
id_step_of (Weaken id ls) = lsteps.Weaken (id ∷ [])
id_step_of (Restore id ls) = lsteps.Restore (id ∷ [])

-- the words of the line that tells this
abbrev pub told_words : Form → Names → Told → List (List ℕ)
told_words Idrup names told = step_words (step_of (printed names told))
told_words Lidrup names told = id_step_words (id_step_of (printed names told))

-- how many bytes this line has
unfoldable pub told_length : Form → Names → Told → ℕ
told_length form names told = length (line_text (told_words form names told))
