-- What the words of the command line ask for.
use Rattle.std.specs.Prelude.{◌≡◌, ℕ, Bool, false, not, ◌&&◌, ◌==◌, if◌then◌else◌, List, [], ◌∷◌, Some, None, codes, ⊤}
use Rattle.std.specs.Str.{bytes_eq}
use Rattle.std.specs.declared.option.Option.{Option}
use Rattle.session_rules.specs.declared.Form.{Form}
use Rattle.session_rules.specs.declared.Form.TheVariants.{Idrup, Lidrup}
use Rattle.idrup_cli.specs.declared.plan.Places.{Places}
use Rattle.idrup_cli.specs.declared.plan.Command.TheVariants.{Check}

-- a word that may name a file: it isn't empty and doesn't begin with a dash
abbrev pub is_name : List ℕ → Bool
is_name [] = false
is_name (b ∷ bs) = not (b == 45)

-- a check in this form, with the interaction and the proof at these places
abbrev pub check_places : Form → ℕ → ℕ → Places
check_places form first second = record { command = Check; form = form; first = Some first; second = Some second; out = None; proof = None; size = 0 }

-- behind `check`: the names of an interaction and of a proof, with `--lidrup` before them for a proof with ids
abbrev pub check_plan : List (List ℕ) → Option Places
check_plan (first ∷ second ∷ []) = if is_name first && is_name second then Some (check_places Idrup 1 2) else None
check_plan (option ∷ first ∷ second ∷ []) = if bytes_eq option (codes "--lidrup") && is_name first && is_name second then Some (check_places Lidrup 2 3) else None
check_plan words = None

-- the plan of the words after the program's name, where they have one
abbrev pub plan : List (List ℕ) → Option Places
plan [] = None
plan (command ∷ words) = if bytes_eq command (codes "check") then check_plan words else None

-- the plan is a check
abbrev pub IsCheck : Option Places → Type 0
IsCheck None = ⊥
IsCheck (Some places) = places.command ≡ Check

-- where the plan is a check and both sources tell their bytes, this holds of its form and of these
abbrev pub IfCheck : Option Places → Option (List ℕ) → Option (List ℕ) → (Form → List ℕ → List ℕ → Type 0) → Type 0
IfCheck (Some places) (Some a) (Some b) Holds = places.command ≡ Check → Holds places.form a b
IfCheck places left right Holds = ⊤
