-- What is known of files and of the standard output: the count of their faults.
use Rattle.std.specs.Prelude.{◌≡◌, ℕ, Bool, Result, Ok, Err}
use Rattle.outside.specs.Faults.{one_more}

-- whether a file has a path, and how often it has failed
pub record FileState : Type 0 where
  pub named : Bool
  pub faults : ℕ

-- the count after a call, which each failure raises by one
abbrev pub counted : {T E : Type 0} → ℕ → Result T E → ℕ
counted before (Ok value) = before
counted before (Err error) = one_more before

-- a call on a file changes its count alone
abbrev pub Called : {T E : Type 0} → FileState → FileState → Result T E → Type 0
Called old new result = new ≡ record old { faults = counted old.faults result }
