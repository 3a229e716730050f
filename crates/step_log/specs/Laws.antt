-- What a told step leaves, by the kind of answer.
use Rattle.std.proofs.Common.{◌≡◌, ℕ, ◌+◌, ◌-◌, ◌^◌, ◌<◌, ◌≤◌, min, length, List, refl, ap, subst, arith}
use Rattle.session_rules.specs.declared.Form.{Form}
use Rattle.session_rules.specs.declared.Told.{Told}
use Rattle.session_rules.specs.declared.LogFault.{LogFault}
use Rattle.session_rules.specs.declared.LogFault.TheVariants.{Write, Exhausted}
use Rattle.session_rules.specs.Telling.{Names, told_words, told_length}
use Rattle.session_rules.specs.Spelling.{line_text}
use Rattle.line_writing.specs.Writing.{writer}
use Rattle.std.specs.declared.option.Option.{Option}
use Rattle.std.specs.Prelude.{Bool}
use Rattle.step_log.specs.Logged.{LogView, Takes, Refuses}

line_length : (form : Form) (names : Names) (told : Told) → length (line_text (told_words form names told)) ≡ told_length form names told
unfolding told_length
line_length form names told = refl

module _ {K : Type 0} (written : K → Option (List ℕ)) (finished : K → Option Bool) (faults : K → ℕ) (old new : LogView K) (told : Told) where
  pub taken-room : Takes (writer written finished faults) old told new → old.room ≡ new.room + told_length old.form old.names told
  taken-room h = subst (λ z. old.room ≡ new.room + z) (line_length old.form old.names told) h.wrote.taken

  module _ (same : Type 0) (told_same : same → new ≡ old) where
    pub refused-form : (fault : LogFault) → Refuses (writer written finished faults) old told fault new same → new.form ≡ old.form
    refused-form Write h = h.form
    refused-form Exhausted h = ap (λ z. z.form) (told_same h.0)

    pub refused-names : (fault : LogFault) → Refuses (writer written finished faults) old told fault new same → new.names ≡ old.names
    refused-names Write h = h.names
    refused-names Exhausted h = ap (λ z. z.names) (told_same h.0)

    pub refused-faults : (fault : LogFault) → Refuses (writer written finished faults) old told fault new same → faults old.sink ≤ faults new.sink
    refused-faults Write h = h.failed.broke.later
    refused-faults Exhausted h = let e = ap (λ z. faults z.sink) (told_same h.0) in omega (arith, e)

  pub refused-write : (same : Type 0) → Refuses (writer written finished faults) old told Write new same
      → (min (faults old.sink + 1) (2 ^ 64 - 1) ≤ faults new.sink) × (told_length old.form old.names told ≤ old.room) × (new.room ≤ old.room)
  refused-write same h = (h.failed.broke.rose, subst (λ z. z ≤ old.room) (line_length old.form old.names told) h.failed.fits, h.failed.broke.fell)

  pub refused-exhausted : (same : Type 0) → Refuses (writer written finished faults) old told Exhausted new same → (old.room < told_length old.form old.names told) × same
  refused-exhausted same h = (subst (λ z. old.room < z) (line_length old.form old.names told) h.1.longer, h.0)
