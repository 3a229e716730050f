use Rattle.std.proofs.Common.{◌≡◌, ℕ, List, refl}
use Rattle.session_rules.specs.declared.Form.{Form}
use Rattle.session_rules.specs.declared.Form.TheVariants.{Idrup, Lidrup}
use Rattle.session_rules.specs.Lines.{lines, end_line, most_bytes}
use Rattle.session_rules.specs.Reading.{header_fault}
use Rattle.session_rules.specs.Pair.{pair_refusals, verdict_by, verdict, verdict_within}
use Rattle.session_rules.proofs.verdict_laws.most_bytes_bound_the_verdict.Goals as goal

by_form : (form : Form) (a b : List ℕ) → verdict form a b ≡ verdict_within most_bytes form a b
unfolding verdict verdict_within verdict_by pair_refusals header_fault lines end_line
by_form Idrup a b = refl
by_form Lidrup a b = refl

pub returns : goal.returns
returns c = by_form
