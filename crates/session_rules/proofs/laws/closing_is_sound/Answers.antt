use Rattle.session_rules.proofs.Closing.{Contradicts-from_Closes}
use Rattle.session_rules.proofs.laws.closing_is_sound.Goals as goal

pub returns : goal.returns
returns c = λ cs ls r. Contradicts-from_Closes cs ls r
