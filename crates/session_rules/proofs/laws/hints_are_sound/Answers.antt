use Rattle.session_rules.proofs.Closing.{hints_close}
use Rattle.session_rules.proofs.laws.hints_are_sound.Goals as goal

pub returns : goal.returns
returns c = λ cs active ls hints member e. hints_close cs active member ls hints e
