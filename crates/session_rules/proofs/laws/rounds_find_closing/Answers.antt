use Rattle.session_rules.proofs.Closing.{Closes-from_closes}
use Rattle.session_rules.proofs.Rounds.{closes-from_Closes}
use Rattle.session_rules.proofs.laws.rounds_find_closing.Goals as goal

pub returns-clause-sound : goal.returns-clause-sound
returns-clause-sound c = Closes-from_closes

pub returns-clause-complete : goal.returns-clause-complete
returns-clause-complete c = closes-from_Closes
