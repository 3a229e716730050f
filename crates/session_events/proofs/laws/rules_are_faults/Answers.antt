use Rattle.session_events.proofs.Standing.{order_rules-stands, model_rules-stands, core_rules-stands}
use Rattle.session_events.proofs.laws.rules_are_faults.Goals as goal

pub returns : goal.returns
returns c = record { order = order_rules-stands; model = model_rules-stands; core = core_rules-stands }
