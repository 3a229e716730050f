use Rattle.session_events.proofs.Standing.{stands_start, stands_reserved, stands_behind, reserved_below}
use Rattle.session_events.proofs.laws.states_stand_for_events.Goals as goal

pub returns : goal.returns
returns c = record { start = stands_start; reserved = stands_reserved; room = reserved_below; behind = stands_behind }
