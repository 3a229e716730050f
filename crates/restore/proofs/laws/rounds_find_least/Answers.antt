use Rattle.restore.proofs.Taking.{is_wanted-closed, is_wanted-asked, is_wanted-least, none_left}
use Rattle.restore.proofs.laws.rounds_find_least.Goals as goal

pub returns-clause-closed : goal.returns-clause-closed
returns-clause-closed c = is_wanted-closed

pub returns-clause-asked : goal.returns-clause-asked
returns-clause-asked c = is_wanted-asked

pub returns-clause-least : goal.returns-clause-least
returns-clause-least c = is_wanted-least

pub returns-clause-none_left : goal.returns-clause-none_left
returns-clause-none_left c = none_left
