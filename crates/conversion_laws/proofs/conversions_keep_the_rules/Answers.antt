use Rattle.conversion_laws.proofs.Converting.{converted_agrees, converted_kept}
use Rattle.conversion_laws.proofs.conversions_keep_the_rules.Goals as goal

pub returns-clause-no_faults : goal.returns-clause-no_faults
returns-clause-no_faults c = converted_kept

pub returns-clause-events : goal.returns-clause-events
returns-clause-events c = λ ps qs k. (converted_agrees ps qs k).told

pub returns-clause-standings : goal.returns-clause-standings
returns-clause-standings c = λ ps qs k. (converted_agrees ps qs k).standings

pub returns-clause-clauses : goal.returns-clause-clauses
returns-clause-clauses c = λ ps qs k. (converted_agrees ps qs k).clauses
