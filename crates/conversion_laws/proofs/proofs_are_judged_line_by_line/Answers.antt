use Rattle.conversion_laws.proofs.Judging.{header_decides, judging_begins, judging_goes_on, broken_line_decides, own_rule_decides, open_query_decides, finished_keeps}
use Rattle.conversion_laws.proofs.proofs_are_judged_line_by_line.Goals as goal

pub returns-clause-header : goal.returns-clause-header
returns-clause-header c = header_decides

pub returns-clause-begins : goal.returns-clause-begins
returns-clause-begins c = judging_begins

pub returns-clause-goes_on : goal.returns-clause-goes_on
returns-clause-goes_on c = judging_goes_on

pub returns-clause-broken : goal.returns-clause-broken
returns-clause-broken c = broken_line_decides

pub returns-clause-refused : goal.returns-clause-refused
returns-clause-refused c = own_rule_decides

pub returns-clause-unfinished : goal.returns-clause-unfinished
returns-clause-unfinished c = open_query_decides

pub returns-clause-finished : goal.returns-clause-finished
returns-clause-finished c = finished_keeps
