use Rattle.session_rules.specs.Verdicts as faults
use Rattle.session_rules.proofs.RuleNumbers as numbers
use Rattle.session_rules.proofs.LeastFault.{refused_up_to, refused_interaction_header, refused_proof_header, refused_own_rule}
use Rattle.session_rules.proofs.verdict_laws.earlier_faults_come_first.Goals as goal

pub returns-clause-refused : goal.returns-clause-refused
returns-clause-refused c = refused_up_to

pub returns-clause-interaction_header : goal.returns-clause-interaction_header
returns-clause-interaction_header c = refused_interaction_header

pub returns-clause-proof_header : goal.returns-clause-proof_header
returns-clause-proof_header c = refused_proof_header

pub returns-clause-broken_line : goal.returns-clause-broken_line
returns-clause-broken_line c = λ form a b k line rule at stops v. refused_up_to form a b _ _ (faults.own _ _ (faults.broken_line k line rule at stops v))

pub returns-clause-own_rule : goal.returns-clause-own_rule
returns-clause-own_rule c = refused_own_rule

pub returns-clause-own_numbers : goal.returns-clause-own_numbers
returns-clause-own_numbers c = numbers.own_numbers

pub returns-clause-pair_numbers : goal.returns-clause-pair_numbers
returns-clause-pair_numbers c = numbers.pair_numbers

pub returns-clause-unfinished : goal.returns-clause-unfinished
returns-clause-unfinished c = λ form a b whole busy. refused_up_to form a b _ _ (faults.own _ _ (faults.unfinished whole busy))
