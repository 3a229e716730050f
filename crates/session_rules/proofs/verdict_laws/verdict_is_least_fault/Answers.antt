use Rattle.std.proofs.Common.{subst}
use Rattle.session_rules.specs.Verdicts.{IsVerdict}
use Rattle.session_rules.specs.Pair.{verdict}
use Rattle.session_rules.proofs.LeastFault.{verdict_least, verdict_unique, fault_unique}
use Rattle.session_rules.proofs.verdict_laws.verdict_is_least_fault.Goals as goal

pub returns-clause-is_least : goal.returns-clause-is_least
returns-clause-is_least c = λ form a b v e. subst (λ w. IsVerdict form a b w) e (verdict_least form a b)

pub returns-clause-only_least : goal.returns-clause-only_least
returns-clause-only_least c = λ form a b v h. verdict_unique form a b (verdict form a b) v (verdict_least form a b) h

pub returns-clause-one_a_key : goal.returns-clause-one_a_key
returns-clause-one_a_key c = fault_unique
