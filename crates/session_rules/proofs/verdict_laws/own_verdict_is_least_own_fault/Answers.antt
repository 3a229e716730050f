use Rattle.std.proofs.Common.{◌≡◌, Some, None, sym, ◌∙◌, subst}
use Rattle.session_rules.specs.Verdicts.{IsOwnVerdict, own_verdict}
use Rattle.session_rules.proofs.LeastFault.{own_verdict_least, own_verdict_unique, own_verdict_none, accepted_own}
use Rattle.session_rules.proofs.verdict_laws.own_verdict_is_least_own_fault.Goals as goal

pub returns-clause-is_least : goal.returns-clause-is_least
returns-clause-is_least c = λ form b v e. subst (λ w. IsOwnVerdict form b w) e (own_verdict_least form b)

pub returns-clause-only_least : goal.returns-clause-only_least
returns-clause-only_least c = λ form b v h. own_verdict_unique form b (own_verdict form b) v (own_verdict_least form b) h

pub returns-clause-none : goal.returns-clause-none
returns-clause-none c = own_verdict_none

pub returns-clause-accepted : goal.returns-clause-accepted
returns-clause-accepted c = λ form a b n e. accepted_own form b a n e

pub returns-clause-never_accepted : goal.returns-clause-never_accepted
returns-clause-never_accepted c = λ form a b n fault own e. let f : None ≡ Some fault = sym (accepted_own form b a n e) ∙ own in cc f
