use Rattle.session_rules.specs.Pair.{verdict}
use Rattle.pair_matcher.proofs.checking.check_pair.Goals as goal

pub returns-in-Idrup-clause-verdict : goal.returns-in-Idrup-clause-verdict
unfolding verdict
returns-in-Idrup-clause-verdict g c = rw c.in-Idrup.is c.check_by.ensures.verdict

pub returns-in-Lidrup-clause-verdict : goal.returns-in-Lidrup-clause-verdict
unfolding verdict
returns-in-Lidrup-clause-verdict g c = rw c.in-Lidrup.is c.check_by-in-Lidrup.ensures.verdict
