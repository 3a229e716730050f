use Rattle.session_laws.proofs.Accepted.{verdict_certifies, verdict_whole, verdict_partners, verdict_counts}
use Rattle.session_laws.proofs.acceptance_certifies.Goals as goal

pub returns-clause-certified : goal.returns-clause-certified
returns-clause-certified c = λ form a b n e. verdict_certifies form a b n e

pub returns-clause-whole : goal.returns-clause-whole
returns-clause-whole c = λ form a b n e. verdict_whole form a b n e

pub returns-clause-partners : goal.returns-clause-partners
returns-clause-partners c = λ form a b n e. verdict_partners form a b n e

pub returns-clause-queries : goal.returns-clause-queries
returns-clause-queries c = λ form a b n e. verdict_counts form a b n e
