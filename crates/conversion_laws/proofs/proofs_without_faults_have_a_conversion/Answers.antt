use Rattle.conversion_laws.proofs.Existing.{conversion_exists}
use Rattle.conversion_laws.proofs.proofs_without_faults_have_a_conversion.Goals as goal

pub returns : goal.returns
returns c = conversion_exists
