use Rattle.elimination.proofs.Deciding.{lists_decide}
use Rattle.elimination.proofs.laws.lists_decide_eligibility.Goals as goal

pub returns : goal.returns
returns c = λ m rows ids x frozen assigned z s clean. lists_decide m rows ids x z s clean frozen assigned
