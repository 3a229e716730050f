use Rattle.std.proofs.Common.{◌≡◌, true, false, ◌∙◌}
use Rattle.numbered_lits.proofs.Lists.{others-short, others-clash}
use Rattle.numbered_lits.proofs.split_known.Goals as goal

pub returns-in_err-others-clause-short : goal.returns-in_err-others-clause-short
returns-in_err-others-clause-short c = λ h. let k : false ≡ true = (c.in_err-others.ensures.short (others-short c.args.dense.now c.args.lits.now c.as_slice.result.now (c.as_slice.ensures ∙ c.find_each.ensures.others) h)) in cc k

pub returns-clause-clash : goal.returns-clause-clash
returns-clause-clash c = others-clash c.args.dense.now c.args.lits.now c.as_slice.result.now c.in_ok-others.others _ (c.as_slice.ensures ∙ c.find_each.ensures.others) c.in_ok-others.ensures.members c.tautology.ensures
