use Rattle.std.proofs.Common.{◌∙◌, ap}
use Rattle.lits.specs.Numbering.{find_number}
use Rattle.lits.proofs.Places.{find-limit, find-within}
use Rattle.lits.proofs.numbering.Dense.find.Goals as goal

pub returns-clause-limit : goal.returns-clause-limit
returns-clause-limit c = find-limit c.self.inside.vars.items c.args.var c.get.result c.self.invariant.numbering (c.get.ensures ∙ c.self.invariant.numbers c.args.var)

pub returns-clause-within : goal.returns-clause-within
returns-clause-within c = find-within c.args.self.now c.args.var c.get.result (c.get.ensures ∙ c.self.invariant.numbers c.args.var ∙ ap (λ xs. find_number xs c.args.var) c.self.view_is)
