use Rattle.std.proofs.Common.{Some, sym, ◌∙◌}
use Rattle.lits.proofs.Places.{found-limit, find-within}
use Rattle.lits.proofs.numbering.Dense.number_rare.Goals as goal

pub returns-in-Some-clause-limit : goal.returns-in-Some-clause-limit
returns-in-Some-clause-limit c = found-limit c.self.inside.vars.items c.args.var c.in-Some.number c.self.invariant.numbering (sym (c.in-Some.ensures ∙ c.self.invariant.numbers c.args.var))

pub returns-in-Some-clause-within : goal.returns-in-Some-clause-within
returns-in-Some-clause-within c = find-within c.self.inside.vars.items c.args.var (Some c.in-Some.number) (c.in-Some.ensures ∙ c.self.invariant.numbers c.args.var)
