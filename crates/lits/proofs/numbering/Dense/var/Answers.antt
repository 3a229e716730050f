use Rattle.std.proofs.Common.{◌≡◌, ◌<◌, ◌-◌, length, get_or, sym, subst, ap, arith}
use Rattle.std.proofs.lemmas.List.{get_or_default}
use Rattle.lits.specs.Numbering.{IsVariable}
use Rattle.lits.proofs.Places.{var-limit}
use Rattle.lits.proofs.numbering.Dense.var.Goals as goal

pub returns-clause-limit : goal.returns-clause-limit
returns-clause-limit c =
    let lt : c.args.number - 1 < length c.self.inside.vars.items = omega (arith, c.requires, ap length c.self.view_is) in
    let e : c.index.result.now ≡ get_or c.self.inside.vars.items (c.args.number - 1) 0 = grind (arith, get_or_default, c.index.ensures, lt) in
    subst IsVariable (sym e) (var-limit c.self.inside.vars.items (c.args.number - 1) c.self.invariant.numbering lt)
