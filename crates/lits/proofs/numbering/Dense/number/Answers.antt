use Rattle.std.proofs.Common.{Some, ◌∙◌, ap}
use Rattle.lits.specs.Numbering.{find_number}
use Rattle.lits.proofs.Places.{find-limit, find-within}
use Rattle.lits.proofs.Noted.{near-found}
use Rattle.lits.proofs.numbering.Dense.number.Goals as goal

pub returns-then-number-ne0-clause-limit : goal.returns-then-number-ne0-clause-limit
returns-then-number-ne0-clause-limit c =
    find-limit c.self.inside.vars.items c.args.var (Some c.near_at-number.result) c.self.invariant.numbering
    (near-found c.self.inside.table.near.items c.self.inside.vars.items c.self.inside.table.far.entries c.args.var c.near_at-number.result c.self.invariant c.near_at-number.ensures c.if-number-ne0.true)

pub returns-then-number-ne0-clause-within : goal.returns-then-number-ne0-clause-within
returns-then-number-ne0-clause-within c =
    find-within c.args.self.now c.args.var (Some c.near_at-number.result)
    (near-found c.self.inside.table.near.items c.self.inside.vars.items c.self.inside.table.far.entries c.args.var c.near_at-number.result c.self.invariant c.near_at-number.ensures c.if-number-ne0.true
    ∙ ap (λ xs. find_number xs c.args.var) c.self.view_is)
