use Rattle.std.proofs.Common.{sym, ◌∙◌, ap}
use Rattle.lits.specs.Clause.{is_tautology, set_of}
use Rattle.elimination.proofs.Admitting.{active_added, admission}
use Rattle.elimination.proofs.listing.add_input.Goals as goal

pub list_input-requires-clause-active : goal.list_input-requires-clause-active
list_input-requires-clause-active c = (set_of c.args.lits.now, active_added c.args.engine.now c.add.new.self c.args.id c.in-Ok.field-0 c.args.lits.now c.in-Ok.ensures.ok)

pub returns : goal.returns
returns c = admission c.push.result c.args.engine.now c.add.new.self c.args.irredundant.now c.list_input.new.irredundant c.args.occurrences.now c.list_input.new.occurrences c.args.inputs.now c.push.new.self
    c.args.id c.in-Ok.field-0 c.args.lits.now c.in_ok-set.set c.tautology.result c.in-Ok.ensures.ok c.in_ok-set.ensures.set c.tautology.ensures c.in_ok-list_input.ensures c.push.ensures.ok
