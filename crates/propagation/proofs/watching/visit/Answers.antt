use Rattle.propagation.proofs.Advancing.{advances_put, new_step}
use Rattle.propagation.proofs.watching.visit.Goals as goal

pub put-requires : goal.put-requires
put-requires c =
    let entry = new_step c.args.watches.now c.args.trail.now c.in-Unit.l c.args.slot c.requires.engine c.in-Unit.ensures.found.1 c.in-Unit.ensures.found.2 in
    record { reserved = entry.reserved; free = entry.free }

pub returns-in-Unit-clause-entries : goal.returns-in-Unit-clause-entries
returns-in-Unit-clause-entries c =
    advances_put c.args.watches.now c.find_two_watches.new.watches c.args.trail.now c.put.new.self c.in-Unit.l c.args.slot c.requires.engine c.find_two_watches.ensures.moved c.find_two_watches.ensures.wide c.in-Unit.ensures.found.1 c.in-Unit.ensures.found.2 c.put.ensures
