use Rattle.std.proofs.Common.{◌≤◌, arith}
use Rattle.propagation.proofs.Reordering.{brought_here, brought_later}
use Rattle.propagation.proofs.watching.bring.Goals as goal

pub returns-then-k-place-clause-brought : goal.returns-then-k-place-clause-brought
returns-then-k-place-clause-brought c = λ id at. brought_here c.args.watches.now id c.args.place c.args.k c.if-k-place.true

pub returns-clause-brought : goal.returns-clause-brought
returns-clause-brought c = λ id at.
    let two : 2 ≤ c.args.k = grind (arith, c.requires.later, c.if-k-place.false) in
    brought_later c.args.watches.now c.exchange.new.self id c.args.slot c.args.place c.args.k
    (record { slot = at; before = c.requires.sound; after = c.exchange.ensures.sound; is = c.exchange.ensures.exchanged id at; wide = c.exchange.ensures.wide }) c.requires.first_two two (c.requires.within id at)
