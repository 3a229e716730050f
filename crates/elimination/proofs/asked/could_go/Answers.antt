use Rattle.std.proofs.Common.{◌≡◌, ◌+◌, ◌<◌, ◌++◌, length, arith}
use Rattle.elimination.proofs.Pairing.{many_with, many_against, few_go}
use Rattle.elimination.proofs.asked.could_go.Goals as goal

pub returns-then-with-gt-MOST_HOLDING : goal.returns-then-with-gt-MOST_HOLDING
returns-then-with-gt-MOST_HOLDING c = many_with c.args.store.now c.args.var c.args.with.now c.args.against.now c.requires.clean_with c.requires.clean_against c.requires.hold c.requires.hold_negation c.if-with-gt-MOST_HOLDING.true

pub returns-then-against-gt-MOST_HOLDING : goal.returns-then-against-gt-MOST_HOLDING
returns-then-against-gt-MOST_HOLDING c = many_against c.args.store.now c.args.var c.args.with.now c.args.against.now c.requires.clean_with c.requires.clean_against c.requires.hold c.requires.hold_negation c.if-against-gt-MOST_HOLDING.true

pub returns : goal.returns
returns c =
    let some = c.if-with-against-eq0.false in
    let up : 0 < length c.args.with.now + length c.args.against.now = omega (arith, some) in
    few_go c.args.store.now c.args.var c.args.with.now c.args.against.now c.requires.clean_with c.requires.clean_against c.requires.hold c.requires.hold_negation c.are_few.result up c.if-with-gt-MOST_HOLDING.false c.if-against-gt-MOST_HOLDING.false c.are_few.ensures
