use Rattle.std.proofs.Common.{◌∙◌, ap, arith, length}
use Rattle.std.specs.Prelude.{swap}
use Rattle.decide_order.proofs.Places.{exchange, shown-swap, shown-length, fits, read}
use Rattle.decide_order.proofs.placed.PlacedList.swap.Goals as goal

pub invariant_of-self : goal.invariant_of-self
invariant_of-self c =
    let long = shown-length _ _ _ _ c.self.invariant in
    let full = fits _ _ _ _ c.self.invariant in
    let shown = ap (λ v. length v.items) c.self.view_is in
    let order = c.requires.order in
    let within = c.requires.within in
    let first = read c.self.inside.rows.items c.args.low c.index-first.result.now (omega arith) c.index-first.ensures in
    let second = read c.self.inside.rows.items c.args.high c.index-second.result.now (omega arith) c.index-second.ensures in
    exchange _ _ _ _ _ _ _ _ c.self.invariant order (omega arith) first second

pub returns-clause-items : goal.returns-clause-items
returns-clause-items c =
    let long = shown-length _ _ _ _ c.self.invariant in
    let full = fits _ _ _ _ c.self.invariant in
    let shown = ap (λ v. length v.items) c.self.view_is in
    let order = c.requires.order in
    let within = c.requires.within in
    let first = read c.self.inside.rows.items c.args.low c.index-first.result.now (omega arith) c.index-first.ensures in
    let second = read c.self.inside.rows.items c.args.high c.index-second.result.now (omega arith) c.index-second.ensures in
    shown-swap _ _ _ _ _ _ order (omega arith) full first second ∙ ap (λ v. swap v.items c.args.low c.args.high) c.self.view_is
