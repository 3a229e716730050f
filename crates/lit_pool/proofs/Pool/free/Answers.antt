use Rattle.std.proofs.Common.{◌-◌, ap, sym, ◌∙◌}
use Rattle.std.specs.FinMap.{len, remove}
use Rattle.lit_pool.proofs.PiecesMap.{found, len_removed, some_live}
use Rattle.lit_pool.proofs.Pool.free.Goals as goal

pub units-units-requires : goal.units-units-requires
units-units-requires c = let f = found _ _ _ _ c.self.view_is c.self.invariant.pieces c.requires.live in f.head

pub vacate-requires-clause-live : goal.vacate-requires-clause-live
vacate-requires-clause-live c = let f = found _ _ _ _ c.self.view_is c.self.invariant.pieces c.requires.live in f.alive

pub overflow_sub-self : goal.overflow_sub-self
overflow_sub-self c = let f = found _ _ _ _ c.self.view_is c.self.invariant.pieces c.requires.live in rw (c.self.invariant.counted, c.self.view_is) (some_live _ _ f.held)

pub invariant_of-self : goal.invariant_of-self
invariant_of-self c = let f = found _ _ _ _ c.self.view_is c.self.invariant.pieces c.requires.live in
    record { pieces = c.vacate.ensures.pieces; counted = ap (λ n. n - 1) (c.self.invariant.counted ∙ ap len c.self.view_is) ∙ sym (len_removed _ _ f.held) ∙ ap len (sym (c.vacate.ensures.cleared ∙ ap (λ m. remove m c.args.s) c.self.view_is)) }

pub returns : goal.returns
returns c = c.vacate.ensures.cleared ∙ ap (λ m. remove m c.args.s) c.self.view_is
