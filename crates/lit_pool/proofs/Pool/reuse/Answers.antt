use Rattle.std.proofs.Common.{◌+◌, sym, ap, ◌∙◌, arith}
use Rattle.std.specs.FinMap.{len}
use Rattle.lit_pool.proofs.PiecesMap.{len_live, len_added}
use Rattle.lit_pool.proofs.Pool.reuse.Goals as goal

pub overflow_add-self : goal.overflow_add-self
overflow_add-self c = record { fits = omega (arith, c.self.invariant.counted, len_live c.self.inside.words c.self.inside.kinds.items) }

pub invariant_of-self : goal.invariant_of-self
invariant_of-self c = record {
  pieces = c.occupy.ensures.pieces;
  counted = ap (λ n. n + 1) (c.self.invariant.counted ∙ ap len (sym c.trim.ensures.same)) ∙ sym (len_added _ _ _ c.occupy.ensures.fresh) ∙ ap len (sym c.occupy.ensures.filled);
}
