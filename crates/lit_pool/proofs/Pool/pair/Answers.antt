use Rattle.std.proofs.Common.{ap, ◌∙◌, arith}
use Rattle.std.specs.Prelude.{slice_index}
use Rattle.lit_pool.proofs.PiecesMap.{found}
use Rattle.lit_pool.proofs.Pool.pair.Goals as goal

pub pair-requires-clause-within : goal.pair-requires-clause-within
pair-requires-clause-within c = let f = found _ _ _ _ c.self.view_is c.self.invariant.pieces c.requires.live in f.lits_in

pub pair-requires-clause-two : goal.pair-requires-clause-two
pair-requires-clause-two c = let f = found _ _ _ _ c.self.view_is c.self.invariant.pieces c.requires.live in omega (arith, f.len, c.requires.two)

pub returns : goal.returns
returns c = let f = found _ _ _ _ c.self.view_is c.self.invariant.pieces c.requires.live in
    (c.pair.ensures.0 ∙ ap (λ e. slice_index e.lits 0) f.read, c.pair.ensures.1 ∙ ap (λ e. slice_index e.lits 1) f.read)
