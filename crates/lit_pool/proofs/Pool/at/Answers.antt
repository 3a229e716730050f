use Rattle.std.proofs.Common.{ap, ◌∙◌, arith}
use Rattle.std.specs.Prelude.{slice_index}
use Rattle.lit_pool.proofs.PiecesMap.{found}
use Rattle.lit_pool.proofs.Pool.at.Goals as goal

pub at-requires-clause-within : goal.at-requires-clause-within
at-requires-clause-within c = let f = found _ _ _ _ c.self.view_is c.self.invariant.pieces c.requires.live in f.lits_in

pub at-requires-clause-place : goal.at-requires-clause-place
at-requires-clause-place c = let f = found _ _ _ _ c.self.view_is c.self.invariant.pieces c.requires.live in omega (arith, f.len, c.requires.within)

pub returns : goal.returns
returns c = let f = found _ _ _ _ c.self.view_is c.self.invariant.pieces c.requires.live in
    c.at.ensures ∙ ap (λ e. slice_index e.lits c.args.i) f.read
