use Rattle.std.proofs.Common.{ℕ, swap, sym, ap, ◌∙◌, arith}
use Rattle.std.proofs.lemmas.List.Edits.{length-swap}
use Rattle.std.specs.FinMap.{len}
use Rattle.lit_pool.specs.Entry.{Entry, entry_at}
use Rattle.lit_pool.proofs.PiecesMap.{found, len_replaced}
use Rattle.lit_pool.proofs.Pool.swap.Goals as goal

abbrev swapped : Entry → ℕ → ℕ → Entry
swapped e a b = record { lits = swap e.lits a b; one = e.one; two = e.two }

pub swap-requires-clause-within : goal.swap-requires-clause-within
swap-requires-clause-within c = let f = found _ _ _ _ c.self.view_is c.self.invariant.pieces c.requires.live in f.room

pub swap-requires-clause-fits : goal.swap-requires-clause-fits
swap-requires-clause-fits c = let f = found _ _ _ _ c.self.view_is c.self.invariant.pieces c.requires.live in f.fits

pub swap-requires-clause-a_in_bounds : goal.swap-requires-clause-a_in_bounds
swap-requires-clause-a_in_bounds c = let f = found _ _ _ _ c.self.view_is c.self.invariant.pieces c.requires.live in omega (arith, f.len, c.requires.a_in_bounds)

pub swap-requires-clause-b_in_bounds : goal.swap-requires-clause-b_in_bounds
swap-requires-clause-b_in_bounds c = let f = found _ _ _ _ c.self.view_is c.self.invariant.pieces c.requires.live in omega (arith, f.len, c.requires.b_in_bounds)

pub invariant_of-self : goal.invariant_of-self
invariant_of-self c = let f = found _ _ _ _ c.self.view_is c.self.invariant.pieces c.requires.live in
    let w = f.written _ _ c.swap.ensures.within (c.swap.ensures.entry ∙ ap (λ e. swapped e c.args.a c.args.b) f.read) (length-swap (entry_at c.args.self.now c.args.s).lits c.args.a c.args.b ∙ sym f.len) in
    record { pieces = w.1; counted = c.self.invariant.counted ∙ ap len c.self.view_is ∙ sym (len_replaced _ _ _ f.held) ∙ ap len (sym w.0) }

pub returns : goal.returns
returns c = let f = found _ _ _ _ c.self.view_is c.self.invariant.pieces c.requires.live in
    let w = f.written _ _ c.swap.ensures.within (c.swap.ensures.entry ∙ ap (λ e. swapped e c.args.a c.args.b) f.read) (length-swap (entry_at c.args.self.now c.args.s).lits c.args.a c.args.b ∙ sym f.len) in
    w.0
