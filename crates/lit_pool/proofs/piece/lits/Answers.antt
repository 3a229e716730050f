use Rattle.std.proofs.Common.{◌≡◌, ◌+◌, ◌*◌, slice_range, arith}
use Rattle.lit_pool.specs.Pieces.{len_in, words_from}
use Rattle.lit_pool.proofs.WordLists.{range_is}
use Rattle.lit_pool.proofs.piece.lits.Goals as goal

pub returns : goal.returns
returns c =
    let ws = c.args.words.now in
    let e : slice_range ws (8 * c.args.s + 4) (8 * c.args.s + 4 + len_in ws c.args.s) ≡ words_from ws (8 * c.args.s + 4) (len_in ws c.args.s) = range_is ws (8 * c.args.s + 4) (len_in ws c.args.s) (omega arith) in
    cc
