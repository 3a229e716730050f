use Rattle.std.proofs.Common.{◌≡◌, ◌+◌, ◌*◌, set, arith}
use Rattle.lit_pool.specs.Pieces.{word}
use Rattle.lit_pool.proofs.WordLists.{swapped_is}
use Rattle.lit_pool.proofs.piece.swap.Goals as goal

pub returns-clause-entry : goal.returns-clause-entry
returns-clause-entry c =
    let ws = c.args.words.now in
    let s = c.args.s in
    let a = c.args.a in
    let b = c.args.b in
    let at = 8 * s + 4 in
    let vs_is : c.put-2.new.self ≡ set (set ws (at + a) (word ws (at + b))) (at + b) (word ws (at + a)) = cc in
    rw vs_is (swapped_is ws s a b c.requires.a_in_bounds c.requires.b_in_bounds (omega arith))
