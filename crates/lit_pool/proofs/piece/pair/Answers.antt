use Rattle.std.proofs.Common.{◌≡◌, ◌+◌, ◌*◌, get_or, arith}
use Rattle.lit_pool.specs.Pieces.{word, len_in, words_from}
use Rattle.lit_pool.proofs.WordLists.{word_of_run}
use Rattle.lit_pool.proofs.piece.pair.Goals as goal

pub returns : goal.returns
returns c =
    let ws = c.args.words.now in
    let at = 8 * c.args.s + 4 in
    let e : get_or (words_from ws at (len_in ws c.args.s)) 0 0 ≡ word ws (at + 0) = word_of_run ws at (len_in ws c.args.s) 0 (omega arith) in
    let f : get_or (words_from ws at (len_in ws c.args.s)) 1 0 ≡ word ws (at + 1) = word_of_run ws at (len_in ws c.args.s) 1 (omega arith) in
    let z : at + 0 ≡ at = omega arith in
    (cc, cc)
