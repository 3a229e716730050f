use Rattle.std.proofs.Common.{◌≡◌, ◌+◌, ◌*◌, get_or}
use Rattle.lit_pool.specs.Pieces.{word, len_in, words_from}
use Rattle.lit_pool.proofs.WordLists.{word_of_run}
use Rattle.lit_pool.proofs.piece.at.Goals as goal

pub returns : goal.returns
returns c =
    let ws = c.args.words.now in
    let from = 8 * c.args.s + 4 in
    let e : get_or (words_from ws from (len_in ws c.args.s)) c.args.i 0 ≡ word ws (from + c.args.i) = word_of_run ws from (len_in ws c.args.s) c.args.i c.requires.place in
    cc
