use Rattle.std.proofs.Common.{◌≡◌, ◌+◌, ◌*◌, set}
use Rattle.lit_pool.specs.Pieces.{place_of_link}
use Rattle.lit_pool.proofs.WordLists.{relinked_is}
use Rattle.lit_pool.proofs.piece.set_link.Goals as goal

pub returns-clause-entry : goal.returns-clause-entry
returns-clause-entry c =
    let ws = c.args.words.now in
    let s = c.args.s in
    let vs_is : c.put.new.self ≡ set ws (8 * s + place_of_link c.args.which) c.word_of.result = cc in
    rw vs_is (relinked_is ws s c.args.which c.args.to c.word_of.result c.word_of.ensures.back c.requires)
