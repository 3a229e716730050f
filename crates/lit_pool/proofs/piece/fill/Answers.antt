use Rattle.std.proofs.Common.{◌≡◌, ◌+◌, ◌*◌, length, set, arith}
use Rattle.lit_pool.specs.Limit.{slots_end}
use Rattle.lit_pool.proofs.WordLists.{filling_none, filling_all}
use Rattle.lit_pool.proofs.piece.fill.Goals as goal

pub loop-i-init : goal.loop-i-init
loop-i-init c =
    let ws = c.args.words.now in
    let s = c.args.s in
    let vs_is : c.put-3.new.self ≡ set (set (set ws (8 * s + 1) (length c.args.lits.now)) (8 * s + 2) slots_end) (8 * s + 3) slots_end = cc in
    (omega arith, c.base-at.ensures, rw vs_is (filling_none s ws c.args.lits.now c.requires.within))

pub returns-clause-entry : goal.returns-clause-entry
returns-clause-entry c =
    let all : c.loop-i.i ≡ length c.args.lits.now = omega arith in
    filling_all c.args.s c.args.words.now c.loop-i.words c.args.lits.now (rw all at c.loop-i.invariant.2)
