use Rattle.std.proofs.Common.{◌≡◌, ◌+◌, ◌*◌, ◌-◌, ◌<◌, ◌≤◌, set, arith}
use Rattle.lit_pool.specs.declared.kind.Kind.TheVariants.{Freed}
use Rattle.lit_pool.specs.Pieces.{room_in}
use Rattle.lit_pool.proofs.PiecesMap.{IsSplit, split}
use Rattle.lit_pool.proofs.pieces.split.Goals as goal

-- what the words and kinds are at the end
ends : (c : goal.After-kinds-1) → IsSplit c.args.words.now c.set_units-2.new.words c.args.kinds.now.items (set c.args.kinds.now.items c.rest.inside.number Freed) c.args.s c.args.units
ends c =
    let ws = c.args.words.now in
    let s = c.args.s in
    let u = c.args.units in
    let whole = c.units-whole.result in
    let place : c.rest.inside.number ≡ s + u = cc in
    let less : u < whole = omega (arith, c.units-whole.ensures.units, c.requires.more) in
    let fits : 8 * whole ≤ room_in ws s + 4 = omega (arith, c.units-whole.ensures.units) in
    let vs_is : c.set_units-2.new.words ≡ set (set ws (8 * s) (8 * u - 4)) (8 * (s + u)) (8 * (whole - u) - 4) = cc in
    rw (vs_is, place) (split ws c.args.kinds.now.items s u whole c.requires.pieces c.requires.freed c.requires.some less fits)

pub returns-clause-pieces : goal.returns-clause-pieces
returns-clause-pieces c = (ends c).pieces

pub returns-clause-same : goal.returns-clause-same
returns-clause-same c = (ends c).stays
