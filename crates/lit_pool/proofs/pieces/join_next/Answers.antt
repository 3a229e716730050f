use Rattle.std.proofs.Common.{◌≡◌, ◌+◌, ◌*◌, ◌<◌, ◌≤◌, set, refl, sym, ap, ◌∙◌, arith}
use Rattle.lit_pool.specs.declared.kind.Kind.TheVariants.{Inside, Freed}
use Rattle.lit_pool.specs.Pieces.{room_in, kind_at}
use Rattle.lit_pool.proofs.Joining.{IsJoined, joined}
use Rattle.lit_pool.proofs.pieces.join_next.Goals as goal

-- what the words and kinds are at the end
ends : (c : goal.After-kinds-1) → IsJoined c.args.words.now c.set_units.new.words c.args.kinds.now.items (set c.args.kinds.now.items c.next.inside.number Inside) c.args.s
ends c =
    let ws = c.args.words.now in
    let s = c.args.s in
    let u = c.units-units.result in
    let v = c.units.result in
    let place : c.next.inside.number ≡ s + u = cc in
    let found : kind_at c.args.kinds.now.items (s + u) ≡ Freed = ap (λ n. kind_at c.args.kinds.now.items (n + u)) (sym c.s.view_is) ∙ (c.if-not-has_units.ensures refl).0 in
    let fits : 8 * u ≤ room_in ws s + 4 = omega (arith, c.units-units.ensures.units) in
    let close : room_in ws s + 4 < 8 * u + 8 = omega (arith, c.units-units.ensures.units) in
    let room : room_in ws (c.s.inside.number + u) ≡ room_in ws (s + u) = ap (λ n. room_in ws (n + u)) c.s.view_is in
    let more : 8 * v ≤ room_in ws (s + u) + 4 = omega (arith, c.units.ensures.units, room) in
    rw (c.set_units.ensures, place) (joined ws c.args.kinds.now.items s u v c.requires.pieces c.requires.freed found (omega (arith, c.if-units-eq0.false)) fits close more)

pub returns-clause-pieces : goal.returns-clause-pieces
returns-clause-pieces c = (ends c).pieces

pub returns-clause-same : goal.returns-clause-same
returns-clause-same c = (ends c).stays
