use Rattle.std.proofs.Common.{◌≡◌, ℕ, ◌+◌, ◌*◌, ◌-◌, ◌≤◌, List, ◌++◌, length, take, replicate, refl, ap, ◌∙◌, arith}
use Rattle.std.proofs.Math.ListN.{set}
use Rattle.std.proofs.lemmas.List.{take_all, length-append, length-replicate}
use Rattle.lit_pool.specs.declared.kind.Kind.{Kind}
use Rattle.lit_pool.specs.declared.kind.Kind.TheVariants.{Inside, Freed}
use Rattle.lit_pool.specs.Pieces.{ArePieces, live_pieces}
use Rattle.lit_pool.proofs.PiecesMap.{longer, appended, Appended}
use Rattle.lit_pool.proofs.pieces.append.Goals as goal

resized : (ks : List Kind) (end units n : ℕ) → end ≡ length ks → n ≡ length ks → take (end + units) ks ++ replicate (end + units - n) Inside ≡ ks ++ replicate units Inside
resized ks end units n is same =
    let more : end + units - n ≡ units = omega (arith, is, same) in
    rw (take_all (end + units) ks (omega (arith, is)), more) refl

-- the words behind, where a table was made so long
long_enough : (ws vs : List ℕ) (n : ℕ) → vs ≡ ws ++ replicate (n - length ws) 0 → n ≤ length vs
long_enough ws vs n is =
    let more : length (replicate {A = ℕ} (n - length ws) 0) ≡ n - length ws = length-replicate _ _ in
    omega (arith, ap length is, length-append ws (replicate (n - length ws) 0), more)

-- src/pieces.rt:75:5
pub returns-in_err-resize-clause-same : goal.returns-in_err-resize-clause-same
returns-in_err-resize-clause-same c =
    (λ i. live_pieces (c.in_ok-extend_to.ensures.ok i) (c.in_err-resize.ensures.items i)) ∙ (longer _ _ _ c.requires.pieces).stays

-- what the words and kinds are at the end
ends : (c : goal.After-kinds-1) → Appended c.extend_to.new.self c.set_units.new.words c.args.kinds.now.items (set c.resize.new.self.items c.len-end.result Freed) c.args.units
ends c =
    let number : c.len-end.result ≡ length c.args.kinds.now.items = c.len-end.ensures ∙ c.args.kinds.now.ok.0 in
    let l = longer c.args.words.now (replicate (8 * (c.len-end.result + c.args.units) - length c.args.words.now) 0) c.args.kinds.now.items c.requires.pieces in
    let before : ArePieces c.extend_to.new.self c.args.kinds.now.items = rw c.in_ok-extend_to.ensures.ok l.pieces in
    let long = long_enough c.args.words.now c.extend_to.new.self (8 * (c.len-end.result + c.args.units)) c.in_ok-extend_to.ensures.ok in
    let a = appended _ _ c.args.units before (omega (arith, number, long)) c.requires.some in
    let words : c.set_units.new.words ≡ set c.extend_to.new.self (8 * length c.args.kinds.now.items) (8 * c.args.units - 4) = c.set_units.ensures ∙ (λ i. set c.extend_to.new.self (8 * number i) (8 * c.args.units - 4)) in
    let kinds : set c.resize.new.self.items c.len-end.result Freed ≡ set (c.args.kinds.now.items ++ replicate c.args.units Inside) (length c.args.kinds.now.items) Freed
    = (λ i. set ((c.in_ok-resize.ensures.items ∙ resized _ _ _ _ number c.args.kinds.now.ok.0) i) (number i) Freed) in
    rw (words, kinds) a

-- src/pieces.rt:54:1
pub returns-clause-pieces : goal.returns-clause-pieces
returns-clause-pieces c = (ends c).pieces

-- src/pieces.rt:54:1
pub returns-clause-same : goal.returns-clause-same
returns-clause-same c = (ends c).stays ∙ ap (λ ws. live_pieces ws c.args.kinds.now.items) c.in_ok-extend_to.ensures.ok ∙ (longer _ _ _ c.requires.pieces).stays
