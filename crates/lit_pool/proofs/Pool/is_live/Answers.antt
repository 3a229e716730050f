use Rattle.std.proofs.Common.{ap, sym, ◌∙◌}
use Rattle.std.specs.FinMap.{contains_key}
use Rattle.lit_pool.proofs.PiecesMap.{is_live_is}
use Rattle.lit_pool.proofs.Pool.is_live.Goals as goal

pub returns : goal.returns
returns c =
    let e = ap (λ m. contains_key m c.args.s) (sym c.self.view_is) ∙ is_live_is _ _ _ ∙ sym c.is_live.ensures in
    rw e ((λ h. h), (λ h. h))
