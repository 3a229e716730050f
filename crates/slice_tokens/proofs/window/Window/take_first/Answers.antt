use Rattle.std.proofs.Common.{take, sym, subst}
use Rattle.slice_tokens.specs.Place.{WhereTold, ahead}
use Rattle.slice_tokens.specs.Front.{coming, TakesWord}
use Rattle.slice_tokens.proofs.Front.{first_told}
use Rattle.slice_tokens.proofs.window.Window.take_first.Goals as goal

pub returns-clause-told : goal.returns-clause-told
returns-clause-told c = λ left.
    let p = c.args.self.now in
    subst (λ q. WhereTold (ahead p left) (ahead q left) (λ t u. TakesWord (take c.args.count (coming p)) p t q u)) (sym c.pass.ensures)
    (first_told p c.args.count left c.recall_bounds.ensures.moves.bounded c.requires)
