use Rattle.std.proofs.Common.{◌≡◌, ◌<◌, length, get_or, Contains, sym, subst, ◌∙◌, arith}
use Rattle.std.proofs.lemmas.List.{get_or_default}
use Rattle.std.proofs.lemmas.List.Elements.{Contains-get_or}
use Rattle.hint_check.proofs.make_true.Goals as goal

pub bounds-last_true-code : goal.bounds-last_true-code
bounds-last_true-code c =
    let item : get_or c.args.start.now c.loop-l.l-index 0 ≡ c.l-item.result = get_or_default c.args.start.now c.loop-l.l-index 0 c.l-item.result c.loop-l-test.true ∙ sym c.l-item.is in
    let inside : c.l-item.result < length c.args.last_true.now = c.requires.within c.l-item.result (subst (λ z. Contains c.args.start.now z) item (Contains-get_or c.args.start.now c.loop-l.l-index 0 c.loop-l-test.true)) in
    omega (arith, inside, c.code.ensures.code, c.loop-l.auto.last_true)
