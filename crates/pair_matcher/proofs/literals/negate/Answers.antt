use Rattle.std.proofs.Common.{◌≡◌, ◌∷◌, ◌++◌, [], get_or, map, take, ap, ◌∙◌, sym}
use Rattle.std.proofs.lemmas.List.{get_or_default}
use Rattle.lits.specs.Literal.{neg}
use Rattle.pair_matcher.proofs.Insides.{negated-step, negated-all}
use Rattle.pair_matcher.proofs.literals.negate.Goals as goal

pub loop-l-preserved : goal.loop-l-preserved
loop-l-preserved c =
    let item : c.l-item.result ≡ get_or c.args.lits.now c.loop-l.l-index 0 = c.l-item.is ∙ get_or_default _ _ c.l-item.result 0 c.loop-l-test.true in
    c.in_ok-push.ensures.items ∙ ap (λ z. z ++ c.neg.result ∷ []) c.loop-l.invariant
    ∙ ap (λ z. map neg (take c.loop-l.l-index c.args.lits.now) ++ z ∷ []) (c.neg.ensures.negation ∙ ap neg item)
    ∙ sym (negated-step c.args.lits.now c.loop-l.l-index c.loop-l-test.true)

pub returns : goal.returns
returns c = c.loop-l.invariant ∙ negated-all c.args.lits.now c.loop-l.l-index c.loop-l-test.false
