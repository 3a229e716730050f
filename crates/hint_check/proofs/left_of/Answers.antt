use Rattle.std.proofs.Common.{◌≡◌, ◌<◌, length, get_or, Contains, false, nat_eq, sym, subst, ap, ◌∙◌}
use Rattle.std.proofs.lemmas.List.{get_or_default}
use Rattle.std.proofs.lemmas.List.Elements.{Contains-get_or}
use Rattle.lits.specs.Literal.{neg}
use Rattle.lits.specs.Clause.{has}
use Rattle.hint_check.specs.Hints.{met_seen}
use Rattle.hint_check.proofs.Lefts.{left-more, different, same_test}
use Rattle.hint_check.proofs.left_of.Goals as goal

pub returns-then-ne-clause-left : goal.returns-then-ne-clause-left
returns-then-ne-clause-left c = λ trues m.
    let item : get_or c.args.lits.now c.loop-l.l-index 0 ≡ c.l-item.result = get_or_default c.args.lits.now c.loop-l.l-index 0 c.l-item.result c.loop-l-test.true ∙ sym c.l-item.is in
    let inside : neg c.l-item.result < length c.args.last_true.now = c.requires.within c.l-item.result (subst (λ z. Contains c.args.lits.now z) item (Contains-get_or c.args.lits.now c.loop-l.l-index 0 c.loop-l-test.true)) in
    let free : has trues (neg (get_or c.args.lits.now c.loop-l.l-index 0)) ≡ false = ap (λ z. has trues (neg z)) item ∙ sym (m (neg c.l-item.result) inside) ∙ ap (λ z. nat_eq (get_or c.args.last_true.now z 0) c.args.run_number) (sym c.neg.ensures.negation) ∙ sym c.is_true.ensures ∙ c.if-not-is_true.true in
    left-more trues c.args.lits.now c.loop-l.l-index c.in-Some.m c.loop-l-test.true free (ap met_seen (sym c.in-Some.is) ∙ c.loop-l.invariant.left trues m)
    (λ e. different (nat_eq c.in-Some.m c.l-item.result) (sym c.ne.ensures ∙ c.if-ne.true) (same_test _ _ (e ∙ item)))
