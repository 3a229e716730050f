use Rattle.std.proofs.Common.{◌-◌, sym, ◌∙◌, ap, arith, eqb-true}
use Rattle.std.proofs.lemmas.List.{get_or_read}
use Rattle.std.proofs.lemmas.Bool.{eqb-false}
use Rattle.lits.specs.Literal.{neg}
use Rattle.lits.proofs.SetSteps.{no_opposites_start, no_opposites_more, no_tautology, tautology_by_neighbours}
use Rattle.lits.proofs.set.has_opposites.Goals as goal

pub loop-i-init : goal.loop-i-init
loop-i-init c = no_opposites_start c.args.lits.now

pub returns-then-eq : goal.returns-then-eq
returns-then-eq c =
    let lits = c.args.lits.now in let i = c.loop-i.i in
    let one = get_or_read lits (i - 1) _ (omega arith) c.index-lits-i.is 0 in
    let two = get_or_read lits i _ (omega arith) c.index-lits-i-in-loop-i.is 0 in
    let same = eqb-true _ _ (sym c.eq.ensures ∙ c.if-eq.true) in
    sym (tautology_by_neighbours lits i (omega arith) (omega arith) (ap neg (sym one) ∙ sym c.neg.ensures.negation ∙ same ∙ two))

pub loop-i-preserved : goal.loop-i-preserved
loop-i-preserved c =
    let lits = c.args.lits.now in let i = c.loop-i.i in
    let one = get_or_read lits (i - 1) _ (omega arith) c.index-lits-i.is 0 in
    let two = get_or_read lits i _ (omega arith) c.index-lits-i-in-loop-i.is 0 in
    let apart = eqb-false _ _ (sym c.eq.ensures ∙ c.if-eq.false) in
    no_opposites_more lits i (omega arith) c.loop-i.invariant (λ e. apart (c.neg.ensures.negation ∙ ap neg one ∙ e ∙ sym two))

pub returns : goal.returns
returns c =
    let lits = c.args.lits.now in
    sym (no_tautology lits c.requires (λ k lt. c.loop-i.invariant k (omega arith)))
