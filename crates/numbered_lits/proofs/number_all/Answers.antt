use Rattle.std.proofs.Common.{◌≡◌, ◌+◌, ◌∷◌, ◌++◌, [], length, get_or, take, refl, ap, ◌∙◌, subst, sym, arith}
use Rattle.std.proofs.lemmas.List.{get_or_default, length-append}
use Rattle.lits.specs.Literal.{var}
use Rattle.lits.specs.Numbering.{dense_lit, with_var, with_lits, numbered_lits}
use Rattle.numbered_lits.specs.Numbers.{AreNumbers}
use Rattle.numbered_lits.proofs.Lists.{vars-step, numbered-step, continues, are-numbers-after}
use Rattle.numbered_lits.proofs.number_all.Goals as goal

pub loop-l-init : goal.loop-l-init
unfolding with_lits
loop-l-init c = let e : c.reserve.new.self.items ≡ [] = c.in_ok-reserve.ensures.items ∙ c.requires in
    record { vars = refl; items = e; size = ap length e; room = let r = c.in_ok-reserve.ensures.ok in omega (arith, r) }

pub returns-in_err-lit-clause-continues : goal.returns-in_err-lit-clause-continues
returns-in_err-lit-clause-continues c = continues c.args.dense.now (take c.loop-l.l-index c.args.lits.now) c.number_lit.new.self (c.in_err-lit.ensures.err ∙ c.loop-l.invariant.vars)

pub loop-l-preserved : goal.loop-l-preserved
loop-l-preserved c =
    let vars = c.args.dense.now in let lits = c.args.lits.now in let i = c.loop-l.l-index in let lt = c.loop-l-test.true in
    let item : c.l-item.result ≡ get_or lits i 0 = c.l-item.is ∙ get_or_default _ _ c.l-item.result 0 lt in
    let lit : c.in_ok-lit.lit ≡ dense_lit (with_lits vars (take i lits)) (get_or lits i 0) =
    c.in_ok-lit.ensures.literal ∙ ap (dense_lit c.loop-l.dense) item ∙ ap (λ v. dense_lit v (get_or lits i 0)) c.loop-l.invariant.vars in
    record {
      vars = c.in_ok-lit.ensures.ok ∙ ap (λ l. with_var c.loop-l.dense (var l)) item ∙ ap (λ v. with_var v (var (get_or lits i 0))) c.loop-l.invariant.vars ∙ sym (vars-step vars lits i lt);
      items = c.push_reserved.ensures.items ∙ ap (λ z. z ++ c.in_ok-lit.lit ∷ []) c.loop-l.invariant.items ∙ ap (λ l. numbered_lits vars (take i lits) ++ l ∷ []) lit ∙ sym (numbered-step vars lits i lt);
      size = ap length c.push_reserved.ensures.items ∙ length-append c.loop-l.out.items (c.in_ok-lit.lit ∷ []) ∙ ap (λ n. n + 1) c.loop-l.invariant.size;
      room = let r = c.push_reserved.ensures.capacity in omega (arith, r, c.loop-l.invariant.room);
    }

pub returns-clause-numbers : goal.returns-clause-numbers
returns-clause-numbers c = let vars = c.args.dense.now in let ls = take c.loop-l.l-index c.args.lits.now in
    subst (λ v. AreNumbers v c.loop-l.out.items) (sym c.loop-l.invariant.vars)
    (subst (AreNumbers (with_lits vars ls)) (sym c.loop-l.invariant.items) (are-numbers-after vars ls))

pub returns-clause-continues : goal.returns-clause-continues
returns-clause-continues c = continues c.args.dense.now (take c.loop-l.l-index c.args.lits.now) c.loop-l.dense c.loop-l.invariant.vars
