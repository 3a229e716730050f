use Rattle.std.proofs.Common.{◌≡◌, ◌≤◌, length, inl, inr, sym, ◌∙◌, subst, true}
use Rattle.conflict_analysis.specs.Marked.{pending}
use Rattle.conflict_analysis.proofs.Engines.{item_in, item_within, clause_has, clause_had, taken_all, taken_more}
use Rattle.conflict_analysis.proofs.mark_all.Goals as goal

pub mark_one-requires-clause-open : goal.mark_one-requires-clause-open
mark_one-requires-clause-open c =
    let a = c.requires.active in let same = c.clause_of-m-items.ensures a.0 a.1 a.2 in
    let m = item_in c.clause_of-m-items.result.now c.loop-m.m-index c.m-item.result c.loop-m-test.true c.m-item.is in
    elim (c.requires.open a.0 a.1 a.2 c.m-item.result (clause_has _ _ _ same m)) [
      | inl y ↦ inl (c.loop-m.invariant.more c.m-item.result y)
      | inr y ↦ inr y
    ]

pub mark_one-requires-clause-within : goal.mark_one-requires-clause-within
mark_one-requires-clause-within c =
    let a = c.requires.active in let same = c.clause_of-m-items.ensures a.0 a.1 a.2 in
    let m = item_in c.clause_of-m-items.result.now c.loop-m.m-index c.m-item.result c.loop-m-test.true c.m-item.is in
    item_within c.args.engine.now c.args.slot c.m-item.result (length c.loop-m.marks) c.clause_of-m-items.result.now c.requires.engine a same m
    (subst (λ z. c.args.engine.now.vars ≤ z) (sym c.loop-m.invariant.same) c.requires.room)

pub loop-m-preserved : goal.loop-m-preserved
loop-m-preserved c = record {
  marked = λ x n. elim (taken_more c.clause_of-m-items.result.now c.loop-m.m-index c.m-item.result x c.loop-m-test.true c.m-item.is n) [
    | inl y ↦ c.mark_one.ensures.more x (c.loop-m.invariant.marked x y)
    | inr y ↦ subst (λ z. pending c.mark_one.new.marks z ≡ true) (sym y) c.in_ok-count.ensures.marked
  ];
  more = λ l h. c.mark_one.ensures.more l (c.loop-m.invariant.more l h);
  same = c.mark_one.ensures.length ∙ c.loop-m.invariant.same;
  counted = c.in_ok-count.ensures.count;
}

pub returns-clause-marked : goal.returns-clause-marked
returns-clause-marked c = λ id k at m n. c.loop-m.invariant.marked m (taken_all _ _ m c.loop-m-test.false (clause_had _ _ m (c.clause_of-m-items.ensures id k at) n))
