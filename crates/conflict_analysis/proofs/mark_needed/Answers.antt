use Rattle.std.proofs.Common.{◌≡◌, ◌≤◌, length, inl, inr, sym, ◌∙◌, subst, true}
use Rattle.conflict_analysis.specs.Marked.{pending}
use Rattle.conflict_analysis.proofs.Engines.{item_in, item_within, clause_had, taken_all, taken_front, taken_in, taken_item, taken_more, clause_has}
use Rattle.conflict_analysis.proofs.mark_needed.Goals as goal

pub mark_one_needed-requires : goal.mark_one_needed-requires
mark_one_needed-requires c =
    let a = c.requires.active in let same = c.clause_of-m-items.ensures a.0 a.1 a.2 in
    let m = item_in c.clause_of-m-items.result.now c.loop-m.m-index c.m-item.result c.loop-m-test.true c.m-item.is in
    item_within c.args.engine.now c.args.slot c.m-item.result (length c.loop-m.marks) c.clause_of-m-items.result.now c.requires.engine a same m
    (subst (λ z. c.args.engine.now.vars ≤ z) (sym c.loop-m.invariant.same) c.requires.room)

pub loop-m-preserved : goal.loop-m-preserved
loop-m-preserved c = record {
  marked = λ x n. elim (taken_more c.clause_of-m-items.result.now c.loop-m.m-index c.m-item.result x c.loop-m-test.true c.m-item.is n) [
    | inl y ↦ c.mark_one_needed.ensures.more x (c.loop-m.invariant.marked x y)
    | inr y ↦ subst (λ z. pending c.mark_one_needed.new.marks z ≡ true) (sym y) c.in_ok-mark_one_needed.ensures.marked
  ];
  only = λ x p. elim (c.in_ok-mark_one_needed.ensures.only x p) [
    | inl y ↦ elim (c.loop-m.invariant.only x y) [ inl z ↦ inl z | inr z ↦ inr (z.0, taken_front c.clause_of-m-items.result.now c.loop-m.m-index c.m-item.result z.0 c.loop-m-test.true c.m-item.is z.1, z.2) ]
    | inr y ↦ inr (c.m-item.result, taken_item c.clause_of-m-items.result.now c.loop-m.m-index c.m-item.result c.loop-m-test.true c.m-item.is, y)
  ];
  more = λ l h. c.mark_one_needed.ensures.more l (c.loop-m.invariant.more l h);
  same = c.mark_one_needed.ensures.length ∙ c.loop-m.invariant.same;
}

pub returns-clause-marked : goal.returns-clause-marked
returns-clause-marked c = λ id k at m n. c.loop-m.invariant.marked m (taken_all _ _ m c.loop-m-test.false (clause_had _ _ m (c.clause_of-m-items.ensures id k at) n))

pub returns-clause-only : goal.returns-clause-only
returns-clause-only c = λ x p. elim (c.loop-m.invariant.only x p) [
  | inl y ↦ inl y
  | inr y ↦ inr (λ id k at. (y.0, clause_has c.clause_of-m-items.result.now k y.0 (c.clause_of-m-items.ensures id k at) (taken_in c.clause_of-m-items.result.now c.loop-m.m-index y.0 y.1), y.2))
]
