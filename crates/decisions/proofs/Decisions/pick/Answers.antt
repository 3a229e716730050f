use Rattle.std.proofs.Common.{◌≡◌, ◌<◌, Some, None, true, not, sym, ap, ◌∙◌, subst, inl, inr}
use Rattle.std.specs.Prelude.{is_some}
use Rattle.std.specs.FinSet as set
use Rattle.decisions.specs.Candidates.{IsAssigned, Picks}
use Rattle.decisions.proofs.Members.{same_or_not, removed_other, removed_old, fewer, absent, assigned_by, taken_decisions, picked, nothing_picked}
use Rattle.decisions.proofs.Decisions.pick.Goals as goal

pub invariant_of-self : goal.invariant_of-self
invariant_of-self c = taken_decisions c.best.self-inside.order c.take_best.new.self c.self.inside.order c.in-Some.v c.self.inside.amount c.best.self-inside.amount c.self.inside.phases.items c.best.self-inside.phases.items
    c.self.invariant c.in-Some.ensures.taken c.best.invariant.reserved c.best.invariant.same c.best.invariant.amount c.best.invariant.old

pub returns-then-is_none : goal.returns-then-is_none
returns-then-is_none c = subst (λ z. Picks c.args.engine.now z (record { reserved = c.take_best.new.self.reserved; candidates = c.take_best.new.self.members }) (Some c.phase_of-l.result)) c.self.view_is
    (picked c.args.engine.now c.best.self-inside.order c.take_best.new.self c.self.inside.order c.in-Some.v c.phase_of-l.result c.in-Some.ensures.taken c.best.invariant.reserved c.in-Some.ensures.best.member c.best.invariant.old
    c.best.invariant.left c.self.invariant.within c.phase_of-l.ensures (sym c.value.ensures.value ∙ absent c.value.result (c.is_none.ensures ∙ ap not c.if-is_none.true)))

pub best-smaller : goal.best-smaller
best-smaller c = subst (λ z. set.len z.members < set.len c.best.self-inside.order.members) (sym c.in-Some.ensures.taken) (fewer c.best.self-inside.order.members c.in-Some.v c.in-Some.ensures.best.member)

pub best-preserved : goal.best-preserved
best-preserved c = record {
  left = λ w n. elim (c.best.invariant.left w n) [
    | inl y ↦ elim (same_or_not w c.in-Some.v) [
      | inl q ↦ inr (subst (IsAssigned c.args.engine.now) (c.phase_of-l.ensures ∙ sym q) (assigned_by c.args.engine.now c.phase_of-l.result (ap is_some (sym c.value.ensures.value) ∙ c.is_none.ensures ∙ ap not c.if-is_none.false)))
      | inr q ↦ inl (subst (λ z. set.contains z.members w ≡ true) (sym c.in-Some.ensures.taken) (removed_other c.best.self-inside.order.members c.in-Some.v w q y))
    ]
    | inr y ↦ inr y
  ];
  old = λ w n. c.best.invariant.old w (removed_old c.best.self-inside.order.members c.in-Some.v w (subst (λ z. set.contains z.members w ≡ true) c.in-Some.ensures.taken n));
  reserved = ap (λ z. z.reserved) c.in-Some.ensures.taken ∙ c.best.invariant.reserved;
  same = c.best.invariant.same;
  amount = c.best.invariant.amount;
}

pub returns : goal.returns
returns c = subst (λ z. Picks c.args.engine.now z (record { reserved = c.take_best.new.self.reserved; candidates = c.take_best.new.self.members }) None) c.self.view_is
    (nothing_picked c.args.engine.now c.best.self-inside.order c.take_best.new.self c.self.inside.order c.in_default.ensures.unchanged c.in_default.ensures.none c.best.invariant.reserved c.best.invariant.left)
