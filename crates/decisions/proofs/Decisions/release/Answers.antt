use Rattle.std.proofs.Common.{◌≡◌, ◌<◌, ◌≤◌, ◌-◌, true, sym, ◌∙◌, subst, inl, inr}
use Rattle.std.specs.Prelude.{slice_set}
use Rattle.std.specs.FinSet as set
use Rattle.std.proofs.lemmas.List.{length-set}
use Rattle.lits.specs.Literal.{var}
use Rattle.decisions.proofs.Members.{inserted, inserted_old, inserted_only, released_decisions}
use Rattle.decisions.proofs.Decisions.release.Goals as goal

pub invariant_of-self : goal.invariant_of-self
invariant_of-self c = released_decisions c.self.inside.order c.insert.new.self c.var-v.result c.self.inside.amount c.self.inside.phases.items (slice_set c.self.inside.phases.items (c.var-v.result - 1) c.positive.result) c.self.invariant c.insert.ensures.inserted
    (subst (λ z. (0 < z) × (z ≤ c.self.inside.order.reserved)) (sym c.var-v.ensures.variable) (subst (λ z. (0 < var c.args.l) × (var c.args.l ≤ z.reserved)) (sym c.self.view_is) c.requires))
    (length-set c.self.inside.phases.items (c.var-v.result - 1) c.positive.result)

pub returns-clause-released : goal.returns-clause-released
returns-clause-released c = subst (λ z. set.contains z.members (var c.args.l) ≡ true) (sym c.insert.ensures.inserted) (subst (λ z. set.contains (set.insert c.self.inside.order.members z) (var c.args.l) ≡ true) (sym c.var-v.ensures.variable) (inserted c.self.inside.order.members (var c.args.l)))

pub returns-clause-others : goal.returns-clause-others
returns-clause-others c = λ v h. subst (λ z. set.contains z.members v ≡ true) (sym c.insert.ensures.inserted) (inserted_old c.self.inside.order.members c.var-v.result v (subst (λ z. set.contains z.candidates v ≡ true) (sym c.self.view_is) h))

pub returns-clause-only : goal.returns-clause-only
returns-clause-only c = λ v h. elim (inserted_only c.self.inside.order.members c.var-v.result v (subst (λ z. set.contains z.members v ≡ true) c.insert.ensures.inserted h)) [
  | inl y ↦ inl (subst (λ z. set.contains z.candidates v ≡ true) c.self.view_is y)
  | inr y ↦ inr (y ∙ c.var-v.ensures.variable)
]
