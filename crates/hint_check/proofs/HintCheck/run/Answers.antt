use Rattle.std.proofs.Common.{◌≤◌, length, sym, subst, ap, ◌∙◌}
use Rattle.lits.specs.Literal.{var}
use Rattle.hint_check.proofs.Lefts.{inside_var}
use Rattle.hint_check.proofs.HintCheck.run.Goals as goal

pub run_over-requires-clause-start : goal.run_over-requires-clause-start
run_over-requires-clause-start c = λ l m.
    inside_var l c.self.inside.vars (length c.deref_mut.result.now) (subst (λ z. var l ≤ z) (sym c.self.view_is) (c.requires.start l m)) (ap length c.deref_mut.ensures.value ∙ c.self.invariant.size)

pub run_over-requires-clause-store : goal.run_over-requires-clause-store
run_over-requires-clause-store c = λ id l h g m.
    inside_var l c.self.inside.vars (length c.deref_mut.result.now) (subst (λ z. var l ≤ z) (sym c.self.view_is) (c.requires.store id l h g m)) (ap length c.deref_mut.ensures.value ∙ c.self.invariant.size)
