use Rattle.std.proofs.Common.{sym, ◌∙◌, ap, length, eqb-true}
use Rattle.clause_store.proofs.Lists.{is_set-from, is_set-size, is_set-all}
use Rattle.clause_store.proofs.index.is_set.Goals as goal

pub returns-then-as_slice-lits : goal.returns-then-as_slice-lits
returns-then-as_slice-lits c = (
  λ t. is_set-from c.args.lits.now c.args.set.now c.requires c.as_slice.ensures.increasing (sym (ap length c.as_slice.ensures.literals) ∙ c.if-as_slice-lits.true) (sym c.is_within.ensures ∙ t),
  λ e. c.is_within.ensures ∙ is_set-all c.args.lits.now c.args.set.now e,
)

pub returns-else-as_slice-lits : goal.returns-else-as_slice-lits
returns-else-as_slice-lits c = (
  λ t. absurd (c.if-as_slice-lits.false (eqb-true _ _ t)),
  λ e. absurd (c.if-as_slice-lits.false (ap length c.as_slice.ensures.literals ∙ is_set-size c.args.lits.now c.args.set.now c.requires e)),
)
