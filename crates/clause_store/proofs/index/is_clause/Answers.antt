use Rattle.std.proofs.Common.{sym, subst, ◌∙◌}
use Rattle.clause_store.specs.Clauses.{IsOnce}
use Rattle.clause_store.proofs.index.is_clause.Goals as goal

pub is_set-requires : goal.is_set-requires
is_set-requires c = subst IsOnce (sym c.lits.ensures) (c.requires c.args.id c.in-Some.kept (sym c.get.ensures ∙ c.in-Some.is)).1
