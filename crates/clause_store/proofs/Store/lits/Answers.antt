use Rattle.std.proofs.Common.{sym, ap, ◌∙◌}
use Rattle.clause_store.specs.Clauses.{lits_at, slot_at}
use Rattle.clause_store.proofs.Stored.{slot_at-row, lits_at-row, live_at}
use Rattle.clause_store.proofs.Store.lits.Goals as goal

pub lits-requires : goal.lits-requires
lits-requires c = record { live = live_at c.self.inside.pool c.self.inside.rows.clauses _ c.args.self.now c.requires.0 c.args.s c.self.view_is c.self.invariant.rows c.requires.1 }

pub returns : goal.returns
returns c = λ id e. ap (λ m. lits_at m id) (sym c.self.view_is) ∙ lits_at-row c.self.inside.pool c.self.inside.rows.clauses id c.args.s (sym (slot_at-row c.self.inside.pool c.self.inside.rows.clauses id) ∙ ap (λ m. slot_at m id) c.self.view_is ∙ e) ∙ sym c.lits.ensures
