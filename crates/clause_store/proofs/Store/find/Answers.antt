use Rattle.std.proofs.Common.{sym, subst, ap, ◌∙◌}
use Rattle.clause_store.specs.Clauses.{IsStore, slot_at}
use Rattle.clause_store.proofs.Stored.{slot_at-row, is_store}
use Rattle.clause_store.proofs.Store.find.Goals as goal

pub returns-clause-slot : goal.returns-clause-slot
returns-clause-slot c = c.active_slot.ensures ∙ sym (slot_at-row c.self.inside.pool c.self.inside.rows.clauses c.args.id) ∙ ap (λ m. slot_at m c.args.id) c.self.view_is

pub returns-clause-sound : goal.returns-clause-sound
returns-clause-sound c = subst IsStore c.self.view_is (is_store c.self.inside.pool c.self.inside.rows.clauses _ c.self.invariant.rows)
