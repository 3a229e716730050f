use Rattle.std.proofs.Common.{◌<◌, length, sym, subst, ap, ◌∙◌}
use Rattle.std.specs.Prelude.{slice_index}
use Rattle.clause_store.specs.Clauses.{lits_at, slot_at}
use Rattle.clause_store.proofs.Stored.{slot_at-row, lits_at-row, live_at}
use Rattle.clause_store.proofs.Store.at.Goals as goal

pub at-requires-clause-live : goal.at-requires-clause-live
at-requires-clause-live c = live_at c.self.inside.pool c.self.inside.rows.clauses _ c.args.self.now c.requires.slot.0 c.args.s c.self.view_is c.self.invariant.rows c.requires.slot.1

pub at-requires-clause-within : goal.at-requires-clause-within
at-requires-clause-within c = subst (λ ls. c.args.i < length ls)
    (ap (λ m. lits_at m c.requires.slot.0) (sym c.self.view_is) ∙ lits_at-row c.self.inside.pool c.self.inside.rows.clauses c.requires.slot.0 c.args.s (sym (slot_at-row c.self.inside.pool c.self.inside.rows.clauses c.requires.slot.0) ∙ ap (λ m. slot_at m c.requires.slot.0) c.self.view_is ∙ c.requires.slot.1))
    (c.requires.within c.requires.slot.0 c.requires.slot.1)

pub returns : goal.returns
returns c = λ id e.
    let list = ap (λ m. lits_at m id) (sym c.self.view_is) ∙ lits_at-row c.self.inside.pool c.self.inside.rows.clauses id c.args.s (sym (slot_at-row c.self.inside.pool c.self.inside.rows.clauses id) ∙ ap (λ m. slot_at m id) c.self.view_is ∙ e) in
    c.at.ensures ∙ ap (λ ls. slice_index ls c.args.i) (sym list)
