use Rattle.std.proofs.Common.{◌≤◌, length, sym, subst, ap, ◌∙◌}
use Rattle.std.specs.Prelude.{slice_index}
use Rattle.clause_store.specs.Clauses.{lits_at, slot_at}
use Rattle.clause_store.proofs.Stored.{slot_at-row, lits_at-row, live_at}
use Rattle.clause_store.proofs.Store.pair.Goals as goal

pub pair-requires-clause-live : goal.pair-requires-clause-live
pair-requires-clause-live c = live_at c.self.inside.pool c.self.inside.rows.clauses _ c.args.self.now c.requires.0 c.args.s c.self.view_is c.self.invariant.rows c.requires.1

pub pair-requires-clause-two : goal.pair-requires-clause-two
pair-requires-clause-two c = subst (λ ls. 2 ≤ length ls) (ap (λ m. lits_at m c.requires.0) (sym c.self.view_is) ∙ lits_at-row c.self.inside.pool c.self.inside.rows.clauses c.requires.0 c.args.s (sym (slot_at-row c.self.inside.pool c.self.inside.rows.clauses c.requires.0) ∙ ap (λ m. slot_at m c.requires.0) c.self.view_is ∙ c.requires.1)) c.requires.2

pub returns : goal.returns
returns c = λ id e.
    let list = ap (λ m. lits_at m id) (sym c.self.view_is) ∙ lits_at-row c.self.inside.pool c.self.inside.rows.clauses id c.args.s (sym (slot_at-row c.self.inside.pool c.self.inside.rows.clauses id) ∙ ap (λ m. slot_at m id) c.self.view_is ∙ e) in
    (c.pair.ensures.0 ∙ ap (λ ls. slice_index ls 0) (sym list), c.pair.ensures.1 ∙ ap (λ ls. slice_index ls 1) (sym list))
