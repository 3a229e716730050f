use Rattle.std.proofs.Common.{◌<◌, sym, subst}
use Rattle.clause_store.proofs.Stored.{live_at}
use Rattle.clause_store.proofs.Changed.{length_inside, rows-swapped, store-swapped}
use Rattle.clause_store.proofs.Store.swap.Goals as goal

pub swap-requires-clause-live : goal.swap-requires-clause-live
swap-requires-clause-live c = live_at c.self.inside.pool c.self.inside.rows.clauses _ c.args.self.now c.requires.slot.0 c.args.s c.self.view_is c.self.invariant.rows c.requires.slot.1

pub swap-requires-clause-a_in_bounds : goal.swap-requires-clause-a_in_bounds
swap-requires-clause-a_in_bounds c = subst (λ n. c.args.a < n) (sym (length_inside c.self.inside.pool c.self.inside.pool c.self.inside.rows.clauses c.self.inside.noted.items c.args.self.now c.requires.slot.0 c.args.s c.self.view_is c.self.invariant.rows c.requires.slot.1)) (c.requires.a_in_bounds c.requires.slot.0 c.requires.slot.1)

pub swap-requires-clause-b_in_bounds : goal.swap-requires-clause-b_in_bounds
swap-requires-clause-b_in_bounds c = subst (λ n. c.args.b < n) (sym (length_inside c.self.inside.pool c.self.inside.pool c.self.inside.rows.clauses c.self.inside.noted.items c.args.self.now c.requires.slot.0 c.args.s c.self.view_is c.self.invariant.rows c.requires.slot.1)) (c.requires.b_in_bounds c.requires.slot.0 c.requires.slot.1)

pub invariant_of-self : goal.invariant_of-self
invariant_of-self c =
    let size = length_inside c.self.inside.pool c.self.inside.pool c.self.inside.rows.clauses c.self.inside.noted.items c.args.self.now c.requires.slot.0 c.args.s c.self.view_is c.self.invariant.rows c.requires.slot.1 in
    record {
      rows = rows-swapped c.self.inside.pool c.swap.new.self c.self.inside.rows.clauses c.self.inside.noted.items c.args.self.now c.requires.slot.0 c.args.s c.self.view_is c.self.invariant.rows c.requires.slot.1 c.args.a c.args.b
          (subst (λ n. c.args.a < n) (sym size) (c.requires.a_in_bounds c.requires.slot.0 c.requires.slot.1)) (subst (λ n. c.args.b < n) (sym size) (c.requires.b_in_bounds c.requires.slot.0 c.requires.slot.1)) c.swap.ensures;
      active_index = c.self.invariant.active_index;
      weakened_index = c.self.invariant.weakened_index;
    }

pub returns : goal.returns
returns c = λ id e.
    let size = length_inside c.self.inside.pool c.self.inside.pool c.self.inside.rows.clauses c.self.inside.noted.items c.args.self.now id c.args.s c.self.view_is c.self.invariant.rows e in
    store-swapped c.self.inside.pool c.swap.new.self c.self.inside.rows.clauses c.self.inside.noted.items c.args.self.now id c.args.s c.self.view_is c.self.invariant.rows e c.args.a c.args.b
    (subst (λ n. c.args.a < n) (sym size) (c.requires.a_in_bounds id e)) (subst (λ n. c.args.b < n) (sym size) (c.requires.b_in_bounds id e)) c.swap.ensures
