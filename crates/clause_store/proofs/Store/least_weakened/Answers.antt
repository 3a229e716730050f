use Rattle.std.proofs.Common.{false}
use Rattle.clause_store.proofs.Stored.{pooled, weakened_row, row_weakened, index_at, index_from, some_of, none_of, least_id, none_id}
use Rattle.clause_store.proofs.Store.least_weakened.Goals as goal

pub least_noted-requires : goal.least_noted-requires
least_noted-requires c = pooled c.self.inside.pool c.self.inside.rows.clauses _ c.self.invariant.rows

pub returns-then-not-self-clause-found : goal.returns-then-not-self-clause-found
returns-then-not-self-clause-found c = some_of _ _ c.least_noted.result c.least_noted.ensures.found (λ i h. weakened_row c.self.inside.pool c.self.inside.rows.clauses c.args.self.now c.args.set.now c.self.view_is i h)

pub returns-then-not-self-clause-least : goal.returns-then-not-self-clause-least
returns-then-not-self-clause-least c = some_of _ _ c.least_noted.result c.least_noted.ensures.least
    (λ i h x g. least_id false c.self.inside.pool c.self.inside.rows.clauses c.self.inside.noted.items c.args.set.now i c.self.invariant.rows h x (row_weakened c.self.inside.pool c.self.inside.rows.clauses c.args.self.now c.args.set.now c.self.view_is x g))

pub returns-then-not-self-clause-none : goal.returns-then-not-self-clause-none
returns-then-not-self-clause-none c = none_of _ _ c.least_noted.result c.least_noted.ensures.none
    (λ h x g. none_id false c.self.inside.pool c.self.inside.rows.clauses c.self.inside.noted.items c.args.set.now c.self.invariant.rows h x (row_weakened c.self.inside.pool c.self.inside.rows.clauses c.args.self.now c.args.set.now c.self.view_is x g))

pub least-requires : goal.least-requires
least-requires c = pooled c.self.inside.pool c.self.inside.rows.clauses _ c.self.invariant.rows

pub returns-clause-found : goal.returns-clause-found
returns-clause-found c = some_of _ _ c.least.result c.least.ensures.found
    (λ i h. weakened_row c.self.inside.pool c.self.inside.rows.clauses c.args.self.now c.args.set.now c.self.view_is i (index_at c.self.inside.noted.items false c.self.inside.pool c.self.inside.rows.clauses c.self.inside.rows.weakened c.args.set.now i c.self.invariant.weakened_index c.if-not-self.false h.0 h.1))

pub returns-clause-least : goal.returns-clause-least
returns-clause-least c = some_of _ _ c.least.result c.least.ensures.least
    (λ i h x g. let r = row_weakened c.self.inside.pool c.self.inside.rows.clauses c.args.self.now c.args.set.now c.self.view_is x g in
    h x (index_from false c.self.inside.pool c.self.inside.rows.clauses c.self.inside.noted.items c.self.inside.rows.weakened c.args.set.now x c.self.invariant.rows c.self.invariant.weakened_index c.if-not-self.false r) r.1)

pub returns-clause-none : goal.returns-clause-none
returns-clause-none c = none_of _ _ c.least.result c.least.ensures.none
    (λ h x g. let r = row_weakened c.self.inside.pool c.self.inside.rows.clauses c.args.self.now c.args.set.now c.self.view_is x g in
    h x (index_from false c.self.inside.pool c.self.inside.rows.clauses c.self.inside.noted.items c.self.inside.rows.weakened c.args.set.now x c.self.invariant.rows c.self.invariant.weakened_index c.if-not-self.false r) r.1)
