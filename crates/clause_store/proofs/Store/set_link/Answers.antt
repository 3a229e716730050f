use Rattle.clause_store.proofs.Stored.{live_at}
use Rattle.clause_store.proofs.Changed.{rows-relinked, store-relinked}
use Rattle.clause_store.proofs.Store.set_link.Goals as goal

pub set_link-requires : goal.set_link-requires
set_link-requires c = record { live = live_at c.self.inside.pool c.self.inside.rows.clauses _ c.args.self.now c.requires.0 c.args.s c.self.view_is c.self.invariant.rows c.requires.1 }

pub invariant_of-self : goal.invariant_of-self
invariant_of-self c = record {
  rows = rows-relinked c.self.inside.pool c.set_link.new.self c.self.inside.rows.clauses c.self.inside.noted.items c.args.self.now c.requires.0 c.args.s c.self.view_is c.self.invariant.rows c.requires.1 c.args.which c.args.to c.set_link.ensures;
  active_index = c.self.invariant.active_index;
  weakened_index = c.self.invariant.weakened_index;
}

pub returns : goal.returns
returns c = λ id e. store-relinked c.self.inside.pool c.set_link.new.self c.self.inside.rows.clauses c.self.inside.noted.items c.args.self.now id c.args.s c.self.view_is c.self.invariant.rows e c.args.which c.args.to c.set_link.ensures
