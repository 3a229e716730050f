use Rattle.std.proofs.Common.{true, false}
use Rattle.propagation.proofs.Changes.{value_weakened, active_seen, fault_seen, ok_seen}
use Rattle.propagation.proofs.Insides.{inside_weakened}
use Rattle.propagation.proofs.Engine.weaken.Goals as goal

pub invariant_of-self : goal.invariant_of-self
invariant_of-self c = let o = c.self.inside in inside_weakened o.watches c.weaken.new.self o.trail o.head o.pending.items o.pending_head o.levels.items _ c.args.self.now c.args.id c.weaken.result
    c.self.invariant c.self.view_is c.requires.level c.requires.no_reason c.weaken.ensures.ok c.weaken.ensures.active c.weaken.ensures.err c.weaken.ensures.wide

pub returns-clause-ok : goal.returns-clause-ok
returns-clause-ok c = let o = c.self.inside in value_weakened o.watches.clauses c.weaken.new.self.clauses c.args.self.now c.args.id o.trail.entries o.trail.vars c.weaken.result c.self.view_is c.weaken.ensures.ok

pub returns-clause-active : goal.returns-clause-active
returns-clause-active c = let o = c.self.inside in ok_seen c.weaken.result _ _ true (active_seen o.watches.clauses c.args.self.now o.trail.entries o.trail.vars c.args.id c.self.view_is) c.weaken.ensures.active

pub returns-clause-inactive : goal.returns-clause-inactive
returns-clause-inactive c = let o = c.self.inside in fault_seen c.weaken.result _ _ false _ (active_seen o.watches.clauses c.args.self.now o.trail.entries o.trail.vars c.args.id c.self.view_is) c.weaken.ensures.inactive

pub returns-clause-memory : goal.returns-clause-memory
returns-clause-memory c = let o = c.self.inside in fault_seen c.weaken.result _ _ true _ (active_seen o.watches.clauses c.args.self.now o.trail.entries o.trail.vars c.args.id c.self.view_is) c.weaken.ensures.memory
