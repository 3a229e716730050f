use Rattle.std.proofs.Common.{true}
use Rattle.propagation.proofs.Changes.{value_removed, fault_inactive, active_seen, ok_seen}
use Rattle.propagation.proofs.Insides.{inside_deleted}
use Rattle.propagation.proofs.Engine.delete.Goals as goal

pub invariant_of-self : goal.invariant_of-self
invariant_of-self c = let o = c.self.inside in inside_deleted o.watches c.delete.new.self o.trail o.head o.pending.items o.pending_head o.levels.items _ c.args.self.now c.args.id c.delete.result
    c.self.invariant c.self.view_is c.requires.level c.requires.no_reason c.delete.ensures.ok c.delete.ensures.err c.delete.ensures.wide

pub returns-clause-ok : goal.returns-clause-ok
returns-clause-ok c = let o = c.self.inside in value_removed o.watches.clauses c.delete.new.self.clauses c.args.self.now c.args.id o.trail.entries o.trail.vars c.delete.result c.self.view_is c.delete.ensures.ok

pub returns-clause-inactive : goal.returns-clause-inactive
returns-clause-inactive c = let o = c.self.inside in fault_inactive o.watches.clauses c.args.self.now o.trail.entries o.trail.vars c.args.id c.delete.result c.self.view_is c.delete.ensures.inactive

pub returns-clause-active : goal.returns-clause-active
returns-clause-active c = let o = c.self.inside in ok_seen c.delete.result _ _ true (active_seen o.watches.clauses c.args.self.now o.trail.entries o.trail.vars c.args.id c.self.view_is) c.delete.ensures.active
