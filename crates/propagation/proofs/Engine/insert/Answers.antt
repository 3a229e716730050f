use Rattle.std.proofs.Common.{◌≤◌, false, sym, subst, ap, arith}
use Rattle.lits.specs.Literal.{var}
use Rattle.lits.proofs.Members.{has_at}
use Rattle.propagation.proofs.Changes.{value_added, fault_taken, fault_memory, fresh_seen, free_seen, ok_seen}
use Rattle.propagation.proofs.Insides.{inside_listed}
use Rattle.propagation.proofs.Engine.insert.Goals as goal

pub invariant_of-self : goal.invariant_of-self
invariant_of-self c = let o = c.self.inside in inside_listed o.watches c.add_listed.new.watches o.trail o.head o.pending.items c.add_listed.new.ids.items o.pending_head o.levels.items _ c.args.id c.args.lits.now c.add_listed.result
    c.self.invariant c.add_listed.ensures.wide c.add_listed.ensures.listed c.add_listed.ensures.fresh c.add_listed.ensures.ok c.add_listed.ensures.free c.add_listed.ensures.err
    (λ l m. subst (λ z. var l ≤ z) (sym (ap (λ z. z.vars) c.self.view_is)) (c.requires l m))

pub add_listed-requires : goal.add_listed-requires
add_listed-requires c = λ l m. let o = c.self.inside in
    let le : var l ≤ o.trail.vars = subst (λ z. var l ≤ z) (sym (ap (λ z. z.vars) c.self.view_is)) (c.requires l (has_at c.args.lits.now l m)) in
    omega (arith, le, c.self.invariant.wide)

pub returns-clause-ok : goal.returns-clause-ok
returns-clause-ok c = let o = c.self.inside in value_added o.watches.clauses c.add_listed.new.watches.clauses c.args.self.now c.args.id c.args.lits.now o.trail.entries o.trail.vars c.add_listed.result c.self.view_is c.add_listed.ensures.ok

pub returns-clause-taken : goal.returns-clause-taken
returns-clause-taken c = let o = c.self.inside in fault_taken o.watches.clauses c.args.self.now o.trail.entries o.trail.vars c.args.id c.add_listed.result _ c.self.view_is c.add_listed.ensures.taken

pub returns-clause-memory : goal.returns-clause-memory
returns-clause-memory c = let o = c.self.inside in fault_memory o.watches.clauses c.args.self.now o.trail.entries o.trail.vars c.args.id c.add_listed.result _ c.self.view_is c.add_listed.ensures.memory

pub returns-clause-fresh : goal.returns-clause-fresh
returns-clause-fresh c = let o = c.self.inside in fresh_seen o.watches.clauses c.args.self.now o.trail.entries o.trail.vars c.add_listed.result c.self.view_is c.add_listed.ensures.fresh

pub returns-clause-free : goal.returns-clause-free
returns-clause-free c = let o = c.self.inside in ok_seen c.add_listed.result _ _ false (free_seen o.watches.clauses c.args.self.now o.trail.entries o.trail.vars c.args.id c.self.view_is) c.add_listed.ensures.free
