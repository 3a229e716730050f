use Rattle.std.proofs.Common.{sym, subst, ◌∙◌}
use Rattle.propagation.specs.Engine.{IsRestored}
use Rattle.propagation.proofs.Changes.{value_back, weakened_seen}
use Rattle.propagation.proofs.Insides.{inside_restored, inside_moved}
use Rattle.propagation.proofs.Restoring.{inside_back_resting}
use Rattle.propagation.proofs.Engine.restore.Goals as goal

pub returns-in-Err-clause-held : goal.returns-in-Err-clause-held
returns-in-Err-clause-held c = let o = c.self.inside in λ h. c.in-Err.ensures.held (sym (weakened_seen o.watches.clauses c.args.self.now o.trail.entries o.trail.vars c.args.id c.self.view_is) ∙ h)

pub returns-in-Err-clause-memory : goal.returns-in-Err-clause-memory
returns-in-Err-clause-memory c = let o = c.self.inside in λ h. c.in-Err.ensures.memory (sym (weakened_seen o.watches.clauses c.args.self.now o.trail.entries o.trail.vars c.args.id c.self.view_is) ∙ h)

pub needs_no_visit_at-requires : goal.needs_no_visit_at-requires
needs_no_visit_at-requires c =
    let o = c.self.inside in
    let inside = inside_restored o.watches c.restore.new.self o.trail o.head o.pending.items o.pending_head o.levels.items _ c.args.self.now c.args.id c.self.invariant c.self.view_is c.requires.level c.recall_invariant.ensures c.in_default.ensures.ok c.in_default.ensures.weakened c.restore.ensures.wide in
    inside.sound

pub invariant_of-self-then-not-needs_no_visit_at : goal.invariant_of-self-then-not-needs_no_visit_at
invariant_of-self-then-not-needs_no_visit_at c = let o = c.self.inside in
    inside_moved c.restore.new.self c.needs_no_visit_at.new.watches o.trail 0 o.pending.items 0 o.levels.items _
    (inside_restored o.watches c.restore.new.self o.trail o.head o.pending.items o.pending_head o.levels.items _ c.args.self.now c.args.id c.self.invariant c.self.view_is c.requires.level c.recall_invariant.ensures c.in_default.ensures.ok c.in_default.ensures.weakened c.restore.ensures.wide)
    c.needs_no_visit_at.ensures.moved c.needs_no_visit_at.ensures.wide

pub invariant_of-self-else-not-needs_no_visit_at : goal.invariant_of-self-else-not-needs_no_visit_at
invariant_of-self-else-not-needs_no_visit_at c = let o = c.self.inside in
    inside_back_resting o.watches c.restore.new.self c.needs_no_visit_at.new.watches o.trail o.head o.pending.items o.pending_head o.levels.items _ c.args.self.now c.args.id c.self.invariant c.self.view_is c.requires.level c.in_default.ensures.ok c.in_default.ensures.weakened c.restore.ensures.wide
    c.needs_no_visit_at.ensures.moved c.needs_no_visit_at.ensures.wide c.needs_no_visit_at.ensures.sound (c.needs_no_visit_at.ensures.active c.if-not-needs_no_visit_at.false) (c.needs_no_visit_at.ensures.needs_no_visit c.if-not-needs_no_visit_at.false)

pub returns-then-not-needs_no_visit_at-clause-ok : goal.returns-then-not-needs_no_visit_at-clause-ok
returns-then-not-needs_no_visit_at-clause-ok c = let o = c.self.inside in
    subst (λ z. IsRestored c.args.self.now c.args.id (record { clauses = z; trail = o.trail.entries; vars = o.trail.vars })) (sym c.needs_no_visit_at.ensures.moved.seen)
    (value_back o.watches.clauses c.restore.new.self.clauses c.args.self.now c.args.id o.trail.entries o.trail.vars c.self.view_is c.in_default.ensures.ok)

pub returns-else-not-needs_no_visit_at-clause-ok : goal.returns-else-not-needs_no_visit_at-clause-ok
returns-else-not-needs_no_visit_at-clause-ok c = let o = c.self.inside in
    subst (λ z. IsRestored c.args.self.now c.args.id (record { clauses = z; trail = o.trail.entries; vars = o.trail.vars })) (sym c.needs_no_visit_at.ensures.moved.seen)
    (value_back o.watches.clauses c.restore.new.self.clauses c.args.self.now c.args.id o.trail.entries o.trail.vars c.self.view_is c.in_default.ensures.ok)

pub returns-then-not-needs_no_visit_at-clause-weakened : goal.returns-then-not-needs_no_visit_at-clause-weakened
returns-then-not-needs_no_visit_at-clause-weakened c = let o = c.self.inside in weakened_seen o.watches.clauses c.args.self.now o.trail.entries o.trail.vars c.args.id c.self.view_is ∙ c.in_default.ensures.weakened

pub returns-else-not-needs_no_visit_at-clause-weakened : goal.returns-else-not-needs_no_visit_at-clause-weakened
returns-else-not-needs_no_visit_at-clause-weakened c = let o = c.self.inside in weakened_seen o.watches.clauses c.args.self.now o.trail.entries o.trail.vars c.args.id c.self.view_is ∙ c.in_default.ensures.weakened
