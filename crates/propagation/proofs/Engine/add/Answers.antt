use Rattle.std.proofs.Common.{◌≡◌, ◌≤◌, ◌++◌, ◌∷◌, [], Some, sym, subst, ap, ◌∙◌, arith}
use Rattle.std.specs.Vec.{vec_capacity}
use Rattle.lits.specs.Literal.{var}
use Rattle.lits.proofs.Members.{has_at}
use Rattle.clause_store.specs.Clauses.{slot_at}
use Rattle.propagation.specs.Engine.{level_after, with_clauses}
use Rattle.propagation.specs.Watching.{engine_of}
use Rattle.propagation.specs.Inside.{IsEngineInside}
use Rattle.propagation.proofs.Changes.{free_seen, slot_inserted, value_put, slot_of-seen}
use Rattle.propagation.proofs.Insides.{inside_pushed, inside_moved, inside_popped, last_taken}
use Rattle.propagation.proofs.Engine.add.Goals as goal
use Rattle.propagation.proofs.Engine.add.Goals.{then-needs_no_visit, else-needs_no_visit}

pub add_listed-requires : goal.add_listed-requires
add_listed-requires c = λ l m. let o = c.self.inside in
    let le : var l ≤ o.trail.vars = subst (λ z. var l ≤ z) (sym (ap (λ z. z.vars) c.self.view_is)) (c.requires.reserved l (has_at c.args.lits.now l m)) in
    omega (arith, le, c.self.invariant.wide)

pub returns-in-Err-clause-taken : goal.returns-in-Err-clause-taken
returns-in-Err-clause-taken c = let o = c.self.inside in λ h. c.in-Err.ensures.taken (sym (free_seen o.watches.clauses c.args.self.now o.trail.entries o.trail.vars c.args.id c.self.view_is) ∙ h)

pub returns-in-Err-clause-memory : goal.returns-in-Err-clause-memory
returns-in-Err-clause-memory c = let o = c.self.inside in λ h. c.in-Err.ensures.memory (sym (free_seen o.watches.clauses c.args.self.now o.trail.entries o.trail.vars c.args.id c.self.view_is) ∙ h)

pub needs_no_visit-requires : goal.needs_no_visit-requires
needs_no_visit-requires c =
    let o = c.self.inside in
    let pushed = inside_pushed o.watches c.add_listed.new.watches o.trail o.head o.pending.items o.pending_head o.levels.items _ c.args.id c.in-Ok.slot c.args.lits.now c.self.invariant c.in-Ok.ensures.ok c.in-Ok.ensures.fresh c.in-Ok.ensures.free
    (λ l m. subst (λ z. var l ≤ z) (sym (ap (λ z. z.vars) c.self.view_is)) (c.requires.reserved l m)) c.add_listed.ensures.wide in
    record { slot = (c.args.id, slot_inserted o.watches.clauses c.add_listed.new.watches.clauses c.args.id c.in-Ok.slot c.args.lits.now c.in-Ok.ensures.ok); engine = pushed.sound }

pub invariant_of-self-then-needs_no_visit : goal.invariant_of-self-then-needs_no_visit
invariant_of-self-then-needs_no_visit c =
    let o = c.self.inside in
    let pushed = inside_pushed o.watches c.add_listed.new.watches o.trail o.head o.pending.items o.pending_head o.levels.items _ c.args.id c.in-Ok.slot c.args.lits.now c.self.invariant c.in-Ok.ensures.ok c.in-Ok.ensures.fresh c.in-Ok.ensures.free
    (λ l m. subst (λ z. var l ≤ z) (sym (ap (λ z. z.vars) c.self.view_is)) (c.requires.reserved l m)) c.add_listed.ensures.wide in
    let moved = inside_moved c.add_listed.new.watches c.needs_no_visit.new.watches o.trail o.head (o.pending.items ++ c.args.id ∷ []) o.pending_head o.levels.items _ pushed c.needs_no_visit.ensures.moved c.needs_no_visit.ensures.wide in
    let slot : slot_at c.needs_no_visit.new.watches.clauses c.args.id ≡ Some c.in-Ok.slot = c.needs_no_visit.ensures.moved.slots c.args.id ∙ slot_inserted o.watches.clauses c.add_listed.new.watches.clauses c.args.id c.in-Ok.slot c.args.lits.now c.in-Ok.ensures.ok in
    let popped = inside_popped c.needs_no_visit.new.watches o.trail o.head o.pending.items o.pending_head o.levels.items _ c.args.id c.in-Ok.slot moved (ap (λ z. level_after z.trail) c.self.view_is ∙ c.requires.level) c.self.invariant.now.ids_in c.needs_no_visit.ensures.sound slot (c.needs_no_visit.ensures.needs_no_visit c.if-needs_no_visit.true) in
    subst (λ z. IsEngineInside c.needs_no_visit.new.watches o.trail o.head z o.pending_head o.levels.items (vec_capacity o.levels)) (last_taken o.pending.items c.add_listed.new.ids.items c.pop.new.self.items c.args.id _ c.in-Ok.ensures.listed c.add_listed.new.ids.ok.0 c.pop.ensures.rest) popped

pub invariant_of-self-else-needs_no_visit : goal.invariant_of-self-else-needs_no_visit
invariant_of-self-else-needs_no_visit c =
    let o = c.self.inside in
    let pushed = inside_pushed o.watches c.add_listed.new.watches o.trail o.head o.pending.items o.pending_head o.levels.items _ c.args.id c.in-Ok.slot c.args.lits.now c.self.invariant c.in-Ok.ensures.ok c.in-Ok.ensures.fresh c.in-Ok.ensures.free
    (λ l m. subst (λ z. var l ≤ z) (sym (ap (λ z. z.vars) c.self.view_is)) (c.requires.reserved l m)) c.add_listed.ensures.wide in
    subst (λ z. IsEngineInside c.needs_no_visit.new.watches o.trail o.head z o.pending_head o.levels.items (vec_capacity o.levels)) (sym c.in-Ok.ensures.listed)
    (inside_moved c.add_listed.new.watches c.needs_no_visit.new.watches o.trail o.head (o.pending.items ++ c.args.id ∷ []) o.pending_head o.levels.items _ pushed c.needs_no_visit.ensures.moved c.needs_no_visit.ensures.wide)

pub returns-clause-ok : goal.returns-clause-ok
returns-clause-ok c =
    let o = c.self.inside in
    let all = value_put o.watches.clauses c.add_listed.new.watches.clauses c.args.self.now c.args.id c.args.lits.now o.trail.entries o.trail.vars c.in-Ok.slot c.self.view_is c.in-Ok.ensures.ok in
    let same = ap (λ z. with_clauses (engine_of o.watches.clauses o.trail.entries o.trail.vars) z) c.needs_no_visit.ensures.moved.seen in
    elim c.if-needs_no_visit.branch [ then-needs_no_visit w ↦ w.self-is ∙ same ∙ all | else-needs_no_visit w ↦ w.self-is ∙ same ∙ all ]

pub returns-clause-fresh : goal.returns-clause-fresh
returns-clause-fresh c = let o = c.self.inside in λ x at. c.in-Ok.ensures.fresh x (slot_of-seen o.watches.clauses c.args.self.now o.trail.entries o.trail.vars x c.self.view_is ∙ at)

pub returns-clause-free : goal.returns-clause-free
returns-clause-free c = let o = c.self.inside in free_seen o.watches.clauses c.args.self.now o.trail.entries o.trail.vars c.args.id c.self.view_is ∙ c.in-Ok.ensures.free
