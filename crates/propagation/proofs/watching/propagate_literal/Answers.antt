use Rattle.std.proofs.Common.{◌≡◌, ◌<◌, ◌≤◌, length, true, sym, subst, ap}
use Rattle.lits.specs.Literal.{var}
use Rattle.session_rules.specs.Logic.{has}
use Rattle.watch_lists.specs.Watched.{entry_at}
use Rattle.propagation.specs.Engine.{literals}
use Rattle.propagation.specs.Watching.{engine_of}
use Rattle.propagation.proofs.Passing.{blocker_reserved}
use Rattle.propagation.proofs.Walking.{IsAt, Visits, walk_begins, visits_steps, visits_ready, visits_next, walk_ends, first_within, at_false, at_negation}
use Rattle.propagation.proofs.watching.propagate_literal.Goals as goal

pub list-end-requires : goal.list-end-requires
list-end-requires c =
    let at : IsAt c.args.trail.now.entries c.lits.result.now c.args.head c.index-lits-head.result = record { list = c.lits.ensures; within = c.requires.head; is = c.index-lits-head.is } in
    first_within (engine_of c.args.watches.now.clauses c.args.trail.now.entries c.args.trail.now.vars) c.lits.result.now c.args.head c.index-lits-head.result c.neg-w.result _ c.requires.engine at c.neg-w.ensures.negation c.requires.wide

pub loop-i-init : goal.loop-i-init
loop-i-init c =
    let at : IsAt c.args.trail.now.entries c.lits.result.now c.args.head c.index-lits-head.result = record { list = c.lits.ensures; within = c.requires.head; is = c.index-lits-head.is } in
    walk_begins c.args.watches.now c.args.trail.now c.args.head c.neg-w.result _ c.requires.engine c.requires.ready c.list-end.ensures.sound c.requires.head
    (at_false c.args.trail.now.entries c.lits.result.now c.args.head c.index-lits-head.result c.neg-w.result at c.neg-w.ensures.negation) (at_negation c.args.trail.now.entries c.lits.result.now c.args.head c.index-lits-head.result c.neg-w.result at c.neg-w.ensures.negation)
    (ap length c.list-end.ensures.list)

pub list-requires : goal.list-requires
list-requires c =
    let at : IsAt c.args.trail.now.entries c.lits.result.now c.args.head c.index-lits-head.result = record { list = c.lits.ensures; within = c.requires.head; is = c.index-lits-head.is } in
    subst (λ z. c.neg-w.result < z) (sym c.loop-i.invariant.entries.wide) (first_within (engine_of c.args.watches.now.clauses c.args.trail.now.entries c.args.trail.now.vars) c.lits.result.now c.args.head c.index-lits-head.result c.neg-w.result _ c.requires.engine at c.neg-w.ensures.negation c.requires.wide)

pub last_open-requires-clause-reserved : goal.last_open-requires-clause-reserved
last_open-requires-clause-reserved c = λ i lt.
    subst (λ z. var (entry_at z i).blocker ≤ c.loop-i.trail.vars) (sym c.list.ensures.list)
    (blocker_reserved c.loop-i.watches c.loop-i.trail.entries c.loop-i.trail.vars c.neg-w.result i c.loop-i.invariant.sound c.loop-i.invariant.entries.engine (subst (λ z. i < length z) c.list.ensures.list lt))

pub returns-in-Some-visit_entry-clause-entries : goal.returns-in-Some-visit_entry-clause-entries
returns-in-Some-visit_entry-clause-entries c =
    let v : Visits c.args.watches.now c.loop-i.watches c.visit_entry.new.watches c.args.trail.now c.loop-i.trail c.visit_entry.new.trail c.args.head c.neg-w.result c.loop-i.end c.in-Some.i = record {
      walking = c.loop-i.invariant;
      before = c.in-Some.ensures.0;
      open_after = λ k gt lt. subst (λ z. has (literals c.loop-i.trail.entries) (entry_at z k).blocker ≡ true) c.list.ensures.list (c.in-Some.ensures.2 k gt lt);
      entries = c.visit_entry.ensures.entries;
      sound = c.visit_entry.ensures.sound;
      front = c.visit_entry.ensures.front;
    } in
    visits_steps _ _ _ _ _ _ _ _ _ _ v

pub returns-in-Some-visit_entry-clause-ready : goal.returns-in-Some-visit_entry-clause-ready
returns-in-Some-visit_entry-clause-ready c =
    let v : Visits c.args.watches.now c.loop-i.watches c.visit_entry.new.watches c.args.trail.now c.loop-i.trail c.visit_entry.new.trail c.args.head c.neg-w.result c.loop-i.end c.in-Some.i = record {
      walking = c.loop-i.invariant;
      before = c.in-Some.ensures.0;
      open_after = λ k gt lt. subst (λ z. has (literals c.loop-i.trail.entries) (entry_at z k).blocker ≡ true) c.list.ensures.list (c.in-Some.ensures.2 k gt lt);
      entries = c.visit_entry.ensures.entries;
      sound = c.visit_entry.ensures.sound;
      front = c.visit_entry.ensures.front;
    } in
    visits_ready _ _ _ _ _ _ _ _ _ _ v

pub loop-i-preserved : goal.loop-i-preserved
loop-i-preserved c =
    let v : Visits c.args.watches.now c.loop-i.watches c.visit_entry.new.watches c.args.trail.now c.loop-i.trail c.visit_entry.new.trail c.args.head c.neg-w.result c.loop-i.end c.in-Some.i = record {
      walking = c.loop-i.invariant;
      before = c.in-Some.ensures.0;
      open_after = λ k gt lt. subst (λ z. has (literals c.loop-i.trail.entries) (entry_at z k).blocker ≡ true) c.list.ensures.list (c.in-Some.ensures.2 k gt lt);
      entries = c.visit_entry.ensures.entries;
      sound = c.visit_entry.ensures.sound;
      front = c.visit_entry.ensures.front;
    } in
    visits_next _ _ _ _ _ _ _ _ _ _ v c.in_default-visit_entry.ensures.passed

pub returns-clause-done : goal.returns-clause-done
returns-clause-done c =
    walk_ends c.args.watches.now c.loop-i.watches c.args.trail.now c.loop-i.trail c.args.head c.neg-w.result c.loop-i.end c.loop-i.invariant
    (λ k lt. subst (λ z. has (literals c.loop-i.trail.entries) (entry_at z k).blocker ≡ true) c.list.ensures.list (c.in_default.ensures k lt))
