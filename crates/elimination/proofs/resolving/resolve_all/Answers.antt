use Rattle.std.proofs.Common.{◌≤◌, ◌+◌, ℕ, List, [], ◌∷◌, take, get_or, refl, sym, ap, ◌∙◌, subst, arith}
use Rattle.std.proofs.lemmas.List.{take_more}
use Rattle.resolvents.specs.Held.{Held}
use Rattle.elimination.specs.Steps.{standing}
use Rattle.elimination.specs.declared.fault.BoardFault.TheVariants as faults
use Rattle.elimination.proofs.Admitting.{when_ok}
use Rattle.elimination.proofs.Leading.{untold}
use Rattle.elimination.proofs.Resolved.{none_first}
use Rattle.elimination.proofs.EachResolved.{item_in, first_kept, second_kept, broken_later, first_more}
use Rattle.elimination.proofs.resolving.resolve_all.Goals as goal

pub loop-first-init : goal.loop-first-init
loop-first-init g c = record { each = none_first g.L.Log.takes c.args.var c.args.log.now c.args.clauses.now c.args.seconds.now c.requires.sound; first = refl; second = refl; room = c.requires.room }

pub hold_clause-requires-clause-there : goal.hold_clause-requires-clause-there
hold_clause-requires-clause-there g c = (first_kept c.args.clauses.now c.loop-first.clauses c.loop-first.invariant.each.kept c.args.var (get_or c.args.firsts.now c.loop-first.first-index 0)
    (c.requires.firsts (get_or c.args.firsts.now c.loop-first.first-index 0) (item_in c.args.firsts.now c.loop-first.first-index c.loop-first-test.true))).irredundant

pub hold_clause-requires-clause-room : goal.hold_clause-requires-clause-room
hold_clause-requires-clause-room g c =
    let e = c.loop-first.invariant.first in let v = c.loop-first.invariant.each.leads.vars in let r = c.requires.first_room in omega (arith, e, v, r)

pub returns-then-is_err-clause-broken : goal.returns-then-is_err-clause-broken
returns-then-is_err-clause-broken g c = broken_later g.L.Log.takes g.L.Log.refuses c.args.var c.args.log.now c.loop-first.log c.loop-first.log c.args.clauses.now c.loop-first.clauses c.loop-first.clauses
    (take c.loop-first.first-index c.args.firsts.now) c.args.seconds.now faults.Memory c.loop-first.invariant.each (untold g.L.Log.takes g.L.Log.refuses (standing c.loop-first.clauses.engine.clauses) c.loop-first.log)

pub resolve_with-requires-clause-first : goal.resolve_with-requires-clause-first
resolve_with-requires-clause-first g c = first_kept c.args.clauses.now c.loop-first.clauses c.loop-first.invariant.each.kept c.args.var (get_or c.args.firsts.now c.loop-first.first-index 0)
    (c.requires.firsts (get_or c.args.firsts.now c.loop-first.first-index 0) (item_in c.args.firsts.now c.loop-first.first-index c.loop-first-test.true))

pub resolve_with-requires-clause-seconds : goal.resolve_with-requires-clause-seconds
resolve_with-requires-clause-seconds g c = λ j m. second_kept c.args.clauses.now c.loop-first.clauses c.loop-first.invariant.each.kept c.args.var j (c.requires.seconds j m)

pub resolve_with-requires-clause-held : goal.resolve_with-requires-clause-held
resolve_with-requires-clause-held g c = when_ok c.hold_clause.result (sym c.is_err.ensures.value ∙ c.if-is_err.false) c.hold_clause.ensures.held

pub resolve_with-requires-clause-first_room : goal.resolve_with-requires-clause-first_room
resolve_with-requires-clause-first_room g c =
    let e = c.loop-first.invariant.first in let f = c.hold_clause.ensures.first in let v = c.loop-first.invariant.each.leads.vars in let r = c.requires.first_room in omega (arith, e, f, v, r)

pub resolve_with-requires-clause-second_room : goal.resolve_with-requires-clause-second_room
resolve_with-requires-clause-second_room g c =
    let e = c.loop-first.invariant.second in let f = ap (λ (z : Held). z.reserved) c.hold_clause.ensures.second in let v = c.loop-first.invariant.each.leads.vars in let r = c.requires.second_room in omega (arith, e, f, v, r)

pub returns-in-Err-clause-broken : goal.returns-in-Err-clause-broken
returns-in-Err-clause-broken g c = broken_later g.L.Log.takes g.L.Log.refuses c.args.var c.args.log.now c.loop-first.log c.resolve_with.new.log c.args.clauses.now c.loop-first.clauses c.loop-first.clauses
    (take c.loop-first.first-index c.args.firsts.now) c.args.seconds.now c.in-Err.fault c.loop-first.invariant.each c.in-Err.ensures.broken

pub loop-first-preserved : goal.loop-first-preserved
loop-first-preserved g c = record {
  each = first_more g.L.Log.takes g.L.Log.refuses c.args.var c.args.log.now c.loop-first.log c.resolve_with.new.log c.args.clauses.now c.loop-first.clauses c.resolve_with.new.clauses
      (get_or c.args.firsts.now c.loop-first.first-index 0) (take c.loop-first.first-index c.args.firsts.now) (take (c.loop-first.first-index + 1) c.args.firsts.now) c.args.seconds.now
      c.loop-first.invariant.each c.in_default.ensures.each
      (c.requires.firsts (get_or c.args.firsts.now c.loop-first.first-index 0) (item_in c.args.firsts.now c.loop-first.first-index c.loop-first-test.true)).irredundant
      (λ j m. (c.requires.seconds j m).irredundant)
      (take_more c.args.firsts.now c.loop-first.first-index 0 c.loop-first-test.true);
  first = c.in_default.ensures.first ∙ c.hold_clause.ensures.first ∙ c.loop-first.invariant.first;
  second = c.in_default.ensures.second ∙ ap (λ (z : Held). z.reserved) c.hold_clause.ensures.second ∙ c.loop-first.invariant.second;
  room = c.in_default.ensures.room;
}
