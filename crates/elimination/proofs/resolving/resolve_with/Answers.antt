use Rattle.std.proofs.Common.{◌≤◌, ◌+◌, ℕ, List, [], ◌∷◌, take, get_or, refl, sym, ap, ◌∙◌, subst, arith}
use Rattle.std.proofs.lemmas.List.{take_more}
use Rattle.resolvents.specs.Held.{Held}
use Rattle.elimination.proofs.Resolved.{none_second}
use Rattle.elimination.proofs.EachResolved.{item_in, first_kept, second_kept, held_kept, broken_later, second_more}
use Rattle.elimination.proofs.resolving.resolve_with.Goals as goal

pub loop-second-init : goal.loop-second-init
loop-second-init g c = record { each = none_second g.L.Log.takes c.args.var c.args.log.now c.args.clauses.now (c.args.first ∷ []) c.requires.sound; held = refl; second = refl; room = c.requires.room }

pub add_resolvent-requires-clause-sound : goal.add_resolvent-requires-clause-sound
add_resolvent-requires-clause-sound g c = c.loop-second.invariant.each.sound

pub add_resolvent-requires-clause-first : goal.add_resolvent-requires-clause-first
add_resolvent-requires-clause-first g c = first_kept c.args.clauses.now c.loop-second.clauses c.loop-second.invariant.each.kept c.args.var c.args.first c.requires.first

pub add_resolvent-requires-clause-second : goal.add_resolvent-requires-clause-second
add_resolvent-requires-clause-second g c = second_kept c.args.clauses.now c.loop-second.clauses c.loop-second.invariant.each.kept c.args.var (get_or c.args.seconds.now c.loop-second.second-index 0)
    (c.requires.seconds (get_or c.args.seconds.now c.loop-second.second-index 0) (item_in c.args.seconds.now c.loop-second.second-index c.loop-second-test.true))

pub add_resolvent-requires-clause-held : goal.add_resolvent-requires-clause-held
add_resolvent-requires-clause-held g c = held_kept c.args.clauses.now c.loop-second.clauses c.loop-second.invariant.each.kept c.args.var c.args.first c.args.bench.now.first c.loop-second.bench.first c.requires.first c.loop-second.invariant.held c.requires.held

pub add_resolvent-requires-clause-first_room : goal.add_resolvent-requires-clause-first_room
add_resolvent-requires-clause-first_room g c =
    let e = ap (λ (z : Held). z.reserved) c.loop-second.invariant.held in let v = c.loop-second.invariant.each.leads.vars in let r = c.requires.first_room in omega (arith, e, v, r)

pub add_resolvent-requires-clause-second_room : goal.add_resolvent-requires-clause-second_room
add_resolvent-requires-clause-second_room g c =
    let e = c.loop-second.invariant.second in let v = c.loop-second.invariant.each.leads.vars in let r = c.requires.second_room in omega (arith, e, v, r)

pub add_resolvent-requires-clause-room : goal.add_resolvent-requires-clause-room
add_resolvent-requires-clause-room g c = c.loop-second.invariant.room

pub returns-in-Err-clause-broken : goal.returns-in-Err-clause-broken
returns-in-Err-clause-broken g c = broken_later g.L.Log.takes g.L.Log.refuses c.args.var c.args.log.now c.loop-second.log c.add_resolvent.new.log c.args.clauses.now c.loop-second.clauses c.loop-second.clauses
    (c.args.first ∷ []) (take c.loop-second.second-index c.args.seconds.now) c.in-Err.fault c.loop-second.invariant.each c.in-Err.ensures.broken

pub loop-second-preserved : goal.loop-second-preserved
loop-second-preserved g c = record {
  each = second_more g.L.Log.takes g.L.Log.refuses c.args.var c.args.log.now c.loop-second.log c.add_resolvent.new.log c.args.clauses.now c.loop-second.clauses c.add_resolvent.new.clauses
      c.args.first (get_or c.args.seconds.now c.loop-second.second-index 0) (take c.loop-second.second-index c.args.seconds.now) (take (c.loop-second.second-index + 1) c.args.seconds.now)
      c.loop-second.invariant.each c.in_default.ensures.each c.requires.first.irredundant
      (c.requires.seconds (get_or c.args.seconds.now c.loop-second.second-index 0) (item_in c.args.seconds.now c.loop-second.second-index c.loop-second-test.true)).irredundant
      (take_more c.args.seconds.now c.loop-second.second-index 0 c.loop-second-test.true);
  held = c.in_default.ensures.held ∙ c.loop-second.invariant.held;
  second = c.in_default.ensures.second ∙ c.loop-second.invariant.second;
  room = c.in_default.ensures.room;
}
