use Rattle.std.proofs.Common.{◌≡◌, ℕ, ◌+◌, ◌++◌, ◌∷◌, [], take, drop, get_or, Contains, refl, sym, ap, ◌∙◌}
use Rattle.std.proofs.lemmas.List.{take_more, drop_more, take-append-drop}
use Rattle.elimination.specs.Steps.{standing}
use Rattle.elimination.specs.declared.fault.BoardFault.TheVariants as faults
use Rattle.elimination.proofs.Admitting.{when_ok}
use Rattle.elimination.proofs.Leading.{untold}
use Rattle.elimination.proofs.EachResolved.{item_in}
use Rattle.elimination.proofs.Lessening.{next_apart, unreasoned, broken_weakening, weakened_more}
use Rattle.elimination.proofs.weakening.weaken_each.Goals as goal

pub tell_weakening-requires-clause-irredundant : goal.tell_weakening-requires-clause-irredundant
tell_weakening-requires-clause-irredundant g c =
    let id = get_or c.args.ids.now c.loop-id.id-index 0 in
    c.loop-id.invariant.weakened.stays id (c.requires.irredundant id (item_in c.args.ids.now c.loop-id.id-index c.loop-id-test.true))
    (next_apart c.args.ids.now (take c.loop-id.id-index c.args.ids.now) id (drop (c.loop-id.id-index + 1) c.args.ids.now) c.requires.once
    (sym (take-append-drop c.loop-id.id-index c.args.ids.now) ∙ ap (λ z. take c.loop-id.id-index c.args.ids.now ++ z) (drop_more c.args.ids.now c.loop-id.id-index 0 c.loop-id-test.true)))

pub tell_weakening-requires-clause-no_reason : goal.tell_weakening-requires-clause-no_reason
tell_weakening-requires-clause-no_reason g c =
    let id = get_or c.args.ids.now c.loop-id.id-index 0 in
    let m = item_in c.args.ids.now c.loop-id.id-index c.loop-id-test.true in
    unreasoned g.L.Log.takes c.args.log.now c.loop-id.log c.args.clauses.now c.loop-id.clauses (take c.loop-id.id-index c.args.ids.now) c.loop-id.kept c.loop-id.invariant.weakened c.args.var id c.level.ensures.sound
    (c.loop-id.invariant.weakened.stays id (c.requires.irredundant id m)
    (next_apart c.args.ids.now (take c.loop-id.id-index c.args.ids.now) id (drop (c.loop-id.id-index + 1) c.args.ids.now) c.requires.once
    (sym (take-append-drop c.loop-id.id-index c.args.ids.now) ∙ ap (λ z. take c.loop-id.id-index c.args.ids.now ++ z) (drop_more c.args.ids.now c.loop-id.id-index 0 c.loop-id-test.true))))
    (c.requires.holding id m) c.requires.unassigned

pub returns-in-Err-clause-broken : goal.returns-in-Err-clause-broken
returns-in-Err-clause-broken g c = broken_weakening g.L.Log.takes c.args.log.now c.loop-id.log c.args.clauses.now c.loop-id.clauses (take c.loop-id.id-index c.args.ids.now) c.loop-id.kept c.loop-id.invariant.weakened
    g.L.Log.refuses c.tell_weakening.new.log c.in-Err.fault c.in-Err.ensures.broken

pub returns-then-is_err-clause-broken : goal.returns-then-is_err-clause-broken
returns-then-is_err-clause-broken g c =
    let id = get_or c.args.ids.now c.loop-id.id-index 0 in
    let m = item_in c.args.ids.now c.loop-id.id-index c.loop-id-test.true in
    let fresh = next_apart c.args.ids.now (take c.loop-id.id-index c.args.ids.now) id (drop (c.loop-id.id-index + 1) c.args.ids.now) c.requires.once
    (sym (take-append-drop c.loop-id.id-index c.args.ids.now) ∙ ap (λ z. take c.loop-id.id-index c.args.ids.now ++ z) (drop_more c.args.ids.now c.loop-id.id-index 0 c.loop-id-test.true)) in
    let more = weakened_more g.L.Log.takes c.args.log.now c.loop-id.log c.args.clauses.now c.loop-id.clauses (take c.loop-id.id-index c.args.ids.now) c.loop-id.kept c.loop-id.invariant.weakened
    c.tell_weakening.new.log c.tell_weakening.new.self id c.in-Ok.clause c.in-Ok.ensures.weakened (c.requires.irredundant id m) fresh
    (take c.loop-id.id-index c.args.ids.now ++ id ∷ []) refl (c.loop-id.kept ++ c.in-Ok.clause ∷ []) refl in
    broken_weakening g.L.Log.takes c.args.log.now c.tell_weakening.new.log c.args.clauses.now c.tell_weakening.new.self (take c.loop-id.id-index c.args.ids.now ++ id ∷ []) (c.loop-id.kept ++ c.in-Ok.clause ∷ []) more
    g.L.Log.refuses c.tell_weakening.new.log faults.Memory (untold g.L.Log.takes g.L.Log.refuses (standing c.tell_weakening.new.self.engine.clauses) c.tell_weakening.new.log)

pub loop-id-preserved : goal.loop-id-preserved
loop-id-preserved g c =
    let id = get_or c.args.ids.now c.loop-id.id-index 0 in
    let m = item_in c.args.ids.now c.loop-id.id-index c.loop-id-test.true in
    let fresh = next_apart c.args.ids.now (take c.loop-id.id-index c.args.ids.now) id (drop (c.loop-id.id-index + 1) c.args.ids.now) c.requires.once
    (sym (take-append-drop c.loop-id.id-index c.args.ids.now) ∙ ap (λ z. take c.loop-id.id-index c.args.ids.now ++ z) (drop_more c.args.ids.now c.loop-id.id-index 0 c.loop-id-test.true)) in
    record {
      weakened = weakened_more g.L.Log.takes c.args.log.now c.loop-id.log c.args.clauses.now c.loop-id.clauses (take c.loop-id.id-index c.args.ids.now) c.loop-id.kept c.loop-id.invariant.weakened
          c.tell_weakening.new.log c.tell_weakening.new.self id c.in-Ok.clause c.in-Ok.ensures.weakened (c.requires.irredundant id m) fresh
          (take (c.loop-id.id-index + 1) c.args.ids.now) (take_more c.args.ids.now c.loop-id.id-index 0 c.loop-id-test.true) c.push.new.self
          (when_ok c.push.result (sym c.is_err.ensures.value ∙ c.if-is_err.false) c.push.ensures.ok);
      room = c.in-Ok.ensures.room;
    }
