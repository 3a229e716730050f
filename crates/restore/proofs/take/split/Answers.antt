use Rattle.std.proofs.Common.{◌≡◌, ◌<◌, ◌≤◌, ◌+◌, List, refl, sym, ◌∙◌, ap, subst, arith, length}
use Rattle.std.specs.Prelude.{vec_capacity, slice_set}
use Rattle.restore.specs.declared.lists.Elim.{Elim}
use Rattle.restore.specs.Split.{chosen_count}
use Rattle.restore.proofs.Splitting.{Splitting, splitting-take, splitting-leave, splitting-end, splitting-row, splitting-room, read_entry}
use Rattle.restore.proofs.take.split.Goals as goal
use Rattle.restore.proofs.take.split.Goals.{then-chosen-place, else-chosen-place}

pub bounds-places-row : goal.bounds-places-row
bounds-places-row c =
    let e = read_entry c.loop-place.entries.items c.loop-place.place c.replace-entry.result c.index_mut.result.now c.replace-entry.ensures.value c.index_mut.ensures.value in
    let lt = c.loop-place-test.true in
    let size = c.requires.sized in
    splitting-row _ _ _ _ _ _ c.loop-place.place c.replace-entry.result (omega arith) e c.loop-place.invariant.0

pub bounds-places-row-else-chosen-place : goal.bounds-places-row-else-chosen-place
bounds-places-row-else-chosen-place c =
    let e = read_entry c.loop-place.entries.items c.loop-place.place c.replace-entry.result c.index_mut.result.now c.replace-entry.ensures.value c.index_mut.ensures.value in
    let lt = c.loop-place-test.true in
    let size = c.requires.sized in
    splitting-row _ _ _ _ _ _ c.loop-place.place c.replace-entry.result (omega arith) e c.loop-place.invariant.0

pub push_reserved-requires : goal.push_reserved-requires
push_reserved-requires c = splitting-room _ _ _ _ _ _ c.loop-place.place _ _ c.if-chosen-place.true c.loop-place.taken.ok.0 (subst (λ n. chosen_count c.args.chosen.now ≤ n) (sym c.loop-place.invariant.1) c.requires.room) c.loop-place.invariant.0

pub loop-place-preserved : goal.loop-place-preserved
loop-place-preserved c =
    let e = read_entry c.loop-place.entries.items c.loop-place.place c.replace-entry.result c.index_mut.result.now c.replace-entry.ensures.value c.index_mut.ensures.value in
    let lt = c.loop-place-test.true in
    let size = c.requires.sized in
    elim c.if-chosen-place.branch [
      | then-chosen-place w ↦ (
        splitting-take _ _ c.loop-place.entries.items _ _ _ _ _ _ c.loop-place.place _ c.replace-entry.result _ size lt refl e w.if-chosen-place.true
            (ap (λ v. v.items) w.entries-is) (ap (λ v. v.items) w.taken-is ∙ w.push_reserved.ensures.items) w.places-is (subst (λ n. Splitting c.args.entries.now.items c.args.chosen.now c.loop-place.entries.items c.loop-place.taken.items c.loop-place.places n c.loop-place.place) (sym w.left-is) c.loop-place.invariant.0),
        ap vec_capacity w.taken-is ∙ w.push_reserved.ensures.capacity ∙ c.loop-place.invariant.1,
      )
      | else-chosen-place w ↦ (
        splitting-leave _ _ c.loop-place.entries.items _ _ _ _ _ c.loop-place.left c.loop-place.place _ _ c.replace-entry.result _ size lt refl w.left-is e w.if-chosen-place.false
            refl (ap (λ v. v.items) w.entries-is) (w.places-is ∙ ap (λ n. slice_set c.loop-place.places c.replace-entry.result.var n) (sym w.left-is)) (subst (λ (g : List Elim). Splitting c.args.entries.now.items c.args.chosen.now c.loop-place.entries.items g c.loop-place.places c.loop-place.left c.loop-place.place) (ap (λ v. v.items) (sym w.taken-is)) c.loop-place.invariant.0),
        ap vec_capacity w.taken-is ∙ c.loop-place.invariant.1,
      )
    ]

pub returns-clause-indexed : goal.returns-clause-indexed
returns-clause-indexed c = let r = splitting-end _ _ _ _ _ _ _ c.loop-place.place c.requires.sized (let le = c.loop-place-test.false in let high = c.loop-place.auto.place-end in omega arith) c.truncate.ensures.items c.loop-place.invariant.0 in r.2
