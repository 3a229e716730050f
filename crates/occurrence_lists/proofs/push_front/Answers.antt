use Rattle.std.proofs.Common.{◌≡◌, ◌+◌, ◌<◌, ◌++◌, ◌∷◌, [], List, ℕ, length, ap, ◌∙◌, vec_len}
use Rattle.occurrence_lists.specs.Occurring.{row}
use Rattle.occurrence_lists.proofs.Listing.{IsAt, at-below, row-read, added-step}
use Rattle.occurrence_lists.proofs.push_front.Goals as goal

pub index_mut-requires : goal.index_mut-requires
index_mut-requires c =
    let at : IsAt c.args.lits.now c.loop-l.l-index c.l-item.result c.code.result = record { within = c.loop-l-test.true; is = c.l-item.is; code_is = c.code.ensures.code } in
    at-below c.args.lits.now c.loop-l.l-index c.l-item.result c.code.result c.args.rows.now.items (vec_len c.loop-l.rows) at c.requires.listed (c.loop-l.rows.ok.0 ∙ c.loop-l.invariant.added.sized)

pub loop-l-preserved : goal.loop-l-preserved
loop-l-preserved c =
    let at : IsAt c.args.lits.now c.loop-l.l-index c.l-item.result c.code.result = record { within = c.loop-l-test.true; is = c.l-item.is; code_is = c.code.ensures.code } in
    let inside : c.code.result < length c.loop-l.rows.items = at-below c.args.lits.now c.loop-l.l-index c.l-item.result c.code.result c.args.rows.now.items (length c.loop-l.rows.items) at c.requires.listed c.loop-l.invariant.added.sized in
    let read : c.index_mut.result.now ≡ row c.loop-l.rows.items c.code.result = row-read c.loop-l.rows.items c.code.result c.index_mut.result.now inside c.index_mut.ensures.value in
    record {
      count = ap (λ n. n + 1) c.loop-l.invariant.count;
      added = added-step c.args.rows.now.items c.loop-l.rows.items c.args.lits.now c.args.id c.loop-l.l-index c.l-item.result c.code.result c.push.new.self c.requires.once at inside
          (c.in-Ok.ensures.ok ∙ ap (λ (z : List ℕ). z ++ c.args.id ∷ []) read) c.loop-l.invariant.added;
    }
