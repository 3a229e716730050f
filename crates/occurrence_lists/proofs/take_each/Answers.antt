use Rattle.std.proofs.Common.{◌≡◌, ◌<◌, ◌&&◌, nat_eq, List, ℕ, length, ap, sym, subst, ◌∙◌, vec_len}
use Rattle.lits.specs.Clause.{has}
use Rattle.occurrence_lists.specs.Occurring.{row, times, one_if}
use Rattle.occurrence_lists.proofs.Listing.{IsAt, at-below, at-has, row-read, taken-step, still-there, length-written}
use Rattle.occurrence_lists.proofs.take_each.Goals as goal

pub index_mut-requires : goal.index_mut-requires
index_mut-requires c =
    let at : IsAt c.args.lits.now c.loop-l.l-index c.l-item.result c.code.result = record { within = c.loop-l-test.true; is = c.l-item.is; code_is = c.code.ensures.code } in
    at-below c.args.lits.now c.loop-l.l-index c.l-item.result c.code.result c.args.rows.now.items (vec_len c.loop-l.rows) at c.requires.listed (c.loop-l.rows.ok.0 ∙ c.loop-l.invariant.sized)

pub take_out-requires : goal.take_out-requires
take_out-requires c =
    let at : IsAt c.args.lits.now c.loop-l.l-index c.l-item.result c.code.result = record { within = c.loop-l-test.true; is = c.l-item.is; code_is = c.code.ensures.code } in
    let inside : c.code.result < length c.loop-l.rows.items = at-below c.args.lits.now c.loop-l.l-index c.l-item.result c.code.result c.args.rows.now.items (length c.loop-l.rows.items) at c.requires.listed c.loop-l.invariant.sized in
    let read : c.index_mut.result.now ≡ row c.loop-l.rows.items c.code.result = row-read c.loop-l.rows.items c.code.result c.index_mut.result.now inside c.index_mut.ensures.value in
    subst (λ (z : List ℕ). 0 < times c.args.id z) (sym read)
    (still-there c.loop-l.rows.items c.args.rows.now.items c.args.lits.now c.args.id c.loop-l.l-index c.l-item.result c.code.result at (c.loop-l.invariant.rows c.code.result c.args.id)
    (c.requires.there c.code.result (at-has c.args.lits.now c.loop-l.l-index c.l-item.result c.code.result at)))

pub loop-l-preserved : goal.loop-l-preserved
loop-l-preserved c =
    let at : IsAt c.args.lits.now c.loop-l.l-index c.l-item.result c.code.result = record { within = c.loop-l-test.true; is = c.l-item.is; code_is = c.code.ensures.code } in
    let inside : c.code.result < length c.loop-l.rows.items = at-below c.args.lits.now c.loop-l.l-index c.l-item.result c.code.result c.args.rows.now.items (length c.loop-l.rows.items) at c.requires.listed c.loop-l.invariant.sized in
    let read : c.index_mut.result.now ≡ row c.loop-l.rows.items c.code.result = row-read c.loop-l.rows.items c.code.result c.index_mut.result.now inside c.index_mut.ensures.value in
    record {
      sized = length-written c.loop-l.rows.items c.args.rows.now.items c.code.result c.take_out.new.self c.loop-l.invariant.sized;
      rows = λ k q. taken-step c.loop-l.rows.items c.args.lits.now c.args.id c.loop-l.l-index c.l-item.result c.code.result k q (times q (row c.args.rows.now.items k)) (one_if (has c.args.lits.now k && nat_eq q c.args.id)) c.take_out.new.self c.requires.once at inside
          (λ z. ap (λ (w : List ℕ). times z w) (sym read) ∙ c.take_out.ensures z) (c.loop-l.invariant.rows k q);
    }
