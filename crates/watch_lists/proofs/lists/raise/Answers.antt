use Rattle.std.proofs.Common.{◌<◌, length, ◌∙◌, vec_len}
use Rattle.watch_lists.proofs.Raising.{IsItem, item-within, raised-step}
use Rattle.watch_lists.proofs.lists.raise.Goals as goal

pub index_mut-requires : goal.index_mut-requires
index_mut-requires c =
    let item : IsItem c.args.lits.now c.loop-l.l-index c.l-item.result = record { within = c.loop-l-test.true; is = c.l-item.is } in
    item-within c.args.lits.now c.loop-l.l-index c.l-item.result c.code.result (vec_len c.loop-l.rows) (length c.args.rows.now.items) item c.code.ensures.code c.requires (c.loop-l.rows.ok.0 ∙ c.loop-l.invariant.long)

pub loop-l-preserved : goal.loop-l-preserved
loop-l-preserved c =
    let item : IsItem c.args.lits.now c.loop-l.l-index c.l-item.result = record { within = c.loop-l-test.true; is = c.l-item.is } in
    let within : c.code.result < length c.loop-l.rows.items = item-within c.args.lits.now c.loop-l.l-index c.l-item.result c.code.result (length c.loop-l.rows.items) (length c.args.rows.now.items) item c.code.ensures.code c.requires c.loop-l.invariant.long in
    raised-step c.args.lits.now c.loop-l.l-index c.l-item.result c.code.result c.args.rows.now.items c.loop-l.rows.items c.index_mut.result.now c.raise.new.self c.loop-l.invariant (record {
      item = item;
      code_is = c.code.ensures.code;
      within = within;
      read_is = c.index_mut.ensures.value;
      row_is = c.in_ok-raise.ensures.ok;
    })
