use Rattle.std.proofs.Common.{refl, ap, ◌∙◌, take}
use Rattle.std.specs.Prelude.{slice_set}
use Rattle.watch_lists.specs.Watched.{list_at}
use Rattle.watch_lists.proofs.Calling.{sound_new}
use Rattle.watch_lists.proofs.Blocking.{Blocks, blocks, inside_blocked, seen_blocked, front_blocked}
use Rattle.watch_lists.proofs.Watches.block.Goals as goal

-- what is known of the change
change : (c : goal.After-self-1) → Blocks c.self.inside.store c.self.inside.table.rows.items (slice_set c.self.inside.table.rows.items c.code.result c.set.new.self) c.args.l c.args.i c.args.blocker
change c =
    blocks c.self.inside.table.rows.items (slice_set c.self.inside.table.rows.items c.code.result c.set.new.self) c.self.inside.table.places.items c.self.inside.store c.args.self.now c.args.l c.args.i c.args.blocker c.code.result c.index_mut-row.result.now c.set.new.self c.list.result.now c.index-list-i.result c.with_blocker.result (record {
      kept = c.self.invariant.kept;
      view = c.self.view_is;
      within = c.requires.within;
      member = c.requires.member;
      code_is = c.code.ensures.code;
      row_is = c.index_mut-row.ensures.value;
      list_is = c.list.ensures.list;
      entry_is = c.index-list-i.is;
      changed = c.with_blocker.ensures;
      put_is = c.set.ensures;
      is = refl;
    })

pub invariant_of-self : goal.invariant_of-self
invariant_of-self c = inside_blocked c.self.inside.store c.self.inside.table.rows.items (slice_set c.self.inside.table.rows.items c.code.result c.set.new.self) c.args.l c.args.i c.args.blocker (change c) c.self.inside.table.places.items c.self.inside.vars c.self.invariant

pub returns-clause-blocked : goal.returns-clause-blocked
returns-clause-blocked c = seen_blocked c.self.inside.store c.self.inside.table.rows.items (slice_set c.self.inside.table.rows.items c.code.result c.set.new.self) c.args.l c.args.i c.args.blocker (change c) c.args.self.now c.self.view_is

pub returns-clause-front : goal.returns-clause-front
returns-clause-front c = ap (λ w. take c.args.i (list_at w.lists c.args.l)) (seen_blocked c.self.inside.store c.self.inside.table.rows.items (slice_set c.self.inside.table.rows.items c.code.result c.set.new.self) c.args.l c.args.i c.args.blocker (change c) c.args.self.now c.self.view_is) ∙ front_blocked c.args.self.now c.args.l c.args.i c.args.blocker c.requires.within

pub returns-clause-sound : goal.returns-clause-sound
returns-clause-sound c = sound_new c.self.inside.store (slice_set c.self.inside.table.rows.items c.code.result c.set.new.self) c.self.inside.table.places.items c.self.inside.vars (invariant_of-self c)
