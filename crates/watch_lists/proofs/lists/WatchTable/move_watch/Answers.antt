use Rattle.std.proofs.Common.{refl, ap, ◌∙◌}
use Rattle.watch_lists.specs.Lists.{id_at, watch_places}
use Rattle.watch_lists.proofs.Moving.{entry-read, last-placed, slot-known, long-known, within-other, within-left, within-joined, few, reserved-joined, room-joined, fits-moved, moved-kept, moved-front}
use Rattle.watch_lists.proofs.lists.WatchTable.move_watch.Goals as goal

pub place_of-place-requires-clause-slot : goal.place_of-place-requires-clause-slot
place_of-place-requires-clause-slot c =
    let entry = entry-read c.args.store.now c.args.self.now.rows.items c.args.self.now.places.items c.args.l c.args.i c.args.k c.requires c.code.result c.index.result.now c.list.result.now c.index-list-i.result c.code.ensures.code c.index.ensures c.list.ensures.list c.index-list-i.is in
    slot-known c.args.store.now c.args.self.now.rows.items c.args.self.now.places.items c.args.l c.args.i c.args.k c.requires c.slot-slot.result (watch_places c.args.store.now c.slot-slot.result c.args.l) (c.slot-slot.ensures ∙ ap (λ z. z.slot) entry) refl

pub place_of-place-requires-clause-long : goal.place_of-place-requires-clause-long
place_of-place-requires-clause-long c =
    let entry = entry-read c.args.store.now c.args.self.now.rows.items c.args.self.now.places.items c.args.l c.args.i c.args.k c.requires c.code.result c.index.result.now c.list.result.now c.index-list-i.result c.code.ensures.code c.index.ensures c.list.ensures.list c.index-list-i.is in
    long-known c.args.store.now c.args.self.now.rows.items c.args.self.now.places.items c.args.l c.args.i c.args.k c.requires c.slot-slot.result (watch_places c.args.store.now c.slot-slot.result c.args.l) (c.slot-slot.ensures ∙ ap (λ z. z.slot) entry) refl

pub at-other-requires-clause-within : goal.at-other-requires-clause-within
at-other-requires-clause-within c =
    let entry = entry-read c.args.store.now c.args.self.now.rows.items c.args.self.now.places.items c.args.l c.args.i c.args.k c.requires c.code.result c.index.result.now c.list.result.now c.index-list-i.result c.code.ensures.code c.index.ensures c.list.ensures.list c.index-list-i.is in
    within-other c.args.store.now c.args.self.now.rows.items c.args.self.now.places.items c.args.l c.args.i c.args.k c.requires c.slot-slot.result c.place_of-place.result (c.slot-slot.ensures ∙ ap (λ z. z.slot) entry) c.place_of-place.ensures.is

pub at-joined-requires-clause-within : goal.at-joined-requires-clause-within
at-joined-requires-clause-within c =
    let entry = entry-read c.args.store.now c.args.self.now.rows.items c.args.self.now.places.items c.args.l c.args.i c.args.k c.requires c.code.result c.index.result.now c.list.result.now c.index-list-i.result c.code.ensures.code c.index.ensures c.list.ensures.list c.index-list-i.is in
    within-joined c.args.store.now c.args.self.now.rows.items c.args.self.now.places.items c.args.l c.args.i c.args.k c.requires c.slot-slot.result c.place_of-place.result (c.slot-slot.ensures ∙ ap (λ z. z.slot) entry) c.place_of-place.ensures.is

pub cut-requires-clause-few : goal.cut-requires-clause-few
cut-requires-clause-few c = few c.args.store.now c.args.self.now.rows.items c.args.self.now.places.items c.args.l c.args.i c.args.k c.requires

pub cut-requires-clause-last : goal.cut-requires-clause-last
cut-requires-clause-last c = λ more. last-placed c.args.store.now c.args.self.now.rows.items c.args.self.now.places.items c.args.l c.args.i c.args.k c.requires

pub swap-requires-clause-slot : goal.swap-requires-clause-slot
swap-requires-clause-slot c =
    let entry = entry-read c.args.store.now c.args.self.now.rows.items c.args.self.now.places.items c.args.l c.args.i c.args.k c.requires c.code.result c.index.result.now c.list.result.now c.index-list-i.result c.code.ensures.code c.index.ensures c.list.ensures.list c.index-list-i.is in
    (id_at c.args.store.now c.slot-slot.result, slot-known c.args.store.now c.args.self.now.rows.items c.args.self.now.places.items c.args.l c.args.i c.args.k c.requires c.slot-slot.result c.place_of-place.result (c.slot-slot.ensures ∙ ap (λ z. z.slot) entry) c.place_of-place.ensures.is)

pub swap-requires-clause-a_in_bounds : goal.swap-requires-clause-a_in_bounds
swap-requires-clause-a_in_bounds c =
    let entry = entry-read c.args.store.now c.args.self.now.rows.items c.args.self.now.places.items c.args.l c.args.i c.args.k c.requires c.code.result c.index.result.now c.list.result.now c.index-list-i.result c.code.ensures.code c.index.ensures c.list.ensures.list c.index-list-i.is in
    within-left c.args.store.now c.args.self.now.rows.items c.args.self.now.places.items c.args.l c.args.i c.args.k c.requires c.slot-slot.result c.place_of-place.result (c.slot-slot.ensures ∙ ap (λ z. z.slot) entry) c.place_of-place.ensures.is

pub swap-requires-clause-b_in_bounds : goal.swap-requires-clause-b_in_bounds
swap-requires-clause-b_in_bounds c =
    let entry = entry-read c.args.store.now c.args.self.now.rows.items c.args.self.now.places.items c.args.l c.args.i c.args.k c.requires c.code.result c.index.result.now c.list.result.now c.index-list-i.result c.code.ensures.code c.index.ensures c.list.ensures.list c.index-list-i.is in
    within-joined c.args.store.now c.args.self.now.rows.items c.args.self.now.places.items c.args.l c.args.i c.args.k c.requires c.slot-slot.result c.place_of-place.result (c.slot-slot.ensures ∙ ap (λ z. z.slot) entry) c.place_of-place.ensures.is

pub put-requires-clause-reserved : goal.put-requires-clause-reserved
put-requires-clause-reserved c =
    let entry = entry-read c.args.store.now c.args.self.now.rows.items c.args.self.now.places.items c.args.l c.args.i c.args.k c.requires c.code.result c.index.result.now c.list.result.now c.index-list-i.result c.code.ensures.code c.index.ensures c.list.ensures.list c.index-list-i.is in
    let slot = slot-known c.args.store.now c.args.self.now.rows.items c.args.self.now.places.items c.args.l c.args.i c.args.k c.requires c.slot-slot.result c.place_of-place.result (c.slot-slot.ensures ∙ ap (λ z. z.slot) entry) c.place_of-place.ensures.is in
    let joined = c.at-joined.ensures (id_at c.args.store.now c.slot-slot.result) slot in
    reserved-joined c.args.store.now c.args.self.now.rows.items c.args.self.now.places.items c.args.l c.args.i c.args.k c.requires c.slot-slot.result c.place_of-place.result (c.slot-slot.ensures ∙ ap (λ z. z.slot) entry) c.place_of-place.ensures.is
    c.at-joined.result joined c.cut.new.self.rows.items c.cut.new.self.places.items c.cut.ensures.list c.cut.ensures.rows c.cut.ensures.places

pub put-requires-clause-room : goal.put-requires-clause-room
put-requires-clause-room c =
    let entry = entry-read c.args.store.now c.args.self.now.rows.items c.args.self.now.places.items c.args.l c.args.i c.args.k c.requires c.code.result c.index.result.now c.list.result.now c.index-list-i.result c.code.ensures.code c.index.ensures c.list.ensures.list c.index-list-i.is in
    let slot = slot-known c.args.store.now c.args.self.now.rows.items c.args.self.now.places.items c.args.l c.args.i c.args.k c.requires c.slot-slot.result c.place_of-place.result (c.slot-slot.ensures ∙ ap (λ z. z.slot) entry) c.place_of-place.ensures.is in
    let joined = c.at-joined.ensures (id_at c.args.store.now c.slot-slot.result) slot in
    room-joined c.args.store.now c.args.self.now.rows.items c.args.self.now.places.items c.args.l c.args.i c.args.k c.requires c.slot-slot.result c.place_of-place.result (c.slot-slot.ensures ∙ ap (λ z. z.slot) entry) c.place_of-place.ensures.is
    c.at-joined.result joined c.cut.new.self.rows.items c.cut.new.self.places.items c.cut.ensures.list c.cut.ensures.rows c.cut.ensures.places

pub put-requires-clause-place : goal.put-requires-clause-place
put-requires-clause-place c =
    let entry = entry-read c.args.store.now c.args.self.now.rows.items c.args.self.now.places.items c.args.l c.args.i c.args.k c.requires c.code.result c.index.result.now c.list.result.now c.index-list-i.result c.code.ensures.code c.index.ensures c.list.ensures.list c.index-list-i.is in
    let slot = slot-known c.args.store.now c.args.self.now.rows.items c.args.self.now.places.items c.args.l c.args.i c.args.k c.requires c.slot-slot.result c.place_of-place.result (c.slot-slot.ensures ∙ ap (λ z. z.slot) entry) c.place_of-place.ensures.is in
    let joined = c.at-joined.ensures (id_at c.args.store.now c.slot-slot.result) slot in
    fits-moved c.args.store.now c.args.self.now.rows.items c.args.self.now.places.items c.args.l c.args.i c.args.k c.requires c.slot-slot.result c.place_of-place.result (c.slot-slot.ensures ∙ ap (λ z. z.slot) entry) c.place_of-place.ensures.is
    c.at-joined.result joined c.cut.new.self.rows.items c.cut.new.self.places.items c.cut.ensures.list c.cut.ensures.rows c.cut.ensures.places
    c.new.result c.at-other.result (c.at-other.ensures (id_at c.args.store.now c.slot-slot.result) slot) (ap (λ z. z.slot) c.new.ensures) (ap (λ z. z.blocker) c.new.ensures)

pub returns-clause-kept : goal.returns-clause-kept
returns-clause-kept c =
    let entry = entry-read c.args.store.now c.args.self.now.rows.items c.args.self.now.places.items c.args.l c.args.i c.args.k c.requires c.code.result c.index.result.now c.list.result.now c.index-list-i.result c.code.ensures.code c.index.ensures c.list.ensures.list c.index-list-i.is in
    let slot = slot-known c.args.store.now c.args.self.now.rows.items c.args.self.now.places.items c.args.l c.args.i c.args.k c.requires c.slot-slot.result c.place_of-place.result (c.slot-slot.ensures ∙ ap (λ z. z.slot) entry) c.place_of-place.ensures.is in
    let joined = c.at-joined.ensures (id_at c.args.store.now c.slot-slot.result) slot in
    moved-kept c.args.store.now c.args.self.now.rows.items c.args.self.now.places.items c.args.l c.args.i c.args.k c.requires c.slot-slot.result c.place_of-place.result (c.slot-slot.ensures ∙ ap (λ z. z.slot) entry) c.place_of-place.ensures.is
    c.at-joined.result joined c.cut.new.self.rows.items c.cut.new.self.places.items c.cut.ensures.list c.cut.ensures.rows c.cut.ensures.places
    c.new.result c.at-other.result (c.at-other.ensures (id_at c.args.store.now c.slot-slot.result) slot) (ap (λ z. z.slot) c.new.ensures) (ap (λ z. z.blocker) c.new.ensures)
    c.swap.new.self (c.swap.ensures (id_at c.args.store.now c.slot-slot.result) slot) c.put.new.self.rows.items c.put.new.self.places.items c.put.ensures.rows c.put.ensures.places

pub returns-clause-front : goal.returns-clause-front
returns-clause-front c =
    let entry = entry-read c.args.store.now c.args.self.now.rows.items c.args.self.now.places.items c.args.l c.args.i c.args.k c.requires c.code.result c.index.result.now c.list.result.now c.index-list-i.result c.code.ensures.code c.index.ensures c.list.ensures.list c.index-list-i.is in
    let slot = slot-known c.args.store.now c.args.self.now.rows.items c.args.self.now.places.items c.args.l c.args.i c.args.k c.requires c.slot-slot.result c.place_of-place.result (c.slot-slot.ensures ∙ ap (λ z. z.slot) entry) c.place_of-place.ensures.is in
    let joined = c.at-joined.ensures (id_at c.args.store.now c.slot-slot.result) slot in
    moved-front c.args.store.now c.args.self.now.rows.items c.args.self.now.places.items c.args.l c.args.i c.args.k c.requires c.slot-slot.result c.place_of-place.result (c.slot-slot.ensures ∙ ap (λ z. z.slot) entry) c.place_of-place.ensures.is
    c.at-joined.result joined c.cut.new.self.rows.items c.cut.new.self.places.items c.cut.ensures.list c.cut.ensures.rows c.cut.ensures.places
    c.new.result c.at-other.result (c.at-other.ensures (id_at c.args.store.now c.slot-slot.result) slot) (ap (λ z. z.slot) c.new.ensures) (ap (λ z. z.blocker) c.new.ensures)
    c.swap.new.self (c.swap.ensures (id_at c.args.store.now c.slot-slot.result) slot) c.put.new.self.rows.items c.put.new.self.places.items c.put.ensures.rows c.put.ensures.places
