use Rattle.std.proofs.Common.{◌<◌, ◌≤◌, length, sym, ap, subst}
use Rattle.watch_lists.specs.Lists.{lits_of, id_at}
use Rattle.watch_lists.proofs.Entering.{entered-short, reserved-one, room-one, reserved-two, room-two, entered}
use Rattle.watch_lists.proofs.lists.WatchTable.enter.Goals as goal

pub returns-then-lits-lt2-clause-kept : goal.returns-then-lits-lt2-clause-kept
returns-then-lits-lt2-clause-kept c = entered-short c.args.store.now c.args.self.now.rows.items c.args.self.now.places.items c.args.s c.requires.kept c.requires.slot
    (subst (λ z. length z < 2) (sym (c.lits.ensures (id_at c.args.store.now c.args.s) c.requires.slot)) c.if-lits-lt2.true)

pub put-requires-clause-reserved : goal.put-requires-clause-reserved
put-requires-clause-reserved c =
    let long : 2 ≤ length (lits_of c.args.store.now c.args.s) = subst (λ z. 2 ≤ length z) (sym (c.lits.ensures (id_at c.args.store.now c.args.s) c.requires.slot)) c.if-lits-lt2.false in
    let pair = c.pair-one.ensures (id_at c.args.store.now c.args.s) c.requires.slot in
    reserved-one c.args.store.now c.args.self.now.rows.items c.args.self.now.places.items c.args.s c.requires.kept c.requires.slot c.pair-one.result.0 c.pair-one.result.1 long pair.0 pair.1

pub put-requires-clause-room : goal.put-requires-clause-room
put-requires-clause-room c =
    let long : 2 ≤ length (lits_of c.args.store.now c.args.s) = subst (λ z. 2 ≤ length z) (sym (c.lits.ensures (id_at c.args.store.now c.args.s) c.requires.slot)) c.if-lits-lt2.false in
    let pair = c.pair-one.ensures (id_at c.args.store.now c.args.s) c.requires.slot in
    room-one c.args.store.now c.args.self.now.rows.items c.args.self.now.places.items c.args.s c.requires.kept c.requires.slot c.pair-one.result.0 c.pair-one.result.1 long pair.0 pair.1

pub put-requires-2-clause-reserved : goal.put-requires-2-clause-reserved
put-requires-2-clause-reserved c =
    let long : 2 ≤ length (lits_of c.args.store.now c.args.s) = subst (λ z. 2 ≤ length z) (sym (c.lits.ensures (id_at c.args.store.now c.args.s) c.requires.slot)) c.if-lits-lt2.false in
    let pair = c.pair-one.ensures (id_at c.args.store.now c.args.s) c.requires.slot in
    reserved-two c.args.store.now c.args.self.now.rows.items c.args.self.now.places.items c.args.s c.requires.kept c.requires.slot c.pair-one.result.0 c.pair-one.result.1 long pair.0 pair.1
    c.put.new.self.rows.items c.put.new.self.places.items c.new.result (ap (λ z. z.slot) c.new.ensures) (ap (λ z. z.blocker) c.new.ensures) c.put.ensures.rows c.put.ensures.places

pub put-requires-2-clause-room : goal.put-requires-2-clause-room
put-requires-2-clause-room c =
    let long : 2 ≤ length (lits_of c.args.store.now c.args.s) = subst (λ z. 2 ≤ length z) (sym (c.lits.ensures (id_at c.args.store.now c.args.s) c.requires.slot)) c.if-lits-lt2.false in
    let pair = c.pair-one.ensures (id_at c.args.store.now c.args.s) c.requires.slot in
    room-two c.args.store.now c.args.self.now.rows.items c.args.self.now.places.items c.args.s c.requires.kept c.requires.slot c.pair-one.result.0 c.pair-one.result.1 long pair.0 pair.1
    c.put.new.self.rows.items c.put.new.self.places.items c.new.result (ap (λ z. z.slot) c.new.ensures) (ap (λ z. z.blocker) c.new.ensures) c.put.ensures.rows c.put.ensures.places

pub returns-clause-kept : goal.returns-clause-kept
returns-clause-kept c =
    let long : 2 ≤ length (lits_of c.args.store.now c.args.s) = subst (λ z. 2 ≤ length z) (sym (c.lits.ensures (id_at c.args.store.now c.args.s) c.requires.slot)) c.if-lits-lt2.false in
    let pair = c.pair-one.ensures (id_at c.args.store.now c.args.s) c.requires.slot in
    entered c.args.store.now c.args.self.now.rows.items c.args.self.now.places.items c.args.s c.requires.kept c.requires.slot c.pair-one.result.0 c.pair-one.result.1 long pair.0 pair.1
    c.put.new.self.rows.items c.put.new.self.places.items c.new.result (ap (λ z. z.slot) c.new.ensures) (ap (λ z. z.blocker) c.new.ensures) c.put.ensures.rows c.put.ensures.places
    c.put-2.new.self.rows.items c.put-2.new.self.places.items c.new-2.result (ap (λ z. z.slot) c.new-2.ensures) (ap (λ z. z.blocker) c.new-2.ensures) c.put-2.ensures.rows c.put-2.ensures.places
