use Rattle.std.proofs.Common.{◌≡◌, ◌<◌, Some, false, sym, ap, ◌∙◌, subst}
use Rattle.std.proofs.lemmas.Bool.{both_ways}
use Rattle.std.specs.Prelude.{is_some, is_err}
use Rattle.std.specs.FinMap.{remove}
use Rattle.lits.specs.Clause.{set_of}
use Rattle.lits.proofs.Ascending.{has-set_of}
use Rattle.clause_store.specs.Clauses.{firsts, new_clause, slot_at}
use Rattle.clause_store.proofs.Stored.{on_ok}
use Rattle.watch_lists.specs.Watched.{IsWatched}
use Rattle.watch_lists.specs.Lists.{AreWatchesInside, seen}
use Rattle.watch_lists.proofs.Sounding.{kept_sound}
use Rattle.watch_lists.proofs.Placed.{id_at-slot}
use Rattle.watch_lists.proofs.Putting.{Puts, ok_from, puts-added, slot-put, undone}
use Rattle.watch_lists.proofs.Calling.{sound_new, wide_now, lists_same}
use Rattle.watch_lists.proofs.Keeping.{put-lits, kept_raised, kept_added}
use Rattle.watch_lists.proofs.Watches.add.Goals as goal

pub returns-in-Err-clause-sound : goal.returns-in-Err-clause-sound
returns-in-Err-clause-sound c = subst (λ z. IsWatched (seen z c.self.inside.table.rows.items)) (sym c.in-Err.ensures.err) (sound_new c.self.inside.store c.self.inside.table.rows.items c.self.inside.table.places.items c.self.inside.vars c.self.invariant)

pub make_room-requires-clause-slot : goal.make_room-requires-clause-slot
make_room-requires-clause-slot c = id_at-slot c.add.new.self c.args.id c.in-Ok.slot (slot-put c.self.inside.store c.add.new.self c.args.id c.in-Ok.slot (set_of c.args.lits.now) (firsts c.args.lits.now) c.in-Ok.ensures.ok)

pub make_room-requires-clause-reserved : goal.make_room-requires-clause-reserved
make_room-requires-clause-reserved c = λ l h.
    let p : Puts c.self.inside.store c.add.new.self c.args.id c.in-Ok.slot (set_of c.args.lits.now) (firsts c.args.lits.now) = puts-added c.self.inside.store c.add.new.self c.args.id c.in-Ok.slot c.args.lits.now c.in-Ok.ensures.ok c.in-Ok.ensures.fresh c.in-Ok.ensures.free in
    subst (λ n. l < n) (wide_now c.self.inside.store c.self.inside.table.rows.items c.args.self.now c.self.view_is)
    (c.requires l (sym (has-set_of c.args.lits.now l) ∙ sym (put-lits c.self.inside.store c.add.new.self c.args.id c.in-Ok.slot l (set_of c.args.lits.now) (firsts c.args.lits.now) c.self.invariant.kept.stored p) ∙ h))

pub invariant_of-self-then-is_err : goal.invariant_of-self-then-is_err
invariant_of-self-then-is_err c =
    let active : slot_at c.add.new.self c.args.id ≡ Some c.in-Ok.slot = slot-put c.self.inside.store c.add.new.self c.args.id c.in-Ok.slot (set_of c.args.lits.now) (firsts c.args.lits.now) c.in-Ok.ensures.ok in
    let is : c.delete.new.self ≡ remove c.add.new.self c.args.id = ok_from c.delete.result _ _ c.delete.ensures.ok c.delete.ensures.inactive (λ e h. both_ways _ h (ap is_some active)) in
    let back : c.delete.new.self ≡ c.self.inside.store = undone c.self.inside.store c.add.new.self c.delete.new.self c.args.id (new_clause c.args.lits.now c.in-Ok.slot) c.in-Ok.ensures.ok is c.in-Ok.ensures.free in
    subst (λ z. AreWatchesInside z c.make_room.new.self.rows.items c.make_room.new.self.places.items c.self.inside.vars) (sym back) (record {
      kept = kept_raised c.self.inside.store c.self.inside.table.rows.items c.make_room.new.self.rows.items c.self.inside.table.places.items c.make_room.new.self.places.items c.self.invariant.kept c.make_room.ensures.raised c.make_room.ensures.longer c.make_room.ensures.same;
      vars_is = c.make_room.ensures.raised.long ∙ c.self.invariant.vars_is;
    })

pub returns-then-is_err-clause-err : goal.returns-then-is_err-clause-err
returns-then-is_err-clause-err c =
    let active : slot_at c.add.new.self c.args.id ≡ Some c.in-Ok.slot = slot-put c.self.inside.store c.add.new.self c.args.id c.in-Ok.slot (set_of c.args.lits.now) (firsts c.args.lits.now) c.in-Ok.ensures.ok in
    let is : c.delete.new.self ≡ remove c.add.new.self c.args.id = ok_from c.delete.result _ _ c.delete.ensures.ok c.delete.ensures.inactive (λ e h. both_ways _ h (ap is_some active)) in
    let back : c.delete.new.self ≡ c.self.inside.store = undone c.self.inside.store c.add.new.self c.delete.new.self c.args.id (new_clause c.args.lits.now c.in-Ok.slot) c.in-Ok.ensures.ok is c.in-Ok.ensures.free in
    (λ i. record { clauses = back i; lists = lists_same c.self.inside.table.rows.items c.make_room.new.self.rows.items c.make_room.ensures.raised.long c.make_room.ensures.raised.watches i }) ∙ c.self.view_is

pub returns-then-is_err-clause-sound : goal.returns-then-is_err-clause-sound
returns-then-is_err-clause-sound c = sound_new c.delete.new.self c.make_room.new.self.rows.items c.make_room.new.self.places.items c.self.inside.vars (invariant_of-self-then-is_err c)

pub enter-requires-clause-kept : goal.enter-requires-clause-kept
enter-requires-clause-kept c =
    let good : is_err c.make_room.result ≡ false = sym c.is_err.ensures.value ∙ c.if-is_err.false in
    kept_added c.self.inside.store c.add.new.self c.self.inside.table.rows.items c.make_room.new.self.rows.items c.self.inside.table.places.items c.make_room.new.self.places.items c.args.id c.in-Ok.slot (set_of c.args.lits.now) (firsts c.args.lits.now) (record {
      kept = c.self.invariant.kept;
      puts = puts-added c.self.inside.store c.add.new.self c.args.id c.in-Ok.slot c.args.lits.now c.in-Ok.ensures.ok c.in-Ok.ensures.fresh c.in-Ok.ensures.free;
      within = λ l h. subst (λ n. l < n) (wide_now c.self.inside.store c.self.inside.table.rows.items c.args.self.now c.self.view_is) (c.requires l (sym (has-set_of c.args.lits.now l) ∙ h));
      raised = on_ok c.make_room.result _ good c.make_room.ensures.room;
      longer = c.make_room.ensures.longer;
      same = c.make_room.ensures.same;
      fits = on_ok c.make_room.result _ good c.make_room.ensures.fits;
    })

pub enter-requires-clause-slot : goal.enter-requires-clause-slot
enter-requires-clause-slot c = id_at-slot c.add.new.self c.args.id c.in-Ok.slot (slot-put c.self.inside.store c.add.new.self c.args.id c.in-Ok.slot (set_of c.args.lits.now) (firsts c.args.lits.now) c.in-Ok.ensures.ok)

pub returns-clause-sound : goal.returns-clause-sound
returns-clause-sound c = kept_sound c.add.new.self c.enter.new.self.rows.items c.enter.new.self.places.items c.enter.ensures.kept
