use Rattle.std.proofs.Common.{◌≡◌, Some, sym, ◌∙◌, subst}
use Rattle.clause_store.specs.Clauses.{slot_at}
use Rattle.watch_lists.specs.Watched.{IsWatched}
use Rattle.watch_lists.specs.Lists.{seen}
use Rattle.watch_lists.proofs.Placed.{id_at-slot}
use Rattle.watch_lists.proofs.Calling.{sound_now, sound_new}
use Rattle.watch_lists.proofs.Keeping.{are_beside, beside-weakened, kept_weakened}
use Rattle.watch_lists.proofs.Watches.weaken.Goals as goal

pub returns-in_default-clause-sound : goal.returns-in_default-clause-sound
returns-in_default-clause-sound c = sound_now c.self.inside.store c.self.inside.table.rows.items c.self.inside.table.places.items c.self.inside.vars c.args.self.now c.self.invariant c.self.view_is

pub sides_of-sides-requires-clause-slot : goal.sides_of-sides-requires-clause-slot
sides_of-sides-requires-clause-slot c = id_at-slot c.self.inside.store c.args.id c.in-Some.slot (sym c.find.ensures.slot ∙ c.in-Some.is)

pub returns-in-Err-clause-sound : goal.returns-in-Err-clause-sound
returns-in-Err-clause-sound c = subst (λ z. IsWatched (seen z c.self.inside.table.rows.items)) (sym c.in-Err.ensures.err) (sound_new c.self.inside.store c.self.inside.table.rows.items c.self.inside.table.places.items c.self.inside.vars c.self.invariant)

pub part-requires : goal.part-requires
part-requires c =
    let active : slot_at c.self.inside.store c.args.id ≡ Some c.in-Some.slot = sym c.find.ensures.slot ∙ c.in-Some.is in
    (c.self.inside.store, c.in-Some.slot, record { kept = c.self.invariant.kept; slot = id_at-slot c.self.inside.store c.args.id c.in-Some.slot (sym c.find.ensures.slot ∙ c.in-Some.is); beside = are_beside c.self.inside.store c.weaken.new.self c.args.id c.in-Some.slot (beside-weakened c.self.inside.store c.weaken.new.self c.args.id c.in-Some.slot c.self.invariant.kept.stored active c.in_default-weaken.ensures.ok); is = c.sides_of-sides.ensures })

pub invariant_of-self-2 : goal.invariant_of-self-2
invariant_of-self-2 c =
    let active : slot_at c.self.inside.store c.args.id ≡ Some c.in-Some.slot = sym c.find.ensures.slot ∙ c.in-Some.is in
    record {
      kept = kept_weakened c.self.inside.store c.weaken.new.self c.part.new.self.rows.items c.part.new.self.places.items c.args.id c.in-Some.slot c.self.invariant.kept.stored active c.in_default-weaken.ensures.ok
          (c.part.ensures.kept c.self.inside.store c.in-Some.slot (record { kept = c.self.invariant.kept; slot = id_at-slot c.self.inside.store c.args.id c.in-Some.slot active; beside = are_beside c.self.inside.store c.weaken.new.self c.args.id c.in-Some.slot (beside-weakened c.self.inside.store c.weaken.new.self c.args.id c.in-Some.slot c.self.invariant.kept.stored active c.in_default-weaken.ensures.ok); is = c.sides_of-sides.ensures }));
      vars_is = c.part.ensures.long ∙ c.self.invariant.vars_is;
    }

pub returns-clause-sound : goal.returns-clause-sound
returns-clause-sound c = sound_new c.weaken.new.self c.part.new.self.rows.items c.part.new.self.places.items c.self.inside.vars (invariant_of-self-2 c)
