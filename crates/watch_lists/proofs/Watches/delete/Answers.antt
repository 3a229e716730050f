use Rattle.std.proofs.Common.{◌≡◌, ◌<◌, Some, true, refl, sym, ap, ◌∙◌, subst}
use Rattle.std.proofs.lemmas.Bool.{both_ways}
use Rattle.std.specs.Prelude.{is_some}
use Rattle.std.specs.FinMap.{remove}
use Rattle.lits.specs.Clause.{has}
use Rattle.clause_store.specs.Clauses.{IsOnce, slot_at}
use Rattle.watch_lists.proofs.Placed.{id_at-slot, lits-literals}
use Rattle.watch_lists.proofs.FirstTwo.{once-lits}
use Rattle.watch_lists.proofs.Putting.{ok_from}
use Rattle.watch_lists.proofs.Calling.{sound_now, sound_new}
use Rattle.watch_lists.proofs.Keeping.{kept_dropped}
use Rattle.watch_lists.proofs.Watches.delete.Goals as goal

pub returns-in_default-clause-sound : goal.returns-in_default-clause-sound
returns-in_default-clause-sound c = sound_now c.self.inside.store c.self.inside.table.rows.items c.self.inside.table.places.items c.self.inside.vars c.args.self.now c.self.invariant c.self.view_is

pub sides_of-sides-requires-clause-slot : goal.sides_of-sides-requires-clause-slot
sides_of-sides-requires-clause-slot c = id_at-slot c.self.inside.store c.args.id c.in-Some.slot (sym c.find.ensures.slot ∙ c.in-Some.is)

pub part-requires : goal.part-requires
part-requires c = (c.self.inside.store, c.in-Some.slot, record { kept = c.self.invariant.kept; slot = id_at-slot c.self.inside.store c.args.id c.in-Some.slot (sym c.find.ensures.slot ∙ c.in-Some.is); beside = record { slot = λ t d e. e; lits = λ t d e. refl }; is = c.sides_of-sides.ensures })

pub lower-requires-clause-reserved : goal.lower-requires-clause-reserved
lower-requires-clause-reserved c = λ l h.
    let active : slot_at c.self.inside.store c.args.id ≡ Some c.in-Some.slot = sym c.find.ensures.slot ∙ c.in-Some.is in
    subst (λ n. l < n) (sym c.part.ensures.long) (c.self.invariant.kept.reserved c.args.id l (sym (lits-literals c.self.inside.store c.args.id c.in-Some.slot l c.self.invariant.kept.stored active) ∙ subst (λ ls. has ls l ≡ true) (sym (c.lits.ensures c.args.id active)) h))

pub lower-requires-clause-once : goal.lower-requires-clause-once
lower-requires-clause-once c =
    let active : slot_at c.self.inside.store c.args.id ≡ Some c.in-Some.slot = sym c.find.ensures.slot ∙ c.in-Some.is in
    subst IsOnce (c.lits.ensures c.args.id active) (once-lits c.self.inside.store c.args.id c.in-Some.slot c.self.invariant.kept.stored active)

pub invariant_of-self : goal.invariant_of-self
invariant_of-self c =
    let active : slot_at c.self.inside.store c.args.id ≡ Some c.in-Some.slot = sym c.find.ensures.slot ∙ c.in-Some.is in
    let is : c.delete.new.self ≡ remove c.self.inside.store c.args.id = ok_from c.delete.result _ _ c.delete.ensures.ok c.delete.ensures.inactive (λ e h. both_ways _ h (ap is_some active)) in
    record {
      kept = kept_dropped c.self.inside.store c.delete.new.self c.part.new.self.rows.items c.lower.new.rows.items c.part.new.self.places.items c.args.id c.in-Some.slot c.lits.result.now (record {
        stored = c.self.invariant.kept.stored;
        slot = active;
        is = is;
        kept = c.part.ensures.kept c.self.inside.store c.in-Some.slot (record { kept = c.self.invariant.kept; slot = id_at-slot c.self.inside.store c.args.id c.in-Some.slot active; beside = record { slot = λ t d e. e; lits = λ t d e. refl }; is = c.sides_of-sides.ensures });
        lits = c.lits.ensures c.args.id active;
        lowered = c.lower.ensures;
      });
      vars_is = c.lower.ensures.long ∙ c.part.ensures.long ∙ c.self.invariant.vars_is;
    }

pub returns-clause-sound : goal.returns-clause-sound
returns-clause-sound c = sound_new c.delete.new.self c.lower.new.rows.items c.part.new.self.places.items c.self.inside.vars (invariant_of-self c)
