use Rattle.std.proofs.Common.{◌≡◌, Some, sym, ◌∙◌, subst}
use Rattle.std.proofs.lemmas.Option.{none-some}
use Rattle.clause_store.specs.Clauses.{slot_at, literals_at}
use Rattle.watch_lists.specs.Watched.{IsWatched}
use Rattle.watch_lists.specs.Lists.{seen}
use Rattle.watch_lists.proofs.Sounding.{kept_sound}
use Rattle.watch_lists.proofs.Placed.{id_at-slot}
use Rattle.watch_lists.proofs.Putting.{slot-put}
use Rattle.watch_lists.proofs.Calling.{sound_new}
use Rattle.watch_lists.proofs.Keeping.{kept_back}
use Rattle.watch_lists.proofs.Watches.restore.Goals as goal

pub returns-in-Err-clause-sound : goal.returns-in-Err-clause-sound
returns-in-Err-clause-sound c = subst (λ z. IsWatched (seen z c.self.inside.table.rows.items)) (sym c.in-Err.ensures.err) (sound_new c.self.inside.store c.self.inside.table.rows.items c.self.inside.table.places.items c.self.inside.vars c.self.invariant)

pub enter-requires-clause-kept : goal.enter-requires-clause-kept
enter-requires-clause-kept c =
    let slot : slot_at c.restore.new.self c.args.id ≡ Some c.in-Some.slot = sym c.find.ensures.slot ∙ c.in-Some.is in
    kept_back c.self.inside.store c.restore.new.self c.self.inside.table.rows.items c.self.inside.table.places.items c.args.id c.in-Some.slot c.self.invariant.kept c.in_default.ensures.ok c.in_default.ensures.weakened slot

pub enter-requires-clause-slot : goal.enter-requires-clause-slot
enter-requires-clause-slot c = id_at-slot c.restore.new.self c.args.id c.in-Some.slot (sym c.find.ensures.slot ∙ c.in-Some.is)

pub invariant_of-self-in_default-find : goal.invariant_of-self-in_default-find
invariant_of-self-in_default-find c = absurd (none-some c.in_default.ensures.ok.slot (sym c.in_default-find.is ∙ c.find.ensures.slot ∙ slot-put c.self.inside.store c.restore.new.self c.args.id c.in_default.ensures.ok.slot (literals_at c.self.inside.store c.args.id) c.in_default.ensures.ok.lits c.in_default.ensures.ok.changed))

pub returns-in-Some-clause-sound : goal.returns-in-Some-clause-sound
returns-in-Some-clause-sound c = kept_sound c.restore.new.self c.enter.new.self.rows.items c.enter.new.self.places.items c.enter.ensures.kept

pub returns-in_default-find-clause-sound : goal.returns-in_default-find-clause-sound
returns-in_default-find-clause-sound c = absurd (none-some c.in_default.ensures.ok.slot (sym c.in_default-find.is ∙ c.find.ensures.slot ∙ slot-put c.self.inside.store c.restore.new.self c.args.id c.in_default.ensures.ok.slot (literals_at c.self.inside.store c.args.id) c.in_default.ensures.ok.lits c.in_default.ensures.ok.changed))
