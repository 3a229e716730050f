use Rattle.std.proofs.Common.{◌≡◌, ℕ, [], ◌∷◌, List, sym, ap, ◌∙◌, subst}
use Rattle.lits.specs.Clause.{is_tautology}
use Rattle.session_rules.specs.declared.Told.TheVariants as told
use Rattle.propagation.specs.Engine.{HasRoomFor}
use Rattle.elimination.specs.Steps.{standing, IsDue}
use Rattle.elimination.specs.Databases.{LeadTo}
use Rattle.elimination.proofs.Paired.{held_clean, held_wider, held_within, pair_passed, pair_told, new_pair, passed_pair, resolvent_due, resolvent_clean, resolvent_within}
use Rattle.elimination.proofs.resolving.add_resolvent.Goals as goal

pub is_new-requires-clause-clean : goal.is_new-requires-clause-clean
is_new-requires-clause-clean g c = held_clean c.args.clauses.now c.requires.sound c.args.first c.requires.first.irredundant c.args.bench.now.first.clause c.requires.held

pub is_new-requires-clause-wider : goal.is_new-requires-clause-wider
is_new-requires-clause-wider g c = held_wider c.args.clauses.now c.requires.sound c.args.first c.requires.first.irredundant c.args.bench.now.first.clause c.requires.held c.args.var c.requires.first.wider

pub is_new-requires-clause-within : goal.is_new-requires-clause-within
is_new-requires-clause-within g c = held_within c.args.clauses.now c.requires.sound c.args.first c.requires.first.irredundant c.args.bench.now.first.clause c.requires.held c.level.ensures.sound

pub returns-then-not-new-clause-each : goal.returns-then-not-new-clause-each
returns-then-not-new-clause-each g c = pair_passed g.L.Log.takes c.args.var c.args.first c.args.second c.args.log.now c.args.log.now c.args.clauses.now c.args.clauses.now c.requires.sound
    (passed_pair c.args.var c.args.first c.args.second c.args.clauses.now c.requires.sound c.requires.first c.args.bench.now.first.clause c.requires.held c.in-Ok.new c.is_new.new.bench.resolvent.items c.in-Ok.ensures.judged c.if-not-new.true)

pub tell_lemma-requires-clause-due : goal.tell_lemma-requires-clause-due
tell_lemma-requires-clause-due g c = subst (λ (z : List ℕ). IsDue (standing c.args.clauses.now.engine.clauses) (told.Lemma c.args.clauses.now.next_id z (c.args.first ∷ c.args.second ∷ []))) (sym c.deref.ensures.value)
    (resolvent_due c.args.var c.args.first c.args.second c.args.clauses.now c.requires.sound c.requires.first c.requires.second c.is_new.new.bench.resolvent.items (new_pair c.args.var c.args.first c.args.second c.args.clauses.now c.requires.sound c.requires.first c.args.bench.now.first.clause c.requires.held c.in-Ok.new c.is_new.new.bench.resolvent.items c.in-Ok.ensures.judged c.if-not-new.false))

pub tell_lemma-requires-clause-clean : goal.tell_lemma-requires-clause-clean
tell_lemma-requires-clause-clean g c = ap is_tautology c.deref.ensures.value ∙ resolvent_clean c.args.var c.args.first c.args.second c.args.clauses.now c.requires.sound c.requires.first c.requires.second c.is_new.new.bench.resolvent.items (new_pair c.args.var c.args.first c.args.second c.args.clauses.now c.requires.sound c.requires.first c.args.bench.now.first.clause c.requires.held c.in-Ok.new c.is_new.new.bench.resolvent.items c.in-Ok.ensures.judged c.if-not-new.false)

pub tell_lemma-requires-clause-reserved : goal.tell_lemma-requires-clause-reserved
tell_lemma-requires-clause-reserved g c = subst (λ (z : List ℕ). HasRoomFor c.args.clauses.now.engine z) (sym c.deref.ensures.value)
    (resolvent_within c.args.var c.args.first c.args.second c.args.clauses.now c.is_new.new.bench.resolvent.items c.level.ensures.sound (new_pair c.args.var c.args.first c.args.second c.args.clauses.now c.requires.sound c.requires.first c.args.bench.now.first.clause c.requires.held c.in-Ok.new c.is_new.new.bench.resolvent.items c.in-Ok.ensures.judged c.if-not-new.false))

pub returns-clause-each : goal.returns-clause-each
returns-clause-each g c = pair_told g.L.Log.takes c.args.var c.args.first c.args.second c.args.log.now c.tell_lemma.new.log c.args.clauses.now c.tell_lemma.new.self c.is_new.new.bench.resolvent.items c.requires.sound c.requires.first c.requires.second
    (new_pair c.args.var c.args.first c.args.second c.args.clauses.now c.requires.sound c.requires.first c.args.bench.now.first.clause c.requires.held c.in-Ok.new c.is_new.new.bench.resolvent.items c.in-Ok.ensures.judged c.if-not-new.false)
    (subst (λ (z : List ℕ). g.L.Log.takes c.args.log.now (told.Lemma c.args.clauses.now.next_id z (c.args.first ∷ c.args.second ∷ [])) c.tell_lemma.new.log) c.deref.ensures.value c.in_default-tell_lemma.ensures.taken)
    (subst (λ (z : List ℕ). LeadTo c.args.clauses.now (told.Lemma c.args.clauses.now.next_id z (c.args.first ∷ c.args.second ∷ []) ∷ []) c.tell_lemma.new.self) c.deref.ensures.value c.in_default-tell_lemma.ensures.leads)
    c.in_default-tell_lemma.ensures.sound c.in_default-tell_lemma.ensures.listed
