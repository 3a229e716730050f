use Rattle.std.proofs.Common.{◌≡◌, ◌+◌, ◌≤◌, ◌<◌, ◌^◌, ℕ, sym, ◌∙◌, arith}
use Rattle.lits.specs.Clause.{set_of}
use Rattle.session_rules.specs.declared.Told.TheVariants as told
use Rattle.propagation.specs.Engine.{EngineView, with_added}
use Rattle.elimination.specs.Steps.{standing}
use Rattle.elimination.proofs.Admitting.{when_ok, some_ok, active_added}
use Rattle.elimination.proofs.Leading.{told_at}
use Rattle.elimination.proofs.Stepping.{next_free, lemma_sound, lemma_leads}
use Rattle.elimination.proofs.Told.{told_some}
use Rattle.elimination.proofs.database.Database.tell_lemma.Goals as goal

pub returns-then-is_err-clause-broken : goal.returns-then-is_err-clause-broken
returns-then-is_err-clause-broken g c = told_at g.L.Log.takes g.L.Log.refuses (standing c.args.self.now.engine.clauses) c.args.log.now c.lemma.new.self (told.Lemma c.args.self.now.next_id c.args.lits.now c.args.hints.now) c.requires.due c.in_default.ensures.ok

pub list_clause-listed-requires-clause-limit : goal.list_clause-listed-requires-clause-limit
list_clause-listed-requires-clause-limit g c =
    let t = g.met.L.Log.taken_room c.args.log.now (told.Lemma c.args.self.now.next_id c.args.lits.now c.args.hints.now) c.lemma.new.self c.in_default.ensures.ok in
    let p = told_some (g.L.Log.form c.args.log.now) (g.L.Log.names c.args.log.now) (told.Lemma c.args.self.now.next_id c.args.lits.now c.args.hints.now) in
    let r = c.requires.room in omega (arith, t, p, r)

pub list_clause-listed-requires-clause-fresh : goal.list_clause-listed-requires-clause-fresh
list_clause-listed-requires-clause-fresh g c = next_free c.args.self.now c.requires.sound

pub list_clause-listed-requires-clause-active : goal.list_clause-listed-requires-clause-active
list_clause-listed-requires-clause-active g c =
    let a = some_ok (λ s. c.add.new.self ≡ with_added c.args.self.now.engine c.args.self.now.next_id c.args.lits.now s) c.add.result (sym c.is_err.ensures.value ∙ c.if-is_err.false) c.add.ensures.ok in
    (set_of c.args.lits.now, active_added c.args.self.now.engine c.add.new.self c.args.self.now.next_id a.0 c.args.lits.now a.1)

pub returns-then-is_err-2-clause-broken : goal.returns-then-is_err-2-clause-broken
returns-then-is_err-2-clause-broken g c = told_at g.L.Log.takes g.L.Log.refuses (standing c.args.self.now.engine.clauses) c.args.log.now c.lemma.new.self (told.Lemma c.args.self.now.next_id c.args.lits.now c.args.hints.now) c.requires.due c.in_default.ensures.ok

pub returns-clause-leads : goal.returns-clause-leads
returns-clause-leads g c =
    let a = some_ok (λ s. c.add.new.self ≡ with_added c.args.self.now.engine c.args.self.now.next_id c.args.lits.now s) c.add.result (sym c.is_err.ensures.value ∙ c.if-is_err.false) c.add.ensures.ok in
    lemma_leads c.args.self.now c.requires.sound c.args.lits.now c.args.hints.now c.requires.due c.requires.clean c.requires.reserved c.add.new.self a.0 a.1
    c.list_clause-listed.new.irredundant c.list_clause-listed.new.occurrences
    (when_ok c.list_clause-listed.result (sym c.is_err-2.ensures.value ∙ c.if-is_err-2.false) c.list_clause-listed.ensures.inserted)
    (when_ok c.list_clause-listed.result (sym c.is_err-2.ensures.value ∙ c.if-is_err-2.false) c.list_clause-listed.ensures.added)

pub returns-clause-sound : goal.returns-clause-sound
returns-clause-sound g c =
    let a = some_ok (λ s. c.add.new.self ≡ with_added c.args.self.now.engine c.args.self.now.next_id c.args.lits.now s) c.add.result (sym c.is_err.ensures.value ∙ c.if-is_err.false) c.add.ensures.ok in
    let t = g.met.L.Log.taken_room c.args.log.now (told.Lemma c.args.self.now.next_id c.args.lits.now c.args.hints.now) c.lemma.new.self c.in_default.ensures.ok in
    let p = told_some (g.L.Log.form c.args.log.now) (g.L.Log.names c.args.log.now) (told.Lemma c.args.self.now.next_id c.args.lits.now c.args.hints.now) in
    let r = c.requires.room in
    lemma_sound c.args.self.now c.requires.sound c.args.lits.now c.args.hints.now c.requires.due c.requires.clean c.requires.reserved c.add.new.self a.0 a.1
    c.list_clause-listed.new.irredundant c.list_clause-listed.new.occurrences
    (when_ok c.list_clause-listed.result (sym c.is_err-2.ensures.value ∙ c.if-is_err-2.false) c.list_clause-listed.ensures.inserted)
    (when_ok c.list_clause-listed.result (sym c.is_err-2.ensures.value ∙ c.if-is_err-2.false) c.list_clause-listed.ensures.added) (omega (arith, t, p, r))

pub returns-clause-room : goal.returns-clause-room
returns-clause-room g c =
    let t = g.met.L.Log.taken_room c.args.log.now (told.Lemma c.args.self.now.next_id c.args.lits.now c.args.hints.now) c.lemma.new.self c.in_default.ensures.ok in
    let p = told_some (g.L.Log.form c.args.log.now) (g.L.Log.names c.args.log.now) (told.Lemma c.args.self.now.next_id c.args.lits.now c.args.hints.now) in
    let r = c.requires.room in omega (arith, t, p, r)

pub returns-clause-listed : goal.returns-clause-listed
returns-clause-listed g c = when_ok c.list_clause-listed.result (sym c.is_err-2.ensures.value ∙ c.if-is_err-2.false) c.list_clause-listed.ensures.inserted
