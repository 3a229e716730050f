use Rattle.std.proofs.Common.{◌≡◌, ◌+◌, ◌<◌, ◌≤◌, ◌^◌, ℕ, Some, sym, ap, ◌∙◌, subst, arith}
use Rattle.std.specs.Prelude.{slice_index}
use Rattle.session_rules.specs.declared.Told.TheVariants as told
use Rattle.propagation.specs.Engine.{EngineView, IsEngine, with_entry, with_added}
use Rattle.elimination.specs.declared.fault.BoardFault.TheVariants as faults
use Rattle.elimination.specs.Boards.{BoardView}
use Rattle.elimination.specs.Databases.{BreaksOff}
use Rattle.elimination.specs.Steps.{standing}
use Rattle.elimination.specs.Searching.{IsSearchedInside, IsLearnable, with_engine}
use Rattle.elimination.proofs.Admitting.{some_ok}
use Rattle.elimination.proofs.Leading.{told_at, refused_at}
use Rattle.elimination.proofs.Told.{told_some}
use Rattle.elimination.proofs.Searched.{lemma_due, learned_inside, when_err}
use Rattle.elimination.proofs.searching.Searching.learn.Goals as goal

pub returns-in-Err-clause-broken : goal.returns-in-Err-clause-broken
returns-in-Err-clause-broken g c = let v = subst (λ (b : BoardView). IsLearnable b c.args.lits.now c.args.hints.now) (sym c.self.view_is) c.requires.learnable in
    subst (λ (b : BoardView). BreaksOff g.L.Log.takes g.L.Log.refuses (standing b.engine.clauses) c.args.log.now (faults.Log c.in-Err.fault) c.lemma.new.self) c.self.view_is
    (refused_at g.L.Log.takes g.L.Log.refuses (standing c.self.inside.engine.clauses) c.args.log.now c.lemma.new.self (told.Lemma c.self.inside.next_id c.args.lits.now c.args.hints.now) c.in-Err.fault
    (lemma_due (record { engine = c.self.inside.engine; irredundant = c.self.inside.irredundant; stack = c.self.inside.stack; inputs = c.self.inside.inputs; next_id = c.self.inside.next_id }) c.self.inside.occurrences c.self.invariant c.args.lits.now c.args.hints.now v) c.in-Err.ensures.err)

pub invariant_of-self : goal.invariant_of-self
invariant_of-self g c = subst (λ (e : EngineView). IsSearchedInside (with_engine (record { engine = c.self.inside.engine; irredundant = c.self.inside.irredundant; stack = c.self.inside.stack; inputs = c.self.inside.inputs; next_id = c.self.inside.next_id }) e) c.self.inside.occurrences)
    (sym (when_err c.add_asserting.result (sym c.is_err.ensures.value ∙ c.if-is_err.true) c.add_asserting.ensures.err)) c.self.invariant

pub returns-then-is_err-clause-broken : goal.returns-then-is_err-clause-broken
returns-then-is_err-clause-broken g c = let v = subst (λ (b : BoardView). IsLearnable b c.args.lits.now c.args.hints.now) (sym c.self.view_is) c.requires.learnable in
    subst (λ (b : BoardView). BreaksOff g.L.Log.takes g.L.Log.refuses (standing b.engine.clauses) c.args.log.now faults.Memory c.lemma.new.self) c.self.view_is
    (told_at g.L.Log.takes g.L.Log.refuses (standing c.self.inside.engine.clauses) c.args.log.now c.lemma.new.self (told.Lemma c.self.inside.next_id c.args.lits.now c.args.hints.now)
    (lemma_due (record { engine = c.self.inside.engine; irredundant = c.self.inside.irredundant; stack = c.self.inside.stack; inputs = c.self.inside.inputs; next_id = c.self.inside.next_id }) c.self.inside.occurrences c.self.invariant c.args.lits.now c.args.hints.now v) c.in_default.ensures.ok)

pub invariant_of-self-2 : goal.invariant_of-self-2
invariant_of-self-2 g c =
    let v = subst (λ (b : BoardView). IsLearnable b c.args.lits.now c.args.hints.now) (sym c.self.view_is) c.requires.learnable in
    let a = some_ok (λ s. c.add_asserting.new.self ≡ with_entry (with_added c.self.inside.engine c.self.inside.next_id c.args.lits.now s) (slice_index c.args.lits.now 0) (Some s)) c.add_asserting.result (sym c.is_err.ensures.value ∙ c.if-is_err.false) c.add_asserting.ensures.ok in
    let t = g.met.L.Log.taken_room c.args.log.now (told.Lemma c.self.inside.next_id c.args.lits.now c.args.hints.now) c.lemma.new.self c.in_default.ensures.ok in
    let p = told_some (g.L.Log.form c.args.log.now) (g.L.Log.names c.args.log.now) (told.Lemma c.self.inside.next_id c.args.lits.now c.args.hints.now) in
    let q = ap (λ (b : BoardView). b.next_id) c.self.view_is in
    let r = c.requires.room in
    subst (λ (e : EngineView). IsSearchedInside (record { engine = e; irredundant = c.self.inside.irredundant; stack = c.self.inside.stack; inputs = c.self.inside.inputs; next_id = c.self.inside.next_id + 1 }) c.self.inside.occurrences) (sym a.1)
    (learned_inside (record { engine = c.self.inside.engine; irredundant = c.self.inside.irredundant; stack = c.self.inside.stack; inputs = c.self.inside.inputs; next_id = c.self.inside.next_id }) c.self.inside.occurrences c.self.invariant c.args.lits.now c.args.hints.now v a.0 (subst (λ z. IsEngine z) a.1 c.level.ensures.sound) (omega (arith, t, p, q, r)))

pub returns-clause-room : goal.returns-clause-room
returns-clause-room g c =
    let t = g.met.L.Log.taken_room c.args.log.now (told.Lemma c.self.inside.next_id c.args.lits.now c.args.hints.now) c.lemma.new.self c.in_default.ensures.ok in
    let p = told_some (g.L.Log.form c.args.log.now) (g.L.Log.names c.args.log.now) (told.Lemma c.self.inside.next_id c.args.lits.now c.args.hints.now) in
    let q = ap (λ (b : BoardView). b.next_id) c.self.view_is in
    let r = c.requires.room in omega (arith, t, p, q, r)
