use Rattle.std.proofs.Common.{◌≡◌, ◌<◌, ◌^◌, ◌+◌, false, Contains, sym, ◌∙◌, subst, ℕ}
use Rattle.lits.specs.Literal.{var}
use Rattle.restore.specs.Stack.{has_entry}
use Rattle.propagation.specs.Engine.{HasRoomFor}
use Rattle.elimination.specs.Boards.{BoardView}
use Rattle.elimination.specs.Calls.{IsAdmitted}
use Rattle.elimination.proofs.Admitting.{when_ok, next_unlisted, left_inside, left_admitted}
use Rattle.elimination.proofs.board.Board.admit.Goals as goal

pub add_input-added-requires-clause-fresh : goal.add_input-added-requires-clause-fresh
add_input-added-requires-clause-fresh c = next_unlisted
    (record { engine = c.self.inside.clauses.engine; irredundant = c.self.inside.clauses.irredundant; stack = c.self.inside.stack; inputs = c.self.inside.inputs; next_id = c.self.inside.clauses.next_id })
    c.self.inside.clauses.occurrences c.self.invariant c.args.lits.now
    (subst (λ (b : BoardView). HasRoomFor b.engine c.args.lits.now) (sym c.self.view_is) c.requires.reserved)
    (subst (λ (b : BoardView). (l : ℕ) → Contains c.args.lits.now l → has_entry b.stack (var l) ≡ false) (sym c.self.view_is) c.requires.present)

pub invariant_of-self-2 : goal.invariant_of-self-2
invariant_of-self-2 c = left_inside
    (record { engine = c.self.inside.clauses.engine; irredundant = c.self.inside.clauses.irredundant; stack = c.self.inside.stack; inputs = c.self.inside.inputs; next_id = c.self.inside.clauses.next_id })
    c.self.inside.clauses.occurrences c.self.invariant c.args.lits.now
    (subst (λ (b : BoardView). HasRoomFor b.engine c.args.lits.now) (sym c.self.view_is) c.requires.reserved)
    (subst (λ (b : BoardView). (l : ℕ) → Contains c.args.lits.now l → has_entry b.stack (var l) ≡ false) (sym c.self.view_is) c.requires.present)
    c.add_input-added.new.engine c.add_input-added.new.irredundant c.add_input-added.new.occurrences c.add_input-added.new.inputs
    (when_ok c.add_input-added.result (sym c.is_err.ensures.value ∙ c.if-is_err.false) c.add_input-added.ensures)
    c.level.ensures.sound
    (subst (λ (b : BoardView). b.next_id < 2 ^ 63) (sym c.self.view_is) c.requires.limit)

pub returns-clause-admitted : goal.returns-clause-admitted
returns-clause-admitted c = subst (λ (b : BoardView). IsAdmitted b c.args.lits.now (record { engine = c.add_input-added.new.engine; irredundant = c.add_input-added.new.irredundant; stack = c.self.inside.stack; inputs = c.add_input-added.new.inputs; next_id = c.self.inside.clauses.next_id + 1 })) c.self.view_is (left_admitted
    (record { engine = c.self.inside.clauses.engine; irredundant = c.self.inside.clauses.irredundant; stack = c.self.inside.stack; inputs = c.self.inside.inputs; next_id = c.self.inside.clauses.next_id })
    c.self.inside.clauses.occurrences c.self.invariant c.args.lits.now
    (subst (λ (b : BoardView). HasRoomFor b.engine c.args.lits.now) (sym c.self.view_is) c.requires.reserved)
    (subst (λ (b : BoardView). (l : ℕ) → Contains c.args.lits.now l → has_entry b.stack (var l) ≡ false) (sym c.self.view_is) c.requires.present)
    c.add_input-added.new.engine c.add_input-added.new.irredundant c.add_input-added.new.occurrences c.add_input-added.new.inputs
    (when_ok c.add_input-added.result (sym c.is_err.ensures.value ∙ c.if-is_err.false) c.add_input-added.ensures))
