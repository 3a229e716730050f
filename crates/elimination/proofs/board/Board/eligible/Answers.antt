use Rattle.std.proofs.Common.{◌≡◌, false, ◌∙◌, sym, ap, subst, ◌<◌, ℕ}
use Rattle.propagation.specs.Engine.{literals}
use Rattle.elimination.specs.Boards.{BoardView, irredundant_clauses, eligible_on}
use Rattle.elimination.proofs.Boarding.{zero_stays, unreserved_stays}
use Rattle.elimination.proofs.board.Board.eligible.Goals as goal

pub returns-then-var-eq0 : goal.returns-then-var-eq0
returns-then-var-eq0 c = zero_stays (irredundant_clauses c.args.self.now) c.args.frozen.now (literals c.args.self.now.engine.trail) c.args.var c.if-var-eq0.true

pub returns-then-var-vars : goal.returns-then-var-vars
returns-then-var-vars c = subst (λ (b : BoardView). false ≡ eligible_on b c.args.frozen.now c.args.var) c.self.view_is
    (unreserved_stays (record { engine = c.self.inside.clauses.engine; irredundant = c.self.inside.clauses.irredundant; stack = c.self.inside.stack; inputs = c.self.inside.inputs; next_id = c.self.inside.clauses.next_id }) c.args.frozen.now c.args.var c.self.invariant.board.searched.engine (subst (λ (z : ℕ). z < c.args.var) c.vars.ensures.value c.if-var-vars.true))
