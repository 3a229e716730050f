use Rattle.std.proofs.Common.{All, subst, sym}
use Rattle.restore.specs.declared.lists.Elim.{Elim}
use Rattle.restore.specs.Stack.{IsCovered, Extends}
use Rattle.restore.specs.Values.{value}
use Rattle.elimination.specs.Boards.{BoardView, IsBoard}
use Rattle.elimination.proofs.Modelling.{stack_covered, model_satisfies, model_inputs, model_outside}
use Rattle.elimination.proofs.board.Board.model.Goals as goal

pub extend-requires : goal.extend-requires
extend-requires c = subst (λ (b : BoardView). All (IsCovered c.args.values.now) b.stack) (sym c.self.view_is)
    (stack_covered c.args.self.now (subst (λ (b : BoardView). IsBoard b) c.self.view_is c.self.invariant.board) c.args.values.now c.requires.room)

pub returns-clause-satisfied : goal.returns-clause-satisfied
returns-clause-satisfied c = model_satisfies c.args.self.now (subst (λ (b : BoardView). IsBoard b) c.self.view_is c.self.invariant.board) (value c.args.values.now) (value c.extend.new.values)
    (subst (λ (b : BoardView). Extends b.stack (value c.args.values.now) (value c.extend.new.values)) c.self.view_is c.extend.ensures.extended) c.requires.satisfied

pub returns-clause-inputs : goal.returns-clause-inputs
returns-clause-inputs c = let h = subst (λ (b : BoardView). IsBoard b) c.self.view_is c.self.invariant.board in
    model_inputs c.args.self.now h (value c.extend.new.values) (model_satisfies c.args.self.now h (value c.args.values.now) (value c.extend.new.values)
    (subst (λ (b : BoardView). Extends b.stack (value c.args.values.now) (value c.extend.new.values)) c.self.view_is c.extend.ensures.extended) c.requires.satisfied)

pub returns-clause-outside : goal.returns-clause-outside
returns-clause-outside c = model_outside c.args.self.now (subst (λ (b : BoardView). IsBoard b) c.self.view_is c.self.invariant.board) (value c.args.values.now) (value c.extend.new.values)
    (subst (λ (b : BoardView). Extends b.stack (value c.args.values.now) (value c.extend.new.values)) c.self.view_is c.extend.ensures.extended)
