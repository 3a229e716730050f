use Rattle.std.proofs.Common.{◌≡◌, List, sym, ◌∙◌, subst}
use Rattle.session_rules.specs.declared.Told.{Told}
use Rattle.elimination.specs.Boards.{BoardView}
use Rattle.elimination.specs.Steps.{TakesEach}
use Rattle.elimination.specs.Databases.{board_of}
use Rattle.elimination.specs.Calls.{IsTouched}
use Rattle.elimination.proofs.Returning.{copies_in, touched_inside, touched}
use Rattle.elimination.proofs.board.Board.touch.Goals as goal

pub bring_back-requires-clause-copies : goal.bring_back-requires-clause-copies
bring_back-requires-clause-copies g c = copies_in c.self.inside.clauses c.self.inside.stack c.self.inside.inputs c.self.invariant

pub invariant_of-self-2 : goal.invariant_of-self-2
invariant_of-self-2 g c = touched_inside c.self.inside.clauses c.self.inside.stack c.self.inside.inputs c.self.invariant g.L.Log.takes c.args.log.now c.bring_back.new.log c.args.lits.now c.bring_back.new.clauses
    c.in_default.ensures.restored c.bring_back.new.stack c.in_default.ensures.left c.level.ensures.sound

pub returns-clause-touched : goal.returns-clause-touched
returns-clause-touched g c = subst (λ (b : BoardView). (ts : List Told) × TakesEach g.L.Log.takes c.args.log.now ts c.bring_back.new.log × IsTouched b c.args.lits.now ts (board_of c.bring_back.new.clauses c.bring_back.new.stack c.self.inside.inputs)) c.self.view_is
    (touched c.self.inside.clauses c.self.inside.stack c.self.inside.inputs c.self.invariant g.L.Log.takes c.args.log.now c.bring_back.new.log c.args.lits.now c.bring_back.new.clauses
    c.in_default.ensures.restored c.bring_back.new.stack c.in_default.ensures.left)
