use Rattle.std.proofs.Common.{ap, ◌∙◌}
use Rattle.session_rules.specs.declared.Side.TheVariants.{Proof}
use Rattle.session_rules.specs.declared.Verdict.TheVariants.{Refused}
use Rattle.pair_matcher.proofs.TwoStreams.{second_moves}
use Rattle.pair_matcher.proofs.Taken.{proof_stays}
use Rattle.pair_matcher.proofs.FirstFaults.{answers, step_read, proof_ended, line_broken}
use Rattle.pair_matcher.proofs.checking.turn.Goals as goal

pub returns-in-Ok-clause-told : goal.returns-in-Ok-clause-told
returns-in-Ok-clause-told g c = λ a b h. c.in-Ok.ensures.told a b _ (rw c.take_step.ensures.place (second_moves a _ b _ _ _ _ _ h (rw c.in-Ok-Some.field-0-is at c.in-Ok-Some.ensures.told)
    (λ x tx y ty uy k m. step_read g.P.ProofSide.form (g.P.ProofSide.stands c.args.c.now.side) c.args.c.now.at.queries x y c.args.c.now.at.interaction c.args.c.now.at.proof c.read_step.new.window tx ty uy c.in-Ok-Some.step k m)))

pub returns-in-Ok-take_end-clause-told : goal.returns-in-Ok-take_end-clause-told
returns-in-Ok-take_end-clause-told g c = λ a b h. proof_stays g.P.ProofSide.form c.in-Ok-take_end.verdict c.take_end.new.c.at c.read_step.new.window a _ b (g.B.Source.left c.read_step.new.src) c.take_end.ensures.place
    (c.in-Ok-take_end.ensures.told a b _ (second_moves a _ b _ _ _ _ _ h (rw c.in-Ok-None.field-0-is at c.in-Ok-None.ensures.told)
    (λ x tx y ty uy k m. proof_ended g.P.ProofSide.form (g.P.ProofSide.stands c.args.c.now.side) c.args.c.now.at.queries x y c.args.c.now.at.interaction c.args.c.now.at.proof c.read_step.new.window tx ty uy k m)))

pub returns-in-Err-Syntax-clause-told : goal.returns-in-Err-Syntax-clause-told
returns-in-Err-Syntax-clause-told g c = λ a b h. second_moves a _ b _ _ _ _ _ h (rw c.in-Err-Syntax.field-0-is at c.in-Err-Syntax.ensures.told)
    (λ x tx y ty uy k m. answers g.P.ProofSide.form _ _ c.args.c.now.at.queries c.args.c.now.at.interaction c.read_step.new.window x tx y uy (c.refused.ensures ∙ ap (λ n. Refused Proof n c.in-Err-Syntax.rule) c.line.ensures.line)
    (line_broken g.P.ProofSide.form (g.P.ProofSide.stands c.args.c.now.side) c.args.c.now.at.queries x y c.args.c.now.at.interaction c.args.c.now.at.proof c.read_step.new.window tx ty uy c.in-Err-Syntax.rule k m))
