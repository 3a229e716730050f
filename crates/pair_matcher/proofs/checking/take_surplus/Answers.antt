use Rattle.std.proofs.Common.{ap, ◌∙◌}
use Rattle.session_rules.specs.declared.Side.TheVariants.{Interaction}
use Rattle.session_rules.specs.declared.Verdict.TheVariants.{Refused}
use Rattle.session_rules.specs.declared.Rule.TheVariants as rules
use Rattle.pair_matcher.proofs.TwoStreams.{first_moves}
use Rattle.pair_matcher.proofs.FirstFaults.{answers, line_left, none_left, cut_left}
use Rattle.pair_matcher.proofs.checking.take_surplus.Goals as goal

pub returns-in-Ok-true-clause-told : goal.returns-in-Ok-true-clause-told
returns-in-Ok-true-clause-told g c = λ a b tb h. first_moves a _ _ b tb _ _ _ h (rw (c.in-Ok-true.is, c.in-Ok-true.field-0-test) at c.next_line.ensures.told)
    (λ x tx ux y ty k m. answers g.P.ProofSide.form _ _ c.args.c.now.at.queries c.next_line.new.self c.args.c.now.at.proof x ux y ty (c.refused.ensures ∙ ap (λ n. Refused Interaction n rules.Surplus) c.line.ensures.line)
    (line_left g.P.ProofSide.form (g.P.ProofSide.stands c.args.c.now.side) c.args.c.now.at.queries x y c.args.c.now.at.interaction c.next_line.new.self c.args.c.now.at.proof tx ux ty k m))

pub returns-in-Ok-false-clause-told : goal.returns-in-Ok-false-clause-told
returns-in-Ok-false-clause-told g c = λ a b tb h. first_moves a _ _ b tb _ _ _ h (rw (c.in-Ok-false.is, c.in-Ok-false.field-0-test) at c.next_line.ensures.told)
    (λ x tx ux y ty k m. none_left g.P.ProofSide.form (g.P.ProofSide.stands c.args.c.now.side) c.args.c.now.at.queries x y c.args.c.now.at.interaction c.next_line.new.self c.args.c.now.at.proof tx ux ty k m)

pub returns-in-Err-Length-clause-told : goal.returns-in-Err-Length-clause-told
returns-in-Err-Length-clause-told g c = λ a b tb h. first_moves a _ _ b tb _ _ _ h (rw c.in-Err-Length.field-0-is at c.in-Err-Length.ensures.told)
    (λ x tx ux y ty k m. answers g.P.ProofSide.form _ _ c.args.c.now.at.queries c.next_line.new.self c.args.c.now.at.proof x ux y ty
    (c.refused-in-Err-Length.ensures ∙ ap (λ n. Refused Interaction n rules.Length) c.line-in-Err-Length.ensures.line)
    (cut_left g.P.ProofSide.form (g.P.ProofSide.stands c.args.c.now.side) c.args.c.now.at.queries x y c.args.c.now.at.interaction c.next_line.new.self c.args.c.now.at.proof tx ux ty k m))

pub returns-in-Err-LongWord-clause-told : goal.returns-in-Err-LongWord-clause-told
returns-in-Err-LongWord-clause-told g c = λ a b tb h. first_moves a _ _ b tb _ _ _ h (rw c.in-Err-LongWord.field-0-is at c.in-Err-LongWord.ensures.told)
    (λ x tx ux y ty k m. absurd m)
