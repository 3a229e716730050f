use Rattle.std.proofs.Common.{◌+◌, ap, ◌∙◌}
use Rattle.session_rules.specs.declared.Side.TheVariants.{Interaction, Proof}
use Rattle.session_rules.specs.declared.Verdict.TheVariants.{Refused}
use Rattle.session_rules.specs.declared.Rule.TheVariants as rules
use Rattle.pair_matcher.proofs.TwoStreams.{first_moves}
use Rattle.pair_matcher.proofs.FirstFaults.{answers, partners_agree, partner_missing, partner_differs, partner_broken}
use Rattle.pair_matcher.proofs.checking.take_event.Goals as goal

pub returns-in-Ok-Agrees-clause-told : goal.returns-in-Ok-Agrees-clause-told
returns-in-Ok-Agrees-clause-told g c = λ a b tb h. first_moves a _ _ b tb _ _ _ h (rw c.in-Ok-Agrees.field-0-is at c.in-Ok-Agrees.ensures.line.told)
    (λ x tx ux y ty k m. partners_agree g.P.ProofSide.form (g.P.ProofSide.stands c.args.c.now.side) c.args.c.now.at.queries x y c.assumptions.result.now c.args.c.now.at.interaction c.match_line.new.window c.args.c.now.at.proof tx ux ty c.args.event.now _ k
    (λ ps s. c.assumptions.ensures.value ∙ c.assumptions.ensures.last ps s) m (ap (λ n. c.args.c.now.at.queries + n) c.query_count.ensures))

pub returns-in-Ok-Ended-clause-told : goal.returns-in-Ok-Ended-clause-told
returns-in-Ok-Ended-clause-told g c = λ a b tb h. first_moves a _ _ b tb _ _ _ h (rw c.in-Ok-Ended.field-0-is at c.in-Ok-Ended.ensures.line.told)
    (λ x tx ux y ty k m. answers g.P.ProofSide.form _ _ c.args.c.now.at.queries c.match_line.new.window c.args.c.now.at.proof x ux y ty (c.refused.ensures ∙ ap (λ n. Refused Proof n rules.Ended) c.line.ensures.line)
    (partner_missing g.P.ProofSide.form (g.P.ProofSide.stands c.args.c.now.side) c.args.c.now.at.queries x y c.args.c.now.at.interaction c.match_line.new.window c.args.c.now.at.proof tx ux ty c.args.event.now k m))

pub returns-in-Ok-Differs-clause-told : goal.returns-in-Ok-Differs-clause-told
returns-in-Ok-Differs-clause-told g c = λ a b tb h. first_moves a _ _ b tb _ _ _ h (rw c.in-Ok-Differs.field-0-is at c.in-Ok-Differs.ensures.line.told)
    (λ x tx ux y ty k m. answers g.P.ProofSide.form _ _ c.args.c.now.at.queries c.match_line.new.window c.args.c.now.at.proof x ux y ty
    (c.refused-in-Ok-Differs.ensures ∙ ap (λ n. Refused Interaction n c.in-Ok-Differs.rule) c.line-in-Ok-Differs.ensures.line)
    (partner_differs g.P.ProofSide.form (g.P.ProofSide.stands c.args.c.now.side) c.args.c.now.at.queries x y c.assumptions.result.now c.args.c.now.at.interaction c.match_line.new.window c.args.c.now.at.proof tx ux ty c.args.event.now c.in-Ok-Differs.rule k
    (λ ps s. c.assumptions.ensures.value ∙ c.assumptions.ensures.last ps s) m))

pub returns-in-Err-Syntax-clause-told : goal.returns-in-Err-Syntax-clause-told
returns-in-Err-Syntax-clause-told g c = λ a b tb h. first_moves a _ _ b tb _ _ _ h (rw c.in-Err-Syntax.field-0-is at c.in-Err-Syntax.ensures.line.told)
    (λ x tx ux y ty k m. answers g.P.ProofSide.form _ _ c.args.c.now.at.queries c.match_line.new.window c.args.c.now.at.proof x ux y ty
    (c.refused-in-Err-Syntax.ensures ∙ ap (λ n. Refused Interaction n c.in-Err-Syntax.rule) c.line-in-Err-Syntax.ensures.line)
    (partner_broken g.P.ProofSide.form (g.P.ProofSide.stands c.args.c.now.side) c.args.c.now.at.queries x y c.assumptions.result.now c.args.c.now.at.interaction c.match_line.new.window c.args.c.now.at.proof tx ux ty c.args.event.now c.in-Err-Syntax.rule k
    (λ ps s. c.assumptions.ensures.value ∙ c.assumptions.ensures.last ps s) m))
