use Rattle.std.proofs.Common.{ap, sym, subst, ◌∙◌}
use Rattle.session_rules.specs.declared.Side.TheVariants.{Proof}
use Rattle.session_rules.specs.declared.Verdict.TheVariants.{Refused}
use Rattle.pair_matcher.specs.Checks.{AtEvent}
use Rattle.pair_matcher.proofs.TwoStreams.{both_map}
use Rattle.pair_matcher.proofs.FirstFaults.{answers, own_broken, own_kept, no_event}
use Rattle.pair_matcher.proofs.checking.take_step.Goals as goal

pub returns-in-Ok-Some-clause-told : goal.returns-in-Ok-Some-clause-told
returns-in-Ok-Some-clause-told g c = λ a b tb h. both_map a _ b tb _ _ h
    (λ x tx y ty k. answers g.P.ProofSide.form _ _ c.args.c.now.at.queries c.args.c.now.at.interaction c.args.c.now.at.proof x tx y ty (c.refused.ensures ∙ ap (λ n. Refused Proof n c.in-Ok-Some.rule) c.line.ensures.line)
    (own_broken g.P.ProofSide.form (g.P.ProofSide.stands c.args.c.now.side) c.args.c.now.at.queries x y c.args.c.now.at.interaction c.args.c.now.at.proof tx ty c.args.step c.in-Ok-Some.rule k (λ ps s. sym c.in-Ok-Some.field-0-is ∙ c.in-Ok-Some.ensures.rule ps s)))

pub returns-in-Ok-clause-told : goal.returns-in-Ok-clause-told
returns-in-Ok-clause-told g c = λ a b tb h. c.in-Ok.ensures.told a b tb (both_map a _ b tb _ _ h
    (λ x tx y ty k. subst (λ o. AtEvent g.P.ProofSide.form (g.P.ProofSide.stands c.take_step.new.self) c.args.c.now.at o x tx y ty) (sym c.into_event.ensures ∙ c.in-Some.is)
    (own_kept g.P.ProofSide.form (g.P.ProofSide.stands c.args.c.now.side) c.args.c.now.at.queries x y (g.P.ProofSide.stands c.take_step.new.self) c.args.c.now.at.interaction c.args.c.now.at.proof tx ty c.args.step k (λ ps s. sym c.in-Ok-None.field-0-is ∙ c.in-Ok-None.ensures.rule ps s) (rw c.in-Ok-None.field-0-is at c.in-Ok-None.ensures.stands))))

pub returns-in-None-clause-told : goal.returns-in-None-clause-told
returns-in-None-clause-told g c = λ a b tb h. both_map a _ b tb _ _ h
    (λ x tx y ty k. no_event g.P.ProofSide.form (g.P.ProofSide.stands c.take_step.new.self) c.args.c.now.at.queries x y c.args.c.now.at.interaction c.args.c.now.at.proof tx ty
    (subst (λ o. AtEvent g.P.ProofSide.form (g.P.ProofSide.stands c.take_step.new.self) c.args.c.now.at o x tx y ty) (sym c.into_event.ensures ∙ c.in-None.is)
    (own_kept g.P.ProofSide.form (g.P.ProofSide.stands c.args.c.now.side) c.args.c.now.at.queries x y (g.P.ProofSide.stands c.take_step.new.self) c.args.c.now.at.interaction c.args.c.now.at.proof tx ty c.args.step k (λ ps s. sym c.in-Ok-None.field-0-is ∙ c.in-Ok-None.ensures.rule ps s) (rw c.in-Ok-None.field-0-is at c.in-Ok-None.ensures.stands))))
