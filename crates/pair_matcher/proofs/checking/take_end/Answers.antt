use Rattle.std.proofs.Common.{ap, sym, ◌∙◌}
use Rattle.session_rules.specs.declared.Side.TheVariants.{Proof}
use Rattle.session_rules.specs.declared.Verdict.TheVariants.{Refused}
use Rattle.pair_matcher.proofs.TwoStreams.{both_map}
use Rattle.pair_matcher.proofs.FirstFaults.{answers, query_open, query_closed}
use Rattle.pair_matcher.proofs.checking.take_end.Goals as goal

pub returns-in-Some-clause-told : goal.returns-in-Some-clause-told
returns-in-Some-clause-told g c = λ a b tb h. both_map a _ b tb _ _ h
    (λ x tx y ty k. answers g.P.ProofSide.form _ _ c.args.c.now.at.queries c.args.c.now.at.interaction c.args.c.now.at.proof x tx y ty (c.refused.ensures ∙ ap (λ n. Refused Proof n c.in-Some.rule) c.line.ensures.line)
    (query_open g.P.ProofSide.form (g.P.ProofSide.stands c.args.c.now.side) c.args.c.now.at.queries x y c.args.c.now.at.interaction c.args.c.now.at.proof tx ty c.in-Some.rule k (λ ps s. sym c.in-Some.is ∙ c.end_rule.ensures ps s)))

pub returns-in-Ok-clause-told : goal.returns-in-Ok-clause-told
returns-in-Ok-clause-told g c = λ a b tb h. c.in-Ok.ensures.told a b tb (both_map a _ b tb _ _ h
    (λ x tx y ty k. query_closed g.P.ProofSide.form (g.P.ProofSide.stands c.args.c.now.side) c.args.c.now.at.queries x y c.args.c.now.at.interaction c.args.c.now.at.proof tx ty k (λ ps s. sym c.in-None.is ∙ c.end_rule.ensures ps s)))
