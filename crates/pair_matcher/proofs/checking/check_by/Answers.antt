use Rattle.std.proofs.Common.{ap, ◌∙◌}
use Rattle.std.specs.Prelude.{codes}
use Rattle.session_rules.specs.declared.Side.TheVariants.{Interaction}
use Rattle.session_rules.specs.declared.Verdict.TheVariants.{Refused}
use Rattle.pair_matcher.proofs.TwoStreams.{is_told}
use Rattle.pair_matcher.proofs.Taken.{interaction_broken}
use Rattle.pair_matcher.proofs.FirstFaults.{interaction_header}
use Rattle.pair_matcher.proofs.checking.check_by.Goals as goal

pub returns-in-Ok-Some-clause-verdict : goal.returns-in-Ok-Some-clause-verdict
returns-in-Ok-Some-clause-verdict g c = λ a b both.
    let k = is_told _ _ _ (rw c.in-Ok-Some.field-0-is at c.in-Ok-Some.ensures.told) a both.interaction in
    c.refused.ensures ∙ ap (λ n. Refused Interaction n c.in-Ok-Some.rule) c.line.ensures.line ∙ interaction_header g.P.ProofSide.form a b c.pass_header.new.window.line c.in-Ok-Some.rule k.1.0

pub returns-in-Ok-Some-clause-taken : goal.returns-in-Ok-Some-clause-taken
returns-in-Ok-Some-clause-taken g c = λ a b both.
    interaction_broken (codes "icnf") c.in-Ok-Some.rule c.pass_header.new.window (g.A.Source.left c.args.interaction.now) (g.A.Source.left c.pass_header.new.src) (g.B.Source.left c.args.proof.now) a b c.refused.result
    (c.refused.ensures ∙ ap (λ n. Refused Interaction n c.in-Ok-Some.rule) c.line.ensures.line) (rw c.in-Ok-Some.field-0-is at c.in-Ok-Some.ensures.told) both.interaction
    c.recall_bounds.ensures.moves.bounded c.recall_bounds.ensures.held
