use Rattle.std.proofs.Common.{◌≡◌, Some, ap, ◌∙◌, subst}
use Rattle.session_rules.specs.Reading.{header_fault}
use Rattle.session_rules.specs.declared.Side.TheVariants.{Proof}
use Rattle.session_rules.specs.declared.Verdict.TheVariants.{Refused}
use Rattle.pair_matcher.specs.Checks.{IsBehindHeader}
use Rattle.pair_matcher.proofs.TwoStreams.{is_told, both_told}
use Rattle.pair_matcher.proofs.Taken.{proof_broken, known_taken, known_verdict}
use Rattle.pair_matcher.proofs.FirstFaults.{proof_header, begins}
use Rattle.pair_matcher.proofs.checking.check_behind.Goals as goal

pub returns-in-Ok-Some-clause-verdict : goal.returns-in-Ok-Some-clause-verdict
returns-in-Ok-Some-clause-verdict g c = λ a b o t both.
    let k = is_told _ _ _ t a both.interaction in
    let l = is_told _ _ _ (rw c.in-Ok-Some.field-0-is at c.in-Ok-Some.ensures.told) b both.proof in
    c.refused.ensures ∙ ap (λ n. Refused Proof n c.in-Ok-Some.rule) c.line.ensures.line
    ∙ proof_header g.P.ProofSide.form a b c.pass_header.new.window.line c.in-Ok-Some.rule k.1.kept
    (subst (λ n. header_fault n b ≡ Some (c.pass_header.new.window.line, c.in-Ok-Some.rule)) c.requires.name l.1.0)

pub returns-in-Ok-Some-clause-taken : goal.returns-in-Ok-Some-clause-taken
returns-in-Ok-Some-clause-taken g c = λ a b o t both.
    proof_broken c.args.name.now c.in-Ok-Some.rule c.pass_header.new.window (g.B.Source.left c.args.proof.now) (g.A.Source.left c.args.interaction.now) (g.B.Source.left c.pass_header.new.src) a b c.refused.result
    (c.refused.ensures ∙ ap (λ n. Refused Proof n c.in-Ok-Some.rule) c.line.ensures.line) (rw c.in-Ok-Some.field-0-is at c.in-Ok-Some.ensures.told) both.proof
    c.recall_bounds.ensures.moves.bounded c.recall_bounds.ensures.held

pub returns-in-Ok-take_lines-clause-verdict : goal.returns-in-Ok-take_lines-clause-verdict
returns-in-Ok-take_lines-clause-verdict g c = λ a b o t both. known_verdict g.P.ProofSide.form c.in-Ok-take_lines.verdict c.take_lines.new.c.at _ _ _ _ a b
    (c.in-Ok-take_lines.ensures.told _ _ (both_told _ _ _ _ _ _ _ t (rw c.in-Ok-None.field-0-is at c.in-Ok-None.ensures.told)
    (λ x tx y ty p q. begins g.P.ProofSide.form (g.P.ProofSide.stands c.in-Ok-start.side) 0 x y c.args.interaction_window c.pass_header.new.window tx ty p
    (subst (λ n. IsBehindHeader n y c.pass_header.new.window ty) c.requires.name q) c.in-Ok-start.ensures.stands))) both.interaction both.proof

pub returns-in-Ok-take_lines-clause-taken : goal.returns-in-Ok-take_lines-clause-taken
returns-in-Ok-take_lines-clause-taken g c = λ a b o t both. known_taken g.P.ProofSide.form c.in-Ok-take_lines.verdict c.take_lines.new.c.at
    o (g.B.Source.left c.args.proof.now) (g.A.Source.left c.take_lines.new.interaction) (g.B.Source.left c.take_lines.new.proof) a b
    (c.in-Ok-take_lines.ensures.told _ _ (both_told _ _ _ _ _ _ _ t (rw c.in-Ok-None.field-0-is at c.in-Ok-None.ensures.told)
    (λ x tx y ty p q. begins g.P.ProofSide.form (g.P.ProofSide.stands c.in-Ok-start.side) 0 x y c.args.interaction_window c.pass_header.new.window tx ty p
    (subst (λ n. IsBehindHeader n y c.pass_header.new.window ty) c.requires.name q) c.in-Ok-start.ensures.stands))) both.interaction both.proof
    c.recall_bounds-in-Ok-take_lines.ensures.moves.bounded c.recall_bounds-in-Ok-take_lines.ensures.held
    c.recall_bounds-in-Ok-take_lines-2.ensures.moves.bounded c.recall_bounds-in-Ok-take_lines-2.ensures.held
