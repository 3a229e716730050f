use Rattle.std.proofs.Common.{List, subst, ◌≡◌, ◌++◌, ◌∷◌, []}
use Rattle.std.specs.Prelude.{IfNone}
use Rattle.session_rules.specs.declared.Step.{Step}
use Rattle.session_rules.specs.Own.{own_faults}
use Rattle.pair_matcher.specs.Sides.{StandsFor, ChangesNamedAlone, first_rule}
use Rattle.pair_matcher.specs.Conversion.{Becomes, IfLine, rule_broken}
use Rattle.pair_matcher.specs.Inside.{clauses_of_engine}
use Rattle.pair_matcher.proofs.Converting.{seen_as, of_none, line_rule, line_stands, line_named, line_becomes}
use Rattle.pair_matcher.proofs.idrup.IdrupSide.step_with.Goals as goal

pub returns-clause-rule : goal.returns-clause-rule
returns-clause-rule c = subst (λ v. (ps : List Step) → StandsFor v ps → rule_broken c.in_ok-converted.converted ≡ first_rule (own_faults ps c.args.step.now)) c.self.view_is
    (line_rule _ _ _ c.args.step.now c.in-Ok-None.field-0 _ _ _ _ c.in-Ok-None.ensures.judged c.in-Ok-None.field-0-is c.in_ok-converted.ensures)

pub returns-clause-stands : goal.returns-clause-stands
returns-clause-stands c = subst (λ v. IfNone (rule_broken c.in_ok-converted.converted) ((ps : List Step) → StandsFor v ps → StandsFor (seen_as c.match-matches.self (clauses_of_engine c.judge_and_keep.new.p.engine) c.judge_and_keep.new.p.next c.judge_and_keep.new.p.events c.judge_and_keep.new.numbers.vars c.judge_and_keep.new.asked.items) (ps ++ c.args.step.now ∷ []))) c.self.view_is
    (line_stands _ (seen_as c.match-matches.self (clauses_of_engine c.judge_and_keep.new.p.engine) c.judge_and_keep.new.p.next c.judge_and_keep.new.p.events c.judge_and_keep.new.numbers.vars c.judge_and_keep.new.asked.items) c.args.step.now c.in-Ok-None.field-0 _ c.in-Ok-None.ensures.judged c.in-Ok-None.field-0-is c.in-Ok-None.ensures.asked)

pub returns-clause-line : goal.returns-clause-line
returns-clause-line c = subst (λ v. IfLine c.in_ok-converted.converted (Becomes v c.args.step.now)) c.self.view_is
    (line_becomes _ _ _ c.args.step.now _ (of_none c.in-Ok-None.field-0 c.in-Ok-None.field-0-is c.in-Ok-None.ensures.found) c.in_ok-converted.ensures)

pub returns-clause-named : goal.returns-clause-named
returns-clause-named c = subst (λ v. IfNone (rule_broken c.in_ok-converted.converted) (ChangesNamedAlone v (seen_as c.match-matches.self (clauses_of_engine c.judge_and_keep.new.p.engine) c.judge_and_keep.new.p.next c.judge_and_keep.new.p.events c.judge_and_keep.new.numbers.vars c.judge_and_keep.new.asked.items) c.args.step.now)) c.self.view_is
    (line_named _ (seen_as c.match-matches.self (clauses_of_engine c.judge_and_keep.new.p.engine) c.judge_and_keep.new.p.next c.judge_and_keep.new.p.events c.judge_and_keep.new.numbers.vars c.judge_and_keep.new.asked.items) c.args.step.now c.in-Ok-None.field-0 _ c.in-Ok-None.ensures.judged c.in-Ok-None.field-0-is)
