use Rattle.std.proofs.Common.{◌∙◌, ap, refl, true}
use Rattle.session_rules.specs.declared.Step.TheVariants as steps
use Rattle.session_rules.specs.declared.Rule.TheVariants as rules
use Rattle.numbering_laws.proofs.Faults.{unknown-restore}
use Rattle.pair_matcher.specs.Sides.{first_rule}
use Rattle.std.proofs.Common.{sym}
use Rattle.pair_matcher.proofs.Translating.{found_through, refused_through}
use Rattle.pair_matcher.proofs.Converting.{found_here}
use Rattle.pair_matcher.proofs.idrup.take_restoring.Goals as goal

pub returns-in-Ok-false-clause-judged : goal.returns-in-Ok-false-clause-judged
returns-in-Ok-false-clause-judged c = refused_through c.args.numbers.now.vars c.find.new.self.vars _ _ (steps.Restore c.args.lits.now) (rules.NotWeakened 1)
    (λ ps h. ap first_rule (unknown-restore c.args.numbers.now.vars ps c.args.lits.now h.known (sym c.in-Ok-false.ensures.known ∙ c.in-Ok-false.field-0-test)))

pub returns-in-Ok-clause-judged : goal.returns-in-Ok-clause-judged
returns-in-Ok-clause-judged c = found_through c.args.numbers.now.vars c.find.new.self.vars c.lits.result.now c.args.lits.now _ _ steps.Restore (steps.Restore c.args.lits.now) c.dense.result.now _ c.shown_answer.result _
    c.find.ensures.vars c.in-Ok-true.ensures.known c.in-Ok-true.field-0-test (c.lits.ensures ∙ c.in-Ok-true.ensures.lits c.in-Ok-true.field-0-test) (λ v. refl) refl
    c.in-Ok.ensures.judged c.shown_answer.ensures c.dense.ensures

pub returns-in-Ok-clause-found : goal.returns-in-Ok-clause-found
returns-in-Ok-clause-found c = found_here true c.args.numbers.now.vars c.find.new.self.vars c.lits.result.now c.args.lits.now _ steps.Restore (steps.Restore c.args.lits.now) _ _ c.dense.result.now _ c.shown_answer.result _
    c.find.ensures.vars c.in-Ok-true.ensures.known c.in-Ok-true.field-0-test (c.lits.ensures ∙ c.in-Ok-true.ensures.lits c.in-Ok-true.field-0-test) (λ v. refl) (λ v. refl)
    c.in-Ok.ensures.found c.shown_answer.ensures
