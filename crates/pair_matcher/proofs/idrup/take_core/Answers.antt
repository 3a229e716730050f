use Rattle.std.proofs.Common.{◌∙◌, refl}
use Rattle.session_rules.specs.declared.Event.TheVariants as events
use Rattle.session_rules.specs.declared.Step.TheVariants as steps
use Rattle.pair_matcher.proofs.Translating.{found_through}
use Rattle.pair_matcher.proofs.Converting.{found_here}
use Rattle.pair_matcher.proofs.idrup.take_core.Goals as goal

pub returns-in-Ok-clause-judged : goal.returns-in-Ok-clause-judged
returns-in-Ok-clause-judged c = found_through c.args.numbers.now.vars c.find.new.self.vars c.lits.result.now c.args.u.now _ _ (λ z. steps.Event (events.Core z)) (steps.Event (events.Core c.args.u.now)) c.dense.result.now _ c.shown_answer.result _
    c.find.ensures.vars c.in-Ok-true.ensures.known c.in-Ok-true.field-0-test (c.lits.ensures ∙ c.in-Ok-true.ensures.lits c.in-Ok-true.field-0-test) (λ v. refl) refl
    c.in-Ok.ensures.judged c.shown_answer.ensures c.dense.ensures

pub returns-in-Ok-clause-found : goal.returns-in-Ok-clause-found
returns-in-Ok-clause-found c = found_here c.args.wanted c.args.numbers.now.vars c.find.new.self.vars c.lits.result.now c.args.u.now _ (λ z. steps.Event (events.Core z)) (steps.Event (events.Core c.args.u.now)) _ _ c.dense.result.now _ c.shown_answer.result _
    c.find.ensures.vars c.in-Ok-true.ensures.known c.in-Ok-true.field-0-test (c.lits.ensures ∙ c.in-Ok-true.ensures.lits c.in-Ok-true.field-0-test) (λ v. refl) (λ v. refl)
    c.in-Ok.ensures.found c.shown_answer.ensures
