use Rattle.std.proofs.Common.{refl, sym, ap, ◌∙◌, true}
use Rattle.session_rules.specs.declared.Step.TheVariants as steps
use Rattle.pair_matcher.specs.Inside.{state_of}
use Rattle.pair_matcher.proofs.Converting.{found_arm}
use Rattle.pair_matcher.proofs.idrup.judge.Goals as goal

pub returns-in-Delete-clause-found : goal.returns-in-Delete-clause-found
returns-in-Delete-clause-found c = found_arm c.take_deletion.result c.args.wanted true c.args.numbers.now.vars (state_of c.args.p.now) c.args.step.now (steps.Delete c.as_slice-in-Delete.result.now) c.take_deletion.new.p.named c.take_deletion.new.p.hints
    (c.in-Delete.is ∙ ap steps.Delete (sym c.as_slice-in-Delete.ensures)) (λ w. refl) c.take_deletion.ensures.found

pub returns-in-Weaken-clause-found : goal.returns-in-Weaken-clause-found
returns-in-Weaken-clause-found c = found_arm c.take_weakening.result c.args.wanted true c.args.numbers.now.vars (state_of c.args.p.now) c.args.step.now (steps.Weaken c.as_slice-in-Weaken.result.now) c.take_weakening.new.p.named c.take_weakening.new.p.hints
    (c.in-Weaken.is ∙ ap steps.Weaken (sym c.as_slice-in-Weaken.ensures)) (λ w. refl) c.take_weakening.ensures.found

pub returns-in-Restore-clause-found : goal.returns-in-Restore-clause-found
returns-in-Restore-clause-found c = found_arm c.take_restoring.result c.args.wanted true c.args.numbers.now.vars (state_of c.args.p.now) c.args.step.now (steps.Restore c.as_slice-in-Restore.result.now) c.take_restoring.new.p.named c.take_restoring.new.p.hints
    (c.in-Restore.is ∙ ap steps.Restore (sym c.as_slice-in-Restore.ensures)) (λ w. refl) c.take_restoring.ensures.found
