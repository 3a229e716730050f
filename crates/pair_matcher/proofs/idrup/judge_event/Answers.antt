use Rattle.session_rules.specs.declared.Step.TheVariants as steps
use Rattle.std.proofs.Common.{subst, sym, Some, Ok}
use Rattle.session_rules.specs.declared.Rule.TheVariants as rules
use Rattle.pair_matcher.specs.Sides.{JudgedThrough, holding}
use Rattle.pair_matcher.specs.Inside.{clauses_of_engine}
use Rattle.pair_matcher.proofs.Translating.{values_through, failed_through}
use Rattle.pair_matcher.proofs.Converting.{nothing_found}
use Rattle.pair_matcher.proofs.idrup.judge_event.Goals as goal

pub returns-in-Values-clause-judged : goal.returns-in-Values-clause-judged
returns-in-Values-clause-judged c = let holds = holding (clauses_of_engine c.args.p.now.engine) c.args.p.now.next c.args.p.now.events in
    subst (λ e. JudgedThrough c.args.numbers.now.vars c.args.numbers.now.vars holds holds (steps.Event e) (Some rules.Order)) (sym c.in-Values.is) (values_through c.args.numbers.now.vars holds _)

pub returns-in-Failed-clause-judged : goal.returns-in-Failed-clause-judged
returns-in-Failed-clause-judged c = let holds = holding (clauses_of_engine c.args.p.now.engine) c.args.p.now.next c.args.p.now.events in
    subst (λ e. JudgedThrough c.args.numbers.now.vars c.args.numbers.now.vars holds holds (steps.Event e) (Some rules.Order)) (sym c.in-Failed.is) (failed_through c.args.numbers.now.vars holds _)

pub returns-in-Input-clause-found : goal.returns-in-Input-clause-found
returns-in-Input-clause-found c = nothing_found c.take_input.result _ _ _ _ _ _ _ c.in-Input.is (λ ps. tt)

pub returns-in-Query-clause-found : goal.returns-in-Query-clause-found
returns-in-Query-clause-found c = nothing_found c.take_query.result _ _ _ _ _ _ _ c.in-Query.is (λ ps. tt)

pub returns-in-Status-clause-found : goal.returns-in-Status-clause-found
returns-in-Status-clause-found c = nothing_found (Ok c.take_status.result) _ _ _ _ _ _ _ c.in-Status.is (λ ps. tt)

pub returns-in-Model-clause-found : goal.returns-in-Model-clause-found
returns-in-Model-clause-found c = nothing_found c.take_model.result _ _ _ _ _ _ _ c.in-Model.is (λ ps. tt)
