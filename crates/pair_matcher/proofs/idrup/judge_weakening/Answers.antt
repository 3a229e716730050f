use Rattle.std.proofs.Common.{ap, ◌∙◌, sym, subst, None}
use Rattle.session_rules.specs.declared.Step.TheVariants as steps
use Rattle.side_laws.specs.ClauseStates.{kept_by}
use Rattle.pair_matcher.specs.Sides.{Judged, holding}
use Rattle.pair_matcher.specs.Inside.{kept_of_clause, clauses_of_engine}
use Rattle.pair_matcher.proofs.JudgingSets.{weakening_none, weakening_done}
use Rattle.pair_matcher.proofs.Converting.{weakening_found}
use Rattle.pair_matcher.proofs.idrup.judge_weakening.Goals as goal

pub returns-in_default-clause-judged : goal.returns-in_default-clause-judged
returns-in_default-clause-judged c = weakening_none c.store.result.now c.args.p.now.engine c.args.p.now.engine c.store.ensures.clauses _ _ _
    c.in_ok-set.set c.in_ok-set.ensures.set _ c.in_default.ensures.none

pub returns-in-Ok-clause-judged : goal.returns-in-Ok-clause-judged
returns-in-Ok-clause-judged c = subst (λ z. Judged (holding z c.args.p.now.next c.args.p.now.events) (holding (clauses_of_engine c.weaken.new.self) c.args.p.now.next c.args.p.now.events) (steps.Weaken c.args.lits.now) None)
    (ap (kept_by kept_of_clause) c.replace_reason.ensures.clauses)
    (weakening_done c.store.result.now c.replace_reason.new.self c.weaken.new.self (c.store.ensures.clauses ∙ sym c.replace_reason.ensures.clauses) _ _ _ c.in_ok-set.set c.in_ok-set.ensures.set
    c.in-Some.id c.in-Some.ensures.found c.in-Some.ensures.least c.in-Ok.ensures.ok)

pub returns-in-Ok-clause-found : goal.returns-in-Ok-clause-found
returns-in-Ok-clause-found c = weakening_found c.store.result.now c.args.p.now.engine c.store.ensures.clauses _ _ _ c.in_ok-set.set c.in_ok-set.ensures.set
    c.in-Some.id _ c.in-Some.ensures.found c.in-Some.ensures.least
