use Rattle.std.proofs.Common.{ap, ◌∙◌, sym, subst, None}
use Rattle.std.proofs.lemmas.Bool.{both_ways}
use Rattle.session_rules.specs.declared.Step.TheVariants as steps
use Rattle.side_laws.specs.ClauseStates.{kept_by}
use Rattle.pair_matcher.specs.Sides.{Judged, holding}
use Rattle.pair_matcher.specs.Inside.{kept_of_clause, clauses_of_engine}
use Rattle.pair_matcher.proofs.JudgingSets.{deletion_none, deletion_done}
use Rattle.pair_matcher.proofs.Engines.{found_active, has_slot}
use Rattle.pair_matcher.proofs.Converting.{deletion_found}
use Rattle.pair_matcher.proofs.idrup.judge_deletion.Goals as goal

pub returns-in_default-clause-judged : goal.returns-in_default-clause-judged
returns-in_default-clause-judged c = deletion_none c.store.result.now c.args.p.now.engine c.args.p.now.engine c.store.ensures.clauses _ _ _
    c.in_ok-set.set c.in_ok-set.ensures.set _ c.in_default.ensures.none

pub returns-in-Ok-clause-judged : goal.returns-in-Ok-clause-judged
returns-in-Ok-clause-judged c = subst (λ z. Judged (holding z c.args.p.now.next c.args.p.now.events) (holding (clauses_of_engine c.delete.new.self) c.args.p.now.next c.args.p.now.events) (steps.Delete c.args.lits.now) None)
    (ap (kept_by kept_of_clause) c.replace_reason.ensures.clauses)
    (deletion_done c.store.result.now c.replace_reason.new.self c.delete.new.self (c.store.ensures.clauses ∙ sym c.replace_reason.ensures.clauses) _ _ _ c.in_ok-set.set c.in_ok-set.ensures.set
    c.in-Some.id c.in-Some.ensures.found c.in-Some.ensures.least c.in-Ok.ensures.ok)

pub returns-clause-short : goal.returns-clause-short
returns-clause-short c = λ h. absurd (both_ways _ c.in-Err.ensures.inactive
    (has_slot c.replace_reason.new.self c.in-Some.id c.in_ok-set.set
    (found_active c.store.result.now c.replace_reason.new.self (c.store.ensures.clauses ∙ sym c.replace_reason.ensures.clauses) c.in_ok-set.set c.in-Some.id c.in-Some.ensures.found)))

pub returns-in-Ok-clause-found : goal.returns-in-Ok-clause-found
returns-in-Ok-clause-found c = deletion_found c.store.result.now c.args.p.now.engine c.store.ensures.clauses _ _ _ c.in_ok-set.set c.in_ok-set.ensures.set
    c.in-Some.id _ c.in-Some.ensures.found c.in-Some.ensures.least
