use Rattle.std.proofs.Common.{◌∙◌, true, false}
use Rattle.pair_matcher.proofs.JudgingSets.{lemma_open, lemma_done, tested, tested_then}
use Rattle.pair_matcher.proofs.Insides.{negations_between}
use Rattle.pair_matcher.proofs.Engines.{engine_added}
use Rattle.pair_matcher.proofs.Converting.{lemma_found}
use Rattle.pair_matcher.proofs.idrup.judge_lemma.Goals as goal

pub closes_as_wanted-requires-clause-reserved : goal.closes_as_wanted-requires-clause-reserved
closes_as_wanted-requires-clause-reserved c = negations_between c.args.p.now.engine c.args.p.now.events c.requires.inside c.args.lits.now c.as_slice-start.result.now
    (c.as_slice-start.ensures.value ∙ c.in_ok-negate.ensures) c.requires.reserved

pub returns-in-Ok-false-clause-judged : goal.returns-in-Ok-false-clause-judged
returns-in-Ok-false-clause-judged c = lemma_open _ _ _ _ _ _ _
    (tested c.args.p.now.engine c.as_slice-start.result.now _ c.in-Ok-false.field-0 false c.in-Ok-false.ensures.sound c.in-Ok-false.ensures.complete c.in-Ok-false.field-0-test (c.as_slice-start.ensures.value ∙ c.in_ok-negate.ensures))

pub returns-clause-judged : goal.returns-clause-judged
returns-clause-judged c = lemma_done _ _ _ c.args.p.now.events c.args.p.now.events _
    (tested c.args.p.now.engine c.as_slice-start.result.now _ c.in-Ok-true.field-0 true c.in-Ok-true.ensures.sound c.in-Ok-true.ensures.complete c.in-Ok-true.field-0-test (c.as_slice-start.ensures.value ∙ c.in_ok-negate.ensures))
    (tested_then c.args.p.now.engine c.closes_as_wanted.new.engine c.add.new.self c.args.p.now.next _ c.closes_as_wanted.ensures.frame
    (engine_added c.closes_as_wanted.new.engine c.add.new.self c.args.p.now.next c.args.lits.now c.in-Ok.field-0 c.in-Ok.ensures.ok))

pub returns-clause-found : goal.returns-clause-found
returns-clause-found c = lemma_found c.args.p.now.engine _ _ c.args.wanted c.args.lits.now _ c.closes_as_wanted.new.hints c.as_slice-start.result.now (c.as_slice-start.ensures.value ∙ c.in_ok-negate.ensures)
    (λ w. c.in-Ok-true.ensures.hints c.in-Ok-true.field-0-test w)
