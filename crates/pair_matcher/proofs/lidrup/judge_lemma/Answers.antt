use Rattle.std.proofs.Common.{ap, ◌∙◌, refl, sym, subst}
use Rattle.session_rules.specs.Logic.{hints_fail}
use Rattle.hint_check.specs.Hints.{active_at, end_of}
use Rattle.pair_matcher.specs.Inside.{HasHintRoom}
use Rattle.pair_matcher.proofs.Judging.{lemma_taken, lemma_hint, lemma_done, taken_by_fault}
use Rattle.pair_matcher.proofs.Insides.{inside-added, negations_within, store_within}
use Rattle.pair_matcher.proofs.lidrup.judge_lemma.Goals as goal

pub run-end-requires-clause-start : goal.run-end-requires-clause-start
run-end-requires-clause-start c = negations_within _ _ _ c.requires.inside _ _ (c.as_slice.ensures.value ∙ c.in_ok-negate.ensures) c.requires.reserved

pub run-end-requires-clause-store : goal.run-end-requires-clause-store
run-end-requires-clause-store c = store_within _ _ _ c.requires.inside

pub returns-in-Err-IdTaken-clause-judged : goal.returns-in-Err-IdTaken-clause-judged
returns-in-Err-IdTaken-clause-judged c = lemma_taken _ _ _ _ _ _ _
    (taken_by_fault _ c.in-Err-IdTaken.field-0 c.in-Err-IdTaken.field-0-is c.in-Err-IdTaken.ensures.memory)

pub returns-in-Closed-clause-judged : goal.returns-in-Closed-clause-judged
returns-in-Closed-clause-judged c = lemma_done _ _ _ _ _ _ _ c.in-Ok.ensures.free c.run-end.result
    (c.run-end.ensures.end ∙ ap (λ z. end_of (hints_fail (active_at c.args.p.now.store) z c.args.hints.now)) (c.as_slice.ensures.value ∙ c.in_ok-negate.ensures))
    c.in-Closed.is c.in-Ok.field-0 c.in-Ok.ensures.ok refl

pub returns-in-Closed-clause-inside : goal.returns-in-Closed-clause-inside
returns-in-Closed-clause-inside c = subst (λ z. HasHintRoom c.add.new.self c.args.p.now.events z) (sym c.run-end.ensures.reserved) (inside-added _ _ _ c.requires.inside _ _ _ c.in-Ok.field-0 _ c.requires.reserved c.in-Ok.ensures.ok refl)

pub returns-in-Fails-clause-judged : goal.returns-in-Fails-clause-judged
returns-in-Fails-clause-judged c = lemma_hint _ _ _ _ _ _ _ c.in-Ok.ensures.free c.run-end.result
    (c.run-end.ensures.end ∙ ap (λ z. end_of (hints_fail (active_at c.args.p.now.store) z c.args.hints.now)) (c.as_slice.ensures.value ∙ c.in_ok-negate.ensures))
    c.in-Fails.position c.in-Fails.is

pub returns-in-Fails-clause-inside : goal.returns-in-Fails-clause-inside
returns-in-Fails-clause-inside c = subst (λ z. HasHintRoom c.add.new.self c.args.p.now.events z) (sym c.run-end.ensures.reserved) (inside-added _ _ _ c.requires.inside _ _ _ c.in-Ok.field-0 _ c.requires.reserved c.in-Ok.ensures.ok refl)
