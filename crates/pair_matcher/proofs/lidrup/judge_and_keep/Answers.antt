use Rattle.std.proofs.Common.{◌≡◌, true, sym, subst}
use Rattle.lits.specs.Numbering.{are_known}
use Rattle.pair_matcher.proofs.Translating.{known-more}
use Rattle.pair_matcher.proofs.TranslatingIds.{known_of_none, asked-known}
use Rattle.pair_matcher.proofs.lidrup.judge_and_keep.Goals as goal

pub returns-in-Ok-Some-clause-known : goal.returns-in-Ok-Some-clause-known
returns-in-Ok-Some-clause-known c = known-more c.args.numbers.now.vars c.judge.new.numbers.vars c.args.asked.now.items c.judge.ensures.continues c.requires.known

pub returns-in-Err-clause-known : goal.returns-in-Err-clause-known
returns-in-Err-clause-known c = known-more c.args.numbers.now.vars c.judge.new.numbers.vars c.args.asked.now.items c.judge.ensures.continues c.requires.known

pub returns-in-Ok-clause-known : goal.returns-in-Ok-clause-known
returns-in-Ok-clause-known c = subst (λ z. are_known c.judge.new.numbers.vars z ≡ true) (sym c.in-Ok.ensures.ok)
    (asked-known c.args.numbers.now.vars c.judge.new.numbers.vars c.args.asked.now.items c.args.step.now c.judge.ensures.continues c.requires.known (known_of_none c.args.numbers.now.vars c.judge.new.numbers.vars _ _ c.args.step.now c.in-Ok-None.field-0 c.in-Ok-None.ensures.judged c.in-Ok-None.field-0-is))

pub returns-in-Err-keep_asked-clause-known : goal.returns-in-Err-keep_asked-clause-known
returns-in-Err-keep_asked-clause-known c = subst (λ z. are_known c.judge.new.numbers.vars z ≡ true) (sym c.in-Err-keep_asked.ensures.err)
    (known-more c.args.numbers.now.vars c.judge.new.numbers.vars c.args.asked.now.items c.judge.ensures.continues c.requires.known)
