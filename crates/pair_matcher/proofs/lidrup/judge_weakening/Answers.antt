use Rattle.pair_matcher.proofs.Judging.{weaken_stop, weaken_done}
use Rattle.pair_matcher.proofs.Insides.{inside-turned}
use Rattle.pair_matcher.proofs.lidrup.judge_weakening.Goals as goal

pub returns-in-Ok-Some-clause-judged : goal.returns-in-Ok-Some-clause-judged
returns-in-Ok-Some-clause-judged c = weaken_stop _ _ _ _ c.in-Ok-Some.field-0 c.in-Ok-Some.place c.in-Ok-Some.field-0-is c.in-Ok-Some.ensures.turned

pub returns-in-Ok-Some-clause-inside : goal.returns-in-Ok-Some-clause-inside
returns-in-Ok-Some-clause-inside c = inside-turned _ _ _ c.requires _ c.weaken_each.ensures.within

pub returns-in-Ok-None-clause-judged : goal.returns-in-Ok-None-clause-judged
returns-in-Ok-None-clause-judged c = weaken_done _ _ _ _ c.in-Ok-None.field-0 c.in-Ok-None.field-0-is c.in-Ok-None.ensures.turned

pub returns-in-Ok-None-clause-inside : goal.returns-in-Ok-None-clause-inside
returns-in-Ok-None-clause-inside c = inside-turned _ _ _ c.requires _ c.weaken_each.ensures.within

pub returns-in-Err-clause-inside : goal.returns-in-Err-clause-inside
returns-in-Err-clause-inside c = inside-turned _ _ _ c.requires _ c.weaken_each.ensures.within
