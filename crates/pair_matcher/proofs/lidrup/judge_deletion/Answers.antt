use Rattle.pair_matcher.proofs.Judging.{delete_stop, delete_done}
use Rattle.pair_matcher.proofs.Insides.{inside-turned}
use Rattle.pair_matcher.proofs.lidrup.judge_deletion.Goals as goal

pub returns-in-Some-clause-judged : goal.returns-in-Some-clause-judged
returns-in-Some-clause-judged c = delete_stop _ _ _ _ c.in-Some.place c.in-Some.ensures.turned

pub returns-in-Some-clause-inside : goal.returns-in-Some-clause-inside
returns-in-Some-clause-inside c = inside-turned _ _ _ c.requires _ c.delete_each.ensures.within

pub returns-in-None-clause-judged : goal.returns-in-None-clause-judged
returns-in-None-clause-judged c = delete_done _ _ _ _ c.in-None.ensures.turned

pub returns-in-None-clause-inside : goal.returns-in-None-clause-inside
returns-in-None-clause-inside c = inside-turned _ _ _ c.requires _ c.delete_each.ensures.within
