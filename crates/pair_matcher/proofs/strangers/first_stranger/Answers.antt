use Rattle.std.proofs.Common.{◌∙◌}
use Rattle.std.proofs.lemmas.List.{get_or_default}
use Rattle.pair_matcher.proofs.Translating.{place_of_strange, stranger_before, stranger_itself}
use Rattle.pair_matcher.proofs.strangers.first_stranger.Goals as goal

pub bounds-u-known : goal.bounds-u-known
bounds-u-known c = place_of_strange c.args.numbers.now.vars c.args.u.now c.lits-known.result.now (c.lits-known.ensures ∙ c.requires.front) c.requires.strange

pub returns-in-Some-clause-rule : goal.returns-in-Some-clause-rule
returns-in-Some-clause-rule c = λ given known is. stranger_before c.args.numbers.now.vars c.args.u.now c.lits-known.result.now (c.lits-known.ensures ∙ c.requires.front) c.requires.strange given c.args.events.now.assumed known is
    c.core_rule.result c.core_rule.ensures.rule c.in-Some.rule c.shown_rule.result c.dense.result.now c.in-Some.is c.shown_rule.ensures c.dense.ensures

pub returns-in-None-clause-rule : goal.returns-in-None-clause-rule
returns-in-None-clause-rule c = λ given known is. stranger_itself c.args.numbers.now.vars c.args.u.now c.lits-known.result.now (c.lits-known.ensures ∙ c.requires.front) c.requires.strange given c.args.events.now.assumed known is
    c.core_rule.result c.core_rule.ensures.rule c.in-None.is _
    (c.index-u-known.is ∙ get_or_default _ _ c.index-u-known.result 0 (place_of_strange c.args.numbers.now.vars c.args.u.now c.lits-known.result.now (c.lits-known.ensures ∙ c.requires.front) c.requires.strange))
