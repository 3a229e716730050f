use Rattle.pair_matcher.proofs.Translating.{on-ok, numbered-known}
use Rattle.pair_matcher.proofs.idrup.number.Goals as goal

pub returns-clause-known : goal.returns-clause-known
returns-clause-known c = on-ok c.reserve.result (numbered-known c.args.numbers.now.vars c.number.new.self.vars c.args.lits.now c.in_ok-number.ensures.vars)
