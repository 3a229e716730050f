use Rattle.icnf_lines.proofs.Pairing.{literals_meet, literals_broken}
use Rattle.icnf_lines.proofs.matching.literals_rule.Goals as goal

pub returns-in-Ok-clause-rule : goal.returns-in-Ok-clause-rule
returns-in-Ok-clause-rule g c = rw c.rule_of.ensures (literals_meet c.args.letter c.args.event.now c.args.assumed.now c.in-Ok.met _ _ c.requires.letter (rw (c.lits.ensures, c.assumed_in.ensures) at c.in-Ok.ensures.met))

pub returns-in-Err-clause-rule : goal.returns-in-Err-clause-rule
returns-in-Err-clause-rule g c = literals_broken c.args.letter c.in-Err.fault _ _ c.requires.letter c.in-Err.ensures.met
