use Rattle.pair_matcher.proofs.Headed.{passes, passes_broken}
use Rattle.pair_matcher.proofs.checking.pass_header.Goals as goal

pub returns-in-Ok-clause-told : goal.returns-in-Ok-clause-told
returns-in-Ok-clause-told g c = passes c.args.name.now c.args.window.now c.read_header.new.window _ _ c.requires.start c.in-Ok.ensures.told

pub returns-in-Err-Syntax-clause-told : goal.returns-in-Err-Syntax-clause-told
returns-in-Err-Syntax-clause-told g c = passes_broken c.args.name.now c.in-Err-Syntax.rule c.args.window.now c.read_header.new.window _ _ c.requires.start
    (rw c.in-Err-Syntax.field-0-is at c.in-Err-Syntax.ensures.told)
