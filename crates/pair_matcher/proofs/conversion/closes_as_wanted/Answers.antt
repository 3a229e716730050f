use Rattle.pair_matcher.proofs.Converting.{hinted}
use Rattle.pair_matcher.proofs.conversion.closes_as_wanted.Goals as goal

pub returns-then-wanted-clause-sound : goal.returns-then-wanted-clause-sound
returns-then-wanted-clause-sound c = hinted c.args.engine.now.clauses c.args.start.now _ c.closes_with.result c.closes_with.ensures.closed
