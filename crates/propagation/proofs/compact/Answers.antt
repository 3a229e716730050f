use Rattle.propagation.proofs.HowFar.{pending_kept_short}
use Rattle.propagation.proofs.compact.Goals as goal

pub returns-then-len-limit-clause-kept : goal.returns-then-len-limit-clause-kept
returns-then-len-limit-clause-kept c = pending_kept_short c.args.watches.now.clauses c.args.ids.now.items c.keep_short.new.ids.items c.recall_invariant.ensures.store c.keep_short.ensures.short
