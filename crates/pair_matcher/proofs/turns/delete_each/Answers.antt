use Rattle.std.proofs.Common.{arith}
use Rattle.pair_matcher.proofs.Turning.{delete-start, delete-stop, delete-on, delete-end, within-kept}
use Rattle.pair_matcher.proofs.turns.delete_each.Goals as goal

pub loop-i-init : goal.loop-i-init
loop-i-init c = delete-start _ _

pub returns-in-Err-clause-turned : goal.returns-in-Err-clause-turned
returns-in-Err-clause-turned c = delete-stop _ _ _ _ c.loop-i.i c.loop-i.invariant c.loop-i-test.true c.in-Err.ensures.inactive

pub returns-in-Err-clause-within : goal.returns-in-Err-clause-within
returns-in-Err-clause-within c = λ vars w. within-kept _ _ _ vars c.loop-i.invariant.within c.in-Err.ensures.err.1 w

pub loop-i-preserved : goal.loop-i-preserved
loop-i-preserved c = delete-on _ _ _ _ c.loop-i.i c.loop-i.invariant c.loop-i-test.true c.in-Ok.ensures.ok c.in-Ok.ensures.active

pub returns-clause-turned : goal.returns-clause-turned
returns-clause-turned c = delete-end _ _ _ c.loop-i.i c.loop-i.invariant (omega (arith, c.loop-i-test.false))

pub returns-clause-within : goal.returns-clause-within
returns-clause-within c = c.loop-i.invariant.within
