use Rattle.std.proofs.Common.{arith}
use Rattle.pair_matcher.proofs.Turning.{weaken-start, weaken-stop, weaken-on, weaken-end, within-kept, not_by_memory, not_memory_active}
use Rattle.pair_matcher.proofs.turns.weaken_each.Goals as goal

pub loop-i-init : goal.loop-i-init
loop-i-init c = weaken-start _ _

pub returns-in-Err-NotActive-clause-turned : goal.returns-in-Err-NotActive-clause-turned
returns-in-Err-NotActive-clause-turned c = weaken-stop _ _ _ _ c.loop-i.i c.loop-i.invariant c.loop-i-test.true
    (not_by_memory _ c.in-Err-NotActive.field-0 _ c.in-Err-NotActive.field-0-is not_memory_active c.in-Err-NotActive.ensures.memory)

pub returns-in-Err-NotActive-clause-within : goal.returns-in-Err-NotActive-clause-within
returns-in-Err-NotActive-clause-within c = λ vars w. within-kept _ _ _ vars c.loop-i.invariant.within c.in-Err-NotActive.ensures.err w

pub returns-in-Err-clause-within : goal.returns-in-Err-clause-within
returns-in-Err-clause-within c = λ vars w. within-kept _ _ _ vars c.loop-i.invariant.within c.in-Err.ensures.err w

pub loop-i-preserved : goal.loop-i-preserved
loop-i-preserved c = weaken-on _ _ _ _ c.loop-i.i c.loop-i.invariant c.loop-i-test.true c.in-Ok.ensures.ok c.in-Ok.ensures.active

pub returns-clause-turned : goal.returns-clause-turned
returns-clause-turned c = weaken-end _ _ _ c.loop-i.i c.loop-i.invariant (omega (arith, c.loop-i-test.false))

pub returns-clause-within : goal.returns-clause-within
returns-clause-within c = c.loop-i.invariant.within
