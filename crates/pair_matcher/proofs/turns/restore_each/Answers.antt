use Rattle.std.proofs.Common.{arith}
use Rattle.pair_matcher.proofs.Turning.{restore-start, restore-stop, restore-on, restore-end, within-kept, not_by_memory, not_memory_weakened}
use Rattle.pair_matcher.proofs.turns.restore_each.Goals as goal

pub loop-i-init : goal.loop-i-init
loop-i-init c = restore-start _ _

pub returns-in-Err-NotWeakened-clause-turned : goal.returns-in-Err-NotWeakened-clause-turned
returns-in-Err-NotWeakened-clause-turned c = restore-stop _ _ _ _ c.loop-i.i c.loop-i.invariant c.loop-i-test.true
    (not_by_memory _ c.in-Err-NotWeakened.field-0 _ c.in-Err-NotWeakened.field-0-is not_memory_weakened c.in-Err-NotWeakened.ensures.memory)

pub returns-in-Err-NotWeakened-clause-within : goal.returns-in-Err-NotWeakened-clause-within
returns-in-Err-NotWeakened-clause-within c = λ vars w. within-kept _ _ _ vars c.loop-i.invariant.within c.in-Err-NotWeakened.ensures.err w

pub returns-in-Err-clause-within : goal.returns-in-Err-clause-within
returns-in-Err-clause-within c = λ vars w. within-kept _ _ _ vars c.loop-i.invariant.within c.in-Err.ensures.err w

pub loop-i-preserved : goal.loop-i-preserved
loop-i-preserved c = restore-on _ _ _ _ c.loop-i.i c.loop-i.invariant c.loop-i-test.true c.in-Ok.ensures.ok c.in-Ok.ensures.weakened

pub returns-clause-turned : goal.returns-clause-turned
returns-clause-turned c = restore-end _ _ _ c.loop-i.i c.loop-i.invariant (omega (arith, c.loop-i-test.false))

pub returns-clause-within : goal.returns-clause-within
returns-clause-within c = c.loop-i.invariant.within
