use Rattle.std.proofs.Common.{arith}
use Rattle.propagation.proofs.Insides.{inside_cleared}
use Rattle.propagation.proofs.Engine.clear.Goals as goal

pub invariant_of-self : goal.invariant_of-self
invariant_of-self c = let o = c.self.inside in
    inside_cleared o.watches o.trail c.clear.new.self o.head o.pending.items c.compact.new.ids.items o.pending_head o.levels.items c.clear-2.new.self.items _ _ c.self.invariant c.compact.ensures.sound c.compact.ensures.kept c.clear-2.ensures.items c.clear.ensures (omega (arith, c.clear-2.ensures.capacity))
