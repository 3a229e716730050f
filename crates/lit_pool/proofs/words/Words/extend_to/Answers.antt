use Rattle.std.proofs.Common.{◌≤◌, length, ap, arith, length-take}
use Rattle.lit_pool.specs.Words.{items_of}
use Rattle.lit_pool.proofs.Placed.{Raised, raised, raised_further}
use Rattle.lit_pool.proofs.words.Words.extend_to.Goals as goal
use Rattle.lit_pool.proofs.words.Words.extend_to.Goals.{then-end-places+in_ok-longer+in-Some-1, then-end-places+in_ok-longer+in-None-1, else-end-places}

low : (c : goal.After-self-2-1) → length c.args.self.now ≤ c.args.end
low c = omega (arith, ap length c.self.view_is, length-take c.self.inside.used (items_of c.self.inside.held), c.if-end-self.false)

extended : (c : goal.After-self-2-1) → Raised (items_of c.if-end-places.self-inside.held) c.args.self.now c.args.end
extended c = elim c.if-end-places.branch [
  | then-end-places+in_ok-longer+in-Some-1 w ↦ rw w.self-inside-is (raised _ _ _ w.in_ok-longer.ensures.items (low c) w.in_ok-longer.ensures.places)
  | then-end-places+in_ok-longer+in-None-1 w ↦ rw w.self-inside-is (raised _ _ _ w.in_ok-longer.ensures.items (low c) w.in_ok-longer.ensures.places)
  | else-end-places w ↦ rw w.self-inside-is (raised_further _ _ _ _ c.self.invariant c.self.view_is (omega (arith, c.if-end-self.false)) (omega (arith, c.places.ensures.places, w.if-end-places.false)))
]

pub invariant_of-self : goal.invariant_of-self
invariant_of-self c = let e = extended c in e.placed

pub returns-clause-ok : goal.returns-clause-ok
returns-clause-ok c = let e = extended c in e.words_are
