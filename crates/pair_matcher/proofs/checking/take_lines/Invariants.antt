use Rattle.std.proofs.Common.{◌≡◌, ◌-◌, ◌^◌, true}
use Rattle.slice_tokens.specs.Place.{ahead}
use Rattle.pair_matcher.specs.Checks.{Checking}
use Rattle.pair_matcher.proofs.Lines.{Taking}
use Rattle.pair_matcher.proofs.checking.take_lines.Given as goal

abbrev pub invariant-lines : goal.invariant-lines
invariant-lines g l =
    (g.P.ProofSide.live l.c.side ≡ true)
    × Taking (Checking g.P.ProofSide.form (g.P.ProofSide.stands l.fn.c.side) l.fn.c.at)
    (Checking g.P.ProofSide.form (g.P.ProofSide.stands l.c.side) l.c.at)
    (ahead l.fn.c.at.interaction (g.A.Source.left l.fn.interaction)) (ahead l.fn.c.at.proof (g.B.Source.left l.fn.proof))
    (ahead l.c.at.interaction (g.A.Source.left l.interaction)) (ahead l.c.at.proof (g.B.Source.left l.proof))
    (g.P.ProofSide.next l.c.side) l.c.at.queries l.c.at.proof.passed
    (g.A.Source.faults l.fn.interaction) (g.A.Source.faults l.interaction) (g.B.Source.faults l.fn.proof) (g.B.Source.faults l.proof)

abbrev pub decreases-lines : goal.decreases-lines
decreases-lines g l = 2 ^ 62 - l.c.at.proof.passed
