use Rattle.std.proofs.Common.{◌-◌}
use Rattle.session_rules.specs.Lines.{most_bytes}
use Rattle.slice_tokens.proofs.Ending.{Skipping}
use Rattle.slice_tokens.proofs.window.Window.next_line.Given as goal

abbrev pub invariant-lines : goal.invariant-lines
invariant-lines g l = Skipping l.fn.self l.self l.fn.src l.src (g.S.Source.left l.fn.src) (g.S.Source.left l.src) (g.S.Source.faults l.fn.src) (g.S.Source.faults l.src)

abbrev pub decreases-lines : goal.decreases-lines
decreases-lines g l = most_bytes - l.self.passed
