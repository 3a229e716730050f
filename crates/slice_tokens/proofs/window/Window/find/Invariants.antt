use Rattle.std.proofs.Common.{◌+◌, ◌-◌, length, if◌then◌else◌}
use Rattle.session_rules.specs.Lines.{most_bytes}
use Rattle.slice_tokens.proofs.Told.{Finding}
use Rattle.slice_tokens.proofs.window.Window.find.Given as goal

abbrev pub invariant-look : goal.invariant-look
invariant-look g l = Finding l.fn.self l.self l.fn.src l.src (g.S.Source.left l.fn.src) (g.S.Source.left l.src) (g.S.Source.faults l.fn.src) (g.S.Source.faults l.src)

abbrev pub decreases-look : goal.decreases-look
decreases-look g l = (most_bytes + 1 - (l.self.passed + length l.self.held)) + (if l.self.ended then 0 else 1)
