use Rattle.std.proofs.Common.{ap, sym, ◌∙◌}
use Rattle.slice_tokens.proofs.Places.{number_is}
use Rattle.slice_tokens.proofs.window.Window.line.Goals as goal

pub returns-clause-present : goal.returns-clause-present
returns-clause-present c = λ bytes. number_is c.args.self.now bytes ∙ sym (ap (λ p. p.line) c.self.view_is)
