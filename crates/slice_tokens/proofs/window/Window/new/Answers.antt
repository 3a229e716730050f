use Rattle.std.proofs.Common.{refl}
use Rattle.session_rules.specs.Lines.{lines, lines_within, end_line, end_line_within}
use Rattle.slice_tokens.specs.Place.{present, following, lines_behind, later, is_cut, last_line}
use Rattle.slice_tokens.proofs.window.Window.new.Goals as goal

pub returns-clause-present : goal.returns-clause-present
unfolding present
returns-clause-present c = λ bytes. refl

pub returns-clause-lines : goal.returns-clause-lines
unfolding later lines_behind following lines lines_within
returns-clause-lines c = λ bytes. refl

pub returns-clause-last : goal.returns-clause-last
unfolding last_line end_line end_line_within
returns-clause-last c = λ bytes. refl

pub returns-clause-cut : goal.returns-clause-cut
unfolding is_cut
returns-clause-cut c = λ bytes. refl
