use Rattle.std.proofs.Common.{◌≡◌, ℕ, List, Option, IfSome, true, sym, ◌∙◌}
use Rattle.std.proofs.lemmas.Bool.{OnTrue_from}
use Rattle.slice_tokens.specs.Place.{ahead, present}
use Rattle.slice_tokens.specs.Due.{due, due_end}
use Rattle.slice_tokens.proofs.Front.{end_told}
use Rattle.slice_tokens.proofs.window.Window.is_at_line_feed.Goals as goal

pub returns-clause-end : goal.returns-clause-end
returns-clause-end c =
    let p = c.args.self.now in
    let told : c.sees_line_feed.result ≡ true → (left : Option (List ℕ)) → IfSome (ahead p left) (λ bytes. due (present p bytes) ≡ due_end) = λ e left. end_told p left c.recall_bounds.ensures.moves.bounded (sym c.sees_line_feed.ensures ∙ e) in
    OnTrue_from c.sees_line_feed.result ((left : Option (List ℕ)) → IfSome (ahead p left) (λ bytes. due (present p bytes) ≡ due_end)) told
