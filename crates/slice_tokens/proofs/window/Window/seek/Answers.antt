use Rattle.std.proofs.Common.{◌≡◌, false, refl, sym, ◌∙◌}
use Rattle.slice_tokens.specs.Place.{ahead, present}
use Rattle.slice_tokens.specs.Due.{due, due_end}
use Rattle.slice_tokens.specs.Calls.{SameLines, stands_in_content}
use Rattle.slice_tokens.specs.Held.{Finds}
use Rattle.slice_tokens.proofs.Told.{told_refl, told_lines, due_bare, same_lines, same_refl}
use Rattle.slice_tokens.proofs.window.Window.seek.Goals as goal

pub returns-then-not-is_in_content-clause-told : goal.returns-then-not-is_in_content-clause-told
returns-then-not-is_in_content-clause-told g c =
    let p = c.args.self.now in
    let outside : stands_in_content p.standing ≡ false = sym c.is_in_content.ensures ∙ c.if-not-is_in_content.true in
    told_refl (ahead p (g.S.Source.left c.args.src.now)) (λ t u. SameLines p t p u × (due (present p u) ≡ due_end)) (λ t. (same_lines p p t t refl (same_refl p t), due_bare p t outside))

pub returns-clause-told : goal.returns-clause-told
returns-clause-told g c =
    let p = c.args.self.now in
    let q = c.find.new.self in
    told_lines _ _ p q (λ u. Finds q u c.find.result) c.find.ensures.takes.fresh c.find.ensures.told
