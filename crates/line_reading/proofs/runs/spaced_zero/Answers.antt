use Rattle.std.proofs.Common.{◌≢◌, get_or, sym, subst, ◌∙◌}
use Rattle.std.proofs.lemmas.List.{take_rest}
use Rattle.lits.specs.Word.{IsFront}
use Rattle.line_reading.proofs.Running.{spaced_zero, no_zero, on_true}
use Rattle.line_reading.proofs.runs.spaced_zero.Goals as goal

pub returns-clause-yes : goal.returns-clause-yes
returns-clause-yes c =
    let b = c.args.bytes.now in
    let e = take_rest b 1 in
    on_true c.front_zero.result _ _ (λ h. spaced_zero b (sym c.begins_with_space.ensures ∙ c.if-not-begins_with_space.false) (rw e at h.0) (rw e at h.1)) c.front_zero.ensures.yes

pub returns-clause-no : goal.returns-clause-no
returns-clause-no c = λ f.
    let b = c.args.bytes.now in
    no_zero b (sym c.begins_with_space.ensures ∙ c.if-not-begins_with_space.false) (subst (λ r. IsFront r 1 → get_or r 0 0 ≢ 48) (take_rest b 1) (c.front_zero.ensures.no f))
