use Rattle.std.proofs.Common.{ℕ, ◌+◌, List, [], ◌∷◌, ◌++◌, take, drop, refl, sym, ◌∙◌, ap, append_assoc}
use Rattle.std.proofs.lemmas.List.{append-nil, take_all}
use Rattle.line_writing.specs.Held.{part_text, parts_text, line_bytes}
use Rattle.line_writing.proofs.Passing.{Passed-join, Puts_failed}
use Rattle.line_writing.proofs.Spaced.{flat_map-taken, flat_map-parted}
use Rattle.line_writing.proofs.writing.put_line.Goals as goal

pub returns-in_err-put_part : goal.returns-in_err-put_part
returns-in_err-put_part g c =
    let parts = c.args.parts.now in
    let letter = c.args.letter in
    let i = c.loop-part.part-index in
    let x = c.part-item.result in
    Puts_failed _ _ _ _ _ _ _ _ _ (letter ∷ parts_text (take i parts)) (part_text x) (parts_text (drop (i + 1) parts) ++ 10 ∷ []) _ _ c.from_residual.ensures.0 c.loop-part.invariant (c.in_err-put_part.ensures)
    (ap (λ (l : List ℕ). letter ∷ (l ++ 10 ∷ [])) (flat_map-parted part_text parts i x c.loop-part-test.true c.part-item.is) ∙ append_assoc (letter ∷ parts_text (take i parts)) (part_text x ++ parts_text (drop (i + 1) parts)) (10 ∷ []) ∙ ap (λ (l : List ℕ). (letter ∷ parts_text (take i parts)) ++ l) (append_assoc (part_text x) (parts_text (drop (i + 1) parts)) (10 ∷ [])))

pub loop-part-preserved : goal.loop-part-preserved
loop-part-preserved g c =
    let parts = c.args.parts.now in
    let i = c.loop-part.part-index in
    let x = c.part-item.result in
    rw (flat_map-taken part_text parts i x c.loop-part-test.true c.part-item.is) (Passed-join _ _ _ _ _ _ _ _ _ (c.args.letter ∷ parts_text (take i parts)) (part_text x) c.loop-part.invariant (c.in_ok-put_part.ensures))

pub returns-in_err-put_byte : goal.returns-in_err-put_byte
returns-in_err-put_byte g c =
    let before = rw (take_all c.loop-part.part-index c.args.parts.now c.loop-part-test.false) at c.loop-part.invariant in
    Puts_failed _ _ _ _ _ _ _ _ _ (c.args.letter ∷ parts_text c.args.parts.now) (10 ∷ []) [] _ _ c.from_residual-in_err-put_byte.ensures.0 before (c.in_err-put_byte.ensures) refl

pub returns-in_err-pass_on : goal.returns-in_err-pass_on
returns-in_err-pass_on g c =
    let before = rw (take_all c.loop-part.part-index c.args.parts.now c.loop-part-test.false) at c.loop-part.invariant in
    let whole = Passed-join _ _ _ _ _ _ _ _ _ (c.args.letter ∷ parts_text c.args.parts.now) (10 ∷ []) before (c.in_ok-put_byte.ensures) in
    Puts_failed _ _ _ _ _ _ _ _ _ (line_bytes c.args.letter c.args.parts.now) [] [] _ _ c.from_residual-in_err-pass_on.ensures.0 whole (c.in_err-pass_on.ensures.puts) (sym (append-nil (line_bytes c.args.letter c.args.parts.now)))

pub returns : goal.returns
returns g c =
    let before = rw (take_all c.loop-part.part-index c.args.parts.now c.loop-part-test.false) at c.loop-part.invariant in
    let whole = Passed-join _ _ _ _ _ _ _ _ _ (c.args.letter ∷ parts_text c.args.parts.now) (10 ∷ []) before (c.in_ok-put_byte.ensures) in
    let passed = rw (c.in_ok-pass_on.ensures.empty) at (c.in_ok-pass_on.ensures.puts) in
    rw (← append-nil (line_bytes c.args.letter c.args.parts.now)) (Passed-join _ _ _ _ _ _ _ _ _ (line_bytes c.args.letter c.args.parts.now) [] whole passed)
