use Rattle.std.proofs.Common.{ℕ, ◌+◌, List, [], ◌∷◌, take, drop, get_or, refl, ap}
use Rattle.std.proofs.lemmas.List.{take_more}
use Rattle.line_writing.proofs.Passing.{Passed-join, Puts_failed, Puts_failed_first}
use Rattle.line_writing.proofs.Spaced.{list-parted}
use Rattle.line_writing.proofs.writing.put_word.Goals as goal

pub returns-in_err-put_byte : goal.returns-in_err-put_byte
returns-in_err-put_byte g c =
    Puts_failed_first _ _ _ _ _ _ _ (32 ∷ []) c.args.word.now _ _ c.from_residual.ensures.0 (c.in_err-put_byte.ensures) refl

pub returns-in_err-put_byte-2 : goal.returns-in_err-put_byte-2
returns-in_err-put_byte-2 g c =
    let word = c.args.word.now in
    let i = c.loop-byte.byte-index in
    Puts_failed _ _ _ _ _ _ _ _ _ (32 ∷ take i word) (get_or word i 0 ∷ []) (drop (i + 1) word) _ _ c.from_residual-in_err-put_byte-2.ensures.0 c.loop-byte.invariant (c.in_err-put_byte-2.ensures) (ap (λ (l : List ℕ). 32 ∷ l) (list-parted word i c.loop-byte-test.true))

pub loop-byte-preserved : goal.loop-byte-preserved
loop-byte-preserved g c =
    let word = c.args.word.now in
    let i = c.loop-byte.byte-index in
    rw (take_more word i 0 c.loop-byte-test.true) (Passed-join _ _ _ _ _ _ _ _ _ (32 ∷ take i word) (get_or word i 0 ∷ []) c.loop-byte.invariant (c.in_ok-put_byte-2.ensures))
