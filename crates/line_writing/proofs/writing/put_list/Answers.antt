use Rattle.std.proofs.Common.{ℕ, ◌+◌, List, ◌∷◌, ◌++◌, take, drop, ◌∙◌, ap, append_assoc}
use Rattle.std.proofs.lemmas.List.{take_all}
use Rattle.std.specs.List.{flat_map}
use Rattle.std.specs.Prelude.{codes}
use Rattle.line_writing.proofs.Passing.{Passed-join, Puts-join, Puts_failed}
use Rattle.line_writing.proofs.Spaced.{flat_map-taken, flat_map-parted}
use Rattle.line_writing.proofs.writing.put_list.Goals as goal

pub returns-in_err-put_numeral : goal.returns-in_err-put_numeral
returns-in_err-put_numeral g c =
    let word = λ (x : g.row.W.Denot). 32 ∷ g.W.Numeral.text x in
    let items = c.args.items.now in
    let i = c.loop-item.item-index in
    let x = c.item-item.result in
    Puts_failed _ _ _ _ _ _ _ _ _ (flat_map word (take i items)) (word x) (flat_map word (drop (i + 1) items) ++ codes " 0") _ _ c.from_residual.ensures.0 c.loop-item.invariant (c.in_err-put_numeral.ensures)
    (ap (λ (l : List ℕ). l ++ codes " 0") (flat_map-parted word items i x c.loop-item-test.true c.item-item.is) ∙ append_assoc (flat_map word (take i items)) (word x ++ flat_map word (drop (i + 1) items)) (codes " 0") ∙ ap (λ (l : List ℕ). flat_map word (take i items) ++ l) (append_assoc (word x) (flat_map word (drop (i + 1) items)) (codes " 0")))

pub loop-item-preserved : goal.loop-item-preserved
loop-item-preserved g c =
    let word = λ (x : g.row.W.Denot). 32 ∷ g.W.Numeral.text x in
    let items = c.args.items.now in
    let i = c.loop-item.item-index in
    let x = c.item-item.result in
    rw (flat_map-taken word items i x c.loop-item-test.true c.item-item.is) (Passed-join _ _ _ _ _ _ _ _ _ (flat_map word (take i items)) (word x) c.loop-item.invariant (c.in_ok-put_numeral.ensures))

pub returns : goal.returns
returns g c =
    let word = λ (x : g.row.W.Denot). 32 ∷ g.W.Numeral.text x in
    let items = c.args.items.now in
    let before = rw (take_all c.loop-item.item-index items c.loop-item-test.false) at c.loop-item.invariant in
    Puts-join _ _ _ _ _ _ _ _ _ (flat_map word items) (codes " 0") _ before c.put_end.ensures
