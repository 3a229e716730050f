use Rattle.std.proofs.Common.{◌+◌, drop, sym, ◌∙◌, ap, arith}
use Rattle.std.specs.declared.cmp.Ordering.TheVariants as Ordering
use Rattle.std.specs.Cmp.{ranked}
use Rattle.std.proofs.lemmas.List.{get_or_read}
use Rattle.lits.specs.Clause.{is_part}
use Rattle.lits.proofs.SetSteps.{merge_both, merge_skip, merge_stop, merge_done, merge_end}
use Rattle.lits.proofs.set.is_part_sorted.Goals.{in-Equal, in-Greater}
use Rattle.lits.proofs.set.is_part_sorted.Goals as goal

pub returns-then-next-part : goal.returns-then-next-part
returns-then-next-part c =
    sym (c.loop-l.invariant.1 ∙ merge_done c.args.part.now (drop c.loop-l.l-index c.args.whole.now) c.loop-l.next (omega arith))

pub returns-in-Less : goal.returns-in-Less
returns-in-Less c =
    let part = c.args.part.now in let whole = c.args.whole.now in let i = c.loop-l.next in let j = c.loop-l.l-index in
    let first = get_or_read part i _ (omega arith) c.index-part-next.is 0 in
    let item = get_or_read whole j _ (omega arith) c.l-item.is 0 in
    let less = ranked c.index-part-next.result c.l-item.result Ordering.Less (sym c.in-Less.is ∙ c.cmp.ensures) in
    sym (c.loop-l.invariant.1 ∙ merge_stop part whole c.requires.part c.requires.whole i j (omega arith) (omega arith) (omega arith))

pub loop-l-preserved : goal.loop-l-preserved
loop-l-preserved c =
    let part = c.args.part.now in let whole = c.args.whole.now in let i = c.loop-l.next in let j = c.loop-l.l-index in
    let first = get_or_read part i _ (omega arith) c.index-part-next.is 0 in
    let item = get_or_read whole j _ (omega arith) c.l-item.is 0 in
    elim c.match-cmp.branch [
      | in-Equal w ↦
          let same = ranked c.index-part-next.result c.l-item.result Ordering.Equal (sym w.in-Equal.is ∙ c.cmp.ensures) in
          (omega (arith, w.next-is), c.loop-l.invariant.1 ∙ merge_both part whole c.requires.part c.requires.whole i j (omega arith) (omega arith) (sym first ∙ same ∙ item) ∙ ap (λ k. is_part (drop k part) (drop (j + 1) whole)) (sym w.next-is))
      | in-Greater w ↦
          let more = ranked c.index-part-next.result c.l-item.result Ordering.Greater (sym w.in-Greater.is ∙ c.cmp.ensures) in
          (omega (arith, w.next-is), c.loop-l.invariant.1 ∙ merge_skip part whole c.requires.part c.requires.whole i j (omega arith) (omega arith) (omega arith) ∙ ap (λ k. is_part (drop k part) (drop (j + 1) whole)) (sym w.next-is))
    ]

pub returns : goal.returns
returns c =
    merge_end c.args.part.now c.args.whole.now c.loop-l.next c.loop-l.l-index c.loop-l.invariant.0 c.loop-l-test.false ∙ sym c.loop-l.invariant.1
