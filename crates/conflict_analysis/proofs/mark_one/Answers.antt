use Rattle.std.proofs.Common.{◌≡◌, false, sym, ap, ◌∙◌, arith}
use Rattle.conflict_analysis.specs.Marked.{pending, is_pending}
use Rattle.conflict_analysis.proofs.Engines.{count_within, counted_then, counted_else}
use Rattle.conflict_analysis.proofs.mark_one.Goals as goal

pub overflow_add-result : goal.overflow_add-result
overflow_add-result c = let r = count_within c.args.engine.now c.args.place c.args.marks.now c.args.count c.requires.engine c.requires.count in omega (arith, r)

pub returns-then-has_level-clause-count : goal.returns-then-has_level-clause-count
returns-then-has_level-clause-count c =
    let p : pending c.args.marks.now c.args.m ≡ false = ap is_pending (sym c.at.ensures) ∙ sym c.is_pending.ensures ∙ c.if-is_pending.false in
    counted_then c.args.engine.now c.args.place c.args.m c.args.level c.args.count c.args.marks.now c.set.new.self c.requires.engine c.requires.level c.requires.within c.requires.open p c.requires.count c.in_ok-set.ensures.ok
    c.requires.above (c.has_level.ensures.yes c.if-has_level.true)

pub returns-else-has_level-clause-count : goal.returns-else-has_level-clause-count
returns-else-has_level-clause-count c =
    let p : pending c.args.marks.now c.args.m ≡ false = ap is_pending (sym c.at.ensures) ∙ sym c.is_pending.ensures ∙ c.if-is_pending.false in
    counted_else c.args.engine.now c.args.place c.args.m c.args.level c.args.count c.args.marks.now c.set.new.self c.requires.engine c.requires.level c.requires.within c.requires.open p c.requires.count c.in_ok-set.ensures.ok
    (c.has_level.ensures.no c.if-has_level.false)
