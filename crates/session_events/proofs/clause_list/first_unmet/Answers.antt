use Rattle.std.proofs.Common.{not, refl, sym, ◌∙◌, ap, arith}
use Rattle.session_events.proofs.Regions.{walk-range, walk-fits, walk-more}
use Rattle.session_events.proofs.clause_list.first_unmet.Goals as goal

pub offset_bounds-literals-start : goal.offset_bounds-literals-start
offset_bounds-literals-start c = let w = walk-range _ _ _ _ _ _ _ (omega arith) refl c.loop-i.invariant in omega (arith, w.0, w.1)

pub slice_bounds-any_ticked-end : goal.slice_bounds-any_ticked-end
slice_bounds-any_ticked-end c = let w = walk-range _ _ _ _ _ _ _ (omega arith) refl c.loop-i.invariant in omega (arith, w.0, w.1)

pub any_ticked-requires : goal.any_ticked-requires
any_ticked-requires c = walk-fits _ _ _ _ _ _ _ (omega arith) refl c.loop-i.invariant

pub loop-i-preserved : goal.loop-i-preserved
loop-i-preserved c = walk-more _ _ _ _ _ _ _ (omega arith) refl c.loop-i.invariant (ap not (sym c.any_ticked.ensures ∙ c.if-not-any_ticked.false))
