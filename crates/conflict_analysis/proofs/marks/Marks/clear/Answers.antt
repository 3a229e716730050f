use Rattle.conflict_analysis.proofs.Marking.{clear_count}
use Rattle.conflict_analysis.proofs.marks.Marks.clear.Goals as goal

pub invariant_of-self : goal.invariant_of-self
invariant_of-self c = record {
  noted_are = λ i n. absurd (n (c.take_all_off.ensures.clear i));
  count_is = clear_count c.take_all_off.new.items.items c.take_all_off.ensures.clear;
}
