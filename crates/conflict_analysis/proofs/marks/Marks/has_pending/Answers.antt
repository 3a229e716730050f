use Rattle.std.proofs.Common.{◌≡◌, ◌/◌, nat_lt, false, arith, subst, sym, ◌∙◌, ℕ}
use Rattle.std.proofs.lemmas.Bool.{ltb-false}
use Rattle.conflict_analysis.specs.Marked.{pending}
use Rattle.conflict_analysis.proofs.Marking.{none_pending}
use Rattle.conflict_analysis.proofs.marks.Marks.has_pending.Goals as goal

none : (n : ℕ) → nat_lt 0 n ≡ false → n ≡ 0
none n h = let l = ltb-false 0 n h in omega (arith, l)

pub returns : goal.returns
returns c = λ h l. subst (λ z. pending z l ≡ false) c.self.view_is (none_pending c.self.inside.items.items (l / 2) (sym c.self.invariant.count_is ∙ none c.self.inside.pending h))
