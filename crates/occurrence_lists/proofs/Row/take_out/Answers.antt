use Rattle.std.proofs.Common.{◌≡◌, ◌+◌, ◌<◌, ℕ, List, length, nat_eq, ◌∙◌, ap, sym, subst}
use Rattle.std.specs.Prelude.{slice_index}
use Rattle.std.proofs.lemmas.Grind.{get_or_default_zero}
use Rattle.occurrence_lists.specs.Occurring.{times, one_if}
use Rattle.occurrence_lists.proofs.Counting.{times-taken}
use Rattle.occurrence_lists.proofs.Row.take_out.Goals as goal

pub returns-in-Some : goal.returns-in-Some
returns-in-Some c = λ q.
    let xs = c.self.inside.ids.items in let i = c.in-Some.place in let x = c.swap_remove.result in
    let lt : i < length xs = subst (λ (z : List ℕ). i < length z) c.deref.ensures.value c.in-Some.ensures.within in
    let there : slice_index xs i ≡ c.args.id = ap (λ (z : List ℕ). slice_index z i) (sym c.deref.ensures.value) ∙ c.in-Some.ensures.there in
    let e : x ≡ c.args.id = c.swap_remove.ensures.value ∙ get_or_default_zero xs i x lt ∙ there in
    ap (λ (z : List ℕ). times q z) (sym c.self.view_is) ∙ times-taken q c.args.id i x xs lt c.swap_remove.ensures.value e
    ∙ ap (λ (z : List ℕ). times q z + one_if (nat_eq q c.args.id)) (sym c.swap_remove.ensures.items)
