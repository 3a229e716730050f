use Rattle.std.proofs.Common.{◌≡◌, ◌<◌, ◌≤◌, ◌+◌, ◌++◌, ◌∷◌, [], List, Bool, false, refl, sym, ◌∙◌, ap, subst, map, take, replicate, length, arith, rules}
use Rattle.std.proofs.lemmas.List.{length-replicate}
use Rattle.restore.specs.declared.lists.Elim.{Elim}
use Rattle.restore.specs.declared.lists.Kept.{Kept}
use Rattle.restore.specs.Resolution.{all_variables}
use Rattle.restore.specs.Stack.{clauses_of}
use Rattle.restore.specs.Indexed.{variables_of}
use Rattle.restore.specs.Choice.{Chosen}
use Rattle.restore.proofs.Splitting.{splitting-take}
use Rattle.restore.proofs.Choosing.{wanting-begin, wanting-step, wanting-end, wanting-place, no_items}
use Rattle.restore.proofs.Indexing.{length-variables}
use Rattle.restore.proofs.take.wanted.Goals as goal

pub loop-place-init : goal.loop-place-init
loop-place-init c =
    let none = c.in_ok-vec.ensures.items_if_clones_equal (λ y h. h) in
    let long : length c.in_ok-vec.field-0.items ≡ length c.args.entries.now = ap length none ∙ length-replicate (length c.args.entries.now) false in
    let m = c.in_ok-choose_each.ensures.ok (variables_of c.args.entries.now) c.requires (length-variables c.args.entries.now ∙ sym long) in
    let after = c.choose_each.new.choice in
    wanting-begin c.args.entries.now c.args.vars.now after.chosen.items after.due.items (length c.args.entries.now) refl
    (subst (λ xs. Chosen (variables_of c.args.entries.now) xs after.chosen.items [] after.due.items c.args.vars.now) none
    (subst (λ ds. Chosen (variables_of c.args.entries.now) c.in_ok-vec.field-0.items after.chosen.items ds after.due.items c.args.vars.now) c.new.ensures.items m))

pub offset_bounds-entries-place : goal.offset_bounds-entries-place
offset_bounds-entries-place c =
    let lt : c.in-Some.place < length c.args.entries.now = wanting-place c.args.entries.now c.args.vars.now _ _ _ c.in-Some.place c.in-Some.ensures.items c.loop-place.invariant in
    record { fits = omega arith }

pub bounds-entries-place : goal.bounds-entries-place
bounds-entries-place c = wanting-place c.args.entries.now c.args.vars.now _ _ _ c.in-Some.place c.in-Some.ensures.items c.loop-place.invariant

pub loop-place-preserved : goal.loop-place-preserved
loop-place-preserved c =
    let lt : c.in-Some.place < length c.args.entries.now = wanting-place c.args.entries.now c.args.vars.now _ _ _ c.in-Some.place c.in-Some.ensures.items c.loop-place.invariant in
    let m = c.in_ok-choose_clauses.ensures.ok (variables_of c.args.entries.now) c.requires (length-variables c.args.entries.now ∙ sym c.loop-place.invariant.size) in
    let after = c.choose_clauses.new.choice in
    wanting-step c.args.entries.now c.args.vars.now c.loop-place.choice.chosen.items after.chosen.items c.loop-place.choice.due.items c.pop.new.self.items after.due.items c.in-Some.place c.index-entries-place.result c.in-Some.ensures.items lt c.index-entries-place.is
    (subst (λ (cs : List Kept). Chosen (variables_of c.args.entries.now) c.loop-place.choice.chosen.items after.chosen.items c.pop.new.self.items after.due.items (all_variables (map (λ (k : Kept). k.lits) cs))) (c.as_slice.ensures ∙ ap (λ (e : Elim). e.clauses) (sym c.index-entries-place.is)) m) c.loop-place.invariant

pub returns : goal.returns
returns c = wanting-end c.args.entries.now c.args.places.now c.args.vars.now _ _ c.requires
    (no_items c.loop-place.choice.due.items _ c.loop-place.choice.due.ok.0 c.in_default.ensures.cases.0) c.loop-place.invariant
