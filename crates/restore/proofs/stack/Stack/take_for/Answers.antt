use Rattle.std.proofs.Common.{◌≡◌, Bool, true, false, List, map, refl, sym, ◌∙◌, ap, subst, length}
use Rattle.restore.specs.declared.lists.Elim.{Elim}
use Rattle.restore.specs.Split.{with_choice}
use Rattle.restore.specs.Stack.{taken, left_in, is_wanted}
use Rattle.restore.proofs.Unwanted.{none_taken, all_left, choice_taken, choice_left}
use Rattle.restore.proofs.stack.Stack.take_for.Goals as goal

pub returns-then-not-has_any-clause-taken : goal.returns-then-not-has_any-clause-taken
returns-then-not-has_any-clause-taken c = c.new.ensures ∙ sym (none_taken c.args.self.now c.args.vars.now (sym c.has_any.ensures ∙ c.if-not-has_any.true))

pub returns-then-not-has_any-clause-left : goal.returns-then-not-has_any-clause-left
returns-then-not-has_any-clause-left c = sym (all_left c.args.self.now c.args.vars.now (sym c.has_any.ensures ∙ c.if-not-has_any.true))

pub returns-clause-taken : goal.returns-clause-taken
returns-clause-taken c =
    let es = c.self.inside.entries.items in
    let ms = c.in_ok-chosen.chosen.items in
    let choice : ms ≡ map (λ (e : Elim). is_wanted es c.args.vars.now e.var) es
    = subst (λ (ds : List Elim). ms ≡ map (λ (e : Elim). is_wanted ds c.args.vars.now e.var) ds) c.deref.ensures.value c.in_ok-chosen.ensures in
    c.from_vec.ensures ∙ choice_taken es c.split.new.taken.items c.args.vars.now ms choice (c.split.ensures.taken ∙ ap (λ ns. with_choice true ns es) c.deref-4.ensures.value)
    ∙ ap (λ (ds : List Elim). taken (is_wanted ds c.args.vars.now) ds) c.self.view_is

pub returns-clause-left : goal.returns-clause-left
returns-clause-left c =
    let es = c.self.inside.entries.items in
    let ms = c.in_ok-chosen.chosen.items in
    let choice : ms ≡ map (λ (e : Elim). is_wanted es c.args.vars.now e.var) es
    = subst (λ (ds : List Elim). ms ≡ map (λ (e : Elim). is_wanted ds c.args.vars.now e.var) ds) c.deref.ensures.value c.in_ok-chosen.ensures in
    choice_left es c.split.new.entries.items c.args.vars.now ms choice (c.split.ensures.left ∙ ap (λ ns. with_choice false ns es) c.deref-4.ensures.value)
    ∙ ap (λ (ds : List Elim). left_in (is_wanted ds c.args.vars.now) ds) c.self.view_is
