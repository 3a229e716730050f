use Rattle.std.proofs.Common.{◌≡◌, ◌<◌, ◌≤◌, get_or, length, true, false, Some, sym, subst, ap, ◌∙◌, refl, arith, inr}
use Rattle.std.proofs.lemmas.List.{get_or_default}
use Rattle.lits.specs.Literal.{var, neg}
use Rattle.session_rules.specs.Logic.{has}
use Rattle.clause_store.specs.Clauses.{slot_at}
use Rattle.propagation.specs.Engine.{literals}
use Rattle.propagation.proofs.Passing.{each_reserved}
use Rattle.propagation.proofs.Settling.{Pairs, false_found, unit_found, has_place, pair_two, pair_moved}
use Rattle.propagation.proofs.watching.find_two_watches.Goals as goal

pub is_true-requires : goal.is_true-requires
is_true-requires c =
    let is : c.index-lits-i.result ≡ get_or c.lits-lits.result.now c.in-Some.i 0 = sym (get_or_default _ _ 0 c.index-lits-i.result c.in-Some.ensures.1 ∙ sym c.index-lits-i.is) in
    subst (λ z. var z ≤ c.args.trail.now.vars) (sym is)
    (each_reserved c.args.watches.now.clauses c.args.trail.now.entries c.args.trail.now.vars c.requires.slot.0 c.args.slot c.lits-lits.result.now c.lits-lits.ensures.sound.store c.requires.engine c.requires.slot.1 (c.lits-lits.ensures.list c.requires.slot.0 c.requires.slot.1) c.in-Some.i c.in-Some.ensures.1)

pub next_not_false-requires : goal.next_not_false-requires
next_not_false-requires c = each_reserved c.args.watches.now.clauses c.args.trail.now.entries c.args.trail.now.vars c.requires.slot.0 c.args.slot c.lits-lits.result.now c.lits-lits.ensures.sound.store c.requires.engine c.requires.slot.1 (c.lits-lits.ensures.list c.requires.slot.0 c.requires.slot.1)

pub next_not_false-requires-2 : goal.next_not_false-requires-2
next_not_false-requires-2 c = each_reserved c.args.watches.now.clauses c.args.trail.now.entries c.args.trail.now.vars c.requires.slot.0 c.args.slot c.lits-lits.result.now c.lits-lits.ensures.sound.store c.requires.engine c.requires.slot.1 (c.lits-lits.ensures.list c.requires.slot.0 c.requires.slot.1)

pub returns-in_default-clause-found : goal.returns-in_default-clause-found
returns-in_default-clause-found c = (refl, false_found c.args.watches.now.clauses c.requires.slot.0 c.args.slot (literals c.args.trail.now.entries) c.lits-lits.result.now c.lits-lits.ensures.sound.store c.requires.slot.1 (c.lits-lits.ensures.list c.requires.slot.0 c.requires.slot.1) c.in_default.ensures)

pub returns-in_default-next_not_false-clause-found : goal.returns-in_default-next_not_false-clause-found
returns-in_default-next_not_false-clause-found c =
    let is : c.index-lits-i.result ≡ get_or c.lits-lits.result.now c.in-Some.i 0 = sym (get_or_default _ _ 0 c.index-lits-i.result c.in-Some.ensures.1 ∙ sym c.index-lits-i.is) in (
      refl,
      unit_found c.args.watches.now.clauses c.requires.slot.0 c.args.slot (literals c.args.trail.now.entries) c.lits-lits.result.now c.in-Some.i c.index-lits-i.result c.lits-lits.ensures.sound.store c.requires.slot.1 (c.lits-lits.ensures.list c.requires.slot.0 c.requires.slot.1) c.in-Some.ensures.1 is c.in-Some.ensures.3 c.in_default-next_not_false.ensures,
      (sym c.is_true.ensures ∙ c.if-is_true.false, ap (λ z. has (literals c.args.trail.now.entries) (neg z)) is ∙ c.in-Some.ensures.2),
      λ id at. subst (λ z. has z c.index-lits-i.result ≡ true) (sym (c.lits-lits.ensures.list id at)) (has_place c.lits-lits.result.now c.in-Some.i c.index-lits-i.result c.in-Some.ensures.1 is),
    )

pub returns-clause-moved : goal.returns-clause-moved
returns-clause-moved c =
    let list = c.lits-lits.ensures.list c.requires.slot.0 c.requires.slot.1 in
    let p : Pairs (literals c.args.trail.now.entries) c.args.watches.now c.bring_both.new.watches c.requires.slot.0 c.in-Some.i c.in-Some-next_not_false.j = record {
      pair = c.bring_both.ensures.pair c.requires.slot.0 c.requires.slot.1;
      order = omega (arith, c.in-Some-next_not_false.ensures.0);
      within = subst (λ z. c.in-Some-next_not_false.j < length z) (sym list) c.in-Some-next_not_false.ensures.1;
      one = subst (λ z. has (literals c.args.trail.now.entries) (neg (get_or z c.in-Some.i 0)) ≡ false) (sym list) c.in-Some.ensures.2;
      two = subst (λ z. has (literals c.args.trail.now.entries) (neg (get_or z c.in-Some-next_not_false.j 0)) ≡ false) (sym list) c.in-Some-next_not_false.ensures.2;
    } in
    pair_moved _ _ _ _ _ _ p

pub returns-clause-found : goal.returns-clause-found
returns-clause-found c = λ id at.
    let before : slot_at c.args.watches.now.clauses id ≡ Some c.args.slot = sym ((c.bring_both.ensures.pair c.requires.slot.0 c.requires.slot.1).order.slots id) ∙ at in
    let list = c.lits-lits.ensures.list id before in
    let p : Pairs (literals c.args.trail.now.entries) c.args.watches.now c.bring_both.new.watches id c.in-Some.i c.in-Some-next_not_false.j = record {
      pair = c.bring_both.ensures.pair id before;
      order = omega (arith, c.in-Some-next_not_false.ensures.0);
      within = subst (λ z. c.in-Some-next_not_false.j < length z) (sym list) c.in-Some-next_not_false.ensures.1;
      one = subst (λ z. has (literals c.args.trail.now.entries) (neg (get_or z c.in-Some.i 0)) ≡ false) (sym list) c.in-Some.ensures.2;
      two = subst (λ z. has (literals c.args.trail.now.entries) (neg (get_or z c.in-Some-next_not_false.j 0)) ≡ false) (sym list) c.in-Some-next_not_false.ensures.2;
    } in
    inr (pair_two _ _ _ _ _ _ p)
