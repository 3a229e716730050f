use Rattle.std.proofs.Common.{◌≡◌, suc, ◌+◌, ◌<◌, ◌∷◌, length, get_or, drop, Some, Contains, refl, sym, subst, ap, ◌∙◌, arith}
use Rattle.lits.proofs.Members.{has_at, has_from}
use Rattle.session_rules.specs.declared.Left.TheVariants.{Falsified, UnitLiteral, Open}
use Rattle.session_rules.specs.Logic.{hints_fail_from}
use Rattle.clause_store.specs.Clauses.{lits_at}
use Rattle.hint_check.specs.Hints.{active_at, end_of}
use Rattle.hint_check.proofs.Lefts.{true-put, has-cons, left-same, Active, active_slot, not_active, hint_none, hint_left, hint_end, none_later-put, has_or}
use Rattle.hint_check.proofs.follow.Goals as goal

pub returns-in_default-clause-end : goal.returns-in_default-clause-end
returns-in_default-clause-end c = λ first m.
    let r = c.loop-i.invariant.so_far first m in
    ap end_of (sym (hint_none (active_at c.args.store.now) (c.loop-i.i + 1) r.0 c.args.hints.now c.loop-i.i c.loop-i-test.true (not_active c.args.store.now (get_or c.args.hints.now c.loop-i.i 0) (sym c.find.ensures.slot ∙ c.in_default.is))) ∙ r.2)

pub left_at-requires-clause-slot : goal.left_at-requires-clause-slot
left_at-requires-clause-slot c = (get_or c.args.hints.now c.loop-i.i 0, sym c.find.ensures.slot ∙ c.in-Some.is)

pub left_at-requires-clause-within : goal.left_at-requires-clause-within
left_at-requires-clause-within c = λ id l at n.
    let a : Active c.args.store.now id (lits_at c.args.store.now id) = active_slot c.args.store.now id c.in-Some.slot (lits_at c.args.store.now id) c.find.ensures.sound at refl in
    let inside = c.requires.within id l a.held a.got (subst (λ z. Contains z l) (sym a.of_held) (has_at a.lits l (sym (a.same l) ∙ has_from (lits_at c.args.store.now id) l n))) in
    omega (arith, inside.1, c.loop-i.auto.last_true)

pub returns-in-Falsified-clause-end : goal.returns-in-Falsified-clause-end
returns-in-Falsified-clause-end c = λ first m.
    let r = c.loop-i.invariant.so_far first m in
    let at = sym c.find.ensures.slot ∙ c.in-Some.is in
    let a : Active c.args.store.now (get_or c.args.hints.now c.loop-i.i 0) (lits_at c.args.store.now (get_or c.args.hints.now c.loop-i.i 0)) = active_slot c.args.store.now (get_or c.args.hints.now c.loop-i.i 0) c.in-Some.slot (lits_at c.args.store.now (get_or c.args.hints.now c.loop-i.i 0)) c.find.ensures.sound at refl in
    ap end_of (sym (hint_left (active_at c.args.store.now) (c.loop-i.i + 1) r.0 c.args.hints.now c.loop-i.i c.loop-i-test.true a.lits Falsified a.here
    (sym c.in-Falsified.is ∙ c.left_at.ensures.left (get_or c.args.hints.now c.loop-i.i 0) at r.0 r.1 ∙ left-same r.0 (lits_at c.args.store.now (get_or c.args.hints.now c.loop-i.i 0)) a.lits a.same)) ∙ r.2)

pub returns-in-Open-clause-end : goal.returns-in-Open-clause-end
returns-in-Open-clause-end c = λ first m.
    let r = c.loop-i.invariant.so_far first m in
    let at = sym c.find.ensures.slot ∙ c.in-Some.is in
    let a : Active c.args.store.now (get_or c.args.hints.now c.loop-i.i 0) (lits_at c.args.store.now (get_or c.args.hints.now c.loop-i.i 0)) = active_slot c.args.store.now (get_or c.args.hints.now c.loop-i.i 0) c.in-Some.slot (lits_at c.args.store.now (get_or c.args.hints.now c.loop-i.i 0)) c.find.ensures.sound at refl in
    ap end_of (sym (hint_left (active_at c.args.store.now) (c.loop-i.i + 1) r.0 c.args.hints.now c.loop-i.i c.loop-i-test.true a.lits Open a.here
    (sym c.in-Open.is ∙ c.left_at.ensures.left (get_or c.args.hints.now c.loop-i.i 0) at r.0 r.1 ∙ left-same r.0 (lits_at c.args.store.now (get_or c.args.hints.now c.loop-i.i 0)) a.lits a.same)) ∙ r.2)

pub bounds-last_true-code : goal.bounds-last_true-code
bounds-last_true-code c =
    let at = sym c.find.ensures.slot ∙ c.in-Some.is in
    let a : Active c.args.store.now (get_or c.args.hints.now c.loop-i.i 0) (lits_at c.args.store.now (get_or c.args.hints.now c.loop-i.i 0)) = active_slot c.args.store.now (get_or c.args.hints.now c.loop-i.i 0) c.in-Some.slot (lits_at c.args.store.now (get_or c.args.hints.now c.loop-i.i 0)) c.find.ensures.sound at refl in
    let n : Contains (lits_at c.args.store.now (get_or c.args.hints.now c.loop-i.i 0)) c.in-UnitLiteral.l = c.in-UnitLiteral.ensures.known (get_or c.args.hints.now c.loop-i.i 0) at in
    let inside = c.requires.within (get_or c.args.hints.now c.loop-i.i 0) c.in-UnitLiteral.l a.held a.got (subst (λ z. Contains z c.in-UnitLiteral.l) (sym a.of_held) (has_at a.lits c.in-UnitLiteral.l (sym (a.same c.in-UnitLiteral.l) ∙ has_from (lits_at c.args.store.now (get_or c.args.hints.now c.loop-i.i 0)) c.in-UnitLiteral.l n))) in
    omega (arith, inside.0, c.code.ensures.code, c.loop-i.auto.last_true)

pub loop-i-preserved : goal.loop-i-preserved
loop-i-preserved c =
    let at = sym c.find.ensures.slot ∙ c.in-Some.is in
    let a : Active c.args.store.now (get_or c.args.hints.now c.loop-i.i 0) (lits_at c.args.store.now (get_or c.args.hints.now c.loop-i.i 0)) = active_slot c.args.store.now (get_or c.args.hints.now c.loop-i.i 0) c.in-Some.slot (lits_at c.args.store.now (get_or c.args.hints.now c.loop-i.i 0)) c.find.ensures.sound at refl in
    let n : Contains (lits_at c.args.store.now (get_or c.args.hints.now c.loop-i.i 0)) c.in-UnitLiteral.l = c.in-UnitLiteral.ensures.known (get_or c.args.hints.now c.loop-i.i 0) at in
    let inside = c.requires.within (get_or c.args.hints.now c.loop-i.i 0) c.in-UnitLiteral.l a.held a.got (subst (λ z. Contains z c.in-UnitLiteral.l) (sym a.of_held) (has_at a.lits c.in-UnitLiteral.l (sym (a.same c.in-UnitLiteral.l) ∙ has_from (lits_at c.args.store.now (get_or c.args.hints.now c.loop-i.i 0)) c.in-UnitLiteral.l n))) in
    let shift : c.loop-i.i + 1 ≡ suc c.loop-i.i = omega arith in
    let room : c.code.result < length c.loop-i.last_true = omega (arith, inside.0, c.code.ensures.code, c.loop-i.auto.last_true) in
    record {
      below = none_later-put c.loop-i.last_true c.args.run_number c.code.result c.loop-i.invariant.below;
      so_far = λ first m.
          let r = c.loop-i.invariant.so_far first m in (
            c.in-UnitLiteral.l ∷ r.0,
            true-put c.loop-i.last_true c.args.run_number c.code.result r.0 (c.in-UnitLiteral.l ∷ r.0) room r.1 (λ q. has-cons c.in-UnitLiteral.l r.0 q ∙ ap (λ z. has_or r.0 q z) (sym c.code.ensures.code)),
            ap (λ z. hints_fail_from (active_at c.args.store.now) (c.loop-i.i + 1 + 1) (c.in-UnitLiteral.l ∷ r.0) (drop z c.args.hints.now)) shift
                ∙ sym (hint_left (active_at c.args.store.now) (c.loop-i.i + 1) r.0 c.args.hints.now c.loop-i.i c.loop-i-test.true a.lits (UnitLiteral c.in-UnitLiteral.l) a.here
                (sym c.in-UnitLiteral.is ∙ c.left_at.ensures.left (get_or c.args.hints.now c.loop-i.i 0) at r.0 r.1 ∙ left-same r.0 (lits_at c.args.store.now (get_or c.args.hints.now c.loop-i.i 0)) a.lits a.same)) ∙ r.2,
          );
    }

pub returns-clause-end : goal.returns-clause-end
returns-clause-end c = λ first m.
    let r = c.loop-i.invariant.so_far first m in
    let last : c.loop-i.i ≡ length c.args.hints.now = omega (arith, c.loop-i-test.false, c.loop-i.auto.i-end) in
    ap (λ z. end_of (Some (z + 1))) (sym last) ∙ ap end_of (sym (hint_end (active_at c.args.store.now) (c.loop-i.i + 1) r.0 c.args.hints.now c.loop-i.i c.loop-i-test.false) ∙ r.2)
