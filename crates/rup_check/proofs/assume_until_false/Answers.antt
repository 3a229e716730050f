use Rattle.std.proofs.Common.{◌≡◌, ℕ, ◌+◌, ◌<◌, ◌≤◌, get_or, true, Some, None, Contains, sym, subst, ap, ◌∙◌, arith, below_more}
use Rattle.std.proofs.lemmas.List.{get_or_default}
use Rattle.lits.specs.Literal.{var}
use Rattle.session_rules.specs.Logic.{has}
use Rattle.propagation.specs.Engine.{literals}
use Rattle.propagation.proofs.Scan.{contains_at, index_of}
use Rattle.rup_check.specs.Assuming.{Assumes}
use Rattle.rup_check.proofs.Assuming.{Assumes-none, Assumes-entry, value_true, value_false, has-entry, has-step_new}
use Rattle.rup_check.proofs.assume_until_false.Goals as goal
use Rattle.rup_check.proofs.assume_until_false.Goals.{in-Some-true, in-None}

pub loop-l-init : goal.loop-l-init
loop-l-init c = record { assumed = Assumes-none _ _; each = λ k lt. absurd (omega arith) }

pub returns-in-Some-false-clause-assumed : goal.returns-in-Some-false-clause-assumed
returns-in-Some-false-clause-assumed c = c.loop-l.invariant.assumed

pub returns-in-Some-false-clause-opposite : goal.returns-in-Some-false-clause-opposite
returns-in-Some-false-clause-opposite c =
    let item : get_or c.args.start.now c.loop-l.l-index 0 ≡ c.l-item.result = get_or_default _ _ 0 c.l-item.result c.loop-l-test.true ∙ sym c.l-item.is in record {
      engine = c.in-Some-false.ensures.sound;
      member = subst (λ z. Contains c.args.start.now z) item (contains_at c.args.start.now c.loop-l.l-index c.loop-l-test.true);
      opposite = value_false (literals c.loop-l.engine.trail) c.l-item.result (sym (ap (λ b. Some b) c.in-Some-false.field-0-test) ∙ c.in-Some-false.ensures.value);
    }

pub assume-requires-clause-reserved : goal.assume-requires-clause-reserved
assume-requires-clause-reserved c =
    let item : get_or c.args.start.now c.loop-l.l-index 0 ≡ c.l-item.result = get_or_default _ _ 0 c.l-item.result c.loop-l-test.true ∙ sym c.l-item.is in
    let here : Contains c.args.start.now c.l-item.result = subst (λ z. Contains c.args.start.now z) item (contains_at c.args.start.now c.loop-l.l-index c.loop-l-test.true) in
    subst (λ z. var c.l-item.result ≤ z) (sym (ap (λ z. z.vars) c.loop-l.invariant.assumed.grown)) (c.requires c.l-item.result here)

pub loop-l-preserved : goal.loop-l-preserved
loop-l-preserved c =
    let item : get_or c.args.start.now c.loop-l.l-index 0 ≡ c.l-item.result = get_or_default _ _ 0 c.l-item.result c.loop-l-test.true ∙ sym c.l-item.is in
    let here : Contains c.args.start.now c.l-item.result = subst (λ z. Contains c.args.start.now z) item (contains_at c.args.start.now c.loop-l.l-index c.loop-l-test.true) in
    elim c.match-value.branch [
      | in-Some-true w ↦ record {
        assumed = subst (λ z. Assumes c.args.start.now c.args.engine.now z) (sym w.engine-is) c.loop-l.invariant.assumed;
        each = subst (λ z. (k : ℕ) → k < c.loop-l.l-index + 1 → has (literals z.trail) (get_or c.args.start.now k 0) ≡ true) (sym w.engine-is)
            (below_more _ _ c.loop-l.invariant.each (subst (λ z. has (literals c.loop-l.engine.trail) z ≡ true) (sym item)
            (value_true (literals c.loop-l.engine.trail) c.l-item.result (sym (ap (λ b. Some b) w.in-Some-true.field-0-test) ∙ w.in-Some-true.ensures.value))));
      }
      | in-None w ↦ record {
        assumed = subst (λ z. Assumes c.args.start.now c.args.engine.now z) (sym w.engine-is)
            (Assumes-entry c.args.start.now c.args.engine.now c.loop-l.engine w.assume.new.self c.l-item.result c.loop-l.invariant.assumed here w.assume.ensures);
        each = subst (λ z. (k : ℕ) → k < c.loop-l.l-index + 1 → has (literals z.trail) (get_or c.args.start.now k 0) ≡ true) (sym w.engine-is)
            (below_more _ _ (λ k lt. has-entry c.loop-l.engine w.assume.new.self c.l-item.result (get_or c.args.start.now k 0) None w.assume.ensures (c.loop-l.invariant.each k lt))
            (subst (λ z. has (literals w.assume.new.self.trail) z ≡ true) (sym item) (has-step_new c.loop-l.engine w.assume.new.self c.l-item.result None w.assume.ensures)));
      }
    ]

pub returns-clause-assumed : goal.returns-clause-assumed
returns-clause-assumed c = c.loop-l.invariant.assumed

pub returns-clause-each : goal.returns-clause-each
returns-clause-each c = λ l m. let r = index_of c.args.start.now l m in
    subst (λ z. has (literals c.loop-l.engine.trail) z ≡ true) r.2 (c.loop-l.invariant.each r.0 (omega (arith, r.1, c.loop-l-test.false)))
