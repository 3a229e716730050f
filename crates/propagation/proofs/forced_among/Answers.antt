use Rattle.std.proofs.Common.{◌≡◌, get_or, Some, sym, ap, ◌∙◌, arith, below_more}
use Rattle.std.proofs.lemmas.Bool.{eqb-false}
use Rattle.std.proofs.lemmas.List.{get_or_default}
use Rattle.std.proofs.lemmas.Option.{same_Some, none-some}
use Rattle.propagation.specs.Engine.{reason_in}
use Rattle.propagation.proofs.Scan.{index_of}
use Rattle.propagation.proofs.forced_among.Goals as goal
use Rattle.propagation.proofs.forced_among.Goals.{in-Some+else-eq, in_default}

pub loop-l-init : goal.loop-l-init
loop-l-init c = λ k lt. absurd (omega arith)

pub loop-l-preserved : goal.loop-l-preserved
loop-l-preserved c = below_more _ _ c.loop-l.invariant (λ at.
    let item : get_or c.args.lits.now c.loop-l.l-index 0 ≡ c.l-item.result = get_or_default _ _ 0 c.l-item.result c.loop-l-test.true ∙ sym c.l-item.is in
    let reason : c.reason.result ≡ Some c.args.slot = c.reason.ensures ∙ ap (reason_in c.args.trail.now.entries) (sym item) ∙ at in
    elim c.match-reason.branch [
      | in-Some+else-eq w ↦ eqb-false _ _ (sym w.eq.ensures ∙ w.if-eq.false) (same_Some _ _ (sym w.in-Some.is ∙ reason))
      | in_default w ↦ none-some _ (sym w.in_default.is ∙ reason)
    ])

pub returns-clause-none : goal.returns-clause-none
returns-clause-none c = λ l m at. let r = index_of _ l m in c.loop-l.invariant r.0 (omega (arith, r.1, c.loop-l-test.false)) (ap (reason_in c.args.trail.now.entries) r.2 ∙ at)
