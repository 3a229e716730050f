use Rattle.std.proofs.Common.{◌≡◌, ◌≤◌, ◌<◌, ◌/◌, false, length, refl, sym, ap, ◌∙◌, subst, arith}
use Rattle.std.proofs.lemmas.List.{length-set}
use Rattle.conflict_analysis.specs.Marked.{pending, is_pending, mark_at}
use Rattle.conflict_analysis.proofs.Marking.{left_alone}
use Rattle.conflict_analysis.proofs.Engines.{item_in, negated_within, reason_active}
use Rattle.conflict_analysis.proofs.+others_follow.Goals as goal
use Rattle.conflict_analysis.proofs.+others_follow.Goals.{then-ne+then-not-follows+then-not-has_level+else-is_failed+else-steps-eq0+in-Some+in_ok-others_follow+else-not-branch+in_ok-set-2, else-ne}

pub at-requires : goal.at-requires
at-requires t c = negated_within c.args.engine.now c.args.slot c.m-item.result c.neg-other.result (length c.loop-m.marks) c.clause_of-m-items.result.now c.requires.engine c.requires.active (c.clause_of-m-items.ensures c.requires.active.0 c.requires.active.1 c.requires.active.2)
    (item_in c.clause_of-m-items.result.now c.loop-m.m-index c.m-item.result c.loop-m-test.true c.m-item.is) (subst (λ z. c.args.engine.now.vars ≤ z) (sym c.loop-m.invariant.same) c.requires.room) c.neg-other.ensures.negation

pub at-requires-then-not-has_level : goal.at-requires-then-not-has_level
at-requires-then-not-has_level t c = negated_within c.args.engine.now c.args.slot c.m-item.result c.neg-other.result (length c.loop-m.marks) c.clause_of-m-items.result.now c.requires.engine c.requires.active (c.clause_of-m-items.ensures c.requires.active.0 c.requires.active.1 c.requires.active.2)
    (item_in c.clause_of-m-items.result.now c.loop-m.m-index c.m-item.result c.loop-m-test.true c.m-item.is) (subst (λ z. c.args.engine.now.vars ≤ z) (sym c.loop-m.invariant.same) c.requires.room) c.neg-other.ensures.negation

pub others_follow-requires : goal.others_follow-requires
others_follow-requires t c = (omega (arith, c.decreases, c.if-steps-eq0.false), (c.requires.engine, (reason_active c.args.engine.now c.neg-other.result c.in-Some.reason c.requires.engine (sym c.reason.ensures.value ∙ c.in-Some.is), (subst (λ z. c.args.engine.now.vars ≤ z) (sym c.loop-m.invariant.same) c.requires.room))))

pub set-requires : goal.set-requires
set-requires t c = negated_within c.args.engine.now c.args.slot c.m-item.result c.neg-other.result (length c.others_follow.new.marks) c.clause_of-m-items.result.now c.requires.engine c.requires.active (c.clause_of-m-items.ensures c.requires.active.0 c.requires.active.1 c.requires.active.2)
    (item_in c.clause_of-m-items.result.now c.loop-m.m-index c.m-item.result c.loop-m-test.true c.m-item.is) (subst (λ z. c.args.engine.now.vars ≤ z) (sym (c.others_follow.ensures.length ∙ c.loop-m.invariant.same)) c.requires.room) c.neg-other.ensures.negation

pub set-requires-then-not-has_level : goal.set-requires-then-not-has_level
set-requires-then-not-has_level t c = negated_within c.args.engine.now c.args.slot c.m-item.result c.neg-other.result (length c.others_follow.new.marks) c.clause_of-m-items.result.now c.requires.engine c.requires.active (c.clause_of-m-items.ensures c.requires.active.0 c.requires.active.1 c.requires.active.2)
    (item_in c.clause_of-m-items.result.now c.loop-m.m-index c.m-item.result c.loop-m-test.true c.m-item.is) (subst (λ z. c.args.engine.now.vars ≤ z) (sym (c.others_follow.ensures.length ∙ c.loop-m.invariant.same)) c.requires.room) c.neg-other.ensures.negation

pub returns-then-not-branch-clause-pending : goal.returns-then-not-branch-clause-pending
returns-then-not-branch-clause-pending t c =
    let within : c.neg-other.result / 2 < length c.others_follow.new.marks = negated_within c.args.engine.now c.args.slot c.m-item.result c.neg-other.result (length c.others_follow.new.marks) c.clause_of-m-items.result.now c.requires.engine c.requires.active (c.clause_of-m-items.ensures c.requires.active.0 c.requires.active.1 c.requires.active.2)
    (item_in c.clause_of-m-items.result.now c.loop-m.m-index c.m-item.result c.loop-m-test.true c.m-item.is) (subst (λ z. c.args.engine.now.vars ≤ z) (sym (c.others_follow.ensures.length ∙ c.loop-m.invariant.same)) c.requires.room) c.neg-other.ensures.negation in
    let free : is_pending (mark_at c.loop-m.marks c.neg-other.result) ≡ false = ap is_pending (sym c.at.ensures) ∙ c.follows.ensures c.if-not-follows.true in
    left_alone c.args.marks.now c.loop-m.marks c.others_follow.new.marks c.set.new.self c.neg-other.result _ within refl free c.others_follow.ensures.pending c.loop-m.invariant.pending c.in_ok-set.ensures.ok

pub loop-m-preserved : goal.loop-m-preserved
loop-m-preserved t c = elim c.if-ne.branch [
  | then-ne+then-not-follows+then-not-has_level+else-is_failed+else-steps-eq0+in-Some+in_ok-others_follow+else-not-branch+in_ok-set-2 w ↦
      let within : c.neg-other.result / 2 < length w.others_follow.new.marks = negated_within c.args.engine.now c.args.slot c.m-item.result c.neg-other.result (length w.others_follow.new.marks) c.clause_of-m-items.result.now c.requires.engine c.requires.active (c.clause_of-m-items.ensures c.requires.active.0 c.requires.active.1 c.requires.active.2)
      (item_in c.clause_of-m-items.result.now c.loop-m.m-index c.m-item.result c.loop-m-test.true c.m-item.is) (subst (λ z. c.args.engine.now.vars ≤ z) (sym (w.others_follow.ensures.length ∙ c.loop-m.invariant.same)) c.requires.room) c.neg-other.ensures.negation in
      let free : is_pending (mark_at c.loop-m.marks c.neg-other.result) ≡ false = ap is_pending (sym w.at.ensures) ∙ w.follows.ensures w.if-not-follows.true in
      record {
        pending = λ x. ap (λ z. pending z x) w.marks-is ∙ left_alone c.args.marks.now c.loop-m.marks w.others_follow.new.marks w.set-then-not-has_level.new.self c.neg-other.result _ within refl free w.others_follow.ensures.pending c.loop-m.invariant.pending w.in_ok-set-2.ensures.ok x;
        same = ap length w.marks-is ∙ ap length w.in_ok-set-2.ensures.ok ∙ length-set w.others_follow.new.marks (c.neg-other.result / 2) _ ∙ w.others_follow.ensures.length ∙ c.loop-m.invariant.same;
      }
  | else-ne w ↦ record {
    pending = λ x. ap (λ z. pending z x) w.marks-is ∙ c.loop-m.invariant.pending x;
    same = ap length w.marks-is ∙ c.loop-m.invariant.same;
  }
]
