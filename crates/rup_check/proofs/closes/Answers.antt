use Rattle.std.proofs.Common.{◌++◌, sym, subst, ◌∙◌, inl, inr}
use Rattle.std.specs.Prelude.{is_some}
use Rattle.std.proofs.lemmas.Bool.{cases_Bool}
use Rattle.lits.proofs.Members.{has_at, has_from}
use Rattle.propagation.specs.Engine.{IsFalseAt, IsPropagated}
use Rattle.propagation.proofs.Closing.{closing_at_false, closing_at_opposite, no_closing-propagated}
use Rattle.rup_check.proofs.Assuming.{AssumesBy, from_by, by_append, by_level, by_added, extended, has-grown, Grows-back, same_closes, same_closes_back, the_some, the_none, trail-of}
use Rattle.rup_check.proofs.closes.Goals as goal
use Rattle.rup_check.proofs.closes.Goals.{then-assume_each, else-assume_each}

pub returns-then-is_some-clause-sound : goal.returns-then-is_some-clause-sound
returns-then-is_some-clause-sound c = λ t.
    let g = c.propagate.ensures.grows in
    let f = the_some c.propagate.result (λ s. IsFalseAt c.propagate.new.self s) (sym c.is_some.ensures ∙ c.if-is_some.true) c.propagate.ensures.found in
    let by : AssumesBy c.propagate.new.self.trail c.args.start.now = subst (λ z. AssumesBy z c.args.start.now) (sym (trail-of _ _ g.0 g.1)) (by_append _ g.0 _ (by_level _ _ c.requires.level) (by_level g.0 _ g.2)) in
    same_closes _ _ g.0 _ g.1 (closing_at_false c.propagate.new.self c.args.start.now f.0 c.propagate.ensures.sound (from_by _ _ by) f.1)

pub returns-clause-sound : goal.returns-clause-sound
returns-clause-sound c = λ t.
    let g = c.propagate.ensures.grows in let a = c.assume_each.ensures.assumed in
    let one : AssumesBy c.propagate.new.self.trail c.args.start.now = subst (λ z. AssumesBy z c.args.start.now) (sym (trail-of _ _ g.0 g.1)) (by_append _ g.0 _ (by_level _ _ c.requires.level) (by_level g.0 _ g.2)) in
    let two : AssumesBy c.assume_each.new.engine.trail c.args.start.now = subst (λ z. AssumesBy z c.args.start.now) (sym (trail-of _ _ a.added a.grown)) (by_append _ a.added _ one (by_added _ _ _ a)) in
    elim c.if-assume_each.branch [
      | then-assume_each w ↦
          let o = c.assume_each.ensures.opposite w.if-assume_each.true in
          same_closes _ _ g.0 _ g.1 (same_closes _ _ a.added _ a.grown
          (closing_at_opposite c.assume_each.new.engine c.args.start.now o.0 (c.assume_each.ensures.engine w.if-assume_each.true) (from_by _ _ two) (has_from _ _ o.1) o.2))
      | else-assume_each w ↦
          let h = w.propagate-else-assume_each.ensures.grows in
          let f = the_some w.propagate-else-assume_each.result (λ s. IsFalseAt w.propagate-else-assume_each.new.self s) (sym w.is_some-closed.ensures ∙ sym w.closed-is ∙ t) w.propagate-else-assume_each.ensures.found in
          let three : AssumesBy w.propagate-else-assume_each.new.self.trail c.args.start.now = subst (λ z. AssumesBy z c.args.start.now) (sym (trail-of _ _ h.0 h.1)) (by_append _ h.0 _ two (by_level h.0 _ h.2)) in
          same_closes _ _ g.0 _ g.1 (same_closes _ _ a.added _ a.grown (same_closes _ _ h.0 _ h.1
          (closing_at_false w.propagate-else-assume_each.new.self c.args.start.now f.0 w.propagate-else-assume_each.ensures.sound (from_by _ _ three) f.1)))
    ]

pub returns-clause-complete : goal.returns-clause-complete
returns-clause-complete c = λ r.
    let g = c.propagate.ensures.grows in let a = c.assume_each.ensures.assumed in
    elim c.if-assume_each.branch [
      | then-assume_each w ↦ w.closed-is ∙ w.if-assume_each.true
      | else-assume_each w ↦ elim (cases_Bool (is_some w.propagate-else-assume_each.result)) [
        | inl y ↦ w.closed-is ∙ w.is_some-closed.ensures ∙ y
        | inr n ↦
            let h = w.propagate-else-assume_each.ensures.grows in
            let rest : IsPropagated w.propagate-else-assume_each.new.self = the_none w.propagate-else-assume_each.result (IsPropagated w.propagate-else-assume_each.new.self) n w.propagate-else-assume_each.ensures.rest in
            absurd (no_closing-propagated w.propagate-else-assume_each.new.self c.args.start.now w.propagate-else-assume_each.ensures.sound rest
            (λ l k. has-grown _ _ h.0 l h.1 (c.assume_each.ensures.each w.if-assume_each.false l (has_at c.args.start.now l k)))
            (same_closes_back _ _ h.0 _ h.1 (same_closes_back _ _ a.added _ a.grown (same_closes_back _ _ g.0 _ g.1 r))))
      ]
    ]

pub returns-clause-frame : goal.returns-clause-frame
returns-clause-frame c =
    let g = c.propagate.ensures.grows in let a = c.assume_each.ensures.assumed in
    let two = extended _ _ _ g.0 a.added g.1 a.grown in
    elim c.if-assume_each.branch [
      | then-assume_each w ↦ Grows-back _ _ _ (g.0 ++ a.added) c.requires.level (w.engine-is ∙ two) c.back_to.ensures
      | else-assume_each w ↦ let h = w.propagate-else-assume_each.ensures.grows in
          Grows-back _ _ _ ((g.0 ++ a.added) ++ h.0) c.requires.level (w.engine-is ∙ extended _ _ _ (g.0 ++ a.added) h.0 two h.1) c.back_to.ensures
    ]
