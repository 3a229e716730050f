use Rattle.std.proofs.Common.{[], ◌∷◌, ◌++◌, sym, subst, ap, ◌∙◌}
use Rattle.lits.proofs.Members.{has_at}
use Rattle.propagation.proofs.Closing.{no_closing-propagated}
use Rattle.rup_check.proofs.Assuming.{AssumesBy, by_append, by_level, by_added, extended, has-grown, Grows-back, same_closes_back, trail-of}
use Rattle.rup_check.proofs.Traced.{traced_closes, traced_few, one_given, none_given, same_hints}
use Rattle.rup_check.proofs.closes_with.Goals as goal

pub returns-in-Some-clause-closed : goal.returns-in-Some-clause-closed
returns-in-Some-clause-closed c = λ t.
    let g = c.propagate.ensures.grows in
    let one : AssumesBy c.propagate.new.self.trail c.args.start.now = subst (λ z. AssumesBy z c.args.start.now) (sym (trail-of _ _ g.0 g.1)) (by_append _ g.0 _ (by_level _ _ c.requires.level) (by_level g.0 _ g.2)) in
    same_hints _ _ g.0 _ _ g.1 (traced_closes c.propagate.new.self c.args.start.now [] c.conflict.new.hints c.propagate.ensures.sound one (none_given c.args.start.now) c.in_ok-conflict.ensures.ok)

pub returns-in-Some-assume_until_false-clause-closed : goal.returns-in-Some-assume_until_false-clause-closed
returns-in-Some-assume_until_false-clause-closed c = λ t.
    let g = c.propagate.ensures.grows in let a = c.assume_until_false.ensures.assumed in let o = c.in-Some-assume_until_false.ensures.opposite in
    let one : AssumesBy c.propagate.new.self.trail c.args.start.now = subst (λ z. AssumesBy z c.args.start.now) (sym (trail-of _ _ g.0 g.1)) (by_append _ g.0 _ (by_level _ _ c.requires.level) (by_level g.0 _ g.2)) in
    let two : AssumesBy c.assume_until_false.new.engine.trail c.args.start.now = subst (λ z. AssumesBy z c.args.start.now) (sym (trail-of _ _ a.added a.grown)) (by_append _ a.added _ one (by_added _ _ _ a)) in
    same_hints _ _ g.0 _ _ g.1 (same_hints _ _ a.added _ _ a.grown
    (traced_closes c.assume_until_false.new.engine c.args.start.now (c.in-Some-assume_until_false.l ∷ []) c.assumption-traced.new.hints o.engine two (λ x. one_given c.args.start.now c.in-Some-assume_until_false.l x o.member) c.in_ok-traced.ensures.ok))

pub returns-in-Some-propagate-clause-closed : goal.returns-in-Some-propagate-clause-closed
returns-in-Some-propagate-clause-closed c = λ t.
    let g = c.propagate.ensures.grows in let a = c.assume_until_false.ensures.assumed in let h = c.propagate-2.ensures.grows in
    let one : AssumesBy c.propagate.new.self.trail c.args.start.now = subst (λ z. AssumesBy z c.args.start.now) (sym (trail-of _ _ g.0 g.1)) (by_append _ g.0 _ (by_level _ _ c.requires.level) (by_level g.0 _ g.2)) in
    let two : AssumesBy c.assume_until_false.new.engine.trail c.args.start.now = subst (λ z. AssumesBy z c.args.start.now) (sym (trail-of _ _ a.added a.grown)) (by_append _ a.added _ one (by_added _ _ _ a)) in
    let three : AssumesBy c.propagate-2.new.self.trail c.args.start.now = subst (λ z. AssumesBy z c.args.start.now) (sym (trail-of _ _ h.0 h.1)) (by_append _ h.0 _ two (by_level h.0 _ h.2)) in
    same_hints _ _ g.0 _ _ g.1 (same_hints _ _ a.added _ _ a.grown (same_hints _ _ h.0 _ _ h.1
    (traced_closes c.propagate-2.new.self c.args.start.now [] c.conflict-traced.new.hints c.propagate-2.ensures.sound three (none_given c.args.start.now) c.in_ok-traced-2.ensures.ok)))

pub returns-clause-complete : goal.returns-clause-complete
returns-clause-complete c = λ f r.
    let g = c.propagate.ensures.grows in let a = c.assume_until_false.ensures.assumed in let h = c.propagate-2.ensures.grows in
    no_closing-propagated c.propagate-2.new.self c.args.start.now c.propagate-2.ensures.sound c.in_default-propagate.ensures.rest
    (λ l k. has-grown _ _ h.0 l h.1 (c.in_default-assume_until_false.ensures.each l (has_at c.args.start.now l k)))
    (same_closes_back _ _ h.0 _ h.1 (same_closes_back _ _ a.added _ a.grown (same_closes_back _ _ g.0 _ g.1 r)))

pub returns-in_err-traced-clause-frame : goal.returns-in_err-traced-clause-frame
returns-in_err-traced-clause-frame c = let g = c.propagate.ensures.grows in let a = c.assume_until_false.ensures.assumed in
    Grows-back _ _ _ (g.0 ++ a.added) c.requires.level (extended _ _ _ g.0 a.added g.1 a.grown) c.back_to.ensures

pub returns-in-Some-assume_until_false-clause-frame : goal.returns-in-Some-assume_until_false-clause-frame
returns-in-Some-assume_until_false-clause-frame c = let g = c.propagate.ensures.grows in let a = c.assume_until_false.ensures.assumed in
    Grows-back _ _ _ (g.0 ++ a.added) c.requires.level (extended _ _ _ g.0 a.added g.1 a.grown) c.back_to.ensures

pub returns-in_err-traced-2-clause-frame : goal.returns-in_err-traced-2-clause-frame
returns-in_err-traced-2-clause-frame c = let g = c.propagate.ensures.grows in let a = c.assume_until_false.ensures.assumed in let h = c.propagate-2.ensures.grows in
    Grows-back _ _ _ ((g.0 ++ a.added) ++ h.0) c.requires.level (extended _ _ _ (g.0 ++ a.added) h.0 (extended _ _ _ g.0 a.added g.1 a.grown) h.1) c.back_to-in-Some-propagate.ensures

pub returns-in-Some-propagate-clause-frame : goal.returns-in-Some-propagate-clause-frame
returns-in-Some-propagate-clause-frame c = let g = c.propagate.ensures.grows in let a = c.assume_until_false.ensures.assumed in let h = c.propagate-2.ensures.grows in
    Grows-back _ _ _ ((g.0 ++ a.added) ++ h.0) c.requires.level (extended _ _ _ (g.0 ++ a.added) h.0 (extended _ _ _ g.0 a.added g.1 a.grown) h.1) c.back_to-in-Some-propagate.ensures

pub returns-clause-frame : goal.returns-clause-frame
returns-clause-frame c = let g = c.propagate.ensures.grows in let a = c.assume_until_false.ensures.assumed in let h = c.propagate-2.ensures.grows in
    Grows-back _ _ _ ((g.0 ++ a.added) ++ h.0) c.requires.level (extended _ _ _ (g.0 ++ a.added) h.0 (extended _ _ _ g.0 a.added g.1 a.grown) h.1) c.back_to-2.ensures

pub returns-in-Some-clause-few : goal.returns-in-Some-clause-few
returns-in-Some-clause-few c = λ t.
    let g = c.propagate.ensures.grows in
    let one : AssumesBy c.propagate.new.self.trail c.args.start.now = subst (λ z. AssumesBy z c.args.start.now) (sym (trail-of _ _ g.0 g.1)) (by_append _ g.0 _ (by_level _ _ c.requires.level) (by_level g.0 _ g.2)) in
    traced_few c.propagate.new.self c.args.engine.now.clauses c.args.start.now [] c.conflict.new.hints (ap (λ z. z.clauses) g.1) c.propagate.ensures.sound one c.in_ok-conflict.ensures.ok

pub returns-in-Some-assume_until_false-clause-few : goal.returns-in-Some-assume_until_false-clause-few
returns-in-Some-assume_until_false-clause-few c = λ t.
    let g = c.propagate.ensures.grows in let a = c.assume_until_false.ensures.assumed in let o = c.in-Some-assume_until_false.ensures.opposite in
    let one : AssumesBy c.propagate.new.self.trail c.args.start.now = subst (λ z. AssumesBy z c.args.start.now) (sym (trail-of _ _ g.0 g.1)) (by_append _ g.0 _ (by_level _ _ c.requires.level) (by_level g.0 _ g.2)) in
    let two : AssumesBy c.assume_until_false.new.engine.trail c.args.start.now = subst (λ z. AssumesBy z c.args.start.now) (sym (trail-of _ _ a.added a.grown)) (by_append _ a.added _ one (by_added _ _ _ a)) in
    traced_few c.assume_until_false.new.engine c.args.engine.now.clauses c.args.start.now (c.in-Some-assume_until_false.l ∷ []) c.assumption-traced.new.hints (ap (λ z. z.clauses) a.grown ∙ ap (λ z. z.clauses) g.1) o.engine two c.in_ok-traced.ensures.ok

pub returns-in-Some-propagate-clause-few : goal.returns-in-Some-propagate-clause-few
returns-in-Some-propagate-clause-few c = λ t.
    let g = c.propagate.ensures.grows in let a = c.assume_until_false.ensures.assumed in let h = c.propagate-2.ensures.grows in
    let one : AssumesBy c.propagate.new.self.trail c.args.start.now = subst (λ z. AssumesBy z c.args.start.now) (sym (trail-of _ _ g.0 g.1)) (by_append _ g.0 _ (by_level _ _ c.requires.level) (by_level g.0 _ g.2)) in
    let two : AssumesBy c.assume_until_false.new.engine.trail c.args.start.now = subst (λ z. AssumesBy z c.args.start.now) (sym (trail-of _ _ a.added a.grown)) (by_append _ a.added _ one (by_added _ _ _ a)) in
    let three : AssumesBy c.propagate-2.new.self.trail c.args.start.now = subst (λ z. AssumesBy z c.args.start.now) (sym (trail-of _ _ h.0 h.1)) (by_append _ h.0 _ two (by_level h.0 _ h.2)) in
    traced_few c.propagate-2.new.self c.args.engine.now.clauses c.args.start.now [] c.conflict-traced.new.hints (ap (λ z. z.clauses) h.1 ∙ ap (λ z. z.clauses) a.grown ∙ ap (λ z. z.clauses) g.1) c.propagate-2.ensures.sound three c.in_ok-traced-2.ensures.ok
