use Rattle.std.proofs.Common.{◌++◌, [], ◌∷◌, ◌≤◌, length, sym, ap, ◌∙◌, subst}
use Rattle.propagation.proofs.Trail.{length-literals}
use Rattle.conflict_analysis.proofs.Ending.{count_clear, search_starts, walk_ends}
use Rattle.conflict_analysis.proofs.run.Goals as goal

pub mark_all-requires-clause-count : goal.mark_all-requires-clause-count
mark_all-requires-clause-count c = count_clear c.args.engine.now c.args.marks.now _ c.requires.clear

pub first_alone-requires-clause-searching : goal.first_alone-requires-clause-searching
first_alone-requires-clause-searching c = search_starts c.args.engine.now c.args.conflict c.id_of.result c.in_ok-count.count (length c.trail-places.result.now) c.mark_all.new.marks c.push.new.self.items
    c.trail-places.ensures.sound c.requires.conflict c.requires.above c.requires.propagated (subst (λ z. c.args.engine.now.vars ≤ z) (sym c.mark_all.ensures.length) c.requires.room)
    c.in_ok-count.ensures.marked c.id_of.ensures (c.in_ok-push.ensures.items ∙ ap (λ z. z ++ c.id_of.result ∷ []) c.requires.no_hints)
    (ap length c.trail-places.ensures.literals ∙ length-literals c.args.engine.now.trail) c.in_ok-count.ensures.count

pub returns-clause-lemma : goal.returns-clause-lemma
returns-clause-lemma c = walk_ends c.args.engine.now c.walk.new.marks c.walk.new.lemma.items c.walk.new.hints.items c.trail-places.ensures.sound c.requires.propagated c.in_ok-walk.ensures.walking
