use Rattle.std.proofs.Common.{◌/◌, ◌<◌, length, sym, subst, arith}
use Rattle.conflict_analysis.proofs.Marking.{recount_counted, recount_within, recount_is, marks-set}
use Rattle.conflict_analysis.proofs.marks.Marks.set.Goals as goal

pub recount-self-inside-requires-clause-counted : goal.recount-self-inside-requires-clause-counted
recount-self-inside-requires-clause-counted c = recount_counted c.self.inside.items.items (c.code.result / 2) c.self.inside.pending c.index.result.now c.args.mark c.is_pending-was.result c.is_pending.result (subst (λ z. z / 2 < length c.self.inside.items.items) (sym c.code.ensures.code) (subst (λ z. c.args.l / 2 < length z) (sym c.self.view_is) c.requires)) c.index.ensures c.is_pending-was.ensures c.is_pending.ensures c.self.invariant.count_is

pub recount-self-inside-requires-clause-within : goal.recount-self-inside-requires-clause-within
recount-self-inside-requires-clause-within c = recount_within c.self.inside.items.items (c.code.result / 2) c.self.inside.pending c.index.result.now c.args.mark c.is_pending-was.result c.is_pending.result (subst (λ z. z / 2 < length c.self.inside.items.items) (sym c.code.ensures.code) (subst (λ z. c.args.l / 2 < length z) (sym c.self.view_is) c.requires)) c.index.ensures c.is_pending-was.ensures c.is_pending.ensures c.self.invariant.count_is c.len.result (omega (arith, c.len.ensures))

pub invariant_of-self-2 : goal.invariant_of-self-2
invariant_of-self-2 c = marks-set c.self.inside.items.items c.self.inside.noted.items c.push.new.self.items c.args.l c.code.result c.recount-self-inside.result c.args.mark c.code.ensures.code c.in_ok-push.ensures.items c.self.invariant.noted_are (recount_is c.self.inside.items.items (c.code.result / 2) c.self.inside.pending c.index.result.now c.args.mark c.is_pending-was.result c.is_pending.result (subst (λ z. z / 2 < length c.self.inside.items.items) (sym c.code.ensures.code) (subst (λ z. c.args.l / 2 < length z) (sym c.self.view_is) c.requires)) c.index.ensures c.is_pending-was.ensures c.is_pending.ensures c.self.invariant.count_is c.recount-self-inside.result c.recount-self-inside.ensures)
