use Rattle.std.proofs.Common.{sym, ap, ◌∙◌, arith}
use Rattle.hint_check.specs.Hints.{active_at, end_of}
use Rattle.hint_check.proofs.Lefts.{hints_closed, hints_go}
use Rattle.hint_check.proofs.run_over.Goals as goal

pub make_true-requires-clause-within : goal.make_true-requires-clause-within
make_true-requires-clause-within c = λ l m. let r = c.requires.start l m in omega (arith, r.0, c.next_run-own.auto.last_true)

pub returns-then-are_opposite-clause-end : goal.returns-then-are_opposite-clause-end
returns-then-are_opposite-clause-end c = ap end_of (sym (hints_closed (active_at c.args.store.now) c.args.start.now c.args.hints.now (sym c.are_opposite.ensures ∙ c.if-are_opposite.true)))

pub follow-requires-clause-within : goal.follow-requires-clause-within
follow-requires-clause-within c = λ id l h g m. let r = c.requires.store id l h g m in
    (omega (arith, r.0, c.next_run-own.auto.last_true, c.make_true.auto.last_true), omega (arith, r.1, c.next_run-own.auto.last_true, c.make_true.auto.last_true))

pub returns-clause-end : goal.returns-clause-end
returns-clause-end c = c.follow.ensures.end c.args.start.now c.make_true.ensures.marked ∙ ap end_of (sym (hints_go (active_at c.args.store.now) c.args.start.now c.args.hints.now (sym c.are_opposite.ensures ∙ c.if-are_opposite.false)))
