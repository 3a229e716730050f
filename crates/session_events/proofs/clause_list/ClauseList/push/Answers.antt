use Rattle.std.proofs.Common.{length, ap, length-append, arith}
use Rattle.session_events.proofs.Regions.{reaches-push, pieces-push}
use Rattle.session_events.proofs.clause_list.ClauseList.push.Goals as goal

pub invariant_of-self-in-Ok : goal.invariant_of-self-in-Ok
invariant_of-self-in-Ok c =
    let region = c.self.inside.literals.items in let whole = c.extend_from_slice.new.self in
    let more = length-append region c.args.clause.now in let is = ap length c.in_ok-extend_from_slice.ensures.items in
    rw c.in-Ok.ensures.items (reaches-push 0 c.self.inside.ends.items (length region) c.len.result (length whole.items) c.self.invariant
    (omega (arith, c.len.ensures, whole.ok.0)) (omega (arith, c.len.ensures, whole.ok.0)))

pub returns-in-Ok-clause-ok : goal.returns-in-Ok-clause-ok
returns-in-Ok-clause-ok c =
    let region = c.self.inside.literals.items in let whole = c.extend_from_slice.new.self in let is = ap length c.in_ok-extend_from_slice.ensures.items in
    rw (c.in-Ok.ensures.items, c.in_ok-extend_from_slice.ensures.items, ← c.self.view_is)
    (pieces-push region c.args.clause.now 0 c.self.inside.ends.items c.len.result c.self.invariant (omega (arith, c.len.ensures, whole.ok.0)))
