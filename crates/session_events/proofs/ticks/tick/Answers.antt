use Rattle.std.proofs.Common.{◌<◌, not, length, get_or, sym, ◌∙◌, ap, arith}
use Rattle.std.proofs.lemmas.List.{get_or_read}
use Rattle.std.proofs.lemmas.Bool.{both_ways}
use Rattle.session_events.specs.Ticks.{is_ticked}
use Rattle.session_events.proofs.Ticking.{ticking-more, ticking-clash, place_of}
use Rattle.session_events.proofs.ticks.tick.Goals.{then-is_none+then-ticks-code, else-is_none, else-is_none-via-then-is_none+else-ticks-code, else-is_none-via-else-is_none}
use Rattle.session_events.proofs.ticks.tick.Goals as goal

pub loop-l-preserved : goal.loop-l-preserved
loop-l-preserved c =
    let ticks = c.loop-l.ticks in let lits = c.args.lits.now in let i = c.loop-l.l-index in let l = c.l-item.result in
    let is = get_or_read lits i l (omega arith) c.l-item.is 0 in
    let place = place_of (length c.args.ticks.now) (get_or lits i 0) (c.requires.place i 0 (omega arith)) in
    let in_table : l < length ticks = omega (arith, is, place.0) in
    rw c.code-in-loop-l.ensures.code (elim c.if-is_none.branch [
      | then-is_none+then-ticks-code w ↦
          let seen = ap (is_ticked ticks) (sym (w.code.ensures.code ∙ w.neg.ensures.negation)) ∙ w.if-ticks-code.true in
          rw w.clash-is (ticking-clash ticks lits c.loop-l.clash i l (omega arith) is in_table c.loop-l.invariant w.if-is_none.ensures seen)
      | else-is_none w ↦ rw w.clash-is (elim w.else-is_none.branch [
        | else-is_none-via-then-is_none+else-ticks-code v ↦
            let unseen = ap (is_ticked ticks) (sym (v.code.ensures.code ∙ v.neg.ensures.negation)) ∙ v.if-ticks-code.false in
            ticking-more ticks lits c.loop-l.clash i l (omega arith) is in_table c.loop-l.invariant (λ _. unseen)
        | else-is_none-via-else-is_none v ↦
            ticking-more ticks lits c.loop-l.clash i l (omega arith) is in_table c.loop-l.invariant (λ none. absurd (both_ways _ none (c.is_none.ensures ∙ ap not v.if-is_none.false)))
      ])
    ])
