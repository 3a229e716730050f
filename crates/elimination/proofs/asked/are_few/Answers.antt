use Rattle.std.proofs.Common.{List, ℕ, get_or, refl, ap, ◌∙◌, arith}
use Rattle.elimination.specs.Pairs.{clauses_at, found_with, found_pairs}
use Rattle.elimination.proofs.Pairing.{too_many, few_enough, counted_first, counted_all}
use Rattle.elimination.proofs.asked.are_few.Goals as goal

pub returns-then-count-most : goal.returns-then-count-most
returns-then-count-most c =
    let m = c.args.store.now in let x = c.args.var in
    let found = c.count_of-count.ensures.found ∙ ap (λ (z : List ℕ). found_with x z (clauses_at m c.args.against.now)) c.lits_of.ensures in
    let le = counted_first m x c.args.with.now c.args.against.now c.loop-id.id-index (get_or c.args.with.now c.loop-id.id-index 0) c.loop-id.count c.count_of-count.result (found_pairs x (clauses_at m c.args.with.now) (clauses_at m c.args.against.now)) c.loop-id-test.true refl found c.loop-id.invariant.found in
    too_many m x c.args.with.now c.args.against.now c.requires.clean_with c.requires.clean_against c.requires.hold c.requires.hold_negation (omega (arith, le, c.if-count-most.true))

pub returns : goal.returns
returns c =
    let m = c.args.store.now in let x = c.args.var in
    let all = counted_all m x c.args.with.now c.args.against.now c.loop-id.id-index c.loop-id.count (found_pairs x (clauses_at m c.args.with.now) (clauses_at m c.args.against.now)) c.loop-id-test.false c.loop-id.invariant.found in
    few_enough m x c.args.with.now c.args.against.now c.requires.clean_with c.requires.clean_against c.requires.hold c.requires.hold_negation (omega (arith, all, c.loop-id.invariant.few))
