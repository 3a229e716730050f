use Rattle.std.proofs.Common.{List, ℕ, get_or, refl, ap, ◌∙◌, arith}
use Rattle.resolvents.specs.Held.{Held}
use Rattle.elimination.specs.Pairs.{clauses_at, found_with, found_pairs}
use Rattle.elimination.proofs.Pairing.{are_clean, too_many, few_enough, counted_first, counted_all}
use Rattle.elimination.proofs.pairs.has_few_resolvents.Goals as goal

pub returns-then-count-most-clause-few : goal.returns-then-count-most-clause-few
returns-then-count-most-clause-few c =
    let m = c.args.store.now in let x = c.args.var in
    let held = c.in_ok-hold.ensures.ok in
    let lits = ap (λ (h : Held). h.clause) held ∙ c.lits_of.ensures in
    let found = c.count_with-count.ensures.found ∙ ap (λ (z : List ℕ). found_with x z (clauses_at m c.args.against.now)) lits in
    let le = counted_first m x c.args.with.now c.args.against.now c.loop-id.id-index (get_or c.args.with.now c.loop-id.id-index 0) c.loop-id.count c.count_with-count.result (found_pairs x (clauses_at m c.args.with.now) (clauses_at m c.args.against.now)) c.loop-id-test.true refl found c.loop-id.invariant.found in
    too_many m x c.args.with.now c.args.against.now (are_clean m c.args.resolver.now.reserved c.args.with.now c.requires.usable_with) (are_clean m c.args.resolver.now.reserved c.args.against.now c.requires.usable_against) c.requires.hold c.requires.hold_negation (omega (arith, le, c.if-count-most.true))

pub returns-clause-few : goal.returns-clause-few
returns-clause-few c =
    let m = c.args.store.now in let x = c.args.var in
    let all = counted_all m x c.args.with.now c.args.against.now c.loop-id.id-index c.loop-id.count (found_pairs x (clauses_at m c.args.with.now) (clauses_at m c.args.against.now)) c.loop-id-test.false c.loop-id.invariant.found in
    few_enough m x c.args.with.now c.args.against.now (are_clean m c.args.resolver.now.reserved c.args.with.now c.requires.usable_with) (are_clean m c.args.resolver.now.reserved c.args.against.now c.requires.usable_against) c.requires.hold c.requires.hold_negation (omega (arith, all, c.loop-id.invariant.few))
