use Rattle.std.proofs.Common.{◌≡◌, ◌+◌, ◌<◌, ◌++◌, length, arith}
use Rattle.elimination_laws.specs.Eligible.{has_few_resolvents}
use Rattle.elimination.specs.Pairs.{clauses_at, may_go}
use Rattle.elimination.proofs.Results.{more_ok}
use Rattle.elimination.proofs.Pairing.{are_clean, many_with, many_against, few_go}
use Rattle.elimination.proofs.pairs.may_go.Goals as goal

pub returns-then-with-gt-MOST_HOLDING-clause-goes : goal.returns-then-with-gt-MOST_HOLDING-clause-goes
returns-then-with-gt-MOST_HOLDING-clause-goes c = many_with c.args.store.now c.args.var c.args.with.now c.args.against.now (are_clean c.args.store.now c.args.resolver.now.reserved c.args.with.now c.requires.usable_with) (are_clean c.args.store.now c.args.resolver.now.reserved c.args.against.now c.requires.usable_against) c.requires.hold c.requires.hold_negation c.if-with-gt-MOST_HOLDING.true

pub returns-then-against-gt-MOST_HOLDING-clause-goes : goal.returns-then-against-gt-MOST_HOLDING-clause-goes
returns-then-against-gt-MOST_HOLDING-clause-goes c = many_against c.args.store.now c.args.var c.args.with.now c.args.against.now (are_clean c.args.store.now c.args.resolver.now.reserved c.args.with.now c.requires.usable_with) (are_clean c.args.store.now c.args.resolver.now.reserved c.args.against.now c.requires.usable_against) c.requires.hold c.requires.hold_negation c.if-against-gt-MOST_HOLDING.true

pub returns-clause-goes : goal.returns-clause-goes
returns-clause-goes c =
    let some = c.if-with-against-eq0.false in
    let up : 0 < length c.args.with.now + length c.args.against.now = omega (arith, some) in
    more_ok c.has_few_resolvents.result
    (λ b. b ≡ has_few_resolvents (clauses_at c.args.store.now c.args.with.now ++ clauses_at c.args.store.now c.args.against.now) c.args.var)
    (λ b. b ≡ may_go (clauses_at c.args.store.now c.args.with.now ++ clauses_at c.args.store.now c.args.against.now) c.args.var)
    (λ b e. few_go c.args.store.now c.args.var c.args.with.now c.args.against.now (are_clean c.args.store.now c.args.resolver.now.reserved c.args.with.now c.requires.usable_with) (are_clean c.args.store.now c.args.resolver.now.reserved c.args.against.now c.requires.usable_against) c.requires.hold c.requires.hold_negation b up c.if-with-gt-MOST_HOLDING.false c.if-against-gt-MOST_HOLDING.false e)
    c.has_few_resolvents.ensures.few
