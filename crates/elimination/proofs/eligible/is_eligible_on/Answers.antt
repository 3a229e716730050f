use Rattle.std.proofs.Common.{◌≡◌, ℕ, List, false, map, refl, sym, ◌∙◌}
use Rattle.propagation.specs.Clauses.{literals_at}
use Rattle.propagation.specs.Engine.{literals}
use Rattle.restore.specs.Resolution.{has_variable}
use Rattle.elimination_laws.specs.Eligible.{eligible}
use Rattle.occurrence_lists.specs.Occurring.{StandsFor}
use Rattle.elimination.specs.Pairs.{clauses_at}
use Rattle.elimination.specs.Known.{numbered, AreListedBy}
use Rattle.elimination.proofs.Results.{more_ok}
use Rattle.elimination.proofs.Seen.{value_says, assigned_stays, usable_stored, stands_stored, same_eligible}
use Rattle.elimination.proofs.eligible.is_eligible_on.Goals as goal

pub returns-then-is_some-clause-eligible : goal.returns-then-is_some-clause-eligible
returns-then-is_some-clause-eligible c = λ ids b. assigned_stays (map (literals_at c.args.engine.now.clauses) ids) c.args.frozen.now (literals c.args.engine.now.trail) c.args.var
    (value_says (literals c.args.engine.now.trail) c.args.var c.from_code.result c.value-value.result c.requires.positive c.from_code.ensures c.value-value.ensures.value ∙ sym c.is_some.ensures ∙ c.if-is_some.true)

pub is_eligible-requires-clause-usable : goal.is_eligible-requires-clause-usable
is_eligible-requires-clause-usable c = λ l. usable_stored c.args.engine.now.clauses c.store-store.result.now c.args.occurrences.now c.requires.stands.0 c.store-store.ensures.literals c.requires.stands.1
    c.args.engine.now c.args.resolver.now.reserved l refl c.store-store.ensures.sound c.requires.room

pub is_eligible-requires-clause-stands : goal.is_eligible-requires-clause-stands
is_eligible-requires-clause-stands c = (c.requires.stands.0, stands_stored c.args.engine.now.clauses c.store-store.result.now c.args.occurrences.now c.requires.stands.0 c.store-store.ensures.literals c.requires.stands.1)

pub returns-clause-eligible : goal.returns-clause-eligible
returns-clause-eligible c =
    let m = c.args.engine.now.clauses in let st = c.store-store.result.now in let rows = c.args.occurrences.now in let x = c.args.var in
    let trues = literals c.args.engine.now.trail in
    let free : has_variable x trues ≡ false = value_says trues x c.from_code.result c.value-value.result c.requires.positive c.from_code.ensures c.value-value.ensures.value ∙ sym c.is_some.ensures ∙ c.if-is_some.false in
    more_ok c.is_eligible.result
    (λ b. (ids assigned : List ℕ) → StandsFor rows (numbered st ids) → has_variable x assigned ≡ false → b ≡ eligible (clauses_at st ids) c.args.frozen.now assigned x)
    (λ b. (ids : List ℕ) → AreListedBy m rows ids → b ≡ eligible (map (literals_at m) ids) c.args.frozen.now trues x)
    (λ b h. λ ids a. h ids trues (stands_stored m st rows ids c.store-store.ensures.literals a) free ∙ same_eligible m st rows ids c.store-store.ensures.literals a c.args.frozen.now trues x)
    c.is_eligible.ensures.eligible
