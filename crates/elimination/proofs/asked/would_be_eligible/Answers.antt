use Rattle.std.proofs.Common.{◌≡◌, ℕ, List, false, map, refl, sym, ◌∙◌, le_refl}
use Rattle.propagation.specs.Clauses.{literals_at}
use Rattle.propagation.specs.Engine.{literals}
use Rattle.restore.specs.Resolution.{has_variable}
use Rattle.elimination_laws.specs.Eligible.{eligible}
use Rattle.occurrence_lists.specs.Occurring.{row, StandsFor}
use Rattle.elimination.specs.Pairs.{clauses_at}
use Rattle.elimination.specs.Known.{numbered, AreListedBy}
use Rattle.elimination.proofs.Pairing.{are_clean}
use Rattle.elimination.proofs.Seen.{value_says, assigned_stays, usable_stored, stands_stored, same_eligible}
use Rattle.elimination.proofs.asked.would_be_eligible.Goals as goal

pub returns-then-is_some : goal.returns-then-is_some
returns-then-is_some c = λ ids b. assigned_stays (map (literals_at c.args.engine.now.clauses) ids) c.args.frozen.now (literals c.args.engine.now.trail) c.args.var
    (value_says (literals c.args.engine.now.trail) c.args.var c.from_code.result c.value-value.result c.requires.positive c.from_code.ensures c.value-value.ensures.value ∙ sym c.is_some.ensures ∙ c.if-is_some.true)

pub could_be_eligible-requires-clause-clean : goal.could_be_eligible-requires-clause-clean
could_be_eligible-requires-clause-clean c = λ l. are_clean c.store-store.result.now c.args.engine.now.vars (row c.args.occurrences.now l) (usable_stored c.args.engine.now.clauses c.store-store.result.now c.args.occurrences.now c.requires.stands.0 c.store-store.ensures.literals c.requires.stands.1
    c.args.engine.now c.args.engine.now.vars l refl c.store-store.ensures.sound (le_refl c.args.engine.now.vars))

pub could_be_eligible-requires-clause-stands : goal.could_be_eligible-requires-clause-stands
could_be_eligible-requires-clause-stands c = (c.requires.stands.0, stands_stored c.args.engine.now.clauses c.store-store.result.now c.args.occurrences.now c.requires.stands.0 c.store-store.ensures.literals c.requires.stands.1)

pub returns : goal.returns
returns c =
    let m = c.args.engine.now.clauses in let st = c.store-store.result.now in let rows = c.args.occurrences.now in let x = c.args.var in
    let trues = literals c.args.engine.now.trail in
    let free : has_variable x trues ≡ false = value_says trues x c.from_code.result c.value-value.result c.requires.positive c.from_code.ensures c.value-value.ensures.value ∙ sym c.is_some.ensures ∙ c.if-is_some.false in
    λ ids a. c.could_be_eligible.ensures ids trues (stands_stored m st rows ids c.store-store.ensures.literals a) free ∙ same_eligible m st rows ids c.store-store.ensures.literals a c.args.frozen.now trues x
