use Rattle.std.proofs.Common.{◌≡◌, ◌++◌, ℕ, List, false, ap, sym, subst, ◌∙◌, Contains}
use Rattle.lits.specs.Literal.{of_var, neg}
use Rattle.restore.specs.Resolution.{has_variable}
use Rattle.elimination_laws.specs.Eligible.{eligible}
use Rattle.occurrence_lists.specs.Occurring.{row, StandsFor}
use Rattle.elimination.specs.Pairs.{clauses_at, may_go, AreUsable}
use Rattle.elimination.specs.Known.{numbered}
use Rattle.elimination.proofs.Results.{more_ok}
use Rattle.elimination.proofs.Pairing.{are_clean}
use Rattle.elimination.proofs.Deciding.{frozen_stays, listed_holds, listed_negated, decided}
use Rattle.elimination.proofs.eligible.is_eligible.Goals as goal

pub returns-then-is_frozen-clause-eligible : goal.returns-then-is_frozen-clause-eligible
returns-then-is_frozen-clause-eligible c = λ ids assigned s a. frozen_stays c.args.store.now c.args.occurrences.now ids s c.args.var c.args.frozen.now assigned (sym c.is_frozen.ensures ∙ c.if-is_frozen.true)

pub may_go-requires-clause-usable_with : goal.may_go-requires-clause-usable_with
may_go-requires-clause-usable_with c = subst (λ (z : List ℕ). AreUsable c.args.store.now c.args.resolver.now.reserved z) (sym c.ids.ensures) (c.requires.usable c.from_code-l.result)

pub may_go-requires-clause-usable_against : goal.may_go-requires-clause-usable_against
may_go-requires-clause-usable_against c = subst (λ (z : List ℕ). AreUsable c.args.store.now c.args.resolver.now.reserved z) (sym c.ids-2.ensures) (c.requires.usable c.neg.result)

pub may_go-requires-clause-hold : goal.may_go-requires-clause-hold
may_go-requires-clause-hold c = λ id m.
    let at : c.ids.result.now ≡ row c.args.occurrences.now (of_var c.args.var) = c.ids.ensures ∙ ap (row c.args.occurrences.now) c.from_code-l.ensures in
    listed_holds c.args.store.now c.args.occurrences.now c.requires.stands.0 c.requires.stands.1 c.args.var id c.requires.positive (subst (λ (z : List ℕ). Contains z id) at m)

pub may_go-requires-clause-hold_negation : goal.may_go-requires-clause-hold_negation
may_go-requires-clause-hold_negation c = λ id m.
    let at : c.ids-2.result.now ≡ row c.args.occurrences.now (neg (of_var c.args.var)) = c.ids-2.ensures ∙ ap (row c.args.occurrences.now) (c.neg.ensures.negation ∙ ap neg c.from_code-l.ensures) in
    listed_negated c.args.store.now c.args.occurrences.now c.requires.stands.0 c.requires.stands.1 c.args.var id c.requires.positive (subst (λ (z : List ℕ). Contains z id) at m)

pub returns-clause-eligible : goal.returns-clause-eligible
returns-clause-eligible c =
    let m = c.args.store.now in let rows = c.args.occurrences.now in let x = c.args.var in
    let one : c.ids.result.now ≡ row rows (of_var x) = c.ids.ensures ∙ ap (row rows) c.from_code-l.ensures in
    let two : c.ids-2.result.now ≡ row rows (neg (of_var x)) = c.ids-2.ensures ∙ ap (row rows) (c.neg.ensures.negation ∙ ap neg c.from_code-l.ensures) in
    let f : has_variable x c.args.frozen.now ≡ false = sym c.is_frozen.ensures ∙ c.if-is_frozen.false in
    more_ok c.may_go.result
    (λ b. b ≡ may_go (clauses_at m c.ids.result.now ++ clauses_at m c.ids-2.result.now) x)
    (λ b. (ids assigned : List ℕ) → StandsFor rows (numbered m ids) → has_variable x assigned ≡ false → b ≡ eligible (clauses_at m ids) c.args.frozen.now assigned x)
    (λ b e. λ ids assigned s a. decided m rows ids s x c.args.frozen.now assigned b c.requires.positive (λ l. are_clean m c.args.resolver.now.reserved (row rows l) (c.requires.usable l)) f a
    (e ∙ ap (λ (z : List ℕ). may_go (clauses_at m z ++ clauses_at m c.ids-2.result.now) x) one ∙ ap (λ (z : List ℕ). may_go (clauses_at m (row rows (of_var x)) ++ clauses_at m z) x) two))
    c.may_go.ensures.goes
