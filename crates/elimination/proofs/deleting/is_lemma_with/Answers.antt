use Rattle.std.proofs.Common.{◌≡◌, true, false, not, List, ℕ, refl, sym, ap, ◌∙◌, subst}
use Rattle.std.proofs.lemmas.Bool.{not-true, not_from_false}
use Rattle.lits.specs.Clause.{is_tautology, set_of}
use Rattle.lits.proofs.Ascending.{same_set-set_of}
use Rattle.lits.proofs.Sets.{tautology-same}
use Rattle.clause_store.specs.Clauses.{lits_at}
use Rattle.restore.specs.Resolution.{has_variable}
use Rattle.elimination.proofs.Erasing.{not_holding, lemma_here, no_lemma, redundant_not, tested, not_false}
use Rattle.elimination.proofs.deleting.is_lemma_with.Goals as goal

pub returns-then-not-is_frozen-clause-no : goal.returns-then-not-is_frozen-clause-no
returns-then-not-is_frozen-clause-no c = λ e. not_holding c.args.var c.args.id c.args.clauses.now c.store-store.result.now c.store-store.ensures.clauses c.store-store.ensures.literals
    (ap (has_variable c.args.var) (sym c.lits_of-lits.ensures) ∙ sym c.is_frozen.ensures ∙ c.if-not-is_frozen.true)

pub returns-then-has-clause-no : goal.returns-then-has-clause-no
returns-then-has-clause-no c = λ e. redundant_not c.args.var c.args.id c.args.clauses.now (sym c.has.ensures ∙ c.if-has.true)

pub returns-clause-yes : goal.returns-clause-yes
returns-clause-yes c = λ e. lemma_here c.args.var c.args.id c.args.clauses.now c.store-store.result.now c.store-store.ensures.clauses c.store-store.ensures.literals
    (ap (has_variable c.args.var) (sym c.lits_of-lits.ensures) ∙ sym c.is_frozen.ensures ∙ c.if-not-is_frozen.false)
    (sym c.has.ensures ∙ c.if-has.false)
    (sym (tested c.tautology.result c.in_ok-set.set c.lits_of-lits.result.now (lits_at c.store-store.result.now c.args.id) c.tautology.ensures c.in_ok-set.ensures.set c.lits_of-lits.ensures) ∙ not-true _ e)

pub returns-clause-no : goal.returns-clause-no
returns-clause-no c = λ e. no_lemma c.args.var c.args.id c.args.clauses.now c.store-store.result.now c.store-store.ensures.clauses c.store-store.ensures.literals
    (sym (tested c.tautology.result c.in_ok-set.set c.lits_of-lits.result.now (lits_at c.store-store.result.now c.args.id) c.tautology.ensures c.in_ok-set.ensures.set c.lits_of-lits.ensures) ∙ not_false c.tautology.result e)
