use Rattle.std.proofs.Common.{ap, subst, sym, ◌∙◌}
use Rattle.clause_store.specs.Clauses.{IsStore}
use Rattle.propagation.specs.Clauses.{clauses_of}
use Rattle.propagation.proofs.ClausesMap.{stored_slot, stored_literals}
use Rattle.propagation.proofs.Engine.store.Goals as goal

pub returns-clause-clauses : goal.returns-clause-clauses
returns-clause-clauses c = ap clauses_of c.store.ensures.clauses ∙ ap (λ z. z.clauses) c.self.view_is

pub returns-clause-stored : goal.returns-clause-stored
returns-clause-stored c = subst IsStore (sym c.store.ensures.clauses) c.store.ensures.sound.store

pub returns-clause-slots : goal.returns-clause-slots
returns-clause-slots c = stored_slot c.store.result.now c.args.self.now.clauses (ap clauses_of c.store.ensures.clauses ∙ ap (λ z. z.clauses) c.self.view_is)

pub returns-clause-literals : goal.returns-clause-literals
returns-clause-literals c = stored_literals c.store.result.now c.args.self.now.clauses (ap clauses_of c.store.ensures.clauses ∙ ap (λ z. z.clauses) c.self.view_is)
    (subst IsStore (sym c.store.ensures.clauses) c.store.ensures.sound.store)
