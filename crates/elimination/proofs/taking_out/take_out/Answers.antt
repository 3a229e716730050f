use Rattle.std.proofs.Common.{◌≡◌, ℕ, ◌-◌, List, length, take, drop, Contains, refl, subst}
use Rattle.elimination.specs.Resolving.{IsSecond}
use Rattle.elimination.proofs.EachResolved.{broken_later}
use Rattle.elimination.proofs.TakenOut.{rest_is, resolved_as, still_irredundant, still_holding, broken_last}
use Rattle.elimination.proofs.taking_out.take_out.Goals as goal

pub resolve_all-requires-clause-seconds : goal.resolve_all-requires-clause-seconds
resolve_all-requires-clause-seconds g c = λ j m. c.requires.seconds j (subst (λ (z : List ℕ). Contains z j) (rest_is c.args.ids.now c.args.split) m)

pub returns-in-Err-delete_lemmas-clause-broken : goal.returns-in-Err-delete_lemmas-clause-broken
returns-in-Err-delete_lemmas-clause-broken g c = broken_later g.L.Log.takes g.L.Log.refuses c.args.var c.args.log.now c.resolve_all.new.log c.delete_lemmas.new.log c.args.clauses.now c.resolve_all.new.clauses c.resolve_all.new.clauses
    (take c.args.split c.args.ids.now) (take (length c.args.ids.now - c.args.split) (drop c.args.split c.args.ids.now)) c.in-Err-delete_lemmas.fault c.in_default.ensures.each c.in-Err-delete_lemmas.ensures.broken

pub weaken_each-requires-clause-irredundant : goal.weaken_each-requires-clause-irredundant
weaken_each-requires-clause-irredundant g c = still_irredundant g.L.Log.takes c.args.var c.args.log.now c.resolve_all.new.log c.delete_lemmas.new.log c.args.clauses.now c.resolve_all.new.clauses c.delete_lemmas.new.clauses c.args.ids.now c.args.split
    (take c.args.split c.args.ids.now) (take (length c.args.ids.now - c.args.split) (drop c.args.split c.args.ids.now)) refl (rest_is c.args.ids.now c.args.split) c.requires.firsts c.requires.seconds c.in_default.ensures.each c.in_default-delete_lemmas.ensures.deleted

pub weaken_each-requires-clause-holding : goal.weaken_each-requires-clause-holding
weaken_each-requires-clause-holding g c = still_holding g.L.Log.takes c.args.var c.args.log.now c.resolve_all.new.log c.delete_lemmas.new.log c.args.clauses.now c.resolve_all.new.clauses c.delete_lemmas.new.clauses c.args.ids.now c.args.split
    (take c.args.split c.args.ids.now) (take (length c.args.ids.now - c.args.split) (drop c.args.split c.args.ids.now)) refl (rest_is c.args.ids.now c.args.split) c.requires.firsts c.requires.seconds c.in_default.ensures.each c.in_default-delete_lemmas.ensures.deleted

pub returns-in-Err-weaken_each-clause-broken : goal.returns-in-Err-weaken_each-clause-broken
returns-in-Err-weaken_each-clause-broken g c = broken_last g.L.Log.takes c.args.var c.args.log.now c.resolve_all.new.log c.delete_lemmas.new.log c.args.clauses.now c.resolve_all.new.clauses c.delete_lemmas.new.clauses c.args.ids.now c.args.split
    (take c.args.split c.args.ids.now) (take (length c.args.ids.now - c.args.split) (drop c.args.split c.args.ids.now)) refl (rest_is c.args.ids.now c.args.split) c.requires.firsts c.requires.seconds c.in_default.ensures.each c.in_default-delete_lemmas.ensures.deleted
    g.L.Log.refuses c.weaken_each.new.log c.in-Err-weaken_each.fault c.in-Err-weaken_each.ensures.broken

pub returns-clause-taken : goal.returns-clause-taken
returns-clause-taken g c = record {
  resolved = c.resolve_all.new.clauses;
  behind_resolvents = c.resolve_all.new.log;
  resolves = resolved_as g.L.Log.takes c.args.var c.args.log.now c.resolve_all.new.log c.delete_lemmas.new.log c.args.clauses.now c.resolve_all.new.clauses c.delete_lemmas.new.clauses c.args.ids.now c.args.split
      (take c.args.split c.args.ids.now) (take (length c.args.ids.now - c.args.split) (drop c.args.split c.args.ids.now)) refl (rest_is c.args.ids.now c.args.split) c.requires.firsts c.requires.seconds c.in_default.ensures.each;
  deleted = c.delete_lemmas.new.clauses;
  behind_deletions = c.delete_lemmas.new.log;
  deletes = c.in_default-delete_lemmas.ensures.deleted;
  weakens = c.in_default-weaken_each.ensures.weakened;
}
