use Rattle.std.proofs.Common.{◌≡◌, ℕ, List, true, ap, sym, subst, ◌∙◌}
use Rattle.std.specs.List.{list_any}
use Rattle.lits.specs.Clause.{has, same_set}
use Rattle.elimination.specs.Pairs.{clauses_at}
use Rattle.elimination.specs.Known.{AreComparable}
use Rattle.elimination.proofs.Knowing.{known_is}
use Rattle.elimination.proofs.known.is_known.Goals as goal

pub is_among-requires-clause-comparable : goal.is_among-requires-clause-comparable
is_among-requires-clause-comparable c = subst (λ (z : List ℕ). AreComparable c.args.store.now c.args.resolver.now.reserved z) (sym c.ids.ensures) (c.requires.comparable c.rarest-l.result)

pub returns : goal.returns
returns c = λ ids s.
    let h : has c.args.resolver.now.clause c.rarest-l.result ≡ true = subst (λ (z : List ℕ). has z c.rarest-l.result ≡ true) c.held.ensures c.rarest-l.ensures in
    c.is_among.ensures ∙ ap (λ (z : List ℕ). list_any (same_set c.args.resolver.now.clause) (clauses_at c.args.store.now z)) c.ids.ensures
    ∙ known_is c.args.store.now c.args.occurrences.now ids c.args.resolver.now.clause c.rarest-l.result s h
