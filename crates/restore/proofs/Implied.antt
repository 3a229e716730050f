-- That some clauses entail a clause says the same as that they imply it.
use Rattle.std.proofs.Common.{◌≡◌, ℕ, Bool, true, false, List, map, Contains, refl, sym, ◌∙◌, ap, subst, inl, inr}
use Rattle.std.proofs.lemmas.Bool.{cases_Bool, both_ways, not_from_false}
use Rattle.lits.specs.Literal.{neg}
use Rattle.lits.proofs.Members.{all_at, all_from, any_at}
use Rattle.session_rules.specs.Logic.{satisfies, satisfies_clause, satisfies_each, Implies}
use Rattle.session_rules.proofs.Closing.{satisfies-neg_is, satisfies-neg}
use Rattle.restore.specs.Resolution.{Entails}
use Rattle.restore.proofs.Joined.{map_at, map_from}
use Rattle.restore.proofs.Extending.{none_at}

pub Entails-Implies : (cs : List (List ℕ)) (c : List ℕ) → Entails cs c → Implies cs c
Entails-Implies cs c h v f each =
    let l = any_at (satisfies v) c (h v f) in
    satisfies-neg v l.0 l.2 (all_at (satisfies v) (map neg c) (neg l.0) each (map_from neg c l.0 l.1))

-- where no literal of a clause is true, each negation is
negations_true : (v : ℕ → Bool) (c : List ℕ) → satisfies_clause v c ≡ false → satisfies_each v (map neg c) ≡ true
negations_true v c e = all_from (satisfies v) (map neg c) (λ m is.
    let l = map_at neg c m is in
    subst (λ z. satisfies v z ≡ true) l.2 (satisfies-neg_is v l.0 ∙ not_from_false _ (none_at (satisfies v) c l.0 e l.1)))

pub Implies-Entails : (cs : List (List ℕ)) (c : List ℕ) → Implies cs c → Entails cs c
Implies-Entails cs c h v f = elim (cases_Bool (satisfies_clause v c)) [ inl q ↦ q | inr q ↦ absurd (h v f (negations_true v c q)) ]
