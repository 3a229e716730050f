-- Hints over the clauses that a side keeps are hints of the conversion.
use Rattle.std.proofs.Common.{◌≡◌, ℕ, Bool, true, false, if◌then◌else◌, List, [], ◌∷◌, Option, Some, None, refl, sym, ◌∙◌, subst}
use Rattle.std.specs.Prelude.{is_some, option_map}
use Rattle.std.proofs.lemmas.Bool.{and_from, not_from_false}
use Rattle.lits.specs.Clause.{has}
use Rattle.lits.proofs.Members.{all_from, has_from}
use Rattle.lits.proofs.Ascending.{same_set-set_of}
use Rattle.session_rules.specs.declared.Step.{Step}
use Rattle.session_rules.specs.declared.Standing.{Standing}
use Rattle.session_rules.specs.declared.Standing.TheVariants.{Active, Weakened, Absent}
use Rattle.session_rules.specs.Logic.{hints_fail}
use Rattle.session_rules.specs.Own.{is_active}
use Rattle.clause_store.specs.Clauses.{IsOnce}
use Rattle.side_laws.specs.ClauseStates.{Clauses, active_literals, active_in}
use Rattle.side_laws.specs.Ids.{same_clause, SameClauses}
use Rattle.side_laws.specs.Sets.{GivenClause, given_by, with_id, standing_or_absent, standing_at, clause_at, kept_as, kept_of_given, HoldsSets}
use Rattle.side_laws.proofs.Hints.{hints-same}
use Rattle.elimination_laws.specs.Answers.{has_none_twice}
use Rattle.conversion_laws.specs.Converted.{active_at, HintsClose}

-- ---- The clauses that are kept

by_standing : (s : Standing) (c : List ℕ) → same_clause (active_literals (kept_as s c)) (if is_active s then Some c else None) ≡ true
by_standing Active c = same_set-set_of c
by_standing Weakened c = refl
by_standing Absent c = refl

by_given : (o : Option GivenClause) → same_clause (active_literals (kept_of_given o)) (if is_active (standing_or_absent o) then option_map (λ (g : GivenClause). g.clause) o else None) ≡ true
by_given None = refl
by_given (Some g) = by_standing g.standing g.clause

pub same_kept : (m : Clauses) (next : ℕ) (ps : List Step) → HoldsSets m next ps → SameClauses (active_in m) (active_at ps)
same_kept m next ps h = λ id. subst (λ z. same_clause (active_literals z) (active_at ps id) ≡ true) (sym (h.clauses id)) (by_given (with_id (given_by ps) id))

-- ---- Hints over them

once_from : (xs : List ℕ) → IsOnce xs → has_none_twice xs ≡ true
once_from [] h = refl
once_from (x ∷ xs) h = and_from _ _ (not_from_false _ h.0) (once_from xs h.1)

module _ (f : ℕ → Option (List ℕ)) (ps : List Step) (same : SameClauses f (active_at ps)) where
  active_from : (id : ℕ) → is_some (f id) ≡ true → is_active (standing_at ps id) ≡ true
  active_from id h = by_clause (f id) (is_active (standing_at ps id)) h (same id)
    where
      by_clause : (o : Option (List ℕ)) (b : Bool) → is_some o ≡ true → same_clause o (if b then clause_at ps id else None) ≡ true → b ≡ true
      by_clause None b h s = cc h
      by_clause (Some c) true h s = refl
      by_clause (Some c) false h s = cc s

  pub hints_from : (ls hs : List ℕ) → hints_fail f ls hs ≡ None → IsOnce hs → ((id : ℕ) → has hs id ≡ true → is_some (f id) ≡ true) → HintsClose ps ls hs
  hints_from ls hs close once active = record {
    close = sym (hints-same f (active_at ps) same ls hs) ∙ close;
    once = once_from hs once;
    active = all_from (λ id. is_active (standing_at ps id)) hs (λ id m. active_from id (active id (has_from hs id m)));
  }
