-- An eligible variable has no entry, and the events of steps by their clauses.
use Rattle.std.proofs.Common.{◌≡◌, ℕ, true, false, nat_eq, List, [], ◌∷◌, ◌++◌, map, filter_map, Some, refl, sym, ◌∙◌, subst, ap, inl, inr, eqb-true}
use Rattle.std.proofs.lemmas.Bool.{cases_Bool, both_ways}
use Rattle.std.proofs.lemmas.List.Elements.{filter_map-append}
use Rattle.lits.proofs.Members.{any_at}
use Rattle.session_rules.specs.declared.LStep.{LStep}
use Rattle.session_rules.specs.Own.{event_of, events_of, id_event_of, id_events_of, clause_of}
use Rattle.restore.specs.Resolution.{has_variable}
use Rattle.restore.specs.declared.lists.Elim.{Elim}
use Rattle.restore.specs.Stack.{KeepsResolvents, has_entry}
use Rattle.restore.proofs.Extending.{none_from}
use Rattle.restore.proofs.Keeping.{Kept-apart}
use Rattle.restore.proofs.Taking.{all_variables_at}
use Rattle.elimination_laws.specs.Eligible.{eligible}
use Rattle.elimination_laws.specs.ByClauses.{named_clauses, step_by_clauses, by_clauses_from, by_clauses}
use Rattle.elimination_laws.proofs.Deciding.{eligible-stands}
use Rattle.session_rules.specs.declared.Step.TheVariants as steps
use Rattle.session_rules.specs.declared.LStep.TheVariants as lsteps

-- an eligible variable isn't in the stack
pub eligible-unstacked : (es : List Elim) (irr : List (List ℕ)) (frozen assigned : List ℕ) (x : ℕ) → KeepsResolvents es irr → eligible irr frozen assigned x ≡ true → has_entry es x ≡ false
eligible-unstacked es irr frozen assigned x k h = let c = any_at (has_variable x) irr (all_variables_at irr x (eligible-stands irr frozen assigned x h)) in
    none_from (λ (e : Elim). nat_eq e.var x) es (λ e m. elim (cases_Bool (nat_eq e.var x)) [
      | inl q ↦ let f : e.var ≡ x = eqb-true _ _ q in
          absurd (both_ways _ (subst (λ z. has_variable z c.0 ≡ false) f (Kept-apart es irr k e c.0 m c.1)) c.2)
      | inr q ↦ q
    ])

-- ---- Steps with ids

step_events : (before : List LStep) (p : LStep) → events_of (step_by_clauses before p) ≡ filter_map id_event_of (p ∷ [])
step_events before (lsteps.Input id c) = refl
step_events before (lsteps.Lemma id c hs) = refl
step_events before (lsteps.Delete is) = none (named_clauses before is)
  where
    none : (cs : List (List ℕ)) → events_of (map (λ c. steps.Delete c) cs) ≡ []
    none [] = refl
    none (c ∷ cs) = none cs
step_events before (lsteps.Weaken is) = none (named_clauses before is)
  where
    none : (cs : List (List ℕ)) → events_of (map (λ c. steps.Weaken c) cs) ≡ []
    none [] = refl
    none (c ∷ cs) = none cs
step_events before (lsteps.Restore is) = none (named_clauses before is)
  where
    none : (cs : List (List ℕ)) → events_of (map (λ c. steps.Restore c) cs) ≡ []
    none [] = refl
    none (c ∷ cs) = none cs
step_events before (lsteps.Query ls) = refl
step_events before (lsteps.Status s) = refl
step_events before (lsteps.Model m) = refl
step_events before (lsteps.Core u hs) = refl

by_clauses_from-events : (before ps : List LStep) → events_of (by_clauses_from before ps) ≡ id_events_of ps
by_clauses_from-events before [] = refl
by_clauses_from-events before (p ∷ ps) = filter_map-append event_of (step_by_clauses before p) (by_clauses_from (before ++ p ∷ []) ps)
    ∙ ap (λ z. z ++ events_of (by_clauses_from (before ++ p ∷ []) ps)) (step_events before p) ∙ ap (λ z. filter_map id_event_of (p ∷ []) ++ z) (by_clauses_from-events (before ++ p ∷ []) ps)
    ∙ sym (filter_map-append id_event_of (p ∷ []) ps)

-- steps by their clauses have the same events
pub by_clauses-events : (ps : List LStep) → events_of (by_clauses ps) ≡ id_events_of ps
unfolding by_clauses
by_clauses-events ps = by_clauses_from-events [] ps

-- an id alone stands for its clause
pub deleted-by_clauses : (before : List LStep) (id : ℕ) (c : List ℕ) → clause_of before id ≡ Some c → step_by_clauses before (lsteps.Delete (id ∷ [])) ≡ steps.Delete c ∷ []
deleted-by_clauses before id c e = rw e refl

pub weakened-by_clauses : (before : List LStep) (id : ℕ) (c : List ℕ) → clause_of before id ≡ Some c → step_by_clauses before (lsteps.Weaken (id ∷ [])) ≡ steps.Weaken c ∷ []
weakened-by_clauses before id c e = rw e refl

pub restored-by_clauses : (before : List LStep) (id : ℕ) (c : List ℕ) → clause_of before id ≡ Some c → step_by_clauses before (lsteps.Restore (id ∷ [])) ≡ steps.Restore c ∷ []
restored-by_clauses before id c e = rw e refl
