-- What each step with ids changes of the clauses that are held.
use Rattle.std.proofs.Common.{◌≡◌, ◌≢◌, ℕ, ◌+◌, Bool, if◌then◌else◌, true, false, nat_eq, List, [], ◌∷◌, ◌++◌, filter, filter_map, flat_map, Option, Some, None, refl, sym, ◌∙◌, ap, inl, inr, eq-eqb, ne_eqb, append_assoc, append-nil}
use Rattle.std.specs.Prelude.{option_map}
use Rattle.std.specs.List.{last_or}
use Rattle.std.proofs.lemmas.Option.{same_Some}
use Rattle.std.proofs.lemmas.List.Elements.{filter_map-append, filter-append}
use Rattle.std.proofs.lemmas.Grind.{flat_map-append}
use Rattle.std.proofs.lemmas.List.{map-append}
use Rattle.std.specs.Ordering.{nat_cmp}
use Rattle.std.specs.FinMap.{get, empty, get-empty}
use Rattle.lits.specs.Clause.{has, same_set, set_of}
use Rattle.lits.proofs.Sets.{same_from}
use Rattle.lits.proofs.Ascending.{has-set_of}
use Rattle.session_rules.specs.declared.LStep.{LStep}
use Rattle.session_rules.specs.declared.LStep.TheVariants as lsteps
use Rattle.session_rules.specs.declared.Standing.{Standing}
use Rattle.session_rules.specs.declared.Standing.TheVariants.{Active, Weakened, Absent}
use Rattle.session_rules.specs.History.{last}
use Rattle.session_rules.specs.Own.{is_active, each_is, mentions, standing, standing_after, given_clause, clause_or_none, clause_of, active_clause, first_not}
use Rattle.side_laws.specs.ClauseStates.{ClauseState, Clauses, kept, standing_of, active_literals, active_in, ChangesAt}
use Rattle.session_rules.specs.Logic.{hints_fail}
use Rattle.side_laws.specs.Ids.{HoldsIds, same_clause, SameClauses}
use Rattle.side_laws.proofs.Hints.{hints-same}
use Rattle.side_laws.proofs.Maps.{same_or_other}

-- ---- The last element

last_or-push : {X : Type 0} (xs : List X) (o : Option X) (x : X) → last_or o (xs ++ x ∷ []) ≡ Some x
last_or-push [] o x = refl
last_or-push (y ∷ ys) o x = last_or-push ys (Some y) x

-- ---- One more place that names an id

module _ (ms : List (ℕ × Standing)) (i : ℕ) (s : Standing) where
  standing-same : standing (ms ++ (i, s) ∷ []) i ≡ s
  standing-same = rw (
    filter-append (λ (m : ℕ × Standing). nat_eq m.0 i) ms ((i, s) ∷ []),
    eq-eqb i i refl,
    last_or-push (filter (λ (m : ℕ × Standing). nat_eq m.0 i) ms) None (i, s),
  ) refl

  standing-other : (id : ℕ) → id ≢ i → standing (ms ++ (i, s) ∷ []) id ≡ standing ms id
  standing-other id ne = let other : nat_eq i id ≡ false = ne_eqb i id (λ e. ne (sym e)) in
      rw (filter-append (λ (m : ℕ × Standing). nat_eq m.0 id) ms ((i, s) ∷ []), other, append-nil) refl

pub mentions-push : (ps : List LStep) (p : LStep) → flat_map mentions (ps ++ p ∷ []) ≡ flat_map mentions ps ++ mentions p
mentions-push ps p = rw (flat_map-append, append-nil) refl

given-push : (ps : List LStep) (p : LStep) → given_clause p ≡ None → filter_map given_clause (ps ++ p ∷ []) ≡ filter_map given_clause ps
given-push ps p e = rw (filter_map-append, e, append-nil) refl

-- ---- What is kept of an id

pub holds_nothing : HoldsIds empty []
holds_nothing = record {
  standings = λ id. rw (get-empty nat_cmp id) refl;
  literals = λ id k e. let f : None ≡ Some k = sym (get-empty nat_cmp id) ∙ e in cc f;
}

-- a step that names no id
pub holds_silent : (m : Clauses) (ps : List LStep) (p : LStep) → given_clause p ≡ None → mentions p ≡ [] → HoldsIds m ps → HoldsIds m (ps ++ p ∷ [])
holds_silent m ps p gives names h = record {
  standings = λ id. h.standings id ∙ sym (rw (mentions-push ps p, names, append-nil) refl);
  literals = λ id k e. rw (filter_map-append, gives, append-nil) (h.literals id k e);
}

-- a step that gives a clause
module _ (m n : Clauses) (ps : List LStep) (p : LStep) (i : ℕ) (c : List ℕ) (gives : given_clause p ≡ Some (i, c)) (names : mentions p ≡ (i, Active) ∷ [])
    (change : ChangesAt m n i (Some (kept true (set_of c)))) (h : HoldsIds m ps) where
  given_now : clause_of (ps ++ p ∷ []) i ≡ Some c
  given_now = rw (filter_map-append, gives, filter-append, eq-eqb i i refl, last_or-push (filter (λ (q : ℕ × List ℕ). nat_eq q.0 i) (filter_map given_clause ps)) None (i, c)) refl

  given_before : (id : ℕ) → id ≢ i → clause_of (ps ++ p ∷ []) id ≡ clause_of ps id
  given_before id ne = let other : nat_eq i id ≡ false = ne_eqb i id (λ e. ne (sym e)) in rw (filter_map-append, gives, filter-append, other, append-nil) refl

  pub holds_given : HoldsIds n (ps ++ p ∷ [])
  holds_given = record {
    standings = λ id. elim (same_or_other id i) [
      | inl e ↦ rw (e, change.there, mentions-push ps p, names) (sym (standing-same (flat_map mentions ps) i Active))
      | inr ne ↦ rw (change.others id ne, mentions-push ps p, names) (h.standings id ∙ sym (standing-other (flat_map mentions ps) i Active id ne))
    ];
    literals = λ id k e. elim (same_or_other id i) [
      | inl y ↦ let f : kept true (set_of c) ≡ k = same_Some _ _ (sym change.there ∙ ap (get n) (sym y) ∙ e) in
          ap (λ z. option_map set_of (clause_of (ps ++ p ∷ []) z)) y ∙ ap (option_map set_of) given_now ∙ ap (λ z. Some z.literals) f
      | inr ne ↦ ap (option_map set_of) (given_before id ne) ∙ h.literals id k (sym (change.others id ne) ∙ e)
    ];
  }

-- a step with a list of ids that names one more
module _ (step : List ℕ → LStep) (s : Standing) (gives : (is : List ℕ) → given_clause (step is) ≡ None) (names : (is : List ℕ) → mentions (step is) ≡ each_is s is)
    (m n : Clauses) (ps : List LStep) (is : List ℕ) (i : ℕ) where
  named-push : flat_map mentions (ps ++ step (is ++ i ∷ []) ∷ []) ≡ flat_map mentions (ps ++ step is ∷ []) ++ (i, s) ∷ []
  named-push = rw (mentions-push ps (step (is ++ i ∷ [])), mentions-push ps (step is), names (is ++ i ∷ []), names is, map-append, append_assoc) refl

  same_clause_of : (id : ℕ) → clause_of (ps ++ step (is ++ i ∷ []) ∷ []) id ≡ clause_of (ps ++ step is ∷ []) id
  same_clause_of id = ap (λ gs. clause_or_none (last (filter (λ (p : ℕ × List ℕ). nat_eq p.0 id) gs)))
      (given-push ps (step (is ++ i ∷ [])) (gives (is ++ i ∷ [])) ∙ sym (given-push ps (step is) (gives is)))

  pub holds_named : (now : Option ClauseState) → ChangesAt m n i now → standing_of now ≡ s → ((k : ClauseState) → now ≡ Some k → (old : ClauseState) × (get m i ≡ Some old) × (old.literals ≡ k.literals))
      → HoldsIds m (ps ++ step is ∷ []) → HoldsIds n (ps ++ step (is ++ i ∷ []) ∷ [])
  holds_named now change stands from h = record {
    standings = λ id. elim (same_or_other id i) [
      | inl e ↦ rw (e, change.there, named-push) (stands ∙ sym (standing-same (flat_map mentions (ps ++ step is ∷ [])) i s))
      | inr ne ↦ rw (change.others id ne, named-push) (h.standings id ∙ sym (standing-other (flat_map mentions (ps ++ step is ∷ [])) i s id ne))
    ];
    literals = λ id k e. ap (option_map set_of) (same_clause_of id) ∙ elim (same_or_other id i) [
      | inl y ↦ let r = from k (sym change.there ∙ ap (get n) (sym y) ∙ e) in
          h.literals id r.0 (ap (get m) y ∙ r.1) ∙ ap Some r.2
      | inr ne ↦ h.literals id k (sym (change.others id ne) ∙ e)
    ];
  }

-- ---- Lists of ids

pub holds_deleted : (m n : Clauses) (ps : List LStep) (is : List ℕ) (i : ℕ) → ChangesAt m n i None → HoldsIds m (ps ++ lsteps.Delete is ∷ []) → HoldsIds n (ps ++ lsteps.Delete (is ++ i ∷ []) ∷ [])
holds_deleted m n ps is i change h = holds_named lsteps.Delete Absent (λ is. refl) (λ is. refl) m n ps is i None change refl (λ k e. absurd (let f : None ≡ Some k = e in cc f)) h

pub holds_weakened : (m n : Clauses) (ps : List LStep) (is : List ℕ) (i : ℕ) (b : Bool) (c : List ℕ) → get m i ≡ Some (kept b c) → ChangesAt m n i (Some (kept false c))
    → HoldsIds m (ps ++ lsteps.Weaken is ∷ []) → HoldsIds n (ps ++ lsteps.Weaken (is ++ i ∷ []) ∷ [])
holds_weakened m n ps is i b c was change h = holds_named lsteps.Weaken Weakened (λ is. refl) (λ is. refl) m n ps is i (Some (kept false c)) change refl
    (λ k e. (kept b c, was, ap (λ z. z.literals) (same_Some _ _ e))) h

pub holds_restored : (m n : Clauses) (ps : List LStep) (is : List ℕ) (i : ℕ) (b : Bool) (c : List ℕ) → get m i ≡ Some (kept b c) → ChangesAt m n i (Some (kept true c))
    → HoldsIds m (ps ++ lsteps.Restore is ∷ []) → HoldsIds n (ps ++ lsteps.Restore (is ++ i ∷ []) ∷ [])
holds_restored m n ps is i b c was change h = holds_named lsteps.Restore Active (λ is. refl) (λ is. refl) m n ps is i (Some (kept true c)) change refl
    (λ k e. (kept b c, was, ap (λ z. z.literals) (same_Some _ _ e))) h

-- ---- The active clauses

-- the active clause of an id has the set that is kept
pub active-same : (m : Clauses) (ps : List LStep) → HoldsIds m ps → SameClauses (active_in m) (active_clause ps)
active-same m ps h = λ id. at (get m id) (standing_after ps id) (clause_of ps id) (h.standings id) (h.literals id)
  where
    active_as : Standing → Option (List ℕ) → Option (List ℕ)
    active_as s o = if is_active s then o else None

    sets_same : (c ls : List ℕ) → set_of c ≡ ls → same_set ls c ≡ true
    sets_same c ls e = same_from ls c (λ x. ap (λ z. has z x) (sym e) ∙ has-set_of c x)

    weakened_none : (s : Standing) (o : Option (List ℕ)) → Weakened ≡ s → same_clause None (active_as s o) ≡ true
    weakened_none Active o e = cc e
    weakened_none Weakened o e = refl
    weakened_none Absent o e = refl

    absent_none : (s : Standing) (o : Option (List ℕ)) → Absent ≡ s → same_clause None (active_as s o) ≡ true
    absent_none Active o e = cc e
    absent_none Weakened o e = refl
    absent_none Absent o e = refl

    active_some : (s : Standing) (o : Option (List ℕ)) (ls : List ℕ) → Active ≡ s → option_map set_of o ≡ Some ls → same_clause (Some ls) (active_as s o) ≡ true
    active_some Active None ls e f = cc f
    active_some Active (Some c) ls e f = sets_same c ls (same_Some _ _ f)
    active_some Weakened o ls e f = cc e
    active_some Absent o ls e f = cc e

    at_kept : (b : Bool) (ls : List ℕ) (s : Standing) (o : Option (List ℕ)) → standing_of (Some (kept b ls)) ≡ s → option_map set_of o ≡ Some ls
        → same_clause (active_literals (Some (kept b ls))) (active_as s o) ≡ true
    at_kept true ls s o e f = active_some s o ls e f
    at_kept false ls s o e f = weakened_none s o e

    at : (k : Option ClauseState) (s : Standing) (o : Option (List ℕ)) → standing_of k ≡ s → ((x : ClauseState) → k ≡ Some x → option_map set_of o ≡ Some x.literals)
        → same_clause (active_literals k) (active_as s o) ≡ true
    at None s o e f = absent_none s o e
    at (Some k) s o e f = at_kept k.active k.literals s o e (f k refl)

pub hints_over_kept : (m : Clauses) (ps : List LStep) → HoldsIds m ps → (ls hs : List ℕ) → hints_fail (active_in m) ls hs ≡ hints_fail (active_clause ps) ls hs
hints_over_kept m ps h ls hs = hints-same (active_in m) (active_clause ps) (active-same m ps h) ls hs

-- ---- The first id that isn't so

-- after ids that were so, the first that isn't is among the rest
pub first_not-named : (step : List ℕ → LStep) (s : Standing) (is_so : Standing → Bool) → ((is : List ℕ) → mentions (step is) ≡ each_is s is) → (m : Clauses) (ps : List LStep) (is : List ℕ) (i : ℕ) (rest : List ℕ) (place : ℕ)
    → HoldsIds m (ps ++ step is ∷ []) → first_not is_so s (flat_map mentions (ps ++ step is ∷ [])) place (i ∷ rest)
    ≡ (if is_so (standing_of (get m i)) then first_not is_so s (flat_map mentions (ps ++ step is ∷ []) ++ (i, s) ∷ []) (place + 1) rest else Some place)
first_not-named step s is_so names m ps is i rest place h = rw (h.standings i) refl
