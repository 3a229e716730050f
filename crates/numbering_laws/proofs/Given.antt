-- Translated steps without ids give translated clauses under the same ids, and name the same ids.
use Rattle.std.proofs.Common.{◌≡◌, ℕ, zero, suc, ◌+◌, Bool, true, ◌&&◌, List, [], ◌∷◌, ◌++◌, length, map, Contains, Option, Some, None, option_map, refl, sym, ap, ◌∙◌, subst, inl, inr}
use Rattle.std.specs.Prelude.{false, slice_get}
use Rattle.std.specs.List.{list_all, position_from}
use Rattle.std.proofs.lemmas.Bool.{cases_Bool, and_parts, and_from}
use Rattle.std.proofs.lemmas.List.{length-map, map-append}
use Rattle.std.proofs.lemmas.Option.{slice_get-map}
use Rattle.lits.specs.Clause.{is_part, set_of}
use Rattle.lits.specs.Numbering.{are_known, dense_lits, file_lit, file_lits}
use Rattle.lits.proofs.Members.{here, there, here_or_there, not_in_nil, all_at, has_at, has_from}
use Rattle.lits.proofs.Sets.{part_from}
use Rattle.lits.proofs.Ascending.{has-set_of, set_of-same}
use Rattle.lits.proofs.Translated.{same_set-dense, file-dense_lits}
use Rattle.session_rules.specs.declared.Event.TheVariants as events
use Rattle.session_rules.specs.declared.Step.{Step}
use Rattle.session_rules.specs.declared.Step.TheVariants as steps
use Rattle.session_rules.specs.declared.Standing.{Standing}
use Rattle.session_rules.specs.declared.Standing.TheVariants.{Active, Weakened, Absent}
use Rattle.session_rules.specs.Own.{is_active, is_weakened}
use Rattle.side_laws.specs.ClauseStates.{kept}
use Rattle.side_laws.specs.Sets.{GivenClause, standing_so, is_such, with_first, behind_step, behind_steps, given_by, with_id, next_id, named_id, kept_as, kept_of_given, kept_at}
use Rattle.numbering_laws.specs.Dense.{dense_step, dense_steps, is_known_step, are_known_steps}
use Rattle.numbering_laws.specs.Kept.{dense_given, file_kept}
use Rattle.numbering_laws.proofs.Mapped.{position-mapped}

module _ (vars : List ℕ) where
  abbrev pub is_known_given : GivenClause → Bool
  is_known_given g = are_known vars g.clause

  abbrev pub are_known_given : List GivenClause → Bool
  are_known_given gs = list_all is_known_given gs

  abbrev pub dense_givens : List GivenClause → List GivenClause
  dense_givens gs = map (dense_given vars) gs

  -- ---- One step

  such-dense : (is_so : Standing → Bool) (c : List ℕ) (g : GivenClause) → is_known_given g ≡ true → is_such is_so (dense_lits vars c) (dense_given vars g) ≡ is_such is_so c g
  such-dense is_so c g k = ap (λ b. is_so g.standing && b) (same_set-dense vars c g.clause k)

  first-dense : (is_so : Standing → Bool) (s : Standing) (c : List ℕ) (gs : List GivenClause) → are_known_given gs ≡ true
      → with_first is_so s (dense_lits vars c) (dense_givens gs) ≡ dense_givens (with_first is_so s c gs)
  unfolding with_first
  first-dense is_so s c [] k = refl
  first-dense is_so s c (g ∷ gs) k = let parts = and_parts (is_known_given g) (are_known_given gs) k in
      let e = such-dense is_so c g parts.0 in let next = first-dense is_so s c gs parts.1 in elim (cases_Bool (is_such is_so c g)) [
        | inl q ↦ rw (e, q) refl
        | inr q ↦ rw (e, q) (ap (λ hs. dense_given vars g ∷ hs) next)
      ]

  first-known : (is_so : Standing → Bool) (s : Standing) (c : List ℕ) (gs : List GivenClause) → are_known_given gs ≡ true → are_known_given (with_first is_so s c gs) ≡ true
  unfolding with_first
  first-known is_so s c [] k = refl
  first-known is_so s c (g ∷ gs) k = let parts = and_parts (is_known_given g) (are_known_given gs) k in
      let next = first-known is_so s c gs parts.1 in elim (cases_Bool (is_such is_so c g)) [
        | inl q ↦ rw q k
        | inr q ↦ rw q (and_from _ _ parts.0 next)
      ]

  push-known : (gs : List GivenClause) (c : List ℕ) → are_known_given gs ≡ true → are_known vars c ≡ true → are_known_given (gs ++ standing_so Active c ∷ []) ≡ true
  push-known [] c k kc = and_from _ _ kc refl
  push-known (g ∷ gs) c k kc = let parts = and_parts (is_known_given g) (are_known_given gs) k in and_from _ _ parts.0 (push-known gs c parts.1 kc)

  step-dense : (gs : List GivenClause) (p : Step) → are_known_given gs ≡ true → behind_step (dense_givens gs) (dense_step vars p) ≡ dense_givens (behind_step gs p)
  step-dense gs (steps.Event (events.Input c)) k = sym (map-append (dense_given vars) gs (standing_so Active c ∷ []))
  step-dense gs (steps.Event (events.Query c)) k = refl
  step-dense gs (steps.Event (events.Status s)) k = refl
  step-dense gs (steps.Event (events.Model m)) k = refl
  step-dense gs (steps.Event (events.Core u)) k = refl
  step-dense gs (steps.Event (events.Values m)) k = refl
  step-dense gs (steps.Event (events.Failed u)) k = refl
  step-dense gs (steps.Lemma c) k = sym (map-append (dense_given vars) gs (standing_so Active c ∷ []))
  step-dense gs (steps.Delete c) k = first-dense is_active Absent c gs k
  step-dense gs (steps.Weaken c) k = first-dense is_active Weakened c gs k
  step-dense gs (steps.Restore c) k = first-dense is_weakened Active c gs k

  step-known : (gs : List GivenClause) (p : Step) → are_known_given gs ≡ true → is_known_step vars p ≡ true → are_known_given (behind_step gs p) ≡ true
  step-known gs (steps.Event (events.Input c)) k kp = push-known gs c k kp
  step-known gs (steps.Event (events.Query c)) k kp = k
  step-known gs (steps.Event (events.Status s)) k kp = k
  step-known gs (steps.Event (events.Model m)) k kp = k
  step-known gs (steps.Event (events.Core u)) k kp = k
  step-known gs (steps.Event (events.Values m)) k kp = k
  step-known gs (steps.Event (events.Failed u)) k kp = k
  step-known gs (steps.Lemma c) k kp = push-known gs c k kp
  step-known gs (steps.Delete c) k kp = first-known is_active Absent c gs k
  step-known gs (steps.Weaken c) k kp = first-known is_active Weakened c gs k
  step-known gs (steps.Restore c) k kp = first-known is_weakened Active c gs k

  -- ---- Many steps

  behind-dense : (gs : List GivenClause) (ps : List Step) → are_known_given gs ≡ true → are_known_steps vars ps ≡ true
      → behind_steps (dense_givens gs) (dense_steps vars ps) ≡ dense_givens (behind_steps gs ps)
  unfolding behind_steps
  behind-dense gs [] k kp = refl
  behind-dense gs (p ∷ ps) k kp = let parts = and_parts (is_known_step vars p) (are_known_steps vars ps) kp in
      ap (λ hs. behind_steps hs (dense_steps vars ps)) (step-dense gs p k) ∙ behind-dense (behind_step gs p) ps (step-known gs p k parts.0) parts.1

  behind-known : (gs : List GivenClause) (ps : List Step) → are_known_given gs ≡ true → are_known_steps vars ps ≡ true → are_known_given (behind_steps gs ps) ≡ true
  unfolding behind_steps
  behind-known gs [] k kp = k
  behind-known gs (p ∷ ps) k kp = let parts = and_parts (is_known_step vars p) (are_known_steps vars ps) kp in
      behind-known (behind_step gs p) ps (step-known gs p k parts.0) parts.1

  pub given-dense : (ps : List Step) → are_known_steps vars ps ≡ true → given_by (dense_steps vars ps) ≡ dense_givens (given_by ps)
  given-dense ps k = behind-dense [] ps refl k

  pub given-known : (ps : List Step) → are_known_steps vars ps ≡ true → are_known_given (given_by ps) ≡ true
  given-known ps k = behind-known [] ps refl k

  pub next-dense : (ps : List Step) → are_known_steps vars ps ≡ true → next_id (dense_steps vars ps) ≡ next_id ps
  next-dense ps k = ap (λ gs. 1 + length gs) (given-dense ps k) ∙ ap (λ n. 1 + n) (length-map (given_by ps) (dense_given vars))

  first-id : (is_so : Standing → Bool) (ps : List Step) (c : List ℕ) → are_known_steps vars ps ≡ true
      → position_from (is_such is_so (dense_lits vars c)) 1 (given_by (dense_steps vars ps)) ≡ position_from (is_such is_so c) 1 (given_by ps)
  first-id is_so ps c k = ap (position_from (is_such is_so (dense_lits vars c)) 1) (given-dense ps k)
      ∙ position-mapped (dense_given vars) (is_such is_so (dense_lits vars c)) (is_such is_so c) 1 (given_by ps)
      (λ g m. such-dense is_so c g (all_at is_known_given (given_by ps) g (given-known ps k) m))

  -- a step names the id that its translation names; a clause that is taken or given back needn't be known
  pub named-dense : (ps : List Step) (p : Step) → are_known_steps vars ps ≡ true → named_id (dense_steps vars ps) (dense_step vars p) ≡ named_id ps p
  named-dense ps (steps.Event (events.Input c)) k = ap Some (next-dense ps k)
  named-dense ps (steps.Event (events.Query c)) k = refl
  named-dense ps (steps.Event (events.Status s)) k = refl
  named-dense ps (steps.Event (events.Model m)) k = refl
  named-dense ps (steps.Event (events.Core u)) k = refl
  named-dense ps (steps.Event (events.Values m)) k = refl
  named-dense ps (steps.Event (events.Failed u)) k = refl
  named-dense ps (steps.Lemma c) k = ap Some (next-dense ps k)
  named-dense ps (steps.Delete c) k = first-id is_active ps c k
  named-dense ps (steps.Weaken c) k = first-id is_active ps c k
  named-dense ps (steps.Restore c) k = first-id is_weakened ps c k

  -- ---- What is kept

  file-member : (ls : List ℕ) (x : ℕ) → Contains (file_lits vars ls) x → (l : ℕ) × Contains ls l × (file_lit vars l ≡ x)
  file-member [] x m = absurd (not_in_nil x m)
  file-member (l ∷ ls) x m = elim (here_or_there (file_lit vars l) x (file_lits vars ls) m) [
    | inl e ↦ (l, here l ls, e)
    | inr n ↦ let r = file-member ls x n in (r.0, there l r.0 ls r.1, r.2)
  ]

  member-file : (ls : List ℕ) (l : ℕ) → Contains ls l → Contains (file_lits vars ls) (file_lit vars l)
  member-file [] l m = absurd (not_in_nil l m)
  member-file (x ∷ xs) l m = elim (here_or_there x l xs m) [
    | inl e ↦ subst (λ z. Contains (file_lits vars (x ∷ xs)) (file_lit vars z)) e (here (file_lit vars x) (file_lits vars xs))
    | inr n ↦ there (file_lit vars x) (file_lit vars l) (file_lits vars xs) (member-file xs l n)
  ]

  part-file : (c d : List ℕ) → ((l : ℕ) → Contains c l → Contains d l) → is_part (file_lits vars c) (file_lits vars d) ≡ true
  part-file c d h = part_from (file_lits vars c) (file_lits vars d) (λ x m. let r = file-member c x m in
      subst (λ z. Contains (file_lits vars d) z) r.2 (member-file d r.0 (h r.0 r.1)))

  -- the set of a translated clause, read back, is the set of the clause
  pub set-back : (c : List ℕ) → are_known vars c ≡ true → set_of (file_lits vars (set_of (dense_lits vars c))) ≡ set_of c
  set-back c k = let d : List ℕ = dense_lits vars c in
      set_of-same (file_lits vars (set_of d)) (file_lits vars d)
      (and_from _ _ (part-file (set_of d) d (λ l m. has_at d l (sym (has-set_of d l) ∙ has_from (set_of d) l m)))
      (part-file d (set_of d) (λ l m. has_at (set_of d) l (has-set_of d l ∙ has_from d l m))))
      ∙ ap set_of (file-dense_lits vars c k)

  as-back : (s : Standing) (c : List ℕ) → are_known vars c ≡ true → file_kept vars (kept_as s (dense_lits vars c)) ≡ kept_as s c
  as-back Active c k = ap (λ ls. Some (kept true ls)) (set-back c k)
  as-back Weakened c k = ap (λ ls. Some (kept false ls)) (set-back c k)
  as-back Absent c k = refl

  given-back : (o : Option GivenClause) → ((g : GivenClause) → o ≡ Some g → is_known_given g ≡ true) → file_kept vars (kept_of_given (option_map (dense_given vars) o)) ≡ kept_of_given o
  given-back None k = refl
  given-back (Some g) k = as-back g.standing g.clause (k g refl)

  pub with_id-dense : (gs : List GivenClause) (id : ℕ) → with_id (dense_givens gs) id ≡ option_map (dense_given vars) (with_id gs id)
  with_id-dense gs zero = refl
  with_id-dense gs (suc i) = slice_get-map (dense_given vars) gs i

  at-known : (gs : List GivenClause) (i : ℕ) (g : GivenClause) → are_known_given gs ≡ true → slice_get gs i ≡ Some g → is_known_given g ≡ true
  at-known [] i g k e = cc
  at-known (h ∷ hs) zero g k e = let f : h ≡ g = cc e in subst (λ z. is_known_given z ≡ true) f (and_parts (is_known_given h) (are_known_given hs) k).0
  at-known (h ∷ hs) (suc i) g k e = at-known hs i g (and_parts (is_known_given h) (are_known_given hs) k).1 e

  pub id-known : (gs : List GivenClause) (id : ℕ) (g : GivenClause) → are_known_given gs ≡ true → with_id gs id ≡ Some g → is_known_given g ≡ true
  id-known gs zero g k e = cc
  id-known gs (suc i) g k e = at-known gs i g k e

  -- what translated steps leave of an id, read back, is what the steps leave
  pub kept-back : (ps : List Step) (id : ℕ) → are_known_steps vars ps ≡ true → file_kept vars (kept_at (dense_steps vars ps) id) ≡ kept_at ps id
  kept-back ps id k = ap (λ gs. file_kept vars (kept_of_given (with_id gs id))) (given-dense ps k)
      ∙ ap (λ o. file_kept vars (kept_of_given o)) (with_id-dense (given_by ps) id)
      ∙ given-back (with_id (given_by ps) id) (λ g e. id-known (given_by ps) id g (given-known ps k) e)
