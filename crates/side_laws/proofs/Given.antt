-- The clauses that steps give: what one more step changes of them, which is the least of a set, and how many there are.
use Rattle.std.proofs.Common.{◌≡◌, ◌≢◌, ℕ, zero, suc, ◌+◌, ◌-◌, ◌<◌, Bool, true, false, ◌&&◌, cond, if◌then◌else◌, List, [], ◌∷◌, ◌++◌, length, filter_map, Option, Some, None, refl, sym, ◌∙◌, ap, inl, inr, arith}
use Rattle.std.specs.Prelude.{slice_get}
use Rattle.std.specs.List.{list_any, position_from}
use Rattle.std.proofs.lemmas.Option.{same_Some}
use Rattle.std.proofs.lemmas.Bool.{cases_Bool, and_parts, and_from}
use Rattle.std.proofs.lemmas.List.Elements.{filter-append, filter_map-append}
use Rattle.std.proofs.lemmas.List.Sums.{sum_by-append}
use Rattle.std.proofs.lemmas.List.{length-append}
use Rattle.lits.specs.Clause.{same_set}
use Rattle.lits.proofs.Sets.{same_set-flip, same_set-chain}
use Rattle.session_rules.specs.declared.Event.TheVariants as events
use Rattle.session_rules.specs.declared.Step.{Step}
use Rattle.session_rules.specs.declared.Step.TheVariants as steps
use Rattle.session_rules.specs.declared.Standing.{Standing}
use Rattle.session_rules.specs.declared.Standing.TheVariants.{Active, Weakened, Absent}
use Rattle.session_rules.specs.Own.{is_active, is_weakened, added_clause, removed_clause, weakened_clause, restored_clause, copies, active_copies, weakened_copies}
use Rattle.side_laws.specs.Sets.{GivenClause, standing_so, is_such, with_first, behind_step, behind_steps, given_by, with_id, how_many, new_clause, finds, all_find}

-- ---- Sets

both : (a b : Bool) → (a ≡ true → b ≡ true) → (b ≡ true → a ≡ true) → a ≡ b
both true b f g = sym (f refl)
both false true f g = g refl
both false false f g = refl

-- the same set has the same sets
pub sets_pass : (c d e : List ℕ) → same_set c d ≡ true → same_set c e ≡ same_set d e
sets_pass c d e h = both _ _ (λ k. same_set-chain d c e (same_set-flip c d h) k) (λ k. same_set-chain c d e h k)

pub sets_pass_right : (c d e : List ℕ) → same_set d e ≡ true → same_set c d ≡ same_set c e
sets_pass_right c d e h = both _ _ (λ k. same_set-chain c d e k h) (λ k. same_set-chain c e d k (same_set-flip d e h))

-- ---- One more step

behind-append : (gs : List GivenClause) (ps qs : List Step) → behind_steps gs (ps ++ qs) ≡ behind_steps (behind_steps gs ps) qs
unfolding behind_steps
behind-append gs [] qs = refl
behind-append gs (p ∷ ps) qs = behind-append (behind_step gs p) ps qs

pub given-push : (ps : List Step) (p : Step) → given_by (ps ++ p ∷ []) ≡ behind_step (given_by ps) p
unfolding behind_steps
given-push ps p = behind-append [] ps (p ∷ [])

and-pass : (a b c : Bool) → a && (b && c) ≡ (a && b) && c
and-pass true b c = refl
and-pass false b c = refl

find-append : (gs : List GivenClause) (ps qs : List Step) → all_find gs (ps ++ qs) ≡ all_find gs ps && all_find (behind_steps gs ps) qs
unfolding all_find behind_steps
find-append gs [] qs = refl
find-append gs (p ∷ ps) qs = ap (λ b. finds gs p && b) (find-append (behind_step gs p) ps qs) ∙ and-pass (finds gs p) _ _

find-one : (gs : List GivenClause) (p : Step) → finds gs p ≡ true → all_find gs (p ∷ []) ≡ true
unfolding all_find
find-one gs p e = rw e refl

pub find-push : (ps : List Step) (p : Step) → all_find [] ps ≡ true → finds (given_by ps) p ≡ true → all_find [] (ps ++ p ∷ []) ≡ true
find-push ps p h e = find-append [] ps (p ∷ []) ∙ and_from _ _ h (find-one (given_by ps) p e)

-- a step that names no clause, and one that gives a clause
pub silent_step : (gs : List GivenClause) (p : Step) → new_clause p ≡ None → removed_clause p ≡ None → restored_clause p ≡ None → (behind_step gs p ≡ gs) × (finds gs p ≡ true)
silent_step gs (steps.Event (events.Input c)) e f g = cc e
silent_step gs (steps.Event (events.Query c)) e f g = (refl, refl)
silent_step gs (steps.Event (events.Status w)) e f g = (refl, refl)
silent_step gs (steps.Event (events.Model c)) e f g = (refl, refl)
silent_step gs (steps.Event (events.Core c)) e f g = (refl, refl)
silent_step gs (steps.Event (events.Values c)) e f g = (refl, refl)
silent_step gs (steps.Event (events.Failed c)) e f g = (refl, refl)
silent_step gs (steps.Lemma c) e f g = cc e
silent_step gs (steps.Delete c) e f g = cc f
silent_step gs (steps.Weaken c) e f g = cc f
silent_step gs (steps.Restore c) e f g = cc g

pub giving_step : (gs : List GivenClause) (p : Step) (c : List ℕ) → new_clause p ≡ Some c → (behind_step gs p ≡ gs ++ standing_so Active c ∷ []) × (finds gs p ≡ true)
giving_step gs (steps.Event (events.Input d)) c e = (ap (λ z. gs ++ standing_so Active z ∷ []) (same_Some _ _ e), refl)
giving_step gs (steps.Event (events.Query d)) c e = cc e
giving_step gs (steps.Event (events.Status w)) c e = cc e
giving_step gs (steps.Event (events.Model d)) c e = cc e
giving_step gs (steps.Event (events.Core d)) c e = cc e
giving_step gs (steps.Event (events.Values d)) c e = cc e
giving_step gs (steps.Event (events.Failed d)) c e = cc e
giving_step gs (steps.Lemma d) c e = (ap (λ z. gs ++ standing_so Active z ∷ []) (same_Some _ _ e), refl)
giving_step gs (steps.Delete d) c e = cc e
giving_step gs (steps.Weaken d) c e = cc e
giving_step gs (steps.Restore d) c e = cc e

-- ---- The clause of an id

pub none_given : (id : ℕ) → with_id [] id ≡ None
none_given zero = refl
none_given (suc i) = refl

entry-push : (gs : List GivenClause) (g : GivenClause) → slice_get (gs ++ g ∷ []) (length gs) ≡ Some g
entry-push [] g = refl
entry-push (h ∷ gs) g = entry-push gs g

entry-other : (gs : List GivenClause) (g : GivenClause) (i : ℕ) → i ≢ length gs → slice_get (gs ++ g ∷ []) i ≡ slice_get gs i
entry-other [] g zero ne = absurd (ne refl)
entry-other [] g (suc i) ne = refl
entry-other (h ∷ gs) g zero ne = refl
entry-other (h ∷ gs) g (suc i) ne = entry-other gs g i (λ e. ne (ap suc e))

module _ (gs : List GivenClause) (g : GivenClause) where
  pub id-push : (id : ℕ) → id ≡ 1 + length gs → with_id (gs ++ g ∷ []) id ≡ Some g
  id-push id e = let f : id ≡ suc (length gs) = omega arith in ap (with_id (gs ++ g ∷ [])) f ∙ entry-push gs g

  pub id-other : (id : ℕ) → id ≢ 1 + length gs → with_id (gs ++ g ∷ []) id ≡ with_id gs id
  id-other zero ne = refl
  id-other (suc i) ne = entry-other gs g i (λ e. ne (omega arith))

entry-below : (gs : List GivenClause) (i : ℕ) (g : GivenClause) → slice_get gs i ≡ Some g → i < length gs
entry-below [] i g e = cc e
entry-below (h ∷ gs) zero g e = omega arith
entry-below (h ∷ gs) (suc i) g e = let lt = entry-below gs i g e in omega arith

-- ids are given from 1 on
pub id-within : (gs : List GivenClause) (id : ℕ) (g : GivenClause) → with_id gs id ≡ Some g → (0 < id) × (id < 1 + length gs)
id-within gs zero g e = cc e
id-within gs (suc i) g e = let lt = entry-below gs i g e in (omega arith, omega arith)

-- ---- The first of a set

-- the one at this place is the first that stands so and has the clause's set
pub record IsFirst (is_so : Standing → Bool) (c : List ℕ) (gs : List GivenClause) (k : ℕ) (g : GivenClause) : Type 0 where
  pub there : slice_get gs k ≡ Some g
  pub such : is_such is_so c g ≡ true
  pub none : (j : ℕ) (h : GivenClause) → j < k → slice_get gs j ≡ Some h → is_such is_so c h ≡ false

first-behind : (is_so : Standing → Bool) (c : List ℕ) (h : GivenClause) (gs : List GivenClause) (k : ℕ) (g : GivenClause) → IsFirst is_so c (h ∷ gs) (suc k) g → IsFirst is_so c gs k g
first-behind is_so c h gs k g f = record { there = f.there; such = f.such; none = λ j x lt e. f.none (suc j) x (omega arith) e }

module _ (is_so : Standing → Bool) (left : Standing) (c : List ℕ) where
  first-here : (g : GivenClause) (gs : List GivenClause) → is_such is_so c g ≡ true → with_first is_so left c (g ∷ gs) ≡ standing_so left g.clause ∷ gs
  unfolding with_first
  first-here g gs e = rw e refl

  first-later : (g : GivenClause) (gs : List GivenClause) → is_such is_so c g ≡ false → with_first is_so left c (g ∷ gs) ≡ g ∷ with_first is_so left c gs
  unfolding with_first
  first-later g gs e = rw e refl

  first-nothing : with_first is_so left c [] ≡ []
  unfolding with_first
  first-nothing = refl

  pub first-length : (gs : List GivenClause) → length (with_first is_so left c gs) ≡ length gs
  first-length [] = ap length first-nothing
  first-length (g ∷ gs) = elim (cases_Bool (is_such is_so c g)) [
    | inl y ↦ ap length (first-here g gs y)
    | inr n ↦ ap length (first-later g gs n) ∙ ap suc (first-length gs)
  ]

  pub first-there : (gs : List GivenClause) (k : ℕ) (g : GivenClause) → IsFirst is_so c gs k g → slice_get (with_first is_so left c gs) k ≡ Some (standing_so left g.clause)
  first-there [] k g f = let e = f.there in cc e
  first-there (h ∷ gs) zero g f = let e : h ≡ g = same_Some _ _ f.there in
      ap (λ z. slice_get z 0) (first-here h gs (ap (is_such is_so c) e ∙ f.such)) ∙ ap (λ (z : GivenClause). Some (standing_so left z.clause)) e
  first-there (h ∷ gs) (suc k) g f = ap (λ z. slice_get z (suc k)) (first-later h gs (f.none 0 h (omega arith) refl)) ∙ first-there gs k g (first-behind is_so c h gs k g f)

  pub first-others : (gs : List GivenClause) (k : ℕ) (g : GivenClause) → IsFirst is_so c gs k g → (j : ℕ) → j ≢ k → slice_get (with_first is_so left c gs) j ≡ slice_get gs j
  first-others [] k g f j ne = let e = f.there in cc e
  first-others (h ∷ gs) zero g f zero ne = absurd (ne refl)
  first-others (h ∷ gs) zero g f (suc j) ne = let e : h ≡ g = same_Some _ _ f.there in ap (λ z. slice_get z (suc j)) (first-here h gs (ap (is_such is_so c) e ∙ f.such))
  first-others (h ∷ gs) (suc k) g f zero ne = ap (λ z. slice_get z 0) (first-later h gs (f.none 0 h (omega arith) refl))
  first-others (h ∷ gs) (suc k) g f (suc j) ne = ap (λ z. slice_get z (suc j)) (first-later h gs (f.none 0 h (omega arith) refl))
      ∙ first-others gs k g (first-behind is_so c h gs k g f) j (λ e. ne (ap suc e))

  module _ (gs : List GivenClause) (k : ℕ) (g : GivenClause) (f : IsFirst is_so c gs k g) where
    pub turned-there : with_id (with_first is_so left c gs) (suc k) ≡ Some (standing_so left g.clause)
    turned-there = first-there gs k g f

    pub turned-others : (id : ℕ) → id ≢ suc k → with_id (with_first is_so left c gs) id ≡ with_id gs id
    turned-others zero ne = refl
    turned-others (suc j) ne = first-others gs k g f j (λ e. ne (ap suc e))

module _ (is_so : Standing → Bool) (c : List ℕ) where
  -- it is found
  pub first-found : (gs : List GivenClause) (k : ℕ) (g : GivenClause) → slice_get gs k ≡ Some g → is_such is_so c g ≡ true → list_any (is_such is_so c) gs ≡ true
  first-found [] k g e y = cc e
  first-found (h ∷ gs) zero g e y = rw (ap (is_such is_so c) (same_Some _ _ e) ∙ y) refl
  first-found (h ∷ gs) (suc k) g e y = elim (cases_Bool (is_such is_so c h)) [
    | inl t ↦ rw t refl
    | inr n ↦ rw n (first-found gs k g e y)
  ]

  pub first-position : (gs : List GivenClause) (i k : ℕ) (g : GivenClause) → IsFirst is_so c gs k g → position_from (is_such is_so c) i gs ≡ Some (i + k)
  first-position [] i k g f = let e = f.there in cc e
  first-position (h ∷ gs) i zero g f = let e : i ≡ i + zero = omega arith in rw (ap (is_such is_so c) (same_Some _ _ f.there) ∙ f.such) (ap Some e)
  first-position (h ∷ gs) i (suc k) g f = let e : i + 1 + k ≡ i + suc k = omega arith in
      rw (f.none 0 h (omega arith) refl) (first-position gs (i + 1) k g (first-behind is_so c h gs k g f) ∙ ap Some e)

-- ---- How many there are

-- one where it holds
abbrev pub amount : Bool → ℕ
amount b = if b then 1 else 0

module _ (is_so : Standing → Bool) (c : List ℕ) where
  many-cons : (g : GivenClause) (gs : List GivenClause) → how_many is_so c (g ∷ gs) ≡ amount (is_such is_so c g) + how_many is_so c gs
  many-cons g gs = elim (cases_Bool (is_such is_so c g)) [
    | inl y ↦ rw y (omega arith)
    | inr n ↦ rw n (omega arith)
  ]

  many-push : (gs : List GivenClause) (g : GivenClause) → how_many is_so c (gs ++ g ∷ []) ≡ how_many is_so c gs + amount (is_such is_so c g)
  many-push gs g = let e = many-cons g [] in rw (filter-append (is_such is_so c) gs (g ∷ []), length-append) (omega arith)

  -- one is counted
  pub many-at : (gs : List GivenClause) (k : ℕ) (g : GivenClause) → slice_get gs k ≡ Some g → is_such is_so c g ≡ true → 0 < how_many is_so c gs
  many-at [] k g e y = cc e
  many-at (h ∷ gs) zero g e y = let f = many-cons h gs in let t : amount (is_such is_so c h) ≡ 1 = ap amount (ap (is_such is_so c) (same_Some _ _ e) ∙ y) in omega arith
  many-at (h ∷ gs) (suc k) g e y = let f = many-cons h gs in let more = many-at gs k g e y in omega arith

  -- where the count isn't zero there is one
  pub many-some : (gs : List GivenClause) → 0 < how_many is_so c gs → (k : ℕ) × (g : GivenClause) × (slice_get gs k ≡ Some g) × (is_such is_so c g ≡ true)
  many-some [] lt = absurd (omega arith)
  many-some (h ∷ gs) lt = elim (cases_Bool (is_such is_so c h)) [
    | inl y ↦ (0, h, refl, y)
    | inr n ↦ let f = many-cons h gs in let t : amount (is_such is_so c h) ≡ 0 = ap amount n in
        let r = many-some gs (omega arith) in (suc r.0, r.1, r.2, r.3)
  ]

  pub many-none : (gs : List GivenClause) → ((k : ℕ) (g : GivenClause) → slice_get gs k ≡ Some g → is_such is_so c g ≡ false) → how_many is_so c gs ≡ 0
  many-none [] none = refl
  many-none (h ∷ gs) none = let f = many-cons h gs in let t : amount (is_such is_so c h) ≡ 0 = ap amount (none 0 h refl) in
      let more = many-none gs (λ k g e. none (suc k) g e) in omega arith

-- what a change of the first of a set changes of a count
module _ (is_so counted : Standing → Bool) (left : Standing) (b : Bool) (was : (s : Standing) → is_so s ≡ true → counted s ≡ b) (c d : List ℕ) where
  many-turned : (gs : List GivenClause) → list_any (is_such is_so d) gs ≡ true
      → how_many counted c (with_first is_so left d gs) + amount (b && same_set c d) ≡ how_many counted c gs + amount (counted left && same_set c d)
  many-turned [] e = cc e
  many-turned (g ∷ gs) e = elim (cases_Bool (is_such is_so d g)) [
    | inl y ↦ let parts = and_parts (is_so g.standing) (same_set d g.clause) y in
        let set : same_set c g.clause ≡ same_set c d = sym (sets_pass_right c d g.clause parts.1) in
        let now = many-cons counted c (standing_so left g.clause) gs in
        let old = many-cons counted c g gs in
        let now_is : amount (counted left && same_set c g.clause) ≡ amount (counted left && same_set c d) = ap (λ z. amount (counted left && z)) set in
        let old_is : amount (counted g.standing && same_set c g.clause) ≡ amount (b && same_set c d) = rw (was g.standing parts.0, set) refl in
        rw (first-here is_so left d g gs y) (omega arith)
    | inr n ↦ let more = many-turned gs (rw n at e) in
        let now = many-cons counted c g (with_first is_so left d gs) in
        let old = many-cons counted c g gs in
        rw (first-later is_so left d g gs n) (omega arith)
  ]

-- ---- Counts of steps and counts of clauses

copies-append : (given : Step → Option (List ℕ)) (ps qs : List Step) (c : List ℕ) → copies given (ps ++ qs) c ≡ copies given ps c + copies given qs c
copies-append given ps qs c = rw filter_map-append (sum_by-append (λ d. cond (same_set c d) 1 0) (filter_map given ps) (filter_map given qs))

one-none : (given : Step → Option (List ℕ)) (p : Step) (c : List ℕ) → given p ≡ None → copies given (p ∷ []) c ≡ 0
one-none given p c e = rw e refl

one-some : (given : Step → Option (List ℕ)) (p : Step) (c d : List ℕ) → given p ≡ Some d → copies given (p ∷ []) c ≡ amount (same_set c d)
one-some given p c d e = elim (cases_Bool (same_set c d)) [ inl q ↦ rw (e, q) refl | inr q ↦ rw (e, q) refl ]

is_not : (s : Standing) → is_weakened s ≡ true → is_active s ≡ false
is_not Active e = cc e
is_not Weakened _ = refl
is_not Absent _ = refl

is_other : (s : Standing) → is_active s ≡ true → is_weakened s ≡ false
is_other Active _ = refl
is_other Weakened e = cc e
is_other Absent _ = refl

-- the step leaves as many copies as it found, with what it gives, and without what it takes
pub record StepCounts (counted : Standing → Bool) (gives takes : Step → Option (List ℕ)) (gs : List GivenClause) (p : Step) (c : List ℕ) : Type 0 where
  pub is : how_many counted c (behind_step gs p) + copies takes (p ∷ []) c ≡ how_many counted c gs + copies gives (p ∷ []) c

module _ (c : List ℕ) (gs : List GivenClause) where
  -- a step that counts for nothing
  step-idle : (counted : Standing → Bool) (gives takes : Step → Option (List ℕ)) (p : Step) → behind_step gs p ≡ gs → gives p ≡ None → takes p ≡ None → StepCounts counted gives takes gs p c
  step-idle counted gives takes p e g t = let x = one-none gives p c g in let y = one-none takes p c t in
      let z = ap (how_many counted c) e in record { is = omega arith }

  step-new-active : (p : Step) (d : List ℕ) → behind_step gs p ≡ gs ++ standing_so Active d ∷ [] → added_clause p ≡ Some d → removed_clause p ≡ None → StepCounts is_active added_clause removed_clause gs p c
  step-new-active p d e g t = let x = one-some added_clause p c d g in let y = one-none removed_clause p c t in
      let z = ap (how_many is_active c) e in let w = many-push is_active c gs (standing_so Active d) in record { is = omega arith }

  step-new-weakened : (p : Step) (d : List ℕ) → behind_step gs p ≡ gs ++ standing_so Active d ∷ [] → weakened_clause p ≡ None → restored_clause p ≡ None → StepCounts is_weakened weakened_clause restored_clause gs p c
  step-new-weakened p d e g t = let x = one-none weakened_clause p c g in let y = one-none restored_clause p c t in
      let z = ap (how_many is_weakened c) e in let w = many-push is_weakened c gs (standing_so Active d) in record { is = omega arith }

  pub active-step : (p : Step) → finds gs p ≡ true → StepCounts is_active added_clause removed_clause gs p c
  active-step (steps.Event (events.Input d)) e = step-new-active (steps.Event (events.Input d)) d refl refl refl
  active-step (steps.Event (events.Query d)) e = step-idle is_active added_clause removed_clause (steps.Event (events.Query d)) refl refl refl
  active-step (steps.Event (events.Status w)) e = step-idle is_active added_clause removed_clause (steps.Event (events.Status w)) refl refl refl
  active-step (steps.Event (events.Model d)) e = step-idle is_active added_clause removed_clause (steps.Event (events.Model d)) refl refl refl
  active-step (steps.Event (events.Core d)) e = step-idle is_active added_clause removed_clause (steps.Event (events.Core d)) refl refl refl
  active-step (steps.Event (events.Values d)) e = step-idle is_active added_clause removed_clause (steps.Event (events.Values d)) refl refl refl
  active-step (steps.Event (events.Failed d)) e = step-idle is_active added_clause removed_clause (steps.Event (events.Failed d)) refl refl refl
  active-step (steps.Lemma d) e = step-new-active (steps.Lemma d) d refl refl refl
  active-step (steps.Delete d) e = let x = one-none added_clause (steps.Delete d) c refl in let y = one-some removed_clause (steps.Delete d) c d refl in
      let z = many-turned is_active is_active Absent true (λ s h. h) c d gs e in record { is = omega arith }
  active-step (steps.Weaken d) e = let x = one-none added_clause (steps.Weaken d) c refl in let y = one-some removed_clause (steps.Weaken d) c d refl in
      let z = many-turned is_active is_active Weakened true (λ s h. h) c d gs e in record { is = omega arith }
  active-step (steps.Restore d) e = let x = one-some added_clause (steps.Restore d) c d refl in let y = one-none removed_clause (steps.Restore d) c refl in
      let z = many-turned is_weakened is_active Active false is_not c d gs e in record { is = omega arith }

  pub weakened-step : (p : Step) → finds gs p ≡ true → StepCounts is_weakened weakened_clause restored_clause gs p c
  weakened-step (steps.Event (events.Input d)) e = step-new-weakened (steps.Event (events.Input d)) d refl refl refl
  weakened-step (steps.Event (events.Query d)) e = step-idle is_weakened weakened_clause restored_clause (steps.Event (events.Query d)) refl refl refl
  weakened-step (steps.Event (events.Status w)) e = step-idle is_weakened weakened_clause restored_clause (steps.Event (events.Status w)) refl refl refl
  weakened-step (steps.Event (events.Model d)) e = step-idle is_weakened weakened_clause restored_clause (steps.Event (events.Model d)) refl refl refl
  weakened-step (steps.Event (events.Core d)) e = step-idle is_weakened weakened_clause restored_clause (steps.Event (events.Core d)) refl refl refl
  weakened-step (steps.Event (events.Values d)) e = step-idle is_weakened weakened_clause restored_clause (steps.Event (events.Values d)) refl refl refl
  weakened-step (steps.Event (events.Failed d)) e = step-idle is_weakened weakened_clause restored_clause (steps.Event (events.Failed d)) refl refl refl
  weakened-step (steps.Lemma d) e = step-new-weakened (steps.Lemma d) d refl refl refl
  weakened-step (steps.Delete d) e = let x = one-none weakened_clause (steps.Delete d) c refl in let y = one-none restored_clause (steps.Delete d) c refl in
      let z = many-turned is_active is_weakened Absent false is_other c d gs e in record { is = omega arith }
  weakened-step (steps.Weaken d) e = let x = one-some weakened_clause (steps.Weaken d) c d refl in let y = one-none restored_clause (steps.Weaken d) c refl in
      let z = many-turned is_active is_weakened Weakened false is_other c d gs e in record { is = omega arith }
  weakened-step (steps.Restore d) e = let x = one-none weakened_clause (steps.Restore d) c refl in let y = one-some restored_clause (steps.Restore d) c d refl in
      let z = many-turned is_weakened is_weakened Active true (λ s h. h) c d gs e in record { is = omega arith }

-- as many ids stand so as the steps leave copies
module _ (counted : Standing → Bool) (gives takes : Step → Option (List ℕ)) (c : List ℕ)
    (one : (gs : List GivenClause) (p : Step) → finds gs p ≡ true → StepCounts counted gives takes gs p c) where
  count-steps : (ps : List Step) (gs : List GivenClause) → all_find gs ps ≡ true → how_many counted c (behind_steps gs ps) + copies takes ps c ≡ how_many counted c gs + copies gives ps c
  unfolding all_find behind_steps
  count-steps [] gs h = refl
  count-steps (p ∷ ps) gs h = let parts = and_parts (finds gs p) (all_find (behind_step gs p) ps) h in
      let first = (one gs p parts.0).is in
      let more = count-steps ps (behind_step gs p) parts.1 in
      let given = copies-append gives (p ∷ []) ps c in
      let taken = copies-append takes (p ∷ []) ps c in omega arith

  count-all : (ps : List Step) → all_find [] ps ≡ true → copies gives ps c - copies takes ps c ≡ how_many counted c (given_by ps)
  count-all ps h = let e = count-steps ps [] h in let z : how_many counted c [] ≡ 0 = refl in omega arith

pub count-active : (ps : List Step) → all_find [] ps ≡ true → (c : List ℕ) → active_copies ps c ≡ how_many is_active c (given_by ps)
count-active ps h c = count-all is_active added_clause removed_clause c (active-step c) ps h

pub count-weakened : (ps : List Step) → all_find [] ps ≡ true → (c : List ℕ) → weakened_copies ps c ≡ how_many is_weakened c (given_by ps)
count-weakened ps h c = count-all is_weakened weakened_clause restored_clause c (weakened-step c) ps h
