-- Each clause that is active or weakened follows from the inputs, where no step breaks a rule of its own.
use Rattle.std.proofs.Common.{◌≡◌, ℕ, ◌+◌, ◌-◌, ◌<◌, ◌⊎◌, Bool, true, false, cond, nat_lt, List, [], ◌∷◌, ◌++◌, map, filter_map, Option, Some, None, refl, sym, ◌∙◌, inl, inr, arith, ltb-true}
use Rattle.std.proofs.lemmas.List.Folds.{list_all-append}
use Rattle.std.proofs.lemmas.List.Elements.{filter_map-append}
use Rattle.std.proofs.lemmas.List.Sums.{sum_by-append}
use Rattle.std.proofs.lemmas.Bool.{and_parts, and_from, cases_Bool, or_parts, not_from_false}
use Rattle.lits.specs.Literal.{neg}
use Rattle.session_rules.specs.declared.Event.TheVariants as events
use Rattle.session_rules.specs.declared.Step.{Step}
use Rattle.session_rules.specs.declared.Step.TheVariants as steps
use Rattle.session_rules.specs.declared.Rule.{Rule}
use Rattle.session_rules.specs.declared.Rule.TheVariants as rules
use Rattle.session_rules.specs.Logic.{has, is_part, same_set, satisfies, satisfies_clause, satisfies_each, satisfies_formula, closes}
use Rattle.session_rules.specs.History.{inputs, broken_unless}
use Rattle.session_rules.specs.Own.{events_of, added_clause, removed_clause, weakened_clause, restored_clause, copies, active_copies, weakened_copies, active_clauses, own_faults}
use Rattle.lits.proofs.Members.{all_at, all_from, any_at, any_from, filter_at, has_at}
use Rattle.session_rules.proofs.Closing.{Closes-from_closes, Contradicts-from_Closes, satisfies-neg_is}

-- each assignment that satisfies the clauses satisfies this one
abbrev pub Entails : List (List ℕ) → List ℕ → Type 0
Entails cs c = (v : ℕ → Bool) → satisfies_formula v cs ≡ true → satisfies_clause v c ≡ true

Entails-part : (cs : List (List ℕ)) (c d : List ℕ) → is_part d c ≡ true → Entails cs d → Entails cs c
Entails-part cs c d p h = λ v f. let m = any_at (satisfies v) d (h v f) in
    any_from (satisfies v) c m.0 (has_at c m.0 (all_at (has c) d m.0 p m.1)) m.2

Entails-same : (cs : List (List ℕ)) (c d : List ℕ) → same_set c d ≡ true → Entails cs d → Entails cs c
Entails-same cs c d s h = Entails-part cs c d (and_parts _ _ s).1 h

pub Entails-append : (cs ds : List (List ℕ)) (c : List ℕ) → Entails cs c → Entails (cs ++ ds) c
Entails-append cs ds c h = λ v f. h v (and_parts _ _ (sym (list_all-append (satisfies_clause v) cs ds) ∙ f)).0

pub Entails-last : (cs : List (List ℕ)) (c : List ℕ) → Entails (cs ++ c ∷ []) c
Entails-last cs c = λ v f. (and_parts _ _ (and_parts _ _ (sym (list_all-append (satisfies_clause v) cs (c ∷ [])) ∙ f)).1).0

-- the inputs so far
abbrev pub inputs_of : List Step → List (List ℕ)
inputs_of ps = inputs (events_of ps)

abbrev pub Justified : List Step → Type 0
Justified ps = (c : List ℕ) → (0 < active_copies ps c) ⊎ (0 < weakened_copies ps c) → Entails (inputs_of ps) c

inputs_of-push : (ps : List Step) (p : Step) → inputs_of (ps ++ p ∷ []) ≡ inputs_of ps ++ inputs_of (p ∷ [])
inputs_of-push ps p = rw (filter_map-append, filter_map-append) refl

copies-push : (given : Step → Option (List ℕ)) (ps : List Step) (p : Step) (c : List ℕ) → copies given (ps ++ p ∷ []) c ≡ copies given ps c + copies given (p ∷ []) c
copies-push given ps p c = rw filter_map-append (sum_by-append (λ d. cond (same_set c d) 1 0) (filter_map given ps) (filter_map given (p ∷ [])))

-- what one step changes
module _ (ps : List Step) (p : Step) (c : List ℕ) where
  active_copies-push : active_copies (ps ++ p ∷ []) c ≡ copies added_clause ps c + copies added_clause (p ∷ []) c - (copies removed_clause ps c + copies removed_clause (p ∷ []) c)
  active_copies-push = rw (copies-push added_clause ps p c, copies-push removed_clause ps p c) refl

  weakened_copies-push : weakened_copies (ps ++ p ∷ []) c ≡ copies weakened_clause ps c + copies weakened_clause (p ∷ []) c - (copies restored_clause ps c + copies restored_clause (p ∷ []) c)
  weakened_copies-push = rw (copies-push weakened_clause ps p c, copies-push restored_clause ps p c) refl

-- what was entailed is
Entails-push : (ps : List Step) (p : Step) (c : List ℕ) → Entails (inputs_of ps) c → Entails (inputs_of (ps ++ p ∷ [])) c
Entails-push ps p c h = rw (inputs_of-push ps p) (Entails-append (inputs_of ps) (inputs_of (p ∷ [])) c h)

-- a step that adds a clause which the inputs entail, and takes none away
module _ (ps : List Step) (p : Step) (d : List ℕ) (added : added_clause p ≡ Some d) (removed : removed_clause p ≡ None) (weakened : weakened_clause p ≡ None)
    (entails : Entails (inputs_of (ps ++ p ∷ [])) d) where
  justified-add : Justified ps → Justified (ps ++ p ∷ [])
  justified-add j = λ c h. elim (cases_Bool (same_set c d)) [
    | inl q ↦ Entails-same (inputs_of (ps ++ p ∷ [])) c d q entails
    | inr q ↦ let more : copies added_clause (p ∷ []) c ≡ 0 = rw (added, q) refl in
        let less : copies removed_clause (p ∷ []) c ≡ 0 = rw removed refl in
        let weak : copies weakened_clause (p ∷ []) c ≡ 0 = rw weakened refl in
        let a = active_copies-push ps p c in let w = weakened_copies-push ps p c in
        let before : (0 < active_copies ps c) ⊎ (0 < weakened_copies ps c) = elim h [ inl x ↦ inl (omega arith) | inr x ↦ inr (omega arith) ] in
        Entails-push ps p c (j c before)
  ]

-- a step that adds and weakens none
module _ (ps : List Step) (p : Step) (added : added_clause p ≡ None) (weakened : weakened_clause p ≡ None) where
  justified-keep : Justified ps → Justified (ps ++ p ∷ [])
  justified-keep j = λ c h.
      let more : copies added_clause (p ∷ []) c ≡ 0 = rw added refl in
      let weak : copies weakened_clause (p ∷ []) c ≡ 0 = rw weakened refl in
      let a = active_copies-push ps p c in let w = weakened_copies-push ps p c in
      let before : (0 < active_copies ps c) ⊎ (0 < weakened_copies ps c) = elim h [ inl x ↦ inl (omega arith) | inr x ↦ inr (omega arith) ] in
      Entails-push ps p c (j c before)

-- a step that weakens an active clause
justified-weaken : (ps : List Step) (d : List ℕ) → 0 < active_copies ps d → Justified ps → Justified (ps ++ steps.Weaken d ∷ [])
justified-weaken ps d active j = λ c h. let p = steps.Weaken d in elim (cases_Bool (same_set c d)) [
  | inl q ↦ Entails-same (inputs_of (ps ++ p ∷ [])) c d q (Entails-push ps p d (j d (inl active)))
  | inr q ↦ let weak : copies weakened_clause (p ∷ []) c ≡ 0 = rw q refl in
      let a = active_copies-push ps p c in let w = weakened_copies-push ps p c in
      let before : (0 < active_copies ps c) ⊎ (0 < weakened_copies ps c) = elim h [ inl x ↦ inl (omega arith) | inr x ↦ inr (omega arith) ] in
      Entails-push ps p c (j c before)
]

-- a clause with no literal that is satisfied has only negations that are
pub unsatisfied : (v : ℕ → Bool) (c : List ℕ) → satisfies_clause v c ≡ false → satisfies_each v (map neg c) ≡ true
unsatisfied v [] h = refl
unsatisfied v (l ∷ ls) h = let parts = or_parts _ _ h in and_from _ _ (satisfies-neg_is v l ∙ not_from_false _ parts.0) (unsatisfied v ls parts.1)

-- the active clauses are satisfied
pub active_satisfied : (ps : List Step) → Justified ps → (v : ℕ → Bool) → satisfies_formula v (inputs_of ps) ≡ true → satisfies_formula v (active_clauses ps) ≡ true
active_satisfied ps j v f = all_from (satisfies_clause v) (active_clauses ps) (λ c m.
    let r = filter_at (λ c. nat_lt 0 (active_copies ps c)) (filter_map added_clause ps) c m in j c (inl (ltb-true _ _ r.1)) v f)

-- a lemma that closes is entailed
lemma_entailed : (ps : List Step) (d : List ℕ) → Justified ps → closes (active_clauses ps) (map neg d) ≡ true → Entails (inputs_of ps) d
lemma_entailed ps d j e = λ v f. elim (cases_Bool (satisfies_clause v d)) [
  | inl q ↦ q
  | inr q ↦ absurd (Contradicts-from_Closes (active_clauses ps) (map neg d) (Closes-from_closes (active_clauses ps) (map neg d) e) v
      (active_satisfied ps j v f) (unsatisfied v d q))
]

pub broken_unless_kept : (b : Bool) (r : Rule) → broken_unless b r ≡ [] → b ≡ true
broken_unless_kept true r e = refl
broken_unless_kept false r e = cc

-- a step that breaks no rule of its own keeps each active or weakened clause justified
pub justified-push : (ps : List Step) (p : Step) → own_faults ps p ≡ [] → Justified ps → Justified (ps ++ p ∷ [])
unfolding own_faults
justified-push ps (steps.Event (events.Input d)) e j = justified-add ps (steps.Event (events.Input d)) d refl refl refl
    (rw (inputs_of-push ps (steps.Event (events.Input d))) (Entails-last (inputs_of ps) d)) j
justified-push ps (steps.Event (events.Query d)) e j = justified-keep ps (steps.Event (events.Query d)) refl refl j
justified-push ps (steps.Event (events.Status s)) e j = justified-keep ps (steps.Event (events.Status s)) refl refl j
justified-push ps (steps.Event (events.Model m)) e j = justified-keep ps (steps.Event (events.Model m)) refl refl j
justified-push ps (steps.Event (events.Core u)) e j = justified-keep ps (steps.Event (events.Core u)) refl refl j
justified-push ps (steps.Event (events.Values m)) e j = justified-keep ps (steps.Event (events.Values m)) refl refl j
justified-push ps (steps.Event (events.Failed u)) e j = justified-keep ps (steps.Event (events.Failed u)) refl refl j
justified-push ps (steps.Lemma d) e j = justified-add ps (steps.Lemma d) d refl refl refl
    (Entails-push ps (steps.Lemma d) d (lemma_entailed ps d j (broken_unless_kept _ rules.Lemma e))) j
justified-push ps (steps.Delete d) e j = justified-keep ps (steps.Delete d) refl refl j
justified-push ps (steps.Weaken d) e j = justified-weaken ps d (ltb-true _ _ (broken_unless_kept _ (rules.NotActive 1) e)) j
justified-push ps (steps.Restore d) e j = justified-add ps (steps.Restore d) d refl refl refl
    (Entails-push ps (steps.Restore d) d (j d (inr (ltb-true _ _ (broken_unless_kept _ (rules.NotWeakened 1) e))))) j
