-- Translated steps without ids break the translated rules: copies are counted alike, and so the active clauses are translated.
use Rattle.std.proofs.Common.{◌≡◌, ℕ, ◌-◌, true, nat_lt, List, [], ◌∷◌, map, filter, filter_map, count_by, Option, Some, option_map, refl, sym, ap, ◌∙◌, subst, inl, inr, arith}
use Rattle.std.specs.Prelude.{false}
use Rattle.std.specs.List.{list_all}
use Rattle.std.proofs.lemmas.Bool.{cases_Bool, both_ways}
use Rattle.lits.specs.Literal.{neg}
use Rattle.lits.specs.Clause.{same_set}
use Rattle.lits.specs.Numbering.{are_known, dense_lits}
use Rattle.lits.proofs.Members.{all_at}
use Rattle.lits.proofs.Sets.{same_at}
use Rattle.lits.proofs.Translated.{same_set-dense, known_at, known_from}
use Rattle.session_rules.specs.declared.Event.{Event}
use Rattle.session_rules.specs.declared.Event.TheVariants as events
use Rattle.session_rules.specs.declared.Step.{Step}
use Rattle.session_rules.specs.declared.Step.TheVariants as steps
use Rattle.session_rules.specs.declared.Rule.TheVariants as rules
use Rattle.session_rules.specs.Logic.{closes}
use Rattle.session_rules.specs.History.{broken_unless, order_faults, model_faults, core_faults}
use Rattle.session_rules.specs.Own.{event_of, added_clause, removed_clause, weakened_clause, restored_clause, copies, active_copies, weakened_copies, active_clauses, events_of, event_faults, own_faults}
use Rattle.numbering_laws.specs.Dense.{dense_clauses, dense_event, dense_step, dense_steps, are_known_clauses, is_known_step, are_known_steps}
use Rattle.numbering_laws.proofs.Mapped.{filter-mapped, count-mapped, filter_map-mapped, all-taken, all-filtered, count-none}
use Rattle.numbering_laws.proofs.Propagated.{closes-dense, negs-dense, negs-known}
use Rattle.numbering_laws.proofs.Events.{is_known_event, dense_rules, unless-dense, both-dense, order-dense, model-dense, core-dense}

-- what is taken of a translated step is the translated clause, which is known where the step is
record Takes (vars : List ℕ) (given : Step → Option (List ℕ)) : Type 0 where
  translated : (p : Step) → given (dense_step vars p) ≡ option_map (dense_lits vars) (given p)
  known : (p : Step) (c : List ℕ) → given p ≡ Some c → is_known_step vars p ≡ true → are_known vars c ≡ true

module _ (vars : List ℕ) where
  -- ---- What each step gives

  known-if : (c d : List ℕ) → Some c ≡ Some d → are_known vars c ≡ true → are_known vars d ≡ true
  known-if c d e k = let f : c ≡ d = cc in subst (λ z. are_known vars z ≡ true) f k

  added : Takes vars added_clause
  added = record { translated = turn; known = stay }
    where
      turn : (p : Step) → added_clause (dense_step vars p) ≡ option_map (dense_lits vars) (added_clause p)
      turn (steps.Event (events.Input c)) = refl
      turn (steps.Event (events.Query c)) = refl
      turn (steps.Event (events.Status s)) = refl
      turn (steps.Event (events.Model m)) = refl
      turn (steps.Event (events.Core u)) = refl
      turn (steps.Event (events.Values m)) = refl
      turn (steps.Event (events.Failed u)) = refl
      turn (steps.Lemma c) = refl
      turn (steps.Delete c) = refl
      turn (steps.Weaken c) = refl
      turn (steps.Restore c) = refl

      stay : (p : Step) (d : List ℕ) → added_clause p ≡ Some d → is_known_step vars p ≡ true → are_known vars d ≡ true
      stay (steps.Event (events.Input c)) d e k = known-if c d e k
      stay (steps.Event (events.Query c)) d e k = cc
      stay (steps.Event (events.Status s)) d e k = cc
      stay (steps.Event (events.Model m)) d e k = cc
      stay (steps.Event (events.Core u)) d e k = cc
      stay (steps.Event (events.Values m)) d e k = cc
      stay (steps.Event (events.Failed u)) d e k = cc
      stay (steps.Lemma c) d e k = known-if c d e k
      stay (steps.Delete c) d e k = cc
      stay (steps.Weaken c) d e k = cc
      stay (steps.Restore c) d e k = known-if c d e k

  removed : Takes vars removed_clause
  removed = record { translated = turn; known = stay }
    where
      turn : (p : Step) → removed_clause (dense_step vars p) ≡ option_map (dense_lits vars) (removed_clause p)
      turn (steps.Event e) = refl
      turn (steps.Lemma c) = refl
      turn (steps.Delete c) = refl
      turn (steps.Weaken c) = refl
      turn (steps.Restore c) = refl

      stay : (p : Step) (d : List ℕ) → removed_clause p ≡ Some d → is_known_step vars p ≡ true → are_known vars d ≡ true
      stay (steps.Event e) d f k = cc
      stay (steps.Lemma c) d e k = cc
      stay (steps.Delete c) d e k = known-if c d e k
      stay (steps.Weaken c) d e k = known-if c d e k
      stay (steps.Restore c) d e k = cc

  weakened : Takes vars weakened_clause
  weakened = record { translated = turn; known = stay }
    where
      turn : (p : Step) → weakened_clause (dense_step vars p) ≡ option_map (dense_lits vars) (weakened_clause p)
      turn (steps.Event e) = refl
      turn (steps.Lemma c) = refl
      turn (steps.Delete c) = refl
      turn (steps.Weaken c) = refl
      turn (steps.Restore c) = refl

      stay : (p : Step) (d : List ℕ) → weakened_clause p ≡ Some d → is_known_step vars p ≡ true → are_known vars d ≡ true
      stay (steps.Event e) d f k = cc
      stay (steps.Lemma c) d e k = cc
      stay (steps.Delete c) d e k = cc
      stay (steps.Weaken c) d e k = known-if c d e k
      stay (steps.Restore c) d e k = cc

  restored : Takes vars restored_clause
  restored = record { translated = turn; known = stay }
    where
      turn : (p : Step) → restored_clause (dense_step vars p) ≡ option_map (dense_lits vars) (restored_clause p)
      turn (steps.Event e) = refl
      turn (steps.Lemma c) = refl
      turn (steps.Delete c) = refl
      turn (steps.Weaken c) = refl
      turn (steps.Restore c) = refl

      stay : (p : Step) (d : List ℕ) → restored_clause p ≡ Some d → is_known_step vars p ≡ true → are_known vars d ≡ true
      stay (steps.Event e) d f k = cc
      stay (steps.Lemma c) d e k = cc
      stay (steps.Delete c) d e k = cc
      stay (steps.Weaken c) d e k = cc
      stay (steps.Restore c) d e k = known-if c d e k

  -- ---- Copies. The clause that is counted needn't be known: one that isn't has no copy, and neither has its translation.

  module _ (given : Step → Option (List ℕ)) (t : Takes vars given) where
    taken-dense : (ps : List Step) → filter_map given (dense_steps vars ps) ≡ dense_clauses vars (filter_map given ps)
    taken-dense ps = filter_map-mapped (dense_step vars) (dense_lits vars) given given t.translated ps

    taken-known : (ps : List Step) → are_known_steps vars ps ≡ true → are_known_clauses vars (filter_map given ps) ≡ true
    taken-known ps k = all-taken given (is_known_step vars) (are_known vars) t.known ps k

    copies-dense : (ps : List Step) (c : List ℕ) → are_known_steps vars ps ≡ true → copies given (dense_steps vars ps) (dense_lits vars c) ≡ copies given ps c
    copies-dense ps c k = ap (count_by (same_set (dense_lits vars c))) (taken-dense ps)
        ∙ count-mapped (dense_lits vars) (same_set (dense_lits vars c)) (same_set c) (filter_map given ps)
        (λ d m. same_set-dense vars c d (all_at (are_known vars) (filter_map given ps) d (taken-known ps k) m))

  pub active_copies-dense : (ps : List Step) (c : List ℕ) → are_known_steps vars ps ≡ true → active_copies (dense_steps vars ps) (dense_lits vars c) ≡ active_copies ps c
  active_copies-dense ps c k = ap (λ n. n - copies removed_clause (dense_steps vars ps) (dense_lits vars c)) (copies-dense added_clause added ps c k)
      ∙ ap (λ n. copies added_clause ps c - n) (copies-dense removed_clause removed ps c k)

  pub weakened_copies-dense : (ps : List Step) (c : List ℕ) → are_known_steps vars ps ≡ true → weakened_copies (dense_steps vars ps) (dense_lits vars c) ≡ weakened_copies ps c
  weakened_copies-dense ps c k = ap (λ n. n - copies restored_clause (dense_steps vars ps) (dense_lits vars c)) (copies-dense weakened_clause weakened ps c k)
      ∙ ap (λ n. copies weakened_clause ps c - n) (copies-dense restored_clause restored ps c k)

  pub active_clauses-dense : (ps : List Step) → are_known_steps vars ps ≡ true → active_clauses (dense_steps vars ps) ≡ dense_clauses vars (active_clauses ps)
  active_clauses-dense ps k = ap (filter (λ c. nat_lt 0 (active_copies (dense_steps vars ps) c))) (taken-dense added_clause added ps)
      ∙ filter-mapped (dense_lits vars) (λ c. nat_lt 0 (active_copies (dense_steps vars ps) c)) (λ c. nat_lt 0 (active_copies ps c)) (filter_map added_clause ps)
      (λ c m. ap (nat_lt 0) (active_copies-dense ps c k))

  pub active_clauses-known : (ps : List Step) → are_known_steps vars ps ≡ true → are_known_clauses vars (active_clauses ps) ≡ true
  active_clauses-known ps k = all-filtered (λ c. nat_lt 0 (active_copies ps c)) (are_known vars) (filter_map added_clause ps) (taken-known added_clause added ps k)

  -- ---- Events

  event_of-dense : (p : Step) → event_of (dense_step vars p) ≡ option_map (dense_event vars) (event_of p)
  event_of-dense (steps.Event e) = refl
  event_of-dense (steps.Lemma c) = refl
  event_of-dense (steps.Delete c) = refl
  event_of-dense (steps.Weaken c) = refl
  event_of-dense (steps.Restore c) = refl

  pub events_of-dense : (ps : List Step) → events_of (dense_steps vars ps) ≡ map (dense_event vars) (events_of ps)
  events_of-dense ps = filter_map-mapped (dense_step vars) (dense_event vars) event_of event_of event_of-dense ps

  event-known : (p : Step) (e : Event) → event_of p ≡ Some e → is_known_step vars p ≡ true → is_known_event vars e ≡ true
  event-known (steps.Event d) e f k = let g : d ≡ e = cc in subst (λ z. is_known_event vars z ≡ true) g k
  event-known (steps.Lemma c) e f k = cc
  event-known (steps.Delete c) e f k = cc
  event-known (steps.Weaken c) e f k = cc
  event-known (steps.Restore c) e f k = cc

  pub events-known : (ps : List Step) → are_known_steps vars ps ≡ true → list_all (is_known_event vars) (events_of ps) ≡ true
  events-known ps k = all-taken event_of (is_known_step vars) (is_known_event vars) event-known ps k

  -- ---- The rules of a step

  order-step : (ps : List Step) (e : Event) → order_faults (events_of (dense_steps vars ps)) (dense_event vars e) ≡ dense_rules vars (order_faults (events_of ps) e)
  order-step ps e = ap (λ es. order_faults es (dense_event vars e)) (events_of-dense ps) ∙ order-dense vars (events_of ps) e

  closes-step : (ps : List Step) (ls : List ℕ) → are_known_steps vars ps ≡ true → are_known vars ls ≡ true
      → closes (active_clauses (dense_steps vars ps)) (dense_lits vars ls) ≡ closes (active_clauses ps) ls
  closes-step ps ls k kl = ap (λ cs. closes cs (dense_lits vars ls)) (active_clauses-dense ps k) ∙ closes-dense vars (active_clauses ps) ls (active_clauses-known ps k) kl

  event-dense : (ps : List Step) (e : Event) → are_known_steps vars ps ≡ true → is_known_event vars e ≡ true
      → event_faults (dense_steps vars ps) (dense_event vars e) ≡ dense_rules vars (event_faults ps e)
  event-dense ps (events.Input c) k ke = order-step ps (events.Input c)
  event-dense ps (events.Query c) k ke = order-step ps (events.Query c)
  event-dense ps (events.Status s) k ke = order-step ps (events.Status s)
  event-dense ps (events.Model m) k ke = both-dense vars _ _ _ _ (order-step ps (events.Model m))
      (ap (λ es. model_faults es (dense_lits vars m)) (events_of-dense ps) ∙ model-dense vars (events_of ps) m ke)
  event-dense ps (events.Core u) k ke = both-dense vars _ _ _ _
      (both-dense vars _ _ _ _ (order-step ps (events.Core u))
      (ap (λ es. core_faults es (dense_lits vars u)) (events_of-dense ps) ∙ core-dense vars (events_of ps) u (events-known ps k)))
      (ap (λ b. broken_unless b rules.CoreOpen) (closes-step ps u k ke) ∙ unless-dense vars (closes (active_clauses ps) u) rules.CoreOpen rules.CoreOpen refl)
  event-dense ps (events.Values c) k ke = order-step ps (events.Values c)
  event-dense ps (events.Failed c) k ke = order-step ps (events.Failed c)

  -- a step breaks the rules of its translation, with their literals translated
  pub own-dense : (ps : List Step) (p : Step) → are_known_steps vars ps ≡ true → is_known_step vars p ≡ true
      → own_faults (dense_steps vars ps) (dense_step vars p) ≡ dense_rules vars (own_faults ps p)
  unfolding own_faults
  own-dense ps (steps.Event e) k ke = event-dense ps e k ke
  own-dense ps (steps.Lemma c) k kc = ap (λ ls. broken_unless (closes (active_clauses (dense_steps vars ps)) ls) rules.Lemma) (negs-dense vars c)
      ∙ ap (λ b. broken_unless b rules.Lemma) (closes-step ps (map neg c) k (negs-known vars c kc))
      ∙ unless-dense vars (closes (active_clauses ps) (map neg c)) rules.Lemma rules.Lemma refl
  own-dense ps (steps.Delete c) k kc = ap (λ n. broken_unless (nat_lt 0 n) (rules.NotActive 1)) (active_copies-dense ps c k)
      ∙ unless-dense vars (nat_lt 0 (active_copies ps c)) (rules.NotActive 1) (rules.NotActive 1) refl
  own-dense ps (steps.Weaken c) k kc = ap (λ n. broken_unless (nat_lt 0 n) (rules.NotActive 1)) (active_copies-dense ps c k)
      ∙ unless-dense vars (nat_lt 0 (active_copies ps c)) (rules.NotActive 1) (rules.NotActive 1) refl
  own-dense ps (steps.Restore c) k kc = ap (λ n. broken_unless (nat_lt 0 n) (rules.NotWeakened 1)) (weakened_copies-dense ps c k)
      ∙ unless-dense vars (nat_lt 0 (weakened_copies ps c)) (rules.NotWeakened 1) (rules.NotWeakened 1) refl

  -- ---- A clause with a literal that has no number

  -- it has the set of no known clause
  unknown-set : (c d : List ℕ) → are_known vars c ≡ false → are_known vars d ≡ true → same_set c d ≡ false
  unknown-set c d n k = elim (cases_Bool (same_set c d)) [
    | inl s ↦ absurd (both_ways _ n (known_from vars c (λ l h. known_at vars d l k (sym (same_at c d s l) ∙ h))))
    | inr s ↦ s
  ]

  no-copy : (given : Step → Option (List ℕ)) → Takes vars given → (ps : List Step) (c : List ℕ) → are_known_steps vars ps ≡ true → are_known vars c ≡ false → copies given ps c ≡ 0
  no-copy given t ps c k n = count-none (same_set c) (filter_map given ps)
      (λ d m. unknown-set c d n (all_at (are_known vars) (filter_map given ps) d (taken-known given t ps k) m))

  pub not-active : (ps : List Step) (c : List ℕ) → are_known_steps vars ps ≡ true → are_known vars c ≡ false → active_copies ps c ≡ 0
  not-active ps c k n = let e = no-copy added_clause added ps c k n in omega (arith, e)

  pub not-weakened : (ps : List Step) (c : List ℕ) → are_known_steps vars ps ≡ true → are_known vars c ≡ false → weakened_copies ps c ≡ 0
  not-weakened ps c k n = let e = no-copy weakened_clause weakened ps c k n in omega (arith, e)

  pub unknown-delete : (ps : List Step) (c : List ℕ) → are_known_steps vars ps ≡ true → are_known vars c ≡ false → own_faults ps (steps.Delete c) ≡ rules.NotActive 1 ∷ []
  unfolding own_faults
  unknown-delete ps c k n = ap (λ n. broken_unless (nat_lt 0 n) (rules.NotActive 1)) (not-active ps c k n)

  pub unknown-weaken : (ps : List Step) (c : List ℕ) → are_known_steps vars ps ≡ true → are_known vars c ≡ false → own_faults ps (steps.Weaken c) ≡ rules.NotActive 1 ∷ []
  unfolding own_faults
  unknown-weaken ps c k n = ap (λ n. broken_unless (nat_lt 0 n) (rules.NotActive 1)) (not-active ps c k n)

  pub unknown-restore : (ps : List Step) (c : List ℕ) → are_known_steps vars ps ≡ true → are_known vars c ≡ false → own_faults ps (steps.Restore c) ≡ rules.NotWeakened 1 ∷ []
  unfolding own_faults
  unknown-restore ps c k n = ap (λ n. broken_unless (nat_lt 0 n) (rules.NotWeakened 1)) (not-weakened ps c k n)
