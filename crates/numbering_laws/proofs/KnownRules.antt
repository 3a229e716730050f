-- The literals of the rules that known steps break are known, so the rules of the translated steps tell them.
use Rattle.std.proofs.Common.{◌≡◌, ℕ, Bool, true, not, le-leb, nat_lt, List, [], ◌∷◌, ◌++◌, map, Option, Some, None, refl, ap, ◌∙◌, subst, inl, inr}
use Rattle.std.specs.Prelude.{false}
use Rattle.std.specs.List.{list_any, list_all, position_from}
use Rattle.std.proofs.lemmas.Bool.{cases_Bool, and_parts, and_from}
use Rattle.lits.specs.Literal.{neg}
use Rattle.lits.specs.Clause.{has}
use Rattle.lits.specs.Numbering.{is_known, are_known, dense_lit}
use Rattle.lits.proofs.Translated.{file-dense, var-dense_lit-count}
use Rattle.session_rules.specs.declared.Event.{Event}
use Rattle.session_rules.specs.declared.Event.TheVariants as events
use Rattle.session_rules.specs.declared.Step.{Step}
use Rattle.session_rules.specs.declared.Step.TheVariants as steps
use Rattle.session_rules.specs.declared.LStep.{LStep}
use Rattle.session_rules.specs.declared.LStep.TheVariants as lsteps
use Rattle.session_rules.specs.declared.Rule.{Rule}
use Rattle.session_rules.specs.declared.Rule.TheVariants as rules
use Rattle.session_rules.specs.History.{broken_at, broken_unless, order_faults, first_clash, first_missing, assumed, inputs, model_faults, core_faults}
use Rattle.session_rules.specs.Own.{active_copies, weakened_copies, events_of, event_faults, own_faults, id_events_of, own_id_faults}
use Rattle.numbering_laws.specs.Dense.{dense_step, dense_steps, dense_id_step, dense_id_steps, is_known_step, are_known_steps, is_known_id_step, are_known_id_steps, shown_lit, dense_rule, file_rule}
use Rattle.numbering_laws.proofs.Mapped.{found-has}
use Rattle.numbering_laws.proofs.Events.{is_known_event, dense_rules, assumed-known}
use Rattle.numbering_laws.proofs.Faults.{events-known, own-dense}
use Rattle.numbering_laws.proofs.IdFaults.{id_events-known, own_id-dense}

-- whether the variable of a rule's literal has a number, if it has one
abbrev pub is_known_rule : List ℕ → Rule → Bool
is_known_rule vars (rules.ModelClash l) = is_known vars l
is_known_rule vars (rules.ModelAssumption l) = is_known vars l
is_known_rule vars (rules.CoreStranger l) = is_known vars l
is_known_rule vars (rules.ModelPart l) = is_known vars l
is_known_rule vars (rules.CorePart l) = is_known vars l
is_known_rule vars (rules.CoreClaim l) = is_known vars l
is_known_rule vars (rules.FailedPart l) = is_known vars l
is_known_rule vars r = true

record AreKnownRules (vars : List ℕ) (rs : List Rule) : Type 0 where
  all : list_all (is_known_rule vars) rs ≡ true

module _ (vars : List ℕ) where
  abbrev KnownRules : List Rule → Type 0
  KnownRules rs = AreKnownRules vars rs

  -- ---- Rules back

  shown-dense : (l : ℕ) → is_known vars l ≡ true → shown_lit vars (dense_lit vars l) ≡ l
  shown-dense l k = rw (le-leb _ _ (var-dense_lit-count vars l k)) (file-dense vars l k)

  pub rule-back : (r : Rule) → is_known_rule vars r ≡ true → file_rule vars (dense_rule vars r) ≡ r
  rule-back (rules.ModelClash l) k = ap rules.ModelClash (shown-dense l k)
  rule-back (rules.ModelAssumption l) k = ap rules.ModelAssumption (shown-dense l k)
  rule-back (rules.CoreStranger l) k = ap rules.CoreStranger (shown-dense l k)
  rule-back (rules.ModelPart l) k = ap rules.ModelPart (shown-dense l k)
  rule-back (rules.CorePart l) k = ap rules.CorePart (shown-dense l k)
  rule-back (rules.CoreClaim l) k = ap rules.CoreClaim (shown-dense l k)
  rule-back (rules.FailedPart l) k = ap rules.FailedPart (shown-dense l k)
  rule-back r k = refl

  rules-back : (rs : List Rule) → KnownRules rs → map (file_rule vars) (dense_rules vars rs) ≡ rs
  rules-back [] k = refl
  rules-back (r ∷ rs) k = let parts = and_parts (is_known_rule vars r) (list_all (is_known_rule vars) rs) k.all in
      ap (λ z. z ∷ map (file_rule vars) (dense_rules vars rs)) (rule-back r parts.0) ∙ ap (λ zs. r ∷ zs) (rules-back rs (record { all = parts.1 }))

  -- ---- Known rules

  both-known : (rs ss : List Rule) → KnownRules rs → KnownRules ss → KnownRules (rs ++ ss)
  both-known [] ss k l = l
  both-known (r ∷ rs) ss k l = let parts = and_parts (is_known_rule vars r) (list_all (is_known_rule vars) rs) k.all in
      let next = both-known rs ss (record { all = parts.1 }) l in record { all = and_from _ _ parts.0 next.all }

  unless-known : (kept : Bool) (r : Rule) → is_known_rule vars r ≡ true → KnownRules (broken_unless kept r)
  unless-known true r k = record { all = refl }
  unless-known false r k = record { all = and_from _ _ k refl }

  at-known : (f : ℕ → Rule) → ((l : ℕ) → is_known vars l ≡ true → is_known_rule vars (f l) ≡ true) → (o : Option ℕ) → ((l : ℕ) → o ≡ Some l → is_known vars l ≡ true) → KnownRules (broken_at f o)
  at-known f h None k = record { all = refl }
  at-known f h (Some l) k = record { all = and_from _ _ (h l (k l refl)) refl }

  position-known : (f : ℕ → Rule) → ((n : ℕ) → is_known_rule vars (f n) ≡ true) → (o : Option ℕ) → KnownRules (broken_at f o)
  position-known f h None = record { all = refl }
  position-known f h (Some n) = record { all = and_from _ _ (h n) refl }

  clash-known : (before ls : List ℕ) (l : ℕ) → are_known vars ls ≡ true → first_clash before ls ≡ Some l → is_known vars l ≡ true
  clash-known before [] l k e = cc
  clash-known before (x ∷ xs) l k e = let parts = and_parts (is_known vars x) (are_known vars xs) k in elim (cases_Bool (has before (neg x))) [
    | inl q ↦ let f : Some x ≡ Some l = rw q at e in let g : x ≡ l = cc f in subst (λ z. is_known vars z ≡ true) g parts.0
    | inr q ↦ let f : first_clash (x ∷ before) xs ≡ Some l = rw q at e in clash-known (x ∷ before) xs l parts.1 f
  ]

  pub missing-known : (ls ms : List ℕ) (l : ℕ) → are_known vars ls ≡ true → first_missing ls ms ≡ Some l → is_known vars l ≡ true
  missing-known ls ms l k e = found-has (is_known vars) (λ x. not (has ms x)) ls l k e

  order-known : (es : List Event) (e : Event) → KnownRules (order_faults es e)
  order-known es e = unless-known _ rules.Order refl

  model-known : (es : List Event) (m : List ℕ) → list_all (is_known_event vars) es ≡ true → are_known vars m ≡ true → KnownRules (model_faults es m)
  model-known es m ke k = both-known _ _
      (both-known _ _ (at-known rules.ModelClash (λ l h. h) (first_clash [] m) (λ l e. clash-known [] m l k e))
      (at-known rules.ModelAssumption (λ l h. h) (first_missing (assumed es) m) (λ l e. missing-known (assumed es) m l (assumed-known vars es ke) e)))
      (position-known rules.ModelInput (λ n. refl) (position_from (λ c. not (list_any (has m) c)) 1 (inputs es)))

  core-known : (es : List Event) (u : List ℕ) → are_known vars u ≡ true → KnownRules (core_faults es u)
  core-known es u k = at-known rules.CoreStranger (λ l h. h) (first_missing u (assumed es)) (λ l e. missing-known u (assumed es) l k e)

  event-faults-known : (ps : List Step) (e : Event) → are_known_steps vars ps ≡ true → is_known_event vars e ≡ true → KnownRules (event_faults ps e)
  event-faults-known ps (events.Input c) k ke = order-known (events_of ps) (events.Input c)
  event-faults-known ps (events.Query c) k ke = order-known (events_of ps) (events.Query c)
  event-faults-known ps (events.Status s) k ke = order-known (events_of ps) (events.Status s)
  event-faults-known ps (events.Model m) k ke = both-known _ _ (order-known (events_of ps) (events.Model m)) (model-known (events_of ps) m (events-known vars ps k) ke)
  event-faults-known ps (events.Core u) k ke = both-known _ _
      (both-known _ _ (order-known (events_of ps) (events.Core u)) (core-known (events_of ps) u ke)) (unless-known _ rules.CoreOpen refl)
  event-faults-known ps (events.Values c) k ke = order-known (events_of ps) (events.Values c)
  event-faults-known ps (events.Failed c) k ke = order-known (events_of ps) (events.Failed c)

  own-known : (ps : List Step) (p : Step) → are_known_steps vars ps ≡ true → is_known_step vars p ≡ true → KnownRules (own_faults ps p)
  unfolding own_faults
  own-known ps (steps.Event e) k kp = event-faults-known ps e k kp
  own-known ps (steps.Lemma c) k kp = unless-known _ rules.Lemma refl
  own-known ps (steps.Delete c) k kp = unless-known (nat_lt 0 (active_copies ps c)) (rules.NotActive 1) refl
  own-known ps (steps.Weaken c) k kp = unless-known (nat_lt 0 (active_copies ps c)) (rules.NotActive 1) refl
  own-known ps (steps.Restore c) k kp = unless-known (nat_lt 0 (weakened_copies ps c)) (rules.NotWeakened 1) refl

  -- the file's rules are those of the translation, read back
  pub own-file : (ps : List Step) (p : Step) → are_known_steps vars ps ≡ true → is_known_step vars p ≡ true
      → map (file_rule vars) (own_faults (dense_steps vars ps) (dense_step vars p)) ≡ own_faults ps p
  own-file ps p k kp = ap (map (file_rule vars)) (own-dense vars ps p k kp) ∙ rules-back (own_faults ps p) (own-known ps p k kp)

  own_id-known : (ps : List LStep) (p : LStep) → are_known_id_steps vars ps ≡ true → is_known_id_step vars p ≡ true → KnownRules (own_id_faults ps p)
  unfolding own_id_faults
  own_id-known ps (lsteps.Input id c) k kp = both-known _ _ (order-known (id_events_of ps) (events.Input c)) (unless-known _ rules.IdTaken refl)
  own_id-known ps (lsteps.Lemma id c hs) k kp = both-known _ _ (unless-known _ rules.IdTaken refl) (position-known rules.Hint (λ n. refl) _)
  own_id-known ps (lsteps.Delete is) k kp = position-known rules.NotActive (λ n. refl) _
  own_id-known ps (lsteps.Weaken is) k kp = position-known rules.NotActive (λ n. refl) _
  own_id-known ps (lsteps.Restore is) k kp = position-known rules.NotWeakened (λ n. refl) _
  own_id-known ps (lsteps.Query c) k kp = order-known (id_events_of ps) (events.Query c)
  own_id-known ps (lsteps.Status s) k kp = order-known (id_events_of ps) (events.Status s)
  own_id-known ps (lsteps.Model m) k kp = both-known _ _ (order-known (id_events_of ps) (events.Model m)) (model-known (id_events_of ps) m (id_events-known vars ps k) kp)
  own_id-known ps (lsteps.Core u hs) k kp = both-known _ _
      (both-known _ _ (order-known (id_events_of ps) (events.Core u)) (position-known rules.Hint (λ n. refl) _)) (core-known (id_events_of ps) u kp)

  pub own_id-file : (ps : List LStep) (p : LStep) → are_known_id_steps vars ps ≡ true → is_known_id_step vars p ≡ true
      → map (file_rule vars) (own_id_faults (dense_id_steps vars ps) (dense_id_step vars p)) ≡ own_id_faults ps p
  own_id-file ps p k kp = ap (map (file_rule vars)) (own_id-dense vars ps p k kp) ∙ rules-back (own_id_faults ps p) (own_id-known ps p k kp)
