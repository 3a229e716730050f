-- What the events say of translated events: the phase stays, the assumptions and inputs are translated, and so are the rules
-- that an event breaks by what came before.
use Rattle.std.proofs.Common.{◌≡◌, ℕ, Bool, true, false, not, List, [], ◌∷◌, ◌++◌, map, filter_map, Option, Some, None, option_map, unwrap_or, refl, sym, ap, ◌∙◌, subst, inl, inr}
use Rattle.std.specs.List.{list_any, list_all, last_or, position_from}
use Rattle.std.proofs.lemmas.Bool.{cases_Bool, and_parts, and_from}
use Rattle.std.proofs.lemmas.List.{map-append}
use Rattle.lits.specs.Literal.{neg}
use Rattle.lits.specs.Clause.{has}
use Rattle.lits.specs.Numbering.{is_known, are_known, dense_lit, dense_lits}
use Rattle.lits.proofs.Translated.{dense_lit-neg, has-dense}
use Rattle.session_rules.specs.declared.Phase.{Phase}
use Rattle.session_rules.specs.declared.Event.{Event}
use Rattle.session_rules.specs.declared.Event.TheVariants as events
use Rattle.session_rules.specs.declared.Rule.{Rule}
use Rattle.session_rules.specs.declared.Rule.TheVariants as rules
use Rattle.session_rules.specs.History.{last, phase_behind, phase, fits_phase, event_literals, input_of, query_of, inputs, assumed, broken_at, broken_unless, order_faults, first_clash, first_missing, model_faults, core_faults}
use Rattle.numbering_laws.specs.Dense.{dense_clauses, dense_event, are_known_clauses, dense_rule}
use Rattle.numbering_laws.proofs.Mapped.{any-mapped, find-mapped, position-mapped, last-mapped, filter_map-mapped, all-taken}

-- whether each variable of an event has a number
abbrev pub is_known_event : List ℕ → Event → Bool
is_known_event vars e = are_known vars (event_literals e)

abbrev pub dense_rules : List ℕ → List Rule → List Rule
dense_rules vars rs = map (dense_rule vars) rs

module _ (vars : List ℕ) where
  -- ---- Rules one by one

  pub unless-dense : (kept : Bool) (r s : Rule) → dense_rule vars r ≡ s → broken_unless kept s ≡ dense_rules vars (broken_unless kept r)
  unless-dense true r s e = refl
  unless-dense false r s e = ap (λ z. z ∷ []) (sym e)

  pub at-dense : (f g : ℕ → Rule) → ((l : ℕ) → dense_rule vars (f l) ≡ g (dense_lit vars l)) → (o : Option ℕ) → broken_at g (option_map (dense_lit vars) o) ≡ dense_rules vars (broken_at f o)
  at-dense f g h None = refl
  at-dense f g h (Some l) = ap (λ z. z ∷ []) (sym (h l))

  pub position-dense : (f : ℕ → Rule) → ((n : ℕ) → dense_rule vars (f n) ≡ f n) → (o : Option ℕ) → broken_at f o ≡ dense_rules vars (broken_at f o)
  position-dense f h None = refl
  position-dense f h (Some n) = ap (λ z. z ∷ []) (sym (h n))

  pub both-dense : (rs ss rs2 ss2 : List Rule) → rs ≡ dense_rules vars rs2 → ss ≡ dense_rules vars ss2 → rs ++ ss ≡ dense_rules vars (rs2 ++ ss2)
  both-dense rs ss rs2 ss2 e f = ap (λ z. z ++ ss) e ∙ ap (λ z. dense_rules vars rs2 ++ z) f ∙ sym (map-append (dense_rule vars) rs2 ss2)

  -- ---- The phase

  phase_behind-dense : (o : Option Event) → phase_behind (option_map (dense_event vars) o) ≡ phase_behind o
  phase_behind-dense None = refl
  phase_behind-dense (Some (events.Input c)) = refl
  phase_behind-dense (Some (events.Query c)) = refl
  phase_behind-dense (Some (events.Status s)) = refl
  phase_behind-dense (Some (events.Model m)) = refl
  phase_behind-dense (Some (events.Core u)) = refl
  phase_behind-dense (Some (events.Values m)) = refl
  phase_behind-dense (Some (events.Failed u)) = refl

  pub phase-dense : (es : List Event) → phase (map (dense_event vars) es) ≡ phase es
  phase-dense es = ap phase_behind (last-mapped (dense_event vars) es) ∙ phase_behind-dense (last es)

  fits-dense : (e : Event) (p : Phase) → fits_phase (dense_event vars e) p ≡ fits_phase e p
  fits-dense (events.Input c) p = refl
  fits-dense (events.Query c) p = refl
  fits-dense (events.Status s) p = refl
  fits-dense (events.Model m) p = refl
  fits-dense (events.Core u) p = refl
  fits-dense (events.Values m) p = refl
  fits-dense (events.Failed u) p = refl

  pub order-dense : (es : List Event) (e : Event) → order_faults (map (dense_event vars) es) (dense_event vars e) ≡ dense_rules vars (order_faults es e)
  order-dense es e = ap (λ p. broken_unless (fits_phase (dense_event vars e) p) rules.Order) (phase-dense es)
      ∙ ap (λ b. broken_unless b rules.Order) (fits-dense e (phase es))
      ∙ unless-dense (fits_phase e (phase es)) rules.Order rules.Order refl

  -- ---- Inputs and assumptions

  input_of-dense : (e : Event) → input_of (dense_event vars e) ≡ option_map (dense_lits vars) (input_of e)
  input_of-dense (events.Input c) = refl
  input_of-dense (events.Query c) = refl
  input_of-dense (events.Status s) = refl
  input_of-dense (events.Model m) = refl
  input_of-dense (events.Core u) = refl
  input_of-dense (events.Values m) = refl
  input_of-dense (events.Failed u) = refl

  pub inputs-dense : (es : List Event) → inputs (map (dense_event vars) es) ≡ dense_clauses vars (inputs es)
  inputs-dense es = filter_map-mapped (dense_event vars) (dense_lits vars) input_of input_of input_of-dense es

  query_of-dense : (e : Event) → query_of (dense_event vars e) ≡ option_map (dense_lits vars) (query_of e)
  query_of-dense (events.Input c) = refl
  query_of-dense (events.Query c) = refl
  query_of-dense (events.Status s) = refl
  query_of-dense (events.Model m) = refl
  query_of-dense (events.Core u) = refl
  query_of-dense (events.Values m) = refl
  query_of-dense (events.Failed u) = refl

  pub assumed-dense : (es : List Event) → assumed (map (dense_event vars) es) ≡ dense_lits vars (assumed es)
  assumed-dense es = ap (λ xs. unwrap_or (last xs) []) (filter_map-mapped (dense_event vars) (dense_lits vars) query_of query_of query_of-dense es)
      ∙ ap (λ o. unwrap_or o []) (last-mapped (dense_lits vars) (filter_map query_of es))
      ∙ nothing_or (last (filter_map query_of es))
    where
      nothing_or : (o : Option (List ℕ)) → unwrap_or (option_map (dense_lits vars) o) [] ≡ dense_lits vars (unwrap_or o [])
      nothing_or None = refl
      nothing_or (Some c) = refl

  query-known : (e : Event) (c : List ℕ) → query_of e ≡ Some c → is_known_event vars e ≡ true → are_known vars c ≡ true
  query-known (events.Input c) d e k = cc
  query-known (events.Query c) d e k = let f : c ≡ d = cc in subst (λ z. are_known vars z ≡ true) f k
  query-known (events.Status s) d e k = cc
  query-known (events.Model m) d e k = cc
  query-known (events.Core u) d e k = cc
  query-known (events.Values m) d e k = cc
  query-known (events.Failed u) d e k = cc

  pub assumed-known : (es : List Event) → list_all (is_known_event vars) es ≡ true → are_known vars (assumed es) ≡ true
  assumed-known es k = last-known None (filter_map query_of es) refl (all-taken query_of (is_known_event vars) (are_known vars) query-known es k)
    where
      last-known : (o : Option (List ℕ)) (cs : List (List ℕ)) → are_known vars (unwrap_or o []) ≡ true → are_known_clauses vars cs ≡ true → are_known vars (unwrap_or (last_or o cs) []) ≡ true
      last-known o [] k a = k
      last-known o (c ∷ cs) k a = let parts = and_parts (are_known vars c) (are_known_clauses vars cs) a in last-known (Some c) cs parts.0 parts.1

  -- ---- Models and cores

  clash-dense : (before ls : List ℕ) → are_known vars before ≡ true → are_known vars ls ≡ true
      → first_clash (dense_lits vars before) (dense_lits vars ls) ≡ option_map (dense_lit vars) (first_clash before ls)
  clash-dense before [] b k = refl
  clash-dense before (l ∷ ls) b k = let parts = and_parts (is_known vars l) (are_known vars ls) k in
      let next = clash-dense (l ∷ before) ls (and_from _ _ parts.0 b) parts.1 in
      let e : has (dense_lits vars before) (neg (dense_lit vars l)) ≡ has before (neg l) =
      ap (has (dense_lits vars before)) (sym (dense_lit-neg vars l)) ∙ has-dense vars before (neg l) b in
      elim (cases_Bool (has before (neg l))) [
        | inl q ↦ rw (e, q) refl
        | inr q ↦ rw (e, q) next
      ]

  pub missing-dense : (ls ms : List ℕ) → are_known vars ms ≡ true → first_missing (dense_lits vars ls) (dense_lits vars ms) ≡ option_map (dense_lit vars) (first_missing ls ms)
  missing-dense ls ms k = find-mapped (dense_lit vars) (λ l. not (has (dense_lits vars ms) l)) (λ l. not (has ms l)) ls (λ l n. ap not (has-dense vars ms l k))

  unmet-dense : (m c : List ℕ) → are_known vars m ≡ true → not (list_any (has (dense_lits vars m)) (dense_lits vars c)) ≡ not (list_any (has m) c)
  unmet-dense m c k = ap not (any-mapped (dense_lit vars) (has (dense_lits vars m)) (has m) c (λ l n. has-dense vars m l k))

  pub model-dense : (es : List Event) (m : List ℕ) → are_known vars m ≡ true
      → model_faults (map (dense_event vars) es) (dense_lits vars m) ≡ dense_rules vars (model_faults es m)
  model-dense es m k =
      let clash : broken_at rules.ModelClash (first_clash [] (dense_lits vars m)) ≡ dense_rules vars (broken_at rules.ModelClash (first_clash [] m)) =
      ap (broken_at rules.ModelClash) (clash-dense [] m refl k) ∙ at-dense rules.ModelClash rules.ModelClash (λ l. refl) (first_clash [] m) in
      let wanting : broken_at rules.ModelAssumption (first_missing (assumed (map (dense_event vars) es)) (dense_lits vars m)) ≡ dense_rules vars (broken_at rules.ModelAssumption (first_missing (assumed es) m)) =
      ap (λ c. broken_at rules.ModelAssumption (first_missing c (dense_lits vars m))) (assumed-dense es)
      ∙ ap (broken_at rules.ModelAssumption) (missing-dense (assumed es) m k)
      ∙ at-dense rules.ModelAssumption rules.ModelAssumption (λ l. refl) (first_missing (assumed es) m) in
      let unmet : broken_at rules.ModelInput (position_from (λ c. not (list_any (has (dense_lits vars m)) c)) 1 (inputs (map (dense_event vars) es)))
      ≡ dense_rules vars (broken_at rules.ModelInput (position_from (λ c. not (list_any (has m) c)) 1 (inputs es))) =
      ap (λ cs. broken_at rules.ModelInput (position_from (λ c. not (list_any (has (dense_lits vars m)) c)) 1 cs)) (inputs-dense es)
      ∙ ap (broken_at rules.ModelInput) (position-mapped (dense_lits vars) (λ c. not (list_any (has (dense_lits vars m)) c)) (λ c. not (list_any (has m) c)) 1 (inputs es) (λ c n. unmet-dense m c k))
      ∙ position-dense rules.ModelInput (λ n. refl) (position_from (λ c. not (list_any (has m) c)) 1 (inputs es)) in
      both-dense _ _ _ _ (both-dense _ _ _ _ clash wanting) unmet

  pub core-dense : (es : List Event) (u : List ℕ) → list_all (is_known_event vars) es ≡ true
      → core_faults (map (dense_event vars) es) (dense_lits vars u) ≡ dense_rules vars (core_faults es u)
  core-dense es u k = ap (λ c. broken_at rules.CoreStranger (first_missing (dense_lits vars u) c)) (assumed-dense es)
      ∙ ap (broken_at rules.CoreStranger) (missing-dense u (assumed es) (assumed-known es k))
      ∙ at-dense rules.CoreStranger rules.CoreStranger (λ l. refl) (first_missing u (assumed es))
