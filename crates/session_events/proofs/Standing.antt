-- A state that stands for events: what one more event makes of it, and that its rules are the events' faults.
use Rattle.std.proofs.Common.{◌≡◌, ℕ, ◌≤◌, max, All, arith, Bool, true, false, not, cond, ◌||◌, nat_eq, List, [], ◌∷◌, ◌++◌, Option, Some, None, filter_map, refl, sym, ◌∙◌, ap, subst, eqb-true}
use Rattle.std.specs.Prelude.{slice_get, IfNone}
use Rattle.std.specs.Cmp.{nat_eq_equiv}
use Rattle.std.proofs.lemmas.List.Folds.{Any-from_list_any}
use Rattle.std.proofs.lemmas.Map.Views.{All-from_any}
use Rattle.session_rules.specs.declared.Rule.{Rule}
use Rattle.session_rules.specs.Logic.{has}
use Rattle.std.specs.List.{last_or}
use Rattle.std.specs.Option.{unwrap_or}
use Rattle.std.proofs.lemmas.List.{append-nil}
use Rattle.std.proofs.lemmas.List.Elements.{All-weaker, filter_map-append}
use Rattle.lits.specs.Literal.{var}
use Rattle.session_rules.specs.declared.StatusWord.TheVariants.{Satisfiable, Unsatisfiable, Unknown}
use Rattle.session_rules.specs.declared.Phase.{Phase}
use Rattle.session_rules.specs.declared.Phase.TheVariants.{Idle, Asked, Told}
use Rattle.session_rules.specs.declared.Event.{Event}
use Rattle.session_rules.specs.declared.Event.TheVariants as events
use Rattle.session_rules.specs.declared.Rule.TheVariants as rules
use Rattle.session_rules.specs.History.{last, phase, phase_behind, assumed, inputs, input_of, query_of, fits_phase, broken_unless, order_faults, model_faults, core_faults, broken_at, first_missing}
use Rattle.session_events.specs.State.{State, StandsFor, AreReserved, start, with_reserved, behind, kind_of, fits, order_rules, model_rules, model_rules_of, core_rules}

-- ---- Words of events, with one more

last-push : {A : Type 0} (o : Option A) (xs : List A) (x : A) → last_or o (xs ++ x ∷ []) ≡ Some x
last-push o [] x = refl
last-push o (y ∷ ys) x = last-push (Some y) ys x

pub phase-push : (es : List Event) (e : Event) → phase (es ++ e ∷ []) ≡ phase_behind (Some e)
phase-push es e = ap phase_behind (last-push None es e)

pub inputs-push : (es : List Event) (c : List ℕ) → inputs (es ++ events.Input c ∷ []) ≡ inputs es ++ c ∷ []
inputs-push es c = filter_map-append input_of es (events.Input c ∷ [])

inputs-same : (es : List Event) (e : Event) → filter_map input_of (e ∷ []) ≡ [] → inputs (es ++ e ∷ []) ≡ inputs es
inputs-same es e h = filter_map-append input_of es (e ∷ []) ∙ ap (λ z. filter_map input_of es ++ z) h ∙ append-nil (filter_map input_of es)

pub assumed-push : (es : List Event) (q : List ℕ) → assumed (es ++ events.Query q ∷ []) ≡ q
assumed-push es q = ap (λ z. unwrap_or (last z) []) (filter_map-append query_of es (events.Query q ∷ [])) ∙ ap (λ z. unwrap_or z []) (last-push None (filter_map query_of es) q)

assumed-same : (es : List Event) (e : Event) → filter_map query_of (e ∷ []) ≡ [] → assumed (es ++ e ∷ []) ≡ assumed es
assumed-same es e h = ap (λ z. unwrap_or (last z) [])
    (filter_map-append query_of es (e ∷ []) ∙ ap (λ z. filter_map query_of es ++ z) h ∙ append-nil (filter_map query_of es))

-- ---- One more event

pub stands_start : StandsFor start []
stands_start = record { phase = refl; assumed = refl; inputs = refl }

pub stands_reserved : (s : State) (vars : ℕ) (es : List Event) → StandsFor s es → StandsFor (with_reserved s vars) es
stands_reserved s vars es h = record { phase = h.phase; assumed = h.assumed; inputs = h.inputs }

pub stands_behind : (s : State) (e : Event) (es : List Event) → StandsFor s es → StandsFor (behind s e) (es ++ e ∷ [])
stands_behind s (events.Input c) es h = record {
  phase = sym (phase-push es (events.Input c));
  assumed = h.assumed ∙ sym (assumed-same es (events.Input c) refl);
  inputs = ap (λ z. z ++ c ∷ []) h.inputs ∙ sym (inputs-push es c);
}
stands_behind s (events.Query q) es h = record {
  phase = sym (phase-push es (events.Query q));
  assumed = sym (assumed-push es q);
  inputs = h.inputs ∙ sym (inputs-same es (events.Query q) refl);
}
stands_behind s (events.Status w) es h = record {
  phase = sym (phase-push es (events.Status w));
  assumed = h.assumed ∙ sym (assumed-same es (events.Status w) refl);
  inputs = h.inputs ∙ sym (inputs-same es (events.Status w) refl);
}
stands_behind s (events.Model m) es h = record {
  phase = sym (phase-push es (events.Model m));
  assumed = h.assumed ∙ sym (assumed-same es (events.Model m) refl);
  inputs = h.inputs ∙ sym (inputs-same es (events.Model m) refl);
}
stands_behind s (events.Core u) es h = record {
  phase = sym (phase-push es (events.Core u));
  assumed = h.assumed ∙ sym (assumed-same es (events.Core u) refl);
  inputs = h.inputs ∙ sym (inputs-same es (events.Core u) refl);
}
stands_behind s (events.Values u) es h = record {
  phase = sym (phase-push es (events.Values u));
  assumed = h.assumed ∙ sym (assumed-same es (events.Values u) refl);
  inputs = h.inputs ∙ sym (inputs-same es (events.Values u) refl);
}
stands_behind s (events.Failed u) es h = record {
  phase = sym (phase-push es (events.Failed u));
  assumed = h.assumed ∙ sym (assumed-same es (events.Failed u) refl);
  inputs = h.inputs ∙ sym (inputs-same es (events.Failed u) refl);
}

-- ---- The rules by the state are the faults of the event

fits-kind : (e : Event) (p : Phase) → fits (kind_of e) p ≡ fits_phase e p
fits-kind (events.Input c) Idle = refl
fits-kind (events.Input c) Asked = refl
fits-kind (events.Input c) (Told w) = refl
fits-kind (events.Query q) Idle = refl
fits-kind (events.Query q) Asked = refl
fits-kind (events.Query q) (Told w) = refl
fits-kind (events.Status s) Idle = refl
fits-kind (events.Status s) Asked = refl
fits-kind (events.Status s) (Told w) = refl
fits-kind (events.Model m) Idle = refl
fits-kind (events.Model m) Asked = refl
fits-kind (events.Model m) (Told Satisfiable) = refl
fits-kind (events.Model m) (Told Unsatisfiable) = refl
fits-kind (events.Model m) (Told Unknown) = refl
fits-kind (events.Core u) Idle = refl
fits-kind (events.Core u) Asked = refl
fits-kind (events.Core u) (Told Satisfiable) = refl
fits-kind (events.Core u) (Told Unsatisfiable) = refl
fits-kind (events.Core u) (Told Unknown) = refl
fits-kind (events.Values u) p = refl
fits-kind (events.Failed u) p = refl

pub order_rules-stands : (s : State) (es : List Event) (e : Event) → StandsFor s es → order_rules s (kind_of e) ≡ order_faults es e
order_rules-stands s es e h = ap (λ z. broken_unless z rules.Order) (fits-kind e s.phase ∙ ap (fits_phase e) h.phase)

pub model_rules-stands : (s : State) (es : List Event) (m : List ℕ) → StandsFor s es → model_rules s m ≡ model_faults es m
model_rules-stands s es m h = ap (λ z. model_rules_of z s.inputs m) h.assumed ∙ ap (λ z. model_rules_of (assumed es) z m) h.inputs

pub core_rules-stands : (s : State) (es : List Event) (u : List ℕ) → StandsFor s es → core_rules s u ≡ core_faults es u
core_rules-stands s es u h = ap (λ z. broken_at rules.CoreStranger (first_missing u z)) h.assumed

-- literals of variables up to the one that was reserved
pub reserved_below : (s : State) (vars : ℕ) (ls : List ℕ) → All (λ l. var l ≤ vars) ls → AreReserved (with_reserved s vars) ls
reserved_below s vars ls h = All-weaker (λ l. var l ≤ vars) (λ l. var l ≤ max s.reserved vars) (λ l le. omega (arith, le)) ls h

-- ---- Cores

-- a literal of a list that lacks nothing of the other is in that
missing_none : (us ls : List ℕ) (q : ℕ) → first_missing us ls ≡ None → has us q ≡ true → has ls q ≡ true
missing_none [] ls q e h = cc h
missing_none (u ∷ us) ls q e h = by_first (has ls u) refl (missing_none us ls q)
  where
    at_first : (b : Bool) → nat_eq q u ≡ b → has ls u ≡ true → (has us q ≡ true → has ls q ≡ true) → has ls q ≡ true
    at_first true same w more = ap (has ls) (eqb-true q u same) ∙ w
    at_first false other w more = more (ap (λ z. z || has us q) (sym other) ∙ h)

    by_first : (b : Bool) → has ls u ≡ b → (first_missing us ls ≡ None → has us q ≡ true → has ls q ≡ true) → has ls q ≡ true
    by_first true w more = at_first (nat_eq q u) refl w (more (ap (λ z. cond (not z) (Some u) (first_missing us ls)) (sym w) ∙ e))
    by_first false w more = let f : Some u ≡ None = ap (λ z. cond (not z) (Some u) (first_missing us ls)) (sym w) ∙ e in cc f

within : (ls : List ℕ) (n q : ℕ) → All (λ l. var l ≤ n) ls → has ls q ≡ true → var q ≤ n
within ls n q all h = let (i, x, low, at, same) = Any-from_list_any (nat_eq q) ls h in
    subst (λ z. var z ≤ n) (at ∙ sym (eqb-true q x same)) (all i x low)

-- where no literal of a core is a stranger, its variables are those of the assumptions
pub core_reserved : (us ls : List ℕ) (n : ℕ) (r : Option Rule) → All (λ l. var l ≤ n) ls → r ≡ slice_get (broken_at rules.CoreStranger (first_missing us ls)) 0
    → IfNone r (All (λ l. var l ≤ n) us)
core_reserved us ls n None all e = by_missing (first_missing us ls) refl e
  where
    by_missing : (o : Option ℕ) → first_missing us ls ≡ o → None ≡ slice_get (broken_at rules.CoreStranger o) 0 → All (λ l. var l ≤ n) us
    by_missing None w f = All-from_any nat_eq_equiv (λ l. var l ≤ n) us (λ q h. within ls n q all (missing_none us ls q w h))
    by_missing (Some l) w f = cc f
core_reserved us ls n (Some r) all e = tt
