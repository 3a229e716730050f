-- The verdict is the fault with the least key. Likewise the verdict on a proof by itself.
use Rattle.std.proofs.Common.{◌≡◌, ℕ, ◌↔◌, List, [], ◌∷◌, length, count_by, Contains, slice_get, Option, Some, None, Result, Ok, Err, codes, refl, sym, ◌∙◌, ap, subst, inl, inr, arith}
use Rattle.std.proofs.lemmas.Bool.{cases_lt}
use Rattle.std.proofs.lemmas.Option.{slice_get_within, slice_get_cases, slice_get-get_or, get_or_from_slice_get}
use Rattle.session_rules.specs.declared.Form.{Form}
use Rattle.session_rules.specs.declared.Form.TheVariants.{Idrup, Lidrup}
use Rattle.session_rules.specs.declared.Side.TheVariants.{Interaction, Proof}
use Rattle.session_rules.specs.declared.Phase.{Phase}
use Rattle.session_rules.specs.declared.Phase.TheVariants.{Idle, Asked, Told}
use Rattle.session_rules.specs.declared.Rule.{Rule}
use Rattle.session_rules.specs.declared.Verdict.{Verdict}
use Rattle.session_rules.specs.declared.Verdict.TheVariants.{Accepted, Refused}
use Rattle.session_rules.specs.Lines.{Line}
use Rattle.session_rules.specs.Reading.{value_of, header_fault}
use Rattle.session_rules.specs.Pair.{Refusal, refusal, verdict_of, verdict_by, verdict, is_query}
use Rattle.session_rules.specs.Verdicts.{StepOf, rules_of, body, steps_in, OwnFault, IsOwnFault, IsFault, IsFirst, HasNone, IsVerdict, RefusedUpTo, first_refusal, own_verdict, IsOwnVerdict, KeepsOwnRules}
use Rattle.session_rules.specs.Keys.{Key, rank, IsAtMost}
use Rattle.session_rules.specs.Keys as keys
use Rattle.session_rules.specs.Verdicts as faults
use Rattle.session_rules.proofs.Positions.{le_cases, said_at, said_within, said_stops, said_next}
use Rattle.session_rules.proofs.Ascending.{at_most_both, at_most_trans}
use Rattle.session_rules.proofs.Listed.{Ranked, First, first_ranked, none_ranked}
use Rattle.session_rules.proofs.RuleNumbers.{own_rule_number}
use Rattle.session_rules.proofs.OwnFaults.{header_before, read, first_own}
use Rattle.session_rules.proofs.PairFaults.{PairParts, pair_parts, pair_key, first_pair, parts_unique}

-- ---- The verdict

-- one fault a key
module _ (form : Form) (a b : List ℕ) where
  parts_of : (ns : List ℕ) (r : Refusal) → Ranked (IsFault form a b) ns r → PairParts form a b ns r
  parts_of ns r f = subst (λ z. PairParts form a b z r) f.1 (pair_parts form a b f.0 r f.2)

  ranked_unique : (ns : List ℕ) (r s : Refusal) → Ranked (IsFault form a b) ns r → Ranked (IsFault form a b) ns s → r ≡ s
  ranked_unique ns r s f g = parts_unique form a b ns r s (parts_of ns r f) (parts_of ns s g)

  pub fault_unique : (key : Key) (r s : Refusal) → IsFault form a b key r → IsFault form a b key s → r ≡ s
  fault_unique key r s f g = ranked_unique (rank key) r s (key, refl, f) (key, refl, g)

-- two first faults are the same
pub first_unique : (Faults : Key → Refusal → Type 0) → ((ns : List ℕ) (r s : Refusal) → Ranked Faults ns r → Ranked Faults ns s → r ≡ s) → (r s : Refusal) → IsFirst Faults r → IsFirst Faults s → r ≡ s
first_unique Faults unique r s f g =
    let same : rank g.key ≡ rank f.key = at_most_both (rank g.key) (rank f.key) (g.is_least f.key r f.is_fault) (f.is_least g.key s g.is_fault) in
    unique (rank f.key) r s (f.key, refl, f.is_fault) (g.key, same, g.is_fault)

verdict_by_form : (form : Form) (a b : List ℕ) → verdict form a b ≡ verdict_by (rules_of form) a b
unfolding verdict
verdict_by_form Idrup a b = refl
verdict_by_form Lidrup a b = refl

first_verdict : (form : Form) (a b : List ℕ) (rs : List Refusal) → First (Ranked (IsFault form a b)) rs → IsVerdict form a b (verdict_of (count_by (is_query (rules_of form)) (steps_in form b)) rs)
first_verdict form a b [] h = (none_ranked (IsFault form a b) h, refl)
first_verdict form a b (r ∷ more) h = first_ranked (IsFault form a b) r h

-- the verdict is the fault with the least key
pub verdict_least : (form : Form) (a b : List ℕ) → IsVerdict form a b (verdict form a b)
unfolding verdict_by
verdict_least form a b = subst (λ v. IsVerdict form a b v) (sym (verdict_by_form form a b)) (first_verdict form a b _ (first_pair form a b))

pub verdict_unique : (form : Form) (a b : List ℕ) (v w : Verdict) → IsVerdict form a b v → IsVerdict form a b w → v ≡ w
verdict_unique form a b (Accepted n) (Accepted m) h g = ap (λ z. Accepted z) (h.1 ∙ sym g.1)
verdict_unique form a b (Accepted n) (Refused side line rule) h g = absurd (h.0 g.key _ g.is_fault)
verdict_unique form a b (Refused side line rule) (Accepted m) h g = absurd (g.0 h.key _ h.is_fault)
verdict_unique form a b (Refused side line rule) (Refused other number broken) h g =
    let same = first_unique (IsFault form a b) (ranked_unique form a b) (refusal side line rule) (refusal other number broken) h g in ap (λ (r : Refusal). Refused r.side r.line r.rule) same

-- where there is a fault the verdict is one with this key or a lesser one
pub refused_up_to : (form : Form) (a b : List ℕ) (key : Key) (r : Refusal) → IsFault form a b key r → RefusedUpTo form a b key
refused_up_to form a b key r f = by_verdict (verdict form a b) refl (verdict_least form a b)
  where
    by_verdict : (v : Verdict) → verdict form a b ≡ v → IsVerdict form a b v → RefusedUpTo form a b key
    by_verdict (Accepted n) e h = absurd (h.0 key r f)
    by_verdict (Refused side line rule) e h = record { first = h.key; refusal = refusal side line rule; is_fault = h.is_fault; is_at_most = h.is_least key r f; is_verdict = e }

-- the headers come first
pub refused_interaction_header : (form : Form) (a b : List ℕ) (number : ℕ) (rule : Rule) → header_fault (codes "icnf") a ≡ Some (number, rule) → verdict form a b ≡ Refused Interaction number rule
refused_interaction_header form a b number rule e =
    let f : IsFault form a b keys.interaction_header (refusal Interaction number rule) = faults.interaction_header number rule e in
    verdict_unique form a b (verdict form a b) (Refused Interaction number rule) (verdict_least form a b)
    (record { key = keys.interaction_header; is_fault = f; is_least = λ other s g. first_key (rank other) s (pair_parts form a b other s g) })
  where
    first_key : (other : List ℕ) (s : Refusal) → PairParts form a b other s → IsAtMost (1 ∷ []) other
    first_key other s (inl (inl h)) = subst (λ z. IsAtMost (1 ∷ []) z) (sym h.0) (inr (refl, tt))
    first_key other s (inl (inr h)) = subst (λ z. IsAtMost (1 ∷ []) z) (sym h.0) (inl (omega arith))
    first_key other s (inr h) = header_before 1 (1 ∷ []) other (omega arith) refl (pair_key form a b other s h)

pub refused_proof_header : (form : Form) (a b : List ℕ) (number : ℕ) (rule : Rule) → header_fault (codes "icnf") a ≡ None → header_fault (rules_of form).name b ≡ Some (number, rule)
    → verdict form a b ≡ Refused Proof number rule
refused_proof_header form a b number rule none e =
    verdict_unique form a b (verdict form a b) (Refused Proof number rule) (verdict_least form a b)
    (record { key = keys.proof_header; is_fault = faults.own _ _ (faults.header number rule e); is_least = λ other s g. first_key (rank other) s (pair_parts form a b other s g) })
  where
    first_key : (other : List ℕ) (s : Refusal) → PairParts form a b other s → IsAtMost (2 ∷ []) other
    first_key other s (inl (inl h)) = let f : None ≡ Some h.1.0 = sym none ∙ h.1.1 in cc f
    first_key other s (inl (inr h)) = subst (λ z. IsAtMost (2 ∷ []) z) (sym h.0) (inr (refl, tt))
    first_key other s (inr h) = header_before 2 (2 ∷ []) other (omega arith) refl (pair_key form a b other s h)

pub refused_own_rule : (form : Form) (a b : List ℕ) (k : ℕ) (rule : Rule) → OwnFault form (steps_in form b) k rule → RefusedUpTo form a b (keys.own_rule k 19)
refused_own_rule form a b k rule f =
    let line = said_at (read form) (body b) k f.step f.is_step in
    let up = refused_up_to form a b _ _ (faults.own _ _ (faults.own_rule k line.0 rule line.1 f)) in
    let last = own_rule_number form _ f.step rule f.breaks in record {
      first = up.first;
      refusal = up.refusal;
      is_fault = up.is_fault;
      is_at_most = at_most_trans (rank up.first) _ _ up.is_at_most (inr (refl, inr (refl, elim (le_cases _ _ last) [ inl lt ↦ inl lt | inr same ↦ inr (same, tt) ])));
      is_verdict = up.is_verdict;
    }

-- ---- The own verdict

own_side : (form : Form) (b : List ℕ) (key : Key) (r : Refusal) → IsOwnFault form b key r → r.side ≡ Proof
own_side form b _ _ (faults.header number rule e) = refl
own_side form b _ _ (faults.broken_line k line rule at stops v) = refl
own_side form b _ _ (faults.own_rule k line rule at f) = refl
own_side form b _ _ (faults.unfinished whole busy) = refl

first_own_verdict : (form : Form) (b : List ℕ) (rs : List Refusal) → First (Ranked (IsOwnFault form b)) rs → IsOwnVerdict form b (first_refusal rs)
first_own_verdict form b [] h = none_ranked (IsOwnFault form b) h
first_own_verdict form b (r ∷ more) h = let first = first_ranked (IsOwnFault form b) r h in
    subst (λ s. IsFirst (IsOwnFault form b) (refusal s r.line r.rule)) (own_side form b first.key r first.is_fault) first

pub own_verdict_least : (form : Form) (b : List ℕ) → IsOwnVerdict form b (own_verdict form b)
unfolding own_verdict
own_verdict_least form b = first_own_verdict form b _ (first_own form b)

own_fault_unique : (form : Form) (b ns : List ℕ) (r s : Refusal) → Ranked (IsOwnFault form b) ns r → Ranked (IsOwnFault form b) ns s → r ≡ s
own_fault_unique form b ns r s f g = ranked_unique form [] b ns r s (f.0, f.1, faults.own f.0 r f.2) (g.0, g.1, faults.own g.0 s g.2)

pub own_verdict_unique : (form : Form) (b : List ℕ) (v w : Option (ℕ × Rule)) → IsOwnVerdict form b v → IsOwnVerdict form b w → v ≡ w
own_verdict_unique form b None None h g = refl
own_verdict_unique form b None (Some f) h g = absurd (h g.key _ g.is_fault)
own_verdict_unique form b (Some f) None h g = absurd (g h.key _ h.is_fault)
own_verdict_unique form b (Some f) (Some e) h g =
    let same = first_unique (IsOwnFault form b) (own_fault_unique form b) _ _ h g in ap (λ (r : Refusal). Some (r.line, r.rule)) same

module _ (form : Form) (b : List ℕ) where
  -- where no fault is there, all lines say steps
  all_said : HasNone (IsOwnFault form b) → length (steps_in form b) ≡ length (body b)
  all_said none = elim (cases_lt (length (steps_in form b)) (length (body b))) [
    | inl lt ↦ absurd (elim (slice_get_cases (body b) (length (steps_in form b))).1 [
      | inl at ↦ by_value at.0 at.2 (value_of (read form) at.0) refl
      | inr past ↦ omega (arith, past.0, lt)
    ])
    | inr ge ↦ omega (arith, ge, said_within (read form) (body b))
  ]
    where
      by_value : (line : Line) → slice_get (body b) (length (steps_in form b)) ≡ Some line → (o : Result (StepOf form) Rule) → value_of (read form) line ≡ o → ⊥
      by_value line at (Err rule) v = none _ _ (faults.broken_line _ line rule at refl v)
      by_value line at (Ok p) v = let next = said_next (read form) (body b) (length (steps_in form b)) line p (omega arith) at v in omega (arith, slice_get_within (steps_in form b) (length (steps_in form b)) p next)

  none_broken : length (steps_in form b) ≡ length (body b) → (line : Line) (rule : Rule) → Contains (body b) line → value_of (read form) line ≡ Err rule → ⊥
  none_broken whole line rule m v =
      let at : slice_get (body b) m.0 ≡ Some line = slice_get-get_or (body b) m.0 line m.1 ∙ ap Some m.2 in
      omega (arith, said_stops (read form) (body b) m.0 line rule (omega (arith, m.1, whole)) at v, m.1, whole)

  is_idle_or : (p : Phase) → ((p ≡ Idle → ⊥) → ⊥) → p ≡ Idle
  is_idle_or Idle h = refl
  is_idle_or Asked h = absurd (h (λ e. cc e))
  is_idle_or (Told w) h = absurd (h (λ e. cc e))

  no_header : (o : Option (ℕ × Rule)) → header_fault (rules_of form).name b ≡ o → HasNone (IsOwnFault form b) → header_fault (rules_of form).name b ≡ None
  no_header None e none = e
  no_header (Some f) e none = absurd (none _ _ (faults.header f.0 f.1 e))

  pub keeps_from_none : HasNone (IsOwnFault form b) → KeepsOwnRules form b
  keeps_from_none none = record {
    header_spells = no_header (header_fault (rules_of form).name b) refl none;
    lines_spell = none_broken (all_said none);
    steps_keep = λ k rule f. let line = said_at (read form) (body b) k f.step f.is_step in none _ _ (faults.own_rule k line.0 rule line.1 f);
    ends_idle = is_idle_or _ (λ busy. none _ _ (faults.unfinished (all_said none) busy));
  }

  none_from_keeps : KeepsOwnRules form b → HasNone (IsOwnFault form b)
  none_from_keeps keeps _ _ (faults.header number rule e) = let f : None ≡ Some (number, rule) = sym keeps.header_spells ∙ e in cc f
  none_from_keeps keeps _ _ (faults.broken_line k line rule at stops v) = keeps.lines_spell line rule (k, slice_get_within (body b) k line at, get_or_from_slice_get (body b) k line line at) v
  none_from_keeps keeps _ _ (faults.own_rule k line rule at f) = keeps.steps_keep k rule f
  none_from_keeps keeps _ _ (faults.unfinished whole busy) = busy keeps.ends_idle

  pub own_verdict_none : (own_verdict form b ≡ None) ↔ KeepsOwnRules form b
  own_verdict_none = (
    λ e. keeps_from_none (subst (λ v. IsOwnVerdict form b v) e (own_verdict_least form b)),
    λ keeps. own_verdict_unique form b (own_verdict form b) None (own_verdict_least form b) (none_from_keeps keeps),
  )

  -- a proof of an accepted pair has no own fault
  pub accepted_own : (a : List ℕ) (n : ℕ) → verdict form a b ≡ Accepted n → own_verdict form b ≡ None
  accepted_own a n e =
      let accepted : IsVerdict form a b (Accepted n) = subst (λ v. IsVerdict form a b v) e (verdict_least form a b) in
      own_verdict_unique form b (own_verdict form b) None (own_verdict_least form b) (λ key r f. accepted.0 key r (faults.own key r f))
