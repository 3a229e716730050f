-- Acceptance told by the proof's events: what the list of all faults lacks beside the proof's own faults.
use Rattle.std.proofs.Common.{◌≡◌, ℕ, true, not, ◌&&◌, ◌||◌, List, [], ◌∷◌, ◌++◌, suc, length, map, drop, take, filter, filter_map, flat_map, count_by, Option, Some, None, Result, Ok, Err, codes, refl, sym, ◌∙◌, ap, ◌↔◌, inl, inr, append-nil}
use Rattle.std.specs.List.{list_all}
use Rattle.std.proofs.lemmas.Bool.{and_parts, and_from, cases_Bool}
use Rattle.std.proofs.lemmas.List.Sums.{length-filter}
use Rattle.std.proofs.lemmas.List.Elements.{filter_map-append}
use Rattle.session_rules.specs.declared.Form.{Form}
use Rattle.session_rules.specs.declared.Form.TheVariants.{Idrup, Lidrup}
use Rattle.session_rules.specs.declared.Side.TheVariants.{Interaction, Proof}
use Rattle.session_rules.specs.declared.Event.{Event}
use Rattle.session_rules.specs.declared.Rule.{Rule}
use Rattle.session_rules.specs.declared.Verdict.TheVariants.{Accepted}
use Rattle.session_rules.specs.Lines.{Line, is_nil, lines, end_line}
use Rattle.session_rules.specs.Reading.{value_of, values_of, icnf_line, header_fault, steps_of}
use Rattle.session_rules.specs.History.{assumed, query_of}
use Rattle.session_rules.specs.Pair.{ProofForm, Refusal, refusal, refusals, partner_count, owes_partner, partner_rules, partner_faults, missing_partner, match_faults, surplus, unfinished, one_refusal, step_partners, step_matches, faults_from, pair_refusals, own_faults_from, own_refusals, is_query, verdict_of, verdict_by, verdict}
use Rattle.session_rules.specs.Verdicts.{body, rules_of, own_verdict, first_refusal, KeepsOwnRules}
use Rattle.session_rules.proofs.LeastFault.{own_verdict_none}
use Rattle.session_rules.proofs.Positions.{said}
use Rattle.conversion_laws.proofs.Joined.{parts_nil, join_nil, said-ok}
use Rattle.conversion_laws.specs.Matched.{agrees, has_partners, all_matched, query_count, IsAccepted}

-- ---- Lists that are empty

pub nil_from : {X : Type 0} (xs : List X) → is_nil xs ≡ true → xs ≡ []
nil_from [] h = refl
nil_from (x ∷ xs) h = cc h

is_nil_from : {X : Type 0} (xs : List X) → xs ≡ [] → is_nil xs ≡ true
is_nil_from xs e = ap is_nil e

map_nil : {X Y : Type 0} (f : X → Y) (xs : List X) → map f xs ≡ [] → xs ≡ []
map_nil f [] h = refl
map_nil f (x ∷ xs) h = cc h

nil_map : {X Y : Type 0} (f : X → Y) (xs : List X) → xs ≡ [] → map f xs ≡ []
nil_map f xs e = ap (map f) e

-- ---- One event

module _ (qs : List ℕ) (e : Event) where
  line_agrees : (line : Line) → partner_faults qs e line ≡ [] → agrees qs e line ≡ true
  line_agrees line h = is_nil_from _ (map_nil (refusal Interaction line.number) (partner_rules qs e (value_of icnf_line line)) h)

  agrees_line : (line : Line) → agrees qs e line ≡ true → partner_faults qs e line ≡ []
  agrees_line line h = nil_map (refusal Interaction line.number) (partner_rules qs e (value_of icnf_line line)) (nil_from _ h)

  lines_agree : (ls : List Line) → flat_map (partner_faults qs e) ls ≡ [] → list_all (agrees qs e) ls ≡ true
  lines_agree [] h = refl
  lines_agree (l ∷ ls) h = let parts = parts_nil (partner_faults qs e l) (flat_map (partner_faults qs e) ls) h in
      and_from _ _ (line_agrees l parts.0) (lines_agree ls parts.1)

  agree_lines : (ls : List Line) → list_all (agrees qs e) ls ≡ true → flat_map (partner_faults qs e) ls ≡ []
  agree_lines [] h = refl
  agree_lines (l ∷ ls) h = let parts = and_parts (agrees qs e l) (list_all (agrees qs e) ls) h in
      join_nil (partner_faults qs e l) (flat_map (partner_faults qs e) ls) (agrees_line l parts.0) (agree_lines ls parts.1)

  owed : (number : ℕ) (ls : List Line) → missing_partner number e ls ≡ [] → (not (owes_partner e) || not (is_nil ls)) ≡ true
  owed number [] h = elim (cases_Bool (owes_partner e)) [
    | inl y ↦ let f = rw y at h in cc f
    | inr n ↦ rw n refl
  ]
  owed number (l ∷ ls) h = elim (cases_Bool (owes_partner e)) [ inl y ↦ rw y refl | inr n ↦ rw n refl ]

  not_owed : (number : ℕ) (ls : List Line) → (not (owes_partner e) || not (is_nil ls)) ≡ true → missing_partner number e ls ≡ []
  not_owed number [] h = elim (cases_Bool (owes_partner e)) [
    | inl y ↦ let f = rw y at h in cc f
    | inr n ↦ rw n refl
  ]
  not_owed number (l ∷ ls) h = refl

  matched_from : (number : ℕ) (ls : List Line) → match_faults qs number e ls ≡ [] → has_partners qs e ls ≡ true
  matched_from number ls h = let parts = parts_nil (missing_partner number e ls) _ h in
      and_from _ _ (owed number ls parts.0) (lines_agree (take (partner_count e ls) ls) parts.1)

  matched_at : (number : ℕ) (ls : List Line) → has_partners qs e ls ≡ true → match_faults qs number e ls ≡ []
  matched_at number ls h = let parts = and_parts (not (owes_partner e) || not (is_nil ls)) _ h in
      join_nil (missing_partner number e ls) _ (not_owed number ls parts.0) (agree_lines (take (partner_count e ls) ls) parts.1)

surplus_none : (ls : List Line) → surplus ls ≡ [] → is_nil ls ≡ true
surplus_none [] h = refl
surplus_none (l ∷ ls) h = cc h

none_surplus : (ls : List Line) → is_nil ls ≡ true → surplus ls ≡ []
none_surplus [] h = refl
none_surplus (l ∷ ls) h = cc h

-- ---- All lines of a proof

module _ {S : Type 0} (form : ProofForm S) where
  abbrev told : List S → List Event
  told ps = filter_map form.event ps

  faults-ok : (before : List S) (end : ℕ) (line : Line) (more ms : List Line) (p : S) → value_of form.read line ≡ Ok p
      → faults_from form before end (line ∷ more) ms ≡ refusals Proof line.number (form.faults before p)
      ++ step_matches form (assumed (told before)) line.number (form.event p) ms ++ faults_from form (before ++ p ∷ []) end more (drop (step_partners form (form.event p) ms) ms)
  unfolding faults_from
  faults-ok before end line more ms p v = rw v refl

  faults-err : (before : List S) (end : ℕ) (line : Line) (more ms : List Line) (r : Rule) → value_of form.read line ≡ Err r → faults_from form before end (line ∷ more) ms ≡ refusal Proof line.number r ∷ []
  unfolding faults_from
  faults-err before end line more ms r v = rw v refl

  own-ok : (before : List S) (end : ℕ) (line : Line) (more : List Line) (p : S) → value_of form.read line ≡ Ok p
      → own_faults_from form before end (line ∷ more) ≡ refusals Proof line.number (form.faults before p) ++ own_faults_from form (before ++ p ∷ []) end more
  unfolding own_faults_from
  own-ok before end line more p v = rw v refl

  own-err : (before : List S) (end : ℕ) (line : Line) (more : List Line) (r : Rule) → value_of form.read line ≡ Err r → own_faults_from form before end (line ∷ more) ≡ refusal Proof line.number r ∷ []
  unfolding own_faults_from
  own-err before end line more r v = rw v refl

  before-none : (before : List S) (p : S) → form.event p ≡ None → told (before ++ p ∷ []) ≡ told before
  before-none before p e = rw (filter_map-append, e, append-nil) refl

  before-some : (before : List S) (p : S) (x : Event) → form.event p ≡ Some x → told (before ++ p ∷ []) ≡ told before ++ x ∷ []
  before-some before p x e = rw (filter_map-append, e) refl

  ahead-none : (p : S) (ps : List S) → form.event p ≡ None → told (p ∷ ps) ≡ told ps
  ahead-none p ps e = rw e refl

  ahead-some : (p : S) (ps : List S) (x : Event) → form.event p ≡ Some x → told (p ∷ ps) ≡ x ∷ told ps
  ahead-some p ps x e = rw e refl

  all-matched-more : (before : List Event) (x : Event) (es : List Event) (ms : List Line)
      → all_matched before (x ∷ es) ms ≡ (has_partners (assumed before) x ms && all_matched (before ++ x ∷ []) es (drop (partner_count x ms) ms))
  unfolding all_matched
  all-matched-more before x es ms = refl

  all-matched-end : (before : List Event) (ms : List Line) → all_matched before [] ms ≡ is_nil ms
  unfolding all_matched
  all-matched-end before ms = refl

  abbrev IsMatched : List S → List S → List Line → Type 0
  IsMatched before ps ms = all_matched (told before) (told ps) ms ≡ true

  -- one step
  step_matched : (before : List S) (p : S) (ps : List S) (ms : List Line) (number : ℕ) (o : Option Event) → form.event p ≡ o
      → step_matches form (assumed (told before)) number o ms ≡ [] → IsMatched (before ++ p ∷ []) ps (drop (step_partners form o ms) ms) → IsMatched before (p ∷ ps) ms
  step_matched before p ps ms number None e h next = ap (λ z. all_matched (told before) z ms) (ahead-none p ps e)
      ∙ sym (ap (λ z. all_matched z (told ps) ms) (before-none before p e)) ∙ next
  step_matched before p ps ms number (Some x) e h next = ap (λ z. all_matched (told before) z ms) (ahead-some p ps x e) ∙ all-matched-more (told before) x (told ps) ms
      ∙ and_from _ _ (matched_from (assumed (told before)) x number ms h) (sym (ap (λ z. all_matched z (told ps) (drop (partner_count x ms) ms)) (before-some before p x e)) ∙ next)

  record StepMatched (before : List S) (p : S) (ps : List S) (ms : List Line) (number : ℕ) (o : Option Event) : Type 0 where
    here : step_matches form (assumed (told before)) number o ms ≡ []
    later : IsMatched (before ++ p ∷ []) ps (drop (step_partners form o ms) ms)

  matched_step : (before : List S) (p : S) (ps : List S) (ms : List Line) (number : ℕ) (o : Option Event) → form.event p ≡ o
      → IsMatched before (p ∷ ps) ms → StepMatched before p ps ms number o
  matched_step before p ps ms number None e h = record {
    here = refl;
    later = ap (λ z. all_matched z (told ps) ms) (before-none before p e) ∙ sym (ap (λ z. all_matched (told before) z ms) (ahead-none p ps e)) ∙ h;
  }
  matched_step before p ps ms number (Some x) e h =
      let parts = and_parts (has_partners (assumed (told before)) x ms) _ (sym (ap (λ z. all_matched (told before) z ms) (ahead-some p ps x e) ∙ all-matched-more (told before) x (told ps) ms) ∙ h) in
      record {
        here = matched_at (assumed (told before)) x number ms parts.0;
        later = ap (λ z. all_matched z (told ps) (drop (partner_count x ms) ms)) (before-some before p x e) ∙ parts.1;
      }

  -- no fault is in the list exactly where the proof has none of its own and its events have their partners
  record NoFaults (before : List S) (end : ℕ) (ls ms : List Line) : Type 0 where
    pub own : own_faults_from form before end ls ≡ []
    pub matched : IsMatched before (said form.read ls) ms

  at_end : (before : List S) (end : ℕ) (ms : List Line) → faults_from form before end [] ms ≡ [] → NoFaults before end [] ms
  unfolding faults_from own_faults_from values_of
  at_end before end ms h = let parts = parts_nil (unfinished (told before) end) (surplus ms) h in
      record { own = parts.0; matched = all-matched-end (told before) ms ∙ surplus_none ms parts.1 }

  end_at : (before : List S) (end : ℕ) (ms : List Line) → NoFaults before end [] ms → faults_from form before end [] ms ≡ []
  unfolding faults_from own_faults_from values_of
  end_at before end ms h = join_nil (unfinished (told before) end) (surplus ms) h.own (none_surplus ms (sym (all-matched-end (told before) ms) ∙ h.matched))

  more_none : (l : Line) (ls ms : List Line) (before : List S) (end : ℕ) (next : (p : S) → faults_from form (before ++ p ∷ []) end ls (drop (step_partners form (form.event p) ms) ms) ≡ [] → NoFaults (before ++ p ∷ []) end ls (drop (step_partners form (form.event p) ms) ms))
      → (v : Result S Rule) → value_of form.read l ≡ v → faults_from form before end (l ∷ ls) ms ≡ [] → NoFaults before end (l ∷ ls) ms
  more_none l ls ms before end next (Err r) e h = let f = sym (faults-err before end l ls ms r e) ∙ h in cc f
  more_none l ls ms before end next (Ok p) e h =
      let one = parts_nil (refusals Proof l.number (form.faults before p) ++ step_matches form (assumed (told before)) l.number (form.event p) ms) _ (sym (faults-ok before end l ls ms p e) ∙ h) in
      let two = parts_nil (refusals Proof l.number (form.faults before p)) (step_matches form (assumed (told before)) l.number (form.event p) ms) one.0 in
      let rest = next p one.1 in record {
        own = own-ok before end l ls p e ∙ join_nil (refusals Proof l.number (form.faults before p)) _ two.0 rest.own;
        matched = ap (λ z. all_matched (told before) (told z) ms) (said-ok form.read l ls p e) ∙ step_matched before p (said form.read ls) ms l.number (form.event p) refl two.1 rest.matched;
      }

  faults_none : (ls : List Line) (before : List S) (end : ℕ) (ms : List Line) → faults_from form before end ls ms ≡ [] → NoFaults before end ls ms
  faults_none [] before end ms h = at_end before end ms h
  faults_none (l ∷ ls) before end ms h = more_none l ls ms before end
      (λ p. faults_none ls (before ++ p ∷ []) end (drop (step_partners form (form.event p) ms) ms)) (value_of form.read l) refl h

  none_more : (l : Line) (ls ms : List Line) (before : List S) (end : ℕ) (next : (p : S) → NoFaults (before ++ p ∷ []) end ls (drop (step_partners form (form.event p) ms) ms) → faults_from form (before ++ p ∷ []) end ls (drop (step_partners form (form.event p) ms) ms) ≡ [])
      → (v : Result S Rule) → value_of form.read l ≡ v → NoFaults before end (l ∷ ls) ms → faults_from form before end (l ∷ ls) ms ≡ []
  none_more l ls ms before end next (Err r) e h = let f = sym (own-err before end l ls r e) ∙ h.own in cc f
  none_more l ls ms before end next (Ok p) e h =
      let one = parts_nil (refusals Proof l.number (form.faults before p)) _ (sym (own-ok before end l ls p e) ∙ h.own) in
      let two = matched_step before p (said form.read ls) ms l.number (form.event p) refl (sym (ap (λ z. all_matched (told before) (told z) ms) (said-ok form.read l ls p e)) ∙ h.matched) in
      faults-ok before end l ls ms p e ∙ join_nil (refusals Proof l.number (form.faults before p) ++ step_matches form (assumed (told before)) l.number (form.event p) ms) _
      (join_nil (refusals Proof l.number (form.faults before p)) _ one.0 two.here) (next p (record { own = one.1; matched = two.later }))

  none_faults : (ls : List Line) (before : List S) (end : ℕ) (ms : List Line) → NoFaults before end ls ms → faults_from form before end ls ms ≡ []
  none_faults [] before end ms h = end_at before end ms h
  none_faults (l ∷ ls) before end ms h = none_more l ls ms before end
      (λ p. none_faults ls (before ++ p ∷ []) end (drop (step_partners form (form.event p) ms) ms)) (value_of form.read l) refl h

  -- ---- Headers and the number of queries

  counted : (ps : List S) → length (filter (is_query form) ps) ≡ query_count (told ps)
  counted [] = refl
  counted (p ∷ ps) = by_event (form.event p) refl (counted ps)
    where
      by_query : (x : Event) (o : Option (List ℕ)) → form.event p ≡ Some x → query_of x ≡ o → length (filter (is_query form) ps) ≡ query_count (told ps)
          → length (filter (is_query form) (p ∷ ps)) ≡ query_count (told (p ∷ ps))
      by_query x None e f next = rw (e, f) next
      by_query x (Some c) e f next = rw (e, f) (ap suc next)

      by_event : (o : Option Event) → form.event p ≡ o → length (filter (is_query form) ps) ≡ query_count (told ps) → length (filter (is_query form) (p ∷ ps)) ≡ query_count (told (p ∷ ps))
      by_event None e next = rw e next
      by_event (Some x) e next = by_query x (query_of x) e refl next

  header_none : (o : Option (ℕ × Rule)) → one_refusal Interaction o ≡ [] → o ≡ None
  header_none None h = refl
  header_none (Some f) h = cc h

  -- what acceptance is
  record Accepts (a b : List ℕ) (n : ℕ) : Type 0 where
    pub header_spells : header_fault (codes "icnf") a ≡ None
    pub own : own_refusals form b ≡ []
    pub matched : all_matched [] (told (map (λ p. p.1) (steps_of form.read b))) (body a) ≡ true
    pub counts : n ≡ query_count (told (map (λ p. p.1) (steps_of form.read b)))

  refusals_none : (a b : List ℕ) (n : ℕ) → n ≡ query_count (told (map (λ p. p.1) (steps_of form.read b))) → pair_refusals form a b ≡ [] → Accepts a b n
  unfolding pair_refusals own_refusals
  refusals_none a b n q h =
      let one = parts_nil (one_refusal Interaction (header_fault (codes "icnf") a) ++ one_refusal Proof (header_fault form.name b)) _ h in
      let two = parts_nil (one_refusal Interaction (header_fault (codes "icnf") a)) (one_refusal Proof (header_fault form.name b)) one.0 in
      let next = faults_none (drop 1 (lines b)) [] (end_line b) (drop 1 (lines a)) one.1 in record {
        header_spells = header_none _ two.0;
        own = join_nil (one_refusal Proof (header_fault form.name b)) _ two.1 next.own;
        matched = next.matched;
        counts = q;
      }

  none_refusals : (a b : List ℕ) (n : ℕ) → Accepts a b n → pair_refusals form a b ≡ []
  unfolding pair_refusals own_refusals
  none_refusals a b n h =
      let two = parts_nil (one_refusal Proof (header_fault form.name b)) _ h.own in
      join_nil (one_refusal Interaction (header_fault (codes "icnf") a) ++ one_refusal Proof (header_fault form.name b)) _
      (join_nil (one_refusal Interaction (header_fault (codes "icnf") a)) _ (ap (one_refusal Interaction) h.header_spells) two.0) (none_faults (drop 1 (lines b)) [] (end_line b) (drop 1 (lines a)) (record { own = two.1; matched = h.matched }))

  accepted_is : (n m : ℕ) (rs : List Refusal) → verdict_of n rs ≡ Accepted m → (rs ≡ []) × (m ≡ n)
  accepted_is n m [] h = let e : n ≡ m = cc h in (refl, sym e)
  accepted_is n m (r ∷ rs) h = cc h

  queries : (b : List ℕ) → count_by (is_query form) (map (λ p. p.1) (steps_of form.read b)) ≡ query_count (told (map (λ p. p.1) (steps_of form.read b)))
  queries b = sym (length-filter (is_query form) (map (λ p. p.1) (steps_of form.read b))) ∙ counted (map (λ p. p.1) (steps_of form.read b))

  accepts_from : (a b : List ℕ) (n : ℕ) → verdict_by form a b ≡ Accepted n → Accepts a b n
  unfolding verdict_by
  accepts_from a b n h = let r = accepted_is _ n (pair_refusals form a b) h in refusals_none a b n (r.1 ∙ queries b) r.0

  accepts_at : (a b : List ℕ) (n : ℕ) → Accepts a b n → verdict_by form a b ≡ Accepted n
  unfolding verdict_by
  accepts_at a b n h = ap (verdict_of _) (none_refusals a b n h) ∙ ap Accepted (queries b ∙ sym h.counts)

-- ---- The two forms

first_none : (rs : List Refusal) → rs ≡ [] → first_refusal rs ≡ None
first_none rs e = ap first_refusal e

none_first : (rs : List Refusal) → first_refusal rs ≡ None → rs ≡ []
none_first [] h = refl
none_first (r ∷ rs) h = cc h

module _ (form : Form) (b : List ℕ) where
  keeps_from : own_refusals (rules_of form) b ≡ [] → KeepsOwnRules form b
  unfolding own_verdict
  keeps_from h = (own_verdict_none form b).0 (first_none _ h)

  keeps_at : KeepsOwnRules form b → own_refusals (rules_of form) b ≡ []
  unfolding own_verdict
  keeps_at h = none_first _ ((own_verdict_none form b).1 h)

verdict_is : (form : Form) (a b : List ℕ) → verdict form a b ≡ verdict_by (rules_of form) a b
unfolding verdict
verdict_is Idrup a b = refl
verdict_is Lidrup a b = refl

pub accepted_by_events : (form : Form) (a b : List ℕ) (n : ℕ) → (verdict form a b ≡ Accepted n) ↔ IsAccepted form a b n
accepted_by_events form a b n = (
  λ e. let h = accepts_from (rules_of form) a b n (sym (verdict_is form a b) ∙ e) in
      record { header_spells = h.header_spells; proof_keeps = keeps_from form b h.own; matched = h.matched; counted = h.counts },
  λ h. verdict_is form a b ∙ accepts_at (rules_of form) a b n (record { header_spells = h.header_spells; own = keeps_at form b h.proof_keeps; matched = h.matched; counts = h.counted }),
)
