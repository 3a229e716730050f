-- What each part of a check says of the verdict: either the first of all faults, or that no fault was met so far.
use Rattle.std.proofs.Common.{◌≡◌, ℕ, zero, suc, ◌+◌, ◌<◌, ◌⊎◌, flat_map, take, Bool, true, false, not, ◌&&◌, if◌then◌else◌, List, [], ◌∷◌, ◌++◌, map, filter, length, drop, count_by, filter_map, Option, Some, None, Ok, Err, refl, sym, ap, ◌∙◌, subst, inl, inr, arith, append-nil}
use mathlib.Core.Path.{fun_ext}
use Rattle.std.specs.Prelude.{codes, slice_get}
use Rattle.std.specs.declared.result.Result.{Result}
use Rattle.std.proofs.lemmas.List.Elements.{filter_map-append, All-head, All-tail}
use Rattle.std.proofs.lemmas.List.Sums.{length-filter}
use Rattle.session_rules.specs.declared.Side.{Side}
use Rattle.session_rules.specs.declared.Side.TheVariants.{Interaction, Proof}
use Rattle.session_rules.specs.declared.Event.{Event}
use Rattle.session_rules.specs.declared.Event.TheVariants as events
use Rattle.session_rules.specs.declared.Rule.{Rule}
use Rattle.session_rules.specs.declared.Rule.TheVariants as rules
use Rattle.session_rules.specs.declared.Verdict.{Verdict}
use Rattle.session_rules.specs.declared.Verdict.TheVariants.{Accepted, Refused}
use Rattle.session_rules.specs.Lines.{Line, lines, end_line, has_content}
use Rattle.session_rules.specs.Reading.{value_of, icnf_line, value_and_more, values_of, header_fault}
use Rattle.session_rules.specs.History.{phase, assumed, query_of, broken_unless}
use Rattle.session_rules.specs.Pair.{ProofForm, Refusal, refusal, refusals, one_refusal, pair_faults, partner_count, owes_partner, missing_partner, partner_rules, partner_faults, match_faults, step_partners, step_matches, line_faults, partners_of, with_step, faults_from, pair_refusals, is_query, is_idle, unfinished, surplus, verdict_of, verdict_by}
use Rattle.slice_tokens.specs.Place.{Place, present, later, last_line}
use Rattle.slice_tokens.specs.Calls.{InLine, AtEnd, AtBound, OnlyCut}
use Rattle.line_reading.specs.Whole.{Says, Breaks, BehindCut}
use Rattle.icnf_lines.specs.Matching.{IsGood, AreGood, AllAgree, LacksPartner, StandsBehind, OneDiffers, OneBreaks, CutBehindRun}
use Rattle.std.proofs.lemmas.List.{take-append-drop}
use Rattle.std.proofs.lemmas.List.Concat.{flat_map-cons}
use Rattle.std.proofs.lemmas.Grind.{flat_map-append}
use Rattle.pair_matcher.specs.Sides.{first_rule}
use Rattle.pair_matcher.specs.Taken.{IsWithin}
use Rattle.pair_matcher.specs.Checks.{EndsCut, at, IsBehindHeader, query_count, queries_in, all_queries, Checking, AtStep, AtEvent, AtProofEnd, AtSurplus, IsVerdictOf}
use Rattle.pair_matcher.proofs.Taken.{within_on}
use Rattle.pair_matcher.proofs.CutLines.{not_behind_cut, cut_behind, cut_behind_good}

-- ---- The first of some rules

-- some rules, of which this is the first
record First (r : Rule) (rs : List Rule) : Type 0 where
  more : List Rule
  is : rs ≡ r ∷ more

first_some : (r : Rule) (rs : List Rule) → Some r ≡ first_rule rs → First r rs
first_some r [] e = cc e
first_some r (s ∷ rs) e = let same : s ≡ r = cc in record { more = rs; is = ap (λ x. x ∷ rs) same }

first_none : (rs : List Rule) → None ≡ first_rule rs → rs ≡ []
first_none [] e = refl
first_none (s ∷ rs) e = cc e

got_some : (r : Rule) (rs : List Rule) → slice_get rs 0 ≡ Some r → First r rs
got_some r [] e = cc e
got_some r (s ∷ rs) e = let same : s ≡ r = cc in record { more = rs; is = ap (λ x. x ∷ rs) same }

got_none : (rs : List Rule) → slice_get rs 0 ≡ None → rs ≡ []
got_none [] e = refl
got_none (s ∷ rs) e = cc e

-- ---- Partners

-- no event has a partner where no line is left
no_partner : (e : Event) → partner_count e [] ≡ 0
no_partner (events.Input c) = refl
no_partner (events.Query c) = refl
no_partner (events.Status s) = refl
no_partner (events.Model c) = refl
no_partner (events.Core c) = refl
no_partner (events.Values c) = refl
no_partner (events.Failed c) = refl

-- an event that has the partner which it owes misses none
missing-nil : (number : ℕ) (e : Event) (b : Bool) → owes_partner e ≡ b → (owes_partner e ≡ true → 0 < partner_count e []) → missing_partner number e [] ≡ []
missing-nil number e true o h = let lt = h o in absurd (omega (arith, no_partner e, lt))
missing-nil number e false o h = rw o refl

none_missing : (number : ℕ) (e : Event) (ls : List Line) → (owes_partner e ≡ true → 0 < partner_count e ls) → missing_partner number e ls ≡ []
none_missing number e [] h = missing-nil number e (owes_partner e) refl h
none_missing number e (line ∷ more) h = refl

-- the first lines with one behind fewer than so many others
take_past : (good more : List Line) (line : Line) (n : ℕ) → length good < n → (behind : List Line) × (take n (good ++ line ∷ more) ≡ good ++ line ∷ behind)
take_past [] more line zero lt = absurd (omega (arith, lt))
take_past [] more line (suc n) lt = (take n more, refl)
take_past (g ∷ good) more line zero lt = absurd (omega (arith, lt))
take_past (g ∷ good) more line (suc n) lt = let next = take_past good more line n (omega (arith, lt)) in (next.0, ap (λ xs. g ∷ xs) next.1)

-- lines that agree break nothing
good_faults : (qs : List ℕ) (e : Event) (good : List Line) → AreGood e qs good → flat_map (partner_faults qs e) good ≡ []
good_faults qs e [] h = refl
good_faults qs e (line ∷ good) h = let first = All-head (IsGood e qs) line good h in
    let none : partner_faults qs e line ≡ [] = ap (λ o. refusals Interaction line.number (partner_rules qs e o)) first.value ∙ ap (refusals Interaction line.number) first.kept in
    flat_map-cons (partner_faults qs e) line good ∙ ap (λ xs. xs ++ flat_map (partner_faults qs e) good) none ∙ good_faults qs e good (All-tail (IsGood e qs) line good h)

-- what good lines and one behind them break
past_good : (qs : List ℕ) (e : Event) (good behind : List Line) (line : Line) → AreGood e qs good
    → flat_map (partner_faults qs e) (good ++ line ∷ behind) ≡ partner_faults qs e line ++ flat_map (partner_faults qs e) behind
past_good qs e good behind line h = flat_map-append (partner_faults qs e) good (line ∷ behind)
    ∙ ap (λ xs. xs ++ flat_map (partner_faults qs e) (line ∷ behind)) (good_faults qs e good h) ∙ flat_map-cons (partner_faults qs e) line behind

-- what an event breaks whose first partner at fault stands behind good ones
faults_past : (qs : List ℕ) (number : ℕ) (e : Event) (ls good more : List Line) (line : Line) → ls ≡ good ++ line ∷ more → length good < partner_count e ls → AreGood e qs good
    → (behind : List Line) × (match_faults qs number e ls ≡ partner_faults qs e line ++ flat_map (partner_faults qs e) behind)
faults_past qs number e ls good more line l lt h = let past = take_past good more line (partner_count e ls) lt in
    let firsts : take (partner_count e ls) ls ≡ good ++ line ∷ past.0 = ap (take (partner_count e ls)) l ∙ past.1 in (
      past.0,
      ap (λ ms. ms ++ flat_map (partner_faults qs e) (take (partner_count e ls) ls)) (none_missing number e ls (λ o. omega (arith, lt)))
          ∙ ap (flat_map (partner_faults qs e)) firsts ∙ past_good qs e good past.0 line h,
    )

-- a query's partner doesn't go by the assumptions
query_partner : (qs rs : List ℕ) (c : List ℕ) (f : Event) → pair_faults qs (events.Query c) f ≡ pair_faults rs (events.Query c) f
unfolding pair_faults
query_partner qs rs c (events.Input d) = refl
query_partner qs rs c (events.Query d) = refl
query_partner qs rs c (events.Status d) = refl
query_partner qs rs c (events.Model d) = refl
query_partner qs rs c (events.Core d) = refl
query_partner qs rs c (events.Values d) = refl
query_partner qs rs c (events.Failed d) = refl

query_rules : (qs rs : List ℕ) (c : List ℕ) (o : Result Event Rule) → partner_rules qs (events.Query c) o ≡ partner_rules rs (events.Query c) o
query_rules qs rs c (Ok f) = query_partner qs rs c f
query_rules qs rs c (Err r) = refl

query_faults : (qs rs : List ℕ) (c : List ℕ) (line : Line) → partner_faults qs (events.Query c) line ≡ partner_faults rs (events.Query c) line
query_faults qs rs c line = ap (refusals Interaction line.number) (query_rules qs rs c (value_of icnf_line line))

query_matches : (qs rs : List ℕ) (number : ℕ) (c : List ℕ) (ls : List Line) → match_faults qs number (events.Query c) ls ≡ match_faults rs number (events.Query c) ls
query_matches qs rs number c ls = let same : partner_faults qs (events.Query c) ≡ partner_faults rs (events.Query c) = fun_ext (query_faults qs rs c) in
    ap (λ f. missing_partner number (events.Query c) ls ++ flat_map f (take (partner_count (events.Query c) ls) ls)) same

kept : (es : List Event) (e : Event) → query_of e ≡ None → assumed (es ++ e ∷ []) ≡ assumed es
kept es e q = rw (filter_map-append, q, append-nil) refl

-- so an event is held against its partner under the assumptions behind it as well as before it
same_matches : (es : List Event) (number : ℕ) (e : Event) (ls : List Line) → match_faults (assumed es) number e ls ≡ match_faults (assumed (es ++ e ∷ [])) number e ls
same_matches es number (events.Query c) ls = query_matches (assumed es) (assumed (es ++ events.Query c ∷ [])) number c ls
same_matches es number (events.Input c) ls = ap (λ qs. match_faults qs number (events.Input c) ls) (sym (kept es (events.Input c) refl))
same_matches es number (events.Status s) ls = ap (λ qs. match_faults qs number (events.Status s) ls) (sym (kept es (events.Status s) refl))
same_matches es number (events.Model m) ls = ap (λ qs. match_faults qs number (events.Model m) ls) (sym (kept es (events.Model m) refl))
same_matches es number (events.Core u) ls = ap (λ qs. match_faults qs number (events.Core u) ls) (sym (kept es (events.Core u) refl))
same_matches es number (events.Values u) ls = ap (λ qs. match_faults qs number (events.Values u) ls) (sym (kept es (events.Values u) refl))
same_matches es number (events.Failed u) ls = ap (λ qs. match_faults qs number (events.Failed u) ls) (sym (kept es (events.Failed u) refl))

-- ---- How many

length-if : {X : Type 0} (b : Bool) (x : X) (ys : List X) → length (if b then x ∷ ys else ys) ≡ (if b then 1 else 0) + length ys
length-if true x ys = omega arith
length-if false x ys = omega arith

count-cons : {X : Type 0} (p : X → Bool) (x : X) (xs : List X) → count_by p (x ∷ xs) ≡ (if p x then 1 else 0) + count_by p xs
count-cons p x xs = sym (length-filter p (x ∷ xs)) ∙ length-if (p x) x (filter p xs) ∙ ap (λ n. (if p x then 1 else 0) + n) (length-filter p xs)

module _ {S : Type 0} (form : ProofForm S) where
  -- ---- The verdict

  refused_first : (side : Side) (number : ℕ) (rule : Rule) (more : List Refusal) (a b : List ℕ) → pair_refusals form a b ≡ refusal side number rule ∷ more
      → Refused side number rule ≡ verdict_by form a b
  unfolding verdict_by
  refused_first side number rule more a b e = ap (verdict_of (all_queries form b)) (sym e)

  accepted : (n : ℕ) (a b : List ℕ) → pair_refusals form a b ≡ [] → all_queries form b ≡ n → Accepted n ≡ verdict_by form a b
  unfolding verdict_by
  accepted n a b e c = ap Accepted (sym c) ∙ ap (verdict_of (all_queries form b)) (sym e)

  -- a refusal of the line in which the window over that stream stands
  names_interaction : (n : ℕ) (p q : Place) (a ta b tb : List ℕ) (rule : Rule) (more : List Refusal) → pair_refusals form a b ≡ refusal Interaction p.line rule ∷ more → IsWithin a p ta
      → IsVerdictOf form (Refused Interaction p.line rule) (at n p q) a ta b tb
  names_interaction n p q a ta b tb rule more e w = record { is = refused_first Interaction p.line rule more a b e; named = (w, refl) }

  names_proof : (n : ℕ) (p q : Place) (a ta b tb : List ℕ) (rule : Rule) (more : List Refusal) → pair_refusals form a b ≡ refusal Proof q.line rule ∷ more → IsWithin b q tb
      → IsVerdictOf form (Refused Proof q.line rule) (at n p q) a ta b tb
  names_proof n p q a ta b tb rule more e w = record { is = refused_first Proof q.line rule more a b e; named = (w, refl) }

  -- another name of the verdict
  pub answers : (v w : Verdict) (n : ℕ) (p q : Place) (a ta b tb : List ℕ) → v ≡ w → IsVerdictOf form w (at n p q) a ta b tb → IsVerdictOf form v (at n p q) a ta b tb
  answers v w n p q a ta b tb e h = subst (λ u. IsVerdictOf form u (at n p q) a ta b tb) (sym e) h

  -- the header of the interaction is broken, or that of the proof
  pub interaction_header : (a b : List ℕ) (number : ℕ) (r : Rule) → header_fault (codes "icnf") a ≡ Some (number, r) → Refused Interaction number r ≡ verdict_by form a b
  unfolding pair_refusals
  interaction_header a b number r e = let rest = faults_from form [] (end_line b) (drop 1 (lines b)) (drop 1 (lines a)) in
      refused_first Interaction number r (one_refusal Proof (header_fault form.name b) ++ rest) a b (ap (λ h. one_refusal Interaction h ++ one_refusal Proof (header_fault form.name b) ++ rest) e)

  pub proof_header : (a b : List ℕ) (number : ℕ) (r : Rule) → header_fault (codes "icnf") a ≡ None → header_fault form.name b ≡ Some (number, r) → Refused Proof number r ≡ verdict_by form a b
  unfolding pair_refusals
  proof_header a b number r e f = let rest = faults_from form [] (end_line b) (drop 1 (lines b)) (drop 1 (lines a)) in
      refused_first Proof number r rest a b (ap (λ h. one_refusal Interaction h ++ one_refusal Proof (header_fault form.name b) ++ rest) e ∙ ap (λ h. one_refusal Proof h ++ rest) f)

  -- ---- Lines of the proof

  line_says : (ps : List S) (end : ℕ) (line : Line) (more ls : List Line) (v : Result S Rule) → value_of form.read line ≡ v
      → faults_from form ps end (line ∷ more) ls ≡ line_faults form ps line.number v ls (faults_from form (with_step form ps v) end more (drop (partners_of form v ls) ls))
  unfolding faults_from
  line_says ps end line more ls v e = ap (λ o. line_faults form ps line.number o ls (faults_from form (with_step form ps o) end more (drop (partners_of form o ls) ls))) e

  queries-cons : (line : Line) (more : List Line) (step : S) → value_of form.read line ≡ Ok step → queries_in form (line ∷ more) ≡ query_count (form.event step) + queries_in form more
  unfolding values_of
  queries-cons line more step e = ap (λ v. count_by (is_query form) (map (λ p. p.1) (value_and_more line.number v (values_of form.read more)))) e ∙ count-cons (is_query form) step (map (λ p. p.1) (values_of form.read more))

  no_queries : queries_in form [] ≡ 0
  unfolding values_of
  no_queries = refl

module _ {S : Type 0} (form : ProofForm S) (stands : List S → Type 0) (queries : ℕ) (a b : List ℕ) where
  pub begins : (interaction proof : Place) (ta tb : List ℕ) → IsBehindHeader (codes "icnf") a interaction ta → IsBehindHeader form.name b proof tb → stands [] → Checking form stands (at 0 interaction proof) a ta b tb
  unfolding pair_refusals
  begins interaction proof ta tb h k s = let count : all_queries form b ≡ queries_in form (later proof tb) = ap (queries_in form) k.lines in record {
    steps = [];
    behind = s;
    faults = ap (λ o. one_refusal Interaction o ++ one_refusal Proof (header_fault form.name b) ++ faults_from form [] (end_line b) (drop 1 (lines b)) (drop 1 (lines a))) h.kept
        ∙ ap (λ o. one_refusal Proof o ++ faults_from form [] (end_line b) (drop 1 (lines b)) (drop 1 (lines a))) k.kept
        ∙ ap (λ xs. faults_from form [] (end_line b) xs (drop 1 (lines a))) k.lines ∙ ap (λ xs. faults_from form [] (end_line b) (later proof tb) xs) h.lines;
    count = omega (arith, count);
    interaction_within = h.within;
    proof_within = k.within;
    interaction_cut = h.cut;
    proof_cut = k.cut;
  }

  -- a line of the proof was read
  pub step_read : (interaction p q : Place) (ta tb tc : List ℕ) (step : S) → Checking form stands (at queries interaction p) a ta b tb → Says form.read step p tb q tc → AtStep form stands (at queries interaction q) step a ta b tc
  step_read interaction p q ta tb tc step k s =
      let ls = later interaction ta in
      let count : queries_in form (later p tb) ≡ query_count (form.event step) + queries_in form (later q tc) = ap (queries_in form) s.lines ∙ queries-cons form s.line (later q tc) step s.value in record {
        steps = k.steps;
        behind = k.behind;
        faults = k.faults ∙ ap (λ xs. faults_from form k.steps (end_line b) xs ls) s.lines ∙ line_says form k.steps (end_line b) s.line (later q tc) ls (Ok step) s.value
            ∙ ap (λ n. line_faults form k.steps n (Ok step) ls (faults_from form (k.steps ++ step ∷ []) (end_line b) (later q tc) (drop (partners_of form (Ok step) ls) ls))) s.number;
        count = k.count ∙ ap (λ n. queries + n) count;
        interaction_within = k.interaction_within;
        proof_within = within_on b p q tb tc k.proof_within s.passed s.last;
        interaction_cut = k.interaction_cut;
        proof_cut = cut_behind form.read s.line step p q tb tc s.lines s.value s.cut k.proof_cut;
      }

  -- it breaks a rule of syntax
  pub line_broken : (interaction p q : Place) (ta tb tc : List ℕ) (r : Rule) → Checking form stands (at queries interaction p) a ta b tb → Breaks form.read r p tb q tc ⊎ BehindCut r p tb q tc → IsVerdictOf form (Refused Proof q.line r) (at queries interaction q) a ta b tc
  line_broken interaction p q ta tb tc r k (inr c) = absurd (not_behind_cut r p q tb tc k.proof_cut c)
  line_broken interaction p q ta tb tc r k (inl s) = let ls = later interaction ta in
      names_proof form queries interaction q a ta b tc r [] (k.faults ∙ ap (λ xs. faults_from form k.steps (end_line b) xs ls) s.lines ∙ line_says form k.steps (end_line b) s.line s.more ls (Err r) s.rule
      ∙ ap (λ n. refusal Proof n r ∷ []) s.number) (within_on b p q tb tc k.proof_within s.passed s.last)

  -- its step breaks an own rule
  pub own_broken : (interaction proof : Place) (ta tb : List ℕ) (step : S) (r : Rule) → AtStep form stands (at queries interaction proof) step a ta b tb
      → ((ps : List S) → stands ps → Some r ≡ first_rule (form.faults ps step)) → IsVerdictOf form (Refused Proof proof.line r) (at queries interaction proof) a ta b tb
  own_broken interaction proof ta tb step r k f = let first = first_some r (form.faults k.steps step) (f k.steps k.behind) in
      names_proof form queries interaction proof a ta b tb r _ (k.faults ∙ ap (λ rs. refusals Proof proof.line rs ++ step_matches form (assumed (filter_map form.event k.steps)) proof.line (form.event step) (later interaction ta)
      ++ faults_from form (k.steps ++ step ∷ []) (end_line b) (later proof tb) (drop (step_partners form (form.event step) (later interaction ta)) (later interaction ta))) first.is) k.proof_within

  -- it breaks none
  behind_matches : (ps : List S) (step : S) (number : ℕ) (ls : List Line) (o : Option Event) → form.event step ≡ o
      → step_matches form (assumed (filter_map form.event ps)) number o ls ≡ step_matches form (assumed (filter_map form.event (ps ++ step ∷ []))) number o ls
  behind_matches ps step number ls None e = refl
  behind_matches ps step number ls (Some x) e = same_matches (filter_map form.event ps) number x ls ∙ ap (λ es. match_faults (assumed es) number x ls) (sym (pushed x e))
    where
      pushed : (x : Event) → form.event step ≡ Some x → filter_map form.event (ps ++ step ∷ []) ≡ filter_map form.event ps ++ x ∷ []
      pushed x e = rw (filter_map-append, e) refl

  pub own_kept : (stands_after : List S → Type 0) (interaction proof : Place) (ta tb : List ℕ) (step : S) → AtStep form stands (at queries interaction proof) step a ta b tb
      → ((ps : List S) → stands ps → None ≡ first_rule (form.faults ps step)) → ((ps : List S) → stands ps → stands_after (ps ++ step ∷ []))
      → AtEvent form stands_after (at queries interaction proof) (form.event step) a ta b tb
  own_kept stands_after interaction proof ta tb step k f g =
      let ls = later interaction ta in
      let rest = faults_from form (k.steps ++ step ∷ []) (end_line b) (later proof tb) (drop (step_partners form (form.event step) ls) ls) in record {
        steps = k.steps ++ step ∷ [];
        behind = g k.steps k.behind;
        faults = k.faults ∙ ap (λ rs. refusals Proof proof.line rs ++ step_matches form (assumed (filter_map form.event k.steps)) proof.line (form.event step) ls ++ rest) (first_none (form.faults k.steps step) (f k.steps k.behind))
            ∙ ap (λ ms. ms ++ rest) (behind_matches k.steps step proof.line ls (form.event step) refl);
        count = k.count;
        interaction_within = k.interaction_within;
        proof_within = k.proof_within;
        interaction_cut = k.interaction_cut;
        proof_cut = k.proof_cut;
      }

  -- ---- The event of a line and its partner

  -- the step is no event
  pub no_event : (interaction proof : Place) (ta tb : List ℕ) → AtEvent form stands (at queries interaction proof) None a ta b tb → Checking form stands (at queries interaction proof) a ta b tb
  no_event interaction proof ta tb k = record {
    steps = k.steps;
    behind = k.behind;
    faults = k.faults;
    count = let c = k.count in omega (arith, c);
    interaction_within = k.interaction_within;
    proof_within = k.proof_within;
    interaction_cut = k.interaction_cut;
    proof_cut = k.proof_cut;
  }

  -- the faults of the pair where the event's partners are these
  faults_are : (p proof : Place) (ta tb : List ℕ) (e : Event) (k : AtEvent form stands (at queries p proof) (Some e) a ta b tb) (qs : List ℕ) → qs ≡ assumed (filter_map form.event k.steps)
      → pair_refusals form a b ≡ match_faults qs proof.line e (later p ta)
      ++ faults_from form k.steps (end_line b) (later proof tb) (drop (partner_count e (later p ta)) (later p ta))
  faults_are p proof ta tb e k qs same = let ls = later p ta in
      k.faults ∙ ap (λ xs. match_faults xs proof.line e ls ++ faults_from form k.steps (end_line b) (later proof tb) (drop (partner_count e ls) ls)) (sym same)

  -- all partners agree
  pub partners_agree : (qs : List ℕ) (p q proof : Place) (ta ua tb : List ℕ) (e : Event) (n : ℕ) → AtEvent form stands (at queries p proof) (Some e) a ta b tb
      → ((ps : List S) → stands ps → qs ≡ assumed (filter_map form.event ps)) → AllAgree e qs (partner_count e (later p ta)) p ta q ua → n ≡ queries + query_count (Some e) → Checking form stands (at n q proof) a ua b tb
  partners_agree qs p q proof ta ua tb e n k same m c =
      let ls = later p ta in
      let count = partner_count e ls in
      let rest = faults_from form k.steps (end_line b) (later proof tb) in
      let whole : ls ≡ take count ls ++ later q ua = sym (take-append-drop count ls) ∙ ap (λ xs. take count ls ++ xs) (sym m.lines) in record {
        steps = k.steps;
        behind = k.behind;
        faults = faults_are p proof ta tb e k qs (same k.steps k.behind)
            ∙ ap (λ ms. (ms ++ flat_map (partner_faults qs e) (take count ls)) ++ rest (drop count ls)) (none_missing proof.line e ls m.found)
            ∙ ap (λ ms. ms ++ rest (drop count ls)) (good_faults qs e (take count ls) m.good) ∙ ap rest (sym m.lines);
        count = let d = k.count in omega (arith, c, d);
        interaction_within = within_on a p q ta ua k.interaction_within m.passed m.last;
        proof_within = k.proof_within;
        interaction_cut = record {
          comes = λ cut. cut_behind_good e qs (take count ls) (later q ua) m.good
              (subst EndsCut whole (k.interaction_cut.comes (sym m.cut ∙ cut)));
        };
        proof_cut = k.proof_cut;
      }

  -- a partner behind good ones breaks these rules
  refused_past : (qs : List ℕ) (p q proof : Place) (ta ua tb : List ℕ) (e : Event) (r : Rule) (rs : List Rule) (good more : List Line) (line : Line)
      (k : AtEvent form stands (at queries p proof) (Some e) a ta b tb) → qs ≡ assumed (filter_map form.event k.steps)
      → StandsBehind e qs (partner_count e (later p ta)) good line more p ta q ua → partner_faults qs e line ≡ refusals Interaction line.number (r ∷ rs)
      → IsVerdictOf form (Refused Interaction q.line r) (at queries q proof) a ua b tb
  refused_past qs p q proof ta ua tb e r rs good more line k same m f =
      let ls = later p ta in
      let rest = faults_from form k.steps (end_line b) (later proof tb) (drop (partner_count e ls) ls) in
      let past = faults_past qs proof.line e ls good more line m.lines m.within m.are_good in
      names_interaction form queries q proof a ua b tb r _ (faults_are p proof ta tb e k qs same
      ∙ ap (λ ms. ms ++ rest) past.1
      ∙ ap (λ fs. (fs ++ flat_map (partner_faults qs e) past.0) ++ rest) f
      ∙ ap (λ n. (refusals Interaction n (r ∷ rs) ++ flat_map (partner_faults qs e) past.0) ++ rest) m.number) (within_on a p q ta ua k.interaction_within m.passed m.last)

  -- a partner breaks a rule with the event
  pub partner_differs : (qs : List ℕ) (p q proof : Place) (ta ua tb : List ℕ) (e : Event) (r : Rule) → AtEvent form stands (at queries p proof) (Some e) a ta b tb
      → ((ps : List S) → stands ps → qs ≡ assumed (filter_map form.event ps)) → OneDiffers e qs (partner_count e (later p ta)) r p ta q ua
      → IsVerdictOf form (Refused Interaction q.line r) (at queries q proof) a ua b tb
  partner_differs qs p q proof ta ua tb e r k same m = let first = got_some r (pair_faults qs e m.partner) m.rule in
      refused_past qs p q proof ta ua tb e r first.more m.good (later q ua) m.line k (same k.steps k.behind) m.stands
      (ap (λ o. refusals Interaction m.line.number (partner_rules qs e o)) m.value ∙ ap (refusals Interaction m.line.number) first.is)

  -- it breaks a rule of syntax
  pub partner_broken : (qs : List ℕ) (p q proof : Place) (ta ua tb : List ℕ) (e : Event) (r : Rule) → AtEvent form stands (at queries p proof) (Some e) a ta b tb
      → ((ps : List S) → stands ps → qs ≡ assumed (filter_map form.event ps))
      → OneBreaks e qs (partner_count e (later p ta)) r p ta q ua ⊎ CutBehindRun e qs r p ta q ua → IsVerdictOf form (Refused Interaction q.line r) (at queries q proof) a ua b tb
  partner_broken qs p q proof ta ua tb e r k same (inr c) = absurd (cut_behind_good e qs (later p ta) [] c.good
      (subst EndsCut (sym (append-nil (later p ta))) (k.interaction_cut.comes c.cut)))
  partner_broken qs p q proof ta ua tb e r k same (inl m) = refused_past qs p q proof ta ua tb e r [] m.good m.more m.line k (same k.steps k.behind) m.stands
      (ap (λ o. refusals Interaction m.line.number (partner_rules qs e o)) m.rule)

  -- no line is left, and a partner is owed
  pub partner_missing : (p q proof : Place) (ta ua tb : List ℕ) (e : Event) → AtEvent form stands (at queries p proof) (Some e) a ta b tb → LacksPartner e p ta q ua
      → IsVerdictOf form (Refused Proof proof.line rules.Ended) (at queries q proof) a ua b tb
  partner_missing p q proof ta ua tb e k m = let qs = assumed (filter_map form.event k.steps) in let rest = faults_from form k.steps (end_line b) (later proof tb) in
      names_proof form queries q proof a ua b tb rules.Ended _ (k.faults
      ∙ ap (λ ls. match_faults qs proof.line e ls ++ rest (drop (partner_count e ls) ls)) m.end.none
      ∙ ap (λ o. ((if o then refusal Proof proof.line rules.Ended ∷ [] else []) ++ flat_map (partner_faults qs e) (take (partner_count e []) [])) ++ rest (drop (partner_count e []) [])) m.owes) k.proof_within

  -- ---- The proof's end

  ended : (ps : List S) (end : ℕ) (ls : List Line) → faults_from form ps end [] ls ≡ unfinished (filter_map form.event ps) end ++ surplus ls
  unfolding faults_from
  ended ps end ls = refl

  pub proof_ended : (interaction p q : Place) (ta tb tc : List ℕ) → Checking form stands (at queries interaction p) a ta b tb → AtEnd p tb q tc → AtProofEnd form stands (at queries interaction q) a ta b tc
  proof_ended interaction p q ta tb tc k end = let c = k.count in let none : queries_in form (later p tb) ≡ 0 = ap (queries_in form) end.none ∙ no_queries form in record {
    steps = k.steps;
    behind = k.behind;
    faults = k.faults ∙ ap (λ xs. faults_from form k.steps (end_line b) xs (later interaction ta)) end.none ∙ ended k.steps (end_line b) (later interaction ta)
        ∙ ap (λ n. unfinished (filter_map form.event k.steps) n ++ surplus (later interaction ta)) (sym (end.line ∙ k.proof_within.last));
    count = omega (arith, c, none);
    interaction_within = k.interaction_within;
    proof_within = within_on b p q tb tc k.proof_within end.behind.passed end.behind.last;
    interaction_cut = k.interaction_cut;
  }

  -- a query is open
  pub query_open : (interaction proof : Place) (ta tb : List ℕ) (r : Rule) → AtProofEnd form stands (at queries interaction proof) a ta b tb
      → ((ps : List S) → stands ps → Some r ≡ first_rule (broken_unless (is_idle (phase (filter_map form.event ps))) rules.Unfinished)) → IsVerdictOf form (Refused Proof proof.line r) (at queries interaction proof) a ta b tb
  query_open interaction proof ta tb r k f = let first = first_some r (broken_unless (is_idle (phase (filter_map form.event k.steps))) rules.Unfinished) (f k.steps k.behind) in
      names_proof form queries interaction proof a ta b tb r _ (k.faults ∙ ap (λ rs. refusals Proof proof.line rs ++ surplus (later interaction ta)) first.is) k.proof_within

  pub query_closed : (interaction proof : Place) (ta tb : List ℕ) → AtProofEnd form stands (at queries interaction proof) a ta b tb
      → ((ps : List S) → stands ps → None ≡ first_rule (broken_unless (is_idle (phase (filter_map form.event ps))) rules.Unfinished)) → AtSurplus form (at queries interaction proof) a ta b tb
  query_closed interaction proof ta tb k f = record {
    faults = k.faults ∙ ap (λ rs. refusals Proof proof.line rs ++ surplus (later interaction ta)) (first_none (broken_unless (is_idle (phase (filter_map form.event k.steps))) rules.Unfinished) (f k.steps k.behind));
    count = k.count;
    interaction_within = k.interaction_within;
    interaction_cut = k.interaction_cut;
  }

  -- a line of the interaction is left
  surplus_rule : (c h : Bool) → h ≡ true → (if c && not h then rules.Length else rules.Surplus) ≡ rules.Surplus
  surplus_rule true h e = rw e refl
  surplus_rule false h e = refl

  pub line_left : (p q proof : Place) (ta ua tb : List ℕ) → AtSurplus form (at queries p proof) a ta b tb → InLine p ta q ua → IsVerdictOf form (Refused Interaction q.line rules.Surplus) (at queries q proof) a ua b tb
  line_left p q proof ta ua tb k l = let line = present q ua in names_interaction form queries q proof a ua b tb rules.Surplus [] (k.faults ∙ ap surplus l.lines
      ∙ ap (λ r. refusal Interaction line.number r ∷ []) (surplus_rule line.cut (has_content line.words) l.content) ∙ ap (λ n. refusal Interaction n rules.Surplus ∷ []) l.number)
      (within_on a p q ta ua k.interaction_within l.passed l.last)

  -- only the line is left that the bound cuts before its content
  pub cut_left : (p q proof : Place) (ta ua tb : List ℕ) → AtSurplus form (at queries p proof) a ta b tb → AtBound p ta q ua → IsVerdictOf form (Refused Interaction q.line rules.Length) (at queries q proof) a ua b tb
  cut_left p q proof ta ua tb k l = by_lines (later p ta) refl l.only
    where
      by_lines : (ls : List Line) → later p ta ≡ ls → OnlyCut ls (last_line p ta) → IsVerdictOf form (Refused Interaction q.line rules.Length) (at queries q proof) a ua b tb
      by_lines [] e o = absurd (subst EndsCut e (k.interaction_cut.comes l.cut))
      by_lines (line ∷ more) e o = names_interaction form queries q proof a ua b tb rules.Length [] (k.faults ∙ ap surplus e
          ∙ ap (λ c. refusal Interaction line.number (if c && not (has_content line.words) then rules.Length else rules.Surplus) ∷ []) o.1
          ∙ ap (λ c. refusal Interaction line.number (if not c then rules.Length else rules.Surplus) ∷ []) o.2
          ∙ ap (λ n. refusal Interaction n rules.Length ∷ []) (o.3 ∙ sym l.line)) (within_on a p q ta ua k.interaction_within l.behind.passed l.behind.last)

  pub none_left : (p q proof : Place) (ta ua tb : List ℕ) → AtSurplus form (at queries p proof) a ta b tb → AtEnd p ta q ua → IsVerdictOf form (Accepted queries) (at queries q proof) a ua b tb
  none_left p q proof ta ua tb k l = record { is = accepted form queries a b (k.faults ∙ ap surplus l.none) k.count; named = tt }
