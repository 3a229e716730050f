-- The first of a pair's refusals is the fault with the least key, and there is one fault a key.
use Rattle.std.proofs.Common.{◌≡◌, ℕ, zero, suc, ◌+◌, ◌≤◌, ◌⊎◌, Bool, true, false, if◌then◌else◌, List, [], ◌∷◌, ◌++◌, length, map, take, drop, flat_map, Contains, slice_get, Option, Some, None, Result, Ok, Err, codes, refl, sym, ◌∙◌, ap, subst, inl, inr, arith, append-nil}
use Rattle.std.proofs.lemmas.Option.{slice_get_within}
use Rattle.std.proofs.lemmas.List.{map-append, drop-drop}
use Rattle.std.proofs.lemmas.List.Elements.{filter_map-append, Contains-append_left, Contains-append_right, Contains-append_cases}
use Rattle.lits.proofs.Members.{here, there, not_in_nil, here_or_there}
use Rattle.session_rules.specs.declared.Form.{Form}
use Rattle.session_rules.specs.declared.Side.TheVariants.{Interaction, Proof}
use Rattle.session_rules.specs.declared.Event.{Event}
use Rattle.session_rules.specs.declared.Rule.{Rule}
use Rattle.session_rules.specs.declared.Rule.TheVariants as rules
use Rattle.session_rules.specs.Lines.{Line, end_line}
use Rattle.session_rules.specs.Reading.{value_of, icnf_line, header_fault}
use Rattle.session_rules.specs.Numbers.{rule_number}
use Rattle.session_rules.specs.History.{phase, assumed}
use Rattle.session_rules.specs.Pair.{pair_faults, Refusal, refusal, refusals, partner_count, owes_partner, partner_rules, partner_faults, missing_partner, match_faults, surplus, unfinished, step_partners, step_matches, faults_from, pair_refusals}
use Rattle.session_rules.specs.Verdicts.{StepOf, rules_of, body, events_among, IsEventStep, lines_taken, partners, further_rule, IsOwnFault, IsFault}
use Rattle.session_rules.specs.Keys.{Key, rank, IsAtMost}
use Rattle.session_rules.specs.Keys as keys
use Rattle.session_rules.specs.Verdicts as faults
use Rattle.session_rules.proofs.Positions.{get_same, get_dropped, get_none, said, said_at, said_next}
use Rattle.session_rules.proofs.Ascending.{IsBefore, before_first, KeysAscend, keys_append}
use Rattle.session_rules.proofs.Listed.{Ranked, ranked, First, first_same, first_join, AtLine, AtEnd, listed_unique, listed_key, first_listed}
use Rattle.session_rules.proofs.RuleNumbers.{pair_ascends, own_rule_number}
use Rattle.session_rules.proofs.OwnFaults.{keyed, keyed_refusals, keyed_at, keyed_from, keys_of_rules, only_one, keys_of_none, keys_of_one, AtHeader, first_header, header_unique, header_before, not_header, read, own_line, keys_of_own, first_open, OwnLast, own_parts, own_at_line, own_header_from, own_end_from, own_last_key}

-- ---- What the partners of one step break

-- what a partner breaks
abbrev pub partner_entries : List ℕ → Event → ℕ → Result Event Rule → List (List ℕ × Refusal)
partner_entries qs e number (Err rule) = (1 ∷ [], refusal Interaction number rule) ∷ []
partner_entries qs e number (Ok f) = keyed Interaction number (pair_faults qs e f)

-- these faults as those of the partner with this number
abbrev pub of_partner : ℕ → List (List ℕ × Refusal) → List (List ℕ × Refusal)
of_partner n es = map (λ z. (20 ∷ n ∷ z.0, z.1)) es

-- what the lines of a run break, behind n partners
unfoldable pub run_entries : List ℕ → Event → ℕ → List Line → List (List ℕ × Refusal)
run_entries qs e n [] = []
run_entries qs e n (m ∷ ms) = of_partner (n + 1) (partner_entries qs e m.number (value_of icnf_line m)) ++ run_entries qs e (n + 1) ms

-- what a step's event breaks where no line is left
abbrev pub missing_entries : ℕ → Event → List Line → List (List ℕ × Refusal)
missing_entries number e [] = if owes_partner e then (20 ∷ 0 ∷ [], refusal Proof number rules.Ended) ∷ [] else []
missing_entries number e (m ∷ ms) = []

abbrev pub event_entries : List ℕ → ℕ → Event → List Line → List (List ℕ × Refusal)
event_entries qs number e ms = missing_entries number e ms ++ run_entries qs e 0 (take (partner_count e ms) ms)

-- what a step's event, where it has one, breaks with its partners, the first of these lines
abbrev pub match_line : List ℕ → ℕ → Option Event → List Line → List (List ℕ × Refusal)
match_line qs number None ms = []
match_line qs number (Some e) ms = event_entries qs number e ms

-- ---- The order of their keys

under_key : (k : ℕ) (key other : List ℕ) → IsAtMost key other × IsBefore key other → IsAtMost (k ∷ key) (k ∷ other) × IsBefore (k ∷ key) (k ∷ other)
under_key k key other h = (inr (refl, h.0), λ g. elim g [ inl lt ↦ omega (arith, lt) | inr same ↦ h.1 same.1 ])

before_at : (key other : List ℕ) (ns ms : List ℕ) → ns ≡ key → ms ≡ other → IsAtMost key other × IsBefore key other → IsAtMost ns ms × IsBefore ns ms
before_at key other ns ms e f h = subst (λ z. IsAtMost z ms × IsBefore z ms) (sym e) (subst (λ z. IsAtMost key z × IsBefore key z) (sym f) h)

-- a partner's number, with what stands behind it in the key
partner_key : (n : ℕ) (es : List (List ℕ × Refusal)) (f : List ℕ × Refusal) → Contains (of_partner n es) f
    → (rest : List ℕ) × (f.0 ≡ 20 ∷ n ∷ rest) × Contains es (rest, f.1)
partner_key n [] f m = absurd (not_in_nil f m)
partner_key n (x ∷ xs) f m = elim (here_or_there (20 ∷ n ∷ x.0, x.1) f (of_partner n xs) m) [
  | inl is ↦ (x.0, ap (λ (z : List ℕ × Refusal). z.0) (sym is), subst (λ r. Contains (x ∷ xs) (x.0, r)) (ap (λ (z : List ℕ × Refusal). z.1) is) (here x xs))
  | inr later ↦ let g = partner_key n xs f later in (g.0, g.1, there x (g.0, f.1) xs g.2)
]

partner_from : (n : ℕ) (es : List (List ℕ × Refusal)) (rest : List ℕ) (r : Refusal) → Contains es (rest, r) → Contains (of_partner n es) (20 ∷ n ∷ rest, r)
partner_from n [] rest r m = absurd (not_in_nil (rest, r) m)
partner_from n (x ∷ xs) rest r m = elim (here_or_there x (rest, r) xs m) [
  | inl is ↦ subst (λ (z : List ℕ × Refusal). Contains (of_partner n (x ∷ xs)) (20 ∷ n ∷ z.0, z.1)) is (here (20 ∷ n ∷ x.0, x.1) (of_partner n xs))
  | inr later ↦ there (20 ∷ n ∷ x.0, x.1) (20 ∷ n ∷ rest, r) (of_partner n xs) (partner_from n xs rest r later)
]

keys_of_partner : (n : ℕ) (es : List (List ℕ × Refusal)) → KeysAscend es → KeysAscend (of_partner n es)
unfolding KeysAscend
keys_of_partner n [] h = tt
keys_of_partner n (x ∷ xs) h = (
  λ f m. let at = partner_key n xs f m in
      before_at (20 ∷ n ∷ x.0) (20 ∷ n ∷ at.0) (20 ∷ n ∷ x.0) f.0 refl at.1 (under_key 20 (n ∷ x.0) (n ∷ at.0) (under_key n x.0 at.0 (h.0 (at.0, f.1) at.2))),
  keys_of_partner n xs h.1,
)

keys_of_entries : (qs : List ℕ) (e : Event) (number : ℕ) (o : Result Event Rule) → KeysAscend (partner_entries qs e number o)
keys_of_entries qs e number (Err rule) = keys_of_one _
keys_of_entries qs e number (Ok f) = keys_of_rules Interaction number 20 29 _ (pair_ascends qs e f)

-- what a fault of a run names: a partner behind i others of it, and a fault of this one
pub record AtPartner (qs : List ℕ) (e : Event) (n : ℕ) (ms : List Line) (f : List ℕ × Refusal) : Type 0 where
  pub place : ℕ
  pub line : Line
  pub rest : List ℕ
  pub is_line : slice_get ms place ≡ Some line
  pub is_key : f.0 ≡ 20 ∷ (n + place + 1) ∷ rest
  pub member : Contains (partner_entries qs e line.number (value_of icnf_line line)) (rest, f.1)

run_at : (qs : List ℕ) (e : Event) (n : ℕ) (ms : List Line) (f : List ℕ × Refusal) → Contains (run_entries qs e n ms) f → AtPartner qs e n ms f
unfolding run_entries
run_at qs e n [] f m = absurd (not_in_nil f m)
run_at qs e n (x ∷ xs) f m = elim (Contains-append_cases _ _ f m) [
  | inl first ↦ let at = partner_key (n + 1) _ f first in
      record { place = 0; line = x; rest = at.0; is_line = refl; is_key = at.1 ∙ ap (λ k. 20 ∷ k ∷ at.0) (omega arith); member = at.2 }
  | inr later ↦ let at = run_at qs e (n + 1) xs f later in
      record { place = suc at.place; line = at.line; rest = at.rest; is_line = at.is_line; is_key = at.is_key ∙ ap (λ k. 20 ∷ k ∷ at.rest) (omega arith); member = at.member }
]

run_from : (qs : List ℕ) (e : Event) (n : ℕ) (ms : List Line) (i : ℕ) (line : Line) (rest : List ℕ) (r : Refusal) → slice_get ms i ≡ Some line
    → Contains (partner_entries qs e line.number (value_of icnf_line line)) (rest, r) → Contains (run_entries qs e n ms) (20 ∷ (n + i + 1) ∷ rest, r)
unfolding run_entries
run_from qs e n [] i line rest r is m = cc is
run_from qs e n (x ∷ xs) zero line rest r is m = let same : x ≡ line = cc is in
    let member = subst (λ (l : Line). Contains (partner_entries qs e l.number (value_of icnf_line l)) (rest, r)) (sym same) m in
    let here_is = Contains-append_left _ (run_entries qs e (n + 1) xs) _ (partner_from (n + 1) _ rest r member) in
    subst (λ k. Contains (run_entries qs e n (x ∷ xs)) (20 ∷ k ∷ rest, r)) (omega arith) here_is
run_from qs e n (x ∷ xs) (suc i) line rest r is m =
    let later = Contains-append_right (of_partner (n + 1) (partner_entries qs e x.number (value_of icnf_line x))) _ _ (run_from qs e (n + 1) xs i line rest r is m) in
    subst (λ k. Contains (run_entries qs e n (x ∷ xs)) (20 ∷ k ∷ rest, r)) (omega arith) later

keys_of_run : (qs : List ℕ) (e : Event) (n : ℕ) (ms : List Line) → KeysAscend (run_entries qs e n ms)
unfolding run_entries
keys_of_run qs e n [] = keys_of_none
keys_of_run qs e n (x ∷ xs) = keys_append _ _ (keys_of_partner (n + 1) _ (keys_of_entries qs e x.number (value_of icnf_line x))) (keys_of_run qs e (n + 1) xs)
    (λ y z j k. let first = partner_key (n + 1) _ y j in let later = run_at qs e (n + 1) xs z k in
    before_at (20 ∷ (n + 1) ∷ first.0) (20 ∷ (n + 1 + later.place + 1) ∷ later.rest) y.0 z.0 first.1 later.is_key
    (under_key 20 ((n + 1) ∷ first.0) ((n + 1 + later.place + 1) ∷ later.rest)
    (before_first (n + 1) (n + 1 + later.place + 1) first.0 later.rest ((n + 1) ∷ first.0) ((n + 1 + later.place + 1) ∷ later.rest) (omega arith) refl refl)))

-- a fault where no line is left names an event that owes a partner
missing_at : (number : ℕ) (e : Event) (ms : List Line) (f : List ℕ × Refusal) → Contains (missing_entries number e ms) f
    → (ms ≡ []) × (owes_partner e ≡ true) × (f.0 ≡ 20 ∷ 0 ∷ []) × (f.1 ≡ refusal Proof number rules.Ended)
missing_at number e [] f m = by_owed (owes_partner e) m
  where
    by_owed : (owed : Bool) → Contains (if owed then (20 ∷ 0 ∷ [], refusal Proof number rules.Ended) ∷ [] else []) f
        → (◌≡◌ {A = List Line} [] []) × (owed ≡ true) × (f.0 ≡ 20 ∷ 0 ∷ []) × (f.1 ≡ refusal Proof number rules.Ended)
    by_owed true m = let only = only_one (20 ∷ 0 ∷ [], refusal Proof number rules.Ended) f m in (refl, refl, only.0, only.1)
    by_owed false m = absurd (not_in_nil f m)
missing_at number e (x ∷ ms) f m = absurd (not_in_nil f m)

keys_of_missing : (number : ℕ) (e : Event) (ms : List Line) → KeysAscend (missing_entries number e ms)
keys_of_missing number e [] = by_owed (owes_partner e)
  where
    by_owed : (owed : Bool) → KeysAscend (if owed then (20 ∷ 0 ∷ [], refusal Proof number rules.Ended) ∷ [] else [])
    by_owed true = keys_of_one (20 ∷ 0 ∷ [], refusal Proof number rules.Ended)
    by_owed false = keys_of_none
keys_of_missing number e (x ∷ ms) = keys_of_none

keys_of_match : (qs : List ℕ) (number : ℕ) (o : Option Event) (ms : List Line) → KeysAscend (match_line qs number o ms)
keys_of_match qs number None ms = keys_of_none
keys_of_match qs number (Some e) ms = keys_append _ _ (keys_of_missing number e ms) (keys_of_run qs e 0 _)
    (λ y z j k. let none = missing_at number e ms y j in let later = run_at qs e 0 _ z k in
    before_at (20 ∷ 0 ∷ []) (20 ∷ (0 + later.place + 1) ∷ later.rest) y.0 z.0 none.2 later.is_key
    (under_key 20 (0 ∷ []) ((0 + later.place + 1) ∷ later.rest)
    (before_first 0 (0 + later.place + 1) [] later.rest (0 ∷ []) ((0 + later.place + 1) ∷ later.rest) (omega arith) refl refl)))

-- what begins the key of a fault with a partner
abbrev Begins : List ℕ → Type 0
Begins key = (rest : List ℕ) × (key ≡ 20 ∷ rest)

match_begins : (qs : List ℕ) (number : ℕ) (o : Option Event) (ms : List Line) (f : List ℕ × Refusal) → Contains (match_line qs number o ms) f → Begins f.0
match_begins qs number None ms f m = absurd (not_in_nil f m)
match_begins qs number (Some e) ms f m = elim (Contains-append_cases _ _ f m) [
  | inl none ↦ (0 ∷ [], (missing_at number e ms f none).2)
  | inr run ↦ let at = run_at qs e 0 _ f run in ((0 + at.place + 1) ∷ at.rest, at.is_key)
]

-- ---- Their refusals

partner_refusals : (qs : List ℕ) (e : Event) (number : ℕ) (o : Result Event Rule) → map (λ z. z.1) (partner_entries qs e number o) ≡ refusals Interaction number (partner_rules qs e o)
partner_refusals qs e number (Err rule) = refl
partner_refusals qs e number (Ok f) = keyed_refusals Interaction number _

of_partner-refusals : (n : ℕ) (es : List (List ℕ × Refusal)) → map (λ (z : List ℕ × Refusal). z.1) (of_partner n es) ≡ map (λ (z : List ℕ × Refusal). z.1) es
of_partner-refusals n [] = refl
of_partner-refusals n (x ∷ xs) = ap (λ zs. x.1 ∷ zs) (of_partner-refusals n xs)

run_refusals : (qs : List ℕ) (e : Event) (n : ℕ) (ms : List Line) → map (λ (z : List ℕ × Refusal). z.1) (run_entries qs e n ms) ≡ flat_map (partner_faults qs e) ms
unfolding run_entries
run_refusals qs e n [] = refl
run_refusals qs e n (x ∷ xs) =
    let first = partner_entries qs e x.number (value_of icnf_line x) in
    map-append (λ (z : List ℕ × Refusal). z.1) (of_partner (n + 1) first) (run_entries qs e (n + 1) xs)
    ∙ ap (λ zs. zs ++ map (λ (z : List ℕ × Refusal). z.1) (run_entries qs e (n + 1) xs)) (of_partner-refusals (n + 1) first ∙ partner_refusals qs e x.number (value_of icnf_line x))
    ∙ ap (λ zs. partner_faults qs e x ++ zs) (run_refusals qs e (n + 1) xs)

missing_refusals : (number : ℕ) (e : Event) (ms : List Line) → map (λ (z : List ℕ × Refusal). z.1) (missing_entries number e ms) ≡ missing_partner number e ms
missing_refusals number e [] = by_owed (owes_partner e)
  where
    by_owed : (owed : Bool) → map (λ (z : List ℕ × Refusal). z.1) (if owed then (20 ∷ 0 ∷ [], refusal Proof number rules.Ended) ∷ [] else [])
        ≡ (if owed then refusal Proof number rules.Ended ∷ [] else [])
    by_owed true = refl
    by_owed false = refl
missing_refusals number e (x ∷ ms) = refl

event_refusals : (qs : List ℕ) (number : ℕ) (e : Event) (ms : List Line) → map (λ (z : List ℕ × Refusal). z.1) (event_entries qs number e ms) ≡ match_faults qs number e ms
event_refusals qs number e ms =
    let run = run_entries qs e 0 (take (partner_count e ms) ms) in
    map-append (λ (z : List ℕ × Refusal). z.1) (missing_entries number e ms) run
    ∙ ap (λ zs. zs ++ map (λ (z : List ℕ × Refusal). z.1) run) (missing_refusals number e ms)
    ∙ ap (λ zs. missing_partner number e ms ++ zs) (run_refusals qs e 0 (take (partner_count e ms) ms))

-- ---- How many lines events take

pub taken_push : (es : List Event) (e : Event) (ls : List Line) → lines_taken (es ++ e ∷ []) ls ≡ lines_taken es ls + partner_count e (drop (lines_taken es ls) ls)
unfolding lines_taken
taken_push [] e ls = omega arith
taken_push (x ∷ es) e ls =
    let count = partner_count x ls in let more = lines_taken es (drop count ls) in
    ap (λ n. count + n) (taken_push es e (drop count ls)) ∙ ap (λ zs. count + (more + partner_count e zs)) (drop-drop more count ls) ∙ omega arith

-- the lines behind one more event
pub left_push : (es : List Event) (e : Event) (ls : List Line) → drop (partner_count e (drop (lines_taken es ls) ls)) (drop (lines_taken es ls) ls) ≡ drop (lines_taken (es ++ e ∷ []) ls) ls
left_push es e ls = drop-drop _ (lines_taken es ls) ls ∙ ap (λ n. drop n ls) (sym (taken_push es e ls))

-- ---- The lines of a proof

module _ (form : Form) where
  match_refusals : (qs : List ℕ) (number : ℕ) (o : Option Event) (ms : List Line) → map (λ z. z.1) (match_line qs number o ms) ≡ step_matches (rules_of form) qs number o ms
  match_refusals qs number None ms = refl
  match_refusals qs number (Some e) ms = event_refusals qs number e ms

  -- what a line breaks by itself and with its partners
  abbrev pub pair_line : List (StepOf form) → ℕ → Result (StepOf form) Rule → List Line → List (List ℕ × Refusal)
  pair_line ps number (Err rule) ms = (1 ∷ [], refusal Proof number rule) ∷ []
  pair_line ps number (Ok p) ms = keyed Proof number ((rules_of form).faults ps p) ++ match_line (assumed (events_among form ps)) number ((rules_of form).event p) ms

  keys_of_pair : (ps : List (StepOf form)) (number : ℕ) (o : Result (StepOf form) Rule) (ms : List Line) → KeysAscend (pair_line ps number o ms)
  keys_of_pair ps number (Err rule) ms = keys_of_one _
  keys_of_pair ps number (Ok p) ms = keys_append _ _ (keys_of_own form ps number (Ok p)) (keys_of_match _ number ((rules_of form).event p) ms) (λ e f m n.
      let at = keyed_at Proof number _ e m in let begins = match_begins _ number ((rules_of form).event p) ms f n in
      before_first (rule_number at.0) 20 [] begins.0 e.0 f.0 (omega (arith, own_rule_number form ps p at.0 at.1)) at.2 begins.1)

  own_in_pair : (ps : List (StepOf form)) (number : ℕ) (o : Result (StepOf form) Rule) (ms : List Line) (e : List ℕ × Refusal) → Contains (own_line form ps number o) e → Contains (pair_line ps number o ms) e
  own_in_pair ps number (Err rule) ms e m = m
  own_in_pair ps number (Ok p) ms e m = Contains-append_left _ _ e m

  module _ (a b : List ℕ) where
    abbrev pub spelt : List (StepOf form)
    spelt = said (read form) (body b)

    -- the interaction's lines behind the partners of the events among steps
    abbrev pub behind : List (StepOf form) → List Line
    behind ps = drop (lines_taken (events_among form ps) (body a)) (body a)

    abbrev pub pair_entries : List (StepOf form) → Line → List (List ℕ × Refusal)
    pair_entries ps line = pair_line ps line.number (value_of (read form) line) (behind ps)

    behind-push : (ps : List (StepOf form)) (p : StepOf form) (o : Option Event) → (rules_of form).event p ≡ o → drop (step_partners (rules_of form) o (behind ps)) (behind ps) ≡ behind (ps ++ p ∷ [])
    behind-push ps p None e = let same : events_among form (ps ++ p ∷ []) ≡ events_among form ps = rw (filter_map-append, e, append-nil) refl in ap (λ es. drop (lines_taken es (body a)) (body a)) (sym same)
    behind-push ps p (Some x) e =
        let same : events_among form (ps ++ p ∷ []) ≡ events_among form ps ++ x ∷ [] = rw (filter_map-append, e) refl in
        left_push (events_among form ps) x (body a) ∙ ap (λ es. drop (lines_taken es (body a)) (body a)) (sym same)

    -- the interaction has a line left
    abbrev pub IsLeft : List ℕ → Refusal → Type 0
    IsLeft key r = (key ≡ 5 ∷ []) × ((line : Line) × (slice_get (body a) (lines_taken (events_among form spelt) (body a)) ≡ Some line) × (r ≡ refusal Interaction line.number (further_rule line)))

    first_left : (ms : List Line) → behind spelt ≡ ms → First IsLeft (surplus ms)
    first_left [] e = λ key r h. let none = get_none (body a) _ e in let f : None ≡ Some h.1.0 = sym none ∙ h.1.1 in cc f
    first_left (m ∷ ms) e = record {
      key = 5 ∷ [];
      is_fault = (refl, (m, (get_dropped (body a) _ m ms e).0, refl));
      is_least = λ other s h. subst (λ z. IsAtMost (5 ∷ []) z) (sym h.0) (inr (refl, tt));
    }

    left_unique : (key : List ℕ) (r s : Refusal) → IsLeft key r → IsLeft key s → r ≡ s
    left_unique key r s h g = let same : h.1.0 ≡ g.1.0 = get_same (body a) _ _ _ h.1.1 g.1.1 in h.1.2 ∙ ap (λ (l : Line). refusal Interaction l.number (further_rule l)) same ∙ sym g.1.2

    abbrev pub PairLast : List ℕ → Refusal → Type 0
    PairLast key r = OwnLast form b key r ⊎ IsLeft key r

    pair_last_key : (key : List ℕ) (r : Refusal) → PairLast key r → IsAtMost (4 ∷ []) key
    pair_last_key key r (inl h) = own_last_key form b key r h
    pair_last_key key r (inr h) = subst (λ z. IsAtMost (4 ∷ []) z) (sym h.0) (inl (omega arith))

    pair_last_unique : (key : List ℕ) (r s : Refusal) → PairLast key r → PairLast key s → r ≡ s
    pair_last_unique key r s (inl h) (inl g) = h.2 ∙ sym g.2
    pair_last_unique key r s (inl h) (inr g) = let f : 4 ∷ [] ≡ 5 ∷ [] = sym h.0 ∙ g.0 in cc f
    pair_last_unique key r s (inr h) (inl g) = let f : 4 ∷ [] ≡ 5 ∷ [] = sym g.0 ∙ h.0 in cc f
    pair_last_unique key r s (inr h) (inr g) = left_unique key r s h g

    open_before_left : (key other : List ℕ) (r s : Refusal) → OwnLast form b key r → IsLeft other s → IsAtMost key other
    open_before_left key other r s h g = subst (λ z. IsAtMost z other) (sym h.0) (subst (λ z. IsAtMost (4 ∷ []) z) (sym g.0) (inl (omega arith)))

    abbrev pub PairListed : List ℕ → Refusal → Type 0
    PairListed key r = AtLine (read form) pair_entries (body b) key r ⊎ AtEnd (read form) PairLast (body b) key r

    abbrev pub PairParts : List ℕ → Refusal → Type 0
    PairParts key r = (AtHeader Interaction 1 (header_fault (codes "icnf") a) key r ⊎ AtHeader Proof 2 (header_fault (rules_of form).name b) key r) ⊎ PairListed key r

    -- a fault with the partners of step k
    with_partner : (k : ℕ) (e : Event) (step : IsEventStep form spelt k e) (n : List ℕ) (r : (line : Line) → Refusal) → ((line : Line) → Contains (match_line (assumed (events_among form (take k spelt))) line.number (Some e) (behind (take k spelt))) (n, r line))
        → (line : Line) → slice_get (body b) k ≡ Some line → PairListed (3 ∷ k ∷ n) (r line)
    with_partner k e step n r m line at =
        let said_there = said_at (read form) (body b) k step.step step.is_step in
        let v : value_of (read form) line ≡ Ok step.step = subst (λ l. value_of (read form) l ≡ Ok step.step) (get_same (body b) k said_there.0 line said_there.1 at) said_there.2 in
        inl (record {
          place = k;
          rest = n;
          line = line;
          is_key = refl;
          within = omega (arith, slice_get_within spelt k step.step step.is_step);
          is_line = at;
          member = subst (λ o. Contains (pair_line (take k spelt) line.number o (behind (take k spelt))) (n, r line)) (sym v)
              (Contains-append_right _ _ (n, r line) (subst (λ o. Contains (match_line (assumed (events_among form (take k spelt))) line.number o (behind (take k spelt))) (n, r line)) (sym step.is_event) (m line)));
        })

    -- a fault with its partner behind n others
    with_nth : (k n : ℕ) (e : Event) (step : IsEventStep form spelt k e) (rest : List ℕ) (r : Refusal) (m : Line) → slice_get (partners form a spelt k e) n ≡ Some m
        → Contains (partner_entries (assumed (events_among form (take k spelt))) e m.number (value_of icnf_line m)) (rest, r) → PairListed (3 ∷ k ∷ 20 ∷ (n + 1) ∷ rest) r
    with_nth k n e step rest r m is h =
        let there_is = said_at (read form) (body b) k step.step step.is_step in
        with_partner k e step (20 ∷ (n + 1) ∷ rest) (λ line. r)
        (λ line. Contains-append_right (missing_entries line.number e (behind (take k spelt))) _ (20 ∷ (n + 1) ∷ rest, r)
        (subst (λ j. Contains (run_entries (assumed (events_among form (take k spelt))) e 0 (partners form a spelt k e)) (20 ∷ j ∷ rest, r)) (omega arith)
        (run_from (assumed (events_among form (take k spelt))) e 0 (partners form a spelt k e) n m rest r is h))) there_is.0 there_is.1

    pub pair_parts : (key : Key) (r : Refusal) → IsFault form a b key r → PairParts (rank key) r
    pair_parts _ _ (faults.interaction_header number rule e) = inl (inl (refl, ((number, rule), e, refl)))
    pair_parts _ _ (faults.own key r f) = elim (own_parts form b key r f) [
      | inl h ↦ inl (inr h)
      | inr (inl g) ↦ inr (inl (record {
        place = g.place;
        rest = g.rest;
        line = g.line;
        is_key = g.is_key;
        within = g.within;
        is_line = g.is_line;
        member = own_in_pair _ g.line.number (value_of (read form) g.line) (behind (take g.place spelt)) (g.rest, r) g.member;
      }))
      | inr (inr g) ↦ inr (inr (record { whole = g.whole; last = inl g.last }))
    ]
    pair_parts _ _ (faults.ended k line e at step owes none) = inr (with_partner k e step (20 ∷ 0 ∷ []) (λ l. refusal Proof l.number rules.Ended)
        (λ l. Contains-append_left (missing_entries l.number e (behind (take k spelt))) _ (20 ∷ 0 ∷ [], refusal Proof l.number rules.Ended)
        (subst (λ ms. Contains (missing_entries l.number e ms) (20 ∷ 0 ∷ [], refusal Proof l.number rules.Ended)) (sym none)
        (rw owes (here (20 ∷ 0 ∷ [], refusal Proof l.number rules.Ended) [])))) line at)
    pair_parts _ _ (faults.partner_broken k n e m rule step is v) = inr (with_nth k n e step (1 ∷ []) (refusal Interaction m.number rule) m is
        (subst (λ o. Contains (partner_entries (assumed (events_among form (take k spelt))) e m.number o) (1 ∷ [], refusal Interaction m.number rule)) (sym v) (here _ [])))
    pair_parts _ _ (faults.pair_rule k n m rule f) = inr (with_nth k n f.event f.is_event_step (rule_number rule ∷ []) (refusal Interaction m.number rule) m f.is_partner
        (subst (λ o. Contains (partner_entries (assumed (events_among form (take k spelt))) f.event m.number o) (rule_number rule ∷ [], refusal Interaction m.number rule)) (sym f.is_said) (keyed_from Interaction m.number _ rule f.breaks)))
    pair_parts _ _ (faults.surplus line whole at) = inr (inr (record { whole = whole; last = inr (refl, (line, at, refl)) }))

    -- a fault of the proof by itself is one of the pair
    own_in : (key : List ℕ) (r : Refusal) → Ranked (IsOwnFault form b) key r → Ranked (IsFault form a b) key r
    own_in key r f = (f.0, f.1, faults.own f.0 r f.2)

    at_partner : (k n : ℕ) (rest : List ℕ) (r : Refusal) (e : Event) → IsEventStep form spelt k e → (m : Line) → slice_get (partners form a spelt k e) n ≡ Some m
        → (o : Result Event Rule) → value_of icnf_line m ≡ o → Contains (partner_entries (assumed (events_among form (take k spelt))) e m.number o) (rest, r)
        → Ranked (IsFault form a b) (3 ∷ k ∷ 20 ∷ (n + 1) ∷ rest) r
    at_partner k n rest r e step m is (Err rule) v h = let only = only_one (1 ∷ [], refusal Interaction m.number rule) (rest, r) h in
        ranked (IsFault form a b) _ (keys.partner_spelling k n) _ _ (ap (λ z. 3 ∷ k ∷ 20 ∷ (n + 1) ∷ z) only.0) only.1 (faults.partner_broken k n e m rule step is v)
    at_partner k n rest r e step m is (Ok f) v h = let rule = keyed_at Interaction m.number _ (rest, r) h in
        ranked (IsFault form a b) _ (keys.pair_rule k n (rule_number rule.0)) _ _ (ap (λ z. 3 ∷ k ∷ 20 ∷ (n + 1) ∷ z) rule.2) rule.3
        (faults.pair_rule k n m rule.0 (record { event = e; is_event_step = step; is_partner = is; said = f; is_said = v; breaks = rule.1 }))

    at_match : (k : ℕ) (key : List ℕ) (r : Refusal) (line : Line) → slice_get (body b) k ≡ Some line → (p : StepOf form) → slice_get spelt k ≡ Some p → (o : Option Event) → (rules_of form).event p ≡ o
        → Contains (match_line (assumed (events_among form (take k spelt))) line.number o (behind (take k spelt))) (key, r) → Ranked (IsFault form a b) (3 ∷ k ∷ key) r
    at_match k key r line at p is None x h = absurd (not_in_nil (key, r) h)
    at_match k key r line at p is (Some e) x h = elim (Contains-append_cases _ _ (key, r) h) [
      | inl missing ↦ let none = missing_at line.number e (behind (take k spelt)) (key, r) missing in
          ranked (IsFault form a b) _ (keys.ended k) _ _ (ap (λ z. 3 ∷ k ∷ z) none.2) none.3
          (faults.ended k line e at (record { step = p; is_step = is; is_event = x }) none.1 none.0)
      | inr run ↦ let nth = run_at (assumed (events_among form (take k spelt))) e 0 (partners form a spelt k e) (key, r) run in
          let key_is : key ≡ 20 ∷ (nth.place + 1) ∷ nth.rest = nth.is_key ∙ ap (λ z. 20 ∷ z ∷ nth.rest) (omega arith) in
          subst (λ z. Ranked (IsFault form a b) (3 ∷ k ∷ z) r) (sym key_is)
          (at_partner k nth.place nth.rest r e (record { step = p; is_step = is; is_event = x }) nth.line nth.is_line (value_of icnf_line nth.line) refl nth.member)
    ]

    pair_at_line : (k : ℕ) (n : List ℕ) (line : Line) (r : Refusal) → k ≤ length spelt → slice_get (body b) k ≡ Some line → (o : Result (StepOf form) Rule) → value_of (read form) line ≡ o
        → Contains (pair_line (take k spelt) line.number o (behind (take k spelt))) (n, r) → Ranked (IsFault form a b) (3 ∷ k ∷ n) r
    pair_at_line k n line r h at (Err rule) v m = own_in _ _ (own_at_line form b k n line r h at (Err rule) v m)
    pair_at_line k n line r h at (Ok p) v m = elim (Contains-append_cases _ _ (n, r) m) [
      | inl left ↦ own_in _ _ (own_at_line form b k n line r h at (Ok p) v left)
      | inr right ↦ at_match k n r line at p (said_next (read form) (body b) k line p h at v) ((rules_of form).event p) refl right
    ]

    pair_from : (key : List ℕ) (r : Refusal) → PairParts key r → Ranked (IsFault form a b) key r
    pair_from key r (inl (inl h)) = ranked (IsFault form a b) _ keys.interaction_header _ _ h.0 h.1.2 (faults.interaction_header h.1.0.0 h.1.0.1 h.1.1)
    pair_from key r (inl (inr h)) = own_in _ _ (own_header_from form b key r h)
    pair_from key r (inr (inl f)) = subst (λ z. Ranked (IsFault form a b) z r) (sym f.is_key) (pair_at_line f.place f.rest f.line r f.within f.is_line (value_of (read form) f.line) refl f.member)
    pair_from key r (inr (inr f)) = elim f.last [
      | inl h ↦ own_in _ _ (own_end_from form b key r f.whole h)
      | inr h ↦ ranked (IsFault form a b) _ keys.further_line _ _ h.0 h.1.2 (faults.surplus h.1.0 f.whole h.1.1)
    ]

    pair_ok : (ps : List (StepOf form)) (line : Line) (more : List Line) (p : StepOf form) → value_of (read form) line ≡ Ok p
        → faults_from (rules_of form) ps (end_line b) (line ∷ more) (behind ps) ≡ map (λ e. e.1) (pair_entries ps line) ++ faults_from (rules_of form) (ps ++ p ∷ []) (end_line b) more (behind (ps ++ p ∷ []))
    unfolding faults_from
    pair_ok ps line more p v =
        let own = keyed Proof line.number ((rules_of form).faults ps p) in
        let matched = match_line (assumed (events_among form ps)) line.number ((rules_of form).event p) (behind ps) in
        let parts : map (λ (e : List ℕ × Refusal). e.1) (own ++ matched)
        ≡ refusals Proof line.number ((rules_of form).faults ps p) ++ step_matches (rules_of form) (assumed (events_among form ps)) line.number ((rules_of form).event p) (behind ps) =
        map-append (λ (e : List ℕ × Refusal). e.1) own matched
        ∙ ap (λ zs. zs ++ map (λ (e : List ℕ × Refusal). e.1) matched) (keyed_refusals Proof line.number ((rules_of form).faults ps p))
        ∙ ap (λ zs. refusals Proof line.number ((rules_of form).faults ps p) ++ zs) (match_refusals (assumed (events_among form ps)) line.number ((rules_of form).event p) (behind ps)) in
        rw v (ap (λ ms. (refusals Proof line.number ((rules_of form).faults ps p) ++ step_matches (rules_of form) (assumed (events_among form ps)) line.number ((rules_of form).event p) (behind ps))
        ++ faults_from (rules_of form) (ps ++ p ∷ []) (end_line b) more ms) (behind-push ps p ((rules_of form).event p) refl)
        ∙ ap (λ zs. zs ++ faults_from (rules_of form) (ps ++ p ∷ []) (end_line b) more (behind (ps ++ p ∷ []))) (sym parts))

    pair_err : (ps : List (StepOf form)) (line : Line) (more : List Line) (rule : Rule) → value_of (read form) line ≡ Err rule
        → faults_from (rules_of form) ps (end_line b) (line ∷ more) (behind ps) ≡ map (λ e. e.1) (pair_entries ps line)
    unfolding faults_from
    pair_err ps line more rule v = rw v refl

    pair_end : (ps : List (StepOf form)) → faults_from (rules_of form) ps (end_line b) [] (behind ps) ≡ unfinished (events_among form ps) (end_line b) ++ surplus (behind ps)
    unfolding faults_from
    pair_end ps = refl

    pair_ascend : (ps : List (StepOf form)) (line : Line) → KeysAscend (pair_entries ps line)
    pair_ascend ps line = keys_of_pair ps line.number (value_of (read form) line) (behind ps)

    first_pair_listed : First PairListed (faults_from (rules_of form) [] (end_line b) (body b) (body a))
    unfolding lines_taken
    first_pair_listed = first_listed (read form) pair_entries (body b) pair_ascend PairLast pair_last_key
        (λ ps rest. faults_from (rules_of form) ps (end_line b) rest (behind ps)) (λ ps. unfinished (events_among form ps) (end_line b) ++ surplus (behind ps)) pair_end pair_ok pair_err
        (first_join (OwnLast form b) IsLeft _ _ open_before_left (first_open form (end_line b) (phase (events_among form spelt))) (first_left (behind spelt) refl))

    pub pair_key : (key : List ℕ) (r : Refusal) → PairListed key r → IsAtMost (3 ∷ []) key
    pair_key = listed_key (read form) pair_entries (body b) pair_ascend PairLast pair_last_key

    abbrev Headers : List ℕ → Refusal → Type 0
    Headers key r = AtHeader Interaction 1 (header_fault (codes "icnf") a) key r ⊎ AtHeader Proof 2 (header_fault (rules_of form).name b) key r

    headers_ordered : (key other : List ℕ) (r s : Refusal) → AtHeader Interaction 1 (header_fault (codes "icnf") a) key r → AtHeader Proof 2 (header_fault (rules_of form).name b) other s → IsAtMost key other
    headers_ordered key other r s h g = subst (λ z. IsAtMost z other) (sym h.0) (subst (λ z. IsAtMost (1 ∷ []) z) (sym g.0) (inl (omega arith)))

    headers_before : (key other : List ℕ) (r s : Refusal) → Headers key r → PairListed other s → IsAtMost key other
    headers_before key other r s (inl h) g = header_before 1 key other (omega arith) h.0 (pair_key other s g)
    headers_before key other r s (inr h) g = header_before 2 key other (omega arith) h.0 (pair_key other s g)

    -- the first of a pair's refusals is its first fault
    pub first_pair : First (Ranked (IsFault form a b)) (pair_refusals (rules_of form) a b)
    unfolding pair_refusals
    first_pair = first_same PairParts (Ranked (IsFault form a b)) _ pair_from (λ key r f. subst (λ z. PairParts z r) f.1 (pair_parts f.0 r f.2))
        (first_join Headers PairListed _ _ headers_before
        (first_join (AtHeader Interaction 1 (header_fault (codes "icnf") a)) (AtHeader Proof 2 (header_fault (rules_of form).name b)) _ _ headers_ordered
        (first_header Interaction 1 (header_fault (codes "icnf") a)) (first_header Proof 2 (header_fault (rules_of form).name b)))
        first_pair_listed)

    -- one fault a key
    pub parts_unique : (key : List ℕ) (r s : Refusal) → PairParts key r → PairParts key s → r ≡ s
    parts_unique key r s (inl (inl h)) (inl (inl g)) = header_unique Interaction 1 (header_fault (codes "icnf") a) key r s h g
    parts_unique key r s (inl (inl h)) (inl (inr g)) = let f : 1 ∷ [] ≡ 2 ∷ [] = sym h.0 ∙ g.0 in cc f
    parts_unique key r s (inl (inr h)) (inl (inl g)) = let f : 1 ∷ [] ≡ 2 ∷ [] = sym g.0 ∙ h.0 in cc f
    parts_unique key r s (inl (inr h)) (inl (inr g)) = header_unique Proof 2 (header_fault (rules_of form).name b) key r s h g
    parts_unique key r s (inl (inl h)) (inr g) = absurd (not_header 1 key (omega arith) h.0 (pair_key key s g))
    parts_unique key r s (inl (inr h)) (inr g) = absurd (not_header 2 key (omega arith) h.0 (pair_key key s g))
    parts_unique key r s (inr h) (inl (inl g)) = absurd (not_header 1 key (omega arith) g.0 (pair_key key r h))
    parts_unique key r s (inr h) (inl (inr g)) = absurd (not_header 2 key (omega arith) g.0 (pair_key key r h))
    parts_unique key r s (inr h) (inr g) = listed_unique (read form) pair_entries (body b) pair_ascend PairLast pair_last_key pair_last_unique key r s h g
