-- The first of a proof's own refusals is its own fault with the least key.
use Rattle.std.proofs.Common.{◌≡◌, ℕ, ◌<◌, ◌≤◌, ◌⊎◌, List, [], ◌∷◌, ◌++◌, length, map, take, Contains, slice_get, Option, Some, None, Result, Ok, Err, refl, sym, ◌∙◌, ap, subst, inl, inr, arith}
use Rattle.std.proofs.lemmas.Option.{slice_get_within}
use Rattle.lits.proofs.Members.{here, there, not_in_nil, here_or_there}
use Rattle.session_rules.specs.declared.Form.{Form}
use Rattle.session_rules.specs.declared.Side.{Side}
use Rattle.session_rules.specs.declared.Side.TheVariants.{Proof}
use Rattle.session_rules.specs.declared.Phase.{Phase}
use Rattle.session_rules.specs.declared.Phase.TheVariants.{Idle, Asked, Told}
use Rattle.session_rules.specs.declared.Rule.{Rule}
use Rattle.session_rules.specs.declared.Rule.TheVariants as rules
use Rattle.session_rules.specs.Lines.{Line, end_line}
use Rattle.session_rules.specs.Reading.{Fault, value_of, header_fault}
use Rattle.session_rules.specs.Numbers.{rule_number}
use Rattle.session_rules.specs.History.{phase, broken_unless}
use Rattle.session_rules.specs.Pair.{Refusal, refusal, refusals, is_idle, unfinished, one_refusal, own_faults_from, own_refusals}
use Rattle.session_rules.specs.Verdicts.{StepOf, rules_of, body, events_among, IsOwnFault}
use Rattle.session_rules.specs.Keys.{Key, rank, IsAtMost}
use Rattle.session_rules.specs.Keys as keys
use Rattle.session_rules.specs.Verdicts as faults
use Rattle.session_rules.proofs.Positions.{get_same, said, said_at, said_stops, said_next}
use Rattle.session_rules.proofs.Ascending.{Ascends, above_low, before_first, KeysAscend}
use Rattle.session_rules.proofs.Listed.{Ranked, ranked, First, first_same, first_join, AtLine, AtEnd, listed_key, first_listed}
use Rattle.session_rules.proofs.RuleNumbers.{own_ascends}

-- ---- The rules of one line as faults with their keys

abbrev pub keyed : Side → ℕ → List Rule → List (List ℕ × Refusal)
keyed side number rs = map (λ rule. (rule_number rule ∷ [], refusal side number rule)) rs

pub keyed_refusals : (side : Side) (number : ℕ) (rs : List Rule) → map (λ (e : List ℕ × Refusal). e.1) (keyed side number rs) ≡ refusals side number rs
keyed_refusals side number [] = refl
keyed_refusals side number (r ∷ rs) = ap (λ z. refusal side number r ∷ z) (keyed_refusals side number rs)

pub keyed_at : (side : Side) (number : ℕ) (rs : List Rule) (e : List ℕ × Refusal) → Contains (keyed side number rs) e
    → (rule : Rule) × Contains rs rule × (e.0 ≡ rule_number rule ∷ []) × (e.1 ≡ refusal side number rule)
keyed_at side number [] e m = absurd (not_in_nil e m)
keyed_at side number (x ∷ xs) e m = elim (here_or_there (rule_number x ∷ [], refusal side number x) e (keyed side number xs) m) [
  | inl is ↦ (x, here x xs, ap (λ (z : List ℕ × Refusal). z.0) (sym is), ap (λ (z : List ℕ × Refusal). z.1) (sym is))
  | inr later ↦ let f = keyed_at side number xs e later in (f.0, there x f.0 xs f.1, f.2, f.3)
]

pub keyed_from : (side : Side) (number : ℕ) (rs : List Rule) (rule : Rule) → Contains rs rule → Contains (keyed side number rs) (rule_number rule ∷ [], refusal side number rule)
keyed_from side number [] rule m = absurd (not_in_nil rule m)
keyed_from side number (x ∷ xs) rule m = elim (here_or_there x rule xs m) [
  | inl is ↦ subst (λ z. Contains (keyed side number (x ∷ xs)) (rule_number z ∷ [], refusal side number z)) is (here (rule_number x ∷ [], refusal side number x) (keyed side number xs))
  | inr later ↦ there (rule_number x ∷ [], refusal side number x) (rule_number rule ∷ [], refusal side number rule) (keyed side number xs) (keyed_from side number xs rule later)
]

-- rules in the order of their numbers have ascending keys
pub keys_of_rules : (side : Side) (number low high : ℕ) (rs : List Rule) → Ascends rule_number low rs high → KeysAscend (keyed side number rs)
unfolding Ascends KeysAscend
keys_of_rules side number low high [] h = tt
keys_of_rules side number low high (r ∷ rs) h = (
  λ e m. let at = keyed_at side number rs e m in before_first (rule_number r) (rule_number at.0) [] [] _ e.0 (above_low rule_number (rule_number r) high rs at.0 h.1 at.1) refl at.2,
  keys_of_rules side number (rule_number r) high rs h.1,
)

-- a list of one fault
pub only_one : (e f : List ℕ × Refusal) → Contains (e ∷ []) f → (f.0 ≡ e.0) × (f.1 ≡ e.1)
only_one e f m = elim (here_or_there e f [] m) [
  | inl is ↦ (ap (λ (z : List ℕ × Refusal). z.0) (sym is), ap (λ (z : List ℕ × Refusal). z.1) (sym is))
  | inr none ↦ absurd (not_in_nil f none)
]

pub keys_of_none : KeysAscend []
unfolding KeysAscend
keys_of_none = tt

pub keys_of_one : (e : List ℕ × Refusal) → KeysAscend (e ∷ [])
unfolding KeysAscend
keys_of_one e = (λ f m. absurd (not_in_nil f m), tt)

-- ---- The headers

abbrev pub AtHeader : Side → ℕ → Option (ℕ × Rule) → List ℕ → Refusal → Type 0
AtHeader side n o key r = (key ≡ n ∷ []) × ((fault : ℕ × Rule) × (o ≡ Some fault) × (r ≡ refusal side fault.0 fault.1))

pub first_header : (side : Side) (n : ℕ) (o : Option (ℕ × Rule)) → First (AtHeader side n o) (one_refusal side o)
first_header side n None = λ key r h. let f : None ≡ Some h.1.0 = h.1.1 in cc f
first_header side n (Some f) = record { key = n ∷ []; is_fault = (refl, (f, refl, refl)); is_least = λ other s h. subst (λ z. IsAtMost (n ∷ []) z) (sym h.0) (inr (refl, tt)) }

pub header_unique : (side : Side) (n : ℕ) (o : Option (ℕ × Rule)) (key : List ℕ) (r s : Refusal) → AtHeader side n o key r → AtHeader side n o key s → r ≡ s
header_unique side n o key r s h g = let same : h.1.0 ≡ g.1.0 = cc (h.1.1, g.1.1) in h.1.2 ∙ ap (λ (f : ℕ × Rule). refusal side f.0 f.1) same ∙ sym g.1.2

-- a header's fault comes before the lines
pub header_before : (n : ℕ) (key other : List ℕ) → n < 3 → key ≡ n ∷ [] → IsAtMost (3 ∷ []) other → IsAtMost key other
header_before n key [] l e h = absurd h
header_before n key (m ∷ ms) l e h = subst (λ z. IsAtMost z (m ∷ ms)) (sym e) (inl (elim h [ inl lt ↦ omega (arith, lt) | inr same ↦ omega (arith, same.0) ]))

pub not_header : (n : ℕ) (key : List ℕ) → n < 3 → key ≡ n ∷ [] → IsAtMost (3 ∷ []) key → ⊥
not_header n key l e h = elim (subst (λ z. IsAtMost (3 ∷ []) z) e h) [ inl lt ↦ omega (arith, lt) | inr same ↦ omega (arith, same.0) ]

-- ---- A proof by itself

module _ (form : Form) where
  abbrev pub read : List (List ℕ) → Result (StepOf form) Fault
  read = (rules_of form).read

  -- what a line breaks by itself
  abbrev pub own_line : List (StepOf form) → ℕ → Result (StepOf form) Rule → List (List ℕ × Refusal)
  own_line ps number (Err rule) = (1 ∷ [], refusal Proof number rule) ∷ []
  own_line ps number (Ok p) = keyed Proof number ((rules_of form).faults ps p)

  abbrev pub own_entries : List (StepOf form) → Line → List (List ℕ × Refusal)
  own_entries ps line = own_line ps line.number (value_of read line)

  pub keys_of_own : (ps : List (StepOf form)) (number : ℕ) (o : Result (StepOf form) Rule) → KeysAscend (own_line ps number o)
  keys_of_own ps number (Err rule) = keys_of_one _
  keys_of_own ps number (Ok p) = keys_of_rules Proof number 8 19 _ (own_ascends form ps p)

  -- a query is open at the end of these steps
  abbrev pub IsOpen : ℕ → Phase → List ℕ → Refusal → Type 0
  IsOpen end p key r = (key ≡ 4 ∷ []) × (p ≡ Idle → ⊥) × (r ≡ refusal Proof end rules.Unfinished)

  pub first_open : (end : ℕ) (p : Phase) → First (IsOpen end p) (refusals Proof end (broken_unless (is_idle p) rules.Unfinished))
  first_open end Idle = λ key r h. h.1 refl
  first_open end Asked = record { key = 4 ∷ []; is_fault = (refl, (λ e. cc e), refl); is_least = λ other s h. subst (λ z. IsAtMost (4 ∷ []) z) (sym h.0) (inr (refl, tt)) }
  first_open end (Told w) = record { key = 4 ∷ []; is_fault = (refl, (λ e. cc e), refl); is_least = λ other s h. subst (λ z. IsAtMost (4 ∷ []) z) (sym h.0) (inr (refl, tt)) }

  module _ (b : List ℕ) where
    abbrev pub known : List (StepOf form)
    known = said read (body b)

    abbrev pub OwnLast : List ℕ → Refusal → Type 0
    OwnLast = IsOpen (end_line b) (phase (events_among form known))

    abbrev pub OwnParts : List ℕ → Refusal → Type 0
    OwnParts key r = AtHeader Proof 2 (header_fault (rules_of form).name b) key r ⊎ (AtLine read own_entries (body b) key r ⊎ AtEnd read OwnLast (body b) key r)

    pub own_parts : (key : Key) (r : Refusal) → IsOwnFault form b key r → OwnParts (rank key) r
    own_parts _ _ (faults.header number rule e) = inl (refl, ((number, rule), e, refl))
    own_parts _ _ (faults.broken_line k line rule at stops v) = inr (inl (record {
      place = k;
      rest = 1 ∷ [];
      line = line;
      is_key = refl;
      within = omega (arith, stops);
      is_line = at;
      member = subst (λ o. Contains (own_line (take k known) line.number o) (1 ∷ [], refusal Proof line.number rule)) (sym v) (here _ []);
    }))
    own_parts _ _ (faults.own_rule k line rule at f) =
        let said_there = said_at read (body b) k f.step f.is_step in
        let v : value_of read line ≡ Ok f.step = subst (λ l. value_of read l ≡ Ok f.step) (get_same (body b) k said_there.0 line said_there.1 at) said_there.2 in
        inr (inl (record {
          place = k;
          rest = rule_number rule ∷ [];
          line = line;
          is_key = refl;
          within = omega (arith, slice_get_within known k f.step f.is_step);
          is_line = at;
          member = subst (λ o. Contains (own_line (take k known) line.number o) (rule_number rule ∷ [], refusal Proof line.number rule)) (sym v) (keyed_from Proof line.number _ rule f.breaks);
        }))
    own_parts _ _ (faults.unfinished whole busy) = inr (inr (record { whole = whole; last = (refl, busy, refl) }))

    pub own_at_line : (k : ℕ) (key : List ℕ) (line : Line) (r : Refusal) → k ≤ length known → slice_get (body b) k ≡ Some line → (o : Result (StepOf form) Rule) → value_of read line ≡ o
        → Contains (own_line (take k known) line.number o) (key, r) → Ranked (IsOwnFault form b) (3 ∷ k ∷ key) r
    own_at_line k key line r h at (Err rule) v m = let is = only_one (1 ∷ [], refusal Proof line.number rule) (key, r) m in
        ranked (IsOwnFault form b) _ (keys.line_spelling k) _ _ (ap (λ z. 3 ∷ k ∷ z) is.0) is.1 (faults.broken_line k line rule at (said_stops read (body b) k line rule h at v) v)
    own_at_line k key line r h at (Ok p) v m = let is = keyed_at Proof line.number _ (key, r) m in
        ranked (IsOwnFault form b) _ (keys.own_rule k (rule_number is.0)) _ _ (ap (λ z. 3 ∷ k ∷ z) is.2) is.3 (faults.own_rule k line is.0 at (record { step = p; is_step = said_next read (body b) k line p h at v; breaks = is.1 }))

    pub own_header_from : (key : List ℕ) (r : Refusal) → AtHeader Proof 2 (header_fault (rules_of form).name b) key r → Ranked (IsOwnFault form b) key r
    own_header_from key r h = ranked (IsOwnFault form b) _ keys.proof_header _ _ h.0 h.1.2 (faults.header h.1.0.0 h.1.0.1 h.1.1)

    pub own_end_from : (key : List ℕ) (r : Refusal) → length known ≡ length (body b) → OwnLast key r → Ranked (IsOwnFault form b) key r
    own_end_from key r whole h = ranked (IsOwnFault form b) _ keys.open_query _ _ h.0 h.2 (faults.unfinished whole h.1)

    own_from : (key : List ℕ) (r : Refusal) → OwnParts key r → Ranked (IsOwnFault form b) key r
    own_from key r (inl h) = own_header_from key r h
    own_from key r (inr (inl f)) = subst (λ z. Ranked (IsOwnFault form b) z r) (sym f.is_key) (own_at_line f.place f.rest f.line r f.within f.is_line (value_of read f.line) refl f.member)
    own_from key r (inr (inr f)) = own_end_from key r f.whole f.last

    own_ok : (ps : List (StepOf form)) (line : Line) (more : List Line) (p : StepOf form) → value_of read line ≡ Ok p
        → own_faults_from (rules_of form) ps (end_line b) (line ∷ more) ≡ map (λ e. e.1) (own_entries ps line) ++ own_faults_from (rules_of form) (ps ++ p ∷ []) (end_line b) more
    unfolding own_faults_from
    own_ok ps line more p v = rw v (ap (λ z. z ++ own_faults_from (rules_of form) (ps ++ p ∷ []) (end_line b) more) (sym (keyed_refusals Proof line.number _)))

    own_err : (ps : List (StepOf form)) (line : Line) (more : List Line) (rule : Rule) → value_of read line ≡ Err rule
        → own_faults_from (rules_of form) ps (end_line b) (line ∷ more) ≡ map (λ e. e.1) (own_entries ps line)
    unfolding own_faults_from
    own_err ps line more rule v = rw v refl

    own_end : (ps : List (StepOf form)) → own_faults_from (rules_of form) ps (end_line b) [] ≡ unfinished (events_among form ps) (end_line b)
    unfolding own_faults_from
    own_end ps = refl

    own_ascend : (ps : List (StepOf form)) (line : Line) → KeysAscend (own_entries ps line)
    own_ascend ps line = keys_of_own ps line.number (value_of read line)

    pub own_last_key : (key : List ℕ) (r : Refusal) → OwnLast key r → IsAtMost (4 ∷ []) key
    own_last_key key r h = subst (λ z. IsAtMost (4 ∷ []) z) (sym h.0) (inr (refl, tt))

    first_own_listed : First (λ key r. AtLine read own_entries (body b) key r ⊎ AtEnd read OwnLast (body b) key r) (own_faults_from (rules_of form) [] (end_line b) (body b))
    first_own_listed = first_listed read own_entries (body b) own_ascend OwnLast own_last_key
        (λ ps rest. own_faults_from (rules_of form) ps (end_line b) rest) (λ ps. unfinished (events_among form ps) (end_line b)) own_end own_ok own_err
        (first_open (end_line b) (phase (events_among form known)))

    -- the first of a proof's own refusals is its first own fault
    pub first_own : First (Ranked (IsOwnFault form b)) (own_refusals (rules_of form) b)
    unfolding own_refusals
    first_own = first_same OwnParts (Ranked (IsOwnFault form b)) _ own_from (λ key r f. subst (λ z. OwnParts z r) f.1 (own_parts f.0 r f.2))
        (first_join (AtHeader Proof 2 (header_fault (rules_of form).name b)) _ _ _
        (λ key other r s h g. header_before 2 key other (omega arith) h.0 (listed_key read own_entries (body b) own_ascend OwnLast own_last_key other s g))
        (first_header Proof 2 (header_fault (rules_of form).name b)) first_own_listed)
