-- A refusal names a line that is there, and what stands before it keeps its rules.
use Rattle.std.proofs.Common.{◌≡◌, ℕ, zero, suc, ◌+◌, ◌<◌, ◌≤◌, Bool, List, [], ◌∷◌, length, take, drop, filter, Contains, slice_get, Option, Some, None, codes, refl, sym, ap, subst, inl, inr, arith}
use Rattle.std.proofs.lemmas.Bool.{cases_lt, cases_Bool}
use Rattle.std.proofs.lemmas.Option.{slice_get_within, get_or_from_slice_get}
use Rattle.lits.proofs.Members.{here, there}
use Rattle.session_rules.specs.declared.Form.{Form}
use Rattle.session_rules.specs.declared.Side.{Side}
use Rattle.session_rules.specs.declared.Side.TheVariants.{Interaction, Proof}
use Rattle.session_rules.specs.declared.Event.{Event}
use Rattle.session_rules.specs.declared.Rule.{Rule}
use Rattle.session_rules.specs.declared.Rule.TheVariants as rules
use Rattle.session_rules.specs.declared.Verdict.TheVariants.{Refused}
use Rattle.session_rules.specs.Lines.{Line, lines, lines_within, all_lines, numbered, end_line, counts}
use Rattle.session_rules.specs.Reading.{broken, header_line, with_number, first_fault, header_fault}
use Rattle.session_rules.specs.Numbers.{rule_number}
use Rattle.session_rules.specs.Pair.{partner_count, Refusal, refusal, verdict}
use Rattle.session_rules.specs.Verdicts.{StepOf, rules_of, body, steps_in, events_among, OwnFault, IsOwnFault, lines_taken, partners, IsFault, IsFirst, IsVerdict}
use Rattle.session_rules.specs.Keys.{Key, rank, IsAtMost}
use Rattle.session_rules.specs.Verdicts as faults
use Rattle.session_rules.proofs.Positions.{said_at}
use Rattle.session_rules.proofs.Ascending.{Ascends, ascends_weaken, above_low}
use Rattle.session_rules.proofs.RuleNumbers.{own_rule_number}
use Rattle.session_rules.proofs.LeastFault.{verdict_least, keeps_from_none}
use Rattle.session_laws.specs.Refusals.{file_of, IsLineOf, KeepsItsRules, KeepRules, ProofRefused, InteractionRefused}

-- ---- The numbers of lines ascend

abbrev number_of : Line → ℕ
number_of line = line.number

numbered_ascend : (low number : ℕ) (cut : Bool) (texts : List (List ℕ)) → low < number → Ascends number_of low (numbered number cut texts) (number + length texts)
unfolding Ascends numbered
numbered_ascend low number cut [] h = omega (arith, h)
numbered_ascend low number cut (text ∷ texts) h =
    (h, subst (λ n. Ascends number_of number (numbered (number + 1) cut texts) n) (omega arith) (numbered_ascend number (number + 1) cut texts (omega arith)))

filter_ascends : (low high : ℕ) (p : Line → Bool) (ls : List Line) → Ascends number_of low ls high → Ascends number_of low (filter p ls) high
unfolding Ascends
filter_ascends low high p [] h = h
filter_ascends low high p (l ∷ ls) h = elim (cases_Bool (p l)) [
  | inl q ↦ rw q (h.0, filter_ascends l.number high p ls h.1)
  | inr q ↦ rw q (ascends_weaken number_of low l.number high (filter p ls) (omega (arith, h.0)) (filter_ascends l.number high p ls h.1))
]

drop_ascends : (low high : ℕ) (ls : List Line) → Ascends number_of low ls high → Ascends number_of low (drop 1 ls) high
unfolding Ascends
drop_ascends low high [] h = h
drop_ascends low high (l ∷ ls) h = ascends_weaken number_of low l.number high ls (omega (arith, h.0)) h.1

body_ascends : (b : List ℕ) → (high : ℕ) × Ascends number_of 0 (body b) high
unfolding lines lines_within all_lines
body_ascends b = (_, drop_ascends 0 _ _ (filter_ascends 0 _ counts _ (numbered_ascend 0 1 _ _ (omega arith))))

-- a line with a lesser number stands before
before_by_number : (low high : ℕ) (ls : List Line) (i j : ℕ) (l m : Line) → Ascends number_of low ls high → slice_get ls i ≡ Some l → slice_get ls j ≡ Some m → l.number < m.number → i < j
unfolding Ascends
before_by_number low high [] i j l m h e f lt = cc e
before_by_number low high (x ∷ xs) i zero l m h e f lt = let same : x ≡ m = cc f in absurd (first_least i e (subst (λ (z : Line). l.number < z.number) (sym same) lt))
  where
    first_least : (i : ℕ) → slice_get (x ∷ xs) i ≡ Some l → l.number < x.number → ⊥
    first_least zero e lt = let also : x ≡ l = cc e in let same : x.number ≡ l.number = ap (λ (z : Line). z.number) also in omega (arith, lt, same)
    first_least (suc i) e lt = omega (arith, lt, above_low number_of x.number high xs l h.1 (i, slice_get_within xs i l e, get_or_from_slice_get xs i l l e))
before_by_number low high (x ∷ xs) zero (suc j) l m h e f lt = omega arith
before_by_number low high (x ∷ xs) (suc i) (suc j) l m h e f lt = omega (arith, before_by_number x.number high xs i j l m h.1 e f lt)

body_before : (b : List ℕ) (i j : ℕ) (l m : Line) → slice_get (body b) i ≡ Some l → slice_get (body b) j ≡ Some m → l.number < m.number → i < j
body_before b i j l m e f lt = let h = body_ascends b in before_by_number 0 h.0 (body b) i j l m h.1 e f lt

-- ---- The named line is there

line_in : (ls : List Line) (k : ℕ) (l : Line) → slice_get (drop 1 ls) k ≡ Some l → Contains ls l
line_in [] k l e = cc e
line_in (x ∷ xs) k l e = there x l xs (k, slice_get_within xs k l e, get_or_from_slice_get xs k l l e)

line_of_body : (bytes : List ℕ) (k : ℕ) (l : Line) → slice_get (body bytes) k ≡ Some l → IsLineOf bytes l.number
line_of_body bytes k l e = inl (l, line_in (lines bytes) k l e, refl)

-- a partner is one of the lines that are left
line_of_partner : (form : Form) (a : List ℕ) (ps : List (StepOf form)) (k n : ℕ) (e : Event) (l : Line) → slice_get (partners form a ps k e) n ≡ Some l → IsLineOf a l.number
line_of_partner form a ps k n e l is =
    let taken = lines_taken (events_among form (take k ps)) (body a) in
    line_of_body a (taken + n) l (get_behind (body a) taken n l (get_taken (drop taken (body a)) (partner_count e (drop taken (body a))) n l is))
  where
    get_taken : (ls : List Line) (count n : ℕ) (l : Line) → slice_get (take count ls) n ≡ Some l → slice_get ls n ≡ Some l
    get_taken ls zero n l e = cc e
    get_taken [] (suc count) n l e = cc e
    get_taken (x ∷ xs) (suc count) zero l e = e
    get_taken (x ∷ xs) (suc count) (suc n) l e = get_taken xs count n l e

    get_behind : (ls : List Line) (count n : ℕ) (l : Line) → slice_get (drop count ls) n ≡ Some l → slice_get ls (count + n) ≡ Some l
    get_behind ls zero n l e = let sum : n ≡ zero + n = omega arith in subst (λ k. slice_get ls k ≡ Some l) sum e
    get_behind [] (suc count) n l e = cc e
    get_behind (x ∷ xs) (suc count) n l e = let sum : suc (count + n) ≡ suc count + n = omega arith in subst (λ k. slice_get (x ∷ xs) k ≡ Some l) sum (get_behind xs count n l e)

line_of_header : (name bytes : List ℕ) (number : ℕ) (rule : Rule) → header_fault name bytes ≡ Some (number, rule) → IsLineOf bytes number
unfolding header_fault
line_of_header name bytes number rule e = by_lines (lines bytes) (λ l m. m) e
  where
    by_rule : (o : Option Rule) (n : ℕ) → with_number n o ≡ Some (number, rule) → n ≡ number
    by_rule None n f = cc f
    by_rule (Some r) n f = let g : (n, r) ≡ (number, rule) = cc f in ap (λ (z : ℕ × Rule). z.0) g

    by_lines : (ls : List Line) → ((l : Line) → Contains ls l → Contains (lines bytes) l) → first_fault name (end_line bytes) ls ≡ Some (number, rule) → IsLineOf bytes number
    by_lines [] member f = let g : (end_line bytes, rules.Header) ≡ (number, rule) = cc f in inr (sym (ap (λ (z : ℕ × Rule). z.0) g))
    by_lines (l ∷ ls) member f = inl (l, member l (here l ls), by_rule (broken (header_line name) l) l.number f)

own_line_is_there : (form : Form) (a b : List ℕ) (key : Key) (r : Refusal) → IsOwnFault form b key r → IsLineOf (file_of r.side a b) r.line
own_line_is_there form a b _ _ (faults.header number rule e) = line_of_header (rules_of form).name b number rule e
own_line_is_there form a b _ _ (faults.broken_line k line rule at stops v) = line_of_body b k line at
own_line_is_there form a b _ _ (faults.own_rule k line rule at f) = line_of_body b k line at
own_line_is_there form a b _ _ (faults.unfinished whole busy) = inr refl

line_is_there : (form : Form) (a b : List ℕ) (key : Key) (r : Refusal) → IsFault form a b key r → IsLineOf (file_of r.side a b) r.line
line_is_there form a b _ _ (faults.interaction_header number rule e) = line_of_header (codes "icnf") a number rule e
line_is_there form a b _ _ (faults.own key r f) = own_line_is_there form a b key r f
line_is_there form a b _ _ (faults.ended k line e at step owes none) = line_of_body b k line at
line_is_there form a b _ _ (faults.partner_broken k n e m rule step is v) = line_of_partner form a (steps_in form b) k n e m is
line_is_there form a b _ _ (faults.pair_rule k n m rule f) = line_of_partner form a (steps_in form b) k n f.event m f.is_partner
line_is_there form a b _ _ (faults.surplus line whole at) = line_of_body a _ line at

-- ---- What stands before it keeps its rules

module _ (form : Form) (a b : List ℕ) where
  abbrev IsLeast : List ℕ → Type 0
  IsLeast ns = (other : Key) (s : Refusal) → IsFault form a b other s → IsAtMost ns (rank other)

  header_kept : (n : ℕ) (key : List ℕ) → 2 < n → IsLeast (n ∷ key) → header_fault (rules_of form).name b ≡ None
  header_kept n key h least = by_header (header_fault (rules_of form).name b) refl
    where
      by_header : (o : Option (ℕ × Rule)) → header_fault (rules_of form).name b ≡ o → header_fault (rules_of form).name b ≡ None
      by_header None e = e
      by_header (Some f) e = absurd (elim (least _ _ (faults.own _ _ (faults.header f.0 f.1 e))) [ inl lt ↦ omega (arith, h, lt) | inr same ↦ omega (arith, h, same.0) ])

  -- a step whose own faults would come before the key has none
  step_keeps : (k : ℕ) (key : List ℕ) → IsLeast key → ((n : ℕ) → n ≤ 19 → IsAtMost key (3 ∷ k ∷ n ∷ []) → ⊥) → (rule : Rule) → OwnFault form (steps_in form b) k rule → ⊥
  step_keeps k key least later rule f =
      let line = said_at (rules_of form).read (body b) k f.step f.is_step in
      later (rule_number rule) (own_rule_number form _ f.step rule f.breaks) (least _ _ (faults.own _ _ (faults.own_rule k line.0 rule line.1 f)))

  later_step : (j k n m : ℕ) (rest : List ℕ) → j < k → IsAtMost (3 ∷ k ∷ n ∷ rest) (3 ∷ j ∷ m ∷ []) → ⊥
  later_step j k n m rest h g = elim g [ inl lt ↦ omega (arith, lt) | inr e ↦ elim e.1 [ inl lt ↦ omega (arith, h, lt) | inr same ↦ omega (arith, h, same.0) ] ]

  partner_later : (k n m : ℕ) (rest : List ℕ) → m < n → IsAtMost (3 ∷ k ∷ n ∷ rest) (3 ∷ k ∷ m ∷ []) → ⊥
  partner_later k n m rest h g = elim g [
    | inl lt ↦ omega (arith, lt)
    | inr e ↦ elim e.1 [
      | inl lt ↦ omega (arith, lt)
      | inr same ↦ elim same.1 [ inl lt ↦ omega (arith, h, lt) | inr also ↦ omega (arith, h, also.0) ]
    ]
  ]

  end_later : (j n m : ℕ) (key : List ℕ) → 3 < n → IsAtMost (n ∷ key) (3 ∷ j ∷ m ∷ []) → ⊥
  end_later j n m key h g = elim g [ inl lt ↦ omega (arith, h, lt) | inr same ↦ omega (arith, h, same.0) ]

  -- the proof's lines before line k keep their rules where the least key is that of a line k
  lines_before : (k n : ℕ) (rest : List ℕ) → IsLeast (3 ∷ k ∷ n ∷ rest) → k ≤ length (steps_in form b) → (j : ℕ) → j < k → KeepsItsRules form b j
  lines_before k n rest least h j lt = record { says_step = omega (arith, h, lt); keeps = step_keeps j (3 ∷ k ∷ n ∷ rest) least (λ m most. later_step j k n m rest lt) }

  before_line : (k n : ℕ) (rest : List ℕ) (line : Line) → IsLeast (3 ∷ k ∷ n ∷ rest) → k ≤ length (steps_in form b) → slice_get (body b) k ≡ Some line → KeepRules form b (λ j l. l.number < line.number)
  before_line k n rest line least h at = record {
    header_spells = header_kept 3 (k ∷ n ∷ rest) (omega arith) least;
    lines_keep = λ j l is lt. lines_before k n rest least h j (body_before b j k l line is at lt);
  }

  up_to_partner : (k : ℕ) (rest : List ℕ) → IsLeast (3 ∷ k ∷ 20 ∷ rest) → k < length (steps_in form b) → KeepRules form b (λ j l. j ≤ k)
  up_to_partner k rest least h = record {
    header_spells = header_kept 3 (k ∷ 20 ∷ rest) (omega arith) least;
    lines_keep = λ j l is le. elim (cases_lt j k) [
      | inl lt ↦ lines_before k 20 rest least (omega (arith, h)) j lt
      | inr ge ↦ record {
        says_step = omega (arith, h, le);
        keeps = step_keeps j (3 ∷ k ∷ 20 ∷ rest) least (λ m most g. partner_later k 20 m rest (omega (arith, most)) (subst (λ z. IsAtMost (3 ∷ k ∷ 20 ∷ rest) (3 ∷ z ∷ m ∷ [])) (omega (arith, le, ge)) g));
      }
    ];
  }

  whole_proof : (n : ℕ) → 3 < n → IsLeast (n ∷ []) → length (steps_in form b) ≡ length (body b) → (AreThese : ℕ → Line → Type 0) → KeepRules form b AreThese
  whole_proof n h least whole AreThese = record {
    header_spells = header_kept n [] (omega (arith, h)) least;
    lines_keep = λ j l is these. record {
      says_step = omega (arith, slice_get_within (body b) j l is, whole);
      keeps = step_keeps j (n ∷ []) least (λ m most. end_later j n m [] h);
    };
  }

  -- no own fault has the key of a further line or a later one
  own_earlier : (key : Key) (r : Refusal) → IsOwnFault form b key r → IsAtMost (5 ∷ []) (rank key) → ⊥
  own_earlier _ _ (faults.header number rule e) g = elim g [ inl lt ↦ omega (arith, lt) | inr same ↦ omega (arith, same.0) ]
  own_earlier _ _ (faults.broken_line k line rule at stops v) g = elim g [ inl lt ↦ omega (arith, lt) | inr same ↦ omega (arith, same.0) ]
  own_earlier _ _ (faults.own_rule k line rule at f) g = elim g [ inl lt ↦ omega (arith, lt) | inr same ↦ omega (arith, same.0) ]
  own_earlier _ _ (faults.unfinished whole busy) g = elim g [ inl lt ↦ omega (arith, lt) | inr same ↦ omega (arith, same.0) ]

  -- what a refusal says, by the side
  abbrev Says : Side → ℕ → Rule → Type 0
  Says Proof number rule = ProofRefused form b number rule
  Says Interaction number rule = InteractionRefused form a b number rule

  own_says : (key : Key) (r : Refusal) → IsOwnFault form b key r → IsLeast (rank key) → Says r.side r.line r.rule
  own_says _ _ (faults.header number rule e) least = inl e
  own_says _ _ (faults.broken_line k line rule at stops v) least = inr (before_line k 1 [] line least (omega (arith, stops)) at)
  own_says _ _ (faults.own_rule k line rule at f) least = inr (before_line k (rule_number rule) [] line least (omega (arith, slice_get_within (steps_in form b) k f.step f.is_step)) at)
  own_says _ _ (faults.unfinished whole busy) least = inr (whole_proof 4 (omega arith) least whole _)

  says : (key : Key) (r : Refusal) → IsFault form a b key r → IsLeast (rank key) → Says r.side r.line r.rule
  says _ _ (faults.interaction_header number rule e) least = inl e
  says _ _ (faults.own key r f) least = own_says key r f least
  says _ _ (faults.ended k line e at step owes none) least = inr (before_line k 20 (0 ∷ []) line least (omega (arith, slice_get_within (steps_in form b) k step.step step.is_step)) at)
  says _ _ (faults.partner_broken k n e m rule step is v) least = inr (inl (record {
    place = k;
    event = e;
    is_event_step = step;
    earlier = n;
    line = m;
    is_partner = is;
    is_number = refl;
    breaks = inl v;
    proof_keeps = up_to_partner k ((n + 1) ∷ 1 ∷ []) least (slice_get_within (steps_in form b) k step.step step.is_step);
  }))
  says _ _ (faults.pair_rule k n m rule f) least = inr (inl (record {
    place = k;
    event = f.event;
    is_event_step = f.is_event_step;
    earlier = n;
    line = m;
    is_partner = f.is_partner;
    is_number = refl;
    breaks = inr f;
    proof_keeps = up_to_partner k ((n + 1) ∷ rule_number rule ∷ []) least (slice_get_within (steps_in form b) k f.is_event_step.step f.is_event_step.is_step);
  }))
  says _ _ (faults.surplus line whole at) least = inr (inr (record {
    line = line;
    is_left = at;
    is_number = refl;
    is_rule = refl;
    all_say = whole;
    proof_keeps = keeps_from_none form b (λ key r f. own_earlier key r f (least key r (faults.own key r f)));
  }))

  pub refused_line : (side : Side) (number : ℕ) (rule : Rule) → verdict form a b ≡ Refused side number rule → IsFirst (IsFault form a b) (refusal side number rule)
  refused_line side number rule e = subst (λ v. IsVerdict form a b v) e (verdict_least form a b)

  pub refused_is_there : (side : Side) (number : ℕ) (rule : Rule) → verdict form a b ≡ Refused side number rule → IsLineOf (file_of side a b) number
  refused_is_there side number rule e = let h = refused_line side number rule e in line_is_there form a b h.key (refusal side number rule) h.is_fault

  pub refused_says : (side : Side) (number : ℕ) (rule : Rule) → verdict form a b ≡ Refused side number rule → Says side number rule
  refused_says side number rule e = let h = refused_line side number rule e in says h.key (refusal side number rule) h.is_fault h.is_least
