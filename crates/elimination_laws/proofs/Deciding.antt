-- When a variable is eligible: the test says what the conditions say, and it depends on the clauses with the variable alone.
use Rattle.std.proofs.Common.{◌≡◌, ℕ, Bool, true, false, not, ◌&&◌, nat_le, List, [], ◌∷◌, ◌++◌, map, filter, flat_map, Contains, refl, sym, ◌∙◌, ap, inl, inr, eqb-true, eq-eqb, filter_map}
use Rattle.std.specs.List.{list_any}
use Rattle.std.specs.Cmp as cmp
use Rattle.std.proofs.lemmas.Bool.{and_parts, and_from, cases_Bool, both_ways, not-true, not_from_false, leb-true, le-leb}
use Rattle.lits.specs.Literal.{var}
use Rattle.lits.proofs.Members.{any_at, any_from, here, there}
use Rattle.session_rules.specs.declared.Step.{Step}
use Rattle.session_rules.specs.Logic.{same_set, is_tautology}
use Rattle.session_rules.specs.Own.{weakened_clause}
use Rattle.restore.specs.Resolution.{of_variable, is_plain, is_negated, has_variable, holds, holds_negated, resolvent, resolvents, resolvents_with, all_variables}
use Rattle.restore.proofs.Taking.{all_variables_from}
use Rattle.restore.proofs.Extending.{none_at, none_from}
use Rattle.elimination_laws.specs.Eligible.{how_many, most_holding, stands_in_few, has_few_resolvents, eligible, IsEligible, any_eligible, OftenAs}
use Rattle.elimination_laws.specs.Parts.{lemma_clause}
use Rattle.elimination_laws.specs.Irredundant.{less_one, less_each, no_tautologies}
use Rattle.elimination_laws.specs.Told.{irredundant_told}
use Rattle.elimination_laws.proofs.Counting.{any_same, any_often, how_many-same, resolvents-often, OftenAs-sym}

-- ---- The conditions

unmentioned_at : (x : ℕ) (ls : List ℕ) → has_variable x ls ≡ false → (l : ℕ) → Contains ls l → (var l ≡ x) → ⊥
unmentioned_at x ls h l m e = both_ways _ (none_at (of_variable x) ls l h m) (eq-eqb _ _ e)

unmentioned_from : (x : ℕ) (ls : List ℕ) → ((l : ℕ) → Contains ls l → (var l ≡ x) → ⊥) → has_variable x ls ≡ false
unmentioned_from x ls h = none_from (of_variable x) ls (λ l m. elim (cases_Bool (of_variable x l)) [
  | inl q ↦ absurd (h l m (eqb-true _ _ q))
  | inr q ↦ q
])

module _ (cs : List (List ℕ)) (frozen assigned : List ℕ) (x : ℕ) where
  pub IsEligible-from_test : eligible cs frozen assigned x ≡ true → IsEligible cs frozen assigned x
  unfolding eligible
  IsEligible-from_test h =
      let p = and_parts (not (has_variable x frozen) && not (has_variable x assigned)) (list_any (has_variable x) cs && (stands_in_few cs x && has_few_resolvents cs x)) h in
      let free = and_parts (not (has_variable x frozen)) (not (has_variable x assigned)) p.0 in
      let q = and_parts (list_any (has_variable x) cs) (stands_in_few cs x && has_few_resolvents cs x) p.1 in
      let r = and_parts (stands_in_few cs x) (has_few_resolvents cs x) q.1 in
      let few = and_parts (nat_le (how_many (holds x) cs) most_holding) (nat_le (how_many (holds_negated x) cs) most_holding) r.0 in
      let c = any_at (has_variable x) cs q.0 in
      record {
        not_frozen = unmentioned_at x frozen (not-true _ free.0);
        not_assigned = unmentioned_at x assigned (not-true _ free.1);
        occurs = (c.0, c.1, c.2);
        few_with = leb-true _ _ few.0;
        few_with_negation = leb-true _ _ few.1;
        few_resolvents = leb-true _ _ r.1;
      }

  pub test-from_IsEligible : IsEligible cs frozen assigned x → eligible cs frozen assigned x ≡ true
  unfolding eligible
  test-from_IsEligible e = and_from _ _
      (and_from _ _ (not_from_false _ (unmentioned_from x frozen e.not_frozen)) (not_from_false _ (unmentioned_from x assigned e.not_assigned)))
      (and_from _ _ (any_from (has_variable x) cs e.occurs.0 e.occurs.1 e.occurs.2)
      (and_from _ _ (and_from _ _ (le-leb _ _ e.few_with) (le-leb _ _ e.few_with_negation)) (le-leb _ _ e.few_resolvents)))

-- ---- Which variables are tried

-- a clause has an eligible variable
pub eligible-occurs : (cs : List (List ℕ)) (frozen assigned : List ℕ) (x : ℕ) → eligible cs frozen assigned x ≡ true → (c : List ℕ) × Contains cs c × (has_variable x c ≡ true)
unfolding eligible
eligible-occurs cs frozen assigned x h = any_at (has_variable x) cs (and_parts _ _ (and_parts _ _ h).1).0

pub eligible-stands : (cs : List (List ℕ)) (frozen assigned : List ℕ) (x : ℕ) → eligible cs frozen assigned x ≡ true → Contains (all_variables cs) x
eligible-stands cs frozen assigned x h = let c = eligible-occurs cs frozen assigned x h in all_variables_from cs c.0 x c.1 c.2

pub eligible-free : (cs : List (List ℕ)) (frozen assigned : List ℕ) (x : ℕ) → eligible cs frozen assigned x ≡ true
    → (has_variable x frozen ≡ false) × (has_variable x assigned ≡ false)
unfolding eligible
eligible-free cs frozen assigned x h = let p = and_parts _ _ (and_parts _ _ h).0 in (not-true _ p.0, not-true _ p.1)

pub none_eligible : (cs : List (List ℕ)) (frozen assigned : List ℕ) → any_eligible cs frozen assigned ≡ false → (x : ℕ) → eligible cs frozen assigned x ≡ false
unfolding any_eligible
none_eligible cs frozen assigned h x = elim (cases_Bool (eligible cs frozen assigned x)) [
  | inl q ↦ absurd (both_ways _ (none_at (eligible cs frozen assigned) (all_variables cs) x h (eligible-stands cs frozen assigned x q)) q)
  | inr q ↦ q
]

pub any_eligible-none : (cs : List (List ℕ)) (frozen assigned : List ℕ) → ((x : ℕ) → eligible cs frozen assigned x ≡ false) → any_eligible cs frozen assigned ≡ false
unfolding any_eligible
any_eligible-none cs frozen assigned h = none_from (eligible cs frozen assigned) (all_variables cs) (λ x m. h x)

-- ---- Fewer assigned literals, fewer frozen ones

pub eligible-fewer : (cs : List (List ℕ)) (frozen fewer assigned less : List ℕ) (x : ℕ) → ((l : ℕ) → Contains fewer l → Contains frozen l)
    → ((l : ℕ) → Contains less l → Contains assigned l) → eligible cs frozen assigned x ≡ true → eligible cs fewer less x ≡ true
unfolding eligible
eligible-fewer cs frozen fewer assigned less x a b h = let p = and_parts _ _ h in let q = and_parts _ _ p.0 in
    and_from _ _ (and_from _ _ (unmentioned frozen fewer a q.0) (unmentioned assigned less b q.1)) p.1
  where
    unmentioned : (ls ms : List ℕ) → ((l : ℕ) → Contains ms l → Contains ls l) → not (has_variable x ls) ≡ true → not (has_variable x ms) ≡ true
    unmentioned ls ms a h = not_from_false _ (elim (cases_Bool (has_variable x ms)) [
      | inl q ↦ let l = any_at (of_variable x) ms q in absurd (both_ways _ (not-true _ h) (any_from (of_variable x) ls l.0 (a l.0 l.1) l.2))
      | inr q ↦ q
    ])

-- ---- What eligibility depends on

-- how often each set stands in the clauses
pub eligible-often : (cs ds : List (List ℕ)) (frozen assigned : List ℕ) (x : ℕ) → OftenAs cs ds → eligible cs frozen assigned x ≡ eligible ds frozen assigned x
unfolding eligible
eligible-often cs ds frozen assigned x o =
    let a = how_many-same (holds x) (λ c d s. any_same (is_plain x) c d s) cs ds o in
    let b = how_many-same (holds_negated x) (λ c d s. any_same (is_negated x) c d s) cs ds o in
    let m = how_many-same (has_variable x) (λ c d s. any_same (of_variable x) c d s) cs ds o in
    let r = resolvents-often x cs ds o in
    let i : list_any (has_variable x) cs ≡ list_any (has_variable x) ds = cmp.both_ways _ _
    (any_often (has_variable x) (λ c d s. any_same (of_variable x) c d s) cs ds o)
    (any_often (has_variable x) (λ c d s. any_same (of_variable x) c d s) ds cs (OftenAs-sym cs ds o)) in
    rw (a, b, m, r, i) refl

-- a clause that holds the variable or its negation has_variable it
held_mentioned : (x : ℕ) (c : List ℕ) → holds x c ≡ true → has_variable x c ≡ true
held_mentioned x c h = let l = any_at (is_plain x) c h in any_from (of_variable x) c l.0 l.1 (and_parts _ _ l.2).0

negated_mentioned : (x : ℕ) (c : List ℕ) → holds_negated x c ≡ true → has_variable x c ≡ true
negated_mentioned x c h = let l = any_at (is_negated x) c h in any_from (of_variable x) c l.0 l.1 (and_parts _ _ l.2).0

-- a test that only clauses with the variable pass finds the same among these
narrowed : (x : ℕ) (t : List ℕ → Bool) → ((c : List ℕ) → t c ≡ true → has_variable x c ≡ true) → (cs : List (List ℕ)) → filter t (filter (has_variable x) cs) ≡ filter t cs
narrowed x t h [] = refl
narrowed x t h (c ∷ cs) = let next = narrowed x t h cs in elim (cases_Bool (has_variable x c)) [
  | inl q ↦ elim (cases_Bool (t c)) [ inl k ↦ rw (q, k) (ap (λ z. c ∷ z) next) | inr k ↦ rw (q, k) next ]
  | inr q ↦ elim (cases_Bool (t c)) [ inl k ↦ absurd (both_ways _ q (h c k)) | inr k ↦ rw (q, k) next ]
]

any_narrowed : (x : ℕ) (cs : List (List ℕ)) → list_any (has_variable x) (filter (has_variable x) cs) ≡ list_any (has_variable x) cs
any_narrowed x [] = refl
any_narrowed x (c ∷ cs) = let next = any_narrowed x cs in elim (cases_Bool (has_variable x c)) [ inl q ↦ rw (q, q) refl | inr q ↦ rw q next ]

resolvents-narrowed : (x : ℕ) (cs : List (List ℕ)) → resolvents x (filter (has_variable x) cs) ≡ resolvents x cs
resolvents-narrowed x cs = ap (flat_map (resolvents_with x (filter (has_variable x) cs))) (narrowed x (holds x) (held_mentioned x) cs) ∙ each (filter (holds x) cs)
  where
    each : (ds : List (List ℕ)) → flat_map (resolvents_with x (filter (has_variable x) cs)) ds ≡ flat_map (resolvents_with x cs) ds
    each [] = refl
    each (d ∷ ds) = ap (λ z. filter (λ r. not (is_tautology r)) (map (resolvent x d) z) ++ flat_map (resolvents_with x (filter (has_variable x) cs)) ds) (narrowed x (holds_negated x) (negated_mentioned x) cs)
        ∙ ap (λ z. resolvents_with x cs d ++ z) (each ds)

-- the clauses with the variable alone
eligible-narrowed : (cs : List (List ℕ)) (frozen assigned : List ℕ) (x : ℕ) → eligible (filter (has_variable x) cs) frozen assigned x ≡ eligible cs frozen assigned x
unfolding eligible
eligible-narrowed cs frozen assigned x =
    let a = narrowed x (holds x) (held_mentioned x) cs in let b = narrowed x (holds_negated x) (negated_mentioned x) cs in
    let m = narrowed x (has_variable x) (λ c q. q) cs in let i = any_narrowed x cs in let r = resolvents-narrowed x cs in
    rw (r, a, b, m, i) refl

-- whether it is frozen, and whether it is assigned
eligible-flags : (cs : List (List ℕ)) (frozen freeze assigned assign : List ℕ) (x : ℕ) → has_variable x frozen ≡ has_variable x freeze → has_variable x assigned ≡ has_variable x assign
    → eligible cs frozen assigned x ≡ eligible cs freeze assign x
unfolding eligible
eligible-flags cs frozen freeze assigned assign x f a = rw (f, a) refl

-- and nothing else
pub eligible-local : (cs ds : List (List ℕ)) (frozen freeze assigned assign : List ℕ) (x : ℕ) → OftenAs (filter (has_variable x) cs) (filter (has_variable x) ds)
    → has_variable x frozen ≡ has_variable x freeze → has_variable x assigned ≡ has_variable x assign → eligible cs frozen assigned x ≡ eligible ds freeze assign x
eligible-local cs ds frozen freeze assigned assign x o f a = sym (eligible-narrowed cs frozen assigned x)
    ∙ eligible-often (filter (has_variable x) cs) (filter (has_variable x) ds) frozen assigned x o
    ∙ eligible-narrowed ds frozen assigned x ∙ eligible-flags ds frozen freeze assigned assign x f a

-- ---- Variables that an elimination doesn't touch

-- clauses without the variable that come or go leave those with it
less_one-mentioning : (y : ℕ) (c : List ℕ) (ds : List (List ℕ)) → has_variable y c ≡ false → filter (has_variable y) (less_one ds c) ≡ filter (has_variable y) ds
less_one-mentioning y c [] h = refl
less_one-mentioning y c (d ∷ ds) h = let next = less_one-mentioning y c ds h in elim (cases_Bool (same_set c d)) [
  | inl q ↦ let n : has_variable y d ≡ false = sym (any_same (of_variable y) c d q) ∙ h in rw (q, n) refl
  | inr q ↦ elim (cases_Bool (has_variable y d)) [ inl k ↦ rw (q, k) (ap (λ z. d ∷ z) next) | inr k ↦ rw (q, k) next ]
]

less_each-mentioning : (y : ℕ) (ws ds : List (List ℕ)) → ((c : List ℕ) → Contains ws c → has_variable y c ≡ false) → filter (has_variable y) (less_each ds ws) ≡ filter (has_variable y) ds
less_each-mentioning y [] ds h = refl
less_each-mentioning y (w ∷ ws) ds h = less_each-mentioning y ws (less_one ds w) (λ c m. h c (there w c ws m)) ∙ less_one-mentioning y w ds (h w (here w ws))

more-mentioning : (y : ℕ) (ls ds : List (List ℕ)) → ((c : List ℕ) → Contains ls c → has_variable y c ≡ false) → filter (has_variable y) (ds ++ no_tautologies ls) ≡ filter (has_variable y) ds
more-mentioning y ls [] h = none ls h
  where
    none : (ls : List (List ℕ)) → ((c : List ℕ) → Contains ls c → has_variable y c ≡ false) → filter (has_variable y) (no_tautologies ls) ≡ []
    none [] h = refl
    none (l ∷ ls) h = let q = h l (here l ls) in let next = none ls (λ c m. h c (there l c ls m)) in elim (cases_Bool (is_tautology l)) [
      | inl k ↦ rw k next
      | inr k ↦ rw (k, q) next
    ]
more-mentioning y ls (d ∷ ds) h = let next = more-mentioning y ls ds h in elim (cases_Bool (has_variable y d)) [
  | inl q ↦ rw q (ap (λ z. d ∷ z) next)
  | inr q ↦ rw q next
]

pub eligible-untouched : (irr : List (List ℕ)) (run : List Step) (frozen assigned assign : List ℕ) (y : ℕ) → ((c : List ℕ) → Contains (filter_map lemma_clause run) c → has_variable y c ≡ false)
    → ((c : List ℕ) → Contains (filter_map weakened_clause run) c → has_variable y c ≡ false) → has_variable y assigned ≡ has_variable y assign
    → eligible (irredundant_told irr run) frozen assign y ≡ eligible irr frozen assigned y
eligible-untouched irr run frozen assigned assign y l w a =
    let e : filter (has_variable y) (irredundant_told irr run) ≡ filter (has_variable y) irr = less_each-mentioning y (filter_map weakened_clause run) (irr ++ no_tautologies (filter_map lemma_clause run)) w
    ∙ more-mentioning y (filter_map lemma_clause run) irr l in
    eligible-local (irredundant_told irr run) irr frozen frozen assign assigned y (λ c. ap (λ z. how_many (same_set c) z) e) refl (sym a)
