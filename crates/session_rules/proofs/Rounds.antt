-- As many rounds as there are clauses find all that follows: each round that adds a literal satisfies one clause more.
use Rattle.std.proofs.Common.{◌≡◌, ℕ, zero, suc, ◌<◌, ◌≤◌, ◌⊎◌, Bool, true, false, not, ◌||◌, nat_eq, List, [], ◌∷◌, length, filter, Contains, refl, sym, ◌∙◌, subst, inl, inr, arith, eqb-true, eq-eqb}
use Rattle.std.specs.List.{list_any, list_all}
use Rattle.std.proofs.lemmas.Bool.{and_parts, or_cases, or_left, or_right, cases_Bool, both_ways, not-true, not_from_true, not_from_false}
use Rattle.lits.specs.Literal.{neg}
use Rattle.session_rules.specs.declared.Left.{Left}
use Rattle.session_rules.specs.declared.Left.TheVariants.{Falsified, UnitLiteral, Open}
use Rattle.session_rules.specs.Logic.{has, is_tautology, is_falsified, is_unit, is_closed, Propagates, trues_after, Closes, left_of, left, with_unit, propagated, propagated_times, closes}
use Rattle.lits.proofs.Members.{here, there, not_in_nil, here_or_there, all_at, all_from, any_at, any_from, filter_at, has_at, has_from}
use Rattle.session_rules.proofs.Closing.{only_member, is_unit_from_left, is_falsified_from_left}

-- each of these literals is among those
abbrev pub Within : List ℕ → List ℕ → Type 0
Within ls ms = (l : ℕ) → has ls l ≡ true → has ms l ≡ true

-- a unit is a true literal already
abbrev pub Saturates : List (List ℕ) → List ℕ → Type 0
Saturates cs trues = (c : List ℕ) (l : ℕ) → Contains cs c → left trues c ≡ UnitLiteral l → has trues l ≡ true

-- whether a clause has a true literal
abbrev pub meets : List ℕ → List ℕ → Bool
meets trues c = list_any (has trues) c

-- how many clauses have none
abbrev pub unmet : List (List ℕ) → List ℕ → ℕ
unmet cs trues = length (filter (λ c. not (meets trues c)) cs)

-- ---- Counting

module _ {X : Type 0} (p q : X → Bool) where
  pub count-le : (xs : List X) → ((x : X) → q x ≡ true → p x ≡ true) → length (filter q xs) ≤ length (filter p xs)
  count-le [] h = omega arith
  count-le (x ∷ xs) h = elim (cases_Bool (q x)) [
    | inl e ↦ let r = count-le xs h in rw e (rw (h x e) (omega arith))
    | inr e ↦ let r = count-le xs h in elim (cases_Bool (p x)) [ inl f ↦ rw e (rw f (omega arith)) | inr f ↦ rw e (rw f (omega arith)) ]
  ]

  pub count-lt : (xs : List X) (y : X) → ((x : X) → q x ≡ true → p x ≡ true) → Contains xs y → p y ≡ true → q y ≡ false → length (filter q xs) < length (filter p xs)
  count-lt [] y h m a b = absurd (not_in_nil y m)
  count-lt (x ∷ xs) y h m a b = elim (here_or_there x y xs m) [
    | inl e ↦ let r = count-le xs h in rw (subst (λ z. q z ≡ false) (sym e) b) (rw (subst (λ z. p z ≡ true) (sym e) a) (omega arith))
    | inr n ↦ let r = count-lt xs y h n a b in elim (cases_Bool (q x)) [
      | inl e ↦ rw e (rw (h x e) (omega arith))
      | inr e ↦ elim (cases_Bool (p x)) [ inl f ↦ rw e (rw f (omega arith)) | inr f ↦ rw e (rw f (omega arith)) ]
    ]
  ]

-- ---- Growing

Within-cons : (l : ℕ) (ls : List ℕ) → Within ls (l ∷ ls)
Within-cons l ls m h = or_right _ _ h

Within-with_unit : (o : Left) (trues : List ℕ) → Within trues (with_unit o trues)
Within-with_unit Falsified trues = λ m h. h
Within-with_unit (UnitLiteral l) trues = λ m h. elim (cases_Bool (has trues l)) [
  | inl q ↦ rw q h
  | inr q ↦ rw q (or_right _ _ h)
]
Within-with_unit Open trues = λ m h. h

Within-propagated : (ds : List (List ℕ)) (trues : List ℕ) → Within trues (propagated ds trues)
unfolding propagated
Within-propagated [] trues = λ m h. h
Within-propagated (d ∷ ds) trues = λ m h. Within-propagated ds _ m (Within-with_unit (left trues d) trues m h)

pub Within-propagated_times : (n : ℕ) (cs : List (List ℕ)) (trues : List ℕ) → Within trues (propagated_times n cs trues)
unfolding propagated_times
Within-propagated_times zero cs trues = λ m h. h
Within-propagated_times (suc n) cs trues = λ m h. Within-propagated_times n cs _ m (Within-propagated cs trues m h)

pub tautology-within : (ls ms : List ℕ) → Within ls ms → is_tautology ls ≡ true → is_tautology ms ≡ true
tautology-within ls ms w h = let r = any_at (λ l. has ls (neg l)) ls h in
    any_from (λ l. has ms (neg l)) ms r.0 (has_at ms r.0 (w r.0 (has_from ls r.0 r.1))) (w (neg r.0) r.2)

meets-within : (ls ms c : List ℕ) → Within ls ms → meets ls c ≡ true → meets ms c ≡ true
meets-within ls ms c w h = let r = any_at (has ls) c h in any_from (has ms) c r.0 r.1 (w r.0 r.2)

unmet-within : (cs : List (List ℕ)) (ls ms : List ℕ) → Within ls ms → unmet cs ms ≤ unmet cs ls
unmet-within cs ls ms w = count-le (λ c. not (meets ls c)) (λ c. not (meets ms c)) cs
    (λ c h. elim (cases_Bool (meets ls c)) [
      | inl q ↦ absurd (both_ways _ (not-true _ h) (meets-within ls ms c w q))
      | inr q ↦ not_from_false _ q
    ])

-- a clause with a unit that isn't true yet has no true literal, unless two are opposite
unit_unmet : (trues c : List ℕ) (l : ℕ) → is_tautology trues ≡ false → is_unit trues c l ≡ true → has trues l ≡ false → meets trues c ≡ false
unit_unmet trues c l t u n = elim (cases_Bool (meets trues c)) [
  | inl q ↦ let m = any_at (has trues) c q in
      elim (or_cases _ _ (all_at (λ x. nat_eq l x || has trues (neg x)) c m.0 (and_parts _ _ u).1 m.1)) [
        | inl e ↦ absurd (both_ways _ n (subst (λ z. has trues z ≡ true) (sym (eqb-true l m.0 e)) m.2))
        | inr e ↦ absurd (both_ways _ t (any_from (λ x. has trues (neg x)) trues m.0 (has_at trues m.0 m.2) e))
      ]
  | inr q ↦ q
]

unmet-lt : (cs : List (List ℕ)) (trues c : List ℕ) (l : ℕ) → Contains cs c → is_tautology trues ≡ false → left trues c ≡ UnitLiteral l → has trues l ≡ false
    → unmet cs (l ∷ trues) < unmet cs trues
unmet-lt cs trues c l m t e n = let u = is_unit_from_left trues c l e in
    count-lt (λ d. not (meets trues d)) (λ d. not (meets (l ∷ trues) d)) cs c
    (λ d h. elim (cases_Bool (meets trues d)) [
      | inl q ↦ absurd (both_ways _ (not-true _ h) (meets-within trues (l ∷ trues) d (Within-cons l trues) q))
      | inr q ↦ not_from_false _ q
    ])
    m (not_from_false _ (unit_unmet trues c l t u n))
    (not_from_true _ (any_from (has (l ∷ trues)) c l (has_at c l (and_parts _ _ u).0) (or_left _ _ (eq-eqb l l refl))))

-- ---- Rounds

-- what a round does: it adds nothing and there is nothing to add, or fewer clauses have no true literal, or two are opposite
abbrev Round : List (List ℕ) → List (List ℕ) → List ℕ → List ℕ → Type 0
Round cs ds from to = ((to ≡ from) × Saturates ds from) ⊎ ((unmet cs to < unmet cs from) ⊎ (is_tautology to ≡ true))

-- a literal was added at the first clause
round-added : (cs ds : List (List ℕ)) (trues d : List ℕ) (l : ℕ) → Contains cs d → left trues d ≡ UnitLiteral l → has trues l ≡ false
    → Round cs (d ∷ ds) trues (propagated ds (l ∷ trues))
round-added cs ds trues d l m e n = elim (cases_Bool (is_tautology trues)) [
  | inl q ↦ inr (inr (tautology-within trues (propagated ds (l ∷ trues)) (λ x h. Within-propagated ds (l ∷ trues) x (Within-cons l trues x h)) q))
  | inr q ↦ let a = unmet-lt cs trues d l m q e n in let b = unmet-within cs (l ∷ trues) (propagated ds (l ∷ trues)) (Within-propagated ds (l ∷ trues)) in
      inr (inl (omega arith))
]

-- nothing was added at the first clause
round-kept : (cs ds : List (List ℕ)) (trues d to : List ℕ) → ((l : ℕ) → left trues d ≡ UnitLiteral l → has trues l ≡ true) → Round cs ds trues to → Round cs (d ∷ ds) trues to
round-kept cs ds trues d to kept (inl r) = inl (
  r.0,
  λ c l m e. elim (here_or_there d c ds m) [
    | inl f ↦ kept l (subst (λ z. left trues z ≡ UnitLiteral l) (sym f) e)
    | inr n ↦ r.1 c l n e
  ],
)
round-kept cs ds trues d to kept (inr r) = inr r

round-step : (cs ds : List (List ℕ)) (trues d : List ℕ) → Contains cs d → Round cs ds trues (propagated ds trues) → (o : Left) → left trues d ≡ o
    → Round cs (d ∷ ds) trues (propagated ds (with_unit o trues))
round-step cs ds trues d m next Falsified e = round-kept cs ds trues d _ (λ l f. cc (e, f)) next
round-step cs ds trues d m next (UnitLiteral l) e = elim (cases_Bool (has trues l)) [
  | inl q ↦ rw q (round-kept cs ds trues d _ (λ k f. let g : l ≡ k = cc (e, f) in subst (λ z. has trues z ≡ true) g q) next)
  | inr q ↦ rw q (round-added cs ds trues d l m e q)
]
round-step cs ds trues d m next Open e = round-kept cs ds trues d _ (λ l f. cc (e, f)) next

round : (cs ds : List (List ℕ)) (trues : List ℕ) → ((c : List ℕ) → Contains ds c → Contains cs c) → Round cs ds trues (propagated ds trues)
unfolding propagated
round cs [] trues member = inl (refl, λ c l m e. absurd (not_in_nil c m))
round cs (d ∷ ds) trues member =
    round-step cs ds trues d (member d (here d ds)) (round cs ds trues (λ c m. member c (there d c ds m))) (left trues d) refl

-- two true literals are opposite, or nothing is left to add
abbrev pub Ended : List (List ℕ) → List ℕ → Type 0
Ended cs trues = (is_tautology trues ≡ true) ⊎ Saturates cs trues

times-kept : (n : ℕ) (cs : List (List ℕ)) (trues : List ℕ) → propagated cs trues ≡ trues → propagated_times n cs trues ≡ trues
unfolding propagated_times
times-kept zero cs trues e = refl
times-kept (suc n) cs trues e = rw e (times-kept n cs trues e)

pub ended : (n : ℕ) (cs : List (List ℕ)) (trues : List ℕ) → unmet cs trues ≤ n → Ended cs (propagated_times n cs trues)
unfolding propagated_times
ended zero cs trues h = elim (cases_Bool (is_tautology trues)) [
  | inl q ↦ inl q
  | inr q ↦ inr (λ c l m e. elim (cases_Bool (has trues l)) [
    | inl f ↦ f
    | inr f ↦ let lt = unmet-lt cs trues c l m q e f in absurd (omega arith)
  ])
]
ended (suc n) cs trues h = by_round (round cs cs trues (λ c m. m)) (λ lt. ended n cs (propagated cs trues) (omega arith))
  where
    by_round : Round cs cs trues (propagated cs trues) → (unmet cs (propagated cs trues) < unmet cs trues → Ended cs (propagated_times n cs (propagated cs trues)))
        → Ended cs (propagated_times n cs (propagated cs trues))
    by_round (inl r) next = rw r.0 (rw (times-kept n cs trues r.0) (inr r.1))
    by_round (inr (inl lt)) next = next lt
    by_round (inr (inr t)) next = inl (tautology-within _ _ (Within-propagated_times n cs (propagated cs trues)) t)

-- ---- A closing sequence stays within what the rounds find

not_open : (ls : List ℕ) (l : ℕ) → ((m : ℕ) → Contains ls m → l ≡ m) → left_of ls ≡ Open → ⊥
not_open [] l h e = cc
not_open (x ∷ xs) l h e =
    let q : list_all (nat_eq x) xs ≡ true = all_from (nat_eq x) xs (λ m n. eq-eqb x m (sym (h x (here x xs)) ∙ h m (there x m xs n))) in
    let f : UnitLiteral x ≡ Open = rw q at e in cc f

pub falsified-within : (trues all c : List ℕ) → Within trues all → is_falsified trues c ≡ true → is_falsified all c ≡ true
falsified-within trues all c w h = all_from (λ m. has all (neg m)) c (λ m n. w (neg m) (all_at (λ x. has trues (neg x)) c m h n))

pub closed-within : (cs : List (List ℕ)) (trues all : List ℕ) → Within trues all → is_closed cs trues ≡ true → is_closed cs all ≡ true
closed-within cs trues all w h = elim (or_cases _ _ h) [
  | inl q ↦ or_left _ _ (tautology-within trues all w q)
  | inr q ↦ let c = any_at (is_falsified trues) cs q in or_right _ _ (any_from (is_falsified all) cs c.0 c.1 (falsified-within trues all c.0 w c.2))
]

-- of a clause with this unit under fewer true literals, nothing else is left
pub only-left : (trues all c : List ℕ) (l : ℕ) → Within trues all → is_unit trues c l ≡ true → (x : ℕ) → Contains (filter (λ x. not (has all (neg x))) c) x → l ≡ x
only-left trues all c l w u x n = let r = filter_at (λ x. not (has all (neg x))) c x n in
    elim (or_cases _ _ (all_at (λ x. nat_eq l x || has trues (neg x)) c x (and_parts _ _ u).1 r.0)) [
      | inl q ↦ eqb-true l x q
      | inr q ↦ absurd (both_ways _ (not-true _ r.1) (w (neg x) q))
    ]

-- so its unit is true, or the true literals are closed
pub unit-found : (cs : List (List ℕ)) (all c : List ℕ) (l : ℕ) → Saturates cs all → Contains cs c → ((x : ℕ) → Contains (filter (λ x. not (has all (neg x))) c) x → l ≡ x)
    → (o : Left) → left all c ≡ o → (has all l ≡ true) ⊎ (is_closed cs all ≡ true)
unit-found cs all c l s m others Falsified e = inr (or_right _ _ (any_from (is_falsified all) cs c m (is_falsified_from_left all c e)))
unit-found cs all c l s m others (UnitLiteral x) e = inl (subst (λ z. has all z ≡ true) (sym (others x (only_member _ x e).0)) (s c x m e))
unit-found cs all c l s m others Open e = absurd (not_open _ l others e)

closed-found : (cs : List (List ℕ)) (all : List ℕ) → Saturates cs all → (ps : List (List ℕ × ℕ)) (trues : List ℕ) → Within trues all
    → Propagates cs trues ps → is_closed cs (trues_after trues ps) ≡ true → is_closed cs all ≡ true
closed-found cs all s [] trues w h e = closed-within cs trues all w e
closed-found cs all s (p ∷ ps) trues w h e = elim (unit-found cs all p.0 p.1 s h.0 (only-left trues all p.0 p.1 w h.1) (left all p.0) refl) [
  | inl q ↦ closed-found cs all s ps (p.1 ∷ trues) (λ x k. elim (or_cases _ _ k) [
    | inl f ↦ subst (λ z. has all z ≡ true) (sym (eqb-true x p.1 f)) q
    | inr f ↦ w x f
  ]) h.2 e
  | inr q ↦ q
]

pub length-filter-le : (p : List ℕ → Bool) (cs : List (List ℕ)) → length (filter p cs) ≤ length cs
length-filter-le p [] = omega arith
length-filter-le p (c ∷ cs) = let r = length-filter-le p cs in elim (cases_Bool (p c)) [ inl q ↦ rw q (omega arith) | inr q ↦ rw q (omega arith) ]

-- where there is a closing sequence the rounds close
pub closes-from_Closes : (cs : List (List ℕ)) (ls : List ℕ) → Closes cs ls → closes cs ls ≡ true
unfolding closes
closes-from_Closes cs ls r = elim (ended (length cs) cs ls (length-filter-le _ cs)) [
  | inl t ↦ or_left _ _ t
  | inr s ↦ closed-found cs _ s r.0 ls (Within-propagated_times (length cs) cs ls) r.1 r.2
]
