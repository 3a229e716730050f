-- The rounds find what is forced, and what is forced without a variable's literals stays so.
use Rattle.std.proofs.Common.{◌≡◌, ℕ, zero, suc, true, false, ◌||◌, nat_eq, List, [], ◌∷◌, length, Contains, refl, sym, subst, inl, inr, eqb-true, eq-eqb}
use Rattle.std.proofs.lemmas.Bool.{and_parts, or_cases, or_left, or_right, cases_Bool, both_ways}
use Rattle.lits.specs.Literal.{neg}
use Rattle.lits.proofs.Literal.{var-neg}
use Rattle.lits.proofs.Members.{here, there, all_at, any_at}
use Rattle.session_rules.specs.Logic.{has, is_closed, Propagates, trues_after, Forced, left, with_unit, propagated, propagated_times, closes}
use Rattle.session_rules.specs.declared.Left.{Left}
use Rattle.session_rules.specs.declared.Left.TheVariants.{Falsified, UnitLiteral, Open}
use Rattle.session_rules.proofs.Closing.{is_unit_from_left}
use Rattle.session_rules.proofs.Rounds.{Within, Saturates, ended, unit-found, only-left, length-filter-le}
use Rattle.restore.specs.Resolution.{has_variable, of_variable}
use Rattle.elimination_laws.specs.Eligible.{forced}

-- ---- Rounds give what is forced

-- each literal that is true is had by propagations from these on
abbrev Reached : List (List ℕ) → List ℕ → List ℕ → Type 0
Reached cs from to = (ps : List (List ℕ × ℕ)) × Propagates cs from ps × ((l : ℕ) → has to l ≡ true → has (trues_after from ps) l ≡ true)

Reached-clause : (cs : List (List ℕ)) (trues c to : List ℕ) → Contains cs c → (o : Left) → left trues c ≡ o → Reached cs (with_unit o trues) to → Reached cs trues to
Reached-clause cs trues c to m Falsified e r = r
Reached-clause cs trues c to m (UnitLiteral l) e r = elim (cases_Bool (has trues l)) [
  | inl q ↦ let f : Reached cs trues to = rw q at r in f
  | inr q ↦ let f : Reached cs (l ∷ trues) to = rw q at r in ((c, l) ∷ f.0, (m, is_unit_from_left trues c l e, f.1), f.2)
]
Reached-clause cs trues c to m Open e r = r

Reached-round : (cs ds : List (List ℕ)) (trues to : List ℕ) → ((c : List ℕ) → Contains ds c → Contains cs c) → Reached cs (propagated ds trues) to → Reached cs trues to
unfolding propagated
Reached-round cs [] trues to a r = r
Reached-round cs (d ∷ ds) trues to a r = Reached-clause cs trues d to (a d (here d ds)) (left trues d) refl
    (Reached-round cs ds (with_unit (left trues d) trues) to (λ c m. a c (there d c ds m)) r)

Reached-times : (n : ℕ) (cs : List (List ℕ)) (trues : List ℕ) → Reached cs trues (propagated_times n cs trues)
unfolding propagated_times
Reached-times zero cs trues = ([], tt, λ l h. h)
Reached-times (suc n) cs trues = Reached-round cs cs trues (propagated_times n cs (propagated cs trues)) (λ c m. m) (Reached-times n cs (propagated cs trues))

pub Forced-from_forced : (cs : List (List ℕ)) (l : ℕ) → has (forced cs) l ≡ true → Forced cs l
Forced-from_forced cs l h = let r = Reached-times (length cs) cs [] in (r.0, r.1, r.2 l h)

-- ---- What is forced is found, unless the clauses close

found : (cs : List (List ℕ)) (all : List ℕ) → Saturates cs all → is_closed cs all ≡ false → (ps : List (List ℕ × ℕ)) (trues : List ℕ) → Within trues all
    → Propagates cs trues ps → Within (trues_after trues ps) all
found cs all s n [] trues w h = w
found cs all s n (p ∷ ps) trues w h = elim (unit-found cs all p.0 p.1 s h.0 (only-left trues all p.0 p.1 w h.1) (left all p.0) refl) [
  | inl q ↦ found cs all s n ps (p.1 ∷ trues) (λ x k. elim (or_cases _ _ k) [
    | inl f ↦ subst (λ z. has all z ≡ true) (sym (eqb-true x p.1 f)) q
    | inr f ↦ w x f
  ]) h.2
  | inr q ↦ absurd (both_ways _ n q)
]

pub forced-from_Forced : (cs : List (List ℕ)) (l : ℕ) → closes cs [] ≡ false → Forced cs l → has (forced cs) l ≡ true
unfolding closes
forced-from_Forced cs l n f = elim (ended (length cs) cs [] (length-filter-le _ cs)) [
  | inl t ↦ absurd (both_ways _ n (or_left _ _ t))
  | inr s ↦ found cs (forced cs) s n f.0 [] (λ x h. cc h) f.1 l f.2
]

-- ---- What is forced without a variable

trues_kept : (ps : List (List ℕ × ℕ)) (trues : List ℕ) (l : ℕ) → has trues l ≡ true → has (trues_after trues ps) l ≡ true
trues_kept [] trues l h = h
trues_kept (p ∷ ps) trues l h = trues_kept ps (p.1 ∷ trues) l (or_right _ _ h)

-- propagations that assign no literal of a variable use no clause with it
Propagates-without : (x : ℕ) (cs ds : List (List ℕ)) → ((c : List ℕ) → Contains cs c → has_variable x c ≡ false → Contains ds c)
    → (ps : List (List ℕ × ℕ)) (trues : List ℕ) → ((l : ℕ) → has (trues_after trues ps) l ≡ true → of_variable x l ≡ true → ⊥)
    → Propagates cs trues ps → Propagates ds trues ps
Propagates-without x cs ds a [] trues free h = tt
Propagates-without x cs ds a (p ∷ ps) trues free h = (a p.0 h.0 unmentioned, h.1, Propagates-without x cs ds a ps (p.1 ∷ trues) free h.2)
  where
    unmentioned : has_variable x p.0 ≡ false
    unmentioned = elim (cases_Bool (has_variable x p.0)) [
      | inl q ↦ let l = any_at (of_variable x) p.0 q in
          elim (or_cases _ _ (all_at (λ m. nat_eq p.1 m || has trues (neg m)) p.0 l.0 (and_parts _ _ h.1).1 l.1)) [
            | inl e ↦ let f : p.1 ≡ l.0 = eqb-true _ _ e in
                absurd (free l.0 (trues_kept ps (p.1 ∷ trues) l.0 (or_left _ _ (eq-eqb _ _ (sym f)))) l.2)
            | inr n ↦ let e = var-neg l.0 in let f : of_variable x (neg l.0) ≡ true = rw e l.2 in
                absurd (free (neg l.0) (trues_kept ps (p.1 ∷ trues) (neg l.0) (or_right _ _ n)) f)
          ]
      | inr q ↦ q
    ]

-- where no literal of the variable is forced, what is forced stays so when all clauses without the variable stay
pub Forced-without : (x : ℕ) (cs ds : List (List ℕ)) → ((c : List ℕ) → Contains cs c → has_variable x c ≡ false → Contains ds c)
    → ((l : ℕ) → Forced cs l → of_variable x l ≡ true → ⊥) → (l : ℕ) → Forced cs l → Forced ds l
Forced-without x cs ds a free l f = (f.0, Propagates-without x cs ds a f.0 [] (λ m h q. free m (f.0, f.1, h) q) f.1, f.2)
