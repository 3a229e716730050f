-- Each clause whose id is active or weakened follows from the inputs, where no step with ids breaks a rule of its own.
use Rattle.std.proofs.Common.{◌≡◌, ℕ, ◌+◌, ◌⊎◌, Bool, true, false, nat_eq, List, [], ◌∷◌, ◌++◌, map, filter, filter_map, flat_map, Contains, Option, Some, None, refl, sym, ◌∙◌, ap, subst, inl, inr, eqb-true, ne_eqb, append_assoc, append-nil}
use Rattle.std.specs.List.{last_or, cons_option}
use Rattle.std.proofs.lemmas.List.Elements.{filter_map-append, filter-append}
use Rattle.std.proofs.lemmas.Grind.{flat_map-append}
use Rattle.std.proofs.lemmas.Bool.{cases_Bool, both_ways}
use Rattle.lits.specs.Literal.{neg}
use Rattle.session_rules.specs.declared.LStep.{LStep}
use Rattle.session_rules.specs.declared.LStep.TheVariants as lsteps
use Rattle.session_rules.specs.declared.Rule.{Rule}
use Rattle.session_rules.specs.declared.Rule.TheVariants as rules
use Rattle.session_rules.specs.Logic.{satisfies_clause, satisfies_formula, Contradicts, hints_fail}
use Rattle.session_rules.specs.History.{inputs, last, broken_at}
use Rattle.session_rules.specs.declared.Standing.{Standing}
use Rattle.session_rules.specs.declared.Standing.TheVariants.{Active, Weakened, Absent}
use Rattle.session_rules.specs.Own.{is_active, is_weakened, each_is, mentions, standing, standing_after, given_clause, clause_or_none, clause_of, active_clause, active_id_clauses, first_not, id_events_of, own_id_faults}
use Rattle.lits.proofs.Members.{here, there, here_or_there, not_in_nil, all_from, filter_at}
use Rattle.session_rules.proofs.Closing.{hints_close, Contradicts-from_Closes}
use Rattle.session_laws.proofs.Justified.{Entails, Entails-append, Entails-last, unsatisfied}

-- ---- The last element

module _ {X : Type 0} where
  pub last_or-push : (xs : List X) (o : Option X) (x : X) → last_or o (xs ++ x ∷ []) ≡ Some x
  last_or-push [] o x = refl
  last_or-push (y ∷ ys) o x = last_or-push ys (Some y) x

  last_or-in : (xs : List X) (o : Option X) (x : X) → last_or o xs ≡ Some x → (o ≡ Some x) ⊎ Contains xs x
  last_or-in [] o x e = inl e
  last_or-in (y ∷ ys) o x e = elim (last_or-in ys (Some y) x e) [
    | inl f ↦ let g : y ≡ x = cc f in inr (subst (λ z. Contains (y ∷ ys) z) g (here y ys))
    | inr m ↦ inr (there y x ys m)
  ]

  last-in : (xs : List X) (x : X) → last xs ≡ Some x → Contains xs x
  last-in xs x e = elim (last_or-in xs None x e) [ inl f ↦ cc f | inr m ↦ m ]

module _ {X Y : Type 0} (f : X → Option Y) where
  cons_option-in : (o : Option Y) (ys : List Y) (y : Y) → Contains ys y → Contains (cons_option o ys) y
  cons_option-in None ys y m = m
  cons_option-in (Some x) ys y m = there x y ys m

  filter_map_from : (xs : List X) (x : X) (y : Y) → Contains xs x → f x ≡ Some y → Contains (filter_map f xs) y
  filter_map_from [] x y m e = absurd (not_in_nil x m)
  filter_map_from (z ∷ zs) x y m e = elim (here_or_there z x zs m) [
    | inl g ↦ let h : f z ≡ Some y = subst (λ w. f w ≡ Some y) (sym g) e in rw h (here y (filter_map f zs))
    | inr n ↦ cons_option-in (f z) (filter_map f zs) y (filter_map_from zs x y n e)
  ]

  cons_option-at : (z : X) (zs : List X) (y : Y) → ((m : Contains (filter_map f zs) y) → (x : X) × Contains zs x × (f x ≡ Some y)) → (o : Option Y) → f z ≡ o
      → Contains (cons_option o (filter_map f zs)) y → (x : X) × Contains (z ∷ zs) x × (f x ≡ Some y)
  cons_option-at z zs y next None e m = let r = next m in (r.0, there z r.0 zs r.1, r.2)
  cons_option-at z zs y next (Some w) e m = elim (here_or_there w y (filter_map f zs) m) [
    | inl g ↦ (z, here z zs, e ∙ ap Some g)
    | inr n ↦ let r = next n in (r.0, there z r.0 zs r.1, r.2)
  ]

  filter_map_at : (xs : List X) (y : Y) → Contains (filter_map f xs) y → (x : X) × Contains xs x × (f x ≡ Some y)
  filter_map_at [] y m = absurd (not_in_nil y m)
  filter_map_at (z ∷ zs) y m = cons_option-at z zs y (λ n. filter_map_at zs y n) (f z) refl m

-- ---- One more place that names an id

standing-same : (ms : List (ℕ × Standing)) (i id : ℕ) (s : Standing) → nat_eq i id ≡ true → standing (ms ++ (i, s) ∷ []) id ≡ s
standing-same ms i id s e = rw (
  filter-append (λ (m : ℕ × Standing). nat_eq m.0 id) ms ((i, s) ∷ []),
  e,
  last_or-push (filter (λ (m : ℕ × Standing). nat_eq m.0 id) ms) None (i, s),
) refl

standing-other : (ms : List (ℕ × Standing)) (i id : ℕ) (s : Standing) → nat_eq i id ≡ false → standing (ms ++ (i, s) ∷ []) id ≡ standing ms id
standing-other ms i id s e = rw (filter-append (λ (m : ℕ × Standing). nat_eq m.0 id) ms ((i, s) ∷ []), e, append-nil) refl

-- an id that is absent stays so behind ids that weren't
absent_stays : (is_so : Standing → Bool) → is_so Absent ≡ false → (left : Standing) (id : ℕ) (is : List ℕ) (ms : List (ℕ × Standing)) (place : ℕ)
    → first_not is_so left ms place is ≡ None → standing ms id ≡ Absent → standing (ms ++ each_is left is) id ≡ Absent
absent_stays is_so never left id [] ms place e a = rw append-nil a
absent_stays is_so never left id (i ∷ is) ms place e a = elim (cases_Bool (is_so (standing ms i))) [
  | inl q ↦ let more : first_not is_so left (ms ++ (i, left) ∷ []) (place + 1) is ≡ None = rw q at e in
      let other : nat_eq i id ≡ false = ne_eqb i id (λ f. both_ways (is_so (standing ms i)) (subst (λ z. is_so (standing ms z) ≡ false) (sym f) (ap is_so a ∙ never)) q) in
      subst (λ z. standing z id ≡ Absent) (append_assoc ms ((i, left) ∷ []) (each_is left is))
      (absent_stays is_so never left id is (ms ++ (i, left) ∷ []) (place + 1) more (standing-other ms i id left other ∙ a))
  | inr q ↦ let none : Some place ≡ None = rw q at e in cc none
]

-- ---- Steps

abbrev inputs_of : List LStep → List (List ℕ)
inputs_of ps = inputs (id_events_of ps)

-- the clause of an id that isn't absent is entailed
abbrev pub IdsJustified : List LStep → Type 0
IdsJustified ps = (id : ℕ) (c : List ℕ) → (standing_after ps id ≡ Absent → ⊥) → clause_of ps id ≡ Some c → Entails (inputs_of ps) c

Entails-push : (ps : List LStep) (p : LStep) (c : List ℕ) → Entails (inputs_of ps) c → Entails (inputs_of (ps ++ p ∷ [])) c
Entails-push ps p c h = rw (filter_map-append, filter_map-append) (Entails-append (inputs_of ps) (inputs_of (p ∷ [])) c h)

mentions-push : (ps : List LStep) (p : LStep) → flat_map mentions (ps ++ p ∷ []) ≡ flat_map mentions ps ++ mentions p
mentions-push ps p = rw (flat_map-append, append-nil) refl

-- a step that gives no clause, and leaves absent ids so
module _ (ps : List LStep) (p : LStep) (gives_none : given_clause p ≡ None)
    (stays : (id : ℕ) → standing_after ps id ≡ Absent → standing (flat_map mentions ps ++ mentions p) id ≡ Absent) where
  clause_of-kept : (id : ℕ) → clause_of (ps ++ p ∷ []) id ≡ clause_of ps id
  clause_of-kept id = rw (filter_map-append, gives_none, append-nil) refl

  justified-keep : IdsJustified ps → IdsJustified (ps ++ p ∷ [])
  justified-keep j = λ id c there_is is. Entails-push ps p c
      (j id c (λ a. there_is (rw (mentions-push ps p) (stays id a))) (sym (clause_of-kept id) ∙ is))

-- a step that gives a clause which is entailed, under an id
module _ (ps : List LStep) (p : LStep) (i : ℕ) (d : List ℕ) (gives : given_clause p ≡ Some (i, d)) (makes : mentions p ≡ (i, Active) ∷ [])
    (entails : Entails (inputs_of (ps ++ p ∷ [])) d) where
  justified-give : IdsJustified ps → IdsJustified (ps ++ p ∷ [])
  justified-give j = λ id c there_is is. elim (cases_Bool (nat_eq i id)) [
    | inl q ↦ let same : clause_of (ps ++ p ∷ []) id ≡ Some d =
        rw (filter_map-append, gives, filter-append, q, last_or-push) refl in
        let e : d ≡ c = cc (same, is) in subst (Entails (inputs_of (ps ++ p ∷ []))) e entails
    | inr q ↦ let kept : clause_of (ps ++ p ∷ []) id ≡ clause_of ps id = rw (filter_map-append, gives, filter-append, q, append-nil) refl in
        let stands : standing_after (ps ++ p ∷ []) id ≡ standing_after ps id = rw (mentions-push ps p, makes) (standing-other (flat_map mentions ps) i id Active q) in
        Entails-push ps p c (j id c (λ a. there_is (stands ∙ a)) (sym kept ∙ is))
  ]

-- ---- Lemmas

-- an active clause is among the listed ones
active_listed : (ps : List LStep) (id : ℕ) (c : List ℕ) → active_clause ps id ≡ Some c → Contains (active_id_clauses ps) c
active_listed ps id c e = elim (cases_Bool (is_active (standing_after ps id))) [
  | inl q ↦ let is : clause_of ps id ≡ Some c = rw q at e in listed (last named) refl is
  | inr q ↦ let none : None ≡ Some c = rw q at e in cc none
]
  where
    named : List (ℕ × List ℕ)
    named = filter (λ (p : ℕ × List ℕ). nat_eq p.0 id) (filter_map given_clause ps)

    listed : (o : Option (ℕ × List ℕ)) → last (filter (λ (p : ℕ × List ℕ). nat_eq p.0 id) (filter_map given_clause ps)) ≡ o → clause_or_none o ≡ Some c → Contains (active_id_clauses ps) c
    listed None l f = cc
    listed (Some p) l f =
        let m = filter_at (λ (p : ℕ × List ℕ). nat_eq p.0 id) (filter_map given_clause ps) p (last-in (filter (λ (p : ℕ × List ℕ). nat_eq p.0 id) (filter_map given_clause ps)) p l) in
        filter_map_from (λ (p : ℕ × List ℕ). active_clause ps p.0) (filter_map given_clause ps) p c m.0
        (subst (λ z. active_clause ps z ≡ Some c) (sym (eqb-true p.0 id m.1)) e)

is_active_there : (s : Standing) → is_active s ≡ true → s ≡ Absent → ⊥
is_active_there Active e f = cc
is_active_there Weakened e f = cc
is_active_there Absent e f = cc

-- the active clauses are entailed
active_entailed : (ps : List LStep) → IdsJustified ps → (id : ℕ) (c : List ℕ) → active_clause ps id ≡ Some c → Entails (inputs_of ps) c
active_entailed ps j id c e = elim (cases_Bool (is_active (standing_after ps id))) [
  | inl q ↦ let is : clause_of ps id ≡ Some c = rw q at e in j id c (is_active_there (standing_after ps id) q) is
  | inr q ↦ let none : None ≡ Some c = rw q at e in cc none
]

listed_satisfied : (ps : List LStep) → IdsJustified ps → (v : ℕ → Bool) → satisfies_formula v (inputs_of ps) ≡ true → satisfies_formula v (active_id_clauses ps) ≡ true
listed_satisfied ps j v f = all_from (satisfies_clause v) (active_id_clauses ps) (λ c m.
    let r = filter_map_at (λ (p : ℕ × List ℕ). active_clause ps p.0) (filter_map given_clause ps) c m in active_entailed ps j r.0.0 c r.2 v f)

-- hints that close from literals contradict them
pub hints_contradict : (ps : List LStep) (ls hs : List ℕ) → IdsJustified ps → hints_fail (active_clause ps) ls hs ≡ None → Contradicts (inputs_of ps) ls
hints_contradict ps ls hs j e = λ v f t.
    Contradicts-from_Closes (active_id_clauses ps) ls (hints_close (active_id_clauses ps) (active_clause ps) (active_listed ps) ls hs e) v (listed_satisfied ps j v f) t

lemma_entailed : (ps : List LStep) (d hs : List ℕ) → IdsJustified ps → hints_fail (active_clause ps) (map neg d) hs ≡ None → Entails (inputs_of ps) d
lemma_entailed ps d hs j e = λ v f. elim (cases_Bool (satisfies_clause v d)) [
  | inl q ↦ q
  | inr q ↦ absurd (hints_contradict ps (map neg d) hs j e v f (unsatisfied v d q))
]

pub none_broken : {A : Type 0} (rule : A → Rule) (o : Option A) → broken_at rule o ≡ [] → o ≡ None
none_broken rule None e = refl
none_broken rule (Some x) e = cc

pub first_nil : {A : Type 0} (xs ys : List A) → xs ++ ys ≡ [] → (xs ≡ []) × (ys ≡ [])
first_nil [] ys e = (refl, e)
first_nil (x ∷ xs) ys e = cc

same_standing : (ps : List LStep) (id : ℕ) → standing_after ps id ≡ Absent → standing (flat_map mentions ps ++ []) id ≡ Absent
same_standing ps id a = rw append-nil a

-- a step that breaks no rule of its own keeps each clause that isn't absent justified
pub ids-justified-push : (ps : List LStep) (p : LStep) → own_id_faults ps p ≡ [] → IdsJustified ps → IdsJustified (ps ++ p ∷ [])
unfolding own_id_faults
ids-justified-push ps (lsteps.Input id d) e j = justified-give ps (lsteps.Input id d) id d refl refl
    (rw (filter_map-append, filter_map-append) (Entails-last (inputs_of ps) d)) j
ids-justified-push ps (lsteps.Lemma id d hs) e j = justified-give ps (lsteps.Lemma id d hs) id d refl refl
    (Entails-push ps (lsteps.Lemma id d hs) d (lemma_entailed ps d hs j (none_broken rules.Hint _ (first_nil _ _ e).1))) j
ids-justified-push ps (lsteps.Delete is) e j = justified-keep ps (lsteps.Delete is) refl
    (λ id a. absent_stays is_active refl Absent id is (flat_map mentions ps) 1 (none_broken rules.NotActive _ e) a) j
ids-justified-push ps (lsteps.Weaken is) e j = justified-keep ps (lsteps.Weaken is) refl
    (λ id a. absent_stays is_active refl Weakened id is (flat_map mentions ps) 1 (none_broken rules.NotActive _ e) a) j
ids-justified-push ps (lsteps.Restore is) e j = justified-keep ps (lsteps.Restore is) refl
    (λ id a. absent_stays is_weakened refl Active id is (flat_map mentions ps) 1 (none_broken rules.NotWeakened _ e) a) j
ids-justified-push ps (lsteps.Query c) e j = justified-keep ps (lsteps.Query c) refl (same_standing ps) j
ids-justified-push ps (lsteps.Status s) e j = justified-keep ps (lsteps.Status s) refl (same_standing ps) j
ids-justified-push ps (lsteps.Model m) e j = justified-keep ps (lsteps.Model m) refl (same_standing ps) j
ids-justified-push ps (lsteps.Core u hs) e j = justified-keep ps (lsteps.Core u hs) refl (same_standing ps) j
