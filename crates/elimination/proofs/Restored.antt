-- Restorings of copies with different ids are due one after another, and what stands behind them.
use Rattle.std.proofs.Common.{◌≡◌, ◌≢◌, ℕ, ◌⊎◌, Bool, true, false, nat_eq, List, [], ◌∷◌, ◌++◌, map, filter, flat_map, Contains, Option, Some, None, refl, sym, ap, ◌∙◌, subst, inl, inr, eq-eqb}
use Rattle.std.specs.Prelude.{option_and_then}
use Rattle.std.specs.List.{IsDistinct, AllByRecursion}
use Rattle.std.proofs.lemmas.Bool.{cases_Bool, both_ways, ne_eqb}
use Rattle.lits.specs.Clause.{set_of}
use Rattle.lits.proofs.Members.{here, there, here_or_there, not_in_nil, filter_at}
use Rattle.session_rules.specs.declared.Told.{Told}
use Rattle.restore.specs.declared.lists.Kept.{Kept}
use Rattle.restore.specs.declared.lists.Elim.{Elim}
use Rattle.restore.proofs.Joined.{append_at, append_left, append_right, map_at, map_from, flat_at, flat_from}
use Rattle.elimination.specs.Steps.{Standing, weakened_in, if_weakened, after_step, after_steps, AreDue}
use Rattle.elimination.specs.Restoring.{ids_of, kept_of, restoring, restorings, AreCopies}

-- ---- Lists without repeats

module _ {X : Type 0} (P : X → Type 0) where
  pub all_rec_at : (xs : List X) → AllByRecursion P xs → (x : X) → Contains xs x → P x
  all_rec_at [] a x m = absurd (not_in_nil x m)
  all_rec_at (y ∷ xs) a x m = elim (here_or_there y x xs m) [ inl e ↦ subst P e a.0 | inr n ↦ all_rec_at xs a.1 x n ]

  pub all_rec_from : (xs : List X) → ((x : X) → Contains xs x → P x) → AllByRecursion P xs
  all_rec_from [] h = tt
  all_rec_from (x ∷ xs) h = (h x (here x xs), all_rec_from xs (λ y m. h y (there x y xs m)))

-- the first id differs from the later ones
pub apart_head : (k : Kept) (ks : List Kept) → IsDistinct nat_eq (ids_of (k ∷ ks)) → (j : Kept) → Contains ks j → j.id ≢ k.id
unfolding IsDistinct
apart_head k ks d j m e = both_ways _ (all_rec_at (λ y. nat_eq k.id y ≡ false) (ids_of ks) d.0 j.id (map_from (λ (i : Kept). i.id) ks j m)) (eq-eqb k.id j.id (sym e))

apart_cons : (k : Kept) (ks : List Kept) → ((j : Kept) → Contains ks j → j.id ≢ k.id) → IsDistinct nat_eq (ids_of ks) → IsDistinct nat_eq (ids_of (k ∷ ks))
unfolding IsDistinct
apart_cons k ks h d = (all_rec_from (λ y. nat_eq k.id y ≡ false) (ids_of ks) (λ y m. let j = map_at (λ (i : Kept). i.id) ks y m in ne_eqb k.id y (λ e. h j.0 j.1 (j.2 ∙ sym e))), d)

apart_rest : (k : Kept) (ks : List Kept) → IsDistinct nat_eq (ids_of (k ∷ ks)) → IsDistinct nat_eq (ids_of ks)
unfolding IsDistinct
apart_rest k ks d = d.1

apart_none : IsDistinct nat_eq (ids_of [])
unfolding IsDistinct
apart_none = tt

pub apart_back : (ks1 bs : List Kept) → IsDistinct nat_eq (ids_of (ks1 ++ bs)) → IsDistinct nat_eq (ids_of bs)
apart_back [] bs d = d
apart_back (k ∷ ks1) bs d = apart_back ks1 bs (apart_rest k (ks1 ++ bs) d)

-- fewer at the end
apart_less : (ks1 bs cs : List Kept) → ((k : Kept) → Contains cs k → Contains bs k) → IsDistinct nat_eq (ids_of (ks1 ++ bs)) → IsDistinct nat_eq (ids_of cs) → IsDistinct nat_eq (ids_of (ks1 ++ cs))
apart_less [] bs cs h d c = c
apart_less (k ∷ ks1) bs cs h d c = apart_cons k (ks1 ++ cs)
    (λ j m. apart_head k (ks1 ++ bs) d j (elim (append_at ks1 cs j m) [ inl n ↦ append_left ks1 bs j n | inr n ↦ append_right ks1 bs j (h j n) ]))
    (apart_less ks1 bs cs h (apart_rest k (ks1 ++ bs) d) c)

right_nil : (ks : List Kept) → ks ++ [] ≡ ks
right_nil [] = refl
right_nil (k ∷ ks) = ap (λ z. k ∷ z) (right_nil ks)

pub apart_front : (ks1 bs : List Kept) → IsDistinct nat_eq (ids_of (ks1 ++ bs)) → IsDistinct nat_eq (ids_of ks1)
apart_front ks1 bs d = subst (λ z. IsDistinct nat_eq (ids_of z)) (right_nil ks1) (apart_less ks1 bs [] (λ k m. absurd (not_in_nil k m)) d apart_none)

-- a clause of the first ones has another id than one of the later ones
pub apart_both : (ks1 bs : List Kept) → IsDistinct nat_eq (ids_of (ks1 ++ bs)) → (j k : Kept) → Contains ks1 j → Contains bs k → j.id ≢ k.id
apart_both [] bs d j k m n e = absurd (not_in_nil j m)
apart_both (i ∷ ks1) bs d j k m n e = elim (here_or_there i j ks1 m) [
  | inl q ↦ apart_head i (ks1 ++ bs) d k (append_right ks1 bs k n) (sym e ∙ ap (λ (z : Kept). z.id) (sym q))
  | inr q ↦ apart_both ks1 bs (apart_rest i (ks1 ++ bs) d) j k q n e
]

-- the clauses of some entries
pub kept_at : (es : List Elim) (k : Kept) → Contains (kept_of es) k → (e : Elim) × Contains es e × Contains e.clauses k
kept_at es k m = flat_at (λ (e : Elim). e.clauses) es k m

pub kept_from : (es : List Elim) (e : Elim) (k : Kept) → Contains es e → Contains e.clauses k → Contains (kept_of es) k
kept_from es e k m n = flat_from (λ (e : Elim). e.clauses) es e k m n

pub kept_chosen : (p : Elim → Bool) (es : List Elim) (k : Kept) → Contains (kept_of (filter p es)) k → Contains (kept_of es) k
kept_chosen p es k m = let e = kept_at (filter p es) k m in kept_from es e.0 k (filter_at p es e.0 e.1).0 e.2

pub apart_chosen : (p : Elim → Bool) (es : List Elim) → IsDistinct nat_eq (ids_of (kept_of es)) → IsDistinct nat_eq (ids_of (kept_of (filter p es)))
apart_chosen p [] d = d
apart_chosen p (e ∷ es) d = let r = apart_chosen p es (apart_back e.clauses (kept_of es) d) in elim (cases_Bool (p e)) [
  | inl y ↦ rw y (apart_less e.clauses (kept_of es) (kept_of (filter p es)) (kept_chosen p es) d r)
  | inr n ↦ rw n r
]

-- ---- One after another

-- what a restoring makes of the others
other_step : (f : ℕ → Option Standing) (k : Kept) (id : ℕ) → id ≢ k.id → after_step f (restoring k) id ≡ f id
other_step f k id ne = let t = ne_eqb id k.id ne in rw t refl

own_step : (f : ℕ → Option Standing) (k : Kept) → after_step f (restoring k) k.id ≡ Some (record { literals = set_of k.lits; active = true })
own_step f k = let t = eq-eqb k.id k.id refl in rw t refl

copies_rest : (f : ℕ → Option Standing) (k : Kept) (ks : List Kept) → AreCopies f (k ∷ ks) → AreCopies (after_step f (restoring k)) ks
copies_rest f k ks h = record {
  weakened = λ j m. ap (option_and_then if_weakened) (other_step f k j.id (apart_head k ks h.apart j m)) ∙ h.weakened j (there k j ks m);
  once = λ j m. h.once j (there k j ks m);
  clean = λ j m. h.clean j (there k j ks m);
  apart = apart_rest k ks h.apart;
}

pub restorings_due : (f : ℕ → Option Standing) (ks : List Kept) → AreCopies f ks → AreDue f (restorings ks)
restorings_due f [] h = tt
restorings_due f (k ∷ ks) h = ((h.once k (here k ks), h.weakened k (here k ks)), restorings_due (after_step f (restoring k)) ks (copies_rest f k ks h))

pub restored_other : (f : ℕ → Option Standing) (ks : List Kept) (id : ℕ) → ((k : Kept) → Contains ks k → id ≢ k.id) → after_steps f (restorings ks) id ≡ f id
restored_other f [] id h = refl
restored_other f (k ∷ ks) id h = restored_other (after_step f (restoring k)) ks id (λ j m. h j (there k j ks m)) ∙ other_step f k id (h k (here k ks))

pub restored_back : (f : ℕ → Option Standing) (ks : List Kept) → IsDistinct nat_eq (ids_of ks) → (k : Kept) → Contains ks k → after_steps f (restorings ks) k.id ≡ Some (record { literals = set_of k.lits; active = true })
restored_back f [] d k m = absurd (not_in_nil k m)
restored_back f (j ∷ ks) d k m = elim (here_or_there j k ks m) [
  | inl e ↦ subst (λ (z : Kept). after_steps f (restorings (j ∷ ks)) z.id ≡ Some (record { literals = set_of z.lits; active = true })) e
      (restored_other (after_step f (restoring j)) ks j.id (λ i n q. apart_head j ks d i n (sym q)) ∙ own_step f j)
  | inr n ↦ restored_back (after_step f (restoring j)) ks (apart_rest j ks d) k n
]

-- ---- Some of the clauses

pub copies_same : (f g : ℕ → Option Standing) (ks : List Kept) → ((id : ℕ) → g id ≡ f id) → AreCopies f ks → AreCopies g ks
copies_same f g ks e h = record { weakened = λ k m. ap (option_and_then if_weakened) (e k.id) ∙ h.weakened k m; once = h.once; clean = h.clean; apart = h.apart }

copies_front : (f : ℕ → Option Standing) (ks1 bs : List Kept) → AreCopies f (ks1 ++ bs) → AreCopies f ks1
copies_front f ks1 bs h = record {
  weakened = λ k m. h.weakened k (append_left ks1 bs k m);
  once = λ k m. h.once k (append_left ks1 bs k m);
  clean = λ k m. h.clean k (append_left ks1 bs k m);
  apart = apart_front ks1 bs h.apart;
}

-- the clauses behind others that were restored
pub copies_later : (f g : ℕ → Option Standing) (ks1 bs cs : List Kept) → AreCopies f (ks1 ++ (bs ++ cs)) → ((id : ℕ) → g id ≡ after_steps f (restorings ks1) id) → AreCopies g bs
copies_later f g [] bs cs h e = copies_same f g bs e (copies_front f bs cs h)
copies_later f g (k ∷ ks1) bs cs h e = copies_later (after_step f (restoring k)) g ks1 bs cs (copies_rest f k (ks1 ++ (bs ++ cs)) h) e

pub copies_chosen : (f : ℕ → Option Standing) (p : Elim → Bool) (es : List Elim) → AreCopies f (kept_of es) → AreCopies f (kept_of (filter p es))
copies_chosen f p es h = record {
  weakened = λ k m. h.weakened k (kept_chosen p es k m);
  once = λ k m. h.once k (kept_chosen p es k m);
  clean = λ k m. h.clean k (kept_chosen p es k m);
  apart = apart_chosen p es h.apart;
}
