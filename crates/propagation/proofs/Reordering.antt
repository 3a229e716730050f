-- Changes of one list's order.
use Rattle.std.proofs.Common.{◌≡◌, ◌≢◌, ℕ, ◌<◌, ◌≤◌, length, Some, refl, sym, ap, ◌∙◌, subst, inl, inr, arith, cond, eq-eqb}
use Rattle.std.specs.Prelude.{slice_index, option_map}
use Rattle.std.specs.List.{swap}
use Rattle.std.proofs.lemmas.List.Edits.{length-swap}
use Rattle.std.specs.Cmp.{nat_cmp_total}
use Rattle.std.specs.FinMap.{get, insert, same_map, get-insert, nat_cmp-IsAntisymmetric}
use Rattle.session_rules.specs.Logic.{has}
use Rattle.clause_store.specs.Clauses.{ClauseEntry, Place, Store, slot_at, lits_at, literals_at, clause_at, swapped, with_place, with_swap}
use Rattle.watch_lists.specs.Watched.{Watched, IsWatched}
use Rattle.watch_lists.proofs.Members.{differs}
use Rattle.watch_lists.proofs.Placed.{active, lits-literals}
use Rattle.watch_lists.proofs.Swapping.{swap-slot, swap-lits, swap-literals, at-first, at-third}
use Rattle.propagation.specs.Clauses.{Clause, Clauses, clause_of, clauses_of}
use Rattle.propagation.specs.Watching.{IsReordered, IsBrought, IsPair}
use Rattle.propagation.proofs.ClausesMap.{get-clauses_of}
use Rattle.propagation.proofs.Changes.{clauses_of-insert, cases, ties, differs as apart}

-- ---- What is seen of an exchange

same_seen : (h : ClauseEntry) (p : Place) (a b : ℕ) → h.place ≡ Some p → clause_of (with_place (swapped a b) h) ≡ clause_of h
same_seen h p a b e = rw e refl

pub seen-swap : (m : Store) (id s a b : ℕ) → slot_at m id ≡ Some s → clauses_of (with_swap m id a b) ≡ clauses_of m
seen-swap m id s a b at = let r = active m id s at in
    let here : clause_at m id ≡ r.h = rw r.is refl in
    clauses_of-insert m id (with_place (swapped a b) (clause_at m id))
    ∙ ap (insert (clauses_of m) id) (ap (λ z. clause_of (with_place (swapped a b) z)) here ∙ same_seen r.h r.p a b r.place)
    ∙ put_back (clauses_of m) id (clause_of r.h) (get-clauses_of m id ∙ ap (option_map clause_of) r.is)
  where
    put_back : (cs : Clauses) (k : ℕ) (c : Clause) → get cs k ≡ Some c → insert cs k c ≡ cs
    put_back cs k c g = same_map nat_cmp_total nat_cmp-IsAntisymmetric _ _ (λ q. elim (cases q k) [
      | inl y ↦ rw (y, get-insert nat_cmp_total, ties k) (sym g)
      | inr n ↦ rw (get-insert nat_cmp_total, apart q k n) refl
    ])

-- ---- One exchange

pub record Exchanges (old new : Watched) (id s a b : ℕ) : Type 0 where
  pub slot : slot_at old.clauses id ≡ Some s
  pub before : IsWatched old
  pub after : IsWatched new
  pub is : new.clauses ≡ with_swap old.clauses id a b
  pub wide : length new.lists ≡ length old.lists

module _ (old new : Watched) (id s a b : ℕ) (x : Exchanges old new id s a b) where
  pub slots-exchanged : (q : ℕ) → slot_at new.clauses q ≡ slot_at old.clauses q
  slots-exchanged q = ap (λ z. slot_at z q) x.is ∙ swap-slot old.clauses id a b q

  pub list-exchanged : lits_at new.clauses id ≡ swap (lits_at old.clauses id) a b
  list-exchanged = ap (λ z. lits_at z id) x.is ∙ swap-lits old.clauses id a b id ∙ ap (λ c. cond c (swap (lits_at old.clauses id) a b) (lits_at old.clauses id)) (eq-eqb id id refl)

  others-exchanged : (q : ℕ) → q ≢ id → lits_at new.clauses q ≡ lits_at old.clauses q
  others-exchanged q n = ap (λ z. lits_at z q) x.is ∙ swap-lits old.clauses id a b q ∙ ap (λ c. cond c (swap (lits_at old.clauses q) a b) (lits_at old.clauses q)) (differs id q (λ e. n (sym e)))

  literals-exchanged : (q : ℕ) → literals_at new.clauses q ≡ literals_at old.clauses q
  literals-exchanged q = ap (λ z. literals_at z q) x.is ∙ swap-literals old.clauses id a b q

  pub reordered : IsReordered id old new
  reordered = record {
    slots = slots-exchanged;
    seen = ap clauses_of x.is ∙ seen-swap old.clauses id s a b x.slot;
    members = λ q l. elim (cases q id) [
      | inl y ↦ subst (λ z. has (lits_at new.clauses z) l ≡ has (lits_at old.clauses z) l) (sym y)
          (lits-literals new.clauses id s l x.after.store (slots-exchanged id ∙ x.slot) ∙ ap (λ z. has z l) (literals-exchanged id) ∙ sym (lits-literals old.clauses id s l x.before.store x.slot))
      | inr n ↦ ap (λ z. has z l) (others-exchanged q n)
    ];
    others = others-exchanged;
    long = λ q. elim (cases q id) [
      | inl y ↦ subst (λ z. length (lits_at new.clauses z) ≡ length (lits_at old.clauses z)) (sym y) (ap length list-exchanged ∙ length-swap (lits_at old.clauses id) a b)
      | inr n ↦ ap length (others-exchanged q n)
    ];
    wide = x.wide;
  }

-- ---- One literal

pub brought_here : (w : Watched) (id place k : ℕ) → k ≡ place → IsBrought id place k w w
brought_here w id place k e = record {
  order = record { slots = λ q. refl; seen = refl; members = λ q x. refl; others = λ q n. refl; long = λ q. refl; wide = refl };
  here = ap (slice_index (lits_at w.clauses id)) (sym e);
  others = λ j m n. refl;
}

pub brought_later : (old new : Watched) (id s place k : ℕ) → Exchanges old new id s place k → place ≤ 1 → 2 ≤ k → k < length (lits_at old.clauses id) → IsBrought id place k old new
brought_later old new id s place k x low le lt =
    let list = list-exchanged old new id s place k x in
    let first : place < length (lits_at old.clauses id) = omega arith in
    record {
      order = reordered old new id s place k x;
      here = ap (λ z. slice_index z place) list ∙ at-first (lits_at old.clauses id) place k first lt;
      others = λ j m n. ap (λ z. slice_index z j) list ∙ at-third (lits_at old.clauses id) place k j first lt m n;
    }

-- ---- Two literals

then_reordered : (id : ℕ) (a b c : Watched) → IsReordered id a b → IsReordered id b c → IsReordered id a c
then_reordered id a b c x y = record {
  slots = λ q. y.slots q ∙ x.slots q;
  seen = y.seen ∙ x.seen;
  members = λ q l. y.members q l ∙ x.members q l;
  others = λ q n. y.others q n ∙ x.others q n;
  long = λ q. y.long q ∙ x.long q;
  wide = y.wide ∙ x.wide;
}

-- where the one stands second already
pub pair_second : (a b : Watched) (id i j : ℕ) → i < j → i ≡ 1 → IsBrought id 0 j a b → IsPair id i j a b
pair_second a b id i j lt e x =
    let m : ◌≢◌ {A = ℕ} 1 0 = omega arith in
    let n : 1 ≢ j = omega arith in
    record {
      order = x.order;
      first_two = inr (x.here, x.others 1 m n ∙ ap (slice_index (lits_at a.clauses id)) (sym e));
    }

pub pair_put : (a b c : Watched) (id i j : ℕ) → i < j → IsBrought id 0 i a b → IsBrought id 1 j b c → IsPair id i j a c
pair_put a b c id i j lt x y =
    let m : ◌≢◌ {A = ℕ} 0 1 = omega arith in
    let n : 0 ≢ j = omega arith in
    let p : j ≢ 0 = omega arith in
    let q : j ≢ i = omega arith in
    record {
      order = then_reordered id a b c x.order y.order;
      first_two = inl (y.others 0 m n ∙ x.here, y.here ∙ x.others j p q);
    }
