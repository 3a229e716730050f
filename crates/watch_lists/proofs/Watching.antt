-- What kept lists tell of a clause that watches.
use Rattle.std.proofs.Common.{◌≡◌, ℕ, zero, suc, ◌+◌, ◌*◌, ◌<◌, ◌≤◌, ◌⊎◌, List, length, Some, refl, sym, ap, ◌∙◌, subst, inl, inr, cond, true, false, Bool, eq-eqb, arith}
use Rattle.std.specs.Prelude.{slice_index, slice_set, nat_le}
use Rattle.std.proofs.lemmas.Bool.{both_ways}
use Rattle.std.proofs.lemmas.Bool.Decides.{leb_tells}
use Rattle.std.proofs.Math.ListN.{length-set}
use Rattle.lits.specs.Clause.{has}
use Rattle.clause_store.specs.Clauses.{Store, IsOnce, IsStore, slot_at, literals_at}
use Rattle.watch_lists.specs.Watch.{WatchView, node_at}
use Rattle.watch_lists.specs.Watched.{watch_place}
use Rattle.watch_lists.specs.Lists.{put_places, cut_places, last_in, id_at, lits_of, watch_places, IsWatching, HasRoom}
use Rattle.watch_lists.proofs.Members.{has-place, differs}
use Rattle.watch_lists.proofs.Placed.{lits-literals}
use Rattle.watch_lists.proofs.FirstTwo.{firsts-apart, once-lits}

pub low_cases : (q : ℕ) → q ≤ 1 → (q ≡ 0) ⊎ (q ≡ 1)
low_cases zero low = inl refl
low_cases (suc zero) low = inr refl
low_cases (suc (suc q)) low = absurd (omega arith)

-- a literal that a list has at one of its first two places
pub watch_place-is : (ls : List ℕ) (p l : ℕ) → IsOnce ls → 2 ≤ length ls → p ≤ 1 → slice_index ls p ≡ l → watch_place ls l ≡ p
watch_place-is ls zero l o big low e = ap (λ b. cond b 0 1) (eq-eqb (slice_index ls 0) l e)
watch_place-is ls (suc p) l o big low e =
    let n : p ≡ 0 = omega arith in
    ap (λ b. cond b 0 1) (differs (slice_index ls 0) l (λ g. both_ways _ (firsts-apart ls o big) (eq-eqb (slice_index ls 1) (slice_index ls 0) (sym (ap (λ z. slice_index ls (suc z)) n) ∙ e ∙ sym g)))) ∙ ap suc (sym n)

-- the place of a watched literal
pub watching-tied : (m : Store) (s p l : ℕ) → IsStore m → IsWatching m s p l → watch_places m s l ≡ p
watching-tied m s p l st w = watch_place-is (lits_of m s) p l (once-lits m (id_at m s) s st w.slot) w.long w.low w.lit

-- it watches one literal at a place
pub watching-one : (m : Store) (s p a b : ℕ) → IsWatching m s p a → IsWatching m s p b → a ≡ b
watching-one m s p a b x y = sym x.lit ∙ y.lit

pub watching-has : (m : Store) (s p l : ℕ) → IsWatching m s p l → has (lits_of m s) l ≡ true
watching-has m s p l w =
    let long = w.long in
    let low = w.low in
    ap (has (lits_of m s)) (sym w.lit) ∙ has-place (lits_of m s) p (omega arith)

-- a literal of the list of an active clause is one of its set
pub literal-has : (m : Store) (s l : ℕ) → IsStore m → slot_at m (id_at m s) ≡ Some s → has (lits_of m s) l ≡ true → has (literals_at m (id_at m s)) l ≡ true
literal-has m s l st e h = sym (lits-literals m (id_at m s) s l st e) ∙ h

-- its nodes are in the table
pub watching-fits : (m : Store) (places : List ℕ) → ((q s : ℕ) → slot_at m q ≡ Some s → node_at s 1 < length places) → (s p l : ℕ) → IsWatching m s p l → node_at s p < length places
watching-fits m places fits s p l w =
    let f : 2 * s + 1 < length places = fits (id_at m s) s w.slot in
    let low = w.low in
    omega arith

-- the table keeps its length
pub put-long : (places : List ℕ) (es : List WatchView) (s p : ℕ) → length (put_places places es s p) ≡ length places
put-long places es s p = length-set places (node_at s p) (length es)

pub cut-long : (places : List ℕ) (es : List WatchView) (p i : ℕ) → length (cut_places places es p i) ≡ length places
cut-long places es p i = by_case (nat_le (length es) (i + 1))
  where
    by_case : (b : Bool) → length (cond b places (slice_set places (node_at (last_in es).slot p) i)) ≡ length places
    by_case true = refl
    by_case false = length-set places (node_at (last_in es).slot p) i

-- the place of the last entry matters where it isn't taken out
pub cut-same : (places : List ℕ) (es : List WatchView) (p q i : ℕ) → (i + 1 < length es → p ≡ q) → cut_places places es p i ≡ cut_places places es q i
cut-same places es p q i e = elim (leb_tells (length es) (i + 1)) [
  | inl y ↦ rw y.0 refl
  | inr n ↦ ap (λ z. cut_places places es z i) (e (let lt = n.1 in omega arith))
]

pub room-same : (m n : Store) (l a b : ℕ) → ((q : ℕ) → literals_at n q ≡ literals_at m q) → b ≡ a → HasRoom m l a → HasRoom n l b
room-same m n l a b same e r = record {
  ids = r.ids;
  each = λ q h. r.each q (ap (λ z. has z l) (sym (same q)) ∙ h);
  few = subst (λ z. length r.ids ≤ z) (sym e) r.few;
}
