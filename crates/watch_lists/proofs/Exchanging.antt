-- The entry of a slot and a place is where the table says.
use Rattle.std.proofs.Common.{◌≡◌, ℕ, ◌+◌, ◌*◌, ◌<◌, ◌≤◌, List, length, get_or, Some, refl, sym, ap, ◌∙◌, subst, arith}
use Rattle.std.specs.Prelude.{slice_index}
use Rattle.std.proofs.lemmas.List.{get_or_read_under}
use Rattle.clause_store.specs.Clauses.{Store, IsSlot, IsStore, slot_at, lits_at, with_swap}
use Rattle.watch_lists.specs.Watch.{node_at}
use Rattle.watch_lists.specs.Watched.{Watched, entry_at, watch_at, watch_place}
use Rattle.watch_lists.specs.Lists.{RowView, watches_at, id_at, lits_of, watch_places, IsHere, nobody, StandsIn, AreKept, CanMove, seen}
use Rattle.watch_lists.proofs.Placed.{id_at-slot, id_at-is}
use Rattle.watch_lists.proofs.Calling.{lists_seen}

-- a clause's literal is to be exchanged for a later one
pub record Exchanges (m : Store) (rows : List RowView) (places : List ℕ) (id s p k l i : ℕ) : Type 0 where
  pub kept : AreKept nobody m rows places
  pub slot : slot_at m id ≡ Some s
  pub low : p ≤ 1
  pub later : 2 ≤ k
  pub within : k < length (lits_at m id)
  pub lit : l ≡ slice_index (lits_at m id) p
  pub at : i ≡ slice_index places (node_at s p)

module _ (m : Store) (rows : List RowView) (places : List ℕ) (id s p k l i : ℕ) (x : Exchanges m rows places id s p k l i) where
  pub id_here : id_at m s ≡ id
  id_here = id_at-is m id s x.kept.stored x.slot

  watching : IsHere nobody m s p l
  watching = (
    record {
      slot = id_at-slot m id s x.slot;
      long = subst (λ q. 2 ≤ length (lits_at m q)) (sym id_here) (let a = x.within in let b = x.later in omega arith);
      low = x.low;
      lit = ap (λ q. slice_index (lits_at m q) p) id_here ∙ sym x.lit;
    },
    refl,
  )

  stands : StandsIn rows places s p l
  stands = x.kept.listed.here s p l watching

  pub entry_slot : (entry_at (watches_at rows l) i).slot ≡ s
  entry_slot = ap (λ j. (entry_at (watches_at rows l) j).slot) x.at ∙ stands.slot

  pub entry_place : watch_places m (entry_at (watches_at rows l) i).slot l ≡ p
  entry_place = ap (λ t. watch_places m t l) entry_slot ∙ x.kept.listed.tied s p l watching

  pub can_exchange : CanMove m rows places l i k
  can_exchange = record {
    kept = x.kept;
    within = subst (λ j. j < length (watches_at rows l)) (sym x.at) stands.within;
    later = x.later;
    in_bounds = subst (λ t. k < length (lits_of m t)) (sym entry_slot) (subst (λ q. k < length (lits_at m q)) (sym id_here) x.within);
  }

-- what the call knows of it
pub exchanges : (m : Store) (rows : List RowView) (places : List ℕ) (w : Watched) (s p k l i n : ℕ) → AreKept nobody m rows places → seen m rows ≡ w → (b : IsSlot w.clauses s) → p ≤ 1 → 2 ≤ k
    → ((id : ℕ) → slot_at w.clauses id ≡ Some s → k < length (lits_at w.clauses id)) → ((id : ℕ) → slot_at m id ≡ Some s → l ≡ slice_index (lits_at m id) p) → i ≡ get_or places (2 * n + p) i → n ≡ s → Exchanges m rows places b.0 s p k l i
exchanges m rows places w s p k l i n kept v b low later within lit at e =
    let slot : slot_at m b.0 ≡ Some s = subst (λ z. slot_at z.clauses b.0 ≡ Some s) (sym v) b.1 in
    let fits : node_at s 1 < length places = kept.fits b.0 s slot in
    record {
      kept = kept;
      slot = slot;
      low = low;
      later = later;
      within = subst (λ z. k < length (lits_at z.clauses b.0)) (sym v) (within b.0 b.1);
      lit = lit b.0 slot;
      at = get_or_read_under places (2 * n + p) (length places) i 0 at (omega arith) refl ∙ ap (λ t. slice_index places (2 * t + p)) e;
    }

pub exchanged : (m : Store) (rows : List RowView) (places : List ℕ) (w : Watched) (id q s p k l i : ℕ) → Exchanges m rows places id s p k l i → seen m rows ≡ w → slot_at w.clauses q ≡ Some s
    → with_swap m (id_at m (entry_at (watches_at rows l) i).slot) (watch_places m (entry_at (watches_at rows l) i).slot l) k ≡ with_swap w.clauses q p k
exchanged m rows places w id q s p k l i x v e =
    let slot : slot_at m q ≡ Some s = subst (λ z. slot_at z.clauses q ≡ Some s) (sym v) e in
    let at : id_at m (entry_at (watches_at rows l) i).slot ≡ q = ap (id_at m) (entry_slot m rows places id s p k l i x) ∙ id_at-is m q s x.kept.stored slot in
    (λ j. with_swap m (at j) (entry_place m rows places id s p k l i x j) k) ∙ ap (λ z. with_swap z.clauses q p k) v

-- an entry's literal is exchanged, as callers see it
pub moved : (m : Store) (rows : List RowView) (w : Watched) (l i k q : ℕ) → IsStore m → seen m rows ≡ w → slot_at w.clauses q ≡ Some (watch_at w l i).slot
    → with_swap m (id_at m (entry_at (watches_at rows l) i).slot) (watch_places m (entry_at (watches_at rows l) i).slot l) k ≡ with_swap w.clauses q (watch_place (lits_at w.clauses q) l) k
moved m rows w l i k q st v e =
    let same : entry_at (watches_at rows l) i ≡ watch_at (seen m rows) l i = ap (λ es. entry_at es i) (sym (lists_seen rows l)) in
    let slot : slot_at m q ≡ Some (entry_at (watches_at rows l) i).slot = subst (λ z. slot_at z.clauses q ≡ Some (watch_at z l i).slot) (sym v) e ∙ ap (λ x. Some x.slot) (sym same) in
    let at : id_at m (entry_at (watches_at rows l) i).slot ≡ q = id_at-is m q (entry_at (watches_at rows l) i).slot st slot in
    (λ j. with_swap m (at j) (watch_place (lits_at m (at j)) l) k) ∙ ap (λ z. with_swap z.clauses q (watch_place (lits_at z.clauses q) l) k) v
