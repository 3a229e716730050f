-- An entry of a literal's list, and what holds of its clause.
use Rattle.std.proofs.Common.{◌≡◌, ℕ, suc, zero, ◌-◌, ◌<◌, ◌≤◌, List, [], ◌∷◌, length, take, get_or, Some, sym, ap, ◌∙◌, subst, inl, inr, arith, true, false}
use Rattle.std.specs.Prelude.{slice_index}
use Rattle.std.proofs.lemmas.List.{get_or_default}
use Rattle.std.proofs.lemmas.Bool.{both_ways, false_from_ne_true}
use Rattle.lits.specs.Literal.{var, neg}
use Rattle.session_rules.specs.Logic.{has, is_falsified}
use Rattle.lits.proofs.Members.{has_at}
use Rattle.clause_store.specs.Clauses.{Store, IsStore, IsSlot, slot_at, lits_at}
use Rattle.watch_lists.specs.Watch.{WatchView, no_watch}
use Rattle.watch_lists.specs.Watched.{Watched, IsWatched, IsWatch, list_at, entry_at, watch_at, watch_place, slots_in}
use Rattle.watch_lists.proofs.Members.{has-here, has-there, has-place, member_cases}
use Rattle.watch_lists.proofs.Placed.{lits-literals}
use Rattle.watch_lists.proofs.FirstTwo.{watch_place-low}
use Rattle.propagation.specs.declared.TrailEntry.{TrailEntry}
use Rattle.propagation.specs.Clauses.{clauses_of, slot_of, active_at}
use Rattle.propagation.specs.Engine.{IsEngine, IsReason}
use Rattle.propagation.specs.Watching.{engine_of, HasTwo, IsCovered, IsBrought, IsMoved, IsRewatched}
use Rattle.propagation.proofs.Changes.{cases, literals_seen, literals-reserved}
use Rattle.propagation.proofs.Covering.{has_take}
use Rattle.propagation.proofs.Advancing.{moved_none}
use Rattle.propagation.proofs.Settling.{AreFalse, unit_found, false_found}

-- ---- Lists

-- a list with an entry is that of a reserved variable
pub listed_reserved : (ls : List (List WatchView)) (l i : ℕ) → i < length (list_at ls l) → l < length ls
listed_reserved [] l i lt = absurd (omega arith)
listed_reserved (x ∷ ls) zero i lt = omega arith
listed_reserved (x ∷ ls) (suc l) i lt = let r = listed_reserved ls l i lt in omega arith

pub slot_listed : (es : List WatchView) (i : ℕ) → i < length es → has (slots_in es) (entry_at es i).slot ≡ true
slot_listed [] i lt = absurd (omega arith)
slot_listed (e ∷ es) zero lt = has-here e.slot (slots_in es)
slot_listed (e ∷ es) (suc i) lt = has-there e.slot (entry_at es i).slot (slots_in es) (slot_listed es i (omega arith))

-- the place of a slot among the first entries
pub record StandsAt (es : List WatchView) (n t : ℕ) : Type 0 where
  pub at : ℕ
  pub before : at < n
  pub within : at < length es
  pub slot : (entry_at es at).slot ≡ t

pub slot_place : (n : ℕ) (es : List WatchView) (t : ℕ) → has (slots_in (take n es)) t ≡ true → StandsAt es n t
slot_place zero es t m = absurd (let g : false ≡ true = m in cc g)
slot_place (suc n) [] t m = absurd (let g : false ≡ true = m in cc g)
slot_place (suc n) (e ∷ es) t m = elim (member_cases e.slot t (slots_in (take n es)) m) [
  | inl y ↦ record { at = zero; before = omega arith; within = omega arith; slot = sym y }
  | inr y ↦ let r = slot_place n es t y in record { at = suc r.at; before = let lt = r.before in omega (arith, lt); within = let lt = r.within in omega (arith, lt); slot = r.slot }
]

pub slot_early : (n : ℕ) (es : List WatchView) (k : ℕ) → k < n → k < length es → has (slots_in (take n es)) (entry_at es k).slot ≡ true
slot_early zero es k lt le = absurd (omega arith)
slot_early (suc n) [] k lt le = absurd (omega arith)
slot_early (suc n) (e ∷ es) zero lt le = has-here e.slot (slots_in (take n es))
slot_early (suc n) (e ∷ es) (suc k) lt le = has-there e.slot (entry_at es k).slot (slots_in (take n es)) (slot_early n es k (omega arith) (omega arith))

-- ---- An entry's clause

pub entry_slot : (w : Watched) (l i : ℕ) → IsWatched w → i < length (list_at w.lists l) → IsSlot w.clauses (watch_at w l i).slot
entry_slot w l i k lt = k.slots l (watch_at w l i).slot (slot_listed (list_at w.lists l) i lt)

-- the variables of a clause's literals are reserved
pub lits_reserved : (m : Store) (ss : List TrailEntry) (n id s l : ℕ) → IsStore m → IsEngine (engine_of m ss n) → slot_at m id ≡ Some s → has (lits_at m id) l ≡ true → var l ≤ n
lits_reserved m ss n id s l k e at h = literals-reserved (engine_of m ss n) id l e (has_at _ l (ap (λ z. has z l) (literals_seen m id) ∙ sym (lits-literals m id s l k at) ∙ h))

pub each_reserved : (m : Store) (ss : List TrailEntry) (n id s : ℕ) (ls : List ℕ) → IsStore m → IsEngine (engine_of m ss n) → slot_at m id ≡ Some s → lits_at m id ≡ ls → (k : ℕ) → k < length ls → var (slice_index ls k) ≤ n
each_reserved m ss n id s ls k e at same j lt = lits_reserved m ss n id s (slice_index ls j) k e at (ap (λ z. has z (slice_index ls j)) same ∙ has-place ls j lt)

-- the variables of blockers are
pub blocker_reserved : (w : Watched) (ss : List TrailEntry) (n l i : ℕ) → IsWatched w → IsEngine (engine_of w.clauses ss n) → i < length (list_at w.lists l) → var (watch_at w l i).blocker ≤ n
blocker_reserved w ss n l i k e lt =
    let s = entry_slot w l i k lt in
    lits_reserved w.clauses ss n s.0 (watch_at w l i).slot (watch_at w l i).blocker k.store e s.1 (k.entries s.0 l i lt s.1).blocker

-- a clause that has the literal of an entry
pub record Beside (m : Store) (id s : ℕ) (trues ls : List ℕ) (w other p : ℕ) : Type 0 where
  pub store : IsStore m
  pub slot : slot_at m id ≡ Some s
  pub list : lits_at m id ≡ ls
  pub low : p ≤ 1
  pub long : 2 ≤ length ls
  pub here : slice_index ls p ≡ w
  pub beside : other ≡ slice_index ls (1 - p)
  pub falsified : has trues (neg w) ≡ true

-- an entry was read
pub record Reads (w : Watched) (l i s : ℕ) (list : List WatchView) (e : WatchView) : Type 0 where
  pub sound : IsWatched w
  pub within : i < length (list_at w.lists l)
  pub list_is : list ≡ list_at w.lists l
  pub entry_is : e ≡ get_or list i e
  pub slot_is : s ≡ e.slot

module _ (w : Watched) (l i s : ℕ) (list : List WatchView) (e : WatchView) (r : Reads w l i s list e) where
  pub reads_entry : e ≡ watch_at w l i
  reads_entry = r.entry_is ∙ ap (λ z. get_or z i e) r.list_is ∙ get_or_default (list_at w.lists l) i e no_watch r.within

  pub reads_slot : s ≡ (watch_at w l i).slot
  reads_slot = r.slot_is ∙ ap (λ z. z.slot) reads_entry

  pub reads_active : IsSlot w.clauses s
  reads_active = subst (IsSlot w.clauses) (sym reads_slot) (entry_slot w l i r.sound r.within)

-- and the literals of its clause
pub record Looks (w : Watched) (l i s : ℕ) (list : List WatchView) (e : WatchView) (ls : List ℕ) : Type 0 where
  pub reads : Reads w l i s list e
  pub lits : (id : ℕ) → slot_at w.clauses id ≡ Some s → lits_at w.clauses id ≡ ls

module _ (w : Watched) (l i s : ℕ) (list : List WatchView) (e : WatchView) (ls : List ℕ) (k : Looks w l i s list e ls) where
  looked : IsSlot w.clauses s
  looked = reads_active w l i s list e k.reads

  pub looks_slot : (id : ℕ) → slot_at w.clauses id ≡ Some (watch_at w l i).slot → slot_at w.clauses id ≡ Some s
  looks_slot id at = at ∙ ap Some (sym (reads_slot w l i s list e k.reads))

  pub looks_lits : (id : ℕ) → slot_at w.clauses id ≡ Some (watch_at w l i).slot → lits_at w.clauses id ≡ ls
  looks_lits id at = k.lits id (looks_slot id at)

  pub looks_reserved : (ss : List TrailEntry) (n : ℕ) → IsEngine (engine_of w.clauses ss n) → (j : ℕ) → j < length ls → var (slice_index ls j) ≤ n
  looks_reserved ss n x = each_reserved w.clauses ss n looked.0 s ls k.reads.sound.store x looked.1 (k.lits looked.0 looked.1)

  pub looks_watch : IsWatch ls l e
  looks_watch = let at : slot_at w.clauses looked.0 ≡ Some (watch_at w l i).slot = looked.1 ∙ ap Some (reads_slot w l i s list e k.reads) in
      subst (λ z. IsWatch z l e) (k.lits looked.0 looked.1) (subst (λ z. IsWatch (lits_at w.clauses looked.0) l z) (sym (reads_entry w l i s list e k.reads)) (k.reads.sound.entries looked.0 l i k.reads.within at))

  pub looks_beside : (trues : List ℕ) (other : ℕ) → other ≡ slice_index ls (1 - watch_place ls l) → has trues (neg l) ≡ true → (id : ℕ) → slot_at w.clauses id ≡ Some (watch_at w l i).slot → Beside w.clauses id s trues ls l other (watch_place ls l)
  looks_beside trues other read f id at =
      let r = looks_watch in
      record {
        store = k.reads.sound.store;
        slot = looks_slot id at;
        list = looks_lits id at;
        low = watch_place-low ls l;
        long = r.long;
        here = r.lit;
        beside = read;
        falsified = f;
      }

  -- the id of the clause
  pub looks_here : (id : ℕ) × (slot_at w.clauses id ≡ Some (watch_at w l i).slot)
  looks_here = (looked.0, looked.1 ∙ ap Some (reads_slot w l i s list e k.reads))

-- ---- The two literals that a clause watches

module _ (m : Store) (id s : ℕ) (trues ls : List ℕ) (w other p : ℕ) (b : Beside m id s trues ls w other p) where
  false_here : (j : ℕ) → j ≡ p → has trues (neg (slice_index ls j)) ≡ true
  false_here j e = ap (λ i. has trues (neg (slice_index ls i))) e ∙ ap (λ x. has trues (neg x)) b.here ∙ b.falsified

  -- where all literals beyond the first two are false, the other of these follows
  pub beside_unit : AreFalse trues ls 2 (length ls) → IsReason (clauses_of m) trues other s
  beside_unit rest = unit_found m id s trues ls (1 - p) other b.store b.slot b.list (let e = b.long in omega (arith, e)) b.beside
      (λ j le lt. false_here j (let low = b.low in omega (arith, low)))
      (λ j le lt. elim (cases j p) [
        | inl y ↦ false_here j y
        | inr n ↦ rest j (let low = b.low in let two : 2 ≤ j = grind (arith, low) in two) lt
      ])

  -- where it is false too, the clause is false
  pub beside_false : AreFalse trues ls 2 (length ls) → has trues (neg other) ≡ true → (id : ℕ) × (c : List ℕ) × (slot_of (clauses_of m) id ≡ Some s) × (active_at (clauses_of m) id ≡ Some c) × (is_falsified trues c ≡ true)
  beside_false rest f = false_found m id s trues ls b.store b.slot b.list (λ j le lt. elim (cases j p) [
    | inl y ↦ false_here j y
    | inr n ↦ elim (cases j (1 - p)) [
      | inl z ↦ ap (λ i. has trues (neg (slice_index ls i))) z ∙ ap (λ x. has trues (neg x)) (sym b.beside) ∙ f
      | inr o ↦ rest j (let low = b.low in let two : 2 ≤ j = grind (arith, low) in two) lt
    ]
  ])

  pub beside_has : has ls other ≡ true
  beside_has = subst (λ z. has ls z ≡ true) (sym b.beside) (has-place ls (1 - p) (let e = b.long in omega (arith, e)))

-- the orders stay
pub moved_same : (trues : List ℕ) (m n : Store) → n ≡ m → IsMoved trues m n
moved_same trues m n e = subst (IsMoved trues m) (sym e) (moved_none trues m)

-- ---- Another literal in place of the false one

pub record Rewatches (trues : List ℕ) (old new : Watched) (id place k : ℕ) : Type 0 where
  pub brought : IsBrought id place k old new
  pub low : place ≤ 1
  pub later : 2 ≤ k
  pub within : k < length (lits_at old.clauses id)
  pub free : has trues (neg (slice_index (lits_at old.clauses id) k)) ≡ false

module _ (trues : List ℕ) (old new : Watched) (id place k : ℕ) (r : Rewatches trues old new id place k) where
  stays : slice_index (lits_at new.clauses id) (1 - place) ≡ slice_index (lits_at old.clauses id) (1 - place)
  stays = r.brought.others (1 - place) (λ e. let low = r.low in omega (arith, low, e)) (λ e. let later = r.later in omega (arith, later, e))

  pub rewatched : IsRewatched trues (lits_at old.clauses id) (lits_at new.clauses id) place
  rewatched = record {
    long = let e = r.brought.order.long id in let lt = r.within in let le = r.later in omega (arith, e, lt, le);
    free = ap (λ z. has trues (neg z)) r.brought.here ∙ r.free;
    other = stays;
  }

  kept_at : (ts : List ℕ) → ((x : ℕ) → has ts x ≡ true → has trues x ≡ true) → HasTwo ts (lits_at old.clauses id) → (j : ℕ) → j ≤ 1 → has ts (neg (slice_index (lits_at old.clauses id) j)) ≡ false → has ts (neg (slice_index (lits_at new.clauses id) j)) ≡ false
  kept_at ts w t j le f = elim (cases j place) [
    | inl y ↦ false_from_ne_true _ (λ e. both_ways _ rewatched.free (subst (λ z. has trues (neg (slice_index (lits_at new.clauses id) z)) ≡ true) y (w _ e)))
    | inr n ↦ ap (λ z. has ts (neg z)) (r.brought.others j n (λ e. let later = r.later in omega (arith, later, e))) ∙ f
  ]

  kept_two : (ts : List ℕ) → ((x : ℕ) → has ts x ≡ true → has trues x ≡ true) → HasTwo ts (lits_at old.clauses id) → HasTwo ts (lits_at new.clauses id)
  kept_two ts w t = record {
    long = rewatched.long;
    one = kept_at ts w t 0 (omega arith) t.one;
    two = kept_at ts w t 1 (omega arith) t.two;
  }

  kept_here : (h : ℕ) (ts : List ℕ) → ((x : ℕ) → has ts x ≡ true → has trues x ≡ true) → IsCovered ts h (lits_at old.clauses id) → IsCovered ts h (lits_at new.clauses id)
  kept_here h ts w (inl s) = inl (s.0, r.brought.order.members id s.0 ∙ s.1, s.2)
  kept_here h ts w (inr t) = inr (kept_two (take h ts) (λ x m. w x (has_take h x ts m)) t)

  pub rewatched_moved : IsMoved trues old.clauses new.clauses
  rewatched_moved = record {
    slots = r.brought.order.slots;
    seen = r.brought.order.seen;
    members = r.brought.order.members;
    kept = λ q h ts w c. elim (cases q id) [
      | inl y ↦ subst (λ z. IsCovered ts h (lits_at new.clauses z)) (sym y) (kept_here h ts w (subst (λ z. IsCovered ts h (lits_at old.clauses z)) y c))
      | inr n ↦ subst (λ z. IsCovered ts h z) (sym (r.brought.order.others q n)) c
    ];
  }
