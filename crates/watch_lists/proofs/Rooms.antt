-- A list has room for one entry more of each clause that has its literal and isn't in it.
use Rattle.std.proofs.Common.{◌≡◌, ◌≢◌, ℕ, suc, zero, ◌<◌, ◌≤◌, List, [], ◌∷◌, length, Some, true, refl, sym, ap, ◌∙◌, subst, inl, inr, arith}
use Rattle.std.proofs.lemmas.Bool.{false_from_ne_true}
use Rattle.std.proofs.lemmas.Option.{same_Some}
use Rattle.lits.specs.Clause.{has}
use Rattle.clause_store.specs.Clauses.{Store, IsOnce, IsStore, slot_at}
use Rattle.clause_store.proofs.Lists.{once-le}
use Rattle.watch_lists.specs.Watched.{entry_at}
use Rattle.watch_lists.specs.Lists.{RowView, watches_at, count_at, id_at, lits_of, place_in, IsWatching, AreListed, HasRoom}
use Rattle.watch_lists.proofs.Members.{member_cases, has-place}
use Rattle.watch_lists.proofs.Placed.{lits-literals}

-- ---- Different members

-- the values at the numbers below one
values : (ℕ → ℕ) → ℕ → List ℕ
values f zero = []
values f (suc n) = f n ∷ values f n

length-values : (f : ℕ → ℕ) (n : ℕ) → length (values f n) ≡ n
unfolding values
length-values f zero = refl
length-values f (suc n) = ap suc (length-values f n)

-- what holds of each value holds of a member
each-value : (P : ℕ → Type 0) (f : ℕ → ℕ) (n q : ℕ) → ((i : ℕ) → i < n → P (f i)) → has (values f n) q ≡ true → P q
unfolding values
each-value P f zero q h m = cc
each-value P f (suc n) q h m = elim (member_cases (f n) q (values f n) m) [
  | inl e ↦ subst P (sym e) (h n (omega arith))
  | inr e ↦ each-value P f n q (λ i lt. h i (omega arith)) e
]

once-values : (f : ℕ → ℕ) (n : ℕ) → ((i j : ℕ) → i < n → j < n → f i ≡ f j → i ≡ j) → IsOnce (values f n)
unfolding values
once-values f zero apart = tt
once-values f (suc n) apart = (
  false_from_ne_true _ (λ e. each-value (λ q. q ≢ f n) f n (f n) (λ i lt g. let same : i ≡ n = apart i n (omega arith) (omega arith) g in omega arith) e refl),
  once-values f n (λ i j lt lt2. apart i j (omega arith) (omega arith)),
)

-- different members of a list are no more than its length
pub pigeons : (n : ℕ) (f : ℕ → ℕ) (hs : List ℕ) → ((i : ℕ) → i < n → has hs (f i) ≡ true) → ((i j : ℕ) → i < n → j < n → f i ≡ f j → i ≡ j) → n ≤ length hs
pigeons n f hs member apart = subst (λ z. z ≤ length hs) (length-values f n) (once-le (values f n) hs (once-values f n apart) (λ q m. each-value (λ z. has hs z ≡ true) f n q member m))

-- and less where there is one more
pub pigeons-more : (n x : ℕ) (f : ℕ → ℕ) (hs : List ℕ) → ((i : ℕ) → i < n → has hs (f i) ≡ true) → ((i j : ℕ) → i < n → j < n → f i ≡ f j → i ≡ j) → has hs x ≡ true → ((i : ℕ) → i < n → f i ≢ x) → n < length hs
pigeons-more n x f hs member apart here other =
    let le : suc (length (values f n)) ≤ length hs = once-le (x ∷ values f n) hs
    (false_from_ne_true _ (λ e. each-value (λ q. q ≢ x) f n x other e refl), once-values f n apart)
    (λ q m. elim (member_cases x q (values f n) m) [
      | inl e ↦ subst (λ z. has hs z ≡ true) (sym e) here
      | inr e ↦ each-value (λ z. has hs z ≡ true) f n q member e
    ]) in
    let long = length-values f n in
    omega arith

-- ---- Entries of a list

pub watching-slot : (m : Store) (s t p q l k : ℕ) → IsWatching m s p l → IsWatching m t q k → id_at m s ≡ id_at m t → s ≡ t
watching-slot m s t p q l k w v e = same_Some s t (sym w.slot ∙ ap (slot_at m) e ∙ v.slot)

pub watching-has : (m : Store) (s p l : ℕ) → IsWatching m s p l → has (lits_of m s) l ≡ true
watching-has m s p l w =
    let long : 2 ≤ length (lits_of m s) = w.long in
    let low : p ≤ 1 = w.low in
    subst (λ z. has (lits_of m s) z ≡ true) w.lit (has-place (lits_of m s) p (omega arith))

-- the ids of a list's entries are different, and those of clauses with its literal
entry-id : List RowView → Store → ℕ → ℕ → ℕ
entry-id rows m l i = id_at m (entry_at (watches_at rows l) i).slot

entries-in : {f : ℕ → ℕ → ℕ} (R : ℕ → ℕ → ℕ → Type 0) (m : Store) (rows : List RowView) (places : List ℕ) (l : ℕ) → IsStore m → AreListed R f rows places → ((t q k : ℕ) → R t q k → IsWatching m t q k) → (room : HasRoom m l (count_at rows l))
    → (i : ℕ) → i < length (watches_at rows l) → has room.ids (entry-id rows m l i) ≡ true
unfolding entry-id
entries-in R m rows places l st k watching room i lt =
    let w = watching _ _ l (k.back l i lt) in
    room.each _ (sym (lits-literals m _ _ l st w.slot) ∙ watching-has m _ _ l w)

-- a slot stands in a list once
pub slots-apart : {f : ℕ → ℕ → ℕ} (R : ℕ → ℕ → ℕ → Type 0) (rows : List RowView) (places : List ℕ) (l : ℕ) → AreListed R f rows places
    → (i j : ℕ) → i < length (watches_at rows l) → j < length (watches_at rows l) → (entry_at (watches_at rows l) i).slot ≡ (entry_at (watches_at rows l) j).slot → i ≡ j
slots-apart {f} R rows places l k i j lt lt2 slot = sym (k.placed l i lt) ∙ ap (λ z. place_in places z (f z l)) slot ∙ k.placed l j lt2

entries-apart : {f : ℕ → ℕ → ℕ} (R : ℕ → ℕ → ℕ → Type 0) (m : Store) (rows : List RowView) (places : List ℕ) (l : ℕ) → IsStore m → AreListed R f rows places → ((t q k : ℕ) → R t q k → IsWatching m t q k)
    → (i j : ℕ) → i < length (watches_at rows l) → j < length (watches_at rows l) → entry-id rows m l i ≡ entry-id rows m l j → i ≡ j
unfolding entry-id
entries-apart R m rows places l st k watching i j lt lt2 e =
    slots-apart R rows places l k i j lt lt2 (watching-slot m _ _ _ _ l l (watching _ _ l (k.back l i lt)) (watching _ _ l (k.back l j lt2)) e)

pub room_left : {f : ℕ → ℕ → ℕ} (R : ℕ → ℕ → ℕ → Type 0) (m : Store) (rows : List RowView) (places : List ℕ) (s l : ℕ) → IsStore m → AreListed R f rows places → ((t q k : ℕ) → R t q k → IsWatching m t q k) → ((q : ℕ) → R s q l → ⊥)
    → slot_at m (id_at m s) ≡ Some s → has (lits_of m s) l ≡ true → HasRoom m l (count_at rows l) → length (watches_at rows l) < count_at rows l
unfolding entry-id
room_left {f} R m rows places s l st k watching absent slot member room =
    let lt = pigeons-more (length (watches_at rows l)) (id_at m s) (entry-id rows m l) room.ids (entries-in R m rows places l st k watching room) (entries-apart R m rows places l st k watching)
    (room.each _ (sym (lits-literals m _ s l st slot) ∙ member))
    (λ i lt e. let w = watching _ _ l (k.back l i lt) in
    absurd (absent (f (entry_at (watches_at rows l) i).slot l) (subst (λ z. R z (f (entry_at (watches_at rows l) i).slot l) l) (same_Some _ _ (sym w.slot ∙ ap (slot_at m) e ∙ slot)) (k.back l i lt)))) in
    let few = room.few in
    omega arith

pub room_enough : {f : ℕ → ℕ → ℕ} (R : ℕ → ℕ → ℕ → Type 0) (m : Store) (rows : List RowView) (places : List ℕ) (l : ℕ) → IsStore m → AreListed R f rows places → ((t q k : ℕ) → R t q k → IsWatching m t q k) → HasRoom m l (count_at rows l) → length (watches_at rows l) ≤ count_at rows l
room_enough R m rows places l st k watching room =
    let le = pigeons (length (watches_at rows l)) (entry-id rows m l) room.ids (entries-in R m rows places l st k watching room) (entries-apart R m rows places l st k watching) in
    let few = room.few in
    omega arith
