-- How a heap stays one: a variable rises, sinks, is added at the end, is raised in place.
use Rattle.std.proofs.Common.{◌≡◌, ◌≢◌, ℕ, zero, suc, ◌+◌, ◌/◌, ◌<◌, ◌≤◌, ◌⊎◌, List, [], ◌∷◌, ◌++◌, length, refl, sym, ◌∙◌, ap, subst, inl, inr, arith, length-append}
use Rattle.std.proofs.Math.ListN.{get_or-append}
use Rattle.std.specs.Prelude.{slice_index, swap, nat_eq}
use Rattle.std.proofs.lemmas.List.Edits.{swapped_from_swap, length-swap}
use Rattle.std.proofs.lemmas.List.Sorted.{list_any-IsPermutation, IsPermutation-swap}
use Rattle.decide_order.specs.Heap.{rank, rank_at, parent, IsHeapFrom, RisesAt, SinksAt, IsBetterChild, NoBetterChild, IsReordered}
use Rattle.decide_order.specs.Placed.{Placed}

-- whether two places are the same
same_or_not : (i j : ℕ) → (i ≡ j) ⊎ (i ≢ j)
same_or_not i j = grind arith

-- ranks by place, of which those at two places are exchanged
abbrev pub Exchanged : (ℕ → ℕ) → (ℕ → ℕ) → ℕ → ℕ → Type 0
Exchanged f g a b = (g a ≡ f b) × (g b ≡ f a) × ((m : ℕ) → (m ≡ a → ⊥) → (m ≡ b → ⊥) → g m ≡ f m)

exchanged : (ss xs : List ℕ) (a b : ℕ) → a < length xs → b < length xs → Exchanged (rank_at ss xs) (rank_at ss (swap xs a b)) a b
exchanged ss xs a b la lb =
    let s = swapped_from_swap xs (swap xs a b) a b 0 la lb refl in
    (ap (rank ss) s.0, ap (rank ss) s.1, λ m na nb. ap (rank ss) (s.2 m na nb))

-- ---- Rising

rises-others : (f g : ℕ → ℕ) (n p i : ℕ) → p ≡ parent i → 0 < i → i < n → Exchanged f g p i → f p < f i
    → ((j : ℕ) → 0 < j → j < n → j ≢ i → f j ≤ f (parent j))
    → ((j : ℕ) → 0 < j → j < n → parent j ≡ i → 0 < i → f j ≤ f (parent i))
    → (j : ℕ) → 0 < j → j < n → j ≢ p → g j ≤ g (parent j)
rises-others f g n p i pi z lt x better others below j zj lj np = elim (same_or_not j i) [
  | inl e ↦ rw (e, ← pi, x.0, x.1) (omega arith)
  | inr ni ↦ elim (same_or_not (parent j) i) [
    | inl e ↦ rw (e, x.2 j np ni, x.1) (subst (λ k. f j ≤ f k) (sym pi) (below j zj lj e z))
    | inr ei ↦ elim (same_or_not (parent j) p) [
      | inl e ↦ rw (e, x.2 j np ni, x.0) (let h : f j ≤ f p = subst (λ k. f j ≤ f k) e (others j zj lj ni) in omega arith)
      | inr ep ↦ rw (x.2 j np ni, x.2 (parent j) ep ei) (others j zj lj ni)
    ]
  ]
]

rises-below : (f g : ℕ → ℕ) (n p i : ℕ) → p ≡ parent i → 0 < i → i < n → Exchanged f g p i → f p < f i
    → ((j : ℕ) → 0 < j → j < n → j ≢ i → f j ≤ f (parent j))
    → (j : ℕ) → 0 < j → j < n → parent j ≡ p → 0 < p → g j ≤ g (parent p)
rises-below f g n p i pi z lt x better others j zj lj pj zp =
    let above : f p ≤ f (parent p) = others p zp (omega arith) (omega arith) in
    let top : g (parent p) ≡ f (parent p) = x.2 (parent p) (omega arith) (omega arith) in
    elim (same_or_not j i) [
      | inl e ↦ rw (e, x.1, top) above
      | inr ni ↦ let h : f j ≤ f p = subst (λ k. f j ≤ f k) pj (others j zj lj ni) in rw (x.2 j (λ e. omega arith) ni, top) (omega arith)
    ]

pub rises_swap : (ss xs : List ℕ) (p i : ℕ) → p ≡ parent i → 0 < i → i < length xs → rank_at ss xs p < rank_at ss xs i
    → RisesAt ss xs i → RisesAt ss (swap xs p i) p
rises_swap ss xs p i pi z lt better r =
    let x = exchanged ss xs p i (omega arith) lt in
    let f = λ (k : ℕ). rank_at ss xs k in
    let g = λ (k : ℕ). rank_at ss (swap xs p i) k in
    record {
      others = λ j zj lj np. rises-others f g (length xs) p i pi z lt x better r.others r.below j zj (subst (λ n. j < n) (length-swap xs p i) lj) np;
      below = λ j zj lj pj zp. rises-below f g (length xs) p i pi z lt x better r.others j zj (subst (λ n. j < n) (length-swap xs p i) lj) pj zp;
    }

-- at the top, or below one that is no worse, the heap is whole
pub risen-top : (ss xs : List ℕ) (i : ℕ) → i ≡ 0 → RisesAt ss xs i → IsHeapFrom ss xs 0
risen-top ss xs i e r = record { ordered = λ j zj lj _. r.others j zj lj (omega arith) }

pub risen : (ss xs : List ℕ) (p i : ℕ) → p ≡ parent i → rank_at ss xs i ≤ rank_at ss xs p → RisesAt ss xs i → IsHeapFrom ss xs 0
risen ss xs p i pi h r = record {
  ordered = λ j zj lj _. elim (same_or_not j i) [
    | inl e ↦ rw (e, ← pi) h
    | inr n ↦ r.others j zj lj n
  ];
}

-- ---- Sinking

sinks-others : (f g : ℕ → ℕ) (n s i c : ℕ) → i ≡ parent c → 0 < c → c < n → Exchanged f g i c → f i < f c
    → ((j : ℕ) → 0 < j → j < n → parent j ≡ i → f j ≤ f c)
    → ((j : ℕ) → 0 < j → j < n → s ≤ parent j → parent j ≢ i → f j ≤ f (parent j))
    → ((j : ℕ) → 0 < j → j < n → parent j ≡ i → 0 < i → s ≤ parent i → f j ≤ f (parent i))
    → (j : ℕ) → 0 < j → j < n → s ≤ parent j → parent j ≢ c → g j ≤ g (parent j)
sinks-others f g n s i c ic zc lc x better best others below j zj lj sj nc = elim (same_or_not (parent j) i) [
  | inl e ↦ elim (same_or_not j c) [
    | inl jc ↦ rw (e, jc, x.0, x.1) (omega arith)
    | inr nj ↦ let apart : j ≢ i = λ ji. omega arith in rw (e, x.0, x.2 j apart nj) (best j zj lj e)
  ]
  | inr ni ↦ elim (same_or_not j i) [
    | inl ji ↦
        let top : g (parent j) ≡ f (parent j) = x.2 (parent j) ni nc in
        rw (top, ji, x.0) (subst (λ k. f c ≤ f (parent k)) refl (below c zc lc (sym ic) (omega arith) (subst (λ k. s ≤ parent k) ji sj)))
    | inr nji ↦ elim (same_or_not j c) [
      | inl jc ↦ absurd (ni (rw (jc, ← ic) refl))
      | inr njc ↦ rw (x.2 j nji njc, x.2 (parent j) ni nc) (others j zj lj sj ni)
    ]
  ]
]

sinks-below : (f g : ℕ → ℕ) (n s i c : ℕ) → i ≡ parent c → 0 < c → c < n → Exchanged f g i c → s ≤ i
    → ((j : ℕ) → 0 < j → j < n → s ≤ parent j → parent j ≢ i → f j ≤ f (parent j))
    → (j : ℕ) → 0 < j → j < n → parent j ≡ c → 0 < c → s ≤ parent c → g j ≤ g (parent c)
sinks-below f g n s i c ic zc lc x si others j zj lj pj z sp =
    let apart : j ≢ i = λ e. omega arith in
    let apart2 : j ≢ c = λ e. omega arith in
    let h : f j ≤ f c = subst (λ k. f j ≤ f k) pj (others j zj lj (omega arith) (omega arith)) in
    rw (← ic, x.0, x.2 j apart apart2) h

pub sinks_swap : (ss xs : List ℕ) (s i c : ℕ) → s ≤ i → i < c → IsBetterChild ss xs i c → SinksAt ss xs s i → SinksAt ss (swap xs i c) s c
sinks_swap ss xs s i c si lt b r =
    let up : i ≡ parent c = sym b.up in
    let x = exchanged ss xs i c (omega (arith, b.within)) b.within in
    let f = λ (k : ℕ). rank_at ss xs k in
    let g = λ (k : ℕ). rank_at ss (swap xs i c) k in
    record {
      others = λ j zj lj sj nc. sinks-others f g (length xs) s i c up b.positive b.within x b.better b.best r.others r.below j zj (subst (λ n. j < n) (length-swap xs i c) lj) sj nc;
      below = λ j zj lj pj z sp. sinks-below f g (length xs) s i c up b.positive b.within x si r.others j zj (subst (λ n. j < n) (length-swap xs i c) lj) pj z sp;
    }

pub sunk : (ss xs : List ℕ) (s i : ℕ) → NoBetterChild ss xs i → SinksAt ss xs s i → IsHeapFrom ss xs s
sunk ss xs s i least r = record {
  ordered = λ j zj lj sj. elim (same_or_not (parent j) i) [
    | inl e ↦ rw e (least.none j zj lj e)
    | inr n ↦ r.others j zj lj sj n
  ];
}

-- from a heap below a place on, the place may sink
pub sinks_from : (ss xs : List ℕ) (s : ℕ) → IsHeapFrom ss xs (s + 1) → SinksAt ss xs s s
sinks_from ss xs s h = record {
  others = λ j zj lj sj n. h.ordered j zj lj (omega arith);
  below = λ j zj lj pj z sp. omega arith;
}

-- with half the places passed over there is nothing below
pub heap_end : (ss xs : List ℕ) (s : ℕ) → s ≡ length xs / 2 → IsHeapFrom ss xs s
heap_end ss xs s e = record { ordered = λ j zj lj sj. omega arith }

-- ---- The top

top-within : (ss xs : List ℕ) → IsHeapFrom ss xs 0 → (n j : ℕ) → j ≤ n → j < length xs → rank_at ss xs j ≤ rank_at ss xs 0
top-within ss xs h n zero le lt = omega arith
top-within ss xs h zero (suc j) le lt = omega arith
top-within ss xs h (suc n) (suc j) le lt =
    let up : rank_at ss xs (suc j) ≤ rank_at ss xs (parent (suc j)) = h.ordered (suc j) (omega arith) lt (omega arith) in
    let rest : rank_at ss xs (parent (suc j)) ≤ rank_at ss xs 0 = top-within ss xs h n (parent (suc j)) (omega arith) (omega arith) in
    omega arith

pub top : (ss xs : List ℕ) → IsHeapFrom ss xs 0 → (j : ℕ) → j < length xs → rank_at ss xs j ≤ rank_at ss xs 0
top ss xs h j lt = top-within ss xs h j j (omega arith) lt

-- ---- Another order of the list

pub reordered_self : (p : Placed) → IsReordered p p
reordered_self p = record { reserved = refl; count = refl; same = λ v. refl }

-- a reordered list, and then two places exchanged
pub reordered_swap : (p q r : Placed) (a b : ℕ) → IsReordered p q → a < length q.items → b < length q.items → r.items ≡ swap q.items a b → r.reserved ≡ q.reserved
    → IsReordered p r
reordered_swap p q r a b h la lb e f = record {
  reserved = f ∙ h.reserved;
  count = ap length e ∙ length-swap q.items a b ∙ h.count;
  same = λ v. sym (list_any-IsPermutation (λ y. nat_eq y v) q.items r.items (IsPermutation-swap q.items r.items a b la lb e)) ∙ h.same v;
}

-- ---- The steps of the two loops

-- a variable that rises from the first list stands here now
pub record Rising (scores : List ℕ) (first placed : Placed) (at : ℕ) : Type 0 where
  pub within : at < length placed.items
  pub rises : RisesAt scores placed.items at
  pub reordered : IsReordered first placed

-- a variable that sinks from the first list stands here now
pub record Sinking (scores : List ℕ) (first placed : Placed) (start at : ℕ) : Type 0 where
  pub within : at ≤ length placed.items
  pub from_start : start ≤ at
  pub sinks : SinksAt scores placed.items start at
  pub reordered : IsReordered first placed

pub rising-step : (ss : List ℕ) (first q r : Placed) (p i x y : ℕ) → p ≡ parent i → 0 < i → x ≡ slice_index q.items i → y ≡ slice_index q.items p
    → rank ss y < rank ss x → r.items ≡ swap q.items p i → r.reserved ≡ q.reserved → Rising ss first q i → Rising ss first r p
rising-step ss first q r p i x y pi z ex ey better e f h =
    let long : length (swap q.items p i) ≡ length q.items = length-swap q.items p i in
    let less : rank_at ss q.items p < rank_at ss q.items i = subst (λ k. k < rank_at ss q.items i) (ap (rank ss) ey) (subst (λ k. rank ss y < k) (ap (rank ss) ex) better) in
    let below : p < length q.items = omega (arith, h.within) in
    record {
      within = rw e (omega arith);
      rises = rw e (rises_swap ss q.items p i pi z h.within less h.rises);
      reordered = reordered_swap first q r p i h.reordered below h.within e f;
    }

pub sinking-step : (ss : List ℕ) (first q r : Placed) (s i c : ℕ) → IsBetterChild ss q.items i c → r.items ≡ swap q.items i c → r.reserved ≡ q.reserved
    → Sinking ss first q s i → Sinking ss first r s c
sinking-step ss first q r s i c b e f h =
    let long : length (swap q.items i c) ≡ length q.items = length-swap q.items i c in
    let lower : i < c = omega (arith, b.up, b.positive) in
    let le = h.from_start in
    let within = b.within in
    record {
      within = rw e (omega arith);
      from_start = omega arith;
      sinks = rw e (sinks_swap ss q.items s i c le lower b h.sinks);
      reordered = reordered_swap first q r i c h.reordered (omega arith) within e f;
    }

-- the places from this one on are a heap now
pub record Heaping (scores : List ℕ) (first placed : Placed) (start : ℕ) : Type 0 where
  pub within : start ≤ length placed.items
  pub heap : IsHeapFrom scores placed.items start
  pub reordered : IsReordered first placed

pub reordered_trans : (p q r : Placed) → IsReordered p q → IsReordered q r → IsReordered p r
reordered_trans p q r h k = record {
  reserved = k.reserved ∙ h.reserved;
  count = k.count ∙ h.count;
  same = λ v. k.same v ∙ h.same v;
}

pub heaping-begin : (ss : List ℕ) (p : Placed) (s : ℕ) → s ≡ length p.items / 2 → Heaping ss p p s
heaping-begin ss p s e = record { within = omega arith; heap = heap_end ss p.items s e; reordered = reordered_self p }

pub heaping-step : (ss : List ℕ) (first p q : Placed) (s n : ℕ) → s ≡ n + 1 → Heaping ss first p s → IsHeapFrom ss q.items n → IsReordered p q → Heaping ss first q n
heaping-step ss first p q s n e h heap r = record {
  within = let w = h.within in let c = r.count in omega arith;
  heap = heap;
  reordered = reordered_trans first p q h.reordered r;
}

pub sinks_down : (ss xs : List ℕ) (s n : ℕ) → s ≡ n + 1 → IsHeapFrom ss xs s → SinksAt ss xs n n
sinks_down ss xs s n e h = record {
  others = λ j zj lj sj nj. h.ordered j zj lj (omega arith);
  below = λ j zj lj pj z sp. omega arith;
}

-- ---- What the calls on an order begin with

-- scores that give each variable of the list the same rank
pub same_ranks : (ss tt xs : List ℕ) (s : ℕ) → ((i : ℕ) → i < length xs → rank_at tt xs i ≡ rank_at ss xs i) → IsHeapFrom ss xs s → IsHeapFrom tt xs s
same_ranks ss tt xs s same h = record { ordered = λ j zj lj sj. rw (same j lj, same (parent j) (omega arith)) (h.ordered j zj lj sj) }

-- a variable that is added at the end may rise
pub rises_added : (ss xs : List ℕ) (v : ℕ) → IsHeapFrom ss xs 0 → RisesAt ss (xs ++ v ∷ []) (length xs)
rises_added ss xs v h = record {
  others = λ j zj lj n.
      let lt : j < length xs = omega (arith, long, lj, n) in
      let at : slice_index (xs ++ v ∷ []) j ≡ slice_index xs j = get_or-append xs (v ∷ []) 0 j lt in
      let up : slice_index (xs ++ v ∷ []) (parent j) ≡ slice_index xs (parent j) = get_or-append xs (v ∷ []) 0 (parent j) (omega arith) in
      rw (at, up) (h.ordered j zj lt (omega arith));
  below = λ j zj lj pj z. omega (arith, long, lj, pj, z);
}
  where
    long : length (xs ++ v ∷ []) ≡ length xs + 1
    long = length-append xs (v ∷ []) ∙ omega arith

-- a variable of which the rank grew may rise, where the others keep theirs
pub rises_raised : (ss tt xs : List ℕ) (i : ℕ) → ((j : ℕ) → j < length xs → j ≢ i → rank_at tt xs j ≡ rank_at ss xs j) → rank_at ss xs i ≤ rank_at tt xs i
    → IsHeapFrom ss xs 0 → RisesAt tt xs i
rises_raised ss tt xs i same more h = record {
  others = λ j zj lj n. elim (same_or_not (parent j) i) [
    | inl e ↦ let old : rank_at ss xs j ≤ rank_at ss xs i = subst (λ k. rank_at ss xs j ≤ rank_at ss xs k) e (h.ordered j zj lj (omega arith)) in rw (e, same j lj n) (omega arith)
    | inr m ↦ rw (same j lj n, same (parent j) (omega arith) m) (h.ordered j zj lj (omega arith))
  ];
  below = λ j zj lj pj z.
      let first : rank_at ss xs j ≤ rank_at ss xs i = subst (λ k. rank_at ss xs j ≤ rank_at ss xs k) pj (h.ordered j zj lj (omega arith)) in
      let second : rank_at ss xs i ≤ rank_at ss xs (parent i) = h.ordered i z (omega arith) (omega arith) in
      rw (same j lj (λ e. omega arith), same (parent i) (omega arith) (λ e. omega arith)) (omega arith);
}

-- a list that lost its first variable may sink there
pub sinks_taken : (ss xs ys : List ℕ) → length xs ≡ length ys + 1 → ((j : ℕ) → 0 < j → j < length ys → slice_index ys j ≡ slice_index xs j) → IsHeapFrom ss xs 0
    → SinksAt ss ys 0 0
sinks_taken ss xs ys long rest h = record {
  others = λ j zj lj sj n. rw (rest j zj lj, rest (parent j) (omega arith) (omega arith)) (h.ordered j zj (omega arith) (omega arith));
  below = λ j zj lj pj z sp. omega arith;
}

-- a variable of which the rank fell may sink, where the others keep theirs
pub sinks_lowered : (ss tt xs : List ℕ) (i : ℕ) → ((j : ℕ) → j < length xs → j ≢ i → rank_at tt xs j ≡ rank_at ss xs j) → rank_at tt xs i ≤ rank_at ss xs i
    → IsHeapFrom ss xs 0 → SinksAt tt xs 0 i
sinks_lowered ss tt xs i same less h = record {
  others = λ j zj lj sj n.
      let old : rank_at ss xs j ≤ rank_at ss xs (parent j) = h.ordered j zj lj (omega arith) in
      let up : rank_at tt xs (parent j) ≡ rank_at ss xs (parent j) = same (parent j) (omega arith) n in
      elim (same_or_not j i) [
        | inl e ↦ let here : rank_at tt xs j ≤ rank_at ss xs j = subst (λ k. rank_at tt xs k ≤ rank_at ss xs k) (sym e) less in rw up (omega arith)
        | inr m ↦ rw (same j lj m, up) old
      ];
  below = λ j zj lj pj z sp.
      let first : rank_at ss xs j ≤ rank_at ss xs i = subst (λ k. rank_at ss xs j ≤ rank_at ss xs k) pj (h.ordered j zj lj (omega arith)) in
      let second : rank_at ss xs i ≤ rank_at ss xs (parent i) = h.ordered i z (omega arith) (omega arith) in
      rw (same j lj (λ e. omega arith), same (parent i) (omega arith) (λ e. omega arith)) (omega arith);
}
