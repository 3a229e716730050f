-- How a change of the words of one piece, or of the kind of one unit, changes the map.
use Rattle.std.proofs.Common.{is_some, ◌≡◌, ◌≢◌, ℕ, suc, zero, ◌+◌, ◌-◌, ◌*◌, ◌<◌, ◌≤◌, ◌⊎◌, List, [], ◌∷◌, ◌++◌, length, replicate, Option, Some, None, get_or, refl, sym, ap, ◌∙◌, inl, inr, arith, cond, true, false, Bool}
use Rattle.std.proofs.Math.ListN.{set}
use Rattle.std.proofs.lemmas.List.{get_or-set_same, get_or-set_other, get_or_past, length-set, length-append, length-replicate, get_or_append_left}
use Rattle.std.proofs.lemmas.Bool.Decides.{nat_tests}
use Rattle.std.specs.Ordering.{nat_cmp, eq_by_cmp}
use Rattle.std.specs.Cmp.{nat_cmp_total}
use Rattle.std.specs.FinMap.{empty, get, insert, remove, len, find, get-insert, get-remove, get-from_entries, len-insert, len-remove, len-empty, from_entries, empty_of_len, get-empty, same_map, nat_cmp-IsAntisymmetric, contains_key}
use Rattle.lit_pool.specs.declared.kind.Kind.{Kind}
use Rattle.lit_pool.specs.declared.kind.Kind.TheVariants.{Inside, Freed, Live}
use Rattle.lit_pool.specs.Entry.{Entry, Entries, IsLive, entry_at, lits_at}
use Rattle.lit_pool.specs.Listed.{listed}
use Rattle.lit_pool.specs.Pieces.{most_literals, word, room_in, len_in, link_of_word, words_from, entry_in, kind_at, is_piece, is_live, seen, seen_from, live_pieces, ArePieces, IsPool, IsWithin}

ties : (q : ℕ) → eq_by_cmp nat_cmp q q ≡ true
ties q = grind (arith, nat_tests)

differs : (q k : ℕ) → q ≢ k → eq_by_cmp nat_cmp q k ≡ false
differs q k ne = grind (arith, nat_tests)

pub cases : (q i : ℕ) → (q ≡ i) ⊎ (q ≢ i)
cases q i = grind arith

pub three : (q s : ℕ) → (q < s) ⊎ ((q ≡ s) ⊎ (s < q))
three q s = grind arith

same : (m n : Entries) → ((q : ℕ) → get m q ≡ get n q) → m ≡ n
same m n h = same_map nat_cmp_total nat_cmp-IsAntisymmetric m n h

listed-below : (k q : ℕ) (es : List (Option Entry)) → q < k → find nat_cmp q (listed k es) ≡ None
listed-below k q [] lt = refl
listed-below k q (None ∷ es) lt = listed-below (suc k) q es (omega arith)
listed-below k q (Some e ∷ es) lt =
    let apart : q ≢ k = omega arith in rw (differs q k apart) (listed-below (suc k) q es (omega arith))

listed-at : (k q j : ℕ) (es : List (Option Entry)) → j ≡ k + q → find nat_cmp j (listed k es) ≡ get_or es q None
listed-at k q j [] e = refl
listed-at k zero j (None ∷ es) e = listed-below (suc k) j es (omega arith)
listed-at k zero j (Some x ∷ es) e = let same : j ≡ k = omega arith in rw (same, ties k) refl
listed-at k (suc q) j (None ∷ es) e = listed-at (suc k) q j es (omega arith)
listed-at k (suc q) j (Some x ∷ es) e =
    let apart : j ≢ k = omega arith in rw (differs j k apart) (listed-at (suc k) q j es (omega arith))

seen-at : (ws : List ℕ) (s i j : ℕ) (ks : List Kind) → j ≡ s + i → get_or (seen_from ws s ks) i None ≡ seen ws j (kind_at ks i)
unfolding seen_from
seen-at ws s i j [] e = refl
seen-at ws s zero j (k ∷ ks) e = let same : s ≡ j = omega arith in ap (λ n. seen ws n k) same
seen-at ws s (suc i) j (k ∷ ks) e = seen-at ws (suc s) i j ks (omega arith)

length-seen_from : (ws : List ℕ) (s : ℕ) (ks : List Kind) → length (seen_from ws s ks) ≡ length ks
unfolding seen_from
length-seen_from ws s [] = refl
length-seen_from ws s (k ∷ ks) = ap suc (length-seen_from ws (suc s) ks)

-- what the map has at a slot
pub get_live : (ws : List ℕ) (ks : List Kind) (q : ℕ) → get (live_pieces ws ks) q ≡ seen ws q (kind_at ks q)
unfolding live_pieces seen_from
get_live ws ks q = get-from_entries nat_cmp_total (listed 0 (seen_from ws 0 ks)) q ∙ listed-at 0 q q (seen_from ws 0 ks) (omega arith) ∙ seen-at ws 0 q q ks (omega arith)

some_seen : (b : Bool) (e : Entry) → is_some (cond b (Some e) None) ≡ b
some_seen true e = refl
some_seen false e = refl

-- whether a slot is live shows at its kind
pub is_live_is : (ws : List ℕ) (ks : List Kind) (s : ℕ) → contains_key (live_pieces ws ks) s ≡ is_live (kind_at ks s)
is_live_is ws ks s = ap is_some (get_live ws ks s) ∙ some_seen (is_live (kind_at ks s)) (entry_in ws s)

length-listed : (k : ℕ) (es : List (Option Entry)) → length (listed k es) ≤ length es
length-listed k [] = omega arith
length-listed k (None ∷ es) = omega (arith, length-listed (suc k) es)
length-listed k (Some x ∷ es) = omega (arith, length-listed (suc k) es)

len_le : (es : List (ℕ × Entry)) → len (from_entries {R = nat_cmp} es) ≤ length es
len_le [] = rw (len-empty nat_cmp Entry) (omega arith)
len_le (e ∷ es) = rw (len-insert nat_cmp_total) (one_more (contains_key (from_entries {R = nat_cmp} es) e.0) _ _ (len_le es))
  where
    one_more : (b : Bool) (n k : ℕ) → n ≤ k → cond b n (n + 1) ≤ suc k
    one_more true n k h = omega arith
    one_more false n k h = omega arith

-- no more slots are live than there are units
pub len_live : (ws : List ℕ) (ks : List Kind) → len (live_pieces ws ks) ≤ length ks
unfolding live_pieces seen_from
len_live ws ks = omega (arith, len_le (listed 0 (seen_from ws 0 ks)), length-listed 0 (seen_from ws 0 ks), length-seen_from ws 0 ks)

pub len_replaced : (m : Entries) (s : ℕ) (e : Entry) → contains_key m s ≡ true → len (insert m s e) ≡ len m
len_replaced m s e live = rw (len-insert nat_cmp_total, live) refl

pub len_added : (m : Entries) (s : ℕ) (e : Entry) → get m s ≡ None → len (insert m s e) ≡ len m + 1
len_added m s e dead = rw (len-insert nat_cmp_total, dead) refl

pub len_removed : (m : Entries) (s : ℕ) → contains_key m s ≡ true → len (remove m s) ≡ len m - 1
len_removed m s live = rw (len-remove nat_cmp_total, live) refl

pub some_live : (m : Entries) (s : ℕ) → contains_key m s ≡ true → 1 ≤ len m
some_live m s live = elim (len m) as (λ n. len m ≡ n → 1 ≤ n) [
  | zero ↦ λ none. absurd (let dead : contains_key m s ≡ false = rw (empty_of_len m none, get-empty nat_cmp s) refl in grind (arith, dead, live))
  | suc n ↦ λ e. omega arith
] refl

pub live_nil : live_pieces [] [] ≡ empty
unfolding live_pieces seen_from
live_nil = refl

pub nil_pieces : ArePieces [] []
nil_pieces = record {
  wide = omega arith;
  within = λ s piece. cc;
  apart = λ s t piece other lt. cc;
  fits = λ s live. cc;
  few = λ s live. cc;
}

pub nil_pool : IsPool [] [] 0
nil_pool = record { pieces = nil_pieces; counted = sym (ap len live_nil ∙ len-empty nat_cmp Entry) }

-- Words that stay.

-- so many words have this length
pub length-words_from : (ws : List ℕ) (at n : ℕ) → length (words_from ws at n) ≡ n
unfolding words_from
length-words_from ws at zero = refl
length-words_from ws at (suc n) = ap suc (length-words_from ws (suc at) n)

words_from-same : (ws vs : List ℕ) (at n : ℕ) → ((i : ℕ) → at ≤ i → i < at + n → word vs i ≡ word ws i) → words_from vs at n ≡ words_from ws at n
unfolding words_from
words_from-same ws vs at zero h = refl
words_from-same ws vs at (suc n) h =
    let first : word vs at ≡ word ws at = h at (omega arith) (omega arith) in
    let others : words_from vs (suc at) n ≡ words_from ws (suc at) n = words_from-same ws vs (suc at) n (λ i low high. h i (omega arith) (omega arith)) in
    (λ i. first i ∷ others i)

pub entry_same : (ws vs : List ℕ) (q : ℕ) → ((i : ℕ) → 8 * q ≤ i → i < 8 * q + 4 + len_in ws q → word vs i ≡ word ws i) → entry_in vs q ≡ entry_in ws q
entry_same ws vs q h =
    let long : len_in vs q ≡ len_in ws q = h (8 * q + 1) (omega arith) (omega arith) in
    let one : word vs (8 * q + 2) ≡ word ws (8 * q + 2) = h (8 * q + 2) (omega arith) (omega arith) in
    let two : word vs (8 * q + 3) ≡ word ws (8 * q + 3) = h (8 * q + 3) (omega arith) (omega arith) in
    let lits : words_from vs (8 * q + 4) (len_in vs q) ≡ words_from ws (8 * q + 4) (len_in ws q) =
    ap (λ n. words_from vs (8 * q + 4) n) long ∙ words_from-same ws vs (8 * q + 4) (len_in ws q) (λ i low high. h i (omega arith) (omega arith)) in
    (λ i. record { lits = lits i; one = link_of_word (one i); two = link_of_word (two i) })

pub live_piece : (k : Kind) → is_live k ≡ true → is_piece k ≡ true
live_piece (Inside) live = cc
live_piece (Freed) live = refl
live_piece (Live) live = refl

pub seen_by : (ws vs : List ℕ) (q : ℕ) (k : Kind) → (is_live k ≡ true → entry_in vs q ≡ entry_in ws q) → seen vs q k ≡ seen ws q k
seen_by ws vs q (Inside) h = refl
seen_by ws vs q (Freed) h = refl
seen_by ws vs q (Live) h = ap Some (h refl)

piece_within : (ks : List Kind) (s : ℕ) → is_piece (kind_at ks s) ≡ true → s < length ks
piece_within [] s piece = cc
piece_within (k ∷ ks) zero piece = omega arith
piece_within (k ∷ ks) (suc s) piece = omega (arith, piece_within ks s piece)

-- What stays of the other pieces when the words of one change.

pub room_kept : (ws vs : List ℕ) (ks : List Kind) (s t : ℕ) → ArePieces ws ks → is_piece (kind_at ks s) ≡ true → is_piece (kind_at ks t) ≡ true → IsWithin s ws vs → room_in vs t ≡ room_in ws t
room_kept ws vs ks s t pieces at other changed = elim (three t s) [
  | inl before ↦ changed.kept (8 * t) (inl (omega arith))
  | inr (inl here) ↦ changed.kept (8 * t) (inl (omega arith))
  | inr (inr behind) ↦ changed.kept (8 * t) (inr (pieces.apart s t at other behind))
]

pub len_kept : (ws vs : List ℕ) (ks : List Kind) (s t : ℕ) → ArePieces ws ks → is_piece (kind_at ks s) ≡ true → is_piece (kind_at ks t) ≡ true → t ≢ s → IsWithin s ws vs → len_in vs t ≡ len_in ws t
len_kept ws vs ks s t pieces at other ne changed = elim (three t s) [
  | inl before ↦ changed.kept (8 * t + 1) (inl (omega arith))
  | inr (inl here) ↦ absurd (ne here)
  | inr (inr behind) ↦ let clear = pieces.apart s t at other behind in changed.kept (8 * t + 1) (inr (omega (arith, clear)))
]

pub entry_kept : (ws vs : List ℕ) (ks : List Kind) (s t : ℕ) → ArePieces ws ks → is_piece (kind_at ks s) ≡ true → is_live (kind_at ks t) ≡ true → t ≢ s → IsWithin s ws vs → entry_in vs t ≡ entry_in ws t
entry_kept ws vs ks s t pieces at live ne changed =
    let other : is_piece (kind_at ks t) ≡ true = live_piece (kind_at ks t) live in
    let fits : len_in ws t ≤ room_in ws t = pieces.fits t live in
    elim (three t s) [
      | inl before ↦
          let clear : 8 * t + 4 + room_in ws t ≤ 8 * s = pieces.apart t s other at before in
          entry_same ws vs t (λ i low high. changed.kept i (inl (omega arith)))
      | inr (inl here) ↦ absurd (ne here)
      | inr (inr behind) ↦
          let clear : 8 * s + 4 + room_in ws s ≤ 8 * t = pieces.apart s t at other behind in
          entry_same ws vs t (λ i low high. changed.kept i (inr (omega arith)))
    ]

-- Kinds and words that give pieces again.

are_again : (ws vs : List ℕ) (ks js : List Kind) → ArePieces ws ks → length vs ≡ length ws → length js ≡ length ks
    → ((q : ℕ) → is_piece (kind_at js q) ≡ true → is_piece (kind_at ks q) ≡ true)
    → ((q : ℕ) → is_piece (kind_at ks q) ≡ true → room_in vs q ≡ room_in ws q)
    → ((q : ℕ) → is_live (kind_at js q) ≡ true → (len_in vs q ≤ room_in ws q) × (len_in vs q ≤ most_literals))
    → ArePieces vs js
are_again ws vs ks js pieces long many was room fits = record {
  wide = let w = pieces.wide in omega (arith, w);
  within = λ s at. let r = room s (was s at) in let w = pieces.within s (was s at) in omega (arith, r, w, many);
  apart = λ s t at other lt. let r = room s (was s at) in let w = pieces.apart s t (was s at) (was t other) lt in omega (arith, r, w);
  fits = λ s live. let r = room s (was s (live_piece (kind_at js s) live)) in let f = (fits s live).0 in omega (arith, r, f);
  few = λ s live. (fits s live).1;
}

pub kind_set : (ks : List Kind) (s : ℕ) (k : Kind) → s < length ks → kind_at (set ks s k) s ≡ k
kind_set ks s k lt = get_or-set_same ks s k Inside lt

pub kind_other : (ks : List Kind) (s : ℕ) (k : Kind) (q : ℕ) → q ≢ s → kind_at (set ks s k) q ≡ kind_at ks q
kind_other ks s k q ne = get_or-set_other ks s q k Inside ne

-- Maps that differ at one slot alone, or nowhere.

inserted : (ws vs : List ℕ) (ks js : List Kind) (s : ℕ) (e : Entry) → seen vs s (kind_at js s) ≡ Some e → ((q : ℕ) → q ≢ s → seen vs q (kind_at js q) ≡ seen ws q (kind_at ks q))
    → live_pieces vs js ≡ insert (live_pieces ws ks) s e
inserted ws vs ks js s e is others = same _ _ (λ q.
    get_live vs js q ∙ elim (cases q s) [
      | inl here ↦ rw (here, is, get-insert nat_cmp_total, ties s) refl
      | inr apart ↦ rw (others q apart, get-insert nat_cmp_total, differs q s apart) (sym (get_live ws ks q))
    ])

removed : (ws vs : List ℕ) (ks js : List Kind) (s : ℕ) → seen vs s (kind_at js s) ≡ None → ((q : ℕ) → q ≢ s → seen vs q (kind_at js q) ≡ seen ws q (kind_at ks q))
    → live_pieces vs js ≡ remove (live_pieces ws ks) s
removed ws vs ks js s is others = same _ _ (λ q.
    get_live vs js q ∙ elim (cases q s) [
      | inl here ↦ rw (here, is, get-remove nat_cmp_total, ties s) refl
      | inr apart ↦ rw (others q apart, get-remove nat_cmp_total, differs q s apart) (sym (get_live ws ks q))
    ])

pub unchanged : (ws vs : List ℕ) (ks js : List Kind) → ((q : ℕ) → seen vs q (kind_at js q) ≡ seen ws q (kind_at ks q)) → live_pieces vs js ≡ live_pieces ws ks
unchanged ws vs ks js all = same _ _ (λ q. get_live vs js q ∙ all q ∙ sym (get_live ws ks q))

-- the piece of a slot, by its kind

-- the places of a piece that has no entry
pub freed_room : (ws : List ℕ) (ks : List Kind) (s : ℕ) → ArePieces ws ks → kind_at ks s ≡ Freed → (s < length ks) × (8 * s + 4 + room_in ws s ≤ length ws)
freed_room ws ks s pieces is =
    let piece : is_piece (kind_at ks s) ≡ true = ap is_piece is in
    let inside : 8 * s + 4 + room_in ws s ≤ 8 * length ks = pieces.within s piece in
    let wide : 8 * length ks ≤ length ws = pieces.wide in
    (piece_within ks s piece, omega arith)

-- what holds of a live slot s
pub record Found (ws : List ℕ) (ks : List Kind) (m : Entries) (s : ℕ) : Type 0 where
  pub within : s < length ks
  pub head : 8 * s + 4 ≤ length ws
  pub room : 8 * s + 4 + room_in ws s ≤ length ws
  pub fits : len_in ws s ≤ room_in ws s
  pub few : len_in ws s ≤ most_literals
  pub lits_in : 8 * s + 4 + len_in ws s ≤ length ws
  pub alive : is_live (kind_at ks s) ≡ true
  pub held : contains_key m s ≡ true
  pub read : entry_in ws s ≡ entry_at m s
  pub len : len_in ws s ≡ length (lits_at m s)
  pub written : (vs : List ℕ) (e : Entry) → IsWithin s ws vs → entry_in vs s ≡ e → length e.lits ≡ len_in ws s → (live_pieces vs ks ≡ insert m s e) × ArePieces vs ks

seen_live : (ws : List ℕ) (s : ℕ) (k : Kind) (e : Entry) → is_live k ≡ true → entry_in ws s ≡ e → seen ws s k ≡ Some e
seen_live ws s (Inside) e live is = cc
seen_live ws s (Freed) e live is = cc
seen_live ws s (Live) e live is = ap Some is

long_entry : (vs : List ℕ) (s : ℕ) (e : Entry) → entry_in vs s ≡ e → length e.lits ≡ len_in vs s
long_entry vs s e is = sym (ap (λ (x : Entry). length x.lits) is) ∙ length-words_from vs (8 * s + 4) (len_in vs s)

-- a new entry in the piece of a slot, which is then live
lively : (ws vs : List ℕ) (ks js : List Kind) (s : ℕ) (e : Entry) → ArePieces ws ks → is_piece (kind_at ks s) ≡ true → is_live (kind_at js s) ≡ true → length js ≡ length ks
    → ((q : ℕ) → q ≢ s → kind_at js q ≡ kind_at ks q) → IsWithin s ws vs → entry_in vs s ≡ e → length e.lits ≤ room_in ws s → length e.lits ≤ most_literals
    → (live_pieces vs js ≡ insert (live_pieces ws ks) s e) × ArePieces vs js
lively ws vs ks js s e pieces at live many others changed is fits few = (map_is, again)
  where
    other_seen : (q : ℕ) → q ≢ s → seen vs q (kind_at js q) ≡ seen ws q (kind_at ks q)
    other_seen q ne = ap (λ k. seen vs q k) (others q ne) ∙ seen_by ws vs q (kind_at ks q) (λ alive. entry_kept ws vs ks s q pieces at alive ne changed)

    map_is : live_pieces vs js ≡ insert (live_pieces ws ks) s e
    map_is = inserted ws vs ks js s e (seen_live vs s (kind_at js s) e live is) other_seen

    was : (q : ℕ) → is_piece (kind_at js q) ≡ true → is_piece (kind_at ks q) ≡ true
    was q piece = elim (cases q s) [
      | inl here ↦ ap (λ n. is_piece (kind_at ks n)) here ∙ at
      | inr apart ↦ sym (ap is_piece (others q apart)) ∙ piece
    ]

    lens : (q : ℕ) → is_live (kind_at js q) ≡ true → (len_in vs q ≤ room_in ws q) × (len_in vs q ≤ most_literals)
    lens q alive = elim (cases q s) [
      | inl here ↦
          let long : length e.lits ≡ len_in vs s = long_entry vs s e is in
          let fits_here : len_in vs s ≤ room_in ws s = omega arith in
          let few_here : len_in vs s ≤ most_literals = omega arith in
          rw here (fits_here, few_here)
      | inr apart ↦
          let was_live : is_live (kind_at ks q) ≡ true = sym (ap is_live (others q apart)) ∙ alive in
          let kept : len_in vs q ≡ len_in ws q = len_kept ws vs ks s q pieces at (live_piece (kind_at ks q) was_live) apart changed in
          let fits_there : len_in ws q ≤ room_in ws q = pieces.fits q was_live in
          let few_there : len_in ws q ≤ most_literals = pieces.few q was_live in
          (omega arith, omega arith)
    ]

    again : ArePieces vs js
    again = are_again ws vs ks js pieces changed.long many was (λ q piece. room_kept ws vs ks s q pieces at piece changed) lens

pub found : (ws : List ℕ) (ks : List Kind) (m : Entries) (s : ℕ) → live_pieces ws ks ≡ m → ArePieces ws ks → IsLive m s → Found ws ks m s
found ws ks m s view_is pieces live =
    let held : contains_key m s ≡ true = grind (arith, live) in
    let alive : is_live (kind_at ks s) ≡ true = sym (is_live_is ws ks s) ∙ ap (λ n. contains_key n s) view_is ∙ held in
    let piece : is_piece (kind_at ks s) ≡ true = live_piece (kind_at ks s) alive in
    let got : get m s ≡ Some (entry_in ws s) = ap (λ n. get n s) (sym view_is) ∙ get_live ws ks s ∙ seen_live ws s (kind_at ks s) (entry_in ws s) alive refl in
    let read : entry_in ws s ≡ entry_at m s = rw got refl in
    let inside : 8 * s + 4 + room_in ws s ≤ 8 * length ks = pieces.within s piece in
    let wide : 8 * length ks ≤ length ws = pieces.wide in
    let fits : len_in ws s ≤ room_in ws s = pieces.fits s alive in
    let few : len_in ws s ≤ most_literals = pieces.few s alive in
    record {
      within = piece_within ks s piece;
      head = omega arith;
      room = omega arith;
      fits = fits;
      few = few;
      lits_in = omega arith;
      alive = alive;
      held = held;
      read = read;
      len = sym (long_entry ws s (entry_at m s) read);
      written = λ vs e changed is long.
          let both = lively ws vs ks ks s e pieces piece alive refl (λ q ne. refl) changed is (omega arith) (omega arith) in
          (both.0 ∙ ap (λ n. insert n s e) view_is, both.1);
    }

-- a piece that had no entry gets one
pub record Occupied (ws vs : List ℕ) (ks : List Kind) (s : ℕ) (e : Entry) : Type 0 where
  pub fresh : get (live_pieces ws ks) s ≡ None
  pub filled : live_pieces vs (set ks s Live) ≡ insert (live_pieces ws ks) s e
  pub pieces : ArePieces vs (set ks s Live)
  pub within : s < length ks

pub occupied : (ws vs : List ℕ) (ks : List Kind) (s : ℕ) (e : Entry) → ArePieces ws ks → kind_at ks s ≡ Freed → IsWithin s ws vs → entry_in vs s ≡ e → length e.lits ≤ room_in ws s
    → length e.lits ≤ most_literals → Occupied ws vs ks s e
occupied ws vs ks s e pieces was changed is fits few =
    let piece : is_piece (kind_at ks s) ≡ true = ap is_piece was in
    let lt : s < length ks = piece_within ks s piece in
    let both = lively ws vs ks (set ks s Live) s e pieces piece (ap is_live (kind_set ks s Live lt)) (length-set ks s Live) (kind_other ks s Live) changed is fits few in
    record {
      fresh = get_live ws ks s ∙ ap (λ k. seen ws s k) was;
      filled = both.0;
      pieces = both.1;
      within = lt;
    }

-- a piece loses its entry
pub record Vacated (ws vs : List ℕ) (ks : List Kind) (s : ℕ) : Type 0 where
  pub cleared : live_pieces vs (set ks s Freed) ≡ remove (live_pieces ws ks) s
  pub pieces : ArePieces vs (set ks s Freed)

pub vacated : (ws vs : List ℕ) (ks : List Kind) (s : ℕ) → ArePieces ws ks → is_live (kind_at ks s) ≡ true → IsWithin s ws vs → Vacated ws vs ks s
vacated ws vs ks s pieces alive changed = record {
  cleared = removed ws vs ks (set ks s Freed) s (ap (λ k. seen vs s k) here_is) other_seen;
  pieces = are_again ws vs ks (set ks s Freed) pieces changed.long (length-set ks s Freed) was (λ q piece. room_kept ws vs ks s q pieces at piece changed) lens;
}
  where
    at : is_piece (kind_at ks s) ≡ true
    at = live_piece (kind_at ks s) alive

    here_is : kind_at (set ks s Freed) s ≡ Freed
    here_is = kind_set ks s Freed (piece_within ks s at)

    others : (q : ℕ) → q ≢ s → kind_at (set ks s Freed) q ≡ kind_at ks q
    others q ne = kind_other ks s Freed q ne

    other_seen : (q : ℕ) → q ≢ s → seen vs q (kind_at (set ks s Freed) q) ≡ seen ws q (kind_at ks q)
    other_seen q ne = ap (λ k. seen vs q k) (others q ne) ∙ seen_by ws vs q (kind_at ks q) (λ alive. entry_kept ws vs ks s q pieces at alive ne changed)

    was : (q : ℕ) → is_piece (kind_at (set ks s Freed) q) ≡ true → is_piece (kind_at ks q) ≡ true
    was q piece = elim (cases q s) [
      | inl here ↦ ap (λ n. is_piece (kind_at ks n)) here ∙ at
      | inr apart ↦ sym (ap is_piece (others q apart)) ∙ piece
    ]

    lens : (q : ℕ) → is_live (kind_at (set ks s Freed) q) ≡ true → (len_in vs q ≤ room_in ws q) × (len_in vs q ≤ most_literals)
    lens q live = elim (cases q s) [
      | inl here ↦ absurd (let dead : is_live (kind_at (set ks s Freed) q) ≡ false = ap (λ n. is_live (kind_at (set ks s Freed) n)) here ∙ ap is_live here_is in cc)
      | inr apart ↦
          let was_live : is_live (kind_at ks q) ≡ true = sym (ap is_live (others q apart)) ∙ live in
          let kept : len_in vs q ≡ len_in ws q = len_kept ws vs ks s q pieces at (live_piece (kind_at ks q) was_live) apart changed in
          let fits_there : len_in ws q ≤ room_in ws q = pieces.fits q was_live in
          let few_there : len_in ws q ≤ most_literals = pieces.few q was_live in
          (omega arith, omega arith)
    ]

-- What stays where words change behind the pieces alone.

len_below : (ws vs : List ℕ) (ks : List Kind) (q : ℕ) → ArePieces ws ks → is_piece (kind_at ks q) ≡ true → ((i : ℕ) → i < 8 * length ks → word vs i ≡ word ws i) → len_in vs q ≡ len_in ws q
len_below ws vs ks q pieces at below = let w = pieces.within q at in below (8 * q + 1) (omega (arith, w))

room_below : (ws vs : List ℕ) (ks : List Kind) (q : ℕ) → ArePieces ws ks → is_piece (kind_at ks q) ≡ true → ((i : ℕ) → i < 8 * length ks → word vs i ≡ word ws i) → room_in vs q ≡ room_in ws q
room_below ws vs ks q pieces at below = let w = pieces.within q at in below (8 * q) (omega (arith, w))

seen_below : (ws vs : List ℕ) (ks : List Kind) (q : ℕ) → ArePieces ws ks → ((i : ℕ) → i < 8 * length ks → word vs i ≡ word ws i) → seen vs q (kind_at ks q) ≡ seen ws q (kind_at ks q)
seen_below ws vs ks q pieces below = seen_by ws vs q (kind_at ks q) (λ alive.
    let w : 8 * q + 4 + room_in ws q ≤ 8 * length ks = pieces.within q (live_piece (kind_at ks q) alive) in
    let fits : len_in ws q ≤ room_in ws q = pieces.fits q alive in
    entry_same ws vs q (λ i low high. below i (omega arith)))

-- the words got longer at their end
pub record Longer (ws xs : List ℕ) (ks : List Kind) : Type 0 where
  pub pieces : ArePieces (ws ++ xs) ks
  pub stays : live_pieces (ws ++ xs) ks ≡ live_pieces ws ks

pub longer : (ws xs : List ℕ) (ks : List Kind) → ArePieces ws ks → Longer ws xs ks
longer ws xs ks pieces = record {
  pieces = record {
    wide = omega (arith, wide, length-append ws xs);
    within = λ s at. let r = room_below ws (ws ++ xs) ks s pieces at below in let w = pieces.within s at in omega (arith, r, w);
    apart = λ s t at other lt. let r = room_below ws (ws ++ xs) ks s pieces at below in let w = pieces.apart s t at other lt in omega (arith, r, w);
    fits = λ s live.
        let r = room_below ws (ws ++ xs) ks s pieces (live_piece (kind_at ks s) live) below in
        let l = len_below ws (ws ++ xs) ks s pieces (live_piece (kind_at ks s) live) below in
        let f = pieces.fits s live in omega (arith, r, l, f);
    few = λ s live.
        let l = len_below ws (ws ++ xs) ks s pieces (live_piece (kind_at ks s) live) below in
        let f = pieces.few s live in omega (arith, l, f);
  };
  stays = unchanged ws (ws ++ xs) ks ks (λ q. seen_below ws (ws ++ xs) ks q pieces below);
}
  where
    wide : 8 * length ks ≤ length ws
    wide = pieces.wide

    below : (i : ℕ) → i < 8 * length ks → word (ws ++ xs) i ≡ word ws i
    below i lt = get_or_append_left ws xs 0 i (omega (arith, wide))

inside_all : (n i : ℕ) → kind_at (replicate n Inside) i ≡ Inside
inside_all zero i = refl
inside_all (suc n) zero = refl
inside_all (suc n) (suc i) = inside_all n i

kind_before : (ks : List Kind) (n q : ℕ) → kind_at (ks ++ replicate n Inside) q ≡ kind_at ks q
kind_before [] n q = inside_all n q
kind_before (k ∷ ks) n zero = refl
kind_before (k ∷ ks) n (suc q) = kind_before ks n q

long_kinds : (ks : List Kind) (n : ℕ) → length (ks ++ replicate n Inside) ≡ length ks + n
long_kinds ks n = length-append ks (replicate n Inside) ∙ ap (λ k. length ks + k) (length-replicate n Inside)

-- a piece without an entry begins behind all others: what holds of the words vs and the kinds js then
pub record Appended (ws vs : List ℕ) (ks js : List Kind) (units : ℕ) : Type 0 where
  pub pieces : ArePieces vs js
  pub stays : live_pieces vs js ≡ live_pieces ws ks
  pub freed : kind_at js (length ks) ≡ Freed
  pub room : room_in vs (length ks) + 4 ≡ 8 * units
  pub long : length js ≡ length ks + units

-- the same by what the words and kinds are at each place
appended_by : (ws vs : List ℕ) (ks js : List Kind) (units : ℕ) → ArePieces ws ks → 8 * (length ks + units) ≤ length ws → 1 ≤ units
    → length vs ≡ length ws → length js ≡ length ks + units
    → ((i : ℕ) → i < 8 * length ks → word vs i ≡ word ws i) → word vs (8 * length ks) ≡ 8 * units - 4
    → kind_at js (length ks) ≡ Freed → ((q : ℕ) → q ≢ length ks → kind_at js q ≡ kind_at ks q)
    → Appended ws vs ks js units
appended_by ws vs ks js units pieces wide some long_words long_js below head here others = record {
  pieces = record {
    wide = omega arith;
    within = λ s at. elim (cases s (length ks)) [
      | inl is ↦ let r : word vs (8 * s) ≡ 8 * units - 4 = ap (λ n. word vs (8 * n)) is ∙ head in omega arith
      | inr ne ↦ let w = behind s at ne in omega (arith, w)
    ];
    apart = λ s t at other lt. elim (cases s (length ks)) [
      | inl is ↦ elim (cases t (length ks)) [
        | inl same ↦ absurd (omega arith)
        | inr ne ↦ let far = piece_within ks t (was t other ne) in absurd (omega (arith, far))
      ]
      | inr ne ↦ elim (cases t (length ks)) [
        | inl same ↦ let w = behind s at ne in omega (arith, w)
        | inr ne2 ↦ let r = room_below ws vs ks s pieces (was s at ne) below in let a = pieces.apart s t (was s at ne) (was t other ne2) lt in omega (arith, r, a)
      ]
    ];
    fits = λ s live. let lives = was_live s live in
        let at = live_piece (kind_at ks s) lives in
        let r = room_below ws vs ks s pieces at below in
        let l = len_below ws vs ks s pieces at below in
        let f = pieces.fits s lives in omega (arith, r, l, f);
    few = λ s live. let lives = was_live s live in
        let l = len_below ws vs ks s pieces (live_piece (kind_at ks s) lives) below in
        let f = pieces.few s lives in omega (arith, l, f);
  };
  stays = unchanged ws vs ks js (λ q. elim (cases q (length ks)) [
    | inl is ↦ ap (λ n. seen vs n (kind_at js n)) is ∙ ap (λ k. seen vs (length ks) k) here ∙ sym (ap (λ n. seen ws n (kind_at ks n)) is ∙ ap (λ k. seen ws (length ks) k) end)
    | inr ne ↦ ap (λ k. seen vs q k) (others q ne) ∙ seen_below ws vs ks q pieces below
  ]);
  freed = here;
  room = omega arith;
  long = long_js;
}
  where
    end : kind_at ks (length ks) ≡ Inside
    end = get_or_past ks (length ks) Inside (omega arith)

    was : (q : ℕ) → is_piece (kind_at js q) ≡ true → q ≢ length ks → is_piece (kind_at ks q) ≡ true
    was q at ne = sym (ap is_piece (others q ne)) ∙ at

    behind : (q : ℕ) → is_piece (kind_at js q) ≡ true → q ≢ length ks → 8 * q + 4 + room_in vs q ≤ 8 * length ks
    behind q at ne = let r = room_below ws vs ks q pieces (was q at ne) below in let w = pieces.within q (was q at ne) in omega (arith, r, w)

    was_live : (q : ℕ) → is_live (kind_at js q) ≡ true → is_live (kind_at ks q) ≡ true
    was_live q live = elim (cases q (length ks)) [
      | inl is ↦ absurd (let dead : is_live (kind_at js q) ≡ false = ap (λ n. is_live (kind_at js n)) is ∙ ap is_live here in cc)
      | inr ne ↦ sym (ap is_live (others q ne)) ∙ live
    ]

pub appended : (ws : List ℕ) (ks : List Kind) (units : ℕ) → ArePieces ws ks → 8 * (length ks + units) ≤ length ws → 1 ≤ units
    → Appended ws (set ws (8 * length ks) (8 * units - 4)) ks (set (ks ++ replicate units Inside) (length ks) Freed) units
appended ws ks units pieces wide some = appended_by ws (set ws (8 * length ks) (8 * units - 4)) ks (set (ks ++ replicate units Inside) (length ks) Freed) units pieces wide some
    (length-set ws (8 * length ks) (8 * units - 4))
    (length-set (ks ++ replicate units Inside) (length ks) Freed ∙ long_kinds ks units)
    (λ i lt. let ne : i ≢ 8 * length ks = omega arith in get_or-set_other ws (8 * length ks) i (8 * units - 4) 0 ne)
    (get_or-set_same ws (8 * length ks) (8 * units - 4) 0 (omega arith))
    (kind_set (ks ++ replicate units Inside) (length ks) Freed (omega (arith, long_kinds ks units)))
    (λ q ne. kind_other (ks ++ replicate units Inside) (length ks) Freed q ne ∙ kind_before ks units q)

-- A piece without an entry is parted in two.

-- what holds where the piece at s keeps u units
pub record IsSplit (ws vs : List ℕ) (ks js : List Kind) (s u : ℕ) : Type 0 where
  pub pieces : ArePieces vs js
  pub stays : live_pieces vs js ≡ live_pieces ws ks
  pub freed : kind_at js s ≡ Freed
  pub rest : kind_at js (s + u) ≡ Freed
  pub room : room_in vs s + 4 ≡ 8 * u

module _ (ws vs : List ℕ) (ks js : List Kind) (s u : ℕ) (pieces : ArePieces ws ks) (was : kind_at ks s ≡ Freed) (some : 1 ≤ u)
    (here : room_in vs s + 4 ≡ 8 * u) (there : 8 * (s + u) + 4 + room_in vs (s + u) ≤ 8 * s + 4 + room_in ws s)
    (long_words : length vs ≡ length ws) (long_kinds : length js ≡ length ks)
    (kept : (i : ℕ) → i ≢ 8 * s → i ≢ 8 * (s + u) → word vs i ≡ word ws i)
    (rest : kind_at js (s + u) ≡ Freed) (others : (q : ℕ) → q ≢ s + u → kind_at js q ≡ kind_at ks q) where
  at : is_piece (kind_at ks s) ≡ true
  at = ap is_piece was

  end : 8 * s + 4 + room_in ws s ≤ 8 * length ks
  end = pieces.within s at

  piece_was : (q : ℕ) → is_piece (kind_at js q) ≡ true → q ≢ s + u → is_piece (kind_at ks q) ≡ true
  piece_was q piece ne = sym (ap is_piece (others q ne)) ∙ piece

  room_was : (q : ℕ) → q ≢ s → q ≢ s + u → room_in vs q ≡ room_in ws q
  room_was q ne ne2 = kept (8 * q) (λ e. ne (omega (arith, e))) (λ e. ne2 (omega (arith, e)))

  -- where a piece ends that was there before, beside the one that is parted
  clear : (q : ℕ) → is_piece (kind_at js q) ≡ true → q ≢ s → q ≢ s + u → (8 * q + 4 + room_in vs q ≤ 8 * s) ⊎ (8 * s + 4 + room_in ws s ≤ 8 * q)
  clear q piece ne ne2 = elim (three q s) [
    | inl before ↦ let a = pieces.apart q s (piece_was q piece ne2) at before in let r = room_was q ne ne2 in inl (omega (arith, a, r))
    | inr (inl same) ↦ absurd (ne same)
    | inr (inr behind) ↦ inr (pieces.apart s q at (piece_was q piece ne2) behind)
  ]

  split_within : (q : ℕ) → is_piece (kind_at js q) ≡ true → 8 * q + 4 + room_in vs q ≤ 8 * length js
  split_within q piece = elim (cases q s) [
    | inl is ↦ let r : room_in vs q ≡ room_in vs s = ap (room_in vs) is in omega (arith, r, is, end, there, here, long_kinds)
    | inr ne ↦ elim (cases q (s + u)) [
      | inl is ↦ let r : room_in vs q ≡ room_in vs (s + u) = ap (room_in vs) is in omega (arith, r, is, end, there, long_kinds)
      | inr ne2 ↦ let w = pieces.within q (piece_was q piece ne2) in let r = room_was q ne ne2 in omega (arith, w, r, long_kinds)
    ]
  ]

  split_apart : (a b : ℕ) → is_piece (kind_at js a) ≡ true → is_piece (kind_at js b) ≡ true → a < b → 8 * a + 4 + room_in vs a ≤ 8 * b
  split_apart a b piece_a piece_b lt = elim (cases a s) [
    | inl is ↦ let r : room_in vs a ≡ room_in vs s = ap (room_in vs) is in elim (cases b (s + u)) [
      | inl is2 ↦ omega (arith, r, is, is2, here)
      | inr ne2 ↦ let ne : b ≢ s = (λ e. absurd (omega (arith, e, is, lt))) in elim (clear b piece_b ne ne2) [
        | inl before ↦ absurd (omega (arith, before, is, lt))
        | inr behind ↦ omega (arith, r, is, here, there, behind)
      ]
    ]
    | inr ne_a ↦ elim (cases a (s + u)) [
      | inl is ↦ let r : room_in vs a ≡ room_in vs (s + u) = ap (room_in vs) is in
          let ne : b ≢ s = (λ e. absurd (omega (arith, e, is, lt))) in
          let ne2 : b ≢ s + u = (λ e. absurd (omega (arith, e, is, lt))) in
          elim (clear b piece_b ne ne2) [
            | inl before ↦ absurd (omega (arith, before, is, lt))
            | inr behind ↦ omega (arith, r, is, there, behind)
          ]
      | inr ne_a2 ↦ elim (cases b s) [
        | inl is ↦ elim (clear a piece_a ne_a ne_a2) [
          | inl before ↦ omega (arith, before, is)
          | inr behind ↦ absurd (omega (arith, behind, is, lt))
        ]
        | inr ne_b ↦ elim (cases b (s + u)) [
          | inl is ↦ elim (clear a piece_a ne_a ne_a2) [
            | inl before ↦ omega (arith, before, is)
            | inr behind ↦ absurd (omega (arith, behind, is, lt, there))
          ]
          | inr ne_b2 ↦ let r = room_was a ne_a ne_a2 in
              let p = pieces.apart a b (piece_was a piece_a ne_a2) (piece_was b piece_b ne_b2) lt in omega (arith, r, p)
        ]
      ]
    ]
  ]

  -- a live piece is none of the two
  live_ne : (q : ℕ) → is_live (kind_at js q) ≡ true → q ≢ s + u
  live_ne q live e = absurd (let dead : is_live (kind_at js q) ≡ false = ap (λ n. is_live (kind_at js n)) e ∙ ap is_live rest in cc)

  live_was : (q : ℕ) → is_live (kind_at js q) ≡ true → is_live (kind_at ks q) ≡ true
  live_was q live = sym (ap is_live (others q (live_ne q live))) ∙ live

  live_ne_s : (q : ℕ) → is_live (kind_at ks q) ≡ true → q ≢ s
  live_ne_s q live e = absurd (let dead : is_live (kind_at ks q) ≡ false = ap (λ n. is_live (kind_at ks n)) e ∙ ap is_live was in cc)

  len_was : (q : ℕ) → len_in vs q ≡ len_in ws q
  len_was q = kept (8 * q + 1) (λ e. absurd (omega (arith, e))) (λ e. absurd (omega (arith, e)))

  seen_was : (q : ℕ) → q ≢ s + u → seen vs q (kind_at js q) ≡ seen ws q (kind_at ks q)
  seen_was q ne2 = ap (λ k. seen vs q k) (others q ne2) ∙ seen_by ws vs q (kind_at ks q) (λ live.
      let ne = live_ne_s q live in
      let fits : len_in ws q ≤ room_in ws q = pieces.fits q live in
      let piece : is_piece (kind_at ks q) ≡ true = live_piece (kind_at ks q) live in
      elim (three q s) [
        | inl before ↦ let a = pieces.apart q s piece at before in
            entry_same ws vs q (λ i low high. kept i (λ e. absurd (omega (arith, e, a, high, fits))) (λ e. absurd (omega (arith, e, a, high, fits))))
        | inr (inl same) ↦ absurd (ne same)
        | inr (inr behind) ↦ let a = pieces.apart s q at piece behind in
            entry_same ws vs q (λ i low high. kept i (λ e. absurd (omega (arith, e, a, low))) (λ e. absurd (omega (arith, e, a, low, there))))
      ])

  end_seen : seen ws (s + u) (kind_at ks (s + u)) ≡ None
  end_seen = elim (kind_at ks (s + u)) as (λ k. kind_at ks (s + u) ≡ k → seen ws (s + u) k ≡ None) [
    | Inside ↦ λ e. refl
    | Freed ↦ λ e. refl
    | Live ↦ λ e. let a = pieces.apart s (s + u) at (ap is_piece e) (omega (arith, some)) in absurd (omega (arith, a, there))
  ] refl

  pub split_by : IsSplit ws vs ks js s u
  split_by = record {
    pieces = record {
      wide = let w = pieces.wide in omega (arith, w, long_words, long_kinds);
      within = split_within;
      apart = split_apart;
      fits = λ q live. let l = live_was q live in let f = pieces.fits q l in let n = len_was q in
          let r = room_was q (live_ne_s q l) (live_ne q live) in omega (arith, f, n, r);
      few = λ q live. let f = pieces.few q (live_was q live) in let n = len_was q in omega (arith, f, n);
    };
    stays = unchanged ws vs ks js (λ q. elim (cases q (s + u)) [
      | inl is ↦ ap (λ n. seen vs n (kind_at js n)) is ∙ ap (λ k. seen vs (s + u) k) rest ∙ sym (ap (λ n. seen ws n (kind_at ks n)) is ∙ end_seen)
      | inr ne ↦ seen_was q ne
    ]);
    freed = others s (λ e. absurd (omega (arith, e, some))) ∙ was;
    rest = rest;
    room = here;
  }

-- the same by the two words and the kind that are written
pub split : (ws : List ℕ) (ks : List Kind) (s u whole : ℕ) → ArePieces ws ks → kind_at ks s ≡ Freed → 1 ≤ u → u < whole → 8 * whole ≤ room_in ws s + 4
    → IsSplit ws (set (set ws (8 * s) (8 * u - 4)) (8 * (s + u)) (8 * (whole - u) - 4)) ks (set ks (s + u) Freed) s u
split ws ks s u whole pieces was some less fits =
    let vs = set ws (8 * s) (8 * u - 4) in
    let at : is_piece (kind_at ks s) ≡ true = ap is_piece was in
    let end : 8 * s + 4 + room_in ws s ≤ 8 * length ks = pieces.within s at in
    let wide : 8 * length ks ≤ length ws = pieces.wide in
    let long : length vs ≡ length ws = length-set ws (8 * s) (8 * u - 4) in
    let ne : 8 * s ≢ 8 * (s + u) = (λ e. absurd (omega (arith, e, some))) in
    let here : word (set vs (8 * (s + u)) (8 * (whole - u) - 4)) (8 * s) ≡ 8 * u - 4 = get_or-set_other vs (8 * (s + u)) (8 * s) (8 * (whole - u) - 4) 0 ne ∙ get_or-set_same ws (8 * s) (8 * u - 4) 0 (omega (arith, end, wide)) in
    let there : word (set vs (8 * (s + u)) (8 * (whole - u) - 4)) (8 * (s + u)) ≡ 8 * (whole - u) - 4 = get_or-set_same vs (8 * (s + u)) (8 * (whole - u) - 4) 0 (omega (arith, end, wide, long, fits, less)) in
    split_by ws (set vs (8 * (s + u)) (8 * (whole - u) - 4)) ks (set ks (s + u) Freed) s u pieces was some
    (omega (arith, here, some)) (omega (arith, there, fits, less))
    (length-set vs (8 * (s + u)) (8 * (whole - u) - 4) ∙ long) (length-set ks (s + u) Freed)
    (λ i a b. get_or-set_other vs (8 * (s + u)) i (8 * (whole - u) - 4) 0 b ∙ get_or-set_other ws (8 * s) i (8 * u - 4) 0 a)
    (kind_set ks (s + u) Freed (omega (arith, end, fits, less)))
    (λ q apart. kind_other ks (s + u) Freed q apart)

-- the words have changed within a piece that has no entry
pub record Chained (ws vs : List ℕ) (ks : List Kind) (s : ℕ) : Type 0 where
  pub pieces : ArePieces vs ks
  pub stays : live_pieces vs ks ≡ live_pieces ws ks
  pub rooms : (q : ℕ) → kind_at ks q ≡ Freed → room_in vs q ≡ room_in ws q

pub chained : (ws vs : List ℕ) (ks : List Kind) (s : ℕ) → ArePieces ws ks → kind_at ks s ≡ Freed → IsWithin s ws vs → Chained ws vs ks s
chained ws vs ks s pieces was changed = record {
  pieces = are_again ws vs ks ks pieces changed.long refl (λ q piece. piece) (λ q piece. room_kept ws vs ks s q pieces at piece changed) (λ q live.
      let kept : len_in vs q ≡ len_in ws q = len_kept ws vs ks s q pieces at (live_piece (kind_at ks q) live) (other q live) changed in
      let fits : len_in ws q ≤ room_in ws q = pieces.fits q live in
      let few : len_in ws q ≤ most_literals = pieces.few q live in
      (omega (arith, kept, fits), omega (arith, kept, few)));
  stays = unchanged ws vs ks ks (λ q. seen_by ws vs q (kind_at ks q) (λ live. entry_kept ws vs ks s q pieces at live (other q live) changed));
  rooms = λ q freed. room_kept ws vs ks s q pieces at (ap is_piece freed) changed;
}
  where
    at : is_piece (kind_at ks s) ≡ true
    at = ap is_piece was

    other : (q : ℕ) → is_live (kind_at ks q) ≡ true → q ≢ s
    other q live e = absurd (let dead : is_live (kind_at ks q) ≡ false = ap (λ n. is_live (kind_at ks n)) e ∙ ap is_live was in cc)
