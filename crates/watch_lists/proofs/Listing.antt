-- Lists of entries and the table of their places: an entry put at a list's end, and an entry taken out of a list.
use Rattle.std.proofs.Common.{◌≡◌, ◌≢◌, ℕ, ◌+◌, ◌-◌, ◌<◌, ◌≤◌, ◌⊎◌, List, [], ◌∷◌, ◌++◌, length, refl, sym, ap, ◌∙◌, subst, inl, inr, arith, cond, length-append, length-set, get_or-set_same, get_or-set_other}
use Rattle.std.specs.Prelude.{slice_set}
use Rattle.std.proofs.Math.ListN.{get_or-append}
use Rattle.std.proofs.Math.Seq.{get_or-append_seam}
use Rattle.std.proofs.lemmas.Bool.{cases_eq, cases_lt}
use Rattle.std.proofs.lemmas.Bool.Decides.{leb_tells}
use Rattle.watch_lists.specs.Watch.{WatchView, no_watch, node_at}
use Rattle.watch_lists.specs.Watched.{entry_at}
use Rattle.watch_lists.specs.Lists.{RowView, no_row, row_at, watches_at, count_at, with_watches, IsCut, IsRowChanged, put_places, cut_places, last_in, place_in, StandsIn, AreListed}

-- the relation, and the function that tells places, is another way to say the same
pub listed_same : (R Q : ℕ → ℕ → ℕ → Type 0) (f g : ℕ → ℕ → ℕ) (rows : List RowView) (places : List ℕ) → ((s p l : ℕ) → R s p l → Q s p l) → ((s p l : ℕ) → Q s p l → R s p l) → ((s p l : ℕ) → Q s p l → g s l ≡ p)
    → AreListed R f rows places → AreListed Q g rows places
listed_same R Q f g rows places to from tied k = record {
  here = λ s p l q. k.here s p l (from s p l q);
  tied = tied;
  back = λ l i lt. let q = to _ _ l (k.back l i lt) in subst (λ z. Q (entry_at (watches_at rows l) i).slot z l) (sym (tied _ _ l q)) q;
  placed = λ l i lt. ap (place_in places (entry_at (watches_at rows l) i).slot) (tied _ _ l (to _ _ l (k.back l i lt))) ∙ k.placed l i lt;
  low = λ s p l q. k.low s p l (from s p l q);
}

-- ---- Entries and places

pub entry_at-end : (es : List WatchView) (e : WatchView) → entry_at (es ++ e ∷ []) (length es) ≡ e
entry_at-end es e = get_or-append_seam es e [] no_watch

pub entry_at-below : (es : List WatchView) (e : WatchView) (i : ℕ) → i < length es → entry_at (es ++ e ∷ []) i ≡ entry_at es i
entry_at-below es e i lt = get_or-append es (e ∷ []) no_watch i lt

length-end : (es : List WatchView) (e : WatchView) → length (es ++ e ∷ []) ≡ length es + 1
length-end es e = length-append es (e ∷ [])

-- numbers of entries are different for different slots and places
pub nodes-apart : (t q s p : ℕ) → q ≤ 1 → p ≤ 1 → node_at t q ≡ node_at s p → (t ≡ s) × (q ≡ p)
nodes-apart t q s p low low2 e = (omega arith, omega arith)

nodes-same : (t q s p : ℕ) → t ≡ s → q ≡ p → node_at t q ≡ node_at s p
nodes-same t q s p e f = ap (λ z. node_at z q) e ∙ ap (node_at s) f

pub place_in-same : (places : List ℕ) (s p i : ℕ) → node_at s p < length places → place_in (slice_set places (node_at s p) i) s p ≡ i
place_in-same places s p i lt = get_or-set_same places (node_at s p) i 0 lt

pub place_in-other : (places : List ℕ) (n i t q : ℕ) → node_at t q ≢ n → place_in (slice_set places n i) t q ≡ place_in places t q
place_in-other places n i t q ne = get_or-set_other places n (node_at t q) i 0 ne

stands : (rows : List RowView) (places : List ℕ) (t q l n : ℕ) → place_in places t q ≡ n → n < length (watches_at rows l) → (entry_at (watches_at rows l) n).slot ≡ t → StandsIn rows places t q l
stands rows places t q l n at lt slot = record {
  within = subst (λ z. z < length (watches_at rows l)) (sym at) lt;
  slot = subst (λ z. (entry_at (watches_at rows l) z).slot ≡ t) (sym at) slot;
}

-- ---- An entry taken out

-- the entry of a slot is taken out of a list
pub record Cuts (rows new : List RowView) (s l i : ℕ) : Type 0 where
  pub within : i < length (watches_at rows l)
  pub slot : (entry_at (watches_at rows l) i).slot ≡ s
  pub row : IsRowChanged l rows new
  pub cut : IsCut (watches_at rows l) (watches_at new l) i

-- an entry of the new lists is the one that moved, or one of the old lists where it stood
record Moved (rows new : List RowView) (l i a k : ℕ) : Type 0 where
  pub list : a ≡ l
  pub place : k ≡ i
  pub more : i + 1 < length (watches_at rows l)
  pub is : entry_at (watches_at new a) k ≡ entry_at (watches_at rows l) (length (watches_at rows l) - 1)

record Stayed (rows new : List RowView) (l i a k : ℕ) : Type 0 where
  pub apart : a ≡ l → (k ≢ i) × (k + 1 < length (watches_at rows l))
  pub within : k < length (watches_at rows a)
  pub is : entry_at (watches_at new a) k ≡ entry_at (watches_at rows a) k

cut_cases : (rows new : List RowView) (s l i a k : ℕ) → Cuts rows new s l i → k < length (watches_at new a) → Moved rows new l i a k ⊎ Stayed rows new l i a k
cut_cases rows new s l i a k c lt = elim (cases_eq a l) [
  | inl e ↦ let short : length (watches_at new l) + 1 ≡ length (watches_at rows l) = c.cut.shorter in
      let below : k < length (watches_at new l) = subst (λ z. k < length (watches_at new z)) e lt in
      let more : k + 1 < length (watches_at rows l) = omega arith in
      elim (cases_eq k i) [
        | inl f ↦ let room : i + 1 < length (watches_at rows l) = subst (λ z. z + 1 < length (watches_at rows l)) f more in inl (record {
          list = e;
          place = f;
          more = room;
          is = ap (λ z. entry_at (watches_at new z) k) e ∙ ap (entry_at (watches_at new l)) f ∙ c.cut.moved room;
        })
        | inr n ↦ inr (record {
          apart = λ _. (n, more);
          within = subst (λ z. k < length (watches_at rows z)) (sym e) (omega arith);
          is = ap (λ z. entry_at (watches_at new z) k) e ∙ c.cut.others k n more ∙ ap (λ z. entry_at (watches_at rows z) k) (sym e);
        })
      ]
  | inr n ↦ let same : watches_at new a ≡ watches_at rows a = ap (λ r. r.watches) (c.row.others a n) in inr (record {
    apart = λ e. absurd (n e);
    within = subst (λ z. k < length z) same lt;
    is = ap (λ z. entry_at z k) same;
  })
]

cut_kept : (rows new : List RowView) (s l i a k : ℕ) → Cuts rows new s l i → k < length (watches_at rows a) → (a ≡ l → (k ≢ i) × (k + 1 < length (watches_at rows l)))
    → (k < length (watches_at new a)) × (entry_at (watches_at new a) k ≡ entry_at (watches_at rows a) k)
cut_kept rows new s l i a k c lt apart = elim (cases_eq a l) [
  | inl e ↦ let short : length (watches_at new l) + 1 ≡ length (watches_at rows l) = c.cut.shorter in
      let d = apart e in
      let more : k + 1 < length (watches_at rows l) = d.1 in (
        subst (λ z. k < length (watches_at new z)) (sym e) (omega arith),
        ap (λ z. entry_at (watches_at new z) k) e ∙ c.cut.others k d.0 more ∙ ap (λ z. entry_at (watches_at rows z) k) (sym e),
      )
  | inr n ↦ let same : watches_at new a ≡ watches_at rows a = ap (λ r. r.watches) (c.row.others a n) in (
    subst (λ z. k < length z) (sym same) lt,
    ap (λ z. entry_at z k) same,
  )
]

-- the table: the last entry of the list stands at the place, if it isn't the one that is taken out
record CutPlaces (places new : List ℕ) (s p i long : ℕ) : Type 0 where
  pub moved : i + 1 < long → place_in new s p ≡ i
  pub others : (t q : ℕ) → node_at t q ≢ node_at s p → place_in new t q ≡ place_in places t q

cut_places-is : (places : List ℕ) (es : List WatchView) (p i : ℕ) → node_at (last_in es).slot p < length places → CutPlaces places (cut_places places es p i) (last_in es).slot p i (length es)
cut_places-is places es p i fits = elim (leb_tells (length es) (i + 1)) [
  | inl y ↦ subst (λ b. CutPlaces places (cond b places (slice_set places (node_at (last_in es).slot p) i)) (last_in es).slot p i (length es)) (sym y.0) (record {
    moved = λ lt. let le : length es ≤ i + 1 = y.1 in absurd (omega arith);
    others = λ t q ne. refl;
  })
  | inr n ↦ subst (λ b. CutPlaces places (cond b places (slice_set places (node_at (last_in es).slot p) i)) (last_in es).slot p i (length es)) (sym n.0) (record {
    moved = λ lt. place_in-same places (last_in es).slot p i fits;
    others = λ t q ne. place_in-other places (node_at (last_in es).slot p) i t q ne;
  })
]

-- the entry of a slot and a place is one of a list
one_of : (R : ℕ → ℕ → ℕ → Type 0) (f : ℕ → ℕ → ℕ) (rows : List RowView) (places : List ℕ) (l n t q : ℕ) → AreListed R f rows places → n < length (watches_at rows l) → q ≤ 1 → node_at t q ≡ node_at (entry_at (watches_at rows l) n).slot (f (entry_at (watches_at rows l) n).slot l)
    → R t q l × (place_in places t q ≡ n)
one_of R f rows places l n t q k lt low e =
    let r = k.back l n lt in
    let d = nodes-apart t q (entry_at (watches_at rows l) n).slot (f (entry_at (watches_at rows l) n).slot l) low (k.low _ _ l r) e in (
      subst (λ z. R z q l) (sym d.0) (subst (λ z. R (entry_at (watches_at rows l) n).slot z l) (sym d.1) r),
      ap (λ z. place_in places z q) d.0 ∙ ap (place_in places (entry_at (watches_at rows l) n).slot) d.1 ∙ k.placed l n lt,
    )

pub listed_cut : (R : ℕ → ℕ → ℕ → Type 0) (f : ℕ → ℕ → ℕ) (rows new : List RowView) (places : List ℕ) (s p l i : ℕ)
    → ((t q a b : ℕ) → R t q a → R t q b → a ≡ b)
    → ((t q a : ℕ) → R t q a → node_at t q < length places)
    → AreListed R f rows places → Cuts rows new s l i → f s l ≡ p
    → AreListed (λ t q k. R t q k × (t ≡ s → q ≡ p → ⊥)) f new (cut_places places (watches_at rows l) (f (last_in (watches_at rows l)).slot l) i)
listed_cut R f rows new places s p l i one fits k c place = record { here = here; tied = λ t q a h. k.tied t q a h.0; back = back; placed = placed; low = λ t q a h. k.low t q a h.0 }
  where
    last_within : length (watches_at rows l) - 1 < length (watches_at rows l)
    last_within = let lt : i < length (watches_at rows l) = c.within in omega arith

    table : CutPlaces places (cut_places places (watches_at rows l) (f (last_in (watches_at rows l)).slot l) i) (last_in (watches_at rows l)).slot (f (last_in (watches_at rows l)).slot l) i (length (watches_at rows l))
    table = cut_places-is places (watches_at rows l) (f (last_in (watches_at rows l)).slot l) i (fits _ _ l (k.back l (length (watches_at rows l) - 1) last_within))

    place_here : f (entry_at (watches_at rows l) i).slot l ≡ p
    place_here = ap (λ z. f z l) c.slot ∙ place

    taken : R s p l
    taken = subst (λ z. R z p l) c.slot (subst (λ z. R (entry_at (watches_at rows l) i).slot z l) place_here (k.back l i c.within))

    -- an entry of the slot and the place stands where the one stands that is taken out
    same_place : (a j : ℕ) → j < length (watches_at rows a) → (entry_at (watches_at rows a) j).slot ≡ s → f (entry_at (watches_at rows a) j).slot a ≡ p → j ≡ i
    same_place a j lt e g =
        sym (k.placed a j lt) ∙ ap (λ z. place_in places z (f (entry_at (watches_at rows a) j).slot a)) (e ∙ sym c.slot) ∙ ap (place_in places (entry_at (watches_at rows l) i).slot) (g ∙ sym place_here) ∙ k.placed l i c.within

    -- the entry isn't the last of the list, and not the one that is taken out
    apart : (t q a : ℕ) → R t q a × (t ≡ s → q ≡ p → ⊥) → node_at t q ≢ node_at (last_in (watches_at rows l)).slot (f (last_in (watches_at rows l)).slot l) → a ≡ l → (place_in places t q ≢ i) × (place_in places t q + 1 < length (watches_at rows l))
    apart t q a h ne e =
        let r : R t q l = subst (R t q) e h.0 in
        let st = k.here t q l r in
        let within : place_in places t q < length (watches_at rows l) = st.within in
        let slot : (n : ℕ) → place_in places t q ≡ n → t ≡ (entry_at (watches_at rows l) n).slot = λ n g. sym st.slot ∙ ap (λ z. (entry_at (watches_at rows l) z).slot) g in
        let before : place_in places t q ≢ length (watches_at rows l) - 1 = λ g. ne (nodes-same t q _ _ (slot (length (watches_at rows l) - 1) g) (sym (k.tied t q l r) ∙ ap (λ z. f z l) (slot (length (watches_at rows l) - 1) g))) in (
          λ g. h.1 (slot i g ∙ c.slot) (sym (k.tied t q l r) ∙ ap (λ z. f z l) (slot i g) ∙ place_here),
          omega arith,
        )

    here : (t q a : ℕ) → R t q a × (t ≡ s → q ≡ p → ⊥) → StandsIn new (cut_places places (watches_at rows l) (f (last_in (watches_at rows l)).slot l) i) t q a
    here t q a h =
        let st = k.here t q a h.0 in
        let small : q ≤ 1 = k.low t q a h.0 in
        elim (cases_eq (node_at t q) (node_at (last_in (watches_at rows l)).slot (f (last_in (watches_at rows l)).slot l))) [
          | inl e ↦
              let g = one_of R f rows places l (length (watches_at rows l) - 1) t q k last_within small e in
              let list : a ≡ l = one t q a l h.0 g.0 in
              let d = nodes-apart t q _ _ small (k.low _ _ l (k.back l (length (watches_at rows l) - 1) last_within)) e in
              let lt : i < length (watches_at rows l) = c.within in
              let ne : i ≢ length (watches_at rows l) - 1 = λ j. h.1 (d.0 ∙ ap (λ z. (entry_at (watches_at rows l) z).slot) (sym j) ∙ c.slot) (d.1 ∙ ap (λ z. f (entry_at (watches_at rows l) z).slot l) (sym j) ∙ place_here) in
              let more : i + 1 < length (watches_at rows l) = omega arith in
              let short : length (watches_at new l) + 1 ≡ length (watches_at rows l) = c.cut.shorter in
              let table_at : place_in (cut_places places (watches_at rows l) (f (last_in (watches_at rows l)).slot l) i) t q ≡ i =
              ap (λ z. place_in (cut_places places (watches_at rows l) (f (last_in (watches_at rows l)).slot l) i) z q) d.0 ∙ ap (place_in (cut_places places (watches_at rows l) (f (last_in (watches_at rows l)).slot l) i) (last_in (watches_at rows l)).slot) d.1 ∙ table.moved more in
              subst (StandsIn new (cut_places places (watches_at rows l) (f (last_in (watches_at rows l)).slot l) i) t q) (sym list)
              (stands new (cut_places places (watches_at rows l) (f (last_in (watches_at rows l)).slot l) i) t q l i table_at (omega arith) (ap (λ z. z.slot) (c.cut.moved more) ∙ sym d.0))
          | inr ne ↦
              let g = cut_kept rows new s l i a (place_in places t q) c st.within (apart t q a h ne) in
              stands new (cut_places places (watches_at rows l) (f (last_in (watches_at rows l)).slot l) i) t q a (place_in places t q) (table.others t q ne) g.0 (ap (λ z. z.slot) g.1 ∙ st.slot)
        ]

    back : (a j : ℕ) → j < length (watches_at new a) → R (entry_at (watches_at new a) j).slot (f (entry_at (watches_at new a) j).slot a) a × ((entry_at (watches_at new a) j).slot ≡ s → f (entry_at (watches_at new a) j).slot a ≡ p → ⊥)
    back a j lt = elim (cut_cases rows new s l i a j c lt) [
      | inl m ↦ subst (λ b. R (entry_at (watches_at new a) j).slot (f (entry_at (watches_at new a) j).slot b) b × ((entry_at (watches_at new a) j).slot ≡ s → f (entry_at (watches_at new a) j).slot b ≡ p → ⊥)) (sym m.list)
          (subst (λ z. R z.slot (f z.slot l) l × (z.slot ≡ s → f z.slot l ≡ p → ⊥)) (sym m.is) (
            k.back l (length (watches_at rows l) - 1) last_within,
            λ e g.
                let more : i + 1 < length (watches_at rows l) = m.more in
                let at : length (watches_at rows l) - 1 ≡ i = same_place l (length (watches_at rows l) - 1) last_within e g in
                absurd (omega arith),
          ))
      | inr m ↦ subst (λ z. R z.slot (f z.slot a) a × (z.slot ≡ s → f z.slot a ≡ p → ⊥)) (sym m.is) (
        k.back a j m.within,
        λ e g.
            let list : a ≡ l = one s p a l (subst (λ z. R z p a) e (subst (λ z. R (entry_at (watches_at rows a) j).slot z a) g (k.back a j m.within))) taken in
            (m.apart list).0 (same_place a j m.within e g),
      )
    ]

    placed : (a j : ℕ) → j < length (watches_at new a) → place_in (cut_places places (watches_at rows l) (f (last_in (watches_at rows l)).slot l) i) (entry_at (watches_at new a) j).slot (f (entry_at (watches_at new a) j).slot a) ≡ j
    placed a j lt = elim (cut_cases rows new s l i a j c lt) [
      | inl m ↦ subst (λ b. place_in (cut_places places (watches_at rows l) (f (last_in (watches_at rows l)).slot l) i) (entry_at (watches_at new a) j).slot (f (entry_at (watches_at new a) j).slot b) ≡ j) (sym m.list)
          (subst (λ z. place_in (cut_places places (watches_at rows l) (f (last_in (watches_at rows l)).slot l) i) z.slot (f z.slot l) ≡ j) (sym m.is) (table.moved m.more ∙ sym m.place))
      | inr m ↦ subst (λ z. place_in (cut_places places (watches_at rows l) (f (last_in (watches_at rows l)).slot l) i) z.slot (f z.slot a) ≡ j) (sym m.is) (
          table.others (entry_at (watches_at rows a) j).slot (f (entry_at (watches_at rows a) j).slot a) (λ e.
          let g = one_of R f rows places l (length (watches_at rows l) - 1) (entry_at (watches_at rows a) j).slot (f (entry_at (watches_at rows a) j).slot a) k last_within (k.low _ _ a (k.back a j m.within)) e in
          let list : a ≡ l = one _ _ a l (k.back a j m.within) g.0 in
          let at : j ≡ length (watches_at rows l) - 1 = sym (k.placed a j m.within) ∙ g.1 in
          let below : j + 1 < length (watches_at rows l) = (m.apart list).1 in
          absurd (omega arith)) ∙ k.placed a j m.within)
    ]

-- ---- An entry put at a list's end

-- an entry that stands in no list is put at a list's end
pub record Puts (rows new : List RowView) (l : ℕ) (e : WatchView) : Type 0 where
  pub reserved : l < length rows
  pub is : new ≡ slice_set rows l (with_watches (row_at rows l) (watches_at rows l ++ e ∷ []))

row_put : (rows new : List RowView) (l : ℕ) (e : WatchView) → Puts rows new l e → row_at new l ≡ with_watches (row_at rows l) (watches_at rows l ++ e ∷ [])
row_put rows new l e p = ap (λ z. row_at z l) p.is ∙ get_or-set_same rows l (with_watches (row_at rows l) (watches_at rows l ++ e ∷ [])) no_row p.reserved

-- the rows beside
pub puts_others : (rows new : List RowView) (l : ℕ) (e : WatchView) → Puts rows new l e → (k : ℕ) → k ≢ l → row_at new k ≡ row_at rows k
puts_others rows new l e p k ne = ap (λ z. row_at z k) p.is ∙ get_or-set_other rows l k (with_watches (row_at rows l) (watches_at rows l ++ e ∷ [])) no_row ne

pub puts_count : (rows new : List RowView) (l : ℕ) (e : WatchView) → Puts rows new l e → (k : ℕ) → count_at new k ≡ count_at rows k
puts_count rows new l e p k = elim (cases_eq k l) [
  | inl f ↦ ap (count_at new) f ∙ ap (λ r. r.count) (row_put rows new l e p) ∙ ap (count_at rows) (sym f)
  | inr n ↦ ap (λ r. r.count) (puts_others rows new l e p k n)
]

pub puts_long : (rows new : List RowView) (l : ℕ) (e : WatchView) → Puts rows new l e → length new ≡ length rows
puts_long rows new l e p = ap length p.is ∙ length-set rows l (with_watches (row_at rows l) (watches_at rows l ++ e ∷ []))

pub cuts_count : (l : ℕ) (rows new : List RowView) → IsRowChanged l rows new → (k : ℕ) → count_at new k ≡ count_at rows k
cuts_count l rows new c k = elim (cases_eq k l) [
  | inl f ↦ ap (count_at new) f ∙ c.count ∙ ap (count_at rows) (sym f)
  | inr n ↦ ap (λ r. r.count) (c.others k n)
]

record Joined (rows new : List RowView) (l : ℕ) (e : WatchView) (a k : ℕ) : Type 0 where
  pub list : a ≡ l
  pub place : k ≡ length (watches_at rows l)
  pub is : entry_at (watches_at new a) k ≡ e

record Beside (rows new : List RowView) (a k : ℕ) : Type 0 where
  pub within : k < length (watches_at rows a)
  pub is : entry_at (watches_at new a) k ≡ entry_at (watches_at rows a) k

put_cases : (rows new : List RowView) (l : ℕ) (e : WatchView) (a k : ℕ) → Puts rows new l e → k < length (watches_at new a) → Joined rows new l e a k ⊎ Beside rows new a k
put_cases rows new l e a k p lt = elim (cases_eq a l) [
  | inl f ↦ let same : watches_at new a ≡ watches_at rows l ++ e ∷ [] = ap (watches_at new) f ∙ ap (λ r. r.watches) (row_put rows new l e p) in
      let below : k < length (watches_at rows l ++ e ∷ []) = subst (λ z. k < length z) same lt in
      let long = length-end (watches_at rows l) e in
      elim (cases_lt k (length (watches_at rows l))) [
        | inl g ↦ inr (record {
          within = subst (λ z. k < length (watches_at rows z)) (sym f) g;
          is = ap (λ z. entry_at z k) same ∙ entry_at-below (watches_at rows l) e k g ∙ ap (λ z. entry_at (watches_at rows z) k) (sym f);
        })
        | inr g ↦ let at : k ≡ length (watches_at rows l) = omega arith in inl (record {
          list = f;
          place = at;
          is = ap (λ z. entry_at z k) same ∙ ap (entry_at (watches_at rows l ++ e ∷ [])) at ∙ entry_at-end (watches_at rows l) e;
        })
      ]
  | inr n ↦ let same : watches_at new a ≡ watches_at rows a = ap (λ r. r.watches) (puts_others rows new l e p a n) in inr (record {
    within = subst (λ z. k < length z) same lt;
    is = ap (λ z. entry_at z k) same;
  })
]

put_kept : (rows new : List RowView) (l : ℕ) (e : WatchView) (a k : ℕ) → Puts rows new l e → k < length (watches_at rows a) → (k < length (watches_at new a)) × (entry_at (watches_at new a) k ≡ entry_at (watches_at rows a) k)
put_kept rows new l e a k p lt = elim (cases_eq a l) [
  | inl f ↦ let same : watches_at new a ≡ watches_at rows l ++ e ∷ [] = ap (watches_at new) f ∙ ap (λ r. r.watches) (row_put rows new l e p) in
      let below : k < length (watches_at rows l) = subst (λ z. k < length (watches_at rows z)) f lt in
      let long = length-end (watches_at rows l) e in
      let more : k < length (watches_at rows l ++ e ∷ []) = omega arith in (
        subst (λ z. k < length z) (sym same) more,
        ap (λ z. entry_at z k) same ∙ entry_at-below (watches_at rows l) e k below ∙ ap (λ z. entry_at (watches_at rows z) k) (sym f),
      )
  | inr n ↦ let same : watches_at new a ≡ watches_at rows a = ap (λ r. r.watches) (puts_others rows new l e p a n) in (
    subst (λ z. k < length z) (sym same) lt,
    ap (λ z. entry_at z k) same,
  )
]

put_end : (rows new : List RowView) (l : ℕ) (e : WatchView) → Puts rows new l e → (length (watches_at rows l) < length (watches_at new l)) × (entry_at (watches_at new l) (length (watches_at rows l)) ≡ e)
put_end rows new l e p =
    let same : watches_at new l ≡ watches_at rows l ++ e ∷ [] = ap (λ r. r.watches) (row_put rows new l e p) in
    let long = length-end (watches_at rows l) e in
    let more : length (watches_at rows l) < length (watches_at rows l ++ e ∷ []) = omega arith in (
      subst (λ z. length (watches_at rows l) < length z) (sym same) more,
      ap (λ z. entry_at z (length (watches_at rows l))) same ∙ entry_at-end (watches_at rows l) e,
    )

pub listed_put : (R : ℕ → ℕ → ℕ → Type 0) (f : ℕ → ℕ → ℕ) (rows new : List RowView) (places : List ℕ) (l p : ℕ) (e : WatchView)
    → AreListed R f rows places → ((k : ℕ) → R e.slot p k → ⊥) → p ≤ 1 → node_at e.slot p < length places → f e.slot l ≡ p → Puts rows new l e
    → AreListed (λ t q k. R t q k ⊎ ((t ≡ e.slot) × (q ≡ p) × (k ≡ l))) f new (put_places places (watches_at rows l) e.slot p)
listed_put R f rows new places l p e k absent low fits place x = record { here = here; tied = tied; back = back; placed = placed; low = lows }
  where
    -- an entry of the lists isn't the one that is put
    other : (t q a : ℕ) → R t q a → q ≤ 1 → node_at t q ≢ node_at e.slot p
    other t q a r small g =
        let d = nodes-apart t q e.slot p small low g in
        absurd (absent a (subst (λ z. R z p a) d.0 (subst (λ z. R t z a) d.1 r)))

    here : (t q a : ℕ) → R t q a ⊎ ((t ≡ e.slot) × (q ≡ p) × (a ≡ l)) → StandsIn new (put_places places (watches_at rows l) e.slot p) t q a
    here t q a (inl r) =
        let st = k.here t q a r in
        let g = put_kept rows new l e a (place_in places t q) x st.within in
        stands new (put_places places (watches_at rows l) e.slot p) t q a (place_in places t q) (place_in-other places (node_at e.slot p) (length (watches_at rows l)) t q (other t q a r (k.low t q a r))) g.0 (ap (λ z. z.slot) g.1 ∙ st.slot)
    here t q a (inr d) =
        let g = put_end rows new l e x in
        let at : place_in (put_places places (watches_at rows l) e.slot p) t q ≡ length (watches_at rows l) = ap (λ z. place_in (put_places places (watches_at rows l) e.slot p) z q) d.0 ∙ ap (place_in (put_places places (watches_at rows l) e.slot p) e.slot) d.1 ∙ place_in-same places e.slot p (length (watches_at rows l)) fits in
        subst (StandsIn new (put_places places (watches_at rows l) e.slot p) t q) (sym d.2) (stands new (put_places places (watches_at rows l) e.slot p) t q l (length (watches_at rows l)) at g.0 (ap (λ z. z.slot) g.1 ∙ sym d.0))

    tied : (t q a : ℕ) → R t q a ⊎ ((t ≡ e.slot) × (q ≡ p) × (a ≡ l)) → f t a ≡ q
    tied t q a (inl r) = k.tied t q a r
    tied t q a (inr d) = (λ j. f (d.0 j) (d.2 j)) ∙ place ∙ sym d.1

    lows : (t q a : ℕ) → R t q a ⊎ ((t ≡ e.slot) × (q ≡ p) × (a ≡ l)) → q ≤ 1
    lows t q a (inl r) = k.low t q a r
    lows t q a (inr d) = subst (λ z. z ≤ 1) (sym d.1) low

    joined_place : (a i : ℕ) → entry_at (watches_at new a) i ≡ e → a ≡ l → f (entry_at (watches_at new a) i).slot a ≡ p
    joined_place a i g h = ap (λ z. f z.slot a) g ∙ ap (f e.slot) h ∙ place

    back : (a i : ℕ) → i < length (watches_at new a)
        → R (entry_at (watches_at new a) i).slot (f (entry_at (watches_at new a) i).slot a) a ⊎ (((entry_at (watches_at new a) i).slot ≡ e.slot) × (f (entry_at (watches_at new a) i).slot a ≡ p) × (a ≡ l))
    back a i lt = elim (put_cases rows new l e a i x lt) [
      | inl j ↦ inr (ap (λ z. z.slot) j.is, joined_place a i j.is j.list, j.list)
      | inr b ↦ inl (subst (λ z. R z.slot (f z.slot a) a) (sym b.is) (k.back a i b.within))
    ]

    placed : (a i : ℕ) → i < length (watches_at new a) → place_in (put_places places (watches_at rows l) e.slot p) (entry_at (watches_at new a) i).slot (f (entry_at (watches_at new a) i).slot a) ≡ i
    placed a i lt = elim (put_cases rows new l e a i x lt) [
      | inl j ↦ ap (place_in (put_places places (watches_at rows l) e.slot p) (entry_at (watches_at new a) i).slot) (joined_place a i j.is j.list) ∙ ap (λ z. place_in (put_places places (watches_at rows l) e.slot p) z.slot p) j.is
          ∙ place_in-same places e.slot p (length (watches_at rows l)) fits ∙ sym j.place
      | inr b ↦ subst (λ z. place_in (put_places places (watches_at rows l) e.slot p) z.slot (f z.slot a) ≡ i) (sym b.is) (
          place_in-other places (node_at e.slot p) (length (watches_at rows l)) (entry_at (watches_at rows a) i).slot (f (entry_at (watches_at rows a) i).slot a) (other _ _ a (k.back a i b.within) (k.low _ _ a (k.back a i b.within))) ∙ k.placed a i b.within)
    ]

-- ---- What holds of each entry

-- what holds of each entry, with the literal of its list
abbrev pub EachEntry : (ℕ → WatchView → Type 0) → List RowView → Type 0
EachEntry P rows = (l i : ℕ) → i < length (watches_at rows l) → P l (entry_at (watches_at rows l) i)

pub entries_cut : (P : ℕ → WatchView → Type 0) (rows new : List RowView) (s l i : ℕ) → Cuts rows new s l i → EachEntry P rows → EachEntry P new
entries_cut P rows new s l i c h a j lt = elim (cut_cases rows new s l i a j c lt) [
  | inl m ↦ let below : i < length (watches_at rows l) = c.within in
      subst (λ z. P z (entry_at (watches_at new a) j)) (sym m.list) (subst (P l) (sym m.is) (h l (length (watches_at rows l) - 1) (omega arith)))
  | inr m ↦ subst (P a) (sym m.is) (h a j m.within)
]

pub entries_put : (P : ℕ → WatchView → Type 0) (rows new : List RowView) (l : ℕ) (e : WatchView) → Puts rows new l e → P l e → EachEntry P rows → EachEntry P new
entries_put P rows new l e p x h a i lt = elim (put_cases rows new l e a i p lt) [
  | inl j ↦ subst (λ z. P z (entry_at (watches_at new a) i)) (sym j.list) (subst (P l) (sym j.is) x)
  | inr b ↦ subst (P a) (sym b.is) (h a i b.within)
]
