-- An entry gets another blocker.
use Rattle.std.proofs.Common.{◌≡◌, ℕ, suc, zero, ◌<◌, List, [], ◌∷◌, length, map, take, get_or, Some, refl, sym, ap, ◌∙◌, subst, inl, inr, arith, true, false, nat_eq, eqb-true}
use Rattle.std.specs.Prelude.{slice_set}
use Rattle.std.proofs.lemmas.Bool.{cases_Bool}
use Rattle.std.proofs.lemmas.List.{take-set, length-set, get_or-set_same, get_or-set_other, get_or_read_under}
use Rattle.lits.specs.Clause.{has}
use Rattle.clause_store.specs.Clauses.{Store, slot_at, lits_at}
use Rattle.watch_lists.specs.Watch.{WatchView, no_watch, with_blocker}
use Rattle.watch_lists.specs.Watched.{Watched, list_at, entry_at, watch_at, blocked}
use Rattle.watch_lists.specs.Lists.{RowView, no_row, watches_at, count_at, row_at, with_watches, id_at, lits_of, place_in, IsHere, nobody, AreListed, AreBlockers, HasRoom, AreKept, AreWatchesInside, seen}
use Rattle.watch_lists.proofs.Members.{unlike}
use Rattle.watch_lists.proofs.Calling.{lists_seen, lists_set}

-- lists that differ in their blockers alone
pub record Alike (es new : List WatchView) : Type 0 where
  pub long : length new ≡ length es
  pub slot : (i : ℕ) → (entry_at new i).slot ≡ (entry_at es i).slot

pub listed_alike : {f : ℕ → ℕ → ℕ} (R : ℕ → ℕ → ℕ → Type 0) (rows new : List RowView) (places : List ℕ) → ((l : ℕ) → Alike (watches_at rows l) (watches_at new l)) → AreListed R f rows places → AreListed R f new places
listed_alike {f} R rows new places a k = record {
  here = λ s p l r. let h = k.here s p l r in record {
    within = subst (λ n. place_in places s p < n) (sym (a l).long) h.within;
    slot = (a l).slot (place_in places s p) ∙ h.slot;
  };
  tied = k.tied;
  back = λ l i lt. subst (λ t. R t (f t l) l) (sym ((a l).slot i)) (k.back l i (subst (λ n. i < n) (a l).long lt));
  placed = λ l i lt. ap (λ t. place_in places t (f t l)) ((a l).slot i) ∙ k.placed l i (subst (λ n. i < n) (a l).long lt);
  low = k.low;
}

-- the list with one blocker changed
abbrev pub reblocked : List WatchView → ℕ → ℕ → List WatchView
reblocked es i b = slice_set es i (with_blocker (entry_at es i) b)

-- an entry of it is that of the list, or the one with the new blocker
at-changed : (es : List WatchView) (i b : ℕ) → i < length es → entry_at (reblocked es i b) i ≡ with_blocker (entry_at es i) b
at-changed es i b lt = get_or-set_same es i (with_blocker (entry_at es i) b) no_watch lt

at-other : (es : List WatchView) (i b j : ℕ) → nat_eq j i ≡ false → entry_at (reblocked es i b) j ≡ entry_at es j
at-other es i b j d = get_or-set_other es i j (with_blocker (entry_at es i) b) no_watch (unlike j i d)

alike_reblocked : (es : List WatchView) (i b : ℕ) → i < length es → Alike es (reblocked es i b)
alike_reblocked es i b lt = record {
  long = length-set es i (with_blocker (entry_at es i) b);
  slot = λ j. elim (cases_Bool (nat_eq j i)) [
    | inl y ↦ subst (λ z. (entry_at (reblocked es i b) z).slot ≡ (entry_at es z).slot) (sym (eqb-true j i y)) (ap (λ e. e.slot) (at-changed es i b lt))
    | inr d ↦ ap (λ e. e.slot) (at-other es i b j d)
  ];
}

within_rows : (rows : List RowView) (l i : ℕ) → i < length (watches_at rows l) → l < length rows
within_rows [] l i lt = absurd (omega arith)
within_rows (r ∷ rs) zero i lt = omega arith
within_rows (r ∷ rs) (suc l) i lt = let h = within_rows rs l i lt in omega arith

within_lists : (ls : List (List WatchView)) (l i : ℕ) → i < length (list_at ls l) → l < length ls
within_lists [] l i lt = absurd (omega arith)
within_lists (r ∷ rs) zero i lt = omega arith
within_lists (r ∷ rs) (suc l) i lt = let h = within_lists rs l i lt in omega arith

-- what is known of the change
pub record Blocks (m : Store) (rows new : List RowView) (l i b : ℕ) : Type 0 where
  pub within : i < length (watches_at rows l)
  pub member : has (lits_of m (entry_at (watches_at rows l) i).slot) b ≡ true
  pub is : new ≡ slice_set rows l (with_watches (row_at rows l) (reblocked (watches_at rows l) i b))

module _ (m : Store) (rows new : List RowView) (l i b : ℕ) (c : Blocks m rows new l i b) where
  row-here : row_at new l ≡ with_watches (row_at rows l) (reblocked (watches_at rows l) i b)
  row-here = ap (λ z. row_at z l) c.is ∙ get_or-set_same rows l (with_watches (row_at rows l) (reblocked (watches_at rows l) i b)) no_row (within_rows rows l i c.within)

  row-there : (k : ℕ) → nat_eq k l ≡ false → row_at new k ≡ row_at rows k
  row-there k d = ap (λ z. row_at z k) c.is ∙ get_or-set_other rows l k (with_watches (row_at rows l) (reblocked (watches_at rows l) i b)) no_row (unlike k l d)

  alike : (k : ℕ) → Alike (watches_at rows k) (watches_at new k)
  alike k = elim (cases_Bool (nat_eq k l)) [
    | inl y ↦ subst (λ z. Alike (watches_at rows z) (watches_at new z)) (sym (eqb-true k l y)) (subst (λ es. Alike (watches_at rows l) es) (sym (ap (λ r. r.watches) row-here)) (alike_reblocked (watches_at rows l) i b c.within))
    | inr d ↦ subst (λ r. Alike (watches_at rows k) r.watches) (sym (row-there k d)) (record { long = refl; slot = λ j. refl })
  ]

  counts : (k : ℕ) → count_at new k ≡ count_at rows k
  counts k = elim (cases_Bool (nat_eq k l)) [
    | inl y ↦ subst (λ z. count_at new z ≡ count_at rows z) (sym (eqb-true k l y)) (ap (λ r. r.count) row-here)
    | inr d ↦ ap (λ r. r.count) (row-there k d)
  ]

  blockers-here : AreBlockers m rows → (j : ℕ) → j < length (reblocked (watches_at rows l) i b) → has (lits_of m (entry_at (reblocked (watches_at rows l) i b) j).slot) (entry_at (reblocked (watches_at rows l) i b) j).blocker ≡ true
  blockers-here h j lt = elim (cases_Bool (nat_eq j i)) [
    | inl y ↦ subst (λ e. has (lits_of m e.slot) e.blocker ≡ true) (sym (ap (entry_at (reblocked (watches_at rows l) i b)) (eqb-true j i y) ∙ at-changed (watches_at rows l) i b c.within)) c.member
    | inr d ↦ subst (λ e. has (lits_of m e.slot) e.blocker ≡ true) (sym (at-other (watches_at rows l) i b j d)) (h l j (subst (λ n. j < n) (length-set (watches_at rows l) i (with_blocker (entry_at (watches_at rows l) i) b)) lt))
  ]

  blockers-now : AreBlockers m rows → AreBlockers m new
  blockers-now h k = elim (cases_Bool (nat_eq k l)) [
    | inl y ↦ subst (λ z. (j : ℕ) → j < length (watches_at new z) → has (lits_of m (entry_at (watches_at new z) j).slot) (entry_at (watches_at new z) j).blocker ≡ true) (sym (eqb-true k l y))
        (subst (λ es. (j : ℕ) → j < length es → has (lits_of m (entry_at es j).slot) (entry_at es j).blocker ≡ true) (sym (ap (λ r. r.watches) row-here)) (blockers-here h))
    | inr d ↦ subst (λ r. (j : ℕ) → j < length r.watches → has (lits_of m (entry_at r.watches j).slot) (entry_at r.watches j).blocker ≡ true) (sym (row-there k d)) (h k)
  ]

  long : length new ≡ length rows
  long = ap length c.is ∙ length-set rows l (with_watches (row_at rows l) (reblocked (watches_at rows l) i b))

  pub inside_blocked : (places : List ℕ) (vars : ℕ) → AreWatchesInside m rows places vars → AreWatchesInside m new places vars
  inside_blocked places vars n = record {
    kept = record {
      stored = n.kept.stored;
      listed = listed_alike (IsHere nobody m) rows new places alike n.kept.listed;
      blockers = blockers-now n.kept.blockers;
      reserved = λ q k h. subst (λ z. k < z) (sym long) (n.kept.reserved q k h);
      fits = n.kept.fits;
      keeps = n.kept.keeps;
      rooms = λ k. subst (HasRoom m k) (sym (counts k)) (n.kept.rooms k);
    };
    vars_is = long ∙ n.vars_is;
  }

  pub seen_blocked : (w : Watched) → seen m rows ≡ w → seen m new ≡ blocked w l i b
  seen_blocked w v =
      (λ j. record { clauses = m; lists = (ap (map (λ r. r.watches)) c.is ∙ lists_set rows l (reblocked (watches_at rows l) i b) ∙ ap (λ es. slice_set (map (λ r. r.watches) rows) l (reblocked es i b)) (sym (lists_seen rows l))) j }) ∙ ap (λ z. blocked z l i b) v

pub front_blocked : (w : Watched) (l i b : ℕ) → i < length (list_at w.lists l) → take i (list_at (blocked w l i b).lists l) ≡ take i (list_at w.lists l)
front_blocked w l i b lt = ap (take i) (get_or-set_same w.lists l (reblocked (list_at w.lists l) i b) [] (within_lists w.lists l i lt)) ∙ take-set (list_at w.lists l) i (with_blocker (watch_at w l i) b)

-- what callers know of the clause is known of it inside
pub known : (P : List ℕ → Type 0) (m : Store) (rows : List RowView) (places : List ℕ) (w : Watched) (l i : ℕ) → AreKept nobody m rows places → seen m rows ≡ w → i < length (watches_at rows l) → ((id : ℕ) → slot_at w.clauses id ≡ Some (watch_at w l i).slot → P (lits_at w.clauses id))
    → P (lits_of m (entry_at (watches_at rows l) i).slot)
known P m rows places w l i k v lt h =
    let here : (id : ℕ) → slot_at m id ≡ Some (watch_at (seen m rows) l i).slot → P (lits_at m id) = subst (λ z. (id : ℕ) → slot_at z.clauses id ≡ Some (watch_at z l i).slot → P (lits_at z.clauses id)) (sym v) h in
    here (id_at m (entry_at (watches_at rows l) i).slot) ((k.listed.back l i lt).0.slot ∙ ap (λ es. Some (entry_at es i).slot) (sym (lists_seen rows l)))

-- what the call knows of it: the row that was lent, and the entry that was read
pub record Sets (rows new : List RowView) (places : List ℕ) (m : Store) (w : Watched) (l i b code : ℕ) (row put : RowView) (list : List WatchView) (e f : WatchView) : Type 0 where
  pub kept : AreKept nobody m rows places
  pub view : seen m rows ≡ w
  pub within : i < length (list_at w.lists l)
  pub member : (id : ℕ) → slot_at w.clauses id ≡ Some (watch_at w l i).slot → has (lits_at w.clauses id) b ≡ true
  pub code_is : code ≡ l
  pub row_is : row ≡ get_or rows code row
  pub list_is : list ≡ row.watches
  pub entry_is : e ≡ get_or list i e
  pub changed : f ≡ with_blocker e b
  pub put_is : put ≡ with_watches row (slice_set row.watches i f)
  pub is : new ≡ slice_set rows code put

pub blocks : (rows new : List RowView) (places : List ℕ) (m : Store) (w : Watched) (l i b code : ℕ) (row put : RowView) (list : List WatchView) (e f : WatchView) → Sets rows new places m w l i b code row put list e f → Blocks m rows new l i b
blocks rows new places m w l i b code row put list e f x =
    let within : i < length (watches_at rows l) = subst (λ es. i < length es) (sym (ap (λ z. list_at z.lists l) x.view) ∙ lists_seen rows l) x.within in
    let here : row ≡ row_at rows l = get_or_read_under rows code (length rows) row no_row x.row_is (subst (λ z. z < length rows) (sym x.code_is) (within_rows rows l i within)) refl ∙ ap (row_at rows) x.code_is in
    let es : list ≡ watches_at rows l = x.list_is ∙ ap (λ r. r.watches) here in
    let entry : e ≡ entry_at (watches_at rows l) i = get_or_read_under list i (length list) e no_watch x.entry_is (subst (λ z. i < length z) (sym es) within) refl ∙ ap (λ z. entry_at z i) es in
    record {
      within = within;
      member = known (λ ls. has ls b ≡ true) m rows places w l i x.kept x.view within x.member;
      is = x.is ∙ (λ j. slice_set rows (x.code_is j) ((x.put_is ∙ (λ t. with_watches (here t) (slice_set (here t).watches i ((x.changed ∙ ap (λ z. with_blocker z b) entry) t)))) j));
    }
