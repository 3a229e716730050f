-- No clause at all, and more variables reserved.
use Rattle.std.proofs.Common.{◌≡◌, ℕ, suc, zero, ◌+◌, ◌-◌, ◌*◌, ◌<◌, List, [], ◌∷◌, ◌++◌, length, map, Some, None, refl, sym, ap, ◌∙◌, subst, arith, true, false}
use Rattle.std.specs.Prelude.{replicate, is_some, option_map, option_and_then, unwrap_or}
use Rattle.std.proofs.lemmas.Option.{none-some}
use Rattle.std.proofs.lemmas.Bool.{both_ways}
use Rattle.std.proofs.lemmas.List.{length-append, length-replicate}
use Rattle.std.specs.Ordering.{nat_cmp}
use Rattle.std.specs.FinMap.{get, empty, get-empty}
use Rattle.lits.specs.Clause.{has}
use Rattle.clause_store.specs.Clauses.{ClauseEntry, Store, IsStore, slot_at, literals_at}
use Rattle.watch_lists.specs.Watched.{Watched, reserved}
use Rattle.watch_lists.specs.Lists.{RowView, no_row, watches_at, count_at, row_at, nobody, AreKept, HasRoom, AreWatchesInside, seen}
use Rattle.watch_lists.proofs.Calling.{lists_more, wide_seen}
use Rattle.watch_lists.proofs.Keeping.{kept_rows}

-- ---- No clause

no_clause : (q : ℕ) → get {K = ℕ} {X = ClauseEntry} {R = nat_cmp} empty q ≡ None
no_clause q = get-empty nat_cmp q

empty-slot : (q s : ℕ) → slot_at empty q ≡ Some s → ⊥
empty-slot q s e = none-some s (sym (ap (λ o. option_map (λ p. p.slot) (option_and_then (λ h. h.place) o)) (no_clause q)) ∙ e)

empty-literals : (q l : ℕ) → has (literals_at empty q) l ≡ true → ⊥
empty-literals q l h = both_ways false refl (sym (ap (λ o. has (unwrap_or (option_map (λ z. z.literals) o) []) l) (no_clause q)) ∙ h)

empty-store : IsStore empty
empty-store = record {
  slots_apart = λ a b s e f. absurd (empty-slot a s e);
  same_literals = λ id h p e f. absurd (none-some h (sym (no_clause id) ∙ e));
  sets = λ id h e. absurd (none-some h (sym (no_clause id) ∙ e));
}

kept_empty : AreKept nobody empty [] []
kept_empty = record {
  stored = empty-store;
  listed = record {
    here = λ s p l h. absurd (empty-slot _ s h.0.slot);
    tied = λ s p l h. absurd (empty-slot _ s h.0.slot);
    back = λ l i lt. absurd (omega arith);
    placed = λ l i lt. absurd (omega arith);
    low = λ s p l h. h.0.low;
  };
  blockers = λ l i lt. absurd (omega arith);
  reserved = λ q l h. absurd (empty-literals q l h);
  fits = λ q s e. absurd (empty-slot q s e);
  keeps = λ q h. absurd (both_ways _ (ap is_some (no_clause q)) h);
  rooms = λ l. record { ids = []; each = λ q h. absurd (empty-literals q l h); few = omega arith };
}

pub inside-empty : (m : Store) (rows : List RowView) (places : List ℕ) → m ≡ empty → rows ≡ [] → places ≡ [] → AreWatchesInside m rows places 0
inside-empty m rows places e f g = record {
  kept = subst (λ z. AreKept nobody z rows places) (sym e) (subst (λ z. AreKept nobody empty z places) (sym f) (subst (λ z. AreKept nobody empty [] z) (sym g) kept_empty));
  vars_is = ap length f;
}

-- ---- More variables

-- more of what stands for nothing is nothing more
row-padded : (rows : List RowView) (n l : ℕ) → row_at (rows ++ replicate n no_row) l ≡ row_at rows l
row-padded [] n l = at-replicate n l
  where
    at-replicate : (n i : ℕ) → row_at (replicate n no_row) i ≡ no_row
    at-replicate zero i = refl
    at-replicate (suc n) zero = refl
    at-replicate (suc n) (suc i) = at-replicate n i
row-padded (r ∷ rs) n zero = refl
row-padded (r ∷ rs) n (suc l) = row-padded rs n l

longer : (rows : List RowView) (n : ℕ) → length (rows ++ replicate n no_row) ≡ length rows + n
longer rows n = length-append rows (replicate n no_row) ∙ ap (λ z. length rows + z) (length-replicate n no_row)

pub inside-reserved : (m : Store) (rows new : List RowView) (places : List ℕ) (vars more : ℕ) → AreWatchesInside m rows places vars → vars < more → new ≡ rows ++ replicate (2 * more - length rows) no_row → AreWatchesInside m new places more
inside-reserved m rows new places vars more i lt e =
    let ws : (l : ℕ) → watches_at new l ≡ watches_at rows l = λ l. ap (λ r. r.watches) (ap (λ z. row_at z l) e ∙ row-padded rows (2 * more - length rows) l) in
    let cs : (l : ℕ) → count_at new l ≡ count_at rows l = λ l. ap (λ r. r.count) (ap (λ z. row_at z l) e ∙ row-padded rows (2 * more - length rows) l) in
    let long : length new ≡ length rows + (2 * more - length rows) = ap length e ∙ longer rows (2 * more - length rows) in
    record {
      kept = kept_rows nobody m rows new places i.kept (omega arith) ws (λ l. subst (HasRoom m l) (sym (cs l)) (i.kept.rooms l));
      vars_is = let v = i.vars_is in omega arith;
    }

pub seen-reserved : (m : Store) (rows new : List RowView) (more : ℕ) (w : Watched) → seen m rows ≡ w → new ≡ rows ++ replicate (2 * more - length rows) no_row → seen m new ≡ reserved w more
seen-reserved m rows new more w v e =
    (λ i. record { clauses = m; lists = (ap (map (λ r. r.watches)) e ∙ lists_more rows (2 * more - length rows) ∙ ap (λ n. map (λ r. r.watches) rows ++ replicate (2 * more - n) []) (sym (wide_seen rows))) i }) ∙ ap (λ z. reserved z more) v
