-- What callers see of the lists.
use Rattle.std.proofs.Common.{◌≡◌, ℕ, suc, zero, List, [], ◌∷◌, ◌++◌, length, map, replicate, refl, sym, ap, ◌∙◌, subst, arith}
use Rattle.std.specs.Prelude.{slice_set}
use Rattle.clause_store.specs.Clauses.{Store}
use Rattle.watch_lists.specs.Watch.{WatchView}
use Rattle.watch_lists.specs.Watched.{Watched, IsWatched, list_at}
use Rattle.watch_lists.specs.Lists.{RowView, no_row, row_at, watches_at, with_watches, AreWatchesInside, seen}
use Rattle.watch_lists.proofs.Sounding.{kept_sound}

pub sound_now : (m : Store) (rows : List RowView) (places : List ℕ) (vars : ℕ) (w : Watched) → AreWatchesInside m rows places vars → seen m rows ≡ w → IsWatched w
sound_now m rows places vars w i v = subst IsWatched v (kept_sound m rows places i.kept)

pub sound_new : (m : Store) (rows : List RowView) (places : List ℕ) (vars : ℕ) → AreWatchesInside m rows places vars → IsWatched (seen m rows)
sound_new m rows places vars i = kept_sound m rows places i.kept

pub lists_seen : (rows : List RowView) (l : ℕ) → list_at (map (λ r. r.watches) rows) l ≡ watches_at rows l
lists_seen [] l = refl
lists_seen (r ∷ rs) zero = refl
lists_seen (r ∷ rs) (suc l) = lists_seen rs l

pub wide_seen : (rows : List RowView) → length (map (λ r. r.watches) rows) ≡ length rows
wide_seen [] = refl
wide_seen (r ∷ rs) = ap suc (wide_seen rs)

pub wide_now : (m : Store) (rows : List RowView) (w : Watched) → seen m rows ≡ w → length w.lists ≡ length rows
wide_now m rows w v = sym (ap (λ z. length z.lists) v) ∙ wide_seen rows

-- the same lists, though their rows may have more room
pub lists_same : (rows new : List RowView) → length new ≡ length rows → ((l : ℕ) → watches_at new l ≡ watches_at rows l) → map (λ r. r.watches) new ≡ map (λ r. r.watches) rows
lists_same [] [] e h = refl
lists_same [] (q ∷ qs) e h = absurd (omega arith)
lists_same (r ∷ rs) [] e h = absurd (omega arith)
lists_same (r ∷ rs) (q ∷ qs) e h = (λ i. h 0 i ∷ lists_same rs qs (omega arith) (λ l. h (suc l)) i)

pub lists_set : (rows : List RowView) (l : ℕ) (es : List WatchView) → map (λ r. r.watches) (slice_set rows l (with_watches (row_at rows l) es)) ≡ slice_set (map (λ r. r.watches) rows) l es
lists_set [] l es = refl
lists_set (r ∷ rs) zero es = refl
lists_set (r ∷ rs) (suc l) es = ap (λ z. r.watches ∷ z) (lists_set rs l es)

pub lists_more : (rows : List RowView) (n : ℕ) → map (λ r. r.watches) (rows ++ replicate n no_row) ≡ map (λ r. r.watches) rows ++ replicate n []
lists_more [] zero = refl
lists_more [] (suc n) = ap (λ z. [] ∷ z) (lists_more [] n)
lists_more (r ∷ rs) n = ap (λ z. r.watches ∷ z) (lists_more rs n)
