-- Rows that have room for one clause more, or one less, of each literal of a list: one literal after the other.
use Rattle.std.proofs.Common.{◌≡◌, ◌≢◌, ℕ, suc, zero, ◌+◌, ◌-◌, ◌<◌, ◌≤◌, List, [], ◌∷◌, ◌++◌, length, take, get_or, refl, sym, ap, ◌∙◌, subst, inl, inr, arith, cond, true, false, Bool, nat_eq, ◌||◌, eqb-true, add-one, take-suc, length-set, get_or-set_same, get_or-set_other}
use Rattle.std.specs.Prelude.{slice_index, slice_set}
use Rattle.std.proofs.lemmas.Bool.{cases_Bool, cases_eq, or_cases}
use Rattle.std.proofs.lemmas.Grind.{get_or_default_zero}
use Rattle.lits.specs.Clause.{has}
use Rattle.clause_store.specs.Clauses.{IsOnce}
use Rattle.clause_store.proofs.Lists.{has-push}
use Rattle.watch_lists.specs.Lists.{RowView, no_row, row_at, watches_at, count_at, with_count, AreRaised, AreLowered}
use Rattle.watch_lists.proofs.Members.{has-place, apart_of, differs, unlike}

-- ---- The literals so far

-- an item of a list, as code reads it
pub record IsItem (ls : List ℕ) (i x : ℕ) : Type 0 where
  pub within : i < length ls
  pub is : x ≡ get_or ls i x

item-place : (ls : List ℕ) (i x : ℕ) → IsItem ls i x → slice_index ls i ≡ x
item-place ls i x it = sym (get_or_default_zero ls i x it.within) ∙ sym it.is

pub item-has : (ls : List ℕ) (i x : ℕ) → IsItem ls i x → has ls x ≡ true
item-has ls i x it = subst (λ z. has ls z ≡ true) (item-place ls i x it) (has-place ls i it.within)

take-item : (ls : List ℕ) (i x : ℕ) → IsItem ls i x → take (i + 1) ls ≡ take i ls ++ x ∷ []
take-item ls i x it = ap (λ n. take n ls) (add-one i) ∙ take-suc ls i x it.within ∙ ap (λ z. take i ls ++ z ∷ []) (sym it.is)

once-before : (ls : List ℕ) (i : ℕ) → IsOnce ls → i < length ls → has (take i ls) (slice_index ls i) ≡ false
once-before [] i o lt = absurd (omega arith)
once-before (a ∷ ls) zero o lt = refl
once-before (a ∷ ls) (suc i) o lt =
    let n : nat_eq (slice_index ls i) a ≡ false = differs (slice_index ls i) a (apart_of a (slice_index ls i) ls o.0 (has-place ls i (omega arith))) in
    ap (λ b. b || has (take i ls) (slice_index ls i)) n ∙ once-before ls i o.1 (omega arith)

-- ---- One row more

-- the row of a literal has another number
pub record Counts (mid new : List RowView) (x n : ℕ) : Type 0 where
  pub within : x < length mid
  pub is : new ≡ slice_set mid x (with_count (row_at mid x) n)

counts-here : (mid new : List RowView) (x n : ℕ) → Counts mid new x n → row_at new x ≡ with_count (row_at mid x) n
counts-here mid new x n c = ap (λ z. row_at z x) c.is ∙ get_or-set_same mid x (with_count (row_at mid x) n) no_row c.within

counts-other : (mid new : List RowView) (x n l : ℕ) → Counts mid new x n → l ≢ x → row_at new l ≡ row_at mid l
counts-other mid new x n l c ne = ap (λ z. row_at z l) c.is ∙ get_or-set_other mid x l (with_count (row_at mid x) n) no_row ne

counts-watches : (mid new : List RowView) (x n l : ℕ) → Counts mid new x n → watches_at new l ≡ watches_at mid l
counts-watches mid new x n l c = elim (cases_eq l x) [
  | inl e ↦ ap (watches_at new) e ∙ ap (λ r. r.watches) (counts-here mid new x n c) ∙ ap (watches_at mid) (sym e)
  | inr d ↦ ap (λ r. r.watches) (counts-other mid new x n l c d)
]

counts-long : (mid new : List RowView) (x n : ℕ) → Counts mid new x n → length new ≡ length mid
counts-long mid new x n c = ap length c.is ∙ length-set mid x (with_count (row_at mid x) n)

pub raised-push : (ks : List ℕ) (x : ℕ) (old mid new : List RowView) → AreRaised ks old mid → Counts mid new x (count_at mid x + 1) → AreRaised (ks ++ x ∷ []) old new
raised-push ks x old mid new r c = record {
  long = counts-long mid new x (count_at mid x + 1) c ∙ r.long;
  watches = λ l. counts-watches mid new x (count_at mid x + 1) l c ∙ r.watches l;
  counts = λ l. let a : count_at mid l ≤ count_at new l = grows l in let b : count_at old l ≤ count_at mid l = r.counts l in omega arith;
  more = λ l h. elim (or_cases _ _ (sym (has-push ks x l) ∙ h)) [
    | inl e ↦ let a : count_at mid l ≤ count_at new l = grows l in let b : count_at old l < count_at mid l = r.more l e in omega arith
    | inr e ↦ let f : l ≡ x = eqb-true l x e in
        let a : count_at new l ≡ count_at mid l + 1 = ap (count_at new) f ∙ here ∙ ap (λ z. count_at mid z + 1) (sym f) in
        let b : count_at old l ≤ count_at mid l = r.counts l in omega arith
  ];
}
  where
    here : count_at new x ≡ count_at mid x + 1
    here = ap (λ r. r.count) (counts-here mid new x (count_at mid x + 1) c)

    grows : (l : ℕ) → count_at mid l ≤ count_at new l
    grows l = elim (cases_eq l x) [
      | inl f ↦ let a : count_at new l ≡ count_at mid l + 1 = ap (count_at new) f ∙ here ∙ ap (λ z. count_at mid z + 1) (sym f) in omega arith
      | inr d ↦ let a : count_at new l ≡ count_at mid l = ap (λ r. r.count) (counts-other mid new x (count_at mid x + 1) l c d) in omega arith
    ]

pub lowered-push : (ks : List ℕ) (x : ℕ) (old mid new : List RowView) → has ks x ≡ false → AreLowered ks old mid → Counts mid new x (count_at mid x - 1) → AreLowered (ks ++ x ∷ []) old new
lowered-push ks x old mid new apart r c = record {
  long = counts-long mid new x (count_at mid x - 1) c ∙ r.long;
  watches = λ l. counts-watches mid new x (count_at mid x - 1) l c ∙ r.watches l;
  counts = λ l. elim (cases_Bool (nat_eq l x)) [
    | inl y ↦ let f : l ≡ x = eqb-true l x y in
        ap (count_at new) f ∙ ap (λ r. r.count) (counts-here mid new x (count_at mid x - 1) c) ∙ ap (λ n. n - 1) (r.counts x ∙ ap (λ b. cond b (count_at old x - 1) (count_at old x)) apart) ∙ ap (λ z. count_at old z - 1) (sym f)
        ∙ sym (ap (λ b. cond b (count_at old l - 1) (count_at old l)) (has-push ks x l ∙ ap (λ b. has ks l || b) y ∙ or_true (has ks l)))
    | inr n ↦ ap (λ r. r.count) (counts-other mid new x (count_at mid x - 1) l c (unlike l x n)) ∙ r.counts l
        ∙ sym (ap (λ b. cond b (count_at old l - 1) (count_at old l)) (has-push ks x l ∙ ap (λ b. has ks l || b) n ∙ or_false (has ks l)))
  ];
}
  where
    or_true : (b : Bool) → (b || true) ≡ true
    or_true true = refl
    or_true false = refl

    or_false : (b : Bool) → (b || false) ≡ b
    or_false true = refl
    or_false false = refl

-- ---- As code has it

-- the row of an item of a list is read and written
pub record Writes (ls : List ℕ) (i x code : ℕ) (mid : List RowView) (read row : RowView) (n : ℕ) : Type 0 where
  pub item : IsItem ls i x
  pub code_is : code ≡ x
  pub within : code < length mid
  pub read_is : read ≡ get_or mid code read
  pub row_is : row ≡ with_count read n

read-row : (mid : List RowView) (code : ℕ) (read : RowView) → code < length mid → read ≡ get_or mid code read → read ≡ row_at mid code
read-row [] code read lt e = absurd (omega arith)
read-row (r ∷ rs) zero read lt e = e
read-row (r ∷ rs) (suc code) read lt e = read-row rs code read (omega arith) e

writes-counts : (ls : List ℕ) (i x code : ℕ) (mid : List RowView) (read row : RowView) (n : ℕ) → Writes ls i x code mid read row n → Counts mid (slice_set mid code row) x n
writes-counts ls i x code mid read row n w = record {
  within = subst (λ z. z < length mid) w.code_is w.within;
  is = ap (λ z. slice_set mid z row) w.code_is ∙ ap (slice_set mid x) (w.row_is ∙ ap (λ z. with_count z n) (read-row mid code read w.within w.read_is ∙ ap (row_at mid) w.code_is));
}

pub raised-step : (ls : List ℕ) (i x code : ℕ) (old mid : List RowView) (read row : RowView) → AreRaised (take i ls) old mid → Writes ls i x code mid read row (read.count + 1) → AreRaised (take (i + 1) ls) old (slice_set mid code row)
raised-step ls i x code old mid read row r w =
    let e : read.count ≡ count_at mid x = ap (λ z. z.count) (read-row mid code read w.within w.read_is ∙ ap (row_at mid) w.code_is) in
    subst (λ ks. AreRaised ks old (slice_set mid code row)) (sym (take-item ls i x w.item))
    (raised-push (take i ls) x old mid (slice_set mid code row) r (subst (λ z. Counts mid (slice_set mid code row) x (z + 1)) e (writes-counts ls i x code mid read row (read.count + 1) w)))

pub lowered-step : (ls : List ℕ) (i x code : ℕ) (old mid : List RowView) (read row : RowView) → IsOnce ls → AreLowered (take i ls) old mid → Writes ls i x code mid read row (read.count - 1) → AreLowered (take (i + 1) ls) old (slice_set mid code row)
lowered-step ls i x code old mid read row o r w =
    let e : read.count ≡ count_at mid x = ap (λ z. z.count) (read-row mid code read w.within w.read_is ∙ ap (row_at mid) w.code_is) in
    subst (λ ks. AreLowered ks old (slice_set mid code row)) (sym (take-item ls i x w.item))
    (lowered-push (take i ls) x old mid (slice_set mid code row) (subst (λ z. has (take i ls) z ≡ false) (item-place ls i x w.item) (once-before ls i o w.item.within)) r
    (subst (λ z. Counts mid (slice_set mid code row) x (z - 1)) e (writes-counts ls i x code mid read row (read.count - 1) w)))

-- the index is that of a row
pub item-within : (ls : List ℕ) (i x code long wide : ℕ) → IsItem ls i x → code ≡ x → ((l : ℕ) → has ls l ≡ true → l < wide) → long ≡ wide → code < long
item-within ls i x code long wide it e h f = subst (λ z. code < z) (sym f) (subst (λ z. z < wide) (sym e) (h x (item-has ls i x it)))
