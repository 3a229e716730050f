-- Ticks in a table, one literal after another, and the first clash among them.
use Rattle.std.proofs.Common.{◌≡◌, ℕ, ◌+◌, ◌<◌, Bool, true, false, not, ◌&&◌, ◌||◌, cond, nat_eq, List, [], ◌∷◌, ◌++◌, length, get_or, set, take, drop, Option, Some, None, refl, sym, ◌∙◌, ap, inl, inr, arith, eq-eqb}
use Rattle.std.specs.Option.{is_some}
use Rattle.std.proofs.lemmas.Bool.{cases_eq, ne_eqb}
use Rattle.std.proofs.lemmas.List.{get_or-set_same, get_or-set_other, take_more, at_drop_more}
use Rattle.std.proofs.lemmas.List.Folds.{list_any-append}
use Rattle.lits.specs.Literal.{neg}
use Rattle.session_rules.specs.Logic.{has}
use Rattle.session_rules.specs.History.{first_clash}
use Rattle.session_events.specs.Ticks.{is_ticked, HasPlace}

-- ---- Members

or_false : (b : Bool) → (b || false) ≡ b
or_false true = refl
or_false false = refl

or_swap : (a b : Bool) → (a || b) ≡ (b || a)
or_swap true true = refl
or_swap true false = refl
or_swap false true = refl
or_swap false false = refl

pub has-push : (ls : List ℕ) (l k : ℕ) → has (ls ++ l ∷ []) k ≡ (has ls k || nat_eq k l)
has-push ls l k = list_any-append (nat_eq k) ls (l ∷ []) ∙ ap (λ b. has ls k || b) (or_false (nat_eq k l))

pub has-more : (ls : List ℕ) (i k : ℕ) → i < length ls → has (take (i + 1) ls) k ≡ (has (take i ls) k || nat_eq k (get_or ls i 0))
has-more ls i k lt = ap (λ z. has z k) (take_more ls i 0 lt) ∙ has-push (take i ls) (get_or ls i 0) k

-- ---- The first clash

-- only the members of the list before count
pub clash-same : (a b xs : List ℕ) → ((k : ℕ) → has a k ≡ has b k) → first_clash a xs ≡ first_clash b xs
clash-same a b [] h = refl
clash-same a b (x ∷ xs) h =
    let more = clash-same (x ∷ a) (x ∷ b) xs (λ k. ap (λ z. nat_eq k x || z) (h k)) in
    ap (λ z. cond z (Some x) (first_clash (x ∷ a) xs)) (h (neg x)) ∙ ap (λ z. cond (has b (neg x)) (Some x) z) more

-- a clash that was found, or the other
abbrev pub or_later : Option ℕ → Option ℕ → Option ℕ
or_later None later = later
or_later (Some l) later = Some l

-- the loop that ticks literals: the table ticks those so far, and the first clash is found or still to come
pub record IsTicking (ticks : List Bool) (lits : List ℕ) (clash : Option ℕ) (i : ℕ) : Type 0 where
  pub ticked : (k : ℕ) → is_ticked ticks k ≡ has (take i lits) k
  pub found : first_clash [] lits ≡ or_later clash (first_clash (take i lits) (drop i lits))

-- a tick more
pub ticked-set : (ticks : List Bool) (l k : ℕ) → l < length ticks → is_ticked (set ticks l true) k ≡ (is_ticked ticks k || nat_eq k l)
ticked-set ticks l k lt = elim (cases_eq k l) [
  | inl e ↦ ap (λ z. is_ticked (set ticks l true) z) e ∙ get_or-set_same ticks l true false lt
      ∙ sym (ap (λ z. is_ticked ticks k || z) (eq-eqb k l e) ∙ or_swap (is_ticked ticks k) true)
  | inr n ↦ get_or-set_other ticks l k true false n ∙ sym (ap (λ z. is_ticked ticks k || z) (ne_eqb k l n) ∙ or_false (is_ticked ticks k))
]

ticked-more : (ticks : List Bool) (lits : List ℕ) (i l : ℕ) → i < length lits → l ≡ get_or lits i 0 → l < length ticks
    → ((k : ℕ) → is_ticked ticks k ≡ has (take i lits) k) → (k : ℕ) → is_ticked (set ticks l true) k ≡ has (take (i + 1) lits) k
ticked-more ticks lits i l lt is in_table h k = ticked-set ticks l k in_table ∙ ap (λ z. z || nat_eq k l) (h k)
    ∙ ap (λ z. has (take i lits) k || nat_eq k z) is ∙ sym (has-more lits i k lt)

-- what is to come, one literal on
clash-more : (lits : List ℕ) (i : ℕ) → i < length lits → first_clash (take i lits) (drop i lits)
    ≡ cond (has (take i lits) (neg (get_or lits i 0))) (Some (get_or lits i 0)) (first_clash (take (i + 1) lits) (drop (i + 1) lits))
clash-more lits i lt =
    let x = get_or lits i 0 in
    let same = clash-same (x ∷ take i lits) (take (i + 1) lits) (drop (i + 1) lits) (λ k. or_swap (nat_eq k x) (has (take i lits) k) ∙ sym (has-more lits i k lt)) in
    at_drop_more (first_clash (take i lits)) lits i 0 lt ∙ ap (λ z. cond (has (take i lits) (neg x)) (Some x) z) same

-- a literal without a new clash
pub ticking-more : (ticks : List Bool) (lits : List ℕ) (clash : Option ℕ) (i l : ℕ) → i < length lits → l ≡ get_or lits i 0 → l < length ticks
    → IsTicking ticks lits clash i → (is_some clash ≡ false → is_ticked ticks (neg l) ≡ false) → IsTicking (set ticks l true) lits clash (i + 1)
ticking-more ticks lits (Some x) i l lt is in_table h free = record { ticked = ticked-more ticks lits i l lt is in_table h.ticked; found = h.found }
ticking-more ticks lits None i l lt is in_table h free =
    let unseen : has (take i lits) (neg (get_or lits i 0)) ≡ false = ap (λ z. has (take i lits) (neg z)) (sym is) ∙ sym (h.ticked (neg l)) ∙ free refl in
    record {
      ticked = ticked-more ticks lits i l lt is in_table h.ticked;
      found = h.found ∙ clash-more lits i lt ∙ ap (λ z. cond z (Some (get_or lits i 0)) (first_clash (take (i + 1) lits) (drop (i + 1) lits))) unseen;
    }

-- the literal that clashes first
pub ticking-clash : (ticks : List Bool) (lits : List ℕ) (clash : Option ℕ) (i l : ℕ) → i < length lits → l ≡ get_or lits i 0 → l < length ticks
    → IsTicking ticks lits clash i → is_some clash ≡ false → is_ticked ticks (neg l) ≡ true → IsTicking (set ticks l true) lits (Some l) (i + 1)
ticking-clash ticks lits (Some x) i l lt is in_table h none seen = absurd (cc)
ticking-clash ticks lits None i l lt is in_table h none seen =
    let seen2 : has (take i lits) (neg (get_or lits i 0)) ≡ true = ap (λ z. has (take i lits) (neg z)) (sym is) ∙ sym (h.ticked (neg l)) ∙ seen in
    record {
      ticked = ticked-more ticks lits i l lt is in_table h.ticked;
      found = h.found ∙ clash-more lits i lt
          ∙ ap (λ z. cond z (Some (get_or lits i 0)) (first_clash (take (i + 1) lits) (drop (i + 1) lits))) seen2 ∙ ap Some (sym is);
    }

-- ---- The loop that takes ticks away

-- those so far are gone, and the others stand
pub record IsUnticking (old new : List Bool) (lits : List ℕ) (i : ℕ) : Type 0 where
  pub left : (k : ℕ) → is_ticked new k ≡ (is_ticked old k && not (has (take i lits) k))

-- ---- Places in the table

pub place_of : (size l : ℕ) → HasPlace size l → (l < size) × (neg l < size)
place_of size l h = (omega arith, omega arith)
