-- What looking at one clause tells.
use Rattle.std.proofs.Common.{◌≡◌, ℕ, ◌+◌, ◌<◌, ◌≤◌, ◌⊎◌, List, length, get_or, Some, sym, ap, ◌∙◌, subst, inl, inr, arith, true, false, nat_eq, ◌||◌, eq-eqb}
use Rattle.std.proofs.lemmas.Bool.{both_ways, and_from, or_left, or_right, false_from_ne_true}
use Rattle.lits.specs.Literal.{neg}
use Rattle.session_rules.specs.Logic.{has, is_falsified, is_unit}
use Rattle.lits.proofs.Members.{has_from}
use Rattle.clause_store.specs.Clauses.{Store, IsStore, slot_at, lits_at}
use Rattle.watch_lists.specs.Watched.{Watched}
use Rattle.propagation.specs.Clauses.{clauses_of, slot_of, active_at}
use Rattle.propagation.specs.Engine.{IsReason}
use Rattle.propagation.specs.Watching.{HasTwo, IsCovered, IsMoved, IsPair}
use Rattle.propagation.proofs.Changes.{cases}
use Rattle.propagation.proofs.Scan.{all_by_index, contains_at, false_at, unit_at}
use Rattle.propagation.proofs.Covering.{has_take}

-- each literal from a place on is false
abbrev pub AreFalse : List ℕ → List ℕ → ℕ → ℕ → Type 0
AreFalse trues ls from to = (k : ℕ) → from ≤ k → k < to → has trues (neg (get_or ls k 0)) ≡ true

pub false_found : (m : Store) (id s : ℕ) (trues ls : List ℕ) → IsStore m → slot_at m id ≡ Some s → lits_at m id ≡ ls → AreFalse trues ls 0 (length ls)
    → (id : ℕ) × (c : List ℕ) × (slot_of (clauses_of m) id ≡ Some s) × (active_at (clauses_of m) id ≡ Some c) × (is_falsified trues c ≡ true)
false_found m id s trues ls k at same f = false_at m id s trues ls k at same (all_by_index (λ x. has trues (neg x)) ls (λ j lt. f j (omega arith) lt))

pub has_place : (ls : List ℕ) (i l : ℕ) → i < length ls → l ≡ get_or ls i 0 → has ls l ≡ true
has_place ls i l lt e = subst (λ z. has ls z ≡ true) (sym e) (has_from ls (get_or ls i 0) (contains_at ls i lt))

unit_places : (trues ls : List ℕ) (i l : ℕ) → i < length ls → l ≡ get_or ls i 0 → AreFalse trues ls 0 i → AreFalse trues ls (i + 1) (length ls) → is_unit trues ls l ≡ true
unit_places trues ls i l lt e before after = and_from _ _ (has_place ls i l lt e) (all_by_index (λ x. nat_eq l x || has trues (neg x)) ls one)
  where
    one : (k : ℕ) → k < length ls → (nat_eq l (get_or ls k 0) || has trues (neg (get_or ls k 0))) ≡ true
    one k less = elim (cases k i) [
      | inl y ↦ or_left _ (has trues (neg (get_or ls k 0))) (eq-eqb l (get_or ls k 0) (e ∙ ap (λ z. get_or ls z 0) (sym y)))
      | inr n ↦ or_right (nat_eq l (get_or ls k 0)) _ (elim (let c : (k < i) ⊎ (i + 1 ≤ k) = grind arith in c) [ inl b ↦ before k (omega arith) b | inr a ↦ after k a less ])
    ]

pub unit_found : (m : Store) (id s : ℕ) (trues ls : List ℕ) (i l : ℕ) → IsStore m → slot_at m id ≡ Some s → lits_at m id ≡ ls → i < length ls → l ≡ get_or ls i 0 → AreFalse trues ls 0 i → AreFalse trues ls (i + 1) (length ls)
    → IsReason (clauses_of m) trues l s
unit_found m id s trues ls i l k at same lt e before after = unit_at m id s l trues ls k at same (unit_places trues ls i l lt e before after)

-- ---- Two literals that aren't false

pub record Pairs (trues : List ℕ) (old new : Watched) (id i j : ℕ) : Type 0 where
  pub pair : IsPair id i j old new
  pub order : i < j
  pub within : j < length (lits_at old.clauses id)
  pub one : has trues (neg (get_or (lits_at old.clauses id) i 0)) ≡ false
  pub two : has trues (neg (get_or (lits_at old.clauses id) j 0)) ≡ false

module _ (trues : List ℕ) (old new : Watched) (id i j : ℕ) (p : Pairs trues old new id i j) where
  pub pair_two : HasTwo trues (lits_at new.clauses id)
  pair_two = record {
    long = let e = p.pair.order.long id in omega (arith, e, p.order, p.within);
    one = elim p.pair.first_two [ inl e ↦ ap (λ z. has trues (neg z)) e.0 ∙ p.one | inr e ↦ ap (λ z. has trues (neg z)) e.0 ∙ p.two ];
    two = elim p.pair.first_two [ inl e ↦ ap (λ z. has trues (neg z)) e.1 ∙ p.two | inr e ↦ ap (λ z. has trues (neg z)) e.1 ∙ p.one ];
  }

  pub pair_moved : IsMoved trues old.clauses new.clauses
  pair_moved = record {
    slots = p.pair.order.slots;
    seen = p.pair.order.seen;
    members = p.pair.order.members;
    kept = λ q h ts w c. elim (cases q id) [
      | inl y ↦ subst (λ z. IsCovered ts h (lits_at new.clauses z)) (sym y) (inr (record {
        long = pair_two.long;
        one = false_from_ne_true _ (λ e. both_ways _ pair_two.one (w _ (has_take h _ ts e)));
        two = false_from_ne_true _ (λ e. both_ways _ pair_two.two (w _ (has_take h _ ts e)));
      }))
      | inr n ↦ subst (λ z. IsCovered ts h z) (sym (p.pair.order.others q n)) c
    ];
  }
