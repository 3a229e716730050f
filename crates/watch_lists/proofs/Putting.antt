-- Stores in which a clause was put or taken out.
use Rattle.std.proofs.Common.{◌≡◌, ℕ, ◌<◌, List, [], Option, Some, None, refl, sym, ap, ◌∙◌, subst, inl, inr, cond, true, false, Bool, not, nat_eq, eqb-true, eq-eqb}
use Rattle.std.specs.Prelude.{nat_lt, is_some, option_map, option_and_then, unwrap_or, Result, Ok, Err, IfOk, IfErr}
use Rattle.std.specs.List.{list_all}
use Rattle.lits.proofs.Members.{all_at, all_from, has_at, has_from}
use Rattle.std.proofs.lemmas.Option.{none-some}
use Rattle.watch_lists.specs.Watch.{node_at}
use Rattle.std.proofs.lemmas.Bool.{ltb-true, lt-ltb, cases_Bool, both_ways, and_parts}
use Rattle.std.specs.FinMap.{get, insert, remove}
use Rattle.lits.specs.Clause.{has, set_of}
use Rattle.clause_store.specs.Clauses.{ClauseEntry, Store, IsOnce, IsFresh, IsRestored, slot_at, kept_at, clause_at, weakened_entry, place_at, literals_at, is_held, is_active, is_weakened, firsts, active_entry, new_clause}
use Rattle.clause_store.proofs.Stored.{get_put, get_cut, same}
use Rattle.clause_store.proofs.Lists.{set_of-firsts, once-firsts}

-- the slot that keeps a clause, 0 for none
abbrev slot_or : Option ClauseEntry → ℕ
slot_or o = unwrap_or (option_map (λ h. h.slot) o) 0

pub ok_from : {X E : Type 0} (r : Result X E) (P : Type 0) (Q : E → Type 0) → IfOk r (λ _. P) → IfErr r Q → ((e : E) → Q e → ⊥) → P
ok_from (Ok x) P Q p q f = p
ok_from (Err e) P Q p q f = absurd (f e q)

pub place-put : (m : Store) (id : ℕ) (h : ClauseEntry) (q : ℕ) → place_at (insert m id h) q ≡ cond (nat_eq id q) h.place (place_at m q)
place-put m id h q = ap (option_and_then (λ z. z.place)) (get_put m id h q) ∙ by_case (nat_eq id q)
  where
    by_case : (b : Bool) → option_and_then (λ z. z.place) (cond b (Some h) (get m q)) ≡ cond b h.place (place_at m q)
    by_case true = refl
    by_case false = refl

pub literals-put : (m : Store) (id : ℕ) (h : ClauseEntry) (q : ℕ) → literals_at (insert m id h) q ≡ cond (nat_eq id q) h.literals (literals_at m q)
literals-put m id h q = ap (λ o. unwrap_or (option_map (λ z. z.literals) o) []) (get_put m id h q) ∙ by_case (nat_eq id q)
  where
    by_case : (b : Bool) → unwrap_or (option_map (λ z. z.literals) (cond b (Some h) (get m q))) [] ≡ cond b h.literals (literals_at m q)
    by_case true = refl
    by_case false = refl

-- ---- The slots that keep the clauses

-- where a clause is put whose slot has places, all have
pub places-put : (m n : Store) (id : ℕ) (h : ClauseEntry) (end : ℕ) → n ≡ insert m id h → node_at h.slot 1 < end → ((q : ℕ) → is_held m q ≡ true → node_at (kept_at m q) 1 < end) → (q : ℕ) → is_held n q ≡ true → node_at (kept_at n q) 1 < end
places-put m n id h end is fits all q e =
    let got : get n q ≡ cond (nat_eq id q) (Some h) (get m q) = ap (λ z. get z q) is ∙ get_put m id h q in
    elim (cases_Bool (nat_eq id q)) [
      | inl y ↦ let here : get n q ≡ Some h = got ∙ ap (λ b. cond b (Some h) (get m q)) y in
          subst (λ s. node_at s 1 < end) (sym (ap slot_or here)) fits
      | inr d ↦ let there : get n q ≡ get m q = got ∙ ap (λ b. cond b (Some h) (get m q)) d in
          subst (λ s. node_at s 1 < end) (sym (ap slot_or there)) (all q (sym (ap is_some there) ∙ e))
    ]

-- where a clause is taken out, all others have places
pub places-cut : (m n : Store) (id end : ℕ) → n ≡ remove m id → ((q : ℕ) → is_held m q ≡ true → node_at (kept_at m q) 1 < end) → (q : ℕ) → is_held n q ≡ true → node_at (kept_at n q) 1 < end
places-cut m n id end is all q e =
    let got : get n q ≡ cond (nat_eq id q) None (get m q) = ap (λ z. get z q) is ∙ get_cut m id q in
    elim (cases_Bool (nat_eq id q)) [
      | inl y ↦ absurd (both_ways _ (ap is_some (got ∙ ap (λ b. cond b None (get m q)) y)) e)
      | inr d ↦ let there : get n q ≡ get m q = got ∙ ap (λ b. cond b None (get m q)) d in
          subst (λ s. node_at s 1 < end) (sym (ap slot_or there)) (all q (sym (ap is_some there) ∙ e))
    ]

pub held-active : (m : Store) (id s : ℕ) → slot_at m id ≡ Some s → is_held m id ≡ true
held-active m id s = by_case (get m id)
  where
    by_case : (o : Option ClauseEntry) → option_map (λ p. p.slot) (option_and_then (λ h. h.place) o) ≡ Some s → is_some o ≡ true
    by_case None e = absurd (none-some s e)
    by_case (Some h) e = refl

pub slot-of-clause : (m : Store) (id : ℕ) → (clause_at m id).slot ≡ kept_at m id
slot-of-clause m id = by_case (get m id)
  where
    by_case : (o : Option ClauseEntry) → (unwrap_or o (weakened_entry [] 0)).slot ≡ unwrap_or (option_map (λ h. h.slot) o) 0
    by_case None = refl
    by_case (Some h) = refl

-- an active clause put at an id that isn't active
pub record Puts (m n : Store) (id s : ℕ) (set ls : List ℕ) : Type 0 where
  pub is : n ≡ insert m id (active_entry set ls s)
  pub fresh : IsFresh m s
  pub before : slot_at m id ≡ None
  pub once : IsOnce ls
  pub same_set : set_of ls ≡ set

no_slot : (o : Option ClauseEntry) → is_some o ≡ false → option_map (λ p. p.slot) (option_and_then (λ h. h.place) o) ≡ None
no_slot None e = refl
no_slot (Some h) e = absurd (both_ways true e refl)

pub puts-added : (m n : Store) (id s : ℕ) (ls : List ℕ) → n ≡ insert m id (new_clause ls s) → IsFresh m s → is_held m id ≡ false → Puts m n id s (set_of ls) (firsts ls)
puts-added m n id s ls e f h = record { is = e; fresh = f; before = no_slot (get m id) h; once = once-firsts ls [] tt; same_set = set_of-firsts ls }

none_of : (o : Option ℕ) → is_some o ≡ false → o ≡ None
none_of None e = refl
none_of (Some s) e = absurd (both_ways true e refl)

not_true : (b : Bool) → not b ≡ true → b ≡ false
not_true true e = sym e
not_true false e = refl

pub puts-restored : (m n : Store) (id : ℕ) (r : IsRestored m id n) → is_weakened m id ≡ true → Puts m n id r.slot (literals_at m id) r.lits
puts-restored m n id r h = record { is = r.changed; fresh = r.fresh; before = none_of (slot_at m id) (not_true (is_active m id) (and_parts _ _ h).1); once = r.once; same_set = r.same_literals }

-- a clause that was added and is taken out again
pub undone : (m n p : Store) (id : ℕ) (h : ClauseEntry) → n ≡ insert m id h → p ≡ remove n id → is_held m id ≡ false → p ≡ m
undone m n p id h e f free = f ∙ ap (λ z. remove z id) e ∙ same _ _ (λ q. get_cut (insert m id h) id q ∙ ap (λ o. cond (nat_eq id q) None o) (get_put m id h q) ∙ at q)
  where
    empty : (o : Option ClauseEntry) → is_some o ≡ false → None ≡ o
    empty None g = refl
    empty (Some c) g = absurd (both_ways true g refl)

    at : (q : ℕ) → cond (nat_eq id q) None (cond (nat_eq id q) (Some h) (get m q)) ≡ get m q
    at q = elim (cases_Bool (nat_eq id q)) [
      | inl y ↦ rw y (subst (λ z. None ≡ get m z) (eqb-true id q y) (empty (get m id) free))
      | inr d ↦ rw d refl
    ]

-- all of a list are below an end exactly where each is
pub below_all : (ls : List ℕ) (n m : ℕ) → n ≡ m → ((list_all (λ l. nat_lt l n) ls ≡ true → (l : ℕ) → has ls l ≡ true → l < m) × (((l : ℕ) → has ls l ≡ true → l < m) → list_all (λ l. nat_lt l n) ls ≡ true))
below_all ls n m e = (
  λ h l q. subst (λ z. l < z) e (ltb-true l n (all_at (λ l. nat_lt l n) ls l h (has_at ls l q))),
  λ h. all_from (λ l. nat_lt l n) ls (λ l q. lt-ltb l n (subst (λ z. l < z) (sym e) (h l (has_from ls l q)))),
)

pub slot-put : (m n : Store) (id s : ℕ) (set ls : List ℕ) → n ≡ insert m id (active_entry set ls s) → slot_at n id ≡ Some s
slot-put m n id s set ls e = ap (λ z. slot_at z id) e ∙ ap (option_map (λ p. p.slot)) (place-put m id (active_entry set ls s) id ∙ ap (λ b. cond b (active_entry set ls s).place (place_at m id)) (eq-eqb id id refl))
