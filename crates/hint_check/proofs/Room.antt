-- That the variables of a store's clauses stay within the room that was made.
use Rattle.std.proofs.Common.{arith, ◌≡◌, ℕ, ◌≤◌, ◌==◌, cond, List, [], Contains, Option, Some, None, refl, sym, ap, ◌∙◌, subst, inl, inr}
use Rattle.std.specs.Prelude.{option_map, unwrap_or}
use Rattle.std.proofs.lemmas.Bool.{cases_Bool}
use Rattle.std.proofs.lemmas.Option.{same_Some}
use Rattle.std.specs.Ordering.{nat_cmp}
use Rattle.std.specs.Cmp.{nat_cmp_total, unsigned_tied}
use Rattle.std.specs.FinMap as finmap
use Rattle.std.specs.FinMap.{get-insert, get-empty}
use Rattle.lits.specs.Literal.{var}
use Rattle.lits.proofs.Ascending.{set_of_at}
use Rattle.clause_store.specs.Clauses.{ClauseEntry, Store, new_clause, weakened_entry, literals_at, kept_at}

-- the variables of all clauses are at most this one
abbrev pub HasRoom : Store → ℕ → Type 0
HasRoom m v = (k l : ℕ) (h : ClauseEntry) → finmap.get m k ≡ Some h → Contains h.literals l → var l ≤ v

room-insert : (m n : Store) (id v : ℕ) (h : ClauseEntry) → n ≡ finmap.insert m id h → ((l : ℕ) → Contains h.literals l → var l ≤ v) → HasRoom m v → HasRoom n v
room-insert m n id v h e new old k l g f x =
    let at : finmap.get n k ≡ cond (k == id) (Some h) (finmap.get m k) =
    ap (λ z. finmap.get z k) e ∙ get-insert nat_cmp_total m id h k ∙ ap (λ b. cond b (Some h) (finmap.get m k)) (unsigned_tied k id) in
    elim (cases_Bool (k == id)) [
      | inl y ↦ let s : Some h ≡ Some g = sym (at ∙ ap (λ b. cond b (Some h) (finmap.get m k)) y) ∙ f in
          new l (subst (λ (z : ClauseEntry). Contains z.literals l) (sym (same_Some _ _ s)) x)
      | inr o ↦ old k l g (sym (at ∙ ap (λ b. cond b (Some h) (finmap.get m k)) o) ∙ f) x
    ]

pub room-add : (m n : Store) (id v s : ℕ) (c : List ℕ) → n ≡ finmap.insert m id (new_clause c s) → ((l : ℕ) → Contains c l → var l ≤ v) → HasRoom m v → HasRoom n v
room-add m n id v s c e new old = room-insert m n id v (new_clause c s) e (λ l x. new l (set_of_at c l x)) old

at_held : (m : Store) (id v : ℕ) → HasRoom m v → (o : Option ClauseEntry) → finmap.get m id ≡ o → (l : ℕ) → Contains (unwrap_or (option_map (λ (h : ClauseEntry). h.literals) o) []) l → var l ≤ v
at_held m id v old None e l x = absurd (omega (arith, x.1))
at_held m id v old (Some h) e l x = old id l h e x

pub room-weaken : (m n : Store) (id v : ℕ) → n ≡ finmap.insert m id (weakened_entry (literals_at m id) (kept_at m id)) → HasRoom m v → HasRoom n v
room-weaken m n id v e old = room-insert m n id v (weakened_entry (literals_at m id) (kept_at m id)) e (λ l x. at_held m id v old (finmap.get m id) refl l x) old

pub room-empty : (m : Store) (v : ℕ) → m ≡ finmap.empty → HasRoom m v
room-empty m v e k l h f x = let g : None ≡ Some h = sym (ap (λ z. finmap.get z k) e ∙ get-empty nat_cmp k) ∙ f in cc g
