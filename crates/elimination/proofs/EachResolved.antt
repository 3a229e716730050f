-- Loops over pairs of clauses: what is told of one more pair, and what stays of the clauses that come later.
use Rattle.std.proofs.Common.{◌≡◌, ℕ, ◌+◌, ◌<◌, ◌≤◌, ◌⊎◌, true, List, [], ◌∷◌, ◌++◌, length, take, drop, get_or, Contains, Option, Some, refl, sym, ap, ◌∙◌, subst, inl, inr}
use Rattle.std.proofs.lemmas.List.{take_more, take-append-drop}
use Rattle.lits.specs.Clause.{has}
use Rattle.lits.proofs.Members.{here, here_or_there, not_in_nil}
use Rattle.session_rules.specs.declared.Told.{Told}
use Rattle.session_rules.specs.declared.LogFault.{LogFault}
use Rattle.clause_store.specs.Clauses.{Store, IsStore, lits_at}
use Rattle.propagation.specs.Clauses.{active_at, literals_at}
use Rattle.resolvents.specs.Held.{Held}
use Rattle.restore.specs.Resolution.{holds, holds_negated, without}
use Rattle.restore.proofs.Joined.{append_at, append_left, append_right}
use Rattle.elimination.specs.declared.database.Database.{Database}
use Rattle.elimination.specs.declared.fault.BoardFault.{BoardFault}
use Rattle.elimination.specs.Steps.{standing}
use Rattle.elimination.specs.Databases.{IsDatabase, BreaksOff}
use Rattle.elimination.specs.Resolving.{ResolvesEach, IsFirst, IsSecond, IsHeld}
use Rattle.elimination.proofs.Listed.{once_stored}
use Rattle.elimination.proofs.Stored.{irredundant_has}
use Rattle.elimination.proofs.Leading.{broken_behind}
use Rattle.elimination.proofs.Resolved.{joined}

-- ---- An item of a list

pub item_in : (xs : List ℕ) (i : ℕ) → i < length xs → Contains xs (get_or xs i 0)
item_in xs i lt = subst (λ (z : List ℕ). Contains z (get_or xs i 0)) (take-append-drop (i + 1) xs)
    (append_left (take (i + 1) xs) (drop (i + 1) xs) (get_or xs i 0)
    (subst (λ (z : List ℕ). Contains z (get_or xs i 0)) (sym (take_more xs i 0 lt)) (append_right (take i xs) (get_or xs i 0 ∷ []) (get_or xs i 0) (here (get_or xs i 0) []))))

-- ---- What stays

module _ (a b : Database) (kept : (id : ℕ) → Contains a.irredundant id → Contains b.irredundant id × (literals_at b.engine.clauses id ≡ literals_at a.engine.clauses id)) where
  pub first_kept : (x i : ℕ) → IsFirst x a i → IsFirst x b i
  first_kept x i f = let k = kept i f.irredundant in record {
    irredundant = k.0;
    holding = subst (λ z. holds x z ≡ true) (sym k.1) f.holding;
    wider = subst (λ z. 0 < length (without x z)) (sym k.1) f.wider;
  }

  pub second_kept : (x j : ℕ) → IsSecond x a j → IsSecond x b j
  second_kept x j s = let k = kept j s.irredundant in record { irredundant = k.0; holding = subst (λ z. holds_negated x z ≡ true) (sym k.1) s.holding }

  pub held_kept : (x i : ℕ) (p q : Held) → IsFirst x a i → q ≡ p → IsHeld a i p.clause → IsHeld b i q.clause
  held_kept x i p q f e h = let k = kept i f.irredundant in
      subst (λ (z : Held). IsHeld b i z.clause) (sym e) (record { once = h.once; same = λ l. h.same l ∙ ap (λ z. has z l) (sym k.1) })

-- the stored list of an irredundant clause
pub held_stored : (d : Database) → IsDatabase d → (st : Store) → IsStore st → ((id : ℕ) (c : List ℕ) → active_at d.engine.clauses id ≡ Some c → (l : ℕ) → has (lits_at st id) l ≡ has c l)
    → (n : ℕ) → Contains d.irredundant n → IsHeld d n (lits_at st n)
held_stored d h st stored shown n m = record { once = once_stored st n stored; same = irredundant_has d h st shown n m }

-- ---- One more

module _ {L : Type 0} (takes : L → Told → L → Type 0) (refuses : L → Told → LogFault → L → Type 0) (x : ℕ) (l m n : L) (a b c : Database) where
  -- a call that breaks off behind pairs
  pub broken_later : (is js : List ℕ) (e : BoardFault) → ResolvesEach takes x l a is js b m → BreaksOff takes refuses (standing b.engine.clauses) m e n → BreaksOff takes refuses (standing a.engine.clauses) l e n
  broken_later is js e r k = broken_behind takes refuses a b r.steps l m n e r.leads r.taken k

  -- one more second clause
  pub second_more : (i j : ℕ) (js ks : List ℕ) → ResolvesEach takes x l a (i ∷ []) js b m → ResolvesEach takes x m b (i ∷ []) (j ∷ []) c n → Contains a.irredundant i → Contains a.irredundant j
      → ks ≡ js ++ j ∷ [] → ResolvesEach takes x l a (i ∷ []) ks c n
  second_more i j js ks r s mi mj e = joined takes x l m n a b c (i ∷ []) js (i ∷ []) (j ∷ []) (i ∷ []) ks r s
      (λ p k. k)
      (λ q k. subst (λ (z : List ℕ). Contains z q) (sym e) (append_left js (j ∷ []) q k))
      (λ p k. (k, subst (λ z. Contains a.irredundant z) (sole i p k) mi))
      (λ q k. (subst (λ (z : List ℕ). Contains z q) (sym e) (append_right js (j ∷ []) q k), subst (λ z. Contains a.irredundant z) (sole j q k) mj))
      (λ p q u v. elim (append_at js (j ∷ []) q (subst (λ (z : List ℕ). Contains z q) e v)) [ inl w ↦ inl (u, w) | inr w ↦ inr (u, w) ])
    where
      sole : (i p : ℕ) → Contains (i ∷ []) p → i ≡ p
      sole i p k = elim (here_or_there i p [] k) [ inl w ↦ w | inr o ↦ absurd (not_in_nil p o) ]

  -- one more first clause
  pub first_more : (i : ℕ) (is ks gs : List ℕ) → ResolvesEach takes x l a is gs b m → ResolvesEach takes x m b (i ∷ []) gs c n → Contains a.irredundant i → ((j : ℕ) → Contains gs j → Contains a.irredundant j)
      → ks ≡ is ++ i ∷ [] → ResolvesEach takes x l a ks gs c n
  first_more i is ks gs r s mi mg e = joined takes x l m n a b c is gs (i ∷ []) gs ks gs r s
      (λ p k. subst (λ (z : List ℕ). Contains z p) (sym e) (append_left is (i ∷ []) p k))
      (λ q k. k)
      (λ p k. (subst (λ (z : List ℕ). Contains z p) (sym e) (append_right is (i ∷ []) p k), subst (λ z. Contains a.irredundant z) (lone i p k) mi))
      (λ q k. (k, mg q k))
      (λ p q u v. elim (append_at is (i ∷ []) p (subst (λ (z : List ℕ). Contains z p) e u)) [ inl w ↦ inl (w, v) | inr w ↦ inr (w, v) ])
    where
      lone : (i p : ℕ) → Contains (i ∷ []) p → i ≡ p
      lone i p k = elim (here_or_there i p [] k) [ inl w ↦ w | inr o ↦ absurd (not_in_nil p o) ]
