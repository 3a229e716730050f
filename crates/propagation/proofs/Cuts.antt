-- The entry at a place of the trail, and what stands before and behind it.
use Rattle.std.proofs.Common.{◌≡◌, ℕ, suc, zero, ◌<◌, ◌≤◌, List, [], ◌∷◌, ◌++◌, length, take, drop, get_or, refl, sym, ap, ◌∙◌, arith}
use Rattle.std.proofs.lemmas.List.{length-take}
use Rattle.propagation.specs.declared.TrailEntry.{TrailEntry}
use Rattle.propagation.specs.Assigned.{IsAt}
use Rattle.propagation.specs.Engine.{literals}

pub record Cut (xs : List TrailEntry) (i : ℕ) : Type 0 where
  pub entry : TrailEntry
  pub split : xs ≡ take i xs ++ entry ∷ drop (suc i) xs
  pub longer : take (suc i) xs ≡ take i xs ++ entry ∷ []
  pub lit : get_or (literals xs) i 0 ≡ entry.lit

pub cut : (xs : List TrailEntry) (i : ℕ) → i < length xs → Cut xs i
cut [] i lt = absurd (omega arith)
cut (x ∷ xs) zero lt = record { entry = x; split = refl; longer = refl; lit = refl }
cut (x ∷ xs) (suc i) lt = let r = cut xs i (omega arith) in record { entry = r.entry; split = ap (λ z. x ∷ z) r.split; longer = ap (λ z. x ∷ z) r.longer; lit = r.lit }

pub take_all : (xs : List TrailEntry) (i : ℕ) → length xs ≤ i → take i xs ≡ xs
take_all [] zero h = refl
take_all [] (suc i) h = refl
take_all (x ∷ xs) zero h = absurd (omega arith)
take_all (x ∷ xs) (suc i) h = ap (λ z. x ∷ z) (take_all xs i (omega arith))

-- the entry of a literal that stands at an index
pub at_index : (xs : List TrailEntry) (l i : ℕ) → i < length xs → get_or (literals xs) i 0 ≡ l → IsAt xs l i
at_index xs l i lt is = let c = cut xs i lt in let long : length (take i xs) ≡ i = simp length-take (omega arith) in
    record { before = take i xs; entry = c.entry; after = drop (suc i) xs; cut = c.split; counted = sym long; lit = sym c.lit ∙ is }
