-- Which variables may still be decided.
use Rattle.std.specs.Prelude.{◌≡◌, ℕ, ◌<◌, ◌≤◌, ◌⊎◌, IsTrue, Option, Some, None, refl}
use Rattle.std.specs.Ordering.{nat_cmp}
use Rattle.std.specs.Coded.{Coded, code_by, coded×, coded_ℕ}
use Rattle.std.specs.FinSet as set
use Rattle.lits.specs.Literal.{var}
use Rattle.propagation.specs.Engine.{EngineView, IsFree, literals}

-- the greatest reserved variable, and the candidates
pub record DecisionsView : Type 0 where
  pub reserved : ℕ
  pub candidates : set.FinSet nat_cmp

-- it is stored as its parts
abbrev pub decisions_code : Coded DecisionsView
decisions_code = code_by (ℕ × set.FinSet nat_cmp) (coded× coded_ℕ (set.code coded_ℕ)) (λ d. (d.reserved, d.candidates)) (λ p. record { reserved = p.0; candidates = p.1 }) (λ _. refl)

-- the variable is a candidate
abbrev pub IsCandidate : DecisionsView → ℕ → Type 0
IsCandidate d v = IsTrue (set.contains d.candidates v)

-- the variable is reserved
abbrev pub IsReserved : DecisionsView → ℕ → Type 0
IsReserved d v = (0 < v) × (v ≤ d.reserved)

-- no literal of the variable is free
abbrev pub IsAssigned : EngineView → ℕ → Type 0
IsAssigned e v = (l : ℕ) → var l ≡ v → IsFree (literals e.trail) l → ⊥

-- the variable is that of the literal
abbrev pub IsPicked : Option ℕ → ℕ → Type 0
IsPicked picked v = (l : ℕ) × (picked ≡ Some l) × (var l ≡ v)

-- a free literal was picked, if one was; a variable that is no candidate any more is assigned, or that of the literal; and none was
-- picked only where nothing is left to look at
pub record Picks (e : EngineView) (old new : DecisionsView) (picked : Option ℕ) : Type 0 where
  pub reserved : new.reserved ≡ old.reserved
  pub free : (l : ℕ) → picked ≡ Some l → IsFree (literals e.trail) l × IsReserved old (var l) × IsCandidate old (var l)
  pub left : (v : ℕ) → IsCandidate old v → IsCandidate new v ⊎ IsAssigned e v ⊎ IsPicked picked v
  pub none : picked ≡ None → (v : ℕ) → IsCandidate old v → IsAssigned e v
