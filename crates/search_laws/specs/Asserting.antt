-- Clauses that may be asserted, and the level at which they are.
use Rattle.std.specs.Prelude.{ℕ, ◌<◌, List, [], ◌∷◌, ◌++◌, length, drop, slice_index, Contains, unwrap_or, IsTrue, ⊤}
use Rattle.lits.specs.Literal.{neg}
use Rattle.session_rules.specs.Logic.{has}
use Rattle.propagation.specs.declared.TrailEntry.{TrailEntry}
use Rattle.propagation.specs.Engine.{EngineView, IsOnce, IsFree, literals, level_behind, CameBefore, FellBefore, AreFalse, HasRoomFor}

-- the first literal is free, all others are false, and the second is the one of these that was assigned last
pub record CanAssert (e : EngineView) (ls : List ℕ) : Type 0 where
  pub some : 0 < length ls
  pub reserved : HasRoomFor e ls
  pub free : IsFree (literals e.trail) (slice_index ls 0)
  pub others : AreFalse e (drop 1 ls)
  pub distinct : IsOnce ls
  pub last : FellBefore e (drop 2 ls) (slice_index ls 1)

-- the level to go back to: that of the second literal, 0 where there is none
abbrev pub level_of_others : List TrailEntry → List ℕ → ℕ
level_of_others ss [] = 0
level_of_others ss (m ∷ ms) = unwrap_or (level_behind 0 ss m) 0

abbrev pub level_below : List TrailEntry → List ℕ → ℕ
level_below ss [] = 0
level_below ss (l ∷ ms) = level_of_others ss ms

-- of any two literals the first was made false later
abbrev pub IsLatestFirst : List ℕ → List ℕ → Type 0
IsLatestFirst trues [] = ⊤
IsLatestFirst trues (l ∷ ls) = ((m : ℕ) → Contains ls m → CameBefore trues (neg m) (neg l)) × IsLatestFirst trues ls

-- the literals that were taken of a trail's end, which is `after`: each once, and each false by one of its entries
pub record IsPicked (before after : List TrailEntry) (ls : List ℕ) : Type 0 where
  pub order : IsLatestFirst (literals (before ++ after)) ls
  pub once : IsOnce ls
  pub behind : (l : ℕ) → Contains ls l → IsTrue (has (literals after) (neg l))
