-- Lemmas that no active clause is a part of.
use Rattle.std.specs.Prelude.{◌≡◌, ℕ, List, ◌∷◌, ◌++◌, false, Some, None}
use Rattle.session_rules.specs.Logic.{is_part, is_tautology}
use Rattle.propagation.specs.declared.TrailEntry.{TrailEntry}
use Rattle.propagation.specs.Clauses.{active_at}
use Rattle.propagation.specs.Engine.{EngineView, IsPropagated, with_trail}

-- propagation had ended before each assumed literal
abbrev pub AreLevelsPropagated : EngineView → Type 0
AreLevelsPropagated e = (before after : List TrailEntry) (s : TrailEntry) → e.trail ≡ before ++ s ∷ after → s.reason ≡ None → IsPropagated (with_trail e before)

-- no active clause has a set that is a part of these literals, and no two of them are opposite
pub record IsFresh (e : EngineView) (ls : List ℕ) : Type 0 where
  pub no_part : (id : ℕ) (c : List ℕ) → active_at e.clauses id ≡ Some c → is_part c ls ≡ false
  pub no_tautology : is_tautology ls ≡ false
