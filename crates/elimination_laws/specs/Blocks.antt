-- Elimination blocks: the steps that eliminate one variable, by what stands before them.
use Rattle.std.specs.Prelude.{◌≡◌, ℕ, zero, suc, ◌+◌, ◌-◌, Bool, true, false, not, ◌&&◌, ◌||◌, nat_eq, nat_lt, if◌then◌else◌, List, [], ◌∷◌, ◌++◌, take, drop, filter, filter_map, Contains, IsTrue}
use Rattle.std.specs.List.{list_any, list_all}
use Rattle.session_rules.specs.declared.Step.{Step}
use Rattle.session_rules.specs.declared.Step.TheVariants as steps
use Rattle.session_rules.specs.Logic.{same_set, is_tautology, closes}
use Rattle.session_rules.specs.History.{assumed}
use Rattle.session_rules.specs.Own.{events_of, weakened_clause, active_clauses}
use Rattle.restore.specs.Resolution.{has_variable, all_variables}
use Rattle.restore.specs.Stack.{are_due}
use Rattle.elimination_laws.specs.Eligible.{how_many, eligible, forced, OftenAs}
use Rattle.elimination_laws.specs.Parts.{in_part, lemma_clause, deleted_clause}
use Rattle.elimination_laws.specs.Irredundant.{irredundant}

-- ---- The steps' order

-- lemmas come first, then deletions, then weakenings; other steps have no turn
abbrev pub turn : Step → ℕ
turn (steps.Event e) = 0
turn (steps.Restore c) = 0
turn (steps.Lemma c) = 1
turn (steps.Delete c) = 2
turn (steps.Weaken c) = 3

-- whether each step has a turn
abbrev pub have_turns : List Step → Bool
have_turns ps = list_all (λ p. nat_lt 0 (turn p)) ps

-- whether the steps are in turn, from this one on
abbrev pub in_turn : ℕ → List Step → Bool
in_turn n [] = true
in_turn n (p ∷ ps) = nat_lt 0 (turn p) && (not (nat_lt (turn p) n) && in_turn (turn p) ps)

-- ---- Blocks

-- whether each clause stands in both lists as often
abbrev pub equally_often : List (List ℕ) → List (List ℕ) → Bool
equally_often cs ds = list_all (λ c. nat_eq (how_many (same_set c) cs) (how_many (same_set c) ds)) (cs ++ ds)

-- whether a clause has no literal of the variable, unless it is a tautology
abbrev pub is_rid_of : ℕ → List ℕ → Bool
is_rid_of x c = not (has_variable x c) || is_tautology c

-- whether steps are an elimination block of the variable, by the irredundant clauses, the active clauses before and after
-- them, and the frozen literals
unfoldable pub is_block_of : ℕ → List (List ℕ) → List (List ℕ) → List (List ℕ) → List ℕ → List Step → Bool
is_block_of x irr active after frozen run =
    ((in_turn 1 run && not (closes active [])) && eligible irr frozen (forced active) x)
    && ((are_due x irr (filter_map lemma_clause run)
    && list_all (λ c. has_variable x c && not (is_tautology c)) (filter_map deleted_clause run))
    && (equally_often (filter_map weakened_clause run) (filter (has_variable x) irr) && list_all (is_rid_of x) after))

-- the same, point by point
pub record IsBlock (x : ℕ) (irr active after : List (List ℕ)) (frozen : List ℕ) (run : List Step) : Type 0 where
  pub in_order : IsTrue (in_turn 1 run)
  pub unclosed : closes active [] ≡ false
  pub may_go : IsTrue (eligible irr frozen (forced active) x)
  pub writes : IsTrue (are_due x irr (filter_map lemma_clause run))
  pub deletes : (c : List ℕ) → Contains (filter_map deleted_clause run) c
      → IsTrue (has_variable x c && not (is_tautology c))
  pub weakens : OftenAs (filter_map weakened_clause run) (filter (has_variable x) irr)
  pub gone : (c : List ℕ) → Contains after c → has_variable x c ≡ true → is_tautology c ≡ true

-- ---- Blocks of a proof

-- whether the steps of a proof between the two places are an elimination block of the variable
unfoldable pub is_block : List Step → ℕ → ℕ → ℕ → Bool
is_block ps x b e = (in_part (take b ps) && nat_lt b e)
    && is_block_of x (irredundant ps b) (active_clauses (take b ps)) (active_clauses (take e ps))
    (assumed (events_of (take b ps))) (take (e - b) (drop b ps))

-- whether blocks lead from the first place to the last: each has its variable and the place where it ends
abbrev pub are_blocks : List Step → ℕ → List (ℕ × ℕ) → ℕ → Bool
are_blocks ps b [] e = nat_eq b e
are_blocks ps b (m ∷ ms) e = is_block ps m.0 b m.1 && are_blocks ps m.1 ms e

-- the steps between the two places are a list of elimination blocks
abbrev pub Blocks : List Step → ℕ → ℕ → Type 0
Blocks ps b e = (ms : List (ℕ × ℕ)) × IsTrue (are_blocks ps b ms e)

-- the places behind this one, as many as said
abbrev pub places_behind : ℕ → ℕ → List ℕ
places_behind b zero = []
places_behind b (suc n) = (b + 1) ∷ places_behind (b + 1) n

-- the test: each variable and each end is tried
unfoldable pub blocks : ℕ → List Step → ℕ → ℕ → Bool
blocks zero ps b e = nat_eq b e
blocks (suc n) ps b e = nat_eq b e || list_any
    (λ m. let rest = blocks n ps m e in if list_any (λ x. is_block ps x b m) (all_variables (irredundant ps b)) then rest else false)
    (places_behind b (e - b))
