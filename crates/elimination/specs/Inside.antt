-- What a board is inside: the ids of its irredundant clauses as marks, and the lists of their literals.
use Rattle.std.specs.Prelude.{◌≡◌, ℕ, ◌+◌, ◌*◌, ◌≤◌, Bool, true, false, List, [], ◌∷◌, ◌++◌, length}
use Rattle.lits.specs.Clause.{is_tautology, set_of}
use Rattle.propagation.specs.Engine.{EngineView, with_added}
use Rattle.occurrence_lists.specs.Occurring.{IsAdded}
use Rattle.elimination.specs.Boards.{BoardView, IsBoard}
use Rattle.elimination.specs.Known.{AreListedBy}

-- the ids that have a mark, ascending, where the first mark is that of this id
abbrev pub ids_from : ℕ → List Bool → List ℕ
ids_from n [] = []
ids_from n (true ∷ marks) = n ∷ ids_from (n + 1) marks
ids_from n (false ∷ marks) = ids_from (n + 1) marks

-- an id has come between the others
pub record IsInserted (old : List ℕ) (id : ℕ) (new : List ℕ) : Type 0 where
  pub front : List ℕ
  pub back : List ℕ
  pub before : old ≡ front ++ back
  pub after : new ≡ front ++ id ∷ back

-- what holds inside every board: the lists stand for its irredundant clauses, and each literal of a reserved variable has one
pub record IsBoardInside (b : BoardView) (rows : List (List ℕ)) : Type 0 where
  pub board : IsBoard b
  pub listed : AreListedBy b.engine.clauses rows b.irredundant
  pub wide : 2 * b.engine.vars ≤ length rows

-- an id was put among the others and into the lists of the clause's literals, unless it is a tautology
abbrev pub IsListed : Bool → ℕ → List ℕ → List ℕ → List (List ℕ) → List ℕ → List (List ℕ) → Type 0
IsListed true id c ids rows new_ids new_rows = (new_ids ≡ ids) × (new_rows ≡ rows)
IsListed false id c ids rows new_ids new_rows = IsInserted ids id new_ids × IsAdded rows id c new_rows

-- an input was added to the parts of a board under an id
pub record IsAdmission (e : EngineView) (ids : List ℕ) (rows : List (List ℕ)) (inputs : List (List ℕ)) (id : ℕ) (c : List ℕ)
    (new_e : EngineView) (new_ids : List ℕ) (new_rows : List (List ℕ)) (new_inputs : List (List ℕ)) : Type 0 where
  pub slot : ℕ
  pub engine : new_e ≡ with_added e id c slot
  pub listed : IsListed (is_tautology c) id (set_of c) ids rows new_ids new_rows
  pub pushed : new_inputs ≡ inputs ++ c ∷ []
