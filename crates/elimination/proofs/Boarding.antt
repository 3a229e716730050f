-- What holds inside a board that is new, or has more variables, and which variables no clause has.
use Rattle.std.proofs.Common.{◌≡◌, ℕ, suc, ◌+◌, ◌-◌, ◌*◌, ◌<◌, ◌≤◌, ◌^◌, Bool, true, false, not, ◌&&◌, List, [], ◌∷◌, ◌++◌, length, length-append, replicate, map, Contains, Some, None, Result, Ok, Err, refl, sym, ap, ◌∙◌, subst, inl, inr, arith}
use Rattle.std.specs.Prelude.{OnOk, OnErr, max, option_and_then}
use Rattle.std.specs.List.{list_any, IsDistinct}
use Rattle.std.specs.FinMap as finmap
use Rattle.std.specs.FinMap.{get-empty}
use Rattle.std.specs.Prelude.{nat_eq}
use Rattle.std.specs.Ordering.{nat_cmp}
use Rattle.std.proofs.lemmas.Bool.{cases_Bool, both_ways, false_from_ne_true, and_parts, eqb-true}
use Rattle.std.proofs.lemmas.Option.{none-some}
use Rattle.std.proofs.lemmas.List.{length-replicate}
use Rattle.lits.specs.Literal.{var, max_var}
use Rattle.lits.proofs.Members.{not_in_nil, any_at, has_from}
use Rattle.propagation.specs.Clauses.{Clauses, active_at, literals_at, is_weakened}
use Rattle.propagation.specs.Engine.{EngineView, IsEngine, no_engine, with_vars, literals}
use Rattle.propagation.proofs.Changes.{IsEngine-none, IsEngine-vars, literals-reserved}
use Rattle.restore.specs.Resolution.{has_variable}
use Rattle.restore.proofs.Joined.{map_at}
use Rattle.elimination_laws.specs.Eligible.{eligible}
use Rattle.occurrence_lists.specs.Occurring.{with_rows}
use Rattle.occurrence_lists.proofs.Standing.{none, grown}
use Rattle.elimination.specs.Boards.{BoardView, IsBoard, IsSearched, no_board, with_reserved, eligible_on, irredundant_clauses}
use Rattle.elimination.specs.Known.{AreListedBy}
use Rattle.elimination.specs.Inside.{IsBoardInside}

-- ---- A new board

empty-active : (id : ℕ) (c : List ℕ) → active_at no_engine.clauses id ≡ Some c → ⊥
empty-active id c h = let f : active_at no_engine.clauses id ≡ None = rw (get-empty nat_cmp id) refl in none-some c (sym f ∙ h)

pub new_board : IsBoardInside no_board []
unfolding IsDistinct
new_board = record {
  board = record {
    searched = record {
      engine = IsEngine-none;
      kept = tt;
      implied = λ c m. absurd (not_in_nil c m);
      irredundant = record { once = tt; active = λ id m. absurd (not_in_nil id m) };
      copies = λ e k m n. absurd (not_in_nil e m);
      whole = λ id h. absurd (no_key id h);
      gone = λ e id c m a h. absurd (not_in_nil e m);
      single = tt;
      apart = tt;
      positive = λ e m. absurd (not_in_nil e m);
      reserved = λ e m. absurd (not_in_nil e m);
      ids = λ id h. absurd (no_held id h);
      first_id = omega arith;
      last_id = omega arith;
    };
    level = refl;
  };
  listed = record { stands = none; active = λ id m. absurd (not_in_nil id m) };
  wide = omega arith;
}
  where
    no_held : (id : ℕ) → finmap.contains_key no_engine.clauses id ≡ true → ⊥
    no_held id h = let f : false ≡ true = rw (get-empty nat_cmp id) at h in cc f

    no_key : (id : ℕ) → is_weakened no_engine.clauses id ≡ true → ⊥
    no_key id h = no_held id (and_parts _ _ h).0

pub new_inside : (b : BoardView) (rows : List (List ℕ)) → b ≡ no_board → rows ≡ [] → IsBoardInside b rows
new_inside b rows e f = subst (λ z. IsBoardInside z rows) (sym e) (subst (λ z. IsBoardInside no_board z) (sym f) new_board)

-- ---- More variables

row_count : (rows : List (List ℕ)) (n : ℕ) → length (with_rows rows n) ≡ length rows + (n - length rows)
row_count rows n = length-append rows (replicate (n - length rows) []) ∙ ap (λ z. length rows + z) (length-replicate (n - length rows) [])

pub more_rows : (b : BoardView) (rows : List (List ℕ)) (n : ℕ) → IsBoardInside b rows → IsBoardInside b (with_rows rows n)
more_rows b rows n h = record {
  board = h.board;
  listed = record { stands = grown rows _ n h.listed.stands; active = h.listed.active };
  wide = let e = row_count rows n in omega (arith, h.wide, e);
}

pub more_vars : (b : BoardView) (rows : List (List ℕ)) (n : ℕ) → b.engine.vars ≤ n → n ≤ max_var → 2 * n ≤ length rows → IsBoardInside b rows → IsBoardInside (with_reserved b n) rows
more_vars b rows n le small room h = let s = h.board.searched in record {
  board = record {
    searched = record {
      engine = IsEngine-vars b.engine n s.engine le small;
      kept = s.kept;
      implied = s.implied;
      irredundant = s.irredundant;
      copies = s.copies;
      whole = s.whole;
      gone = s.gone;
      single = s.single;
      apart = s.apart;
      positive = s.positive;
      reserved = λ e m. omega (arith, s.reserved e m, le);
      ids = s.ids;
      first_id = s.first_id;
      last_id = s.last_id;
    };
    level = h.board.level;
  };
  listed = h.listed;
  wide = room;
}

abbrev with_engine : BoardView → EngineView → BoardView
with_engine b e = record { engine = e; irredundant = b.irredundant; stack = b.stack; inputs = b.inputs; next_id = b.next_id }

with_most : (b : BoardView) (rows : List (List ℕ)) (n m : ℕ) → m ≡ max b.engine.vars n → n ≤ max_var → IsBoardInside b rows → IsBoardInside (with_reserved b m) (with_rows rows (2 * n))
with_most b rows n m e small h =
    let limit = h.board.searched.engine.vars_limit in let wide = h.wide in
    let l = row_count rows (2 * n) in
    more_vars b (with_rows rows (2 * n)) m (omega (arith, e)) (omega (arith, e, limit, small)) (omega (arith, e, wide, l)) (more_rows b rows (2 * n) h)

pub reserved_board : {F : Type 0} (b : BoardView) (rows new : List (List ℕ)) (n : ℕ) (e : EngineView) (r : Result (Unit {0}) F) → IsBoardInside b rows → n ≤ max_var → new ≡ with_rows rows (2 * n)
    → OnOk r (e ≡ with_vars b.engine (max b.engine.vars n)) → OnErr r (e ≡ b.engine) → IsBoardInside (with_engine b e) new
reserved_board b rows new n e (Ok u) h small w ok err =
    subst (λ z. IsBoardInside (with_engine b z) new) (sym ok) (subst (λ z. IsBoardInside (with_reserved b (max b.engine.vars n)) z) (sym w) (with_most b rows n (max b.engine.vars n) refl small h))
reserved_board b rows new n e (Err f) h small w ok err =
    subst (λ z. IsBoardInside (with_engine b z) new) (sym err) (subst (λ z. IsBoardInside b z) (sym w) (more_rows b rows (2 * n) h))

-- ---- Variables of no clause

absent : (cs : List (List ℕ)) (x : ℕ) → ((c : List ℕ) → Contains cs c → has_variable x c ≡ false) → list_any (has_variable x) cs ≡ false
absent cs x h = false_from_ne_true _ (λ y. let a = any_at (has_variable x) cs y in both_ways _ (h a.0 a.1) a.2)

absent_stays : (cs : List (List ℕ)) (frozen assigned : List ℕ) (x : ℕ) → ((c : List ℕ) → Contains cs c → has_variable x c ≡ false) → false ≡ eligible cs frozen assigned x
unfolding eligible
absent_stays cs frozen assigned x h = let n = absent cs x h in rw n (none (not (has_variable x frozen) && not (has_variable x assigned)))
  where
    none : (b : Bool) → false ≡ (b && false)
    none true = refl
    none false = refl

pub zero_stays : (cs : List (List ℕ)) (frozen assigned : List ℕ) (x : ℕ) → x ≡ 0 → false ≡ eligible cs frozen assigned x
zero_stays cs frozen assigned x z = absent_stays cs frozen assigned x (λ c m. false_from_ne_true _ (λ y.
    let a = any_at (λ l. nat_eq (var l) x) c y in let e = eqb-true (var a.0) x a.2 in omega (arith, z, e)))

pub unreserved_stays : (b : BoardView) (frozen : List ℕ) (x : ℕ) → IsEngine b.engine → b.engine.vars < x → false ≡ eligible_on b frozen x
unreserved_stays b frozen x en lt = absent_stays (irredundant_clauses b) frozen (literals b.engine.trail) x (λ c m. false_from_ne_true _ (λ y.
    let q = map_at (literals_at b.engine.clauses) b.irredundant c m in
    let a = any_at (λ l. nat_eq (var l) x) c y in let e = eqb-true (var a.0) x a.2 in
    let small = literals-reserved b.engine q.0 a.0 en (subst (λ z. Contains z a.0) (sym q.2) a.1) in omega (arith, lt, e, small)))
