-- Values that are extended over a board's stack.
use Rattle.std.proofs.Common.{◌≡◌, ℕ, zero, suc, ◌+◌, ◌/◌, ◌<◌, ◌≤◌, Bool, true, false, List, [], ◌∷◌, ◌++◌, length, Contains, All, refl, sym, ap, ◌∙◌, subst, arith}
use Rattle.std.proofs.Math.Path.{fun_ext}
use Rattle.lits.specs.Literal.{var}
use Rattle.lits.specs.Clause.{has, set_of}
use Rattle.lits.proofs.Members.{here, there, all_from}
use Rattle.lits.proofs.Ascending.{set_of_from}
use Rattle.session_rules.specs.Logic.{satisfies_clause, satisfies_formula}
use Rattle.propagation.specs.Clauses.{literals_at}
use Rattle.propagation.proofs.Changes.{literals-reserved}
use Rattle.restore.specs.declared.lists.Kept.{Kept}
use Rattle.restore.specs.declared.lists.Elim.{Elim}
use Rattle.restore.specs.Stack.{stacked, has_entry, extended, Extends, IsCovered, IsCoveredClause}
use Rattle.restore.specs.Values.{value, reserved, IsReserved}
use Rattle.restore.proofs.Extending.{extended_satisfies, extended_outside}
use Rattle.elimination.specs.Boards.{BoardView, IsBoard, irredundant_clauses}

pub all_by : {X : Type 0} (P : X → Type 0) (xs : List X) → ((x : X) → Contains xs x → P x) → All P xs
all_by P [] h k d lt = absurd (omega (arith, lt))
all_by P (x ∷ xs) h zero d lt = h x (here x xs)
all_by P (x ∷ xs) h (suc k) d lt = all_by P xs (λ y m. h y (there x y xs m)) k d (omega (arith, lt))

module _ (b : BoardView) (h : IsBoard b) where
  pub stack_covered : (vs : List Bool) → b.engine.vars ≤ reserved vs → All (IsCovered vs) b.stack
  stack_covered vs room = all_by (IsCovered vs) b.stack (λ e m. record {
    variable = (h.searched.positive e m, let r = h.searched.reserved e m in omega (arith, r, room));
    clauses = all_by (λ (k : Kept). IsCoveredClause vs k.lits) e.clauses (λ k n. all_by (λ l. IsReserved vs (var l)) k.lits (λ l o.
        let w = h.searched.copies e k m n in
        let small = literals-reserved b.engine k.id l h.searched.engine (subst (λ z. Contains z l) w.same (set_of_from k.lits l o)) in
        (omega arith, omega (arith, small, room))));
  })

  pub model_satisfies : (old new : ℕ → Bool) → Extends b.stack old new → satisfies_formula old (irredundant_clauses b) ≡ true → satisfies_formula new (stacked b.stack ++ irredundant_clauses b) ≡ true
  model_satisfies old new x s = subst (λ (v : ℕ → Bool). satisfies_formula v (stacked b.stack ++ irredundant_clauses b) ≡ true) (sym (fun_ext x)) (extended_satisfies b.stack (irredundant_clauses b) h.searched.kept old s)

  pub model_inputs : (v : ℕ → Bool) → satisfies_formula v (stacked b.stack ++ irredundant_clauses b) ≡ true → satisfies_formula v b.inputs ≡ true
  model_inputs v s = all_from (satisfies_clause v) b.inputs (λ c m. h.searched.implied c m v s)

  pub model_outside : (old new : ℕ → Bool) → Extends b.stack old new → (x : ℕ) → has_entry b.stack x ≡ false → new x ≡ old x
  model_outside old new e x n = e x ∙ extended_outside b.stack old x n
