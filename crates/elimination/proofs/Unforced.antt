-- A clause with a variable of no true literal is no literal's reason.
use Rattle.std.proofs.Common.{◌≡◌, ℕ, ◌||◌, Bool, true, false, nat_eq, List, ◌∷◌, ◌++◌, map, Contains, Option, Some, refl, sym, ap, ◌∙◌, subst, inl, inr, arith, eqb-true, eq-eqb}
use Rattle.std.proofs.lemmas.Bool.{and_parts, or_cases, both_ways}
use Rattle.std.proofs.lemmas.Option.{same_Some}
use Rattle.lits.specs.Literal.{var, neg}
use Rattle.lits.proofs.Members.{here, there, all_at, any_at, any_from, has_at}
use Rattle.lits.proofs.Literal.{var-neg}
use Rattle.session_rules.specs.Logic.{has, is_unit}
use Rattle.propagation.specs.declared.TrailEntry.{TrailEntry}
use Rattle.propagation.specs.Clauses.{active_at}
use Rattle.propagation.specs.Engine.{EngineView, IsEngine, IsNoReason, literals}
use Rattle.propagation.proofs.Assigning.{cut_at}
use Rattle.restore.specs.Resolution.{of_variable, has_variable}
use Rattle.restore.proofs.Joined.{map_from, map_at, append_left}

in_front : (before after : List TrailEntry) (l : ℕ) → Contains (literals before) l → Contains (literals (before ++ after)) l
in_front before after l m = let q = map_at (λ (s : TrailEntry). s.lit) before l m in subst (λ z. Contains (literals (before ++ after)) z) q.2 (map_from (λ (s : TrailEntry). s.lit) (before ++ after) q.0 (append_left before after q.0 q.1))

pub unforced : (e : EngineView) (id x : ℕ) (c : List ℕ) → IsEngine e → active_at e.clauses id ≡ Some c → has_variable x c ≡ true → has_variable x (literals e.trail) ≡ false → IsNoReason e id
unforced e id x c k a h free s r m is at =
    let cut = cut_at e.trail s m in
    let entry = k.entries cut.0 cut.1 s cut.2 in
    let y = entry.reason r is in
    let same : y.0 ≡ id = k.slots_apart y.0 id r y.2 at in
    let f : y.1 ≡ c = same_Some y.1 c (sym y.3 ∙ ap (active_at e.clauses) same ∙ a) in
    let u = and_parts (has y.1 s.lit) _ y.4 in
    let w = any_at (of_variable x) y.1 (subst (λ z. has_variable x z ≡ true) (sym f) h) in
    let v : var w.0 ≡ x = eqb-true (var w.0) x w.2 in
    elim (or_cases (nat_eq s.lit w.0) (has (literals cut.0) (neg w.0)) (all_at (λ q. nat_eq s.lit q || has (literals cut.0) (neg q)) y.1 w.0 u.1 w.1)) [
      | inl q ↦
          let l : s.lit ≡ w.0 = eqb-true s.lit w.0 q in
          both_ways _ free (any_from (of_variable x) (literals e.trail) s.lit (map_from (λ (t : TrailEntry). t.lit) e.trail s m) (eq-eqb (var s.lit) x (ap var l ∙ v)))
      | inr q ↦
          both_ways _ free (any_from (of_variable x) (literals e.trail) (neg w.0)
          (subst (λ z. Contains (literals z) (neg w.0)) (sym cut.2) (in_front cut.0 (s ∷ cut.1) (neg w.0) (has_at (literals cut.0) (neg w.0) q)))
          (eq-eqb (var (neg w.0)) x (var-neg w.0 ∙ v)))
    ]
