-- Hints that close from what was assumed close from the literals that a test began with.
use Rattle.std.proofs.Common.{◌≡◌, ℕ, List, [], ◌∷◌, ◌++◌, None, sym, subst, inl, inr, true, Contains}
use Rattle.lits.proofs.Members.{not_in_nil, here_or_there, has_at}
use Rattle.session_rules.specs.Logic.{has, hints_fail}
use Rattle.propagation.specs.declared.TrailEntry.{TrailEntry}
use Rattle.propagation.specs.Clauses.{Clauses, active_at}
use Rattle.propagation.specs.Engine.{EngineView, IsEngine, with_trail}
use Rattle.conflict_analysis.specs.Cores.{IsAssumed}
use Rattle.conflict_analysis.proofs.Tracing.{assumed_entry}
use Rattle.rup_check.specs.Assuming.{AreTraced, AreFew}
use Rattle.rup_check.proofs.Assuming.{AssumesBy, from_by, in_middle}

-- an assumed literal is one of those that the trail assumes
assumed_is_by : (e : EngineView) (ls : List ℕ) (x : ℕ) → IsEngine e → AssumesBy e.trail ls → IsAssumed e x → has ls x ≡ true
assumed_is_by e ls x k by a =
    let b = assumed_entry e x k a in
    subst (λ z. has ls z ≡ true) b.lit (by b.step (subst (λ z. Contains z b.step) (sym b.split) (in_middle b.before b.after b.step)) b.reason)

pub traced_closes : (e : EngineView) (ls given hints : List ℕ) → IsEngine e → AssumesBy e.trail ls → ((l : ℕ) → Contains given l → Contains ls l) → AreTraced e given hints → hints_fail (active_at e.clauses) ls hints ≡ None
traced_closes e ls given hints k by g t = t.1.closes ls (λ l m. elim (t.1.assumed l m) [ inl y ↦ g l y | inr a ↦ has_at ls l (assumed_is_by e ls l k by a) ])

pub one_given : (ls : List ℕ) (l x : ℕ) → Contains ls l → Contains (l ∷ []) x → Contains ls x
one_given ls l x m n = elim (here_or_there l x [] n) [ inl q ↦ subst (λ z. Contains ls z) q m | inr r ↦ absurd (not_in_nil x r) ]

pub none_given : (ls : List ℕ) (x : ℕ) → Contains [] x → Contains ls x
none_given ls x m = absurd (not_in_nil x m)

pub same_hints : (a b : EngineView) (xs : List TrailEntry) (ls ids : List ℕ) → b ≡ with_trail a (a.trail ++ xs) → hints_fail (active_at b.clauses) ls ids ≡ None → hints_fail (active_at a.clauses) ls ids ≡ None
same_hints a b xs ls ids e r = subst (λ z. hints_fail (active_at z.clauses) ls ids ≡ None) e r

pub traced_few : (e : EngineView) (m : Clauses) (ls given hints : List ℕ) → e.clauses ≡ m → IsEngine e → AssumesBy e.trail ls → AreTraced e given hints → AreFew m ls hints
traced_few e m ls given hints same k by t = record { engine = e; clauses = same; sound = k; assumes = from_by e.trail ls by; needed = t.1.needed }
