-- Proofs whose steps keep all their own rules.
use Rattle.std.specs.Prelude.{◌≡◌, List, [], ◌∷◌, ◌++◌}
use Rattle.session_rules.specs.declared.Rule.{Rule}

-- no step breaks a rule of its own behind the steps before it
abbrev pub WithoutOwnFaults : {S : Type 0} → (List S → S → List Rule) → List S → Type 0
WithoutOwnFaults {S} faults ps = (before after : List S) (p : S) → ps ≡ before ++ p ∷ after → faults before p ≡ []
