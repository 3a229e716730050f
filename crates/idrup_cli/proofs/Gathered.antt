-- The line of a refusal, as it is gathered.
use Rattle.std.proofs.Common.{◌≡◌, ℕ, List, [], ◌∷◌, ◌++◌, refl, sym, ◌∙◌, ap, append_assoc, codes}
use Rattle.session_rules.specs.Spelling.{line_text}
use Rattle.idrup_cli.specs.Report.{spaced}

-- a line is its first word, the others behind their spaces, and its end
line_text-spaced : (w : List ℕ) (ws : List (List ℕ)) → line_text (w ∷ ws) ≡ w ++ (spaced ws ++ 10 ∷ [])
line_text-spaced w [] = refl
line_text-spaced w (v ∷ vs) = ap (λ (l : List ℕ). w ++ 32 ∷ l) (line_text-spaced v vs ∙ sym (append_assoc v (spaced vs) (10 ∷ [])))

pub refusal_gathered : (old side number name : List ℕ) (detail : List (List ℕ))
    → (((((((old ++ codes "refused ") ++ side) ++ codes " ") ++ number) ++ codes " ") ++ name) ++ spaced detail) ++ codes "\n"
    ≡ old ++ line_text (codes "refused" ∷ side ∷ number ∷ name ∷ detail)
refusal_gathered old side number name detail = rw (line_text-spaced name detail) (simp append_assoc)
