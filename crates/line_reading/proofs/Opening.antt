-- What is due at a line, by the words that are known.
use Rattle.std.proofs.Common.{◌≡◌, ℕ, Bool, true, false, nat_lt, List, [], ◌∷◌, length, Err, refl, sym, ap, subst, inl, inr}
use Rattle.std.proofs.lemmas.Bool.{cases_Bool}
use Rattle.std.specs.declared.result.Result.{Result}
use Rattle.session_rules.specs.declared.Rule.{Rule}
use Rattle.session_rules.specs.declared.Rule.TheVariants as rules
use Rattle.session_rules.specs.Lines.{Line}
use Rattle.slice_tokens.specs.declared.token.TokenFault.{TokenFault}
use Rattle.slice_tokens.specs.declared.token.TokenFault.TheVariants as tokens
use Rattle.slice_tokens.specs.Place.{Place, present}
use Rattle.slice_tokens.specs.Due.{due_word, due_long, due_cut, due_of, due, known_words}
use Rattle.slice_tokens.specs.Calls.{Answers, LeavesLines}
use Rattle.line_reading.specs.Parts.{PartAnswers, ReadsPart, end_fault, EndAnswers, EndsLine, line_fault_of, word_part}

-- a word that is too long is due: it is the first that is known
pub long_first : (cut : Bool) (ws : List (List ℕ)) → due_of cut ws ≡ due_long → (w : List ℕ) × (more : List (List ℕ)) × (ws ≡ w ∷ more) × (nat_lt 32 (length w) ≡ true)
long_first true [] e = cc e
long_first false [] e = cc e
long_first cut (v ∷ more) e = elim (cases_Bool (nat_lt 32 (length v))) [
  | inl q ↦ (v, more, refl, q)
  | inr q ↦ let f : due_word v ≡ due_long = rw q at e in cc f
]

-- the bound is due: no known word is left, and the line is cut
pub cut_first : (cut : Bool) (ws : List (List ℕ)) → due_of cut ws ≡ due_cut → (ws ≡ []) × (cut ≡ true)
cut_first true [] e = (refl, refl)
cut_first false [] e = cc e
cut_first cut (v ∷ more) e = elim (cases_Bool (nat_lt 32 (length v))) [
  | inl q ↦ let f : due_long ≡ due_cut = rw q at e in cc f
  | inr q ↦ let f : due_word v ≡ due_cut = rw q at e in cc f
]

module _ {A : Type 0} (says : List ℕ → Result A Rule) (none long : Rule) where
  fault_answers : (line : Line) (fault : TokenFault) → Answers (due line) (Err fault)
      → PartAnswers {A = A} (word_part says none long (known_words line)) line (Err (line_fault_of long fault))
  fault_answers line tokens.Read d = tt
  fault_answers line tokens.LongWord d = let o = long_first line.cut (known_words line) d in rw (o.2, o.3) refl
  fault_answers line tokens.Length d = let o = cut_first line.cut (known_words line) d in rw (o.0, o.1) refl

  -- the window answered a fault
  pub reads_fault : (p q : Place) (t u : List ℕ) (fault : TokenFault) → Answers (due (present p t)) (Err fault) → LeavesLines (Err fault) p t q u
      → ReadsPart (word_part says none long) (Err (line_fault_of long fault)) p t q u
  reads_fault p q t u fault d left = record {
    answer = subst (λ l. PartAnswers {A = A} (word_part says none long (known_words (present p t))) l (Err (line_fault_of long fault))) (sym left.present) (fault_answers (present p t) fault d);
    line = record { number = ap (λ l. l.number) left.present; cut = ap (λ l. l.cut) left.present };
    behind = left.behind;
  }

end_answers : (line : Line) (fault : TokenFault) → Answers (due line) (Err fault) → EndAnswers (end_fault line.cut (known_words line)) (Err (line_fault_of rules.Excess fault))
end_answers line tokens.Read d = tt
end_answers line tokens.LongWord d = let o = long_first line.cut (known_words line) d in rw o.2 refl
end_answers line tokens.Length d = let o = cut_first line.cut (known_words line) d in rw (o.0, o.1) refl

pub ends_fault : (p q : Place) (t u : List ℕ) (fault : TokenFault) → Answers (due (present p t)) (Err fault) → LeavesLines (Err fault) p t q u
    → EndsLine (Err (line_fault_of rules.Excess fault)) p t q u
ends_fault p q t u fault d left = record {
  answer = end_answers (present p t) fault d;
  line = record { number = ap (λ l. l.number) left.present; cut = ap (λ l. l.cut) left.present };
  behind = left.behind;
}
