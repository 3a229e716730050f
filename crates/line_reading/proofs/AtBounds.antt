-- The bound where the next line is sought.
use Rattle.std.proofs.Common.{◌≡◌, ℕ, ◌⊎◌, true, false, if◌then◌else◌, List, [], ◌∷◌, Err, refl, sym, ap, ◌∙◌, inl, inr}
use Rattle.std.specs.declared.result.Result.{Result}
use Rattle.session_rules.specs.declared.Rule.{Rule}
use Rattle.session_rules.specs.declared.Rule.TheVariants as rules
use Rattle.session_rules.specs.Lines.{Line, has_content, judged_words}
use Rattle.session_rules.specs.Reading.{Fault, missing, of_whole_line, of_cut_line, value_of}
use Rattle.slice_tokens.specs.Place.{Place, later, last_line}
use Rattle.slice_tokens.specs.Due.{known_words}
use Rattle.slice_tokens.specs.Calls.{AtBound, OnlyCut}
use Rattle.line_reading.specs.Whole.{Breaks, BehindCut}

module _ {A : Type 0} (read : List (List ℕ) → Result A Fault) where
  -- a line that is cut before its content breaks Length
  cut_said : (none : Rule) → read [] ≡ Err (missing none) → (line : Line) → line.cut ≡ true → has_content line.words ≡ false → value_of read line ≡ Err rules.Length
  cut_said none e line c f = ap (λ k. if k then of_cut_line (read (judged_words line)) else of_whole_line (read line.words)) c
      ∙ ap (λ k. of_cut_line (read (if k then known_words line else []))) f ∙ ap of_cut_line e

  -- the bound was met before a line with content
  pub next_cut : (none : Rule) → read [] ≡ Err (missing none) → (o q : Place) (t v : List ℕ) → AtBound o t q v → Breaks read rules.Length o t q v ⊎ BehindCut rules.Length o t q v
  next_cut none e o q t v h = by_lines (later o t) refl h.only
    where
      by_lines : (ls : List Line) → later o t ≡ ls → OnlyCut ls (last_line o t) → Breaks read rules.Length o t q v ⊎ BehindCut rules.Length o t q v
      by_lines [] f k = inr (record { lines = f; cut = h.cut; rule = refl; passed = h.behind.passed })
      by_lines (line ∷ more) f k = inl (record { line = line; more = more; lines = f; rule = cut_said none e line k.1 k.2; number = k.3 ∙ sym h.line; last = h.behind.last; passed = h.behind.passed })
