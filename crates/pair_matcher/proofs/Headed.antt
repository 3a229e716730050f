-- What the reading of a header says of the whole stream.
use Rattle.std.proofs.Common.{◌≡◌, ℕ, ◌⊎◌, List, [], ◌∷◌, drop, Option, Some, None, Ok, Err, refl, sym, ap, ◌∙◌, subst, inl, inr}
use Rattle.std.specs.declared.result.Result.{Result}
use Rattle.session_rules.specs.declared.Rule.{Rule}
use Rattle.session_rules.specs.declared.Rule.TheVariants as rules
use Rattle.session_rules.specs.Lines.{Line, lines, lines_within, end_line}
use Rattle.session_rules.specs.Reading.{value_of, header_line, header_fault, first_fault, rule_or_none, with_number}
use Rattle.slice_tokens.specs.Place.{Place, WhereTold, at_start, ahead, later, lines_behind, following}
use Rattle.line_reading.specs.Whole.{Says, Breaks, BehindCut}
use Rattle.icnf_lines.specs.declared.header.HeaderFault.TheVariants.{Syntax}
use Rattle.icnf_lines.specs.Headers.{HeaderAnswers, Headless}
use Rattle.line_reading.proofs.Joined.{told_map}
use Rattle.pair_matcher.specs.Taken.{IsWithin}
use Rattle.pair_matcher.specs.Checks.{IsBehindHeader, PassesHeader}
use Rattle.pair_matcher.proofs.Taken.{last_at_start, within_first}
use Rattle.pair_matcher.proofs.CutLines.{cut_at_start, not_behind_cut, cut_behind}

lines_at_start : (bytes : List ℕ) → later at_start bytes ≡ lines bytes
unfolding later lines_behind following lines lines_within
lines_at_start bytes = refl

fault_by : (name bytes : List ℕ) (ls : List Line) → lines bytes ≡ ls → header_fault name bytes ≡ first_fault name (end_line bytes) ls
unfolding header_fault
fault_by name bytes ls e = ap (first_fault name (end_line bytes)) e

line_fault : (name bytes : List ℕ) (line : Line) (more : List Line) (o : Result Unit Rule) → lines bytes ≡ line ∷ more → value_of (header_line name) line ≡ o
    → header_fault name bytes ≡ with_number line.number (rule_or_none o)
line_fault name bytes line more o e v = fault_by name bytes (line ∷ more) e ∙ ap (λ p. with_number line.number (rule_or_none p)) v

header_read : (name : List ℕ) (q : Place) (bytes rest : List ℕ) → Says (header_line name) tt at_start bytes q rest → IsBehindHeader name bytes q rest
header_read name q bytes rest s = let e : lines bytes ≡ s.line ∷ later q rest = sym (lines_at_start bytes) ∙ s.lines in record {
  kept = line_fault name bytes s.line (later q rest) (Ok tt) e s.value;
  lines = ap (drop 1) e;
  within = within_first bytes q rest s.passed s.last;
  cut = cut_behind (header_line name) s.line tt at_start q bytes rest s.lines s.value s.cut (cut_at_start bytes);
}

header_broken : (name : List ℕ) (r : Rule) (q : Place) (bytes rest : List ℕ)
    → Breaks (header_line name) r at_start bytes q rest ⊎ (BehindCut r at_start bytes q rest ⊎ Headless r at_start bytes q rest) → (header_fault name bytes ≡ Some (q.line, r)) × IsWithin bytes q rest
header_broken name r q bytes rest (inl b) = (
  line_fault name bytes b.line b.more (Err r) (sym (lines_at_start bytes) ∙ b.lines) b.rule ∙ ap (λ n. Some (n, r)) b.number,
  within_first bytes q rest b.passed b.last,
)
header_broken name r q bytes rest (inr (inl b)) = absurd (not_behind_cut r at_start q bytes rest (cut_at_start bytes) b)
header_broken name r q bytes rest (inr (inr h)) = (
  fault_by name bytes [] (sym (lines_at_start bytes) ∙ h.end.none) ∙ ap (λ n. Some (n, rules.Header)) (sym (h.end.line ∙ last_at_start bytes)) ∙ ap (λ x. Some (q.line, x)) (sym h.rule),
  within_first bytes q rest h.end.behind.passed h.end.behind.last,
)

-- where the bytes may be told
from_start : (left after : Option (List ℕ)) (P : List ℕ → List ℕ → Type 0) → WhereTold (ahead at_start left) after P → WhereTold left after P
from_start None after P h = tt
from_start (Some x) after P h = h

pub passes : (name : List ℕ) (p q : Place) (left after : Option (List ℕ)) → p ≡ at_start → WhereTold (ahead p left) after (λ t u. HeaderAnswers name p t q u (Ok tt))
    → WhereTold left after (λ t u. PassesHeader name None t q u)
passes name p q left after e h = from_start left after _ (told_map (ahead at_start left) after _ _ (subst (λ o. WhereTold (ahead o left) after (λ t u. HeaderAnswers name o t q u (Ok tt))) e h)
    (λ t u s. header_read name q t u s))

pub passes_broken : (name : List ℕ) (r : Rule) (p q : Place) (left after : Option (List ℕ)) → p ≡ at_start → WhereTold (ahead p left) after (λ t u. HeaderAnswers name p t q u (Err (Syntax r)))
    → WhereTold left after (λ t u. PassesHeader name (Some r) t q u)
passes_broken name r p q left after e h = from_start left after _ (told_map (ahead at_start left) after _ _ (subst (λ o. WhereTold (ahead o left) after (λ t u. HeaderAnswers name o t q u (Err (Syntax r)))) e h)
    (λ t u s. header_broken name r q t u s))
