-- Where a stream is longer than the bound, the last of its lines is the one that the bound cuts; so a line that isn't cut isn't
-- the last.
use Rattle.std.proofs.Common.{◌≡◌, ℕ, ◌+◌, Bool, true, false, nat_lt, List, [], ◌∷◌, ◌++◌, filter, length, take, Ok, Err, refl, sym, ◌∙◌, subst, inl, inr, if◌then◌else◌}
use Rattle.std.proofs.lemmas.Bool.{cases_Bool}
use Rattle.std.specs.List.{slice_split, onto_first}
use Rattle.std.specs.declared.result.Result.{Result}
use Rattle.session_rules.specs.declared.Rule.{Rule}
use Rattle.session_rules.specs.Lines.{Line, lines, lines_within, all_lines, numbered, counts, line_of, is_line_feed, most_bytes, judged_words}
use Rattle.session_rules.specs.declared.Event.{Event}
use Rattle.icnf_lines.specs.Matching.{IsGood, AreGood}
use Rattle.std.proofs.lemmas.List.Elements.{All-head, All-tail}
use Rattle.session_rules.specs.Reading.{Fault, wrong, missing, of_cut_line, of_whole_line, value_of, icnf_line}
use Rattle.slice_tokens.specs.Place.{Place, at_start, later, lines_behind, following, is_cut}
use Rattle.line_reading.specs.Whole.{BehindCut}
use Rattle.pair_matcher.specs.Checks.{EndsCut, CutComes}

ends_cut-cons : (x : Line) (xs : List Line) → EndsCut xs → EndsCut (x ∷ xs)
ends_cut-cons x [] h = absurd h
ends_cut-cons x (y ∷ ys) h = h

ends_cut-if : (b : Bool) (x : Line) (xs : List Line) → EndsCut xs → EndsCut (if b then x ∷ xs else xs)
ends_cut-if true x xs h = ends_cut-cons x xs h
ends_cut-if false x xs h = h

numbered_ends : (n : ℕ) (text : List ℕ) (texts : List (List ℕ)) → EndsCut (filter counts (numbered n true (text ∷ texts)))
unfolding numbered
numbered_ends n text [] = refl
numbered_ends n text (next ∷ more) = ends_cut-if (counts (line_of n false text)) (line_of n false text) (filter counts (numbered (n + 1) true (next ∷ more))) (numbered_ends (n + 1) next more)

texts_end : (n : ℕ) (texts : List (List ℕ)) (c : Bool) → c ≡ true → (texts ≡ [] → ⊥) → EndsCut (filter counts (numbered n c texts))
texts_end n [] c e some = absurd (some refl)
texts_end n (text ∷ texts) c e some = rw e (numbered_ends n text texts)

onto_some : {X : Type 0} (x : X) (ts : List (List X)) → onto_first x ts ≡ [] → ⊥
onto_some x [] e = cc e
onto_some x (t ∷ ts) e = cc e

split_some : {X : Type 0} (p : X → Bool) (xs : List X) → slice_split p xs ≡ [] → ⊥
split_some p [] e = cc e
split_some p (x ∷ xs) e = elim (cases_Bool (p x)) [
  | inl q ↦ let f : ([] ∷ slice_split p xs) ≡ [] = rw q at e in cc f
  | inr q ↦ let f : onto_first x (slice_split p xs) ≡ [] = rw q at e in onto_some x (slice_split p xs) f
]

lines_end : (bytes : List ℕ) → nat_lt most_bytes (length bytes) ≡ true → EndsCut (lines bytes)
unfolding lines lines_within all_lines
lines_end bytes e = texts_end 1 (slice_split is_line_feed (take most_bytes bytes)) (nat_lt most_bytes (length bytes)) e (split_some is_line_feed (take most_bytes bytes))

-- before the first line
pub cut_at_start : (bytes : List ℕ) → CutComes at_start bytes
unfolding later lines_behind following is_cut lines lines_within
cut_at_start bytes = record { comes = λ e. lines_end bytes e }

-- no line comes only where none is cut
pub not_behind_cut : (r : Rule) (place new : Place) (bytes rest : List ℕ) → CutComes place bytes → BehindCut r place bytes new rest → ⊥
not_behind_cut r place new bytes rest cut b = subst EndsCut b.lines (cut.comes b.cut)

cut_says : {A : Type 0} (o : Result A Fault) (x : A) → of_cut_line o ≡ Ok x → ⊥
cut_says (Ok y) x e = cc e
cut_says (Err (wrong r)) x e = cc e
cut_says (Err (missing r)) x e = cc e

-- a line that says a value isn't cut
uncut : {A : Type 0} (read : List (List ℕ) → Result A Fault) (line : Line) (x : A) → value_of read line ≡ Ok x → line.cut ≡ false
uncut read line x = by_cut line.cut refl
  where
    by_cut : (c : Bool) → line.cut ≡ c → (if c then of_cut_line (read (judged_words line)) else of_whole_line (read line.words)) ≡ Ok x → line.cut ≡ false
    by_cut true e h = absurd (cut_says (read (judged_words line)) x h)
    by_cut false e h = e

ends_cut-rest : (line : Line) (more : List Line) → line.cut ≡ false → EndsCut (line ∷ more) → EndsCut more
ends_cut-rest line [] e h = let f : true ≡ false = sym h ∙ e in cc f
ends_cut-rest line (next ∷ more) e h = h

-- behind a line that says a value the cut line is still to come
pub cut_behind : {A : Type 0} (read : List (List ℕ) → Result A Fault) (line : Line) (x : A) (p q : Place) (t u : List ℕ) → later p t ≡ line ∷ later q u → value_of read line ≡ Ok x
    → is_cut q u ≡ is_cut p t → CutComes p t → CutComes q u
cut_behind read line x p q t u e v same cut = record { comes = λ c. ends_cut-rest line (later q u) (uncut read line x v) (subst EndsCut e (cut.comes (sym same ∙ c))) }

-- lines that agree say events, so none of them is cut, and the line that the bound cuts is still to come behind them
pub cut_behind_good : (e : Event) (qs : List ℕ) (good rest : List Line) → AreGood e qs good → EndsCut (good ++ rest) → EndsCut rest
cut_behind_good e qs [] rest h c = c
cut_behind_good e qs (line ∷ good) rest h c = let first = All-head (IsGood e qs) line good h in
    cut_behind_good e qs good rest (All-tail (IsGood e qs) line good h) (ends_cut-rest line (good ++ rest) (uncut icnf_line line first.partner first.value) c)
