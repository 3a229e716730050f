-- Bytes that are held back before they go to a sink, and the texts that go through them.
use Rattle.std.specs.Prelude.{◌≡◌, ℕ, ◌≤◌, Bool, List, [], ◌∷◌, ◌++◌, length, codes, decimal, Result, Ok, Err}
use Rattle.std.specs.List.{flat_map}
use Rattle.lits.specs.Word.{literal_text}
use Rattle.lits.specs.Numbering.{file_lit}
use Rattle.std.specs.Io.KnownBytes.{Appends}
use Rattle.std.specs.declared.option.Option.{Option}
use Rattle.outside.specs.Faults.{Rose}
use Rattle.outside.specs.Streams.{AppendsPart, Reopened}
use Rattle.outside.specs.declared.source.Failed.{Failed}
use Rattle.line_writing.specs.declared.writing.Part.{Part}
use Rattle.line_writing.specs.declared.writing.Part.TheVariants as parts

-- the text of a list and the 0 at its end, each word behind a space
abbrev pub list_text : {A : Type 0} → (A → List ℕ) → List A → List ℕ
list_text text items = flat_map (λ x. 32 ∷ text x) items ++ codes " 0"

-- the text of a part, each word behind a space
abbrev pub part_text : Part → List ℕ
part_text (parts.Word w) = 32 ∷ w.now
part_text (parts.Id id) = 32 ∷ decimal id
part_text (parts.Lits ls) = list_text literal_text ls.now
part_text (parts.Numbered d ls) = list_text (λ l. literal_text (file_lit d.now l)) ls.now
part_text (parts.Ids is) = list_text decimal is.now

-- the texts of parts, one after the other
abbrev pub parts_text : List Part → List ℕ
parts_text ps = flat_map part_text ps

-- the bytes of a line of a letter and parts
abbrev pub line_bytes : ℕ → List Part → List ℕ
line_bytes letter ps = letter ∷ (parts_text ps ++ 10 ∷ [])

-- a text went on through what is held back: a first part of both went to the sink, and the rest is held now
pub record Passed {K : Type 0} (written : K → Option (List ℕ)) (finished : K → Option Bool) (faults : K → ℕ) (old new : K) (before now text : List ℕ) : Type 0 where
  pub front : List ℕ
  pub split : before ++ text ≡ front ++ now
  pub bytes : Appends (written old) (written new) front
  pub reopened : Reopened (finished old) (finished new) (length front)
  pub later : faults old ≤ faults new

-- a write failed, after a first part of a text
pub record Failing {K : Type 0} (written : K → Option (List ℕ)) (faults : K → ℕ) (old new : K) (text : List ℕ) : Type 0 where
  pub bytes : AppendsPart (written old) (written new) text
  pub later : faults old ≤ faults new
  pub rose : Rose (faults old) (faults new)

-- what a call that puts a text did, by its answer
abbrev pub Puts : {K : Type 0} → (K → Option (List ℕ)) → (K → Option Bool) → (K → ℕ) → K → K → List ℕ → List ℕ → List ℕ → Result Unit Failed → Type 0
Puts written finished faults old new before now text (Ok done) = Passed written finished faults old new before now text
Puts written finished faults old new before now text (Err failed) = Failing written faults old new (before ++ text)
