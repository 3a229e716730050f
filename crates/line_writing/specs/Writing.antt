-- What a line is made of, and how a text and a line are written.
use Rattle.std.specs.Prelude.{◌≡◌, ℕ, ◌+◌, ◌<◌, ◌≤◌, Bool, List, [], ◌∷◌, ◌++◌, length, decimal, Result, Ok, Err}
use Rattle.std.specs.Io.KnownBytes.{Appends}
use Rattle.std.specs.declared.option.Option.{Option}
use Rattle.outside.specs.Faults.{Rose}
use Rattle.outside.specs.Streams.{AppendsPart, Reopened}
use Rattle.lits.specs.Numbering.{file_lits}
use Rattle.session_rules.specs.Spelling.{literal_words, id_words}
use Rattle.session_rules.specs.declared.WriteFault.{WriteFault}
use Rattle.session_rules.specs.declared.WriteFault.TheVariants as answers
use Rattle.line_writing.specs.declared.writing.Part.{Part}
use Rattle.line_writing.specs.declared.writing.Part.TheVariants as parts

-- the words of a part
abbrev pub part_words : Part → List (List ℕ)
part_words (parts.Word w) = w.now ∷ []
part_words (parts.Id id) = decimal id ∷ []
part_words (parts.Lits ls) = literal_words ls.now
part_words (parts.Numbered d ls) = literal_words (file_lits d.now ls.now)
part_words (parts.Ids is) = id_words is.now

-- the words of parts, one part after the other
abbrev pub parts_words : List Part → List (List ℕ)
parts_words [] = []
parts_words (p ∷ []) = part_words p
parts_words (p ∷ q ∷ ps) = part_words p ++ parts_words (q ∷ ps)

-- the words of a line: its letter, and those of its parts
abbrev pub line_words : ℕ → List Part → List (List ℕ)
line_words letter ps = (letter ∷ []) ∷ parts_words ps

-- what contracts see of a sink with the room that is left for its text: the bytes that were written and whether it is
-- finished, where it tells them, and how often it has failed
pub record Writer (K : Type 0) : Type 0 where
  pub sink : K
  pub written : Option (List ℕ)
  pub finished : Option Bool
  pub faults : ℕ
  pub room : ℕ

-- a sink, of which these are the bytes, the end and the count of faults, with this room
abbrev pub writer : {K : Type 0} → (K → Option (List ℕ)) → (K → Option Bool) → (K → ℕ) → K → ℕ → Writer K
writer written finished faults sink room =
    record { sink = sink; written = written sink; finished = finished sink; faults = faults sink; room = room }

-- a text was written whole, and the room fell by its length
pub record Wrote {K : Type 0} (text : List ℕ) (old new : Writer K) : Type 0 where
  pub bytes : Appends old.written new.written text
  pub reopened : Reopened old.finished new.finished (length text)
  pub later : old.faults ≤ new.faults
  pub taken : old.room ≡ new.room + length text

-- a write failed within a text: a first part was written, and the room fell by at most the text's length
pub record BrokeOff {K : Type 0} (text : List ℕ) (old new : Writer K) : Type 0 where
  pub bytes : AppendsPart old.written new.written text
  pub rose : Rose old.faults new.faults
  pub later : old.faults ≤ new.faults
  pub fell : new.room ≤ old.room
  pub bounded : old.room ≤ new.room + length text

-- a write failed within a line that the room had space for, and the room stayed
pub record FailedLine {K : Type 0} (line : List ℕ) (old new : Writer K) : Type 0 where
  pub broke : BrokeOff line old new
  pub fits : length line ≤ old.room
  pub kept : new.room ≡ old.room

-- a line was longer than the room, and nothing changed
pub record RefusedLine {K : Type 0} (line : List ℕ) (old new : Writer K) : Type 0 where
  pub longer : old.room < length line
  pub same : new.sink ≡ old.sink
  pub kept : new.room ≡ old.room

-- what a call that writes a line did, by its answer
abbrev pub WritesLine : {K : Type 0} → List ℕ → Writer K → Writer K → Result Unit WriteFault → Type 0
WritesLine line old new (Ok done) = Wrote line old new
WritesLine line old new (Err answers.Write) = FailedLine line old new
WritesLine line old new (Err answers.Exhausted) = RefusedLine line old new
