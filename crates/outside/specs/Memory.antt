-- Sources and sinks in memory.
use Rattle.std.specs.Prelude.{◌≡◌, ℕ, ◌-◌, ◌<◌, ◌==◌, min, Bool, true, false, if◌then◌else◌, List, [], ◌∷◌, ◌++◌, length, take, drop, map, Vec, Result, Ok, Err, IfOk, OnErr}
use Rattle.std.specs.List.{list_any}
use Rattle.std.specs.declared.alloc.Global.{Global}
use Rattle.outside.specs.declared.source.Failed.{Failed}
use Rattle.outside.specs.Faults.{one_more}

-- what a source in memory has left, and which of its calls fail
pub record SourceState : Type 0 where
  -- the pieces that are left, none of them empty
  pub pieces : List (List ℕ)
  -- the numbers of the calls that fail
  pub failing : List ℕ
  -- the number of calls
  pub calls : ℕ
  pub faults : ℕ

-- what a sink in memory holds, and which of its calls fail
pub record SinkState : Type 0 where
  pub written : List ℕ
  pub finished : Bool
  -- the number of bytes that can be taken without growth
  pub spare : ℕ
  -- the greatest number of bytes that a write takes
  pub most : ℕ
  pub failing : List ℕ
  pub calls : ℕ
  pub faults : ℕ
  pub memory_faults : ℕ

-- a piece in front of others, if it isn't empty
abbrev pub before_pieces : List ℕ → List (List ℕ) → List (List ℕ)
before_pieces [] pieces = pieces
before_pieces (x ∷ xs) pieces = (x ∷ xs) ∷ pieces

-- the pieces that aren't empty
abbrev pub without_empty : List (List ℕ) → List (List ℕ)
without_empty [] = []
without_empty (p ∷ ps) = before_pieces p (without_empty ps)

-- the first piece, or nothing where there is none
abbrev pub first_piece : List (List ℕ) → List ℕ
first_piece [] = []
first_piece (p ∷ ps) = p

-- the pieces without the first n bytes, which the first piece has
abbrev pub taken_off : ℕ → List (List ℕ) → List (List ℕ)
taken_off n [] = []
taken_off n (p ∷ ps) = before_pieces (drop n p) ps

-- the pieces of a Vec, from the byte `used` of the first on
abbrev pub left_from : ℕ → List (Vec ℕ Global) → List (List ℕ)
left_from used [] = []
left_from used (p ∷ ps) = before_pieces (drop used p.items) (without_empty (map (λ v. v.items) ps))

-- the next call is one of those that fail
abbrev pub is_failing : List ℕ → ℕ → Bool
is_failing failing calls = list_any (λ n. n == one_more calls) failing

-- a read gave the first n bytes of the first piece, and took them off
pub record GaveBytes (old new : SourceState) (buf : List ℕ) (result : Result ℕ Failed) (n : ℕ) : Type 0 where
  pub ok : result ≡ Ok n
  pub bytes : take n buf ≡ take n (first_piece old.pieces)
  pub state : new ≡ record old { pieces = taken_off n old.pieces; calls = one_more old.calls }

-- a read from a source in memory: it fails exactly where its number is listed, and any other gives as much of the
-- first piece as the buffer has room for
pub record Gave (old new : SourceState) (buf : List ℕ) (result : Result ℕ Failed) : Type 0 where
  pub listed : is_failing old.failing old.calls ≡ true → (result ≡ Err (record {})) × (new ≡ record old { calls = one_more old.calls; faults = one_more old.faults })
  pub other : is_failing old.failing old.calls ≡ false → GaveBytes old new buf result (min (length (first_piece old.pieces)) (length buf))

-- a write to a sink in memory
pub record Wrote (old new : SinkState) (piece : List ℕ) (result : Result ℕ Failed) : Type 0 where
  -- it fails where its number is listed
  pub listed : is_failing old.failing old.calls ≡ true → (result ≡ Err (record {})) × (new ≡ record old { calls = one_more old.calls; faults = one_more old.faults })
  -- any other takes as much as it may
  pub ok : IfOk result (λ n. (n ≡ min old.most (length piece)) × (new ≡ record old { written = old.written ++ take n piece; finished = (if n == 0 then old.finished else false); spare = old.spare - n; calls = one_more old.calls }))
  -- or it fails for want of memory, and only where it was to take more than is spare
  pub memory : OnErr result (is_failing old.failing old.calls ≡ false → (old.spare < min old.most (length piece)) × (new ≡ record old { calls = one_more old.calls; faults = one_more old.faults; memory_faults = one_more old.memory_faults }))

-- a finish of a sink in memory: it fails exactly where its number is listed
pub record Finished (old new : SinkState) (result : Result Unit Failed) : Type 0 where
  pub listed : is_failing old.failing old.calls ≡ true → (result ≡ Err (record {})) × (new ≡ record old { calls = one_more old.calls; faults = one_more old.faults })
  pub other : is_failing old.failing old.calls ≡ false → (result ≡ Ok (record {})) × (new ≡ record old { finished = true; calls = one_more old.calls })
