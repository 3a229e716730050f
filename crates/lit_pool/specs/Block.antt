-- What the parts of a block own and lend.
use Rattle.std.specs.Prelude.{ℕ, List}
use base.Fraction.{full_share}
use base.Fml.{Fml, Lft}
use mir.Syntax.{Ty, ty_array}
use mir.Raw.{raw}
use denote.Memory.{lone}
use denote.Array.{Array}
use denote.RawPtr.{Ptr, lies_at, room_for}
use denote.Struct.Lending.{lent_at}
use Rattle.lits.specs.contracts.Lit.{the_row as Lit}

-- the type of a block for n literals
abbrev pub block_type : ℕ → Ty
block_type n = raw (ty_array (lone Lit.mir) n)

-- room for n literals at p
abbrev pub room_owns : Ptr → ℕ → Fml
room_owns p n = room_for (block_type n) p

-- the literals xs lie at p
abbrev pub block_owns : Ptr → ℕ → List ℕ → Fml
block_owns p n xs = lies_at (Array Lit n) full_share p xs

-- what a `&` to them holds
abbrev pub block_lends : Ptr → ℕ → List ℕ → Lft → Fml
block_lends p n xs = lent_at (Array Lit n) p xs

-- the allocator's token for the block
abbrev pub lease_owns : (Ty → Ptr → Fml) → Ptr → ℕ → Fml
lease_owns token p n = token (block_type n) p
