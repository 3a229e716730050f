-- A `&` to a block holds what a `&` to its literals holds.
use Rattle.std.proofs.Common.{sym, subst}
use denote.Array.{Array, Array-row_laws}
use denote.ArrayMemory.{Single}
use denote.Shares.{Shares-less, Shares-Array}
use denote.Param.Shared.{copy_shared}
use denote.Struct.Field.{RawPtr-field, usize-field}
use denote.Struct.Laws.{RawPtr-copy, usize-copy}
use denote.Struct.Lending.{lent_at_shr_laws, Lends-lies, of_Lends}
use Rattle.lits.specs.contracts.Lit.{the_row as Lit}
use Rattle.lits.proofs.Lit.TheLaws.{the_row_laws, the_within}
use Rattle.lit_pool.specs.contracts.block.Block as C
use Rattle.lit_pool.proofs.block.Block.TheLaw.Statement.{statement}

pub shares : statement
shares =
    of_Lends C.struct C.the_codes C.the_heap C.the_lent (λ d p. lent_at_shr_laws (Array Lit d.len) (Array-row_laws Lit the_row_laws.shr_laws d.len) d.at d.items)
    (copy_shared RawPtr-field RawPtr-copy, (copy_shared usize-field usize-copy, tt))
    (λ M 𝓤 𝓛 d p. let l = (C.the_row).lives in
    Lends-lies 𝓛 (Array Lit d.len) l d.at d.items (Shares-Array 𝓛 Lit (subst Single (sym the_row_laws.one) tt) d.len l (Shares-less 𝓛 Lit Lit.lives l (the_within l) (the_row_laws.shares 𝓛)) d.items))
