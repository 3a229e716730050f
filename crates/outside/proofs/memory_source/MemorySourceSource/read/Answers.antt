use Rattle.std.proofs.Common.{◌≡◌, drop, ap, arith}
use Rattle.std.specs.List.{concat}
use Rattle.outside.specs.Memory.{left_from}
use Rattle.outside.proofs.Pieces.{concat_gave}
use Rattle.outside.proofs.memory_source.MemorySourceSource.read.Goals as goal

pub returns-clause-bytes : goal.returns-clause-bytes
returns-clause-bytes c =
    let n = c.copy_piece.result in
    let old : left_from c.self.inside.used (drop c.self.inside.next c.self.inside.pieces.items) ≡ c.args.self.now.pieces = ap (λ s. s.pieces) c.self.view_is in
    rw (← old) (
      concat_gave _ _ _ n (rw c.deref-2.ensures.value at c.copy_piece.ensures.copied) (rw c.deref-2.ensures.value at c.copy_piece.ensures.pieces),
      λ none room. ap concat (rw c.deref-2.ensures.value at (c.copy_piece.ensures.end none (omega arith))),
    )
