use Rattle.outside.proofs.Pieces.{concat-left_from}
use Rattle.outside.proofs.memory_source.MemorySource.new.Goals as goal

pub returns-clause-bytes : goal.returns-clause-bytes
returns-clause-bytes c = concat-left_from c.args.pieces.items
