use Rattle.lits.proofs.Front.{id_at, id_front_is}
use Rattle.lits.proofs.reading.front_id.Goals as goal

pub returns-in-Some-clause-some : goal.returns-in-Some-clause-some
returns-in-Some-clause-some c = id_at c.args.bytes.now c.in-Some.count c.in-Some.id c.in-Some.ensures.some

pub returns-in-None-clause-none : goal.returns-in-None-clause-none
returns-in-None-clause-none c = λ n id few f e. c.in-None.ensures.none n id (id_front_is c.args.bytes.now n id f few e)
