-- What holds of the value of a success.
use Rattle.std.proofs.Common.{Result, Ok, Err, IfOk}

pub more_ok : {T E : Type 0} (r : Result T E) (P Q : T → Type 0) → ((x : T) → P x → Q x) → IfOk r P → IfOk r Q
more_ok (Ok x) P Q f h = f x h
more_ok (Err e) P Q f h = tt
