-- What waits for so long, where there is the memory for it.
use Rattle.std.proofs.Common.{Result, Ok, Err, IfOk, IfSome}
use Rattle.std.specs.Result.{result_ok}

pub if_there : {T E : Type 0} (r : Result T E) (P : T → Type 0) → IfOk r P → IfSome (result_ok r) P
if_there (Ok x) P h = h
if_there (Err e) P h = tt
