use Rattle.std.proofs.Common.{◌≡◌, ◌⊎◌, ℕ, inl, inr, sym, subst}
use Rattle.streams.specs.declared.fault.ScriptFault.{ScriptFault}
use Rattle.streams.specs.declared.fault.ScriptFault.TheVariants.{BadLine, OutOfMemory}
use Rattle.thread_warnings.proofs.warned.read_plan_saying.Goals as goal

abbrev IsOfScript : ScriptFault → Type 0
IsOfScript fault = (fault ≡ OutOfMemory) ⊎ ((line : ℕ) × (fault ≡ BadLine line))

either_is : (result fault : ScriptFault) → (result ≡ fault) ⊎ (result ≡ OutOfMemory) → IsOfScript fault → IsOfScript result
either_is result fault (inl same) is = subst IsOfScript (sym same) is
either_is result fault (inr memory) is = inl memory

pub returns-in-Err-clause-only : goal.returns-in-Err-clause-only
returns-in-Err-clause-only c =
    either_is c.say_bad_lines.result c.in-Err.fault c.say_bad_lines.ensures.fault c.in-Err.ensures.only
