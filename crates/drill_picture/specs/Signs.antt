-- What a call is drawn as, which is a matter of what it was answered.
use Rattle.std.specs.Prelude.{Bool, true, false, List, ℕ, codes}
use Rattle.actions.specs.Value.{TaskValue, off, «return», sleep, panic, print, pause, yield, delay}
use Rattle.node_calls.specs.Told.{Passed, Unset, NoTerm, Act, ReplyTold, was_set, was_removed, was_loaded, was_passed, was_shifted, was_granted, was_emitted, was_delivered}
use Rattle.drill_picture.specs.declared.sign.Sign.{Sign}
use Rattle.drill_picture.specs.declared.sign.Sign.TheVariants as signs

abbrev pub sign_of_task : TaskValue → Sign
sign_of_task off = signs.Off
sign_of_task («return» text) = signs.Return
sign_of_task (sleep time) = signs.Sleep
sign_of_task (panic text) = signs.Panic
sign_of_task (print text) = signs.Print
sign_of_task pause = signs.Pause
sign_of_task yield = signs.Yield
sign_of_task (delay time) = signs.Delay

abbrev pub sign_of_pass : Passed → Sign
sign_of_pass Unset = signs.Unset
sign_of_pass (NoTerm stamp) = signs.NoTerm
sign_of_pass (Act stamp term task) = sign_of_task task

abbrev pub sign_of_delivery : Bool → Sign
sign_of_delivery true = signs.News
sign_of_delivery false = signs.Same

abbrev pub sign_of : ReplyTold → Sign
sign_of (was_set stamp) = signs.Set
sign_of (was_removed stamp) = signs.Removed
sign_of (was_loaded entries) = signs.Loaded
sign_of (was_passed outcome) = sign_of_pass outcome
sign_of (was_shifted total) = signs.Sent
sign_of (was_granted total) = signs.Granted
sign_of (was_emitted bytes) = signs.Emitted
sign_of (was_delivered changed) = sign_of_delivery changed

-- the word for it, which also names its shape
abbrev pub sign_word : Sign → List ℕ
sign_word signs.Set = codes "set"
sign_word signs.Removed = codes "removed"
sign_word signs.Loaded = codes "loaded"
sign_word signs.Unset = codes "unset"
sign_word signs.NoTerm = codes "none"
sign_word signs.Off = codes "off"
sign_word signs.Return = codes "return"
sign_word signs.Sleep = codes "sleep"
sign_word signs.Panic = codes "panic"
sign_word signs.Print = codes "print"
sign_word signs.Pause = codes "pause"
sign_word signs.Yield = codes "yield"
sign_word signs.Delay = codes "delay"
sign_word signs.Sent = codes "sent"
sign_word signs.Granted = codes "granted"
sign_word signs.Emitted = codes "emitted"
sign_word signs.News = codes "news"
sign_word signs.Same = codes "same"

-- whether a term ran
abbrev pub is_run : Sign → Bool
is_run signs.Off = true
is_run signs.Return = true
is_run signs.Sleep = true
is_run signs.Panic = true
is_run signs.Print = true
is_run signs.Pause = true
is_run signs.Yield = true
is_run signs.Delay = true
is_run _ = false
