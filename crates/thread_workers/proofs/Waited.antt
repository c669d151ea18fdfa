-- What nodes know of what is waited for.
use Rattle.std.proofs.Common.{◌≡◌, ◌∙◌, ℕ, ◌+◌, ◌<◌, Bool, true, false, List, [], ◌∷◌, ◌++◌, length, Option, Some, None, ap, arith, refl, subst, suc, sym, take}
use Rattle.std.specs.Prelude.{◌==◌, slice_get, slice_index_or}
use Rattle.std.proofs.Math.Seq.{take-suc}
use Rattle.node_steps.specs.declared.config.Config.{Config}
use Rattle.node_calls.specs.declared.receipt.Receipt.{Receipt}
use Rattle.thread_workers.specs.declared.waits.Await.{Await}
use Rattle.thread_workers.specs.Waits.{AreWaited, IsEnded, IsSeen, IsSeenAt, IsWaited, next_wait}

abbrev or_wait : Await → Option Await → Await
or_wait wait None = wait
or_wait wait (Some other) = other

-- a look at a place is one for the wait there
pub seen_of : (config : Config) (seed : List ℕ) (waits : List Await) (place calls : ℕ) (known : Bool) (wait : Await)
    → IsSeenAt config seed waits place calls known → slice_get waits place ≡ Some wait → IsSeen config seed calls wait known
seen_of config seed waits place calls known wait seen here =
    subst (λ w. IsSeen config seed calls w known) (ap (or_wait wait) (sym seen.1 ∙ here)) seen.2

-- a wait of another node, one that wasn't in vain, and one that was
pub of_other : (config : Config) (seed : List ℕ) (receipts : List Receipt) (wait : Await)
    → (wait.node == config.node) ≡ false → IsWaited config seed receipts wait []
of_other config seed receipts wait other = rw other refl

pub not_in_vain : (config : Config) (seed : List ℕ) (receipts : List Receipt) (wait : Await)
    → (wait.node == config.node) ≡ true → IsEnded config seed receipts wait true → IsWaited config seed receipts wait []
not_in_vain config seed receipts wait own ended = rw own (true, ended, refl)

pub in_vain : (config : Config) (seed : List ℕ) (receipts : List Receipt) (wait : Await)
    → (wait.node == config.node) ≡ true → IsEnded config seed receipts wait false
    → IsWaited config seed receipts wait (wait.line ∷ [])
in_vain config seed receipts wait own ended = rw own (false, ended, refl)

-- the first waits, and one more
pub waited_more : (config : Config) (seed : List ℕ) (receipts : List Receipt) (waits : List Await) (place : ℕ)
    (wait : Await) (vain more now : List ℕ) → place < length waits → slice_index_or waits place wait ≡ wait
    → AreWaited config seed receipts (take place waits) vain → IsWaited config seed receipts wait more
    → now ≡ vain ++ more → AreWaited config seed receipts (take (place + 1) waits) now
waited_more config seed receipts waits place wait vain more now below is so_far this then =
    let one : suc place ≡ place + 1 = omega arith in
    let longer : take (suc place) waits ≡ take place waits ++ wait ∷ [] =
    take-suc waits place wait below ∙ ap (λ w. take place waits ++ w ∷ []) is in
    subst (λ k. AreWaited config seed receipts (take k waits) now) one
    (subst (λ ws. AreWaited config seed receipts ws now) (sym longer)
    (subst (λ lines. AreWaited config seed receipts (take place waits ++ wait ∷ []) lines) (sym then)
    (next_wait wait more so_far this)))
