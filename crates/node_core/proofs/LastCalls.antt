-- The last call of a trace, where a call is put behind.
use Rattle.std.specs.Prelude.{◌≡◌, ◌<◌, ◌≤◌, ◌+◌, ◌-◌, ℕ, false, nat_lt, cond, ◌++◌, List, [], ◌∷◌, length, slice_get, Some, None}
use Rattle.std.proofs.Common.{◌∙◌, ap, arith, le-ltb, refl}
use Rattle.std.proofs.lemmas.List.{length_push, get_or_push}
use Rattle.std.proofs.lemmas.Option.{slice_get-get_or}
use Rattle.node_calls.specs.Asks.{Asked, Call}
use Rattle.node_core.specs.Lasts.{last_call, last_kept}
use Rattle.node_core.specs.Traces.{Kept, after_call, entry_for}

last_of-push : (calls : List Call) (call : Call) → last_call (calls ++ call ∷ []) ≡ Some call
last_of-push calls call =
    let long : length (calls ++ call ∷ []) ≡ length calls + 1 = length_push calls call in
    let place : length (calls ++ call ∷ []) - 1 ≡ length calls = omega (arith, long) in
    let lt : length calls < length (calls ++ call ∷ []) = omega (arith, long) in
    ap (λ (k : ℕ). slice_get (calls ++ call ∷ []) k) place ∙
    slice_get-get_or (calls ++ call ∷ []) (length calls) call lt ∙
    ap Some (get_or_push calls call call (length calls) refl)

-- it is kept
pub last_after : (k new : Kept) (ask : Asked) (words : List ℕ) → k.from ≤ length k.trace →
    new ≡ after_call k ask words → last_kept new ≡ Some (entry_for k ask words)
last_after k new ask words within e =
    let long : length (k.trace ++ entry_for k ask words ∷ []) ≡ length k.trace + 1 =
    length_push k.trace (entry_for k ask words) in
    let kept : nat_lt (length (k.trace ++ entry_for k ask words ∷ []) - 1) k.from ≡ false =
    le-ltb (length (k.trace ++ entry_for k ask words ∷ []) - 1) k.from (omega (arith, long, within)) in
    ap last_kept e
    ∙ ap (λ gone. cond gone None (last_call (k.trace ++ entry_for k ask words ∷ []))) kept
    ∙ last_of-push k.trace (entry_for k ask words)
