-- What is printed and said at the end of a run, and its exit status.
use Rattle.std.proofs.Common.{◌≡◌, ◌∙◌, ◌<◌, ℕ, Bool, true, false, List, [], ◌∷◌, Option, Some, None, Result, Ok, Err, length, refl, sym, subst, inl, inr, arith}
use Rattle.std.specs.Prelude.{◌≢◌, ◌↔◌, ◌⊎◌, is_ok, IfErr, IfOk, IfSome, IsErr, IsOk}
use Rattle.std.specs.Process.{exit_status}
use Rattle.std.specs.declared.process.ExitCode.{ExitCode}
use Rattle.std.proofs.KnownBytes.{Appends-nil}
use Rattle.answers.specs.declared.printed.Format.{Format}
use Rattle.answers.specs.declared.printed.Format.TheVariants as formats
use Rattle.streams.specs.Watched.{inner_of}
use Rattle.streams.specs.declared.fault.ScriptFault.{ScriptFault}
use Rattle.streams.specs.declared.fault.ScriptFault.TheVariants as faults
use Rattle.streams.specs.declared.watched.Watched.{Watched}
use Rattle.thread_plans.specs.BadLines.{bad_lines}
use Rattle.thread_scripts.specs.Outputs.{ComesToSaying, PlaysSaying}
use Rattle.commands.specs.Statuses.{HasStatus, OnStatus}
use Rattle.thread_commands.specs.Said.{Ends, Run, SaysOrNothing, TellsWith, heard, is_wrong, status_of}

-- ---- nothing was written

silent : {O E : Type 0} (format : Format) (contents : O → Option (List ℕ)) (old : Watched O) (hears : E → Option (List ℕ))
    (was : Watched E) → TellsWith format contents old old hears was was [] []
silent formats.Lines contents old hears was =
    (Appends-nil (contents (inner_of old)), λ sound. Appends-nil (hears (inner_of was)))
silent formats.Objects contents old hears was =
    (Appends-nil (contents (inner_of old)), λ sound. Appends-nil (hears (inner_of was)))

pub nothing : {O E : Type 0} (format : Format) (contents : O → Option (List ℕ)) (old new : Watched O)
    (hears : E → Option (List ℕ)) (was now : Watched E) → new ≡ old → now ≡ was →
    TellsWith format contents old new hears was now [] []
nothing format contents old new hears was now same quiet =
    subst (λ n. TellsWith format contents old n hears was now [] []) (sym same)
    (subst (λ n. TellsWith format contents old old hears was n [] []) (sym quiet)
    (silent format contents old hears was))

-- ---- the status

pub by_run : {T E : Type 0} (run : Result T E) (status : ℕ) → (status ≡ 0) ↔ IsOk run → (status ≡ 1) ↔ IsErr run →
    status ≡ status_of false (is_ok run)
by_run (Ok x) status done refused = done.1 refl
by_run (Err e) status done refused = refused.1 refl

module _ {E : Type 0} (result : Result ExitCode E) (wrong : Bool) (run : Run) (said : List (List ℕ))
    (fact : List ℕ → List (List ℕ) → Type 0) where
  -- a run ended so, unless what it prints couldn't be written
  abbrev pub EndsOr : Bool → Type 0
  EndsOr failed =
      (failed ≡ false → IfOk result (λ code. Ends wrong run said (exit_status code) fact))
      × (failed ≡ true → HasStatus result 1)

pub refused_at : {E : Type 0} (result : Result ExitCode E) (failed wrong : Bool) (run : Run) (fault : ScriptFault)
    (said : List (List ℕ)) (fact : List ℕ → List (List ℕ) → Type 0) → EndsOr result wrong run said fact failed →
    run ≡ Err fault → wrong ≡ false → HasStatus result 1
refused_at (Err e) failed wrong run fault said fact ends is right = tt
refused_at (Ok code) true wrong run fault said fact ends is right = ends.1 refl
refused_at (Ok code) false wrong run fault said fact ends is right = at (ends.0 refl)
  where
    at : Ends wrong run said (exit_status code) fact → exit_status code ≡ 1
    at (inl e) = subst (λ w. exit_status code ≡ status_of w false) right
        (subst (λ (r : Run). exit_status code ≡ status_of wrong (is_ok r)) is e.0)
    at (inr e) = e.0

pub too_long : {E : Type 0} (result : Result ExitCode E) (failed wrong : Bool) (run : Run) (unread : Type 0)
    (said : List (List ℕ)) (fact : List ℕ → List (List ℕ) → Type 0) (input : Option (List ℕ)) (most : ℕ) →
    EndsOr result wrong run said fact failed →
    ((fault : ScriptFault) → ((line : ℕ) → fault ≢ faults.BadLine line) → run ≡ Err fault → wrong ≡ false) →
    (run ≡ Err faults.ReadFailed) ↔ unread →
    IfSome input (λ bytes. most < length bytes →
    (run ≡ Err faults.TooLong) ⊎ unread ⊎ (run ≡ Err faults.OutOfMemory)) →
    IfSome input (λ bytes. most < length bytes → HasStatus result 1)
too_long result failed wrong run unread said fact None most ends right reads h = tt
too_long result failed wrong run unread said fact (Some bytes) most ends right reads h = λ long. by_fault (h long)
  where
    by_fault : (run ≡ Err faults.TooLong) ⊎ unread ⊎ (run ≡ Err faults.OutOfMemory) → HasStatus result 1
    by_fault (inl is) =
        refused_at result failed wrong run faults.TooLong said fact ends is (right faults.TooLong (λ line e. cc) is)
    by_fault (inr (inl met)) =
        refused_at result failed wrong run faults.ReadFailed said fact ends (reads.1 met)
        (right faults.ReadFailed (λ line e. cc) (reads.1 met))
    by_fault (inr (inr is)) =
        refused_at result failed wrong run faults.OutOfMemory said fact ends is
        (right faults.OutOfMemory (λ line e. cc) is)

-- ---- a run that isn't checked

pub zero_or_one : {E : Type 0} (result : Result ExitCode E) (failed : Bool) (run : Run) (said : List (List ℕ))
    (fact : List ℕ → List (List ℕ) → Type 0) → EndsOr result false run said fact failed →
    IfOk result (λ code. (exit_status code ≡ 0) ⊎ (exit_status code ≡ 1))
zero_or_one (Err e) failed run said fact ends = tt
zero_or_one (Ok code) true run said fact ends = inr (ends.1 refl)
zero_or_one (Ok code) false run said fact ends = at run (ends.0 refl)
  where
    at : (r : Run) → Ends false r said (exit_status code) fact → (exit_status code ≡ 0) ⊎ (exit_status code ≡ 1)
    at (Ok answers) (inl e) = inl e.0
    at (Err fault) (inl e) = inr e.0
    at r (inr e) = inr e.0

ended_well : (run : Run) (format : Format) (quiet : Bool) (said : List (List ℕ)) (input : Option (List ℕ)) (status : ℕ)
    (fact : List ℕ → List (List ℕ) → Type 0) → Ends false run (heard quiet said) status fact →
    IfOk run (λ answers. IfSome input (λ bytes. ComesToSaying format bytes answers.items said)) → status ≡ 0 →
    IfSome input (λ bytes. PlaysSaying format bytes (λ text lines. fact text (heard quiet lines)))
ended_well run format quiet said None status fact ends comes zero = tt
ended_well (Ok answers) format quiet said (Some bytes) status fact (inl e) comes zero = (answers.items, said, comes, e.1)
ended_well (Err fault) format quiet said (Some bytes) status fact (inl e) comes zero =
    absurd (omega (arith, e.0, zero))
ended_well run format quiet said (Some bytes) status fact (inr e) comes zero = absurd (omega (arith, e.0, zero))

-- with status 0 its whole output was written
pub plays : {E : Type 0} (result : Result ExitCode E) (failed : Bool) (run : Run) (format : Format) (quiet : Bool)
    (said : List (List ℕ)) (input : Option (List ℕ)) (fact : List ℕ → List (List ℕ) → Type 0) →
    EndsOr result false run (heard quiet said) fact failed →
    IfOk run (λ answers. IfSome input (λ bytes. ComesToSaying format bytes answers.items said)) →
    OnStatus result 0 (IfSome input (λ bytes. PlaysSaying format bytes (λ text lines. fact text (heard quiet lines))))
plays (Err e) failed run format quiet said input fact ends comes = tt
plays (Ok code) true run format quiet said input fact ends comes =
    λ zero. (let one : exit_status code ≡ 1 = ends.1 refl in absurd (omega (arith, one, zero)))
plays (Ok code) false run format quiet said input fact ends comes =
    ended_well run format quiet said input (exit_status code) fact (ends.0 refl) comes

heard_none : (quiet : Bool) → heard quiet [] ≡ []
heard_none true = refl
heard_none false = refl

-- nothing was said where nothing was, and that stayed
unheard : (fact : List (List ℕ) → Type 0) (quiet : Bool) (said was : List (List ℕ)) → said ≡ was → was ≡ [] →
    fact (heard quiet said) → fact []
unheard fact quiet said was same none h =
    subst fact (heard_none quiet) (subst (λ lines. fact (heard quiet lines)) (same ∙ none) h)

ended_refused : (run : Run) (quiet : Bool) (said was : List (List ℕ)) (input : Option (List ℕ)) (status : ℕ)
    (fact : List ℕ → List (List ℕ) → Type 0) → Ends false run (heard quiet said) status fact → was ≡ [] →
    ((line : ℕ) → run ≡ Err (faults.BadLine line) → IfSome input (λ bytes. said ≡ bad_lines bytes)) →
    IfErr run (λ fault. ((line : ℕ) → fault ≢ faults.BadLine line) → said ≡ was) → status ≡ 1 →
    IfSome input (λ bytes. SaysOrNothing (fact []) (heard quiet (bad_lines bytes)))
ended_refused run quiet said was None status fact ends none bad other one = tt
ended_refused run quiet said was (Some bytes) status fact (inr e) none bad other one = inr e.1
ended_refused (Ok answers) quiet said was (Some bytes) status fact (inl e) none bad other one =
    absurd (omega (arith, e.0, one))
ended_refused (Err (faults.BadLine line)) quiet said was (Some bytes) status fact (inl e) none bad other one =
    inl (subst (λ lines. fact [] (heard quiet lines)) (bad line refl) e.1)
ended_refused (Err faults.TooLong) quiet said was (Some bytes) status fact (inl e) none bad other one =
    inr (unheard (fact []) quiet said was (other (λ line e. cc)) none e.1)
ended_refused (Err faults.ReadFailed) quiet said was (Some bytes) status fact (inl e) none bad other one =
    inr (unheard (fact []) quiet said was (other (λ line e. cc)) none e.1)
ended_refused (Err faults.WriteFailed) quiet said was (Some bytes) status fact (inl e) none bad other one =
    inr (unheard (fact []) quiet said was (other (λ line e. cc)) none e.1)
ended_refused (Err faults.OutOfMemory) quiet said was (Some bytes) status fact (inl e) none bad other one =
    inr (unheard (fact []) quiet said was (other (λ line e. cc)) none e.1)

-- with status 1 what was wanted of its bad lines was said, or nothing
pub refused : {E : Type 0} (result : Result ExitCode E) (failed : Bool) (run : Run) (quiet : Bool)
    (said was : List (List ℕ)) (input : Option (List ℕ)) (fact : List ℕ → List (List ℕ) → Type 0) →
    EndsOr result false run (heard quiet said) fact failed → was ≡ [] →
    ((line : ℕ) → run ≡ Err (faults.BadLine line) → IfSome input (λ bytes. said ≡ bad_lines bytes)) →
    IfErr run (λ fault. ((line : ℕ) → fault ≢ faults.BadLine line) → said ≡ was) → failed ≡ false →
    OnStatus result 1 (IfSome input (λ bytes. SaysOrNothing (fact []) (heard quiet (bad_lines bytes))))
refused (Err e) failed run quiet said was input fact ends none bad other sound = tt
refused (Ok code) failed run quiet said was input fact ends none bad other sound =
    ended_refused run quiet said was input (exit_status code) fact (ends.0 sound) none bad other
