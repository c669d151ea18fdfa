-- What a run of a script of threads that is checked comes to and says, by how the program ends.
use Rattle.std.proofs.Common.{◌≡◌, ◌∙◌, ◌==◌, ℕ, Bool, length, true, false, List, [], ◌∷◌, Option, Some, None, Result, Ok, Err, refl, sym, subst, inl, inr, arith}
use Rattle.std.specs.Prelude.{◌≢◌, ◌⊎◌, is_ok, not, IfErr, IfOk, IfSome}
use Rattle.std.proofs.lemmas.Bool.Decides.{eqb_tells}
use Rattle.std.specs.Process.{exit_status}
use Rattle.std.specs.declared.process.ExitCode.{ExitCode}
use Rattle.answers.specs.declared.printed.Format.{Format}
use Rattle.streams.specs.declared.fault.ScriptFault.{ScriptFault}
use Rattle.streams.specs.declared.fault.ScriptFault.TheVariants as faults
use Rattle.thread_plans.specs.BadLines.{bad_lines}
use Rattle.thread_checks.specs.Checked.{plain_text}
use Rattle.commands.specs.Statuses.{HasStatus, OnStatus}
use Rattle.thread_commands.specs.Checked.{ChecksSaying, ChecksTo, FailsSaying}
use Rattle.thread_commands.specs.Said.{Ends, Run, is_wrong, status_of}
use Rattle.thread_commands.proofs.Ended.{EndsOr}

-- a run that is refused otherwise than for a bad line isn't wrong, since nothing is said of it
pub right_at : (run : Run) (said was : List (List ℕ)) → was ≡ [] →
    IfErr run (λ f. ((line : ℕ) → f ≢ faults.BadLine line) → said ≡ was) → (fault : ScriptFault) →
    ((line : ℕ) → fault ≢ faults.BadLine line) → run ≡ Err fault → is_wrong true said ≡ false
right_at run said was none unsaid fault other is =
    let same = subst (λ (r : Run). IfErr r (λ f. ((line : ℕ) → f ≢ faults.BadLine line) → said ≡ was)) is unsaid other in
    subst (λ lines. is_wrong true lines ≡ false) (sym (same ∙ none)) refl

pub zero_one_or_three : {E : Type 0} (result : Result ExitCode E) (failed wrong : Bool) (run : Run)
    (said : List (List ℕ)) (fact : List ℕ → List (List ℕ) → Type 0) → EndsOr result wrong run said fact failed →
    IfOk result (λ code. (exit_status code ≡ 0) ⊎ (exit_status code ≡ 1) ⊎ (exit_status code ≡ 3))
zero_one_or_three (Err e) failed wrong run said fact ends = tt
zero_one_or_three (Ok code) true wrong run said fact ends = inr (inl (ends.1 refl))
zero_one_or_three (Ok code) false wrong run said fact ends = at wrong run (ends.0 refl)
  where
    at : (w : Bool) (r : Run) → Ends w r said (exit_status code) fact →
        (exit_status code ≡ 0) ⊎ (exit_status code ≡ 1) ⊎ (exit_status code ≡ 3)
    at true r (inl e) = inr (inr e.0)
    at false (Ok answers) (inl e) = inl e.0
    at false (Err fault) (inl e) = inr (inl e.0)
    at w r (inr e) = inr (inl e.0)

not_none : (line : List ℕ) (lines : List (List ℕ)) → (length (line ∷ lines) == 0) ≡ false
not_none line lines = elim (eqb_tells (length (line ∷ lines)) 0) [
  | inl e ↦ absurd (omega (arith, e.1))
  | inr e ↦ e.0
]

-- with status 0 nothing was said
ended_well : (run : Run) (format : Format) (said : List (List ℕ)) (input : Option (List ℕ)) (status : ℕ)
    (fact : List ℕ → List (List ℕ) → Type 0) → Ends (is_wrong true said) run said status fact →
    IfOk run (λ answers. IfSome input (λ bytes. ChecksTo format bytes answers.items said)) → status ≡ 0 →
    IfSome input (λ bytes. ChecksSaying format bytes (λ text failed. (failed ≡ []) × fact text failed))
ended_well run format said None status fact ends checks zero = tt
ended_well (Ok answers) format [] (Some bytes) status fact (inl e) checks zero =
    (checks.0, checks.1, checks.2, answers.items, [], checks.3, (refl, e.1))
ended_well (Err fault) format [] (Some bytes) status fact (inl e) checks zero = absurd (omega (arith, e.0, zero))
ended_well run format (line ∷ lines) (Some bytes) status fact (inl e) checks zero =
    let three : status ≡ 3 =
    subst (λ (empty : Bool). status ≡ status_of (not empty) (is_ok run)) (not_none line lines) e.0 in
    absurd (omega (arith, three, zero))
ended_well run format said (Some bytes) status fact (inr e) checks zero = absurd (omega (arith, e.0, zero))

pub silent_where_good : {E : Type 0} (result : Result ExitCode E) (failed : Bool) (run : Run) (format : Format)
    (said : List (List ℕ)) (input : Option (List ℕ)) (fact : List ℕ → List (List ℕ) → Type 0) →
    EndsOr result (is_wrong true said) run said fact failed →
    IfOk run (λ answers. IfSome input (λ bytes. ChecksTo format bytes answers.items said)) →
    OnStatus result 0 (IfSome input (λ bytes. ChecksSaying format bytes (λ text failed. (failed ≡ []) × fact text failed)))
silent_where_good (Err e) failed run format said input fact ends checks = tt
silent_where_good (Ok code) true run format said input fact ends checks =
    λ zero. (let one : exit_status code ≡ 1 = ends.1 refl in absurd (omega (arith, one, zero)))
silent_where_good (Ok code) false run format said input fact ends checks =
    ended_well run format said input (exit_status code) fact (ends.0 refl) checks

-- with status 3 something was
ended_wrong : (run : Run) (format : Format) (said was : List (List ℕ)) (input : Option (List ℕ)) (status : ℕ)
    (fact : List ℕ → List (List ℕ) → Type 0) → Ends (is_wrong true said) run said status fact →
    IfOk run (λ answers. IfSome input (λ bytes. ChecksTo format bytes answers.items said)) → was ≡ [] →
    ((line : ℕ) → run ≡ Err (faults.BadLine line) → IfSome input (λ bytes. said ≡ bad_lines (plain_text bytes))) →
    IfErr run (λ fault. ((line : ℕ) → fault ≢ faults.BadLine line) → said ≡ was) → status ≡ 3 →
    IfSome input (λ bytes. FailsSaying format bytes fact)
ended_wrong run format said was None status fact ends checks none bad other three = tt
ended_wrong run format said was (Some bytes) status fact (inr e) checks none bad other three =
    absurd (omega (arith, e.0, three))
ended_wrong (Ok answers) format [] was (Some bytes) status fact (inl e) checks none bad other three =
    absurd (omega (arith, e.0, three))
ended_wrong (Err fault) format [] was (Some bytes) status fact (inl e) checks none bad other three =
    absurd (omega (arith, e.0, three))
ended_wrong (Ok answers) format (line ∷ lines) was (Some bytes) status fact (inl e) checks none bad other three =
    inl (checks.0, checks.1, checks.2, answers.items, line ∷ lines, checks.3, (λ same. cc, e.1))
ended_wrong (Err (faults.BadLine n)) format (line ∷ lines) was (Some bytes) status fact (inl e) checks none bad other
    three =
    let same = bad n refl in
    inr (subst (λ said. (said ≢ []) × fact [] said) same (λ none. cc, e.1))
ended_wrong (Err faults.TooLong) format (line ∷ lines) was (Some bytes) status fact (inl e) checks none bad other three =
    let never : line ∷ lines ≡ [] = other (λ n e. cc) ∙ none in absurd cc
ended_wrong (Err faults.ReadFailed) format (line ∷ lines) was (Some bytes) status fact (inl e) checks none bad other
    three =
    let never : line ∷ lines ≡ [] = other (λ n e. cc) ∙ none in absurd cc
ended_wrong (Err faults.WriteFailed) format (line ∷ lines) was (Some bytes) status fact (inl e) checks none bad other
    three =
    let never : line ∷ lines ≡ [] = other (λ n e. cc) ∙ none in absurd cc
ended_wrong (Err faults.OutOfMemory) format (line ∷ lines) was (Some bytes) status fact (inl e) checks none bad other
    three =
    let never : line ∷ lines ≡ [] = other (λ n e. cc) ∙ none in absurd cc

pub fails : {E : Type 0} (result : Result ExitCode E) (failed : Bool) (run : Run) (format : Format)
    (said was : List (List ℕ)) (input : Option (List ℕ)) (fact : List ℕ → List (List ℕ) → Type 0) →
    EndsOr result (is_wrong true said) run said fact failed →
    IfOk run (λ answers. IfSome input (λ bytes. ChecksTo format bytes answers.items said)) → was ≡ [] →
    ((line : ℕ) → run ≡ Err (faults.BadLine line) → IfSome input (λ bytes. said ≡ bad_lines (plain_text bytes))) →
    IfErr run (λ fault. ((line : ℕ) → fault ≢ faults.BadLine line) → said ≡ was) →
    OnStatus result 3 (IfSome input (λ bytes. FailsSaying format bytes fact))
fails (Err e) failed run format said was input fact ends checks none bad other = tt
fails (Ok code) true run format said was input fact ends checks none bad other =
    λ three. (let one : exit_status code ≡ 1 = ends.1 refl in absurd (omega (arith, one, three)))
fails (Ok code) false run format said was input fact ends checks none bad other =
    ended_wrong run format said was input (exit_status code) fact (ends.0 refl) checks none bad other
