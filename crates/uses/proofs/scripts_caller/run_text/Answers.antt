use Rattle.std.proofs.Common.{◌≡◌, ap, ◌∙◌, Option, Some, None, Result, Ok, Err}
use Rattle.std.specs.Prelude.{IfSome, OnOk}
use Rattle.streams.specs.Fields.{lines_of}
use Rattle.streams.specs.Watched.{inner_of}
use Rattle.scripts.specs.Schedules.{run_in}
use Rattle.uses.proofs.scripts_caller.run_text.Goals as goal

on_ok : {T E : Type 0} {P Q : Type 0} (r : Result T E) → (P → Q) → OnOk r P → OnOk r Q
on_ok (Ok x) f h = f h
on_ok (Err e) f h = tt

if_some : {A : Type 0} {P Q : A → Type 0} (o : Option A) → ((x : A) → P x → Q x) → IfSome o P → IfSome o Q
if_some None f h = tt
if_some (Some x) f h = f x h

pub returns-clause-text : goal.returns-clause-text
returns-clause-text g c =
    let read : (inner_of c.new-reader.result).now ≡ c.args.script.now = ap (λ s. s.now) c.new-reader.ensures.inner ∙
    c.as_bytes.ensures.value in
    rw (← read) c.run_script.ensures.ok

pub returns-clause-bounded : goal.returns-clause-bounded
returns-clause-bounded g c =
    let read : (inner_of c.new-reader.result).now ≡ c.args.script.now = ap (λ s. s.now) c.new-reader.ensures.inner ∙
    c.as_bytes.ensures.value in
    rw (← read) (on_ok c.run_script.result (if_some (run_in (lines_of (inner_of c.new-reader.result).now))
    c.script_is_schedule.ensures.bounded) c.run_script.ensures.schedule)
