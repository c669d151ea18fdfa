use Rattle.std.proofs.Common.{◌≡◌, ◌↔◌, Bool, false, true, Result, Ok, Err, sym, ◌∙◌, rules}
use Rattle.std.specs.Io.Buffered.{reader_inner}
use Rattle.streams.specs.Watched.{has_failed}
use Rattle.part_keeper.specs.declared.fault.PartFault.TheVariants as parts
use Rattle.part_files.specs.declared.part_file.OpenFault.{OpenFault}
use Rattle.part_files.specs.declared.part_file.OpenFault.TheVariants as open_faults
use Rattle.part_keeper.proofs.Walks.{not_failed}
use Rattle.part_files.proofs.part_file.other_head.Goals as goal
use Rattle.part_files.proofs.part_file.other_head.Goals.{then-ne+in_ok-read_line, else-ne}

-- where no read failed, none is told
none_told : {T : Type 0} (r : Result T OpenFault) (failed : Bool) → failed ≡ false →
    (r ≡ Err (open_faults.Lines parts.ReadFailed) → ⊥) →
    (r ≡ Err (open_faults.Lines parts.ReadFailed)) ↔ (failed ≡ true)
none_told r failed fine none =
    (λ told. absurd (none told), λ late. absurd (let no : false ≡ true = sym fine ∙ late in cc))

pub returns-in_err-differences-clause-read_failed : goal.returns-in_err-differences-clause-read_failed
returns-in_err-differences-clause-read_failed g c =
    let fine : has_failed (reader_inner c.if-ne.reader) ≡ false = elim c.if-ne.branch [
      | then-ne+in_ok-read_line w ↦ rw w.reader-is (not_failed w.read_line.result (has_failed (reader_inner w.read_line.new.reader))
          w.in_ok-read_line.field-0 w.read_line.ensures.read_failed w.in_ok-read_line.was)
      | else-ne w ↦ rw w.reader-is c.requires
    ] in
    none_told c.from_residual-in_err-differences.result (has_failed (reader_inner c.if-ne.reader)) fine
    (λ told. let other : c.from_residual-in_err-differences.result ≡ Err (open_faults.Lines parts.OutOfMemory) = search rules in cc)

pub returns-clause-read_failed : goal.returns-clause-read_failed
returns-clause-read_failed g c =
    let fine : has_failed (reader_inner c.if-ne.reader) ≡ false = elim c.if-ne.branch [
      | then-ne+in_ok-read_line w ↦ rw w.reader-is (not_failed w.read_line.result (has_failed (reader_inner w.read_line.new.reader))
          w.in_ok-read_line.field-0 w.read_line.ensures.read_failed w.in_ok-read_line.was)
      | else-ne w ↦ rw w.reader-is c.requires
    ] in
    none_told (Ok c.in_ok-differences.field-0) (has_failed (reader_inner c.if-ne.reader)) fine (λ told. cc)
