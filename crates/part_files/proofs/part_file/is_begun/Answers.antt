use Rattle.std.proofs.Common.{◌≡◌, ◌<◌, ◌≢◌, List, ℕ, false, true, length, rules, arith, sym, subst, ◌∙◌}
use Rattle.std.specs.Io.{StartsWith}
use Rattle.drills.specs.Lines.{head_told, line_text, part_head}
use Rattle.drills.specs.Taken.{bytes_left}
use Rattle.part_files.proofs.Heads.{begins, begins_cut, begins_foreign, starts_false, starts_true}
use Rattle.part_files.proofs.part_file.is_begun.Goals as goal
use Rattle.part_files.proofs.part_file.is_begun.Goals.{else-len-first-via-then-len-first+else-starts_with, else-len-first-via-else-len-first}

pub returns-then-eq-clause-begun : goal.returns-then-eq-clause-begun
returns-then-eq-clause-begun g c =
    let same : c.read_line.new.line.items ≡ c.args.first.now = search rules in
    begins c.args.first.now (line_text (part_head (head_told c.args.own.now))) c.requires.0 c.requires.1.one
    (bytes_left g.I.Read.remaining c.args.reader.now) (bytes_left g.I.Read.remaining c.read_line.new.reader)
    c.read_line.new.line.items (rw c.new-line.ensures.items at c.in_ok-read_line.ensures.read) same

pub returns-then-starts_with-clause-begun : goal.returns-then-starts_with-clause-begun
returns-then-starts_with-clause-begun g c =
    let starts : StartsWith c.args.first.now c.read_line.new.line.items =
    rw c.deref.ensures.value at (starts_true c.args.first.now c.deref.result.now
    (sym c.if-starts_with.ensures.value)) in
    let less : length c.read_line.new.line.items < length c.args.first.now = omega arith in
    begins_cut c.args.first.now (line_text (part_head (head_told c.args.own.now))) c.requires.0 c.requires.1.one
    (bytes_left g.I.Read.remaining c.args.reader.now) (bytes_left g.I.Read.remaining c.read_line.new.reader)
    c.read_line.new.line.items (rw c.new-line.ensures.items at c.in_ok-read_line.ensures.read) starts less

pub returns-clause-other : goal.returns-clause-other
returns-clause-other g c =
    let other : c.read_line.new.line.items ≢ c.args.first.now = search rules in
    let none : length c.read_line.new.line.items < length c.args.first.now →
    StartsWith c.args.first.now c.read_line.new.line.items → ⊥ =
    elim c.else-len-first.branch [
      | else-len-first-via-then-len-first+else-starts_with w ↦ λ less starts.
          starts_false c.args.first.now w.deref.result.now (sym w.starts_with.ensures.value ∙ w.if-starts_with.false)
          (subst (λ (l : List ℕ). StartsWith c.args.first.now l) (sym w.deref.ensures.value) starts)
      | else-len-first-via-else-len-first w ↦ λ less starts. let h = w.if-len-first in omega arith
    ] in
    begins_foreign c.args.first.now (line_text (part_head (head_told c.args.own.now))) c.requires.0 c.requires.1.one
    (bytes_left g.I.Read.remaining c.args.reader.now) (bytes_left g.I.Read.remaining c.read_line.new.reader)
    c.read_line.new.line.items (rw c.new-line.ensures.items at c.in_ok-read_line.ensures.read) other none
