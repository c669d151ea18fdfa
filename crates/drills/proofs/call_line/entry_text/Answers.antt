use Rattle.std.proofs.Common.{◌++◌, sym, ap, subst, ◌∙◌}
use Rattle.std.specs.Prelude.{IsUtf8}
use Rattle.std.proofs.lemmas.Bool.{true≢false}
use Rattle.packed_trace.specs.Packed.{seen_told}
use Rattle.drills.specs.Lines.{entry, line_text}
use Rattle.drills.proofs.CallTexts.{line_utf8}
use Rattle.drills.proofs.call_line.entry_text.Goals as goal

pub unreachable-requires : goal.unreachable-requires
unreachable-requires c =
    let line = entry (seen_told c.args.call) in
    let said = c.in-Ok.ensures in
    true≢false (sym (c.in_default-from_utf8.ensures.succeeds (subst IsUtf8
    (sym (said.0 ∙ ap (λ l. l ++ line_text line) c.new-line.ensures.items)) (line_utf8 line said.1))))

pub returns : goal.returns
returns c =
    let said = c.in-Ok.ensures in (
      ap (λ v. v.items) c.in-Ok-from_utf8.ensures.ok ∙ said.0
          ∙ ap (λ l. l ++ line_text (entry (seen_told c.args.call))) c.new-line.ensures.items,
      said.1,
    )
