use Rattle.std.proofs.Common.{◌≡◌, ◌-◌, ◌++◌, ◌∙◌, length, take, replicate, sym, ap, subst, arith, append_assoc}
use Rattle.std.specs.Str.{IsUtf8}
use Rattle.std.proofs.lemmas.List.{drop-replicate}
use Rattle.simdutf8.proofs.StepsLemmas.{IsUtf8-append_ascii, IsAscii-replicate}
use Rattle.http_exchange.proofs.text_check.TextCheck.is_text.Goals as goal

pub returns : goal.returns
returns c came h =
    let check = c.args.self.now in
    let last = take check.filled check.block in
    let said = c.finish.ensures _ (rw (c.copy_from_slice.ensures.after, drop-replicate) at (c.step.ensures _ h.read)) in
    let zeros = replicate (64 - check.filled) 0 in
    let pad = IsUtf8-append_ascii (h.blocks ++ last) zeros (IsAscii-replicate (64 - check.filled) 0 (omega arith)) in
    let same = append_assoc h.blocks last zeros in (
      λ t. subst IsUtf8 (sym h.all) (pad.0 (subst IsUtf8 (sym same) (said.0 t))),
      λ u. said.1 (subst IsUtf8 same (pad.1 (subst IsUtf8 h.all u))),
    )
