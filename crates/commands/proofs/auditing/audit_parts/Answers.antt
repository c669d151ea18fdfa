use Rattle.commands.proofs.auditing.audit_parts.Goals as goal

pub returns-in-Ok-clause-ok : goal.returns-in-Ok-clause-ok
returns-in-Ok-clause-ok g c =
    let told = c.in_ok-printed.ensures.told in
    let verdict = told.told in
    let written = rw (c.deref.ensures.value, c.into_bytes.ensures, told.with_cuts, verdict.told) at c.in-Ok.ensures.ok in (
      told.traces,
      told.lists,
      verdict.verdict,
      told.joined,
      verdict.judged,
      verdict.ended,
      verdict.is_yes,
      written,
    )
