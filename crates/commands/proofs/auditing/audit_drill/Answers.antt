use Rattle.commands.proofs.auditing.audit_drill.Goals as goal

pub returns-in-Ok-clause-ok : goal.returns-in-Ok-clause-ok
returns-in-Ok-clause-ok g c =
    let drill = c.in_ok-drill.drill in
    let told = c.in_ok-printed.ensures.told in
    let written = rw (c.deref.ensures.value, c.into_bytes.ensures, told.told) at c.in-Ok.ensures.ok in (
      drill.traces.items,
      drill.lists.items,
      told.verdict,
      c.in_ok-drill.ensures.ok,
      told.judged,
      told.ended,
      told.is_yes,
      written,
    )
