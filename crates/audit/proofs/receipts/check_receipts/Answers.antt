use Rattle.std.proofs.Common.{◌≡◌, ℕ, ◌∙◌, sym}
use Rattle.audit.specs.Receipts.{given_all, times_seen}
use Rattle.audit.proofs.Seen.{given_once, given_everywhere}
use Rattle.audit.proofs.receipts.check_receipts.Goals as goal

pub returns-then-not-all_present : goal.returns-then-not-all_present
returns-then-not-all_present c =
    let counted : (n i : ℕ) → times_seen c.in-Some.seen n i ≡ given_all n i c.args.lists.now =
    rw c.in-Some.is at c.in-Ok.ensures.once in
    let missing = c.if-not-all_present.ensures.missing in (
      c.all_match.ensures.0 c.if-not-all_match.false,
      given_once c.in-Some.seen c.args.lists.now counted,
      (missing.0, missing.1, missing.2, sym (counted missing.0 missing.1) ∙ missing.3),
    )

pub returns-in-Some-first_list_late : goal.returns-in-Some-first_list_late
returns-in-Some-first_list_late c =
    let counted : (n i : ℕ) → times_seen c.in-Some.seen n i ≡ given_all n i c.args.lists.now =
    rw c.in-Some.is at c.in-Ok.ensures.once in (
      c.all_match.ensures.0 c.if-not-all_match.false,
      given_once c.in-Some.seen c.args.lists.now counted,
      given_everywhere c.args.traces.now c.in-Some.seen c.args.lists.now counted c.if-not-all_present.ensures.all,
      c.in-Some-first_list_late.ensures.late,
    )

pub returns : goal.returns
returns c =
    let counted : (n i : ℕ) → times_seen c.in-Some.seen n i ≡ given_all n i c.args.lists.now =
    rw c.in-Some.is at c.in-Ok.ensures.once in (
      c.all_match.ensures.0 c.if-not-all_match.false,
      given_once c.in-Some.seen c.args.lists.now counted,
      given_everywhere c.args.traces.now c.in-Some.seen c.args.lists.now counted c.if-not-all_present.ensures.all,
      c.in-None.ensures.none,
    )
