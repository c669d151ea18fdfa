use Rattle.audit.proofs.Late.{IsAhead}
use Rattle.audit.proofs.receipts.first_late.Given as goal

abbrev pub invariant-loop-place : goal.invariant-loop-place
invariant-loop-place l = IsAhead l.receipts l.place l.next
