use Rattle.std.proofs.Common.{◌≡◌, ◌≤◌, IfSome}
use Rattle.futures.specs.Task.{Keeps}
use Rattle.tokio.specs.Locks.{CanAcquire}
use Rattle.http_service.proofs.connection.AcceptingFuture.poll.Given as goal

abbrev pub invariant-loop : goal.invariant-loop
invariant-loop g l =
    IfSome l.self.permits.waiting CanAcquire × (l.self.clients.let_in ≤ l.self.wanted) ×
    (l.self.wanted ≡ l.initial.self.wanted) × (l.self.clients.offer ≡ l.initial.self.clients.offer) ×
    Keeps l.fn.cx l.cx
