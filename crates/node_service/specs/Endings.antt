-- How many clients a node served, and what telling its peers came to.
use Rattle.std.specs.Prelude.{◌≡◌, ◌≤◌, ◌||◌, ℕ, Bool, true, not, Option, None, Some, is_some, IsSomeAnd, MatchOption}
use Rattle.http_service.specs.Endings.{IsEnded}
use Rattle.http_service.specs.declared.ending.Ended.{Ended}
use Rattle.http_service.specs.declared.ending.Ended.TheVariants as ended
use Rattle.http_service.specs.declared.ending.Reason.{Reason}
use Rattle.node_service.specs.declared.ended.NodeServed.{NodeServed}
use Rattle.node_service.specs.declared.telling.Gossiped.{Gossiped}
use Rattle.peer_rounds.specs.Sharing.{IsEarly}
use Rattle.peer_rounds.specs.declared.round.Rounds.{Rounds}

-- as many as were wanted, unless its service was ended early: then no more
pub record IsNodeServed (wanted : ℕ) (served : NodeServed) : Type 0 where
  pub all : served.early ≡ None → served.clients ≡ wanted
  pub most : served.clients ≤ wanted

-- it is shown, for some reason, that the service is ended whose end has this name
abbrev pub IsSomeEnd : ℕ → Ended → Type 0
IsSomeEnd name ended = (reason : Reason) × IsEnded name reason ended

-- the reason for which it is shown that a service is ended
abbrev pub shown_reason : Ended → Reason
shown_reason (ended.Now token) = token.value
shown_reason (ended.Before token) = token.value

-- so many rounds were made, or fewer: then it is shown that the service has ended whose end has this name, or there was
-- no memory or no wire for more
abbrev pub AreAllOrEarly : ℕ → ℕ → Rounds → Type 0
AreAllOrEarly wanted name rounds = MatchOption rounds.early (rounds.made ≡ wanted) (IsEarly name)

-- what telling the peers came to: where a message showed that the node has lost its state, it is shown that the node's
-- service is ended, whose end has the second name
pub record IsGossiped (wanted name ending : ℕ) (told : Gossiped) : Type 0 where
  pub rounds : AreAllOrEarly wanted name told.rounds
  pub ended : MatchOption told.rounds.loss (told.ended ≡ None) (λ _. IsSomeAnd told.ended (IsSomeEnd ending))

-- where a round showed that the node has lost its state, its service came to an early end
abbrev pub ends_by_loss : Option Rounds → NodeServed → Bool
ends_by_loss None served = true
ends_by_loss (Some rounds) served = not (is_some rounds.loss) || is_some served.early
