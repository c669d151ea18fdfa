use Rattle.std.proofs.Common.{ap, ◌∙◌}
use Rattle.gossip_pace.specs.Senders.{sender_of}
use Rattle.peers.specs.Book.{book_noted}
use Rattle.peers.specs.Codes.{outcome_of}
use Rattle.node_for_c.specs.Answered.{reply_left}
use Rattle.node_for_c.specs.Calls.{said_of}
use Rattle.node_for_c.specs.declared.registry.Registry.{Registry}
use Rattle.node_for_c.proofs.registry.Registry.hear.Goals as goal

pub returns-clause-heard : goal.returns-clause-heard
returns-clause-heard c =
    let k = c.args.self.now in
    let mid = c.answer_asked-answer.new.self in
    let answer = c.answer_asked-answer.result in
    let same = c.answer_asked-answer.ensures.answered.1 in
    let noted = c.note.ensures
    ∙ ap (λ s. book_noted s c.outcome_of-outcome.result c.args.now mid.book) c.sender_of.ensures
    ∙ ap (λ o. book_noted (sender_of c.args.body.now) o c.args.now mid.book)
    (c.outcome_of-outcome.ensures (said_of mid))
    ∙ ap (λ (r : Registry). book_noted (sender_of c.args.body.now) (outcome_of (reply_left answer mid)) c.args.now
    r.book) same in (
      c.answer_asked-answer.ensures.answered.0,
      ap (λ (r : Registry). record r { book = c.note.new.self }) same
          ∙ ap (λ b. record k { core = mid.core; said = mid.said; room = mid.room; book = b }) noted,
    )
