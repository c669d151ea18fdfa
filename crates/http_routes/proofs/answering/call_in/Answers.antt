use Rattle.http_routes.specs.Rooms.{room_reply_value}
use Rattle.http_routes.proofs.Calls.{comes_by, needed_by}
use Rattle.http_routes.proofs.answering.call_in.Goals as goal

pub returns-clause-comes : goal.returns-clause-comes
returns-clause-comes c =
    let done = c.made-outcome.ensures in
    let told = c.reply.ensures in
    comes_by c.args.core.now c.made-outcome.new.core _ (room_reply_value c.reply.new.self c.reply.result)
    c.made-outcome.result done.ok done.refused done.err told.accepted told.refused

pub returns-clause-memory : goal.returns-clause-memory
returns-clause-memory c =
    let done = c.made-outcome.ensures in
    let told = c.reply.ensures in
    needed_by c.args.core.now _ (room_reply_value c.reply.new.self c.reply.result)
    c.made-outcome.result done.refused done.memory told.accepted told.exact
