-- Asks that tell the same ask the same.
use Rattle.std.proofs.Common.{◌≡◌, ℕ, ap}
use Rattle.node_calls.specs.declared.ask.Ask.{Ask}
use Rattle.node_calls.specs.declared.reply.Reply.{Reply}
use Rattle.node_calls.specs.Told.{ask_told, reply_told}
use Rattle.node_calls.specs.Asks.{asked_from, ask_value}

pub same_asked : (a b : Ask) → ask_told a ≡ ask_told b → (nodes : ℕ) (reply : Reply) →
    ask_value nodes a reply ≡ ask_value nodes b reply
same_asked a b e nodes reply = ap (λ ask. asked_from nodes ask (reply_told reply)) e
