-- What a call is answered that waits for another node.
use Rattle.std.specs.Prelude.{ℕ, List, ◌++◌, codes, decimal}
use Rattle.http_routes.specs.Replies.{ReplyValue, IsReply, text_reply}

-- that calls wait for a node
abbrev pub waiting_text : ℕ → List ℕ
waiting_text node =
    codes "not heard yet: node " ++ (decimal node ++
    codes ": calls are accepted once all nodes sent a message: start it, with this node as a peer")

abbrev pub IsWaiting : ℕ → ReplyValue → Type 0
IsWaiting node given = IsReply (text_reply 503 (waiting_text node)) given
