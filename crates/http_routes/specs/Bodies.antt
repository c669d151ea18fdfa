-- What is kept of the body of a request.
use Rattle.std.specs.Prelude.{◌≡◌, ◌+◌, ◌⊎◌, ◌↔◌, ◌<◌, ◌≤◌, ℕ, List, [], length}
use Rattle.std.specs.Str.{is_utf8}
use Rattle.message_format.specs.Spelling.{max_message}
use Rattle.node_core.specs.Traces.{Kept}
use Rattle.http_routes.specs.Answers.{Comes}
use Rattle.http_routes.specs.Replies.{ReplyValue}
use Rattle.http_routes.specs.Requests.{WantedValue}
use Rattle.http_routes.specs.declared.table.Keeps.{Keeps}
use Rattle.http_routes.specs.declared.table.Keeps.TheVariants.{Nothing, Text, Whole}

-- the most bytes that are kept: of a text one more than the longest has
abbrev pub most_kept : Keeps → ℕ
most_kept Nothing = 0
most_kept (Text longest) = longest + 1
most_kept Whole = max_message

-- These bytes are kept of a body: nothing, or all of it. Of a longer one than are kept of a text they are as many as may
-- be, and a text exactly if the body is one.
abbrev pub IsKept : Keeps → List ℕ → List ℕ → Type 0
IsKept Nothing body kept = kept ≡ []
IsKept (Text longest) body kept =
    ((length body ≤ longest + 1) × (kept ≡ body))
    ⊎ ((longest + 1 < length body) × (length kept ≡ longest + 1) × (is_utf8 kept ≡ is_utf8 body))
IsKept Whole body kept = kept ≡ body

-- a node does the same for both of two wants
abbrev pub AreAlike : Kept → WantedValue → WantedValue → Type 0
AreAlike k wanted other = (new : Kept) (given : ReplyValue) → Comes k wanted new given ↔ Comes k other new given
