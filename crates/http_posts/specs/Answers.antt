-- What a server answered to what was posted.
use Rattle.std.specs.Prelude.{◌≡◌, ◌⊎◌, ℕ, List, Option, None}
use Rattle.hyper.specs.Response.{body_of, head_of}
use Rattle.hyper.specs.declared.Response.{Response}
use Rattle.hyper.specs.declared.body.incoming.Incoming.{Incoming}
use Rattle.tokio.specs.declared.net.stream.TcpStream.{TcpStream}
use Rattle.http_posts.specs.Bodies.{MayBegin}
use Rattle.http_posts.specs.Forgetting.{forgetting_in}
use Rattle.http_posts.specs.declared.forgetting.Forgetting.{Forgetting}
use Rattle.http_posts.specs.declared.answer.Exchanged.{Exchanged}
use Rattle.http_posts.specs.declared.answer.Posted.{Posted}

-- what is heard in a reply of the peer: what its status and the first piece of its body say, or nothing, where no piece came in time
abbrev pub IsHeardIn : Response (Incoming TcpStream) → Option Forgetting → Type 0
IsHeardIn reply says =
    (says ≡ None) ⊎ ((piece : List ℕ) × MayBegin (body_of reply) piece × (says ≡ forgetting_in (head_of reply).status piece))

-- the status of the reply to what was posted
abbrev pub status_of : Posted → ℕ
status_of posted = (head_of posted.reply.value).status

-- the status is that of the reply, and what it says was heard in the reply
pub record IsAnswered (exchanged : Exchanged) : Type 0 where
  pub status : exchanged.status ≡ status_of exchanged.posted
  pub says : IsHeardIn exchanged.posted.reply.value exchanged.says
