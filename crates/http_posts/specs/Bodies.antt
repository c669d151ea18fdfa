-- What a body begins with that comes over a connection.
use Rattle.std.specs.Prelude.{ℕ, List, [], Some, Ok}
use Rattle.http_body.specs.Frame.{data_frame}
use Rattle.hyper.specs.Incoming.{IncomingYields}
use Rattle.hyper.specs.declared.body.incoming.Incoming.{Incoming}
use Rattle.tokio.specs.declared.net.stream.TcpStream.{TcpStream}

-- this piece may be the first that comes of it
abbrev pub MayBegin : Incoming TcpStream → List ℕ → Type 0
MayBegin body piece = IncomingYields body [] (Some (Ok (data_frame piece)))
