-- Where a served node listens.
use Rattle.std.specs.Prelude.{ℕ, List, Option, Some, None, codes}
use Rattle.std.specs.Net.Grammar.{IsSocketText}
use Rattle.std.specs.declared.net.socket_addr.SocketAddr.{SocketAddr}
use Rattle.clap.specs.Matches.{first_value}
use Rattle.clap.specs.declared.parser.matches.Found.{Found}
use Rattle.command_line.specs.Addresses.{IsPortHere}

-- the value of `--listen`, where it is given
abbrev pub listen_word : Found → Option (List ℕ)
listen_word found = first_value found (codes "listen")

-- at the address that this word spells, or without one at a port of 127.0.0.1
abbrev pub IsWhereItListens : Option (List ℕ) → SocketAddr → Type 0
IsWhereItListens (Some word) address = IsSocketText word address
IsWhereItListens None address = (port : ℕ) × IsPortHere port address
