-- What a node knows of the others besides the counts, and how it changes.
use Rattle.std.specs.Prelude.{ℕ, Bool, true, false, if◌then◌else◌, List, replicate, slice_get, slice_set, Option, Some, None}
use Rattle.message_format.specs.Limits.{max_nodes}
use Rattle.node_core.specs.Traces.{Kept}
use Rattle.gossip_pace.specs.declared.news.News.{News}
use Rattle.gossip_pace.specs.News.{news_of}
use Rattle.peers.specs.declared.book.PeerBook.{PeerBook}
use Rattle.peers.specs.declared.code.Outcome.{Outcome}
use Rattle.peers.specs.declared.heard.Cluster.{Cluster}
use Rattle.peers.specs.declared.heard.Hearing.TheVariants.{Whenever}
use Rattle.peers.specs.declared.pacing.Due.{Due}
use Rattle.peers.specs.declared.pacing.Due.TheVariants.{Nothing}
use Rattle.peers.specs.declared.pacing.Pacing.{Pacing}
use Rattle.peers.specs.Heard.{fresh_rows, is_peer, noted, waits_for}
use Rattle.peers.specs.Hello.{asker_in, has_asked, nobody}
use Rattle.peers.specs.Pacing.{due_for, first_pacing, looked, missed_pacing, told_pacing}

-- of a node that heard nothing, told nobody and waits for nobody
abbrev pub fresh_book : Cluster → PeerBook
fresh_book cluster = record {
  cluster = cluster;
  hearing = Whenever;
  heard = record { rows = fresh_rows };
  asked = record { asked = nobody };
  pacings = replicate max_nodes None;
}

-- a message with this sender came to this
abbrev pub book_noted : Option ℕ → Outcome → ℕ → PeerBook → PeerBook
book_noted sender outcome now b =
    record b { heard = record { rows = noted b.cluster b.heard.rows sender outcome now } }

-- a node asks to be told, by this body
abbrev pub asked_by : Option ℕ → List Bool → List Bool
asked_by (Some node) asked = slice_set asked node true
asked_by None asked = asked

abbrev pub book_asked : List ℕ → PeerBook → PeerBook
book_asked body b = record b { asked = record { asked = asked_by (asker_in b.cluster body) b.asked.asked } }

-- ---- rounds

abbrev pub pacing_or : ℕ → Option (Option Pacing) → Pacing
pacing_or node (Some (Some p)) = p
pacing_or node (Some None) = first_pacing node
pacing_or node None = first_pacing node

abbrev pub pacing_at : List (Option Pacing) → ℕ → Pacing
pacing_at pacings node = pacing_or node (slice_get pacings node)

-- calls wait for it, and it asked to be told
abbrev pub is_awaited : PeerBook → ℕ → Bool
is_awaited b peer = waits_for b.hearing b.cluster b.heard.rows peer

abbrev pub wants : PeerBook → ℕ → Bool
wants b peer = has_asked b.asked.asked peer

-- what is due for a node in a round: nothing, if it is no other node of the cluster
abbrev pub due_of : Kept → ℕ → PeerBook → Due
due_of k peer b =
    if is_peer b.cluster peer
    then due_for (is_awaited b peer) (wants b peer) (news_of k peer) (pacing_at b.pacings peer) else Nothing

abbrev pub with_pacing : ℕ → Pacing → PeerBook → PeerBook
with_pacing peer p b = record b { pacings = slice_set b.pacings peer (Some p) }

-- after it was looked at: that it asked isn't known any more
abbrev pub looked_at : Kept → ℕ → PeerBook → PeerBook
looked_at k peer b =
    with_pacing peer (looked (is_awaited b peer) (wants b peer) (news_of k peer) (pacing_at b.pacings peer))
    (record b { asked = record { asked = slice_set b.asked.asked peer false } })

abbrev pub book_looked : Kept → ℕ → PeerBook → PeerBook
book_looked k peer b = if is_peer b.cluster peer then looked_at k peer b else b

-- it was told what there was when it was looked at last; or it wasn't
abbrev pub book_told : ℕ → PeerBook → PeerBook
book_told peer b =
    if is_peer b.cluster peer then with_pacing peer (told_pacing (pacing_at b.pacings peer)) b else b

abbrev pub book_missed : ℕ → PeerBook → PeerBook
book_missed peer b =
    if is_peer b.cluster peer then with_pacing peer (missed_pacing (pacing_at b.pacings peer)) b else b
