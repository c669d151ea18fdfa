-- What a node has to tell a peer, and when it tells it.
use Rattle.std.specs.Prelude.{◌==◌, ◌&&◌, ◌||◌, ◌-◌, ◌*◌, ℕ, Bool, true, false, not, nat_lt, if◌then◌else◌}
use Rattle.node_core.specs.Traces.{Kept, node_of}
use Rattle.gossip_pace.specs.declared.news.News.{News}
use Rattle.gossip_pace.specs.declared.news.Pace.{Pace}

-- the node's version, the one that the peer said it has, and the peer's that the node has all of
abbrev pub news_of : Kept → ℕ → News
news_of k peer = record {
  version = (node_of k).marks.version;
  acked = (node_of k).marks.acked peer;
  known = (node_of k).marks.known peer;
}

-- the peer isn't known to have all, or waits to hear what the node has of it
abbrev pub is_news : Pace → News → Bool
is_news p n = nat_lt n.acked n.version || not (n.known == p.told_known)

-- some of it wasn't told yet
abbrev pub is_fresh : Pace → News → Bool
is_fresh p n = nat_lt p.told_version n.version || not (n.known == p.told_known)

-- it is news, and its time has come: at once where it is fresh and the last message wasn't missed, else after a rest
abbrev pub is_due : Pace → News → Bool
is_due p n = is_news p n && (p.waits == 0 || (is_fresh p n && not p.has_missed))

-- a rest is twice as long as the one before, and 64 rounds at most
abbrev pub doubled : ℕ → ℕ
doubled rest = if nat_lt 31 rest then 64 else rest * 2

-- after a round in which it wasn't told
abbrev pub rested : Pace → Pace
rested p = record p { waits = p.waits - 1 }

-- after this was sent to it: what is fresh begins with a short rest
abbrev pub rest_told : Pace → News → ℕ
rest_told p n = doubled (if is_fresh p n || p.has_missed then 1 else p.rest)

abbrev pub told_pace : Pace → News → Pace
told_pace p n = record {
  node = p.node;
  told_version = n.version;
  told_known = n.known;
  has_missed = false;
  rest = rest_told p n;
  waits = rest_told p n;
}

-- after it wasn't reached, or a message to it was lost, or refused
abbrev pub missed_pace : Pace → Pace
missed_pace p = record p { has_missed = true; rest = doubled p.rest; waits = doubled p.rest }

-- the pace of a peer that was never told
abbrev pub first_pace : ℕ → Pace
first_pace node = record {
  node = node;
  told_version = 0;
  told_known = 0;
  has_missed = false;
  rest = 1;
  waits = 0;
}

-- the pace that sends to its peer in the next round, even if nothing changed and even if it wasn't reached before
abbrev pub asked_pace : Pace → Pace
asked_pace p = record p { told_known = 18446744073709551615; has_missed = false; waits = 0 }
