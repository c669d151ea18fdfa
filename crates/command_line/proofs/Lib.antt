mod PeerLemmas
mod WordLemmas
