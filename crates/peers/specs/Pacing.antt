-- When another node is sent the state, and when it is asked for its own.
use Rattle.std.specs.Prelude.{◌==◌, ◌&&◌, ℕ, Bool, if◌then◌else◌}
use Rattle.gossip_pace.specs.declared.news.News.{News}
use Rattle.gossip_pace.specs.declared.news.Pace.{Pace}
use Rattle.gossip_pace.specs.News.{asked_pace, first_pace, is_due, missed_pace, rested, told_pace}
use Rattle.peers.specs.declared.pacing.Due.{Due}
use Rattle.peers.specs.declared.pacing.Due.TheVariants.{Nothing, Tell, Ask}
use Rattle.peers.specs.declared.pacing.Pacing.{Pacing}

-- of a node that was never told, nor asked
abbrev pub first_pacing : ℕ → Pacing
first_pacing node = record {
  telling = first_pace node;
  asking = first_pace node;
  news = record { version = 0; acked = 0; known = 0 };
}

-- it is asked to tell: calls wait for it, and its time has come
abbrev pub asks : Bool → Pacing → Bool
asks is_awaited p = is_awaited && (p.asking.waits == 0)

-- when it is sent the state: at once if it asked
abbrev pub telling_at : Bool → Pacing → Pace
telling_at has_asked p = if has_asked then asked_pace p.telling else p.telling

-- what is due in a round: it is asked to tell, or told, or left alone
abbrev pub due_for : Bool → Bool → News → Pacing → Due
due_for is_awaited has_asked news p =
    if asks is_awaited p then Ask else (if is_due (telling_at has_asked p) news then Tell else Nothing)

-- after that: a round in which it is left alone is one round less to wait
abbrev pub rested_by : Due → Pace → Pace
rested_by Nothing p = rested p
rested_by Tell p = p
rested_by Ask p = p

abbrev pub telling_after : Bool → Bool → News → Pacing → Pace
telling_after is_awaited has_asked news p =
    rested_by (due_for is_awaited has_asked news p) (telling_at has_asked p)

-- once it was asked to tell it is left alone for longer each time
abbrev pub asking_after : Bool → Pacing → Pace
asking_after is_awaited p = if asks is_awaited p then missed_pace p.asking else rested p.asking

abbrev pub looked : Bool → Bool → News → Pacing → Pacing
looked is_awaited has_asked news p = record {
  telling = telling_after is_awaited has_asked news p;
  asking = asking_after is_awaited p;
  news = news;
}

-- it was told what there was when it was looked at last; or it wasn't
abbrev pub told_pacing : Pacing → Pacing
told_pacing p = record p { telling = told_pace p.telling p.news }

abbrev pub missed_pacing : Pacing → Pacing
missed_pacing p = record p { telling = missed_pace p.telling }
