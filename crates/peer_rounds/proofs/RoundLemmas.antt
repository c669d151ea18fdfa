-- How many calls a round of gossip makes, and whom it tells.
use Rattle.std.proofs.Common.{◌≡◌, ◌≤◌, ℕ, suc, ◌+◌, ◌==◌, Bool, true, false, cond, not, ◌&&◌, List, [], ◌∷◌, ◌++◌, length, map, refl, ap, ◌∙◌, arith}
use Rattle.std.specs.List.{count_by, filter, range_with_len}
use Rattle.std.proofs.lemmas.List.{append-nil, length-map, map-append}
use Rattle.std.proofs.lemmas.List.Elements.{filter-append}
use Rattle.std.proofs.lemmas.List.Sums.{sum_by-cons}
use Rattle.node_steps.specs.declared.config.Config.{Config}
use Rattle.node_calls.specs.Asks.{Asked, bare_emit}
use Rattle.command_line.specs.declared.peers.NamedPeer.{NamedPeer}
use Rattle.node_registry.specs.Seats.{SeatState}
use Rattle.gossip_pace.specs.declared.news.Pace.{Pace}
use Rattle.gossip.specs.declared.report.Ended.{Ended}
use Rattle.gossip.specs.declared.report.Ended.TheVariants.{Done, OutOfMemory}
use Rattle.gossip.specs.declared.report.GossipReport.{GossipReport}
use Rattle.gossip.specs.NewsRounds.{IsNewsBroken, IsNewsRound}
use Rattle.gossip.specs.Parts.{IsPartOf, none, kept, left_out}
use Rattle.gossip.specs.Reports.{IsTold, asked_in, asks_in, calls_of, is_delivery, is_emit, own_asks_in}
use Rattle.gossip.specs.Traffic.{Traffic}
use Rattle.gossip.proofs.RangeLemmas.{but, length_but, range_split}
use Rattle.gossip_pace.specs.News.{first_pace}
use Rattle.peer_rounds.specs.Rounds.{is_named, is_told, most_peers, told_below}

are_emits : List Asked → Type 0
are_emits [] = Unit {0}
are_emits (a ∷ rest) = (is_emit a ≡ true) × are_emits rest

all_emits : (tos : List ℕ) → are_emits (map bare_emit tos)
unfolding are_emits
all_emits [] = tt
all_emits (to ∷ tos) = (refl, all_emits tos)

some_emits : {xs ys : List Asked} → IsPartOf xs ys → are_emits ys → are_emits xs
unfolding are_emits
some_emits none h = h
some_emits (kept p) h = (h.0, some_emits p h.1)
some_emits (left_out p) h = some_emits p h.1

one_more : (a : Asked) (taken_in : Bool) (rest : List Asked) (n emits deliveries : ℕ) →
    are_emits (cond (not taken_in) (a ∷ rest) rest) → (are_emits rest → n ≤ emits + deliveries) →
    suc n ≤ cond (is_emit a) 1 0 + emits + (cond taken_in 1 0 + deliveries)
unfolding are_emits
one_more a true rest n emits deliveries h f = let g = f h in omega arith
one_more a false rest n emits deliveries h f = let g = f h.1 in rw h.0 (omega arith)

-- each is a message that was made or taken in
made_or_taken : (asks : List Asked) → are_emits (filter (λ a. not (is_delivery a)) asks) →
    length asks ≤ count_by is_emit asks + count_by is_delivery asks
made_or_taken [] h = omega arith
made_or_taken (a ∷ rest) h =
    rw (sum_by-cons (λ x. cond (is_emit x) 1 0) a rest, sum_by-cons (λ x. cond (is_delivery x) 1 0) a rest)
    (one_more a (is_delivery a) (filter (λ x. not (is_delivery x)) rest) (length rest) (count_by is_emit rest)
    (count_by is_delivery rest) h (made_or_taken rest))

-- the calls of a round that made messages to these nodes at most, of a seat that had made so many
of_emits : (config : Config) (seed : List ℕ) (was now : SeatState) (most : ℕ) (r : GossipReport) → IsTold config seed was now r →
    (tos : List ℕ) → IsPartOf (own_asks_in config r.receipts.items) (map bare_emit tos) → calls_of r ≤ most →
    now.calls ≤ was.calls + most
of_emits config seed was now most r told tos part few =
    let all = made_or_taken (asks_in config r.receipts.items) (some_emits part (all_emits tos)) in
    let long = length-map r.receipts.items (asked_in config) in
    omega (arith, told.calls, told.emitted, told.delivered, all, long, few)

-- those of a round of news
pub calls_of_a_round : (config : Config) (seed : List ℕ) (says : ℕ → Bool → Type 0) (since : ℕ)
    (was now : SeatState) (most : ℕ)
    (before after : Traffic) (ps qs : List Pace) (r : GossipReport) → IsTold config seed was now r →
    (r.ended ≡ Done → IsNewsRound config seed since says before after ps qs r) →
    (r.ended ≡ OutOfMemory → IsNewsBroken config seed since says before after ps qs r) →
    calls_of r ≤ length ps + 64 → length ps ≤ most → now.calls ≤ was.calls + (most + 64)
calls_of_a_round config seed says since was now most before after ps qs r told round broken few peers =
    let made = by_end r.ended refl in
    of_emits config seed was now (most + 64) r told made.0 made.1 (omega (arith, few, peers))
  where
    by_end : (ended : Ended) → r.ended ≡ ended →
        (tos : List ℕ) × IsPartOf (own_asks_in config r.receipts.items) (map bare_emit tos)
    by_end Done is = let p = round is in (p.tos, p.asks)
    by_end OutOfMemory is = let p = broken is in (p.tos ++ p.next, p.asks)

-- ---- who is told

told_more : (node n : ℕ) (named : List NamedPeer) →
    told_below node (n + 1) named ≡ told_below node n named ++ cond (is_told node named n) (n ∷ []) []
told_more node n named =
    let p = is_told node named in
    let b : 0 + n ≡ n = omega arith in
    ap (filter p) (range_split 0 n 1) ∙ filter-append p (range_with_len 0 n) (range_with_len (0 + n) 1)
    ∙ ap (λ k. filter p (range_with_len 0 n) ++ cond (p k) (k ∷ []) []) b

-- one more, which is told, or isn't
pub one_more_told : (node n : ℕ) (named : List NamedPeer) → is_told node named n ≡ true →
    map first_pace (told_below node (n + 1) named) ≡ map first_pace (told_below node n named) ++ first_pace n ∷ []
one_more_told node n named is =
    ap (map first_pace) (told_more node n named ∙ ap (λ b. told_below node n named ++ cond b (n ∷ []) []) is)
    ∙ map-append first_pace (told_below node n named) (n ∷ [])

pub no_more_told : (node n : ℕ) (named : List NamedPeer) → is_told node named n ≡ false →
    map first_pace (told_below node (n + 1) named) ≡ map first_pace (told_below node n named)
no_more_told node n named is =
    ap (map first_pace) (told_more node n named ∙ ap (λ b. told_below node n named ++ cond b (n ∷ []) []) is
    ∙ append-nil (told_below node n named))

fewer : (p q : ℕ → Bool) (xs : List ℕ) → length (filter (λ k. p k && q k) xs) ≤ length (filter p xs)
fewer p q [] = omega arith
fewer p q (x ∷ xs) = step (p x) (q x) (fewer p q xs)
  where
    step : (a b : Bool) → length (filter (λ k. p k && q k) xs) ≤ length (filter p xs) →
        length (cond (a && b) (x ∷ filter (λ k. p k && q k) xs) (filter (λ k. p k && q k) xs)) ≤
        length (cond a (x ∷ filter p xs) (filter p xs))
    step true true h = omega (arith, h)
    step true false h = omega (arith, h)
    step false b h = h

-- they are at most all of these nodes
pub few_below : (node n : ℕ) (named : List NamedPeer) → length (map first_pace (told_below node n named)) ≤ n
few_below node n named =
    let some = fewer (λ k. not (k == node)) (is_named named) (range_with_len 0 n) in
    let long = length-map (told_below node n named) first_pace in
    let others = length_but (λ k. k) node n in
    let same = length-map (but node n) (λ k. k) in
    omega (arith, some, long, others, same)

-- and at most all others
pub few_told : (config : Config) (named : List NamedPeer) →
    length (map first_pace (told_below config.node config.nodes named)) ≤ most_peers config
few_told config named =
    let told = told_below config.node config.nodes named in
    let some = fewer (λ k. not (k == config.node)) (is_named named) (range_with_len 0 config.nodes) in
    let long = length-map told first_pace in
    omega (arith, some, long)
