-- The mailboxes of a wire.
use Rattle.std.proofs.Common.{◌≡◌, ◌<◌, ℕ, ◌+◌, List, [], ◌∷◌, ◌++◌, length, map, get_or, option_map, Option, Some, None, Vec, Global, ap, ap₂, sym, ◌∙◌, arith}
use Rattle.std.specs.List.{range_with_len}
use Rattle.std.proofs.lemmas.List.{append-nil, get_or-map, length-map, map-append}
use Rattle.std.proofs.lemmas.List.FromFn.{get_or-range_with_len, length-range_with_len, map-range_with_len_more}
use Rattle.std.proofs.lemmas.Grind.{flat_map-append}
use Rattle.gossip.specs.declared.mailbox.Look.{Look}
use Rattle.gossip.specs.declared.mailbox.Mailbox.{Mailbox}
use Rattle.gossip.specs.declared.mailbox.Posted.{Posted}
use Rattle.gossip.specs.Mailboxes.{Place, finds, look_value, messages_of, new_place, posted_value, posts, traffic_of}
use Rattle.gossip.specs.Traffic.{Traffic, takes}
use Rattle.gossip.proofs.RangeLemmas.{range_split}

number_of : Mailbox → ℕ
number_of m = m.node

pub all_are : (all : List Mailbox) (n : ℕ) → map (λ m. m.node) all ≡ range_with_len 0 n → length all ≡ n
unfolding number_of
all_are all n e = sym (length-map all number_of) ∙ ap length e ∙ length-range_with_len 0 n

-- the mailbox at a place is that of the node of this number
pub mailbox_at : (all list : List Mailbox) (n k : ℕ) (m : Mailbox) → list ≡ all → map (λ m. m.node) all ≡ range_with_len 0 n →
    k < length list → m ≡ get_or list k m → m.node ≡ k
unfolding number_of
mailbox_at all list n k m same e lt at =
    let len = all_are all n e in
    let few : length list ≡ length all = ap length same in
    ap number_of (at ∙ ap (λ l. get_or l k m) same)
    ∙ sym (get_or-map number_of all k m 0 (omega arith)) ∙ ap (λ l. get_or l k 0) e
    ∙ get_or-range_with_len 0 n k 0 (omega arith) ∙ omega arith

-- one mailbox more
pub one_more : (all new : List Mailbox) (n : ℕ) (m : Mailbox) → new ≡ all ++ m ∷ [] → m.node ≡ n →
    map (λ m. m.node) all ≡ range_with_len 0 n → map (λ m. m.node) new ≡ range_with_len 0 (n + 1)
unfolding number_of
one_more all new n m pushed own e =
    let b : 0 + n ≡ n = omega arith in
    ap (map number_of) pushed ∙ map-append number_of all (m ∷ []) ∙ ap₂ (λ l k. l ++ k ∷ []) e (own ∙ sym b)
    ∙ sym (range_split 0 n 1)

abbrev pub place_of : ℕ → ℕ → List (ℕ × List ℕ) → List (ℕ × Option (List ℕ)) → Place
place_of node nodes sent looks = record { node = node; nodes = nodes; sent = sent; looks = looks }

abbrev traffic_with : List (ℕ × List ℕ) → List (List ℕ) → Traffic
traffic_with sent taken = record { sent = sent; taken = taken }

-- what is posted, and what a look tells
pub posted_in : (node nodes to : ℕ) (bytes : List ℕ) (posted : Posted) (was now : List Posted)
    (looks : List (ℕ × Option (List ℕ))) → now ≡ was ++ posted ∷ [] → posted.to ≡ to → posted.message.value.items ≡ bytes →
    place_of node nodes (map posted_value now) looks ≡ posts to bytes (place_of node nodes (map posted_value was) looks)
posted_in node nodes to bytes posted was now looks more at whole =
    ap (λ l. place_of node nodes l looks) (
    ap (map posted_value) more ∙ map-append posted_value was (posted ∷ [])
    ∙ ap (λ p. map posted_value was ++ p ∷ []) (ap₂ (λ n b. (n, b)) at whole)
    )

pub found_in : (node nodes : ℕ) (found : Option (Vec ℕ Global)) (look : Look) (was now : List Look)
    (sent : List (ℕ × List ℕ)) → now ≡ was ++ look ∷ [] → look.node ≡ node → found ≡ look.found →
    place_of node nodes sent (map look_value now) ≡ finds (option_map (λ m. m.items) found)
    (place_of node nodes sent (map look_value was))
found_in node nodes found look was now sent more at same =
    ap (place_of node nodes sent) (
    ap (map look_value) more ∙ map-append look_value was (look ∷ [])
    ∙ ap (λ l. map look_value was ++ l ∷ [])
    (ap₂ (λ n (f : Option (Vec ℕ Global)). (n, option_map (λ m. m.items) f)) at (sym same))
    )

-- what a look finds is taken
pub traffic_found : (found : Option (List ℕ)) (p : Place) → traffic_of (finds found p) ≡ takes found (traffic_of p)
traffic_found None p =
    ap (traffic_with p.sent) (flat_map-append (λ look. messages_of look.1) p.looks ((p.node, None) ∷ []) ∙ append-nil _)
traffic_found (Some message) p =
    ap (traffic_with p.sent) (flat_map-append (λ look. messages_of look.1) p.looks ((p.node, Some message) ∷ []))

-- one wire more
pub one_wire_more : (was now : List Place) (nodes node of : ℕ) (sent : List Posted) (looks : List Look) →
    now ≡ was ++ record { node = node; nodes = of; sent = map posted_value sent; looks = map look_value looks } ∷ [] →
    was ≡ map (new_place nodes) (range_with_len 0 node) → of ≡ nodes → sent ≡ [] → looks ≡ [] →
    now ≡ map (new_place nodes) (range_with_len 0 (node + 1))
one_wire_more was now nodes node of sent looks pushed made all none none_too =
    pushed
    ∙ ap₂ (λ ws n. ws ++ place_of node n (map posted_value sent) (map look_value looks) ∷ []) made all
    ∙ ap₂ (λ s l. map (new_place nodes) (range_with_len 0 node) ++ place_of node nodes (map posted_value s) (map look_value l) ∷ [])
    none none_too
    ∙ sym (map-range_with_len_more (new_place nodes) 0 node node (omega arith))
