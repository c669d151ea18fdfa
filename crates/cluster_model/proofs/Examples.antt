-- What worked examples of schedules are written in. An example stands as a script: its first event first.
use Rattle.std.proofs.Common.{◌≡◌, ℕ, ◌&&◌, Bool, true, not, List, [], ◌∷◌, inl, inr, sym, ◌∙◌, ap, subst, arith, nat_le, Option, Some, None}
use Rattle.std.proofs.lemmas.Bool.{true≢false, and_parts, not-true, leb-true}
use Rattle.std.specs.Prelude.{reverse, option_map}
use Rattle.std.specs.Str.{bytes_eq}
use Rattle.stamp_register.specs.declared.key.Stamp.{Stamp}
use Rattle.stamp_register.specs.Keys.{KeyValue, same_key}
use Rattle.operations.specs.Operations.{Cell, Hits, Execs, Shifts, Operation, Set, Count, IsIn, same_cell}
use Rattle.replica_state.specs.Folds.{fold, key_in}
use Rattle.replica_state.specs.Deltas.{IsTold, IsDelta}
use Rattle.replica_state.proofs.Orders.{bytes_eq-true, same_key-true, same_cell-refl}
use Rattle.replica_state.proofs.Sets.{key_of-found}
use Rattle.replica_state.proofs.Telling.{all_differs}
use Rattle.node_calls.specs.Asks.{Asked, Answered, Message, Versions}
use Rattle.node_steps.specs.Nodes.{Marks}
use Rattle.node_core.specs.Steps.{reply}
use Rattle.cluster_model.specs.Worlds.{Cluster, World, Event, accepted, world}
use Rattle.cluster_model.specs.Schedules.{MaySend, MayTell}
use Rattle.cluster_model.proofs.Stamps.{carried_name}
use Rattle.cluster_model.proofs.Closed.{held_number, told_number}

abbrev pub nodes : ℕ → Cluster
nodes n = record { nodes = n; trace_cap = 100 }

abbrev pub event : ℕ → Asked → Event
event node ask = record { node = node; ask = ask; words = [] }

abbrev pub stamp : ℕ → ℕ → Stamp
stamp clock node = record { clock = clock; node = node }

abbrev pub key_at : ℕ → ℕ → List ℕ → KeyValue
key_at clock node text = record { clock = clock; node = node; body = Some text }

-- the versions that a node tells
abbrev pub versions : ℕ → ℕ → ℕ → Versions
versions base upto ack = record { base = base; upto = upto; ack = ack }

-- what a node tells that knew no version of the other, and its message
abbrev pub first_told : ℕ → Versions
first_told upto = record { base = 0; upto = upto; ack = 0 }

abbrev pub message : ℕ → ℕ → ℕ → List Operation → Message
message from to upto ops = record { from = from; to = to; base = 0; upto = upto; ack = 0; ops = ops }

-- what each event is answered, if it isn't refused
abbrev pub answer : Cluster → World → Event → Option Answered
answer c w e = option_map (λ ask. reply e.node (w.node e.node) ask e.words) (accepted c w e e.node)

abbrev pub last_answers : Cluster → List Event → List (Option Answered)
last_answers c [] = []
last_answers c (e ∷ es) = answer c (world c es) e ∷ last_answers c es

abbrev pub answers : Cluster → List Event → List (Option Answered)
answers c script = reverse (last_answers c (reverse script))

-- ---- what may be told, and what may be sent of one name

pub may_tell : (marks : Marks) (to upto : ℕ) → nat_le upto marks.version ≡ true → MayTell marks to (first_told upto)
may_tell marks to upto h = record { base = omega arith; upto = leb-true upto marks.version h; ack = omega arith }

abbrev pub is_of_cell : List ℕ → KeyValue → Cell → Bool
is_of_cell name key (Hits n node) = bytes_eq n name
is_of_cell name key (Execs n k term node) = bytes_eq n name && same_key k key
is_of_cell name key (Shifts n k term from to) = bytes_eq n name && same_key k key

abbrev pub is_of : List ℕ → KeyValue → Operation → Bool
is_of name key (Set n k) = bytes_eq n name && same_key k key
is_of name key (Count cell number) = is_of_cell name key cell

abbrev pub are_of : List ℕ → KeyValue → List Operation → Bool
are_of name key [] = true
are_of name key (op ∷ ops) = is_of name key op && are_of name key ops

abbrev pub is_other : Cell → Operation → Bool
is_other cell (Set n k) = true
is_other cell (Count other number) = not (same_cell cell other)

abbrev pub are_others : Cell → List Operation → Bool
are_others cell [] = true
are_others cell (op ∷ ops) = is_other cell op && are_others cell ops

abbrev pub is_first : Operation → List Operation → Bool
is_first (Set n k) ops = true
is_first (Count cell number) ops = are_others cell ops

abbrev pub is_once : List Operation → Bool
is_once [] = true
is_once (op ∷ ops) = is_first op ops && is_once ops

each_of : (name : List ℕ) (key : KeyValue) (ops : List Operation) → are_of name key ops ≡ true → (op : Operation) →
    IsIn op ops → is_of name key op ≡ true
each_of name key [] h op m = absurd m
each_of name key (o ∷ ops) h op (inl e) = ap (is_of name key) e ∙ (and_parts _ _ h).0
each_of name key (o ∷ ops) h op (inr m) = each_of name key ops (and_parts _ _ h).1 op m

none_same : (cell : Cell) (ops : List Operation) → are_others cell ops ≡ true → (number : ℕ) →
    IsIn (Count cell number) ops → ⊥
none_same cell [] h number m = m
none_same cell (op ∷ ops) h number (inl e) = true≢false (sym (same_cell-refl cell) ∙
    not-true _ (ap (is_other cell) e ∙ (and_parts _ _ h).0))
none_same cell (op ∷ ops) h number (inr m) = none_same cell ops (and_parts _ _ h).1 number m

each_once : (ops : List Operation) → is_once ops ≡ true → (cell : Cell) (a b : ℕ) → IsIn (Count cell a) ops →
    IsIn (Count cell b) ops → a ≡ b
each_once [] h cell a b p q = absurd p
each_once (op ∷ ops) h cell a b (inl p) (inl q) = let both : Count cell a ≡ Count cell b = p ∙ sym q in cc
each_once (op ∷ ops) h cell a b (inl p) (inr q) = absurd (none_same cell ops
    (ap (λ o. is_first o ops) p ∙ (and_parts _ _ h).0) b q)
each_once (op ∷ ops) h cell a b (inr p) (inl q) = absurd (none_same cell ops
    (ap (λ o. is_first o ops) q ∙ (and_parts _ _ h).0) a p)
each_once (op ∷ ops) h cell a b (inr p) (inr q) = each_once ops (and_parts _ _ h).1 cell a b p q

-- the name and the key that an operation carries
of_one : (name other : List ℕ) (key k : KeyValue) (op : Operation) → is_of name key op ≡ true →
    key_in other op ≡ Some k → (name ≡ other) × (key ≡ k)
of_one name other key k (Set n l) h c =
    let test = and_parts (bytes_eq n name) _ h in
    let parts = carried_name other n k l c in
    (sym (bytes_eq-true n name test.0) ∙ parts.0, sym (same_key-true l key test.1) ∙ parts.1)
of_one name other key k (Count (Hits n node) number) h c = absurd
    (let impossible : ◌≡◌ {A = Option KeyValue} None (Some k) = c in cc)
of_one name other key k (Count (Execs n l term node) number) h c =
    let test = and_parts (bytes_eq n name) _ h in
    let parts = carried_name other n k l c in
    (sym (bytes_eq-true n name test.0) ∙ parts.0, sym (same_key-true l key test.1) ∙ parts.1)
of_one name other key k (Count (Shifts n l term from to) number) h c =
    let test = and_parts (bytes_eq n name) _ h in
    let parts = carried_name other n k l c in
    (sym (bytes_eq-true n name test.0) ∙ parts.0, sym (same_key-true l key test.1) ∙ parts.1)

-- operations of one name and one key, with its setting and each cell once
pub may_send_one : (name : List ℕ) (key : KeyValue) (known chosen : List Operation) →
    ((op : Operation) → IsIn op chosen → IsIn op known) →
    are_of name key chosen ≡ true → is_once chosen ≡ true → IsIn (Set name key) chosen → MaySend known chosen
may_send_one name key known chosen held of once setting =
    record {
      held = held;
      one_key = λ other a b o p m n c d. sym (of_one name other key a o (each_of name key chosen of o m) c).1 ∙
          (of_one name other key b p (each_of name key chosen of p n) d).1;
      named = λ other k op m c. let parts = of_one name other key k op (each_of name key chosen of op m) c in
          subst (λ (o : Operation). IsIn o chosen) (λ i. Set (parts.0 i) (parts.1 i)) setting;
      with_hits = λ other node number m. (
        key,
        subst (λ n. IsIn (Set n key) chosen)
            (sym (bytes_eq-true other name (each_of name key chosen of (Count (Hits other node) number) m))) setting,
      );
      once = each_once chosen once;
    }

-- ---- what may be sent where each node sends what differs, of one name, to a node that is known to have nothing

-- what a set of one name and key tells, with its setting, it holds
told_held : (name : List ℕ) (key : KeyValue) (known : List Operation) → are_of name key known ≡ true →
    IsIn (Set name key) known → (op : Operation) → IsTold (fold known) op → IsIn op known
unfolding fold
told_held name key known of setting (Set n k) t =
    let found = key_of-found n k known t in
    let parts = of_one name n key k found.op (each_of name key known of found.op found.held) found.carries in
    subst (λ (o : Operation). IsIn o known) (λ i. Set (parts.0 i) (parts.1 i)) setting
told_held name key known of setting (Count cell number) t = held_number cell known number
    (told_number known cell number t) t.1

-- so it is enough to look at what it holds
pub all_of_one : (name : List ℕ) (key : KeyValue) (known chosen : List Operation) → are_of name key known ≡ true →
    IsIn (Set name key) known →
    ((op : Operation) → IsIn op chosen → IsTold (fold known) op) →
    ((op : Operation) → IsIn op known → IsTold (fold known) op → IsIn op chosen) →
    IsDelta (fold []) (fold known) chosen
all_of_one name key known chosen of setting told rest =
    all_differs (fold known) chosen (λ op. (told op, λ t. rest op (told_held name key known of setting op t) t))
