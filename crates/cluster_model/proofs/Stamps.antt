-- Each key that is carried anywhere was issued, no stamp is issued twice, and a stamp names one name and one key.
use Rattle.std.proofs.Common.{◌≡◌, ℕ, ◌+◌, ◌<◌, ◌≤◌, ◌==◌, ◌&&◌, Bool, true, false, cond, List, [], ◌∷◌, ◌++◌, length, ◌⊎◌, inl, inr, refl, sym, ◌∙◌, ap, subst, arith, ⊎_elim, Option, Some, None}
use Rattle.std.proofs.lemmas.Bool.{eqb-true, eq-eqb, and_parts, and_from, cases_lt, cases_eq}
use Rattle.std.proofs.lemmas.List.{length-map}
use Rattle.std.proofs.lemmas.List.Sums.{sum_by-cons, sum_by-append}
use Rattle.std.specs.Prelude.{count_by}
use Rattle.std.specs.Str.{bytes_eq}
use Rattle.stamp_register.specs.declared.key.Stamp.{Stamp}
use Rattle.stamp_register.specs.Keys.{KeyValue, stamp_of}
use Rattle.operations.specs.Operations.{Operation, Set, Count, IsIn}
use Rattle.replica_state.specs.States.{State}
use Rattle.replica_state.specs.Folds.{fold, key_in}
use Rattle.replica_state.proofs.Orders.{bytes_eq-true}
use Rattle.replica_state.proofs.Sets.{Carries, key_of-found}
use Rattle.operations.proofs.Members.{IsIn-append_left, IsIn-append_right, IsIn-append_cases}
use Rattle.node_calls.specs.Asks.{Asked, Message}
use Rattle.node_calls.specs.Asks as asks
use Rattle.node_steps.specs.Nodes.{Node, state_shown}
use Rattle.node_core.specs.Steps.{after, shift_under}
use Rattle.node_steps.specs.Settings.{settings, operations_issued, new_key, points_in}
use Rattle.cluster_model.specs.Worlds.{Cluster, World, Event, accepted, node_after, world}
use Rattle.cluster_model.specs.Schedules.{Allows, IsSchedule}
use Rattle.cluster_model.specs.Histories.{state_of, ops_issued, keys_by, keys_issued, IsIssued}
use Rattle.cluster_model.specs.Laws.{has_stamp}
use Rattle.cluster_model.proofs.Steps.{asked_is, delivered_from, sent_was_held, gains}
use Rattle.cluster_model.proofs.Passes.{Outcome, NotSet, Nothing, Triggered, IsOutcome, ops_of, outcome_of}

-- ---- carried keys

pub carried_name : (name n : List ℕ) (key k : KeyValue) → cond (bytes_eq n name) (Some k) None ≡ Some key →
    (n ≡ name) × (k ≡ key)
carried_name name n key k h = at (bytes_eq n name) (bytes_eq-true n name) h
  where
    at : (t : Bool) → (t ≡ true → n ≡ name) → cond t (Some k) None ≡ Some key → (n ≡ name) × (k ≡ key)
    at true f e = (f refl, cc)
    at false f e = absurd (let impossible : ◌≡◌ {A = Option KeyValue} None (Some key) = e in cc)

none_carried : (name : List ℕ) (key : KeyValue) (op other : Operation) → op ≡ other → key_in name other ≡ None →
    key_in name op ≡ Some key → ⊥
none_carried name key op other e n c = let impossible : ◌≡◌ {A = Option KeyValue} None (Some key) = sym n ∙
    sym (ap (key_in name) e) ∙ c in cc

issued_carries : (name : List ℕ) (key : KeyValue) (i clock : ℕ) (all : List (List ℕ × Option (List ℕ)))
    (op : Operation) → IsIn op (operations_issued i clock all) → key_in name op ≡ Some key →
    IsIn (Set name key) (operations_issued i clock all)
issued_carries name key i clock [] op h c = absurd h
issued_carries name key i clock (setting ∷ rest) op (inl e) c =
    let parts = carried_name name setting.0 key (new_key i clock setting.1) (sym (ap (key_in name) e) ∙ c) in
    inl (λ r. Set (sym parts.0 r) (sym parts.1 r))
issued_carries name key i clock (setting ∷ rest) op (inr h) c = inr (issued_carries name key i (clock + 1) rest op h c)

-- what a pass, a shift and a grant issue carries no key but the node's own
under_name : (name n : List ℕ) (key k : KeyValue) (v : State) → v.key n ≡ Some k →
    cond (bytes_eq n name) (Some k) None ≡ Some key → v.key name ≡ Some key
under_name name n key k v u h =
    let parts = carried_name name n key k h in
    subst (λ m. v.key m ≡ Some key) parts.0 (u ∙ ap Some parts.1)

pass_carries : (i : ℕ) (v : State) (other name : List ℕ) (key : KeyValue) (o : Outcome) → IsOutcome i v other o →
    (op : Operation) → IsIn op (ops_of i v other o) → key_in name op ≡ Some key → v.key name ≡ Some key
pass_carries i v other name key NotSet is op h c = absurd h
pass_carries i v other name key (Nothing k) is op (inl e) c = absurd (none_carried name key op _ e refl c)
pass_carries i v other name key (Nothing k) is op (inr h) c = absurd h
pass_carries i v other name key (Triggered k term None task) is op (inl e) c =
    absurd (none_carried name key op _ e refl c)
pass_carries i v other name key (Triggered k term None task) is op (inr h) c = absurd h
pass_carries i v other name key (Triggered k term (Some count) task) is op (inl e) c =
    under_name name other key k v is.under (sym (ap (key_in name) e) ∙ c)
pass_carries i v other name key (Triggered k term (Some count) task) is op (inr (inl e)) c =
    absurd (none_carried name key op _ e refl c)
pass_carries i v other name key (Triggered k term (Some count) task) is op (inr (inr h)) c = absurd h

shift_carries : (i : ℕ) (v : State) (other name : List ℕ) (term to amount : ℕ) (key : KeyValue) (k : Option KeyValue) →
    v.key other ≡ k → (op : Operation) → IsIn op (shift_under i v other term to amount k) → key_in name op ≡ Some key →
    v.key name ≡ Some key
shift_carries i v other name term to amount key None u op h c = absurd h
shift_carries i v other name term to amount key (Some k) u op (inl e) c =
    under_name name other key k v u (sym (ap (key_in name) e) ∙ c)
shift_carries i v other name term to amount key (Some k) u op (inr h) c = absurd h

-- what a node issues carries a new key, or the key that the node holds
pub own_carries : (i : ℕ) (n : Node) (a : Option Asked) (words name : List ℕ) (key : KeyValue) (op : Operation) →
    IsIn op (ops_issued i n a words) → key_in name op ≡ Some key →
    IsIn (Set name key) (keys_by i n a) ⊎ ((state_shown n).key name ≡ Some key)
own_carries i n None words name key op h c = absurd h
own_carries i n (Some (asks.Deliver read)) words name key op h c = absurd h
own_carries i n (Some (asks.Emit to versions chosen)) words name key op h c = absurd h
own_carries i n (Some (asks.Pass other)) words name key op h c =
    let o = outcome_of i (state_shown n) other words in
    inr (pass_carries i (state_shown n) other name key o.outcome o.is op (subst (λ os. IsIn op os) o.ops h) c)
own_carries i n (Some (asks.Shift other term to amount)) words name key op h c =
    inr (shift_carries i (state_shown n) other name term to amount key ((state_shown n).key other) refl op h c)
own_carries i n (Some (asks.Grant other term amount)) words name key op h c =
    inr (shift_carries i (state_shown n) other name term i amount key ((state_shown n).key other) refl op h c)
own_carries i n (Some (asks.Set other text)) words name key op h c =
    inl (issued_carries name key i n.marks.clock (settings (asks.Set other text)) op h c)
own_carries i n (Some (asks.Remove other)) words name key op h c =
    inl (issued_carries name key i n.marks.clock (settings (asks.Remove other)) op h c)
own_carries i n (Some (asks.Load text)) words name key op h c =
    inl (issued_carries name key i n.marks.clock (settings (asks.Load text)) op h c)

-- keys are issued by the node that is asked
issued_here : (c : Cluster) (w : World) (e : Event) (i : ℕ) (op : Operation) →
    IsIn op (keys_by i (w.node i) (accepted c w e i)) → i ≡ e.node
issued_here c w e i op h = at (accepted c w e i) refl h
  where
    at : (a : Option Asked) → accepted c w e i ≡ a → IsIn op (keys_by i (w.node i) a) → i ≡ e.node
    at None p q = absurd q
    at (Some ask) p q = (asked_is c w e i ask p).here

pub record IsCarried (c : Cluster) (es : List Event) : Type 0 where
  pub held : (i : ℕ) (op : Operation) → IsIn op ((world c es).node i).ops → (name : List ℕ) (key : KeyValue) →
      key_in name op ≡ Some key → IsIssued c es name key
  pub sent : (m : Message) → IsIn m (world c es).messages → (op : Operation) → IsIn op m.ops →
      (name : List ℕ) (key : KeyValue) → key_in name op ≡ Some key → IsIssued c es name key

pub held_carrier : (ops : List Operation) (name : List ℕ) (key : KeyValue) → (fold ops).key name ≡ Some key →
    Carries name key ops
unfolding fold
held_carrier ops name key h = key_of-found name key ops h

pub under_issued : (c : Cluster) (es : List Event) → IsCarried c es → (i : ℕ) (name : List ℕ) (key : KeyValue) →
    (state_of c es i).key name ≡ Some key → IsIssued c es name key
under_issued c es carried i name key h =
    let found = held_carrier ((world c es).node i).ops name key h in
    carried.held i found.op found.held name key found.carries

carried_after : (c : Cluster) (es : List Event) (e : Event) →
    Allows (world c es) e.node (accepted c (world c es) e e.node) → IsCarried c es → IsCarried c (e ∷ es)
carried_after c es e allowed carried =
    record {
      held = λ i op h name key k. ⊎_elim
          (λ l. ⊎_elim
          (λ m. IsIn-append_left _ _ _ (subst (λ j. IsIn (Set name key)
          (keys_by j ((world c es).node j) (accepted c (world c es) e j)))
          (issued_here c (world c es) e i (Set name key) m) m))
          (λ m. IsIn-append_right _ _ _ (under_issued c es carried i name key m))
          (own_carries i ((world c es).node i) (accepted c (world c es) e i) e.words name key op l k))
          (λ l. IsIn-append_right _ _ _ (⊎_elim
          (λ m. delivered_from c (world c es) e i (λ o. key_in name o ≡ Some key → IsIssued c es name key) allowed
          (λ m h op g. carried.sent m h op g name key) op m k)
          (λ m. carried.held i op m name key k)
          l))
          (gains i ((world c es).node i) (accepted c (world c es) e i) e.words op h);
      sent = λ m h op k name key l. IsIn-append_right _ _ _ (⊎_elim
          (λ g. carried.sent m g op k name key l)
          (λ g. carried.held e.node op (sent_was_held c (world c es) e e.node allowed m g op k) name key l)
          (IsIn-append_cases m _ _ h));
    }

pub carried : (c : Cluster) (es : List Event) → IsSchedule c es → IsCarried c es
carried c [] s = record { held = λ i op h. absurd h; sent = λ m h. absurd h }
carried c (e ∷ es) s = carried_after c es e s.0 (carried c es s.1)

-- ---- stamps

-- the keys of one node's call have clocks just above its clock, one apart
pub record IsNew (i low high : ℕ) (key : KeyValue) : Type 0 where
  pub above : low < key.clock
  pub upto : key.clock ≤ high
  pub node : key.node ≡ i

first_key : (i clock : ℕ) (setting : List ℕ × Option (List ℕ)) (name : List ℕ) (key : KeyValue) →
    Set name key ≡ Set setting.0 (new_key i clock setting.1) → (name ≡ setting.0) × (key ≡ new_key i clock setting.1)
first_key i clock setting name key e = (cc, cc)

issued_new : (i clock : ℕ) (all : List (List ℕ × Option (List ℕ))) (name : List ℕ) (key : KeyValue) →
    IsIn (Set name key) (operations_issued i clock all) → IsNew i clock (clock + length all) key
issued_new i clock [] name key h = absurd h
issued_new i clock (setting ∷ rest) name key (inl e) =
    let keys = (first_key i clock setting name key e).1 in
    let clocks : key.clock ≡ clock + 1 = ap (λ (k : KeyValue). k.clock) keys in
    record { above = omega arith; upto = omega arith; node = ap (λ (k : KeyValue). k.node) keys }
issued_new i clock (setting ∷ rest) name key (inr h) =
    let r = issued_new i (clock + 1) rest name key h in
    let low = r.above in
    let high = r.upto in
    record { above = omega arith; upto = omega arith; node = r.node }

pub clock_grows : (i : ℕ) (n : Node) (a : Option Asked) (words : List ℕ) →
    n.marks.clock ≤ (node_after i n a words).marks.clock
unfolding after
clock_grows i n None words = omega arith
clock_grows i n (Some (asks.Set name text)) words = omega arith
clock_grows i n (Some (asks.Remove name)) words = omega arith
clock_grows i n (Some (asks.Load text)) words = omega arith
clock_grows i n (Some (asks.Pass name)) words = omega arith
clock_grows i n (Some (asks.Shift name term to amount)) words = omega arith
clock_grows i n (Some (asks.Grant name term amount)) words = omega arith
clock_grows i n (Some (asks.Emit to versions chosen)) words = omega arith
clock_grows i n (Some (asks.Deliver read)) words = omega arith

keys_new : (i : ℕ) (n : Node) (a : Option Asked) (words name : List ℕ) (key : KeyValue) →
    IsIn (Set name key) (keys_by i n a) → IsNew i n.marks.clock (node_after i n a words).marks.clock key
unfolding after
keys_new i n None words name key h = absurd h
keys_new i n (Some (asks.Set other text)) words name key h =
    issued_new i n.marks.clock (settings (asks.Set other text)) name key h
keys_new i n (Some (asks.Remove other)) words name key h = issued_new i n.marks.clock (settings (asks.Remove other))
    name key h
keys_new i n (Some (asks.Load text)) words name key h =
    let new = issued_new i n.marks.clock (settings (asks.Load text)) name key h in
    let as_many : length (settings (asks.Load text)) ≡ length (points_in text) = length-map (points_in text) _ in
    let upto = new.upto in
    record { above = new.above; upto = omega arith; node = new.node }
keys_new i n (Some (asks.Pass other)) words name key h = absurd h
keys_new i n (Some (asks.Shift other term to amount)) words name key h = absurd h
keys_new i n (Some (asks.Grant other term amount)) words name key h = absurd h
keys_new i n (Some (asks.Emit to versions chosen)) words name key h = absurd h
keys_new i n (Some (asks.Deliver read)) words name key h = absurd h

keys_below : (c : Cluster) (w : World) (e : Event) (op : Operation) →
    IsIn op (keys_by e.node (w.node e.node) (accepted c w e e.node)) → e.node < c.nodes
keys_below c w e op h = at (accepted c w e e.node) refl h
  where
    at : (a : Option Asked) → accepted c w e e.node ≡ a → IsIn op (keys_by e.node (w.node e.node) a) → e.node < c.nodes
    at None p q = absurd q
    at (Some ask) p q = (asked_is c w e e.node ask p).below

-- an issued key's clock is at most its node's, and that is a node of the cluster
pub record IsPast (c : Cluster) (es : List Event) (key : KeyValue) : Type 0 where
  pub clock : key.clock ≤ ((world c es).node key.node).marks.clock
  pub node : key.node < c.nodes

pub issued_past : (c : Cluster) (es : List Event) (name : List ℕ) (key : KeyValue) → IsIssued c es name key →
    IsPast c es key
issued_past c [] name key h = absurd h
issued_past c (e ∷ es) name key h = ⊎_elim now (λ k. before (issued_past c es name key k))
    (IsIn-append_cases (Set name key) (keys_by e.node ((world c es).node e.node) (accepted c (world c es) e e.node))
    (keys_issued c es) h)
  where
    now : IsIn (Set name key) (keys_by e.node ((world c es).node e.node) (accepted c (world c es) e e.node)) →
        IsPast c (e ∷ es) key
    now k =
        let new = keys_new e.node ((world c es).node e.node) (accepted c (world c es) e e.node) e.words name key k in
        let below = keys_below c (world c es) e (Set name key) k in
        let here = new.node in
        record {
          clock = subst (λ j. key.clock ≤ ((world c (e ∷ es)).node j).marks.clock) (sym here) new.upto;
          node = omega arith;
        }

    before : IsPast c es key → IsPast c (e ∷ es) key
    before past =
        let clock = past.clock in
        let grows = clock_grows key.node ((world c es).node key.node) (accepted c (world c es) e key.node) e.words in
        record { clock = omega arith; node = past.node }

-- ---- no stamp is issued twice

count_cons : (test : Operation → Bool) (op : Operation) (ops : List Operation) →
    count_by test (op ∷ ops) ≡ cond (test op) 1 0 + count_by test ops
count_cons test op ops = sum_by-cons (λ o. cond (test o) 1 0) op ops

has_not : (stamp : Stamp) (op : Operation) → ((name : List ℕ) (key : KeyValue) → Set name key ≡ op →
    key.clock ≡ stamp.clock → key.node ≡ stamp.node → ⊥) → has_stamp stamp op ≡ false
has_not stamp (Count cell number) f = refl
has_not stamp (Set name key) f = at (key.clock == stamp.clock && (key.node == stamp.node)) refl
  where
    at : (t : Bool) → (key.clock == stamp.clock && (key.node == stamp.node)) ≡ t → t ≡ false
    at false p = refl
    at true p =
        let both = and_parts (key.clock == stamp.clock) _ p in
        absurd (f name key refl (eqb-true key.clock stamp.clock both.0) (eqb-true key.node stamp.node both.1))

none_has : (stamp : Stamp) (ops : List Operation) → ((name : List ℕ) (key : KeyValue) → IsIn (Set name key) ops →
    key.clock ≡ stamp.clock → key.node ≡ stamp.node → ⊥) → count_by (has_stamp stamp) ops ≡ 0
none_has stamp [] f = refl
none_has stamp (op ∷ ops) f =
    let first : has_stamp stamp op ≡ false = has_not stamp op (λ name key e. f name key (inl e)) in
    let zero : ◌≡◌ {A = ℕ} (cond (has_stamp stamp op) 1 0) 0 = ap (λ b. cond b 1 0) first in
    let rest = none_has stamp ops (λ name key h. f name key (inr h)) in
    let whole = count_cons (has_stamp stamp) op ops in
    omega arith

one_at_most : (b : Bool) → cond b 1 0 ≤ 1
one_at_most true = omega arith
one_at_most false = omega arith

issued_once : (stamp : Stamp) (i clock : ℕ) (all : List (List ℕ × Option (List ℕ))) →
    count_by (has_stamp stamp) (operations_issued i clock all) ≤ 1
issued_once stamp i clock [] = omega arith
issued_once stamp i clock (setting ∷ rest) = at (cases_eq (clock + 1) stamp.clock)
    (issued_once stamp i (clock + 1) rest)
  where
    first : Operation
    first = Set setting.0 (new_key i clock setting.1)

    at : (clock + 1 ≡ stamp.clock) ⊎ (clock + 1 ≡ stamp.clock → ⊥) →
        count_by (has_stamp stamp) (operations_issued i (clock + 1) rest) ≤ 1 →
        count_by (has_stamp stamp) (operations_issued i clock (setting ∷ rest)) ≤ 1
    at (inl same) later =
        let none = none_has stamp (operations_issued i (clock + 1) rest)
        (λ name key h c d. let above = (issued_new i (clock + 1) rest name key h).above in omega arith) in
        let one = one_at_most (has_stamp stamp first) in
        let whole = count_cons (has_stamp stamp) first (operations_issued i (clock + 1) rest) in
        omega arith
    at (inr other) later =
        let is_not : has_stamp stamp first ≡ false = has_not stamp first (λ name key e c d.
        let clocks : key.clock ≡ clock + 1 = ap (λ (k : KeyValue). k.clock) (first_key i clock setting name key e).1 in
        other (sym clocks ∙ c)) in
        let zero : ◌≡◌ {A = ℕ} (cond (has_stamp stamp first) 1 0) 0 = ap (λ b. cond b 1 0) is_not in
        let whole = count_cons (has_stamp stamp) first (operations_issued i (clock + 1) rest) in
        omega arith

keys_once : (stamp : Stamp) (i : ℕ) (n : Node) (a : Option Asked) → count_by (has_stamp stamp) (keys_by i n a) ≤ 1
keys_once stamp i n None = omega arith
keys_once stamp i n (Some ask) = issued_once stamp i n.marks.clock (settings ask)

pub stamp_once : (c : Cluster) (es : List Event) (stamp : Stamp) → count_by (has_stamp stamp) (keys_issued c es) ≤ 1
stamp_once c [] stamp = omega arith
stamp_once c (e ∷ es) stamp = at (cases_lt ((world c es).node stamp.node).marks.clock stamp.clock)
    (stamp_once c es stamp)
  where
    new : List Operation
    new = keys_by e.node ((world c es).node e.node) (accepted c (world c es) e e.node)

    whole : count_by (has_stamp stamp) (new ++ keys_issued c es) ≡ count_by (has_stamp stamp) new + count_by
        (has_stamp stamp) (keys_issued c es)
    whole = sum_by-append (λ o. cond (has_stamp stamp o) 1 0) new (keys_issued c es)

    at : (((world c es).node stamp.node).marks.clock < stamp.clock) ⊎
        (stamp.clock ≤ ((world c es).node stamp.node).marks.clock) → count_by (has_stamp stamp) (keys_issued c es) ≤ 1 →
        count_by (has_stamp stamp) (new ++ keys_issued c es) ≤ 1
    at (inl above) before =
        let none = none_has stamp (keys_issued c es) (λ name key h same_clock same_node.
        let past = subst (λ j. key.clock ≤ ((world c es).node j).marks.clock) same_node
        (issued_past c es name key h).clock in
        omega arith) in
        let one = keys_once stamp e.node ((world c es).node e.node) (accepted c (world c es) e e.node) in
        let all = whole in
        omega arith
    at (inr upto) before =
        let none = none_has stamp new (λ name key h same_clock same_node.
        let is_new = keys_new e.node ((world c es).node e.node) (accepted c (world c es) e e.node) e.words name key h in
        let above : ((world c es).node stamp.node).marks.clock < key.clock =
        subst (λ j. ((world c es).node j).marks.clock < key.clock) (sym is_new.node ∙ same_node) is_new.above in
        omega arith) in
        let all = whole in
        omega arith

-- ---- a stamp names one name and one key

counted : (test : Operation → Bool) (ops : List Operation) (op : Operation) → IsIn op ops → test op ≡ true →
    1 ≤ count_by test ops
counted test [] op h t = absurd h
counted test (o ∷ ops) op (inl e) t =
    let one : ◌≡◌ {A = ℕ} (cond (test o) 1 0) 1 = ap (λ b. cond b 1 0) (sym (ap test e) ∙ t) in
    let whole = count_cons test o ops in
    omega arith
counted test (o ∷ ops) op (inr h) t =
    let rest = counted test ops op h t in
    let whole = count_cons test o ops in
    omega arith

only_one : (test : Operation → Bool) (ops : List Operation) → count_by test ops ≤ 1 → (a b : Operation) → IsIn a ops →
    IsIn b ops → test a ≡ true → test b ≡ true → a ≡ b
only_one test [] most a b h g s t = absurd h
only_one test (o ∷ ops) most a b (inl p) (inl q) s t = p ∙ sym q
only_one test (o ∷ ops) most a b (inl p) (inr g) s t =
    let one : ◌≡◌ {A = ℕ} (cond (test o) 1 0) 1 = ap (λ b. cond b 1 0) (sym (ap test p) ∙ s) in
    let more = counted test ops b g t in
    let whole = count_cons test o ops in
    absurd (omega arith)
only_one test (o ∷ ops) most a b (inr h) (inl q) s t =
    let one : ◌≡◌ {A = ℕ} (cond (test o) 1 0) 1 = ap (λ b. cond b 1 0) (sym (ap test q) ∙ t) in
    let more = counted test ops a h s in
    let whole = count_cons test o ops in
    absurd (omega arith)
only_one test (o ∷ ops) most a b (inr h) (inr g) s t = only_one test ops
    (let whole = count_cons test o ops in omega arith) a b h g s t

has_own : (name : List ℕ) (key : KeyValue) (stamp : Stamp) → key.clock ≡ stamp.clock → key.node ≡ stamp.node →
    has_stamp stamp (Set name key) ≡ true
has_own name key stamp p q = and_from _ _ (eq-eqb key.clock stamp.clock p) (eq-eqb key.node stamp.node q)

-- of all keys issued, the one with the key's clock and node is this key, and was issued for this name
abbrev pub OneStamp : Cluster → List Event → List ℕ → KeyValue → Type 0
OneStamp c es name key = (other : List ℕ) (k : KeyValue) → IsIssued c es other k → k.clock ≡ key.clock →
    k.node ≡ key.node → (other ≡ name) × (k ≡ key)

pub one_stamp : (c : Cluster) (es : List Event) (name : List ℕ) (key : KeyValue) → IsIssued c es name key →
    OneStamp c es name key
one_stamp c es name key h other k g p q =
    let same : Set other k ≡ Set name key = only_one (has_stamp (stamp_of key)) (keys_issued c es)
    (stamp_once c es (stamp_of key)) (Set other k) (Set name key) g h (has_own other k (stamp_of key) p q)
    (has_own name key (stamp_of key) refl refl) in
    (cc, cc)

pub stamp_is_one_key : (c : Cluster) (es : List Event) (name other : List ℕ) (key another : KeyValue) →
    IsIssued c es name key → IsIssued c es other another → stamp_of key ≡ stamp_of another →
    (name ≡ other) × (key ≡ another)
stamp_is_one_key c es name other key another h g p = one_stamp c es other another g name key h
    (ap (λ (s : Stamp). s.clock) p) (ap (λ (s : Stamp). s.node) p)

-- a schedule one event shorter issued no other keys
pub one_before : (c : Cluster) (e : Event) (es : List Event) (name : List ℕ) (key : KeyValue) →
    OneStamp c (e ∷ es) name key → OneStamp c es name key
one_before c e es name key one other k h = one other k (IsIn-append_right _ _ _ h)
