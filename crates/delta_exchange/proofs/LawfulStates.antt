-- What the state of lawful operations holds: names that can be told, each with a key, and cells of its nodes and terms.
use Rattle.std.proofs.Common.{◌≡◌, ◌≢◌, ℕ, ◌<◌, Bool, true, false, cond, List, Some, None, refl, subst, arith}
use Rattle.std.specs.Prelude.{is_some, IsTrue}
use Rattle.actions.specs.Names.{is_name}
use Rattle.stamp_register.specs.Keys.{KeyValue}
use Rattle.operations.specs.Operations.{Operation, Set, Count, Hits, Execs, Shifts, IsIn, name_in}
use Rattle.replica_state.specs.States.{State}
use Rattle.replica_state.specs.Folds.{fold, key_in, key_of, number_at, names_of, at_key}
use Rattle.replica_state.proofs.KnownSets.{own_name}
use Rattle.replica_state.proofs.Sets.{number_held, key_of-found}
use Rattle.replica_state.proofs.Names.{IsAscending, names_of-ascending, names_of-holds, holds-names_of, HoldsName, key_named, hit_named}
use Rattle.message_format.specs.Spelling.{IsKey, IsCountedTerm}
use Rattle.delta_exchange.specs.Wholes.{IsLawful, AreLawful}
use Rattle.delta_exchange.proofs.LawfulLemmas.{set_is_keyed, is_keyed}

-- ---- the key that an operation carries

key_lawful : (nodes : ℕ) (op : Operation) (name : List ℕ) (key : KeyValue) → IsLawful nodes op →
    key_in name op ≡ Some key → IsKey nodes key
key_lawful nodes op name key h e = at op h (carried op name key e)
  where
    -- the operation has it
    Has : Operation → KeyValue → Type 0
    Has (Set n k) key = k ≡ key
    Has (Count (Hits n node) number) key = ⊥
    Has (Count (Execs n k term node) number) key = k ≡ key
    Has (Count (Shifts n k term from to) number) key = k ≡ key

    under : (b : Bool) (k key : KeyValue) → cond b (Some k) None ≡ Some key → k ≡ key
    under true k key e = cc
    under false k key e = absurd cc

    carried : (op : Operation) (name : List ℕ) (key : KeyValue) → key_in name op ≡ Some key → Has op key
    carried (Set n k) name key e = under _ k key e
    carried (Count (Hits n node) number) name key e = absurd cc
    carried (Count (Execs n k term node) number) name key e = under _ k key e
    carried (Count (Shifts n k term from to) number) name key e = under _ k key e

    at : (op : Operation) → IsLawful nodes op → Has op key → IsKey nodes key
    at (Set n k) h s = subst (IsKey nodes) s h.1
    at (Count (Hits n node) number) h s = absurd s
    at (Count (Execs n k term node) number) h s = subst (IsKey nodes) s h.1
    at (Count (Shifts n k term from to) number) h s = subst (IsKey nodes) s h.1

name_lawful : (nodes : ℕ) (op : Operation) → IsLawful nodes op → IsTrue (is_name (name_in op))
name_lawful nodes (Set n k) h = h.0
name_lawful nodes (Count (Hits n node) number) h = h.0
name_lawful nodes (Count (Execs n k term node) number) h = h.0
name_lawful nodes (Count (Shifts n k term from to) number) h = h.0

-- ---- the state

pub record IsLawfulState (nodes : ℕ) (v : State) : Type 0 where
  pub ascending : IsAscending v.names
  pub named : (name : List ℕ) → IsIn name v.names → IsTrue (is_name name)
  pub keyed : (name : List ℕ) → IsIn name v.names → IsTrue (is_some (v.key name))
  pub key_name : (name : List ℕ) (key : KeyValue) → v.key name ≡ Some key → IsIn name v.names
  pub key : (name : List ℕ) (key : KeyValue) → v.key name ≡ Some key → IsKey nodes key
  pub hit_name : (name : List ℕ) (node : ℕ) → v.hits name node ≢ 0 → IsIn name v.names
  pub hits : (name : List ℕ) (node : ℕ) → v.hits name node ≢ 0 → node < nodes
  pub execs : (name : List ℕ) (key : KeyValue) (term node : ℕ) → v.key name ≡ Some key → v.execs name term node ≢ 0 →
      IsCountedTerm key term × (node < nodes)
  pub shifts : (name : List ℕ) (key : KeyValue) (term from to : ℕ) → v.key name ≡ Some key →
      v.shifts name term from to ≢ 0
      → IsCountedTerm key term × (from < nodes) × (to < nodes)

module _ (nodes : ℕ) (ops : List Operation) (lawful : AreLawful nodes ops) where
  holds_in : (name : List ℕ) → HoldsName name ops → IsIn name (names_of ops)
  holds_in name h = subst (λ n. IsIn n (names_of ops)) h.named (holds-names_of ops h.op h.held h.counted)

  is_named : (name : List ℕ) → HoldsName name ops → IsTrue (is_name name)
  is_named name h = subst (λ n. IsTrue (is_name n)) h.named (name_lawful nodes h.op (lawful.each h.op h.held))

  op_keyed : (op : Operation) → IsIn op ops → IsTrue (is_some (key_of (name_in op) ops))
  op_keyed (Set n k) h = set_is_keyed n k ops h
  op_keyed (Count (Hits n node) number) h = lawful.keyed n node number h
  op_keyed (Count (Execs n k term node) number) h = is_keyed n k (Count (Execs n k term node) number) ops h
      (own_name n k)
  op_keyed (Count (Shifts n k term from to) number) h = is_keyed n k (Count (Shifts n k term from to) number) ops h
      (own_name n k)

  has_key : (name : List ℕ) → HoldsName name ops → IsTrue (is_some (key_of name ops))
  has_key name h = subst (λ n. IsTrue (is_some (key_of n ops))) h.named (op_keyed h.op h.held)

  its_key : (name : List ℕ) (key : KeyValue) → key_of name ops ≡ Some key → IsKey nodes key
  its_key name key e =
      let found = key_of-found name key ops e in
      key_lawful nodes found.op name key (lawful.each found.op found.held) found.carries

  its_hits : (name : List ℕ) (node : ℕ) → number_at (Hits name node) ops ≢ 0 → node < nodes
  its_hits name node h =
      let r = number_held (Hits name node) ops h in
      (lawful.each (Count (Hits name node) r.0) r.1).1

  its_execs : (name : List ℕ) (key : KeyValue) (term node : ℕ) → key_of name ops ≡ Some key →
      at_key (key_of name ops) (λ k. number_at (Execs name k term node) ops) ≢ 0
      → IsCountedTerm key term × (node < nodes)
  its_execs name key term node e h =
      let some = subst (λ o. at_key o (λ k. number_at (Execs name k term node) ops) ≢ 0) e h in
      let r = number_held (Execs name key term node) ops some in
      let one = lawful.each (Count (Execs name key term node) r.0) r.1 in
      (one.2, one.3)

  its_shifts : (name : List ℕ) (key : KeyValue) (term from to : ℕ) → key_of name ops ≡ Some key →
      at_key (key_of name ops) (λ k. number_at (Shifts name k term from to) ops) ≢ 0
      → IsCountedTerm key term × (from < nodes) × (to < nodes)
  its_shifts name key term from to e h =
      let some = subst (λ o. at_key o (λ k. number_at (Shifts name k term from to) ops) ≢ 0) e h in
      let r = number_held (Shifts name key term from to) ops some in
      let one = lawful.each (Count (Shifts name key term from to) r.0) r.1 in
      (one.2, one.3, one.4)

  pub lawful_state : IsLawfulState nodes (fold ops)
  unfolding fold
  lawful_state = record {
    ascending = names_of-ascending ops;
    named = λ name h. is_named name (names_of-holds name ops h);
    keyed = λ name h. has_key name (names_of-holds name ops h);
    key_name = λ name key e. holds_in name (key_named name ops (key, e));
    key = its_key;
    hit_name = λ name node h. holds_in name (hit_named name node 1 ops refl (omega (arith, h)));
    hits = its_hits;
    execs = its_execs;
    shifts = its_shifts;
  }
