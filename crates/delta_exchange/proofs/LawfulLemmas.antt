-- Operations that messages of a cluster can tell: none, those of two sets, and what a message tells.
use Rattle.std.proofs.Common.{◌≡◌, ℕ, List, [], ◌++◌, inl, inr, ⊎_elim, Option, Some, None, refl, sym, ap, subst}
use Rattle.std.specs.Prelude.{is_some, IsTrue}
use Rattle.stamp_register.specs.Keys.{KeyValue}
use Rattle.operations.specs.Operations.{Operation, Set, Count, Hits, IsIn}
use Rattle.replica_state.specs.Folds.{key_in, key_of}
use Rattle.replica_state.proofs.KnownSets.{own_name}
use Rattle.replica_state.proofs.Sets.{KeyUpto, key_of-is_in, key_of-mono}
use Rattle.operations.proofs.Members.{IsIn-append_left, IsIn-append_right, IsIn-append_cases}
use Rattle.message_format.specs.Messages.{EntryValue, MessageValue, operations_of, operations_in}
use Rattle.message_format.specs.Spelling.{IsHit, IsExec, IsShift, IsEntry, IsMessage}
use Rattle.delta_exchange.specs.Wholes.{IsLawful, AreLawful}
use Rattle.message_format.proofs.Members.{flat_in, in_flat, one_of}
use Rattle.message_format.proofs.Told.{IsTold, told_of}

-- ---- keys

some_upto : (a b : Option KeyValue) → KeyUpto a b → IsTrue (is_some a) → IsTrue (is_some b)
some_upto None b upto h = absurd cc
some_upto (Some k) None upto h = absurd upto
some_upto (Some k) (Some l) upto h = refl

-- a name of which an operation carries a key has one
pub is_keyed : (name : List ℕ) (key : KeyValue) (op : Operation) (ops : List Operation) → IsIn op ops →
    key_in name op ≡ Some key → IsTrue (is_some (key_of name ops))
is_keyed name key op ops h e = some_upto (key_in name op) (key_of name ops) (key_of-is_in name op ops h) (ap is_some e)

-- so has one that is set
pub set_is_keyed : (name : List ℕ) (key : KeyValue) (ops : List Operation) → IsIn (Set name key) ops →
    IsTrue (is_some (key_of name ops))
set_is_keyed name key ops h = is_keyed name key (Set name key) ops h (own_name name key)

-- a name with a key has one with more operations
pub keyed_with_more : (name : List ℕ) (a b : List Operation) → ((op : Operation) → IsIn op a → IsIn op b) →
    IsTrue (is_some (key_of name a)) → IsTrue (is_some (key_of name b))
keyed_with_more name a b more h = some_upto (key_of name a) (key_of name b) (key_of-mono name a b more) h

-- ---- none, and two sets

pub lawful_none : (nodes : ℕ) → AreLawful nodes []
lawful_none nodes = record { each = λ op h. absurd h; keyed = λ name node number h. absurd h }

pub lawful_together : (nodes : ℕ) (a b : List Operation) → AreLawful nodes a → AreLawful nodes b →
    AreLawful nodes (a ++ b)
lawful_together nodes a b h k = record {
  each = λ op m. ⊎_elim (h.each op) (k.each op) (IsIn-append_cases op a b m);
  keyed = λ name node number m. ⊎_elim
      (λ l. keyed_with_more name a (a ++ b) (λ op i. IsIn-append_left op a b i) (h.keyed name node number l))
      (λ l. keyed_with_more name b (a ++ b) (λ op i. IsIn-append_right op a b i) (k.keyed name node number l))
      (IsIn-append_cases (Count (Hits name node) number) a b m);
}

-- ---- what a message tells

module _ (e : EntryValue) where
  entry_lawful : (nodes : ℕ) → IsEntry nodes e → (op : Operation) → IsIn op (operations_of e) → IsLawful nodes op
  entry_lawful nodes h op k = by_kind (told_of e op k)
    where
      by_kind : IsTold e op → IsLawful nodes op
      by_kind (inl s) = subst (IsLawful nodes) (sym s) (h.name, h.key)
      by_kind (inr (inl (c, k, s))) =
          let one = one_of (IsHit nodes) e.hits h.hits c k in
          subst (IsLawful nodes) (sym s) (h.name, one.0, one.1.0)
      by_kind (inr (inr (inl (c, k, s)))) =
          let one = one_of (IsExec nodes e.key) e.execs h.execs c k in
          subst (IsLawful nodes) (sym s) (h.name, h.key, one.0, one.1, one.2.0)
      by_kind (inr (inr (inr (inl (c, k, s))))) =
          let one = one_of (IsShift nodes e.key) e.shifts h.shifts c k in
          subst (IsLawful nodes) (sym s) (h.name, h.key, one.0, one.1, one.2, one.4.0)
      by_kind (inr (inr (inr (inr (c, k, s))))) =
          let one = one_of (IsExec nodes e.key) e.grants h.grants c k in
          subst (IsLawful nodes) (sym s) (h.name, h.key, one.0, one.1, one.1, one.2.0)

  -- a hit that the entry tells is of its name
  hit_has_name : (name : List ℕ) (node number : ℕ) → IsIn (Count (Hits name node) number) (operations_of e) →
      e.name ≡ name
  hit_has_name name node number k = by_kind (told_of e (Count (Hits name node) number) k)
    where
      by_kind : IsTold e (Count (Hits name node) number) → e.name ≡ name
      by_kind (inl s) = absurd cc
      by_kind (inr (inl (c, k, s))) = cc
      by_kind (inr (inr (inl (c, k, s)))) = absurd cc
      by_kind (inr (inr (inr (inl (c, k, s))))) = absurd cc
      by_kind (inr (inr (inr (inr (c, k, s))))) = absurd cc

pub told_lawful : (nodes : ℕ) (m : MessageValue) → IsMessage nodes m → AreLawful nodes (operations_in m)
told_lawful nodes m h = record {
  each = λ op k.
      let r = in_flat operations_of m.entries op k in
      entry_lawful r.0 nodes (one_of (IsEntry nodes) m.entries h.entries.each r.0 r.1) op r.2;
  keyed = λ name node number k.
      let r = in_flat operations_of m.entries (Count (Hits name node) number) k in
      let there = flat_in operations_of m.entries r.0 (Set r.0.name r.0.key) r.1 (inl refl) in
      subst (λ (n : List ℕ). IsTrue (is_some (key_of n (operations_in m)))) (hit_has_name r.0 name node number r.2)
      (set_is_keyed r.0.name r.0.key (operations_in m) there);
}
