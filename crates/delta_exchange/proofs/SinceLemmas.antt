-- What changed after a version, as a message: it can be written, and it tells just the changes.
use Rattle.std.proofs.Common.{◌≡◌, ◌≢◌, ℕ, ◌<◌, ◌≤◌, ◌^◌, inl, inr, ⊎_elim, List, length, Option, Some, None, refl, sym, ap, subst, ◌∙◌, length-append, arith}
use Rattle.std.specs.Prelude.{◌↔◌, is_some, IsSome, IsTrue, map}
use Rattle.std.specs.List.{AllByRecursion, flat_map}
use Rattle.std.proofs.lemmas.Bool.{cases_eq}
use Rattle.stamp_register.specs.Keys.{KeyValue}
use Rattle.operations.specs.Operations.{Operation, Set, Count, Hits, Execs, Shifts, IsIn, name_in}
use Rattle.replica_state.specs.States.{State}
use Rattle.replica_state.specs.Cells.{held_at}
use Rattle.operations.specs.declared.counted.Counted.TheVariants as counted
use Rattle.delta_exchange.specs.declared.marks.Marks.{Marks}
use Rattle.delta_exchange.specs.Marks.{marks_value, AreUpto}
use Rattle.delta_exchange.specs.Changes.{LastChanges, IsChangeSince, IsChangedCell, IsUnchangedSince}
use Rattle.message_format.specs.Messages.{EntryValue, MessageValue, operations_of}
use Rattle.message_format.specs.Spelling.{Ascend, IsEntry, IsMessage, form_of, entry_bytes, message_bytes, max_message}
use Rattle.delta_exchange.specs.Cells.{EntryFits, EntriesFit}
use Rattle.delta_exchange.specs.Versions.{VersionedValue}
use Rattle.delta_exchange.specs.Since.{CanBeTold, IsInOrder, IsToldSince, TellsSince, IsMessageSince, entry_since}
use Rattle.message_format.proofs.Members.{all_of, flat_in, in_flat, one_of}
use Rattle.message_format.proofs.Told.{IsTold, told_of}
use Rattle.message_format.proofs.OneMessage.{hit_in, exec_in, shift_in, grant_in}
use Rattle.delta_exchange.proofs.LawfulStates.{IsLawfulState, lawful_state}
use Rattle.message_format.proofs.Sizes.{IsShort, length_flat, magic_short, entry_short}
use Rattle.delta_exchange.proofs.BelowLemmas.{ascends}
use Rattle.delta_exchange.proofs.SinceCells.{IsMarked, IsFewState, changes_of, hit_changed, changed_hit, hits_since_ascend, few_hits_since, exec_changed, changed_exec, execs_since_ascend, few_execs_since, shift_changed, changed_shift, shifts_since_ascend, few_shifts_since, grant_changed, changed_grant, grants_since_ascend, few_grants_since}
use Rattle.delta_exchange.proofs.SinceEntries.{all_since, AreOrdered, IsEntrySince, entry_member, few_entries, entries_ascend}
use Rattle.delta_exchange.proofs.SinceChanges.{AreMarks, told_change, entry_is, entry_changed}

some_key : (o : Option KeyValue) → IsTrue (is_some o) → (key : KeyValue) × (o ≡ Some key)
some_key None h = absurd cc
some_key (Some key) h = (key, refl)

module _ {v : State} {m : Marks} {base version : ℕ} (are : AreMarks v m base version) where
  abbrev Changes : Operation → Type 0
  Changes = IsToldSince v (changes_of m) base

  abbrev entries : List EntryValue
  entries = all_since v base m

  marks_of : {e : EntryValue} → (r : IsEntrySince v base m e) → IsMarked m r.name r.marks
  marks_of r = record { at = r.at; ordered = r.ordered }

  -- ---- what it tells changed

  entry_tells : (e : EntryValue) → IsEntrySince v base m e → (op : Operation) → IsIn op (operations_of e) → Changes op
  entry_tells e r op h = by_kind (told_of s op (subst (λ x. IsIn op (operations_of x)) r.is h))
    where
      s : EntryValue
      s = entry_since (held_at v r.name) r.name r.key base r.marks

      some : IsSome (v.key r.name)
      some = ap is_some r.keyed

      by_kind : IsTold s op → Changes op
      by_kind (inl e) = subst Changes (sym e) (some, (r.keyed, told_change v (marks_of r) base r.keyed r.told))
      by_kind (inr (inl (c, k, e))) = subst Changes (sym e) (some, hit_changed v (marks_of r) base c k)
      by_kind (inr (inr (inl (c, k, e)))) = subst Changes (sym e)
          (some, (r.keyed, exec_changed v (marks_of r) base r.keyed c k))
      by_kind (inr (inr (inr (inl (c, k, e))))) = subst Changes (sym e)
          (some, (r.keyed, (shift_changed v (marks_of r) base r.keyed c k).1))
      by_kind (inr (inr (inr (inr (c, k, e))))) = subst Changes (sym e)
          (some, (r.keyed, grant_changed v (marks_of r) base r.keyed c k))

  told_changed : (op : Operation) → IsIn op (flat_map operations_of entries) → Changes op
  told_changed op h =
      let r = in_flat operations_of entries op h in
      entry_tells r.0 (entry_member v base m are.ordered r.0 r.1) op r.2

  -- ---- what changed it tells

  changed_name : (name : List ℕ) (c : _) (number : ℕ) → IsChangedCell v (changes_of m) base name c number →
      IsUnchangedSince v (changes_of m) base name → ⊥
  changed_name name c number d same =
      let le = same.cell c (λ z. d.positive (d.is_now ∙ z)) in
      let lt = d.later in
      absurd (omega (arith, le, lt))

  changed_told : (op : Operation) → Changes op → IsIn op (flat_map operations_of entries)
  changed_told (Set name key) (keyed, d) =
      let r = entry_changed are name key d.0 d.1 in
      flat_in operations_of entries (entry_since (held_at v name) name key base r.0) (Set name key) r.2 (inl refl)
  changed_told (Count (Hits name node) number) (some, d) =
      let key = some_key (v.key name) some in
      let r = entry_changed are name key.0 key.1
      (changed_name name (counted.Hits node) number d) in
      let e = entry_since (held_at v name) name key.0 base r.0 in
      flat_in operations_of entries e (Count (Hits name node) number) r.2
      (hit_in e (node, number) (changed_hit v r.1 base node number d))
  changed_told (Count (Execs name key term node) number) (keyed, d) =
      let r = entry_changed are name key d.0
      (changed_name name (counted.Execs term node) number d.1) in
      let e = entry_since (held_at v name) name key base r.0 in
      flat_in operations_of entries e (Count (Execs name key term node) number) r.2
      (exec_in e (term, node, number) (changed_exec v r.1 base d.0 term node
      number d.1))
  changed_told (Count (Shifts name key term from to) number) (keyed, d) =
      let r = entry_changed are name key d.0
      (changed_name name (counted.Shifts term from to) number d.1) in
      let e = entry_since (held_at v name) name key base r.0 in
      flat_in operations_of entries e (Count (Shifts name key term from to) number) r.2 (⊎_elim
      (λ same.
      let own = subst (λ o. IsChangedCell v (changes_of m) base name (counted.Shifts term from o) number) same d.1 in
      let grant = grant_in e (term, from, number) (changed_grant v r.1 base d.0 term
      from number own) in
      subst (λ o. IsIn (Count (Shifts name key term from o) number) (operations_of e)) (sym same) grant)
      (λ apart. shift_in e (term, from, to, number) (changed_shift v r.1 base d.0
      term from to number apart d.1))
      (cases_eq to from))

  -- ---- it stands in order

  in_order : (e : EntryValue) → IsIn e entries → IsInOrder e
  in_order e h =
      let r = entry_member v base m are.ordered e h in
      let marked = marks_of r in
      let s = entry_since (held_at v r.name) r.name r.key base r.marks in
      let ordered : IsInOrder s = record {
        hits = ascends _ (hits_since_ascend v marked base);
        execs = ascends _ (execs_since_ascend v marked base r.keyed);
        shifts = ascends _ (shifts_since_ascend v marked base r.keyed);
        apart = all_of (λ (c : ℕ × ℕ × ℕ × ℕ). c.2 ≢ c.1) s.shifts
            (λ c k. (shift_changed v marked base r.keyed c k).0);
        grants = ascends _ (grants_since_ascend v marked base r.keyed);
      } in
      subst IsInOrder (sym r.is) ordered

  -- ---- it can be written

  module _ {nodes : ℕ} (of_few : IsFewState v nodes) (fit : EntriesFit entries) (names : length v.names ≤ 256) where
    each_is : (e : EntryValue) → IsIn e entries → IsEntry nodes e × IsShort e
    each_is e h =
        let r = entry_member v base m are.ordered e h in
        let s = entry_since (held_at v r.name) r.name r.key base r.marks in
        let fits : EntryFits s = subst EntryFits r.is (one_of EntryFits entries fit e h) in
        let is = entry_is v (marks_of r) base r.keyed of_few fits in
        let hits = few_hits_since v (marks_of r) base of_few in
        let execs = few_execs_since v (marks_of r) base r.keyed of_few in
        let shifts = few_shifts_since v (marks_of r) base r.keyed of_few in
        let grants = few_grants_since v (marks_of r) base r.keyed of_few in
        subst (λ x. IsEntry nodes x × IsShort x) (sym r.is) (is, entry_short nodes s is hits execs shifts grants)

    pub is_spelled : (n : MessageValue) → n.entries ≡ entries → n.from < nodes → n.to < nodes → n.to ≢ n.from →
        n.base < 2 ^ 64 → n.upto < 2 ^ 64 → n.ack < 2 ^ 64 → IsMessage nodes n
    is_spelled n same lt less apart b u a =
        let most = few_entries v base m are.ordered of_few.lawful.ascending of_few.lawful.key_name in
        record {
          few_nodes = (let few = of_few.few in omega (arith, few));
          from = lt;
          to = less;
          apart = apart;
          base = b;
          upto = u;
          ack = a;
          entries = rw same (record {
            few = omega (arith, most, names);
            each = all_of (IsEntry nodes) entries (λ e h. (each_is e h).0);
            ascend = ascends _ (entries_ascend v base m are.ordered);
          });
        }

    pub is_short : (n : MessageValue) → n.entries ≡ entries → length (message_bytes n) ≤ max_message
    is_short n same =
        let most = few_entries v base m are.ordered of_few.lawful.ascending of_few.lawful.key_name in
        let form = form_of entries in
        let bytes = length_flat (entry_bytes form) 191924 entries (λ e h. (each_is e h).1 form) in
        let head = magic_short form in
        rw same (simp length-append (omega (arith, most, names, bytes, head)))

-- of a lawful state each change is of a name with a key
is_keyed : {nodes : ℕ} {v : State} → IsLawfulState nodes v → (last : LastChanges) (base : ℕ) (op : Operation) →
    IsChangeSince v last base op → IsSome (v.key (name_in op))
is_keyed lawful last base (Set name key) d = ap is_some d.0
is_keyed lawful last base (Count (Hits name node) number) d =
    lawful.keyed name (lawful.hit_name name node (λ z. d.positive (d.is_now ∙ z)))
is_keyed lawful last base (Count (Execs name key term node) number) d = ap is_some d.0
is_keyed lawful last base (Count (Shifts name key term from to) number) d = ap is_some d.0

-- a message has what changed of a state, as the code has its marks
pub record HasChanges (v : VersionedValue) (m : Marks) (n : MessageValue) (from to base : ℕ) : Type 0 where
  pub last : v.last ≡ changes_of m
  pub upto : AreUpto (marks_value m) v.version
  pub ordered : AreOrdered v.state base m
  pub entries : n.entries ≡ all_since v.state base m
  pub fit : EntriesFit (all_since v.state base m)
  pub sender : n.from ≡ from
  pub receiver : n.to ≡ to
  pub since : n.base ≡ base
  pub version : n.upto ≡ v.version
  pub ack : n.ack ≡ v.known to
  pub low : (base < 2 ^ 64) × (n.upto < 2 ^ 64) × (n.ack < 2 ^ 64)

-- it tells just these, in their order
pub tells_since : (v : VersionedValue) (m : Marks) (n : MessageValue) (from to base : ℕ) →
    HasChanges v m n from to base → TellsSince from to base v n
tells_since v m n from to base has =
    let are : AreMarks v.state m base v.version = record { upto = has.upto; ordered = has.ordered } in
    record {
      sender = has.sender;
      receiver = has.receiver;
      since = has.since;
      upto = has.version;
      ack = has.ack;
      names_ascend = subst (λ (es : List EntryValue). Ascend (map (λ e. e.name) es)) (sym has.entries)
          (ascends _ (entries_ascend v.state base m has.ordered));
      in_order = subst (AllByRecursion IsInOrder) (sym has.entries)
          (all_of IsInOrder (all_since v.state base m) (in_order are));
      changes = λ op. subst (λ es. IsIn op (flat_map operations_of es) ↔ IsToldSince v.state v.last base op)
          (sym has.entries)
          (subst (λ l. IsIn op (flat_map operations_of (all_since v.state base m)) ↔ IsToldSince v.state l base op)
          (sym has.last)
          (told_changed are op, changed_told are op));
    }

-- where the state can be told, it can be written
pub is_message_since : (v : VersionedValue) (m : Marks) (n : MessageValue) (from to base : ℕ) →
    HasChanges v m n from to base → (nodes : ℕ) → CanBeTold nodes from to v.state →
    IsMessageSince nodes from to base v n
is_message_since v m n from to base has nodes can =
    let few = can.few_nodes in
    let names = can.few_names in
    let lt = can.sender in
    let less = can.receiver in
    let sender = has.sender in
    let receiver = has.receiver in
    let since = has.since in
    let low = has.low.0 in
    let lawful = subst (IsLawfulState nodes) (sym can.lawful.1) (lawful_state nodes can.lawful.0 can.lawful.2) in
    let of_few : IsFewState v.state nodes = record { lawful = lawful; few = few } in
    let are : AreMarks v.state m base v.version = record { upto = has.upto; ordered = has.ordered } in
    let tells = tells_since v m n from to base has in
    record {
      sender = sender;
      receiver = receiver;
      since = since;
      upto = has.version;
      ack = has.ack;
      spelled = is_spelled are of_few has.fit names n has.entries
          (omega (arith, sender, lt)) (omega (arith, receiver, less))
          (λ e. can.apart (sym receiver ∙ e ∙ sender)) (omega (arith, since, low)) has.low.1 has.low.2;
      short = is_short are of_few has.fit names n has.entries;
      changes = λ op.
          ((λ h. ((tells.changes op).0 h).1), (λ d. (tells.changes op).1 (is_keyed lawful v.last base op d, d)));
    }
