-- Reading a message from left to right, with the first fault. `all` is the number of its bytes, and
-- `left` those that are left to be read.
use Rattle.std.specs.Prelude.{◌≡◌, ℕ, zero, suc, ◌-◌, ◌==◌, ◌&&◌, not, Bool, true, false, nat_lt, nat_le, List, [], ◌∷◌, length, take, drop, bytes_eq, Option, Some, None, is_some, option_map, Result, Ok, Err, if◌then◌else◌}
use Rattle.std.specs.List.{list_any}
use Rattle.std.specs.Int.{Width, w16, w64, byte_len, from_be_bytes}
use Rattle.std.specs.Str.{is_utf8}
use Rattle.std.specs.Ordering.{nat_cmp, is_lt}
use Rattle.std.specs.Cmp.Lexicographic.{slice_cmp}
use Rattle.refusals.specs.Refusals.{◌>>=◌, FailsUnless, GivesUnless}
use Rattle.actions.specs.Limits.{max_name, max_text}
use Rattle.actions.specs.Value.{TermValue}
use Rattle.actions.specs.Canonical.{canonical}
use Rattle.actions.specs.Names.{is_name}
use Rattle.actions.specs.Reading.{reading}
use Rattle.actions.specs.declared.fault.ActionFault.{ActionFault}
use Rattle.stamp_register.specs.Keys.{KeyValue}
use Rattle.operations.specs.Operations.{count_of}
use Rattle.message_format.specs.declared.fault.WireFault.{WireFault}
use Rattle.message_format.specs.declared.fault.WireFault.TheVariants as faults
use Rattle.message_format.specs.declared.wire.Form.{Form}
use Rattle.message_format.specs.declared.wire.Form.TheVariants.{Plain, WithGrants}
use Rattle.message_format.specs.Messages.{EntryValue, MessageValue}
use Rattle.message_format.specs.Spelling.{max_message, magic, has_grants, hit_place, exec_place, shift_place}

-- memory was refused
abbrev pub is_out_of_memory : WireFault → Bool
is_out_of_memory faults.OutOfMemory = true
is_out_of_memory fault = false

-- what is read is this fault; out of memory says nothing of that
abbrev pub Fails : {Y : Type 0} → WireFault → Result Y WireFault → Type 0
Fails = FailsUnless is_out_of_memory

-- what is read is what a function returned, seen by `view`, unless memory ran out
abbrev pub Gives : {X Y : Type 0} → (X → Y) → Result X WireFault → Result Y WireFault → Type 0
Gives = GivesUnless is_out_of_memory

-- what is read is what a function returned, which takes no memory
abbrev pub GivesAlways : {X Y : Type 0} → (X → Y) → Result X WireFault → Result Y WireFault → Type 0
GivesAlways view (Ok x) read = read ≡ Ok (view x)
GivesAlways view (Err e) read = read ≡ Err e

-- a value if the test holds, and else the fault
abbrev pub wants : {A : Type 0} → Bool → WireFault → A → Result A WireFault
wants test fault x = if test then Ok x else Err fault

-- how many bytes stand before those that are left
abbrev pub offset : ℕ → List ℕ → ℕ
offset all left = all - length left

-- ---- numbers

-- so many bytes, and what is left after them
unfoldable pub bytes_at : ℕ → ℕ → List ℕ → Result (List ℕ × List ℕ) WireFault
bytes_at all n left = wants (nat_le n (length left)) (faults.Short (offset all left)) (take n left, drop n left)

unfoldable pub number_at : ℕ → Width → List ℕ → Result (ℕ × List ℕ) WireFault
number_at all w left =
    wants (nat_le (byte_len w) (length left)) (faults.Short (offset all left))
    (from_be_bytes w (take (byte_len w) left), drop (byte_len w) left)

unfoldable pub byte_at : ℕ → List ℕ → Result (ℕ × List ℕ) WireFault
byte_at all [] = Err (faults.Short (offset all []))
byte_at all (b ∷ left) = Ok (b, left)

-- a node's number
unfoldable pub node_at : ℕ → ℕ → List ℕ → Result (ℕ × List ℕ) WireFault
node_at all nodes left = do
  node ← byte_at all left
  wants (nat_lt node.0 nodes) (faults.BadNode (offset all left)) node

-- the number of a node other than this one
unfoldable pub other_node_at : ℕ → ℕ → ℕ → List ℕ → Result (ℕ × List ℕ) WireFault
other_node_at all nodes from left = do
  to ← node_at all nodes left
  wants (not (to.0 == from)) (faults.BadNode (offset all left)) to

-- ---- lists

-- so many elements; reading one takes the one before it
unfoldable pub each_at : {C : Type 0} → (Option C → List ℕ → Result (C × List ℕ) WireFault) →
    ℕ → Option C → List ℕ → Result (List C × List ℕ) WireFault
each_at one_at zero last left = Ok ([], left)
each_at one_at (suc n) last left = do
  first ← one_at last left
  others ← each_at one_at n (Some first.0) first.1
  Ok (first.0 ∷ others.0, others.1)

-- the place is above the one before it, if there is one
abbrev pub is_above : Option (List ℕ) → List ℕ → Bool
is_above None place = true
is_above (Some last) place = is_lt (slice_cmp nat_cmp last place)

-- ---- cells

-- a count, which isn't 0
unfoldable pub value_at : ℕ → List ℕ → Result (ℕ × List ℕ) WireFault
value_at all left = do
  value ← number_at all w64 left
  wants (nat_lt 0 value.0) (faults.ZeroCell (offset all left)) value

-- the number of a counted term
unfoldable pub term_at : ℕ → KeyValue → List ℕ → Result (ℕ × List ℕ) WireFault
term_at all key left = do
  term ← byte_at all left
  wants (is_some (count_of key term.0)) (faults.BadTerm (offset all left)) term

unfoldable pub hit_at : ℕ → ℕ → Option (ℕ × ℕ) → List ℕ → Result ((ℕ × ℕ) × List ℕ) WireFault
hit_at all nodes last left = do
  node ← node_at all nodes left
  after ← wants (is_above (option_map hit_place last) (node.0 ∷ [])) (faults.CellOrder (offset all left)) node.1
  value ← value_at all after
  Ok ((node.0, value.0), value.1)

unfoldable pub exec_at : ℕ → ℕ → KeyValue → Option (ℕ × ℕ × ℕ) → List ℕ → Result ((ℕ × ℕ × ℕ) × List ℕ) WireFault
exec_at all nodes key last left = do
  term ← term_at all key left
  node ← node_at all nodes term.1
  after ← wants (is_above (option_map exec_place last) (term.0 ∷ node.0 ∷ []))
      (faults.CellOrder (offset all left)) node.1
  value ← value_at all after
  Ok ((term.0, node.0, value.0), value.1)

unfoldable pub shift_at : ℕ → ℕ → KeyValue → Option (ℕ × ℕ × ℕ × ℕ) → List ℕ →
    Result ((ℕ × ℕ × ℕ × ℕ) × List ℕ) WireFault
shift_at all nodes key last left = do
  term ← term_at all key left
  from ← node_at all nodes term.1
  to ← other_node_at all nodes from.0 from.1
  after ← wants (is_above (option_map shift_place last) (term.0 ∷ from.0 ∷ to.0 ∷ []))
      (faults.CellOrder (offset all left)) to.1
  value ← value_at all after
  Ok ((term.0, from.0, to.0, value.0), value.1)

unfoldable pub hits_at : ℕ → ℕ → List ℕ → Result (List (ℕ × ℕ) × List ℕ) WireFault
hits_at all nodes left = do
  count ← byte_at all left
  each_at (hit_at all nodes) count.0 None count.1

unfoldable pub execs_at : ℕ → ℕ → KeyValue → List ℕ → Result (List (ℕ × ℕ × ℕ) × List ℕ) WireFault
execs_at all nodes key left = do
  count ← number_at all w16 left
  each_at (exec_at all nodes key) count.0 None count.1

unfoldable pub shifts_at : ℕ → ℕ → KeyValue → List ℕ → Result (List (ℕ × ℕ × ℕ × ℕ) × List ℕ) WireFault
shifts_at all nodes key left = do
  count ← number_at all w16 left
  each_at (shift_at all nodes key) count.0 None count.1

-- the grants of a name, of which a plain message has none
unfoldable pub grants_at : ℕ → ℕ → KeyValue → Form → List ℕ → Result (List (ℕ × ℕ × ℕ) × List ℕ) WireFault
grants_at all nodes key Plain left = Ok ([], left)
grants_at all nodes key WithGrants left = execs_at all nodes key left

-- ---- names and keys

unfoldable pub name_at : ℕ → Option (List ℕ) → List ℕ → Result (List ℕ × List ℕ) WireFault
name_at all last left = do
  n ← byte_at all left
  len ← wants (nat_lt 0 n.0 && nat_le n.0 max_name) (faults.BadName (offset all left)) n
  name ← bytes_at all len.0 len.1
  good ← wants (is_name name.0) (faults.BadName (offset all len.1)) name
  wants (is_above last good.0) (faults.NameOrder (offset all len.1)) good

-- the text is read as terms, of which it is the canonical text
abbrev pub is_canonical : List ℕ → Result (List TermValue) ActionFault → Bool
is_canonical text (Ok terms) = bytes_eq text (canonical terms)
is_canonical text (Err fault) = false

unfoldable pub is_canonical_text : List ℕ → Bool
is_canonical_text text = is_utf8 text && is_canonical text (reading text)

unfoldable pub text_at : ℕ → List ℕ → Result (List ℕ × List ℕ) WireFault
text_at all left = do
  n ← number_at all w16 left
  len ← wants (nat_le n.0 max_text) (faults.NotCanonical (offset all left)) n
  text ← bytes_at all len.0 len.1
  wants (is_canonical_text text.0) (faults.NotCanonical (offset all len.1)) text

unfoldable pub body_at : ℕ → List ℕ → Result (Option (List ℕ) × List ℕ) WireFault
body_at all left = do
  tag ← byte_at all left
  (if tag.0 == 0 then Ok (None, tag.1)
      else if tag.0 == 1 then (do
        text ← text_at all tag.1
        Ok (Some text.0, text.1))
      else Err (faults.BadBody (offset all left)))

unfoldable pub key_at : ℕ → ℕ → List ℕ → Result (KeyValue × List ℕ) WireFault
key_at all nodes left = do
  clock ← number_at all w64 left
  node ← node_at all nodes clock.1
  body ← body_at all node.1
  Ok (record { clock = clock.0; node = node.0; body = body.0 }, body.1)

-- what was counted under a key: the executions, the shifts and the grants
unfoldable pub counted_at : ℕ → ℕ → KeyValue → Form → List ℕ →
    Result ((List (ℕ × ℕ × ℕ) × List (ℕ × ℕ × ℕ × ℕ) × List (ℕ × ℕ × ℕ)) × List ℕ) WireFault
counted_at all nodes key form left = do
  execs ← execs_at all nodes key left
  shifts ← shifts_at all nodes key execs.1
  grants ← grants_at all nodes key form shifts.1
  Ok ((execs.0, shifts.0, grants.0), grants.1)

-- the entry after another one
unfoldable pub entry_at : ℕ → ℕ → Form → Option EntryValue → List ℕ → Result (EntryValue × List ℕ) WireFault
entry_at all nodes form last left = do
  name ← name_at all (option_map (λ e. e.name) last) left
  key ← key_at all nodes name.1
  hits ← hits_at all nodes key.1
  execs ← execs_at all nodes key.0 hits.1
  shifts ← shifts_at all nodes key.0 execs.1
  grants ← grants_at all nodes key.0 form shifts.1
  Ok (
    record {
      name = name.0;
      key = key.0;
      hits = hits.0;
      execs = execs.0;
      shifts = shifts.0;
      grants = grants.0;
    },
    grants.1,
  )

unfoldable pub entries_at : ℕ → ℕ → Form → List ℕ → Result (List EntryValue × List ℕ) WireFault
entries_at all nodes form left = do
  count ← number_at all w16 left
  each_at (entry_at all nodes form) count.0 None count.1

-- ---- the message

-- the form that the first four bytes say
unfoldable pub magic_at : ℕ → List ℕ → Result (Form × List ℕ) WireFault
magic_at all left = do
  first ← bytes_at all 4 left
  (if bytes_eq first.0 (magic Plain) then Ok (Plain, first.1)
      else if bytes_eq first.0 (magic WithGrants) then Ok (WithGrants, first.1)
      else Err (faults.Magic (offset all left)))

-- the form is that of a message of these entries: only one with grants can be another
abbrev pub is_form_of : Form → List EntryValue → Bool
is_form_of Plain es = true
is_form_of WithGrants es = list_any has_grants es

-- base, upto and ack
unfoldable pub versions_at : ℕ → List ℕ → Result ((ℕ × ℕ × ℕ) × List ℕ) WireFault
versions_at all left = do
  base ← number_at all w64 left
  upto ← number_at all w64 base.1
  ack ← number_at all w64 upto.1
  Ok ((base.0, upto.0, ack.0), ack.1)

-- the fields before the entries: from, to and the versions
unfoldable pub header_at : ℕ → ℕ → List ℕ → Result ((ℕ × ℕ × (ℕ × ℕ × ℕ)) × List ℕ) WireFault
header_at all nodes left = do
  form ← magic_at all left
  from ← node_at all nodes form.1
  to ← other_node_at all nodes from.0 from.1
  versions ← versions_at all to.1
  Ok ((from.0, to.0, versions.0), versions.1)

-- all fields, after which no bytes are left; where the form says so, some of them are grants
unfoldable pub fields_at : ℕ → ℕ → List ℕ → Result MessageValue WireFault
fields_at all nodes left = do
  form ← magic_at all left
  from ← node_at all nodes form.1
  to ← other_node_at all nodes from.0 from.1
  versions ← versions_at all to.1
  read ← entries_at all nodes form.0 versions.1
  entries ← wants (length read.1 == 0) (faults.Long (offset all read.1)) read
  wants (is_form_of form.0 entries.0) (faults.NoGrant (offset all left)) (record {
    from = from.0;
    to = to.0;
    base = versions.0.0;
    upto = versions.0.1;
    ack = versions.0.2;
    entries = entries.0;
  })

-- all bytes
unfoldable pub message_at : ℕ → List ℕ → Result MessageValue WireFault
message_at nodes bytes = do
  few ← wants (nat_le (length bytes) max_message) (faults.TooBig max_message) bytes
  fields_at (length bytes) nodes few

-- the fields before the entries, of bytes that aren't too many
unfoldable pub header_of : ℕ → List ℕ → Result ((ℕ × ℕ × (ℕ × ℕ × ℕ)) × List ℕ) WireFault
header_of nodes bytes = do
  few ← wants (nat_le (length bytes) max_message) (faults.TooBig max_message) bytes
  header_at (length bytes) nodes few
