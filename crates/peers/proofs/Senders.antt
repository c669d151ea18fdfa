-- Where the sender of a message stands.
use Rattle.std.proofs.Common.{◌≡◌, true, false, [], ◌∷◌, ◌++◌, Some, None, refl}
use Rattle.std.specs.Prelude.{slice_get, if◌then◌else◌}
use Rattle.std.specs.List.{list_any}
use Rattle.message_format.specs.Messages.{EntryValue, MessageValue}
use Rattle.message_format.specs.Spelling.{magic, form_of, has_grants, message_bytes, versions_bytes, entries_bytes}
use Rattle.gossip_pace.specs.Senders.{sender_of}

-- an entry that tells a grant: a message of it has the one form, and one of no entry the other
abbrev granting : EntryValue
granting =
    record {
      name = [];
      key = record { clock = 0; node = 0; body = None };
      hits = [];
      execs = [];
      shifts = [];
      grants = (0, 0, 0) ∷ [];
    }

pub sender : (m : MessageValue) → sender_of (message_bytes m) ≡ Some m.from
sender m =
    elim (list_any has_grants m.entries) as (λ b.
    slice_get (magic (if b then form_of (granting ∷ []) else form_of []) ++ (m.from ∷ m.to ∷ (versions_bytes m
    ++ entries_bytes (if b then form_of (granting ∷ []) else form_of []) m.entries))) 4 ≡ Some m.from) [
      | true ↦ refl
      | false ↦ refl
    ]
