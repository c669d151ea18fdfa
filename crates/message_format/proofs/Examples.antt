-- Messages byte by byte, and some that may be written.
use Rattle.std.proofs.Common.{◌≡◌, ℕ, ◌≤◌, true, List, [], ◌∷◌, length, Some, refl, length-append, arith, lit<, lit≤}
use Rattle.std.specs.Prelude.{codes}
use Rattle.std.specs.List.Sorted.{IsStrictlySortedBy}
use Rattle.message_format.specs.Messages.{EntryValue, MessageValue}
use Rattle.actions.specs.Names.{is_name}
use Rattle.message_format.specs.Spelling.{IsCanonicalText, IsEntry, AreEntries, message_bytes, HasSpelling}

-- of node 0 to node 1, with nothing to tell
abbrev pub empty : MessageValue
empty = record { from = 0; to = 1; base = 0; upto = 0; ack = 0; entries = [] }

empty_bytes : message_bytes empty ≡ 0x46 ∷ 0x50 ∷ 0x47 ∷ 0x31 ∷ 0 ∷ 1
    ∷ 0 ∷ 0 ∷ 0 ∷ 0 ∷ 0 ∷ 0 ∷ 0 ∷ 0
    ∷ 0 ∷ 0 ∷ 0 ∷ 0 ∷ 0 ∷ 0 ∷ 0 ∷ 0
    ∷ 0 ∷ 0 ∷ 0 ∷ 0 ∷ 0 ∷ 0 ∷ 0 ∷ 0
    ∷ 0 ∷ 0 ∷ []
empty_bytes = refl

no_entries : AreEntries 2 []
unfolding IsStrictlySortedBy
no_entries = record { few = lit< tt; each = tt; ascend = tt }

pub empty_has_spelling : HasSpelling empty
empty_has_spelling = (
  2,
  (
    record {
      few_nodes = lit≤ tt;
      from = lit< tt;
      to = lit< tt;
      apart = λ e. absurd (omega (arith, e));
      base = lit< tt;
      upto = lit< tt;
      ack = lit< tt;
      entries = no_entries;
    },
    refl,
    lit≤ tt,
  ),
)

-- of node 0 to node 1, after node 0 set a to `2*off` and passed it once
abbrev a_set : EntryValue
a_set = record {
  name = codes "a";
  key = record { clock = 1; node = 0; body = Some (codes "2*off") };
  hits = (0, 1) ∷ [];
  execs = (0, 0, 1) ∷ [];
  shifts = [];
  grants = [];
}

one_name_bytes : message_bytes (record { from = 0; to = 1; base = 0; upto = 2; ack = 0; entries = a_set ∷ [] }) ≡ 0x46 ∷
    0x50 ∷ 0x47 ∷ 0x31 ∷ 0 ∷ 1
    ∷ 0 ∷ 0 ∷ 0 ∷ 0 ∷ 0 ∷ 0 ∷ 0 ∷ 0
    ∷ 0 ∷ 0 ∷ 0 ∷ 0 ∷ 0 ∷ 0 ∷ 0 ∷ 2
    ∷ 0 ∷ 0 ∷ 0 ∷ 0 ∷ 0 ∷ 0 ∷ 0 ∷ 0
    ∷ 0 ∷ 1
    ∷ 1 ∷ 0x61
    ∷ 0 ∷ 0 ∷ 0 ∷ 0 ∷ 0 ∷ 0 ∷ 0 ∷ 1 ∷ 0
    ∷ 1 ∷ 0 ∷ 5 ∷ 0x32 ∷ 0x2a ∷ 0x6f ∷ 0x66 ∷ 0x66
    ∷ 1 ∷ 0 ∷ 0 ∷ 0 ∷ 0 ∷ 0 ∷ 0 ∷ 0 ∷ 0 ∷ 1
    ∷ 0 ∷ 1 ∷ 0 ∷ 0 ∷ 0 ∷ 0 ∷ 0 ∷ 0 ∷ 0 ∷ 0 ∷ 0 ∷ 1
    ∷ 0 ∷ 0 ∷ []
one_name_bytes = refl

-- the setting of a name at node 0 with one hit there, before anything was executed
abbrev pub setting : List ℕ → List ℕ → EntryValue
setting name text = record {
  name = name;
  key = record { clock = 1; node = 0; body = Some text };
  hits = (0, 1) ∷ [];
  execs = [];
  shifts = [];
  grants = [];
}

pub setting_is_entry : (name text : List ℕ) → is_name name ≡ true → IsCanonicalText text → IsEntry 2 (setting name text)
unfolding IsStrictlySortedBy
setting_is_entry name text named canonical = record {
  name = named;
  key = record { clock = lit< tt; node = lit< tt; body = canonical };
  few_hits = lit< tt;
  hits = ((lit< tt, (lit< tt, lit< tt)), tt);
  hits_ascend = (tt, tt);
  few_execs = lit< tt;
  execs = tt;
  execs_ascend = tt;
  few_shifts = lit< tt;
  shifts = tt;
  shifts_ascend = tt;
  few_grants = lit< tt;
  grants = tt;
  grants_ascend = tt;
}

pub setting_has_spelling : (name text : List ℕ) → is_name name ≡ true → length name ≤ 128 → IsCanonicalText text
    → HasSpelling (record { from = 0; to = 1; base = 0; upto = 2; ack = 0; entries = setting name text ∷ [] })
unfolding IsStrictlySortedBy
setting_has_spelling name text named short canonical =
    let few : length text ≤ 1024 = canonical.2.short in
    let one : AreEntries 2 (setting name text ∷ []) = record
    { few = lit< tt; each = (setting_is_entry name text named canonical, tt); ascend = (tt, tt) } in (
      2,
      (
        record {
          few_nodes = lit≤ tt;
          from = lit< tt;
          to = lit< tt;
          apart = λ e. absurd (omega (arith, e));
          base = lit< tt;
          upto = lit< tt;
          ack = lit< tt;
          entries = one;
        },
        refl,
        simp length-append (omega (arith, short, few)),
      ),
    )
