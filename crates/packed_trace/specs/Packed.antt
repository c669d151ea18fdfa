-- What a packed trace stands for: the list of what its calls tell.
use Rattle.std.specs.Prelude.{ℕ, ◌+◌, ◌*◌, ◌/◌, ◌%◌, ◌<◌, ◌^◌, false, List, [], ◌∷◌, length, slice_get, Option, Some, None, option_map, All}
use Rattle.actions.specs.Value.{TermValue}
use Rattle.stamp_register.specs.declared.key.Stamp.{Stamp}
use Rattle.node_calls.specs.Told.{Told, Passed, ReplyTold, Unset, NoTerm, Act, passes, emits, was_passed, was_delivered, told}
use Rattle.packed_trace.specs.declared.pass.Pass.{Pass}
use Rattle.packed_trace.specs.declared.pass.Prepared.{Prepared}
use Rattle.packed_trace.specs.declared.pass.Prepared.TheVariants as prepared
use Rattle.packed_trace.specs.declared.row.Row.{Row}
use Rattle.packed_trace.specs.declared.row.Setting.{Setting}
use Rattle.packed_trace.specs.declared.row.SettingRef.{SettingRef}
use Rattle.packed_trace.specs.declared.seen.Seen.{Seen}
use Rattle.packed_trace.specs.declared.seen.Seen.TheVariants as seen
use Rattle.packed_trace.specs.declared.trace.Slot.{Slot}
use Rattle.packed_trace.specs.declared.trace.Slot.TheVariants as slots

abbrev pub max_rows : ℕ
max_rows = 65536

-- the numbers of entries, for which a slot has room
abbrev pub max_entries : ℕ
max_entries = 2 ^ 56

-- the stamp of a setting, and its terms
abbrev pub SettingTold : Type 0
SettingTold = Stamp × List TermValue

-- what passes have in common: the name of the point, and its setting, if it is set
pub record RowTold : Type 0 where
  pub name : List ℕ
  pub setting : Option SettingTold

abbrev pub setting_told : Option Setting → Option SettingTold
setting_told setting = option_map (λ s. (s.stamp, s.actions)) setting

abbrev pub setting_ref_told : Option SettingRef → Option SettingTold
setting_ref_told setting = option_map (λ s. (s.stamp, s.actions.now)) setting

abbrev pub row_told : Row → RowTold
row_told row = record { name = row.name; setting = setting_told row.setting }

-- the rows and the calls, and how many passes and entries more it has room for
pub record Packed : Type 0 where
  pub rows : List RowTold
  pub calls : List Told
  pub pass_room : ℕ
  pub entry_room : ℕ

-- ---- what a pass tells, by its row

-- a term that was triggered acts as the setting says
abbrev pub acted : Stamp → ℕ → Option TermValue → Passed
acted stamp term None = NoTerm stamp
acted stamp term (Some t) = Act stamp term t.task

abbrev pub acted_by : SettingTold → Option ℕ → Passed
acted_by s None = NoTerm s.0
acted_by s (Some term) = acted s.0 term (slice_get s.1 term)

abbrev pub passed_by : Option SettingTold → Option ℕ → Passed
passed_by None term = Unset
passed_by (Some s) term = acted_by s term

abbrev pub words_of : Option ℕ → List ℕ
words_of None = []
words_of (Some word) = word ∷ []

abbrev pub pass_told : RowTold → Option ℕ → Option ℕ → Told
pass_told row term word =
    record { ask = passes row.name; words = words_of word; reply = was_passed (passed_by row.setting term) }

-- what a pass tells that is to be kept
abbrev pub pass_value : Pass → Told
pass_value p = record {
  ask = passes p.name.now;
  words = p.words.now;
  reply = was_passed (passed_by (setting_ref_told p.setting) p.term);
}

-- the row of such passes
abbrev pub row_of : Pass → RowTold
row_of p = record { name = p.name.now; setting = setting_ref_told p.setting }

-- what a pass was answered, if it is one
abbrev pub passed_in : ReplyTold → Option Passed
passed_in (was_passed passed) = Some passed
passed_in _ = None

-- what stands for a call that isn't there
abbrev pub no_call : Told
no_call = record { ask = emits 0; words = []; reply = was_delivered false }

abbrev pub pass_by : Option RowTold → Option ℕ → Option ℕ → Told
pass_by None term word = no_call
pass_by (Some row) term word = pass_told row term word

-- ---- the same as the code has it

abbrev pub entry_by : Option Told → Told
entry_by None = no_call
entry_by (Some t) = t

-- the number of an entry, by the parts that its slot has, and its slot by its number
abbrev pub entry_number : ℕ → ℕ → ℕ → ℕ
entry_number high middle low = high * 2 ^ 48 + middle * 2 ^ 32 + low

abbrev pub entry_slot : ℕ → Slot
entry_slot number = slots.Entry (number / 2 ^ 48) (number / 2 ^ 32 % 2 ^ 16) (number % 2 ^ 32)

-- what a slot stands for
abbrev pub told_by : List RowTold → List Told → Slot → Told
told_by rows entries (slots.NoTerm row) = pass_by (slice_get rows row) None None
told_by rows entries (slots.Term term row) = pass_by (slice_get rows row) (Some term) None
told_by rows entries (slots.NoTermDrawn row word) = pass_by (slice_get rows row) None (Some word)
told_by rows entries (slots.TermDrawn term row word) = pass_by (slice_get rows row) (Some term) (Some word)
told_by rows entries (slots.Entry high middle low) = entry_by (slice_get entries (entry_number high middle low))

-- its row or its entry is there
abbrev pub IsKept : ℕ → ℕ → Slot → Type 0
IsKept rows entries (slots.NoTerm row) = row < rows
IsKept rows entries (slots.Term term row) = row < rows
IsKept rows entries (slots.NoTermDrawn row word) = row < rows
IsKept rows entries (slots.TermDrawn term row word) = row < rows
IsKept rows entries (slots.Entry high middle low) = entry_number high middle low < entries

abbrev pub AreKept : ℕ → ℕ → List Slot → Type 0
AreKept rows entries kept = All (IsKept rows entries) kept

abbrev pub seen_told : Seen → Told
seen_told (seen.Pass row term word) = pass_told (row_told row.now) term word
seen_told (seen.Entry entry) = told entry.now

-- ---- a pass that is prepared

-- there is room for it, and its row is there
abbrev pub IsPrepared : Packed → Prepared → Type 0
IsPrepared p (prepared.Pass row term word) = (row < length p.rows) × (0 < p.pass_room)
IsPrepared p (prepared.Entry entry) = (0 < p.pass_room) × (0 < p.entry_room)

abbrev pub IsByRow : Prepared → Type 0
IsByRow (prepared.Pass row term word) = Unit {0}
IsByRow (prepared.Entry entry) = ⊥

abbrev pub prepared_told : List RowTold → Prepared → Told
prepared_told rows (prepared.Pass row term word) = pass_by (slice_get rows row) term word
prepared_told rows (prepared.Entry entry) = told entry.value
