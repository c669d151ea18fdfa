-- Reading a setting text entry by entry, with the first refusal.
use Rattle.std.specs.Prelude.{ℕ, ◌+◌, ◌==◌, Bool, true, false, not, nat_lt, List, [], ◌∷◌, length, map, filter, if◌then◌else◌, Result, Ok, Err}
use Rattle.std.specs.List.{slice_split}
use Rattle.refusals.specs.Refusals.{◌>>=◌, GivesUnless}
use Rattle.actions.specs.declared.fault.ActionFault.{ActionFault}
use Rattle.actions.specs.declared.fault.SettingFault.{SettingFault}
use Rattle.actions.specs.declared.fault.SettingFault.TheVariants as faults
use Rattle.actions.specs.Limits.{max_setting}
use Rattle.actions.specs.Bytes.{has_byte, text_before, text_after, equals_sign, semicolon}
use Rattle.actions.specs.Names.{is_name}
use Rattle.actions.specs.Reading.{reading, trimmed_text}
use Rattle.actions.specs.Value.{TermValue}

-- memory was refused
abbrev pub is_out_of_memory : SettingFault → Bool
is_out_of_memory faults.OutOfMemory = true
is_out_of_memory fault = false

-- what is read is what a function returned, seen by `view`, unless memory ran out
abbrev pub Gives : {X Y : Type 0} → (X → Y) → Result X SettingFault → Result Y SettingFault → Type 0
Gives = GivesUnless is_out_of_memory

-- the entries that aren't only spaces, without the spaces at both ends
unfoldable pub entries : List ℕ → List (List ℕ)
entries text =
    filter (λ entry. nat_lt 0 (length entry)) (map trimmed_text (slice_split (λ byte. byte == semicolon) text))

-- the terms of entry k, whose offsets are counted from their text's own start
abbrev pub terms_read : ℕ → Result (List TermValue) ActionFault → Result (List TermValue) SettingFault
terms_read k (Ok terms) = Ok terms
terms_read k (Err fault) = Err (faults.BadActions k fault)

-- entry k; the first `=` ends its name
unfoldable pub entry_at : ℕ → List ℕ → Result (List ℕ × List TermValue) SettingFault
entry_at k entry =
    if not (has_byte equals_sign entry) then Err (faults.NoEquals k)
    else if not (is_name (text_before equals_sign entry)) then Err (faults.BadName k)
    else (do
      terms ← terms_read k (reading (text_after equals_sign entry))
      Ok (text_before equals_sign entry, terms))

-- the entries from number k on
unfoldable pub entries_at : ℕ → List (List ℕ) → Result (List (List ℕ × List TermValue)) SettingFault
entries_at k [] = Ok []
entries_at k (entry ∷ others) = do
  first ← entry_at k entry
  rest ← entries_at (k + 1) others
  Ok (first ∷ rest)

-- the whole text
unfoldable pub setting_reading : List ℕ → Result (List (List ℕ × List TermValue)) SettingFault
setting_reading text = if nat_lt max_setting (length text) then Err faults.TooLong else entries_at 0 (entries text)
