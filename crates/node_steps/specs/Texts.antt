-- The list of the points that are set.
use Rattle.std.specs.Prelude.{ℕ, Bool, true, false, List, ◌∷◌, ◌++◌, Option, Some, None, codes, option_and_then, option_map}
use Rattle.std.specs.List.{filter_map, join_with_byte}
use Rattle.actions.specs.Value.{TermValue}
use Rattle.stamp_register.specs.Keys.{KeyValue}
use Rattle.replica_state.specs.States.{State}
use Rattle.node_steps.specs.Nodes.{setting_of}

-- the canonical text that a name is set to
abbrev pub text_set : State → List ℕ → Option (List ℕ)
text_set v name = option_and_then (λ (key : KeyValue). key.body) (v.key name)

-- `name=actions` of a name that is set
abbrev pub list_entry : State → List ℕ → Option (List ℕ)
list_entry v name = option_map (λ text. name ++ codes "=" ++ text) (text_set v name)

-- the list with one entry more
abbrev pub entry_after : Bool → Option (List ℕ) → List ℕ → List ℕ
entry_after is_first None text = text
entry_after true (Some entry) text = text ++ entry
entry_after false (Some entry) text = text ++ 59 ∷ entry

-- those of all names that are set, in byte order, joined by `;`
unfoldable pub list_text : State → List ℕ
list_text v = join_with_byte 59 (filter_map (list_entry v) v.names)

-- a name that is set, with its terms
abbrev pub point_listed : State → List ℕ → Option (List ℕ × List TermValue)
point_listed v name = option_map (λ setting. (name, setting.1)) (setting_of v name)

-- the points that are set, in byte order of their names
unfoldable pub points_listed : State → List (List ℕ × List TermValue)
points_listed v = filter_map (point_listed v) v.names

-- a name that is set, with its canonical text, as an ask sets it
abbrev pub setting_listed : State → List ℕ → Option (List ℕ × Option (List ℕ))
setting_listed v name = option_map (λ text. (name, Some text)) (text_set v name)

-- those of all names that are set, in byte order
unfoldable pub settings_listed : State → List (List ℕ × Option (List ℕ))
settings_listed v = filter_map (setting_listed v) v.names
