-- The grammar of setting texts, as of fail-rs's FAILPOINTS: a relation between whole texts and what
-- they set.
use Rattle.std.specs.Prelude.{◌≡◌, ◌≢◌, ℕ, ◌≤◌, List, [], ◌∷◌, ◌++◌, length, map, replicate, codes, IsTrue}
use Rattle.std.specs.List.{join_with_byte}
use Rattle.actions.specs.Limits.{max_setting}
use Rattle.actions.specs.Bytes.{space, semicolon}
use Rattle.actions.specs.Names.{is_name}
use Rattle.actions.specs.Value.{TermValue}
use Rattle.actions.specs.Grammar.{SpellsActions}

-- an entry as it is written: only spaces, or a name and an action text, with so many spaces before
-- and after them
pub data Entry : Type 0 where
  blank : (spaces : ℕ) → Entry
  setting : (before : ℕ) (name text : List ℕ) (after : ℕ) → Entry

abbrev pub entry_text : Entry → List ℕ
entry_text (blank spaces) = replicate spaces space
entry_text (setting before name text after) =
    replicate before space ++ (name ++ (codes "=" ++ (text ++ replicate after space)))

-- its last byte, if it has one, is no space
abbrev pub EndsBare : List ℕ → Type 0
EndsBare text = (front : List ℕ) → text ≢ front ++ space ∷ []

-- the entries that aren't only spaces set these points, one each and in this order
abbrev pub SetEach : List Entry → List (List ℕ × List TermValue) → Type 0
SetEach [] [] = Unit {0}
SetEach (blank spaces ∷ es) points = SetEach es points
SetEach (setting before name text after ∷ es) (point ∷ points) =
    IsTrue (is_name name) × (point.0 ≡ name) × SpellsActions text point.1 × EndsBare text × SetEach es points
SetEach _ _ = ⊥

-- the text sets the points: its entries do, with a `;` between each two, and it keeps to the limit
pub record SpellsSetting (text : List ℕ) (points : List (List ℕ × List TermValue)) : Type 0 where
  pub short : length text ≤ max_setting
  pub entries : (es : List Entry) × SetEach es points × (text ≡ join_with_byte semicolon (map entry_text es))
