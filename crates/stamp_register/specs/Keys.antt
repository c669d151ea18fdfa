-- Keys of settings and their order.
use Rattle.std.specs.Prelude.{◌≡◌, ◌≢◌, ℕ, Bool, true, List, [], ◌∷◌, ◌++◌, codes, decimal, Option, Some, None, Result, Ok, Err, bytes_eq}
use Rattle.std.specs.Ordering.{nat_cmp, is_le}
use Rattle.std.specs.Cmp.Lexicographic.{slice_cmp}
use Rattle.actions.specs.Value.{TermValue}
use Rattle.actions.specs.Canonical.{canonical}
use Rattle.actions.specs.Reading.{reading}
use Rattle.actions.specs.declared.fault.ActionFault.{ActionFault}
use Rattle.stamp_register.specs.declared.key.Key.{Key}
use Rattle.stamp_register.specs.declared.key.Stamp.{Stamp}
use Rattle.stamp_register.specs.declared.key.Body.{Body}
use Rattle.stamp_register.specs.declared.key.Body.TheVariants as bodies

-- a key: a clock, a node, and the canonical text that was set, or none where the point was removed
pub record KeyValue : Type 0 where
  pub clock : ℕ
  pub node : ℕ
  pub body : Option (List ℕ)

abbrev pub body_value : Body → Option (List ℕ)
body_value bodies.Removed = None
body_value (bodies.Set actions) = Some (canonical actions)

abbrev pub key_value : Key → KeyValue
key_value key = record { clock = key.clock; node = key.node; body = body_value key.body }

-- the clock and the node that a setting was made at
abbrev pub stamp_of : KeyValue → Stamp
stamp_of key = record { clock = key.clock; node = key.node }

-- how a stamp prints
abbrev pub stamp_text : Stamp → List ℕ
stamp_text stamp = decimal stamp.clock ++ codes "." ++ decimal stamp.node

-- keys stand by clock, then by node, then by body: removed below set, and texts by their bytes
abbrev pub body_rank : Option (List ℕ) → List ℕ
body_rank None = []
body_rank (Some text) = 1 ∷ text

abbrev pub key_rank : KeyValue → List ℕ
key_rank key = key.clock ∷ key.node ∷ body_rank key.body

abbrev pub key_le : KeyValue → KeyValue → Bool
key_le a b = is_le (slice_cmp nat_cmp (key_rank a) (key_rank b))

abbrev pub same_key : KeyValue → KeyValue → Bool
same_key a b = bytes_eq (key_rank a) (key_rank b)

-- a key that another one overtakes
abbrev pub IsLower : KeyValue → KeyValue → Type 0
IsLower a b = (key_le a b ≡ true) × (a ≢ b)

-- the terms that a key sets, if it sets any
abbrev pub terms_read : Result (List TermValue) ActionFault → Option (List TermValue)
terms_read (Ok terms) = Some terms
terms_read (Err fault) = None

unfoldable pub terms_in_text : List ℕ → Option (List TermValue)
terms_in_text text = terms_read (reading text)

abbrev pub terms_set : Option (List ℕ) → Option (List TermValue)
terms_set None = None
terms_set (Some text) = terms_in_text text
