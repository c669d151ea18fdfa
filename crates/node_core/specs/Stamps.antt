-- The stamp of a point.
use Rattle.std.specs.Prelude.{◌≡◌, Option, Some, None}
use Rattle.stamp_register.specs.declared.key.Stamp.{Stamp}
use Rattle.stamp_register.specs.Keys.{KeyValue, stamp_of}

-- there is a key, and it has this stamp
abbrev pub HasStamp : Option KeyValue → Stamp → Type 0
HasStamp None stamp = ⊥
HasStamp (Some key) stamp = stamp_of key ≡ stamp
