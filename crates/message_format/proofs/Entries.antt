-- Entries as they lie in memory.
use Rattle.std.proofs.Common.{◌≡◌, ◌||◌, ℕ, Bool, List, [], ◌∷◌, map, refl, ap}
use Rattle.std.specs.List.{list_any, AllByRecursion}
use Rattle.message_format.specs.declared.message.NameEntry.{NameEntry}
use Rattle.message_format.specs.Messages.{EntryValue, entry_value}
use Rattle.message_format.specs.Spelling.{IsEntry}

pub each_is : (nodes : ℕ) (es : List NameEntry) → AllByRecursion (IsEntry nodes) (map entry_value es) →
    AllByRecursion (λ e. IsEntry nodes (entry_value e)) es
each_is nodes [] h = tt
each_is nodes (e ∷ es) h = (h.0, each_is nodes es h.1)

-- a test of an entry's value
pub any_is : (test : EntryValue → Bool) (es : List NameEntry) →
    list_any (λ e. test (entry_value e)) es ≡ list_any test (map entry_value es)
any_is test [] = refl
any_is test (e ∷ es) = ap (λ b. test (entry_value e) || b) (any_is test es)
