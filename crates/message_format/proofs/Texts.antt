-- Names and canonical texts are UTF-8, so bytes that aren't are neither.
use Rattle.std.proofs.Common.{◌≡◌, ℕ, zero, suc, ◌<◌, Bool, true, false, ◌&&◌, List, [], ◌∷◌, length, Ok, refl, arith}
use Rattle.std.specs.Prelude.{nat_lt, nat_le}
use Rattle.std.specs.List.{list_all}
use Rattle.std.specs.Str.{IsUtf8, IsAscii, is_utf8}
use Rattle.std.proofs.lemmas.Bool.{and_parts}
use Rattle.std.proofs.lemmas.Slice.Eq.{bytes_eq-Decides}
use Rattle.std.proofs.lemmas.Bool.Decides.{nat_tests}
use Rattle.std.proofs.lemmas.Str.{IsUtf8-from_ascii, IsUtf8-from_is_utf8, is_utf8-from_IsUtf8}
use Rattle.actions.specs.Limits.{max_name}
use Rattle.actions.specs.Value.{TermValue}
use Rattle.actions.specs.Canonical.{canonical}
use Rattle.actions.specs.Reading.{reading}
use Rattle.message_format.specs.declared.fault.WireFault.TheVariants as faults
use Rattle.message_format.specs.Reading.{wants, is_canonical, is_canonical_text}
use Rattle.actions.specs.Names.{is_name_byte, is_name}

name_byte_is_ascii : (b : ℕ) → is_name_byte b ≡ true → b < 128
name_byte_is_ascii b h = grind (arith, nat_tests)

name_bytes_are_ascii : (bs : List ℕ) → list_all is_name_byte bs ≡ true → IsAscii bs
name_bytes_are_ascii [] h i = omega arith
name_bytes_are_ascii (b ∷ bs) h zero = name_byte_is_ascii b (and_parts (is_name_byte b) (list_all is_name_byte bs) h).0
name_bytes_are_ascii (b ∷ bs) h (suc i) = name_bytes_are_ascii bs
    (and_parts (is_name_byte b) (list_all is_name_byte bs) h).1 i

pub name_is_utf8 : (bs : List ℕ) → is_name bs ≡ true → IsUtf8 bs
name_is_utf8 bs h =
    IsUtf8-from_ascii bs (name_bytes_are_ascii bs (and_parts (nat_lt 0 (length bs) && nat_le (length bs) max_name)
    (list_all is_name_byte bs) h).1)

false_from : (b : Bool) → (b ≡ true → ⊥) → b ≡ false
false_from true never = absurd (never refl)
false_from false never = refl

pub not_name : (bs : List ℕ) → (IsUtf8 bs → ⊥) → is_name bs ≡ false
not_name bs never = false_from (is_name bs) (λ h. never (name_is_utf8 bs h))

pub not_utf8 : (bs : List ℕ) → (IsUtf8 bs → ⊥) → is_utf8 bs ≡ false
not_utf8 bs never = false_from (is_utf8 bs) (λ h. never (IsUtf8-from_is_utf8 bs h))

pub canonical_wanted : (at : ℕ) (bytes : List ℕ) (terms : List TermValue) → IsUtf8 bytes → reading bytes ≡ Ok terms →
    canonical terms ≡ bytes
    → wants (is_canonical_text bytes) (faults.NotCanonical at) bytes ≡ Ok (canonical terms)
unfolding is_canonical_text
canonical_wanted at bytes terms utf8 e same =
    let passes : is_canonical bytes (reading bytes) ≡ true = rw (e, same) ((bytes_eq-Decides bytes bytes).1 refl) in
    rw (is_utf8-from_IsUtf8 bytes utf8, passes, same) refl
