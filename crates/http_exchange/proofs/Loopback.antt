-- Texts of loopback addresses.
use Rattle.std.proofs.Common.{◌≡◌, ◌∙◌, ◌++◌, ◌==◌, length, arith, ℕ, Bool, true, false, List, [], ◌∷◌, Option, Some, None, sym, ap, refl, subst, take, lit≤, append-nil, ◌↔◌, IsTrue}
use Rattle.std.specs.Prelude.{bytes_eq, if◌then◌else◌}
use Rattle.std.specs.Net.Addr.{IsLoopbackV4, IsLoopbackV6, ipv4_octets, ipv6_segments}
use Rattle.std.specs.Net.Grammar.{IsDotted, IsColonHex, IsIpv4Text, IsIpv6Text}
use Rattle.std.specs.Net.Reader.{read_ipv4, read_ipv6, whole_value, Read}
use Rattle.std.specs.declared.net.ipv4_addr.Ipv4Addr.{Ipv4Addr}
use Rattle.std.specs.declared.net.ipv6_addr.Ipv6Addr.{Ipv6Addr}
use Rattle.std.proofs.NetLemmas.Ipv4.{read_ipv4_complete, read_ipv4_sound}
use Rattle.std.proofs.NetLemmas.Ipv6.{read_ipv6_complete, read_ipv6_sound, EndsGroups-nil}
use Rattle.std.proofs.NetLemmas.Theorems.{IsIpv4Text_unique, IsIpv6Text_unique}
use Rattle.std.proofs.lemmas.Bool.Decides.{Decides-eqb, same_from_decides}
use Rattle.std.proofs.lemmas.Slice.Eq.{bytes_eq-Decides}
use Rattle.http_exchange.specs.Hosts.{begins_with_127, is_loopback_v4, is_loopback_v6, is_one}

-- a text that writes an address is read as that address
pub read_v4 : (text : List ℕ) (a : Ipv4Addr) → IsIpv4Text text a → whole_value (read_ipv4 text) ≡ Some (ipv4_octets a)
read_v4 text a writes =
    ap (λ t. whole_value (read_ipv4 t)) (sym (append-nil text))
    ∙ ap whole_value (read_ipv4_complete text (ipv4_octets a) [] writes (lit≤ tt))

pub read_v6 : (text : List ℕ) (a : Ipv6Addr) → IsIpv6Text text a → whole_value (read_ipv6 text) ≡ Some (ipv6_segments a)
read_v6 text a writes =
    ap (λ t. whole_value (read_ipv6 t)) (sym (append-nil text))
    ∙ ap whole_value (read_ipv6_complete text (ipv6_segments a) [] writes EndsGroups-nil)

empty_at : (rest : List ℕ) → length rest ≡ 0 → rest ≡ []
empty_at [] e = refl
empty_at (x ∷ rest) e = absurd (omega (arith, e))

passes_whole : (test : Option (List ℕ) → Bool) → test None ≡ false → (b : Bool) (parts : List ℕ)
    → test (if b then Some parts else None) ≡ true → (b ≡ true) × (test (Some parts) ≡ true)
passes_whole test none true parts is = (refl, is)
passes_whole test none false parts is = let no : false ≡ true = sym none ∙ is in absurd (cc)

-- what was read passes only where it is the whole text
whole : (test : Option (List ℕ) → Bool) → test None ≡ false → (parts rest : List ℕ)
    → test (whole_value (Some (parts, rest))) ≡ true → (rest ≡ []) × (test (Some parts) ≡ true)
whole test none parts rest is =
    let so = passes_whole test none (length rest == 0) parts is in
    (empty_at rest ((Decides-eqb (length rest) 0).0 so.0), so.1)

all_of : (text front rest : List ℕ) → text ≡ front ++ rest → rest ≡ [] → front ≡ text
all_of text front rest is none = sym (is ∙ ap (λ (r : List ℕ). front ++ r) none ∙ append-nil front)

-- and a text that is read so writes an address
written_v4 : (text : List ℕ) (r : Read (List ℕ)) → read_ipv4 text ≡ r → begins_with_127 (whole_value r) ≡ true
    → (a : Ipv4Addr) × IsIpv4Text text a × IsLoopbackV4 a
written_v4 text None e is = absurd (cc)
written_v4 text (Some (octets, rest)) e is =
    let so = whole begins_with_127 refl octets rest is in
    let sound = read_ipv4_sound text octets rest e in (
      record { octets = octets },
      subst (λ t. IsDotted t octets) (all_of text sound.0 rest sound.1 so.0) sound.2,
      (bytes_eq-Decides (take 1 octets) (127 ∷ [])).0 so.1,
    )

written_v6 : (text : List ℕ) (r : Read (List ℕ)) → read_ipv6 text ≡ r → is_one (whole_value r) ≡ true
    → (a : Ipv6Addr) × IsIpv6Text text a × IsLoopbackV6 a
written_v6 text None e is = absurd (cc)
written_v6 text (Some (segments, rest)) e is =
    let so = whole is_one refl segments rest is in
    let sound = read_ipv6_sound text segments rest e in (
      record { segments = segments },
      subst (λ t. IsColonHex t segments) (all_of text sound.0 rest sound.1 so.0) sound.2,
      (bytes_eq-Decides segments _).0 so.1,
    )

pub loopback_v4 : (text : List ℕ) → (is_loopback_v4 text ≡ true) ↔ ((a : Ipv4Addr) × IsIpv4Text text a × IsLoopbackV4 a)
loopback_v4 text = (
  written_v4 text (read_ipv4 text) refl,
  λ (a, writes, is). ap begins_with_127 (read_v4 text a writes) ∙ (bytes_eq-Decides (take 1 (ipv4_octets a)) (127 ∷ [])).1 is,
)

pub loopback_v6 : (text : List ℕ) → (is_loopback_v6 text ≡ true) ↔ ((a : Ipv6Addr) × IsIpv6Text text a × IsLoopbackV6 a)
loopback_v6 text = (
  written_v6 text (read_ipv6 text) refl,
  λ (a, writes, is). ap is_one (read_v6 text a writes) ∙ (bytes_eq-Decides (ipv6_segments a) _).1 is,
)

-- what `parse` finds of a text decides
pub accepted_v4 : (text : List ℕ) (a : Ipv4Addr) → IsIpv4Text text a → (passes : Bool)
    → (IsTrue passes ↔ IsLoopbackV4 a) → passes ≡ is_loopback_v4 text
accepted_v4 text a writes passes same =
    same_from_decides passes (is_loopback_v4 text) (
      λ t. (a, writes, same.0 t),
      λ found. same.1 (subst IsLoopbackV4 (IsIpv4Text_unique text found.0 a found.1 writes) found.2),
    )
    (loopback_v4 text)

pub rejected_v4 : (text : List ℕ) → ((a : Ipv4Addr) → ¬ (IsIpv4Text text a)) → false ≡ is_loopback_v4 text
rejected_v4 text none = other (is_loopback_v4 text) refl
  where
    other : (b : Bool) → is_loopback_v4 text ≡ b → false ≡ b
    other true e = let found = (loopback_v4 text).0 e in absurd (none found.0 found.1)
    other false e = refl

pub accepted_v6 : (text : List ℕ) (a : Ipv6Addr) → IsIpv6Text text a → (passes : Bool)
    → (IsTrue passes ↔ IsLoopbackV6 a) → passes ≡ is_loopback_v6 text
accepted_v6 text a writes passes same =
    same_from_decides passes (is_loopback_v6 text) (
      λ t. (a, writes, same.0 t),
      λ found. same.1 (subst IsLoopbackV6 (IsIpv6Text_unique text found.0 a found.1 writes) found.2),
    )
    (loopback_v6 text)

pub rejected_v6 : (text : List ℕ) → ((a : Ipv6Addr) → ¬ (IsIpv6Text text a)) → false ≡ is_loopback_v6 text
rejected_v6 text none = other (is_loopback_v6 text) refl
  where
    other : (b : Bool) → is_loopback_v6 text ≡ b → false ≡ b
    other true e = let found = (loopback_v6 text).0 e in absurd (none found.0 found.1)
    other false e = refl
