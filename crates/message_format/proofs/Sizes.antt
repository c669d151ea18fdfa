-- In how many bytes the parts of a message are written.
use Rattle.std.proofs.Common.{◌≡◌, ℕ, ◌*◌, ◌≤◌, ◌&&◌, true, List, [], ◌∷◌, length, inl, inr, Option, Some, None, refl, length-append, arith}
use Rattle.std.specs.Prelude.{IsTrue, nat_lt, nat_le}
use Rattle.std.specs.List.{flat_map, list_all}
use Rattle.std.proofs.lemmas.Bool.{and_parts}
use Rattle.std.proofs.lemmas.Bool.Decides.{nat_tests}
use Rattle.std.proofs.lemmas.List.Concat.{flat_map-cons}
use Rattle.actions.specs.Limits.{max_name}
use Rattle.actions.specs.Names.{is_name_byte, is_name}
use Rattle.operations.specs.Operations.{IsIn}
use Rattle.message_format.specs.Limits.{max_nodes}
use Rattle.message_format.specs.Messages.{EntryValue}
use Rattle.message_format.specs.Spelling.{IsBody, IsEntry, magic, hit_bytes, exec_bytes, shift_bytes, grants_bytes, body_bytes, entry_bytes}
use Rattle.message_format.specs.declared.wire.Form.{Form}
use Rattle.message_format.specs.declared.wire.Form.TheVariants.{Plain, WithGrants}

-- an entry is written in so many bytes at most, whatever the form
abbrev pub IsShort : EntryValue → Type 0
IsShort e = (form : Form) → length (entry_bytes form e) ≤ 191924

-- at most so many, where each has at most so many
pub length_flat : {A B : Type 0} (f : A → List B) (k : ℕ) (xs : List A) → ((x : A) → IsIn x xs → length (f x) ≤ k) →
    length (flat_map f xs) ≤ length xs * k
length_flat f k [] h = omega arith
length_flat f k (x ∷ xs) h =
    let one = h x (inl refl) in
    let rest = length_flat f k xs (λ y i. h y (inr i)) in
    rw (flat_map-cons f x xs) (simp length-append (omega (arith, one, rest)))

pub magic_short : (form : Form) → length (magic form) ≤ 4
magic_short Plain = omega arith
magic_short WithGrants = omega arith

body_short : (body : Option (List ℕ)) → IsBody body → length (body_bytes body) ≤ 1027
body_short None h = omega arith
body_short (Some text) h =
    let short = h.2.short in
    simp length-append (omega (arith, short))

name_short : (name : List ℕ) → IsTrue (is_name name) → length name ≤ 128
name_short name h =
    let size = and_parts (nat_lt 0 (length name) && nat_le (length name) max_name) (list_all is_name_byte name) h in
    let most = and_parts (nat_lt 0 (length name)) (nat_le (length name) max_name) size.0 in
    let e : nat_le (length name) 128 ≡ true = most.1 in
    grind (arith, nat_tests)

grants_short : (form : Form) (cells : List (ℕ × ℕ × ℕ)) → length cells ≤ 512 → length (grants_bytes form cells) ≤ 5122
grants_short Plain cells few = omega arith
grants_short WithGrants cells few =
    let all = length_flat exec_bytes 10 cells (λ c i. omega arith) in
    simp length-append (omega (arith, all, few))

pub entry_short : (nodes : ℕ) (e : EntryValue) → IsEntry nodes e → length e.hits ≤ max_nodes → length e.execs ≤ 512 →
    length e.shifts ≤ 16384 → length e.grants ≤ 512 → IsShort e
entry_short nodes e h hits execs shifts grants form =
    let name = name_short e.name h.name in
    let body = body_short e.key.body h.key.body in
    let a = length_flat hit_bytes 9 e.hits (λ c i. omega arith) in
    let b = length_flat exec_bytes 10 e.execs (λ c i. omega arith) in
    let d = length_flat shift_bytes 11 e.shifts (λ c i. omega arith) in
    let last = grants_short form e.grants grants in
    simp length-append (omega (arith, name, body, a, b, d, last, hits, execs, shifts))
