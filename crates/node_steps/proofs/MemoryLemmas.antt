-- What out of memory says of the bytes that were read.
use Rattle.std.proofs.Common.{◌≡◌, ◌≢◌, ℕ, List, length, Bool, true, false, cond, Result, Ok, Err, IsOk, IfErr, ◌∷◌, [], rules}
use Rattle.std.specs.Prelude.{nat_le, nat_lt, not, ◌==◌}
use Rattle.std.specs.Int.{w64, byte_len}
use Rattle.message_format.specs.declared.fault.WireFault.{WireFault}
use Rattle.message_format.specs.declared.fault.WireFault.TheVariants as wires
use Rattle.message_format.specs.Spelling.{max_message}
use Rattle.refusals.specs.Refusals.{◌>>=◌}
use Rattle.message_format.specs.Reading.{wants, offset, bytes_at, number_at, byte_at, node_at, other_node_at, magic_at, versions_at, header_at, header_of}
use Rattle.node_calls.specs.declared.fault.NodeFault.TheVariants as faults
use Rattle.node_steps.specs.Refusals.{wire_refusal}

-- what was read isn't out of memory
abbrev NoWant : {A : Type 0} → Result A WireFault → Type 0
NoWant (Ok x) = Unit {0}
NoWant (Err fault) = wire_refusal fault ≢ faults.OutOfMemory

then_no_want : (A B : Type 0) (first : Result A WireFault) (next : A → Result B WireFault) → NoWant first →
    ((x : A) → NoWant (next x)) → NoWant (first >>= next)
then_no_want A B (Ok x) next one others = others x
then_no_want A B (Err fault) next one others = one

wants_no_want : (A : Type 0) (test : Bool) (fault : WireFault) (x : A) → wire_refusal fault ≢ faults.OutOfMemory →
    NoWant (wants test fault x)
wants_no_want A true fault x h = tt
wants_no_want A false fault x h = h

byte_no_want : (all : ℕ) (left : List ℕ) → NoWant (byte_at all left)
unfolding byte_at
byte_no_want all [] = λ e. cc
byte_no_want all (b ∷ left) = tt

node_no_want : (all nodes : ℕ) (left : List ℕ) → NoWant (node_at all nodes left)
unfolding node_at
node_no_want all nodes left =
    then_no_want _ _ (byte_at all left) _ (byte_no_want all left)
    (λ node. wants_no_want _ (nat_lt node.0 nodes) (wires.BadNode (offset all left)) node (λ e. cc))

other_no_want : (all nodes from : ℕ) (left : List ℕ) → NoWant (other_node_at all nodes from left)
unfolding other_node_at
other_no_want all nodes from left =
    then_no_want _ _ (node_at all nodes left) _ (node_no_want all nodes left)
    (λ to. wants_no_want _ (not (to.0 == from)) (wires.BadNode (offset all left)) to (λ e. cc))

number_no_want : (all : ℕ) (left : List ℕ) → NoWant (number_at all w64 left)
unfolding number_at
number_no_want all left = wants_no_want _ (nat_le (byte_len w64) (length left)) (wires.Short (offset all left)) _
    (λ e. cc)

versions_no_want : (all : ℕ) (left : List ℕ) → NoWant (versions_at all left)
unfolding versions_at
versions_no_want all left =
    then_no_want _ _ (number_at all w64 left) _ (number_no_want all left) (λ base.
    then_no_want _ _ (number_at all w64 base.1) _ (number_no_want all base.1) (λ upto.
    then_no_want _ _ (number_at all w64 upto.1) _ (number_no_want all upto.1) (λ ack. tt)))

-- of bytes that are the first of one form, the first of another, or neither
form_no_want : (F : Type 0) (is_one is_other : Bool) (one other : F) (at : ℕ) (left : List ℕ) →
    NoWant {A = F × List ℕ} (cond is_one (Ok (one, left)) (cond is_other (Ok (other, left)) (Err (wires.Magic at))))
form_no_want F true is_other one other at left = tt
form_no_want F false true one other at left = tt
form_no_want F false false one other at left = λ e. cc

magic_no_want : (all : ℕ) (left : List ℕ) → NoWant (magic_at all left)
unfolding magic_at bytes_at
magic_no_want all left =
    then_no_want _ _ (bytes_at all 4 left) _ (wants_no_want _ (nat_le 4 (length left)) (wires.Short (offset all left)) _
    (λ e. cc))
    (λ first. search (rules, form_no_want))

header_no_want : (all nodes : ℕ) (left : List ℕ) → NoWant (header_at all nodes left)
unfolding header_at
header_no_want all nodes left =
    then_no_want _ _ (magic_at all left) _ (magic_no_want all left) (λ form.
    then_no_want _ _ (node_at all nodes form.1) _ (node_no_want all nodes form.1) (λ from.
    then_no_want _ _ (other_node_at all nodes from.0 from.1) _ (other_no_want all nodes from.0 from.1) (λ to.
    then_no_want _ _ (versions_at all to.1) _ (versions_no_want all to.1) (λ versions. tt))))

all_no_want : (nodes : ℕ) (bytes : List ℕ) → NoWant (header_of nodes bytes)
unfolding header_of
all_no_want nodes bytes =
    then_no_want _ _ (wants (nat_le (length bytes) max_message) (wires.TooBig max_message) bytes) _
    (wants_no_want _ (nat_le (length bytes) max_message) (wires.TooBig max_message) bytes (λ e. cc))
    (λ few. header_no_want (length bytes) nodes few)

-- bytes that are read, or for which memory is wanted, have no fault before their entries
no_header_fault : (A X : Type 0) (header : Result A WireFault) (read : Result X WireFault) → NoWant header →
    IfErr header (λ fault. read ≡ Err fault)
    → ((fault : WireFault) → read ≡ Err fault → wire_refusal fault ≡ faults.OutOfMemory) → IsOk header
no_header_fault A X (Ok x) read one same want = search rules
no_header_fault A X (Err fault) read one same want = absurd (one (want fault same))

pub header_is_ok : (X : Type 0) (nodes : ℕ) (bytes : List ℕ) (read : Result X WireFault) →
    IfErr (header_of nodes bytes) (λ fault. read ≡ Err fault)
    → ((fault : WireFault) → read ≡ Err fault → wire_refusal fault ≡ faults.OutOfMemory) → IsOk (header_of nodes bytes)
header_is_ok X nodes bytes read same want = no_header_fault _ X (header_of nodes bytes) read (all_no_want nodes bytes)
    same want
