use Rattle.std.proofs.Common.{◌∙◌, arith, ap, sym}
use Rattle.std.specs.Prelude.{is_some}
use Rattle.std.specs.Map.{keys_of}
use Rattle.std.specs.Ordering.{nat_cmp}
use Rattle.std.specs.Cmp.Lexicographic.{slice_cmp}
use Rattle.lattice_laws.specs.Map.{stored_at}
use Rattle.std.proofs.lemmas.Map.Entries.{length-keys_of}
use Rattle.replica_state.specs.Slots.{shown_slots}
use Rattle.replica_state.specs.MatrixStates.{matrix_state}
use Rattle.replica_state.proofs.NamesTogether.{shared-found, shared-missing, shared-none, names_together, stored_tells}
use Rattle.replica_state.proofs.SetJoins.{sorted_ascends}
use Rattle.replica_state.proofs.Slots.{seen_is}
use Rattle.replica_state.proofs.matrix.MatrixReplica.names_together.Goals as goal

pub loop-name-init : goal.loop-name-init
loop-name-init c =
    let own = sorted_ascends (keys_of c.args.self.now.slots) c.note_is_map.ensures.ordered in
    let others = sorted_ascends (keys_of c.args.other.now.slots) c.iter-name-items.ensures.is_map.ordered in
    let both = names_together (λ q. is_some (stored_at (slice_cmp nat_cmp) c.args.self.now.slots q))
    (keys_of c.args.other.now.slots) (keys_of c.args.self.now.slots) others own
    (stored_tells c.args.self.now.slots (keys_of c.args.other.now.slots)) in
    let a = length-keys_of c.args.self.now.slots in
    let b = length-keys_of c.args.other.now.slots in
    let m = c.len.ensures.value in
    let n = c.len-2.ensures.value in
    rw (c.into_iter-name-iterator.ensures.into_iter_gives, c.iter-name-items.ensures.rest)
    (omega (arith, both, a, b, m, n))

pub overflow_sub-names : goal.overflow_sub-names
overflow_sub-names c =
    let before = rw c.in-Some.ensures.steps at c.loop-name.invariant in
    let found = shared-found (λ q. is_some (stored_at (slice_cmp nat_cmp) c.args.self.now.slots q)) c.in-Some.name.now
    (keys_of c.next.new.self) (ap is_some (sym c.get.ensures.value) ∙ seen_is c.get.result ∙
    sym (c.is_some.ensures) ∙ c.if-is_some.true) in
    omega (arith, before, found)

pub loop-name-preserved-then-is_some : goal.loop-name-preserved-then-is_some
loop-name-preserved-then-is_some c =
    let before = rw c.in-Some.ensures.steps at c.loop-name.invariant in
    let found = shared-found (λ q. is_some (stored_at (slice_cmp nat_cmp) c.args.self.now.slots q)) c.in-Some.name.now
    (keys_of c.next.new.self) (ap is_some (sym c.get.ensures.value) ∙ seen_is c.get.result ∙
    sym (c.is_some.ensures) ∙ c.if-is_some.true) in
    omega (arith, before, found)

pub loop-name-preserved : goal.loop-name-preserved
loop-name-preserved c =
    let before = rw c.in-Some.ensures.steps at c.loop-name.invariant in
    let missing = shared-missing (λ q. is_some (stored_at (slice_cmp nat_cmp) c.args.self.now.slots q))
    c.in-Some.name.now (keys_of c.next.new.self) (ap is_some (sym c.get.ensures.value) ∙ seen_is c.get.result ∙
    sym (c.is_some.ensures) ∙ c.if-is_some.false) in
    omega (arith, before, missing)

pub returns : goal.returns
unfolding matrix_state shown_slots
returns c =
    let before = rw c.in-None.ensures.steps.0 at c.loop-name.invariant in
    let none = shared-none (λ q. is_some (stored_at (slice_cmp nat_cmp) c.args.self.now.slots q)) in
    omega (arith, before, none)
