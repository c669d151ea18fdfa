use Rattle.std.specs.Prelude.{OnOk}
use Rattle.std.proofs.Common.{◌≡◌, ℕ, Option, Result, refl, subst, sym}
use Rattle.replica_state.specs.Points.{Held, held_after_pass}
use Rattle.replica_state.specs.Slots.{slot_held}
use Rattle.replica_state.proofs.slot_map.fn.count_pass.pass.Goals as goal

told : {A E : Type 0} (r : Result A E) (new old : Held) (node : ℕ) (spent given : Option ℕ) →
    OnOk r (new ≡ held_after_pass node given old) → spent ≡ given → OnOk r (new ≡ held_after_pass node spent old)
told r new old node spent given wrote same = subst (λ s. OnOk r (new ≡ held_after_pass node s old)) (sym same) wrote

pub returns : goal.returns
returns c = record {
  ok = told c.pass.result (slot_held c.pass.new.slot) (slot_held c.args.held.now) c.captures.node
      c.captures.spent _ c.pass.ensures.ok refl;
  err = c.pass.ensures.err;
}
