-- What a step of reading that did not fail says.
use Rattle.std.proofs.Common.{◌≡◌, Bool, true, false, Ok, refl, subst}
use Rattle.message_format.specs.declared.fault.WireFault.{WireFault}
use Rattle.refusals.proofs.StepLemmas.{gives, ok_is}
use Rattle.message_format.specs.Reading.{wants}

-- a test that did not fail
pub wants_ok : {A : Type 0} (b : Bool) (d : WireFault) (x y : A) → wants b d x ≡ Ok y → (b ≡ true) × (x ≡ y)
wants_ok true d x y e = (refl, cc)
wants_ok false d x y e = absurd cc

-- what holds of the value that a reader is known to give
pub at_ok : {A : Type 0} (P : A → Type 0) (x y : A) → gives WireFault x ≡ gives WireFault y → P x → P y
at_ok P x y e h = subst P (ok_is x y e) h

-- what follows from a value, where its own term needn't be seen
pub given : {A P : Type 0} → A → (A → P) → P
given x follows = follows x
