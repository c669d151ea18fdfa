-- One shift more is made.
use Rattle.std.proofs.Common.{◌≡◌, List, [], ◌∷◌, ◌++◌, ◌∙◌, ap, subst, None}
use Rattle.node_core.specs.Traces.{Kept, after_call, refusal}
use Rattle.sharing.specs.declared.shift.Shift.{Shift}
use Rattle.node_sharing.specs.Made.{AreMade, asked}

pub one_more : (k mid new : Kept) (shifts : List Shift) (shift : Shift) → AreMade k shifts mid →
    refusal mid (asked shift) [] ≡ None → new ≡ after_call mid (asked shift) [] →
    AreMade k (shifts ++ shift ∷ []) new
one_more k mid new [] shift made accepted after =
    let P : Kept → Type 0 = λ m. refusal m (asked shift) [] ≡ None in
    (subst P made accepted, after ∙ ap (λ m. after_call m (asked shift) []) made)
one_more k mid new (first ∷ rest) shift made accepted after =
    (made.0, one_more (after_call k (asked first) []) mid new rest shift made.1 accepted after)
