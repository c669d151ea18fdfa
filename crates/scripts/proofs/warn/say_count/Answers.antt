use Rattle.std.proofs.Common.{◌≡◌, ℕ, ◌++◌, ◌∷◌, ◌∙◌, List, [], Result, Ok, Err, ap, rules}
use Rattle.std.specs.Prelude.{OnOk}
use Rattle.scripts.proofs.warn.say_count.Goals as goal

-- a line that was pushed, by what it is
pushed : {E : Type 0} (new old : List (List ℕ)) (line is : List ℕ) (r : Result (Unit {0}) E) →
    OnOk r (new ≡ old ++ line ∷ []) → line ≡ is → OnOk r (new ≡ old ++ is ∷ [])
pushed new old line is (Ok _) h e = h ∙ ap (λ (text : List ℕ). old ++ text ∷ []) e
pushed new old line is (Err _) h e = tt

pub returns : goal.returns
returns c = pushed _ _ _ _ c.push_text.result c.push_text.ensures.ok (search rules)
