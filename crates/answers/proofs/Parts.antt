-- The parts of an object, one after the other.
use Rattle.std.proofs.Common.{◌≡◌, ◌++◌, ◌∙◌, List, Result, Ok, Err, append_assoc}
use Rattle.std.specs.Prelude.{OnOk}

pub joined : {A : Type 0} {one two three four five six seven : List A} (old front a b c d e f end : List A)
    → one ≡ old ++ front → two ≡ one ++ a → three ≡ two ++ b → four ≡ three ++ c → five ≡ four ++ d → six ≡ five ++ e
    → seven ≡ six ++ f → seven ++ end ≡ old ++ (front ++ ((a ++ (b ++ (c ++ (d ++ (e ++ f))))) ++ end))
joined old front a b c d e f end h1 h2 h3 h4 h5 h6 h7 = rw (h7, h6, h5, h4, h3, h2, h1) (simp append_assoc)

pub ended : {A E : Type 0} (new x y : List A) (r : Result (Unit {0}) E) → OnOk r (new ≡ x) → x ≡ y → OnOk r (new ≡ y)
ended new x y (Ok _) h k = h ∙ k
ended new x y (Err _) h k = tt
