use Rattle.std.proofs.Common.{◌≡◌, ℕ, ◌<◌, List, length, get_or, Some, arith, sym}
use Rattle.std.specs.List.{position}
use Rattle.std.proofs.lemmas.Bool.Decides.{nat_tests}
use Rattle.std.proofs.lemmas.List.Quantifiers.{position-Some}
use Rattle.std.proofs.lemmas.Str.{IsCharBoundary-before_ascii, IsCharBoundary-after_ascii}
use Rattle.thread_checks.specs.Lines.{is_dot}
use Rattle.thread_checks.proofs.lines.cut_dot.Goals as goal

-- a dot is a byte of the text, and ASCII
dot_at : (text : List ℕ) (i : ℕ) → position is_dot text ≡ Some i → (i < length text) × (get_or text i 0 < 128)
dot_at text i e =
    let at = position-Some is_dot text i 0 e in
    (at.0, grind (arith, nat_tests, at.1))

pub range-requires-clause-end_boundary : goal.range-requires-clause-end_boundary
range-requires-clause-end_boundary c =
    let at = dot_at c.args.text.now c.in_ok-dot.dot (sym c.in_ok-dot.ensures) in
    IsCharBoundary-before_ascii c.args.text.now c.in_ok-dot.dot at.0 at.1

pub range_from-requires : goal.range_from-requires
range_from-requires c some =
    let at = dot_at c.args.text.now c.in_ok-dot.dot (sym c.in_ok-dot.ensures) in
    IsCharBoundary-after_ascii c.args.text.now c.in_ok-dot.dot c.utf8.text at.0 at.1
