use Rattle.std.proofs.Common.{◌≡◌, ◌++◌, ◌∙◌, List, Result, Ok, Err, append_assoc, decimal, string_bytes}
use Rattle.std.specs.Prelude.{codes, OnOk, if◌then◌else◌}
use Rattle.std.specs.Result.{is_ok}
use Rattle.report_text.specs.Report.{counted_row}
use Rattle.report_text.specs.Lines.{granted_text, rights_text}
use Rattle.report_text.proofs.lines_report.push_term.Goals as goal

-- the parts of a line, one after the other
joined : {A : Type 0} {one two three four : List A} (old a b c d granted e f h rights end : List A)
    → one ≡ old ++ (a ++ (b ++ (c ++ d))) → two ≡ one ++ granted → three ≡ two ++ (e ++ (f ++ h))
    → four ≡ three ++ rights
    → four ++ end ≡ old ++ (a ++ b ++ c ++ d ++ granted ++ e ++ f ++ h ++ rights ++ end)
joined old a b c d granted e f h rights end first second third fourth =
    rw (fourth, third, second, first) (simp append_assoc)

-- a text that was pushed, where it had room
pushed : {A E : Type 0} {new : List A} (r : Result (Unit {0}) E) (old end whole : List A) →
    new ≡ (if is_ok r then old ++ end else old) → old ++ end ≡ whole → OnOk r (new ≡ whole)
pushed (Ok _) old end whole h k = h ∙ k
pushed (Err _) old end whole h k = tt

pub returns : goal.returns
returns g c =
    let row = counted_row (g.R.Replica.state c.args.replica.now) c.args.nodes c.args.name.now c.args.term c.args.count in
    pushed c.push_str.result (string_bytes c.push_rights.new.text) (codes "\n") _ c.push_str.ensures.bytes
    (joined (string_bytes c.args.text.now) (codes "term ") (decimal row.term) (codes " count=") (decimal row.count)
    (granted_text row.granted) (codes " spent=") (decimal row.spent) (codes " rights") (rights_text row.rights)
    (codes "\n") c.in_ok-write.ensures.bytes (rw c.total_granted.ensures at c.in_ok-push_granted.ensures)
    (rw c.spent.ensures at c.in_ok-write-2.ensures.bytes) c.in_ok-push_rights.ensures)
