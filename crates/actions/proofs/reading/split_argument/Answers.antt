use Rattle.std.proofs.Common.{lit<, lt-ltb}
use Rattle.std.specs.Prelude.{Some}
use Rattle.std.proofs.lemmas.Str.Pattern.{split_parts}
use lib.Utf8.{encode}
use Rattle.actions.proofs.TermLemmas.{unclosed}
use Rattle.actions.specs.Bytes.{opening_parenthesis}
use Rattle.actions.proofs.reading.split_argument.Goals as goal

pub returns-in_default-strip_suffix : goal.returns-in_default-strip_suffix
unfolding encode
returns-in_default-strip_suffix c =
    let parts =
    split_parts opening_parenthesis c.args.text.now (Some (c.in-Some.head, c.in-Some.rest)) c.in-Some.ensures.cases
    (lit< tt) in
    let byte = c.in-Some.ensures.byte (lit< tt) (λ w o h. h) in
    unclosed c.args.term c.args.text.now c.in-Some.head.now c.in-Some.rest.now parts.0
    (lt-ltb _ _ byte.2) c.in_default-strip_suffix.ensures.cases
