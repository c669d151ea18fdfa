use Rattle.std.proofs.Common.{◌≡◌, ℕ, ◌<◌, List, length, Err, refl, rules}
use Rattle.std.proofs.lemmas.Bool.{le-leb, lt-leb}
use Rattle.message_format.specs.declared.fault.WireFault.TheVariants.{TooBig}
use Rattle.message_format.specs.Spelling.{max_message}
use Rattle.message_format.specs.Reading.{message_at, header_of}
use Rattle.message_format.proofs.reading.read_message.Goals as goal

too_big : (nodes : ℕ) (bytes : List ℕ) → max_message < length bytes → message_at nodes bytes ≡ Err (TooBig max_message)
unfolding message_at
too_big nodes bytes many = rw (lt-leb (length bytes) max_message many) refl

pub returns-then-bytes-gt-MAX_MESSAGE-clause-exact : goal.returns-then-bytes-gt-MAX_MESSAGE-clause-exact
returns-then-bytes-gt-MAX_MESSAGE-clause-exact c = search (rules, too_big)

pub returns-then-bytes-gt-MAX_MESSAGE-clause-header : goal.returns-then-bytes-gt-MAX_MESSAGE-clause-header
unfolding header_of
returns-then-bytes-gt-MAX_MESSAGE-clause-header c =
    rw (lt-leb (length c.args.bytes.now) max_message c.if-bytes-gt-MAX_MESSAGE.true) refl

pub returns-clause-exact : goal.returns-clause-exact
unfolding message_at
returns-clause-exact c =
    rw (le-leb (length c.args.bytes.now) max_message c.if-bytes-gt-MAX_MESSAGE.false) c.read_fields.ensures.exact

pub returns-clause-header : goal.returns-clause-header
unfolding header_of
returns-clause-header c =
    rw (le-leb (length c.args.bytes.now) max_message c.if-bytes-gt-MAX_MESSAGE.false) c.read_fields.ensures.header
