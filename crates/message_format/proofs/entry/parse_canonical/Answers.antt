use Rattle.std.proofs.Common.{◌≡◌, refl, sym, ◌∙◌}
use Rattle.std.proofs.lemmas.Bool.{not-false}
use Rattle.std.proofs.lemmas.Slice.Eq.{bytes_eq-Decides}
use Rattle.actions.specs.Canonical.{canonical}
use Rattle.message_format.specs.Reading.{is_canonical_text}
use Rattle.message_format.proofs.Texts.{not_utf8, canonical_wanted}
use Rattle.message_format.proofs.entry.parse_canonical.Goals as goal

pub returns-in_default : goal.returns-in_default
unfolding is_canonical_text
returns-in_default c = rw (not_utf8 c.args.bytes.now c.in_default.ensures.cases.0) refl

pub returns : goal.returns
returns c =
    let text = c.in-Ok.ensures.cases in
    let read = rw text.0 at c.in-Ok-parse_actions.ensures.exact in
    let shown : c.text.result.now ≡ c.in-Ok.text.now =
    (bytes_eq-Decides c.text.result.now c.in-Ok.text.now).0 (not-false _ (sym c.ne.ensures ∙ c.if-ne.false)) in
    let same : canonical c.in-Ok-parse_actions.actions ≡ c.args.bytes.now = sym c.text.ensures.value ∙ shown ∙ text.0 in
    canonical_wanted c.args.offset c.args.bytes.now c.in-Ok-parse_actions.actions text.1 read same
