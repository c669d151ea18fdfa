-- The text of a line says it.
use Rattle.std.proofs.Common.{◌≡◌, ℕ, List, Some, sym, ap, ◌∙◌}
use Rattle.std.specs.Prelude.{option_and_then}
use Rattle.serde_json.specs.Data.{Data}
use Rattle.serde_json.specs.Read.{read}
use Rattle.serde_json.specs.Written.{compact_text, has_float}
use Rattle.streams.proofs.Texts.{text_in-text}
use Rattle.drills.specs.Fits.{LineFits}
use Rattle.drills.specs.Lines.{LineTold, line_data, line_text}
use Rattle.drills.specs.Reading.{line_in, line_of}
use Rattle.drills.specs.Written.{IsPrinted, SaysLine}
use Rattle.drills.proofs.Backs.{line_back}
use Rattle.drills.proofs.Newlines.{in_compact}
use Rattle.drills.proofs.Plain.{line_plain}

pub said : (line : LineTold) (text : List ℕ) (d : Data) → d ≡ line_data line → LineFits line → IsPrinted d text →
    SaysLine text line
said line text d same fits printed =
    let plain = line_plain line in
    let spelled : text ≡ line_text line = printed.compact (ap has_float same ∙ plain.0) ∙ ap compact_text same in
    let found : read text ≡ Some (line_data line) = printed.read (rw same plain.1) ∙ ap (λ e. Some e) same in
    let meant : line_in text ≡ Some line =
    ap (λ o. option_and_then line_of (option_and_then read o)) (sym (text_in-text text printed.utf8)) ∙
    ap (option_and_then line_of) found ∙ line_back line fits in
    (spelled, record { one = in_compact (line_data line); read = ap line_in (sym spelled) ∙ meant })
