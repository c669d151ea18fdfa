use Rattle.std.proofs.lemmas.Str.{IsUtf8-string_bytes}
use Rattle.drills.proofs.line_text.printed.Goals as goal

pub returns : goal.returns
returns c = record {
  utf8 = IsUtf8-string_bytes c.in_ok-text.text;
  compact = c.in_ok-text.ensures.text;
  read =
      c.in_ok-text.ensures.reads_back;
}
