use Rattle.std.proofs.Common.{rules}
use Rattle.streams.proofs.Texts.{text_in-text, text_in-other}
use Rattle.streams.proofs.line.text_of.Goals as goal

pub returns : goal.returns
returns c = search (rules, text_in-text, text_in-other)
