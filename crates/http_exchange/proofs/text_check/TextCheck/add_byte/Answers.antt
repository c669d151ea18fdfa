use Rattle.std.proofs.Common.{◌≡◌, ◌∙◌, ◌∷◌, [], ◌++◌, set, length, refl, sym, ap, rules, arith, append_assoc, append-nil}
use Rattle.std.proofs.lemmas.List.{take_all, take_more_set}
use Rattle.http_exchange.proofs.Pieces.{whole_block}
use Rattle.http_exchange.proofs.text_check.TextCheck.add_byte.Goals as goal

pub returns-else-self-lt-BLOCK : goal.returns-else-self-lt-BLOCK
returns-else-self-lt-BLOCK c came h =
    let block = c.args.self.now.block in
    let len : length block ≡ 64 = search rules in
    record {
      blocks = h.blocks ++ set block c.args.self.now.filled c.args.byte;
      read = c.step.ensures h.blocks h.read;
      all = whole_block came h.blocks block c.args.self.now.filled c.args.byte h.all len (search rules);
    }
