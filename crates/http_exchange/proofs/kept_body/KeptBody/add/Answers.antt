use Rattle.std.proofs.Common.{◌≡◌, ◌++◌, ◌∙◌, sym, ap, arith, rules, length, take}
use Rattle.http_exchange.specs.declared.kept_body.KeptBody.{KeptBody}
use Rattle.http_exchange.proofs.Pieces.{checked_in, checked_other, checked_text, come_more}
use Rattle.http_exchange.proofs.kept_body.KeptBody.add.Goals as goal

pub returns-in-Text-clause-ok : goal.returns-in-Text-clause-ok
returns-in-Text-clause-ok c keeps came h =
    let body = c.args.self.now in
    let text = sym h.keeps_so ∙ c.in-Text.is in
    let new : KeptBody = record {
      keeps = body.keeps;
      read = c.extend_from_slice.new.self;
      count = c.min-self.result;
      check = c.add.new.self;
    } in
    come_more keeps body new came c.args.piece.now (take c.min.result c.args.piece.now) c.room-room.result c.saturating_add.result h (search rules)
    (c.room-room.ensures keeps came h) (search rules) (search rules) c.saturating_add.ensures c.min-self.ensures
    (checked_text keeps _ new (came ++ c.args.piece.now) text (c.add.ensures came (checked_in keeps _ body came text h.checked)))

pub returns-in_default : goal.returns-in_default
returns-in_default c =
    let body = c.args.self.now in
    let new : KeptBody = record {
      keeps = body.keeps;
      read = c.extend_from_slice.new.self;
      count = c.min-self.result;
      check = body.check;
    } in
    record {
      ok = λ keeps came h.
          come_more keeps body new came c.args.piece.now (take c.min.result c.args.piece.now) c.room-room.result c.saturating_add.result h (search rules)
          (c.room-room.ensures keeps came h) (search rules) (search rules) c.saturating_add.ensures c.min-self.ensures
          (checked_other keeps new (came ++ c.args.piece.now) (λ most e. c.in_default.not-Text most (h.keeps_so ∙ e)));
      err = tt;
      stays = tt;
    }
