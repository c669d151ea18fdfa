use Rattle.std.proofs.Common.{length, rules, lit<}
use Rattle.std.proofs.lemmas.List.{length_push}
use Rattle.std.proofs.lemmas.Iterator.Consumers.{YieldsList-turn, YieldsList-end}
use Rattle.std.proofs.lemmas.Iterator.Splits.{YieldsList-from_str_split}
use Rattle.streams.specs.Fields.{fields_of}
use Rattle.scripts.proofs.Words.{none_from_field, one_more_number, all_numbers}
use Rattle.scripts.proofs.command.words_in.Goals as goal

pub returns-in_default : goal.returns-in_default
returns-in_default c =
    let turn = YieldsList-turn (YieldsList-from_str_split 32 c.args.text.now (lit< tt) (search rules) (search rules)
    (search rules))
    c.loop-field.yielded _ c.loop-field.yielded_by _ _ c.in-Some.field c.in-Some.is c.next.ensures.steps in
    none_from_field (fields_of c.args.text.now) (length c.loop-field.yielded) c.in-Some.field.now
    c.loop-field.words.items turn.0 turn.1 c.loop-field.invariant (search rules)

pub loop-field-preserved : goal.loop-field-preserved
loop-field-preserved c =
    let turn = YieldsList-turn (YieldsList-from_str_split 32 c.args.text.now (lit< tt) (search rules) (search rules)
    (search rules))
    c.loop-field.yielded _ c.loop-field.yielded_by _ _ c.in-Some.field c.in-Some.is c.next.ensures.steps in
    one_more_number (fields_of c.args.text.now) (length c.loop-field.yielded) _ c.in-Some-word.number
    c.in-Some.field.now
    c.loop-field.words.items c.push.new.self.items turn.0 turn.1 c.loop-field.invariant (search rules)
    (length_push c.loop-field.yielded c.in-Some.field) (search rules)

pub returns : goal.returns
returns c =
    let end = YieldsList-end (YieldsList-from_str_split 32 c.args.text.now (lit< tt) (search rules) (search rules)
    (search rules))
    c.loop-field.yielded _ c.loop-field.yielded_by _ _ c.in-None.is c.next.ensures.steps in
    all_numbers (fields_of c.args.text.now) (length c.loop-field.yielded) c.loop-field.words.items end.1
    c.loop-field.invariant
