use Rattle.std.proofs.Common.{◌++◌, codes, string_bytes}
use Rattle.node_calls.specs.Told.{ask_ref_told}
use Rattle.drill_picture.specs.Marks.{asked_text, call_text, title_of}
use Rattle.drill_picture.proofs.Texts.{also, pushed}
use Rattle.drill_picture.proofs.marks.push_title_of.Goals as goal

pub returns : goal.returns
unfolding title_of
returns c =
    let out = string_bytes c.args.out.now in
    let a = codes "><title>" in
    let b = call_text c.args.node c.args.index in
    let d = asked_text (ask_ref_told c.args.ask) in
    let e = codes ", " in
    let first = also out _ _ a b c.in_ok-push_str.ensures.bytes c.in_ok-push_call.ensures in
    let second = also out _ _ (a ++ b) d first c.in_ok-push_asked.ensures in
    let third = also out _ _ (a ++ b ++ d) e second c.in_ok-push_str-2.ensures.bytes in
    let fourth = also out _ _ (a ++ b ++ d ++ e) c.args.word.now third c.in_ok-push_str-3.ensures.bytes in
    pushed c.push_str-4.result out _ _ (a ++ b ++ d ++ e ++ c.args.word.now) (codes "</title></use>\n") fourth
    c.push_str-4.ensures.bytes
