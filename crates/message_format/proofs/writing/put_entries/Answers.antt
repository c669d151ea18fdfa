use Rattle.std.proofs.Common.{◌++◌, ◌∙◌, ap}
use Rattle.std.proofs.lemmas.List.Elements.{All-from_recursion}
use Rattle.message_format.specs.declared.message.NameEntry.{NameEntry}
use Rattle.message_format.specs.Messages.{entry_value}
use Rattle.message_format.specs.Spelling.{entry_bytes, IsEntry}
use Rattle.message_format.proofs.Entries.{each_is}
use Rattle.message_format.proofs.Written.{viewed_more}
use Rattle.message_format.proofs.writing.put_entries.Goals as goal

pub put_entry-requires : goal.put_entry-requires
put_entry-requires c =
    let nodes = c.requires.0 in
    let all = All-from_recursion (λ (e : NameEntry). IsEntry nodes (entry_value e)) c.args.entries.now
    (each_is nodes c.args.entries.now c.requires.1.each) in
    (nodes, rw c.entry-item.is (all c.loop-entry.entry-index _ c.loop-entry-test.true))

pub loop-entry-preserved : goal.loop-entry-preserved
loop-entry-preserved c =
    let spell = entry_bytes c.args.form in
    viewed_more entry_value spell c.args.entries.now c.loop-entry.entry-index c.entry-item.result _ _ _
    c.loop-entry-test.true c.loop-entry.invariant (c.in_ok-put_entry.ensures ∙
    ap (λ e. c.loop-entry.out.items ++ spell (entry_value e)) c.entry-item.is)
