use Rattle.std.proofs.Common.{◌≡◌, ◌∙◌, map, take, get_or, sym, subst, ap}
use Rattle.std.specs.List.{flat_map}
use Rattle.std.proofs.lemmas.List.Elements.{All-from_recursion}
use Rattle.replica_state.specs.Folds.{fold}
use Rattle.message_format.specs.declared.message.NameEntry.{NameEntry}
use Rattle.message_format.specs.Messages.{entry_value, operations_of}
use Rattle.message_format.specs.Spelling.{IsEntry}
use Rattle.message_format.proofs.Entries.{each_is}
use Rattle.delta_exchange.proofs.ToldSteps.{next_entry}
use Rattle.delta_exchange.proofs.learning.replica_of.Goals as goal

pub replica_of_entry-requires : goal.replica_of_entry-requires
replica_of_entry-requires g c =
    let entries = c.args.message.now.entries.items in
    let nodes = c.requires.0 in
    let all = All-from_recursion (λ (e : NameEntry). IsEntry nodes (entry_value e)) entries
    (each_is nodes entries c.requires.1.entries.each) in (
      nodes,
      subst (λ (e : NameEntry). IsEntry nodes (entry_value e))
          (sym (rw c.deref-entry-items.ensures.value at c.entry-item.is))
          (all c.loop-entry.entry-index c.entry-item.result (rw c.deref-entry-items.ensures.value at
          c.loop-entry-test.true)),
    )

pub loop-entry-preserved : goal.loop-entry-preserved
loop-entry-preserved g c =
    let entries = c.args.message.now.entries.items in
    let state = g.R.Replica.state in
    let i = c.loop-entry.entry-index in
    let before = flat_map operations_of (map entry_value (take i entries)) in
    let told = subst (λ (e : NameEntry). state c.in_ok-told.told ≡ fold (operations_of (entry_value e)))
    (rw c.deref-entry-items.ensures.value at c.entry-item.is) c.in_ok-told.ensures in
    c.in_ok-merge.ensures.ok before (operations_of (entry_value (get_or entries i c.entry-item.result)))
    c.loop-entry.invariant told
    ∙ ap fold (sym (next_entry entries i c.entry-item.result
    (rw c.deref-entry-items.ensures.value at c.loop-entry-test.true)))
