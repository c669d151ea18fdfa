use Rattle.node_calls.specs.Asks.{message_read}
use Rattle.node_core.proofs.SpareWords.{set_spare, remove_spare, load_spare, shift_spare, grant_spare, spare_result, ok_first, ok_first_of_three, deliver_spare}
use Rattle.node_core.proofs.node.NodeCore.refuse_words.Goals as goal

pub returns-in-Set : goal.returns-in-Set
returns-in-Set c = λ w ws.
    rw c.in-Set.is (spare_result c.set_checked.result c.with_words.result _ _ c.with_words.ensures.ok
    c.with_words.ensures.err (ok_first_of_three _ _ _ c.set_checked.result c.set_checked.ensures.ok)
    c.set_checked.ensures.refused
    (set_spare c.args.self.now c.in-Set.name.now c.in-Set.text.now w ws))

pub returns-in-Remove : goal.returns-in-Remove
returns-in-Remove c = λ w ws.
    rw c.in-Remove.is (spare_result c.remove_checked.result c.with_words-in-Remove.result _ _
    c.with_words-in-Remove.ensures.ok c.with_words-in-Remove.ensures.err
    (ok_first _ _ c.remove_checked.result c.remove_checked.ensures.ok) c.remove_checked.ensures.refused
    (remove_spare c.args.self.now c.in-Remove.name.now w ws))

pub returns-in-Load : goal.returns-in-Load
returns-in-Load c = λ w ws.
    rw c.in-Load.is (spare_result c.load_checked.result c.with_words-in-Load.result _ _ c.with_words-in-Load.ensures.ok
    c.with_words-in-Load.ensures.err (ok_first _ _ c.load_checked.result c.load_checked.ensures.ok)
    c.load_checked.ensures.refused
    (load_spare c.args.self.now c.in-Load.text.now w ws))

pub returns-in-Shift : goal.returns-in-Shift
returns-in-Shift c = λ w ws.
    rw c.in-Shift.is (spare_result c.shift_checked.result c.with_words-in-Shift.result _ _
    c.with_words-in-Shift.ensures.ok c.with_words-in-Shift.ensures.err
    (ok_first_of_three _ _ _ c.shift_checked.result c.shift_checked.ensures.ok) c.shift_checked.ensures.refused
    (shift_spare c.args.self.now c.in-Shift.name.now c.in-Shift.term c.in-Shift.to c.in-Shift.amount w ws))

pub returns-in-Grant : goal.returns-in-Grant
returns-in-Grant c = λ w ws.
    rw c.in-Grant.is (spare_result c.grant_checked.result c.with_words-in-Grant.result _ _
    c.with_words-in-Grant.ensures.ok c.with_words-in-Grant.ensures.err
    (ok_first_of_three _ _ _ c.grant_checked.result c.grant_checked.ensures.ok) c.grant_checked.ensures.refused
    (grant_spare c.args.self.now c.in-Grant.name.now c.in-Grant.term c.in-Grant.amount w ws))

pub returns-in-Deliver : goal.returns-in-Deliver
returns-in-Deliver c = λ w ws.
    let k = c.args.self.now in
    rw c.in-Deliver.is (deliver_spare k (message_read k.config.nodes c.in-Deliver.message.now) w ws
    c.deliver_checked.result c.delivery_with_words.result c.delivery_with_words.ensures.ok
    c.delivery_with_words.ensures.err c.deliver_checked.ensures.ok c.deliver_checked.ensures.refused)
