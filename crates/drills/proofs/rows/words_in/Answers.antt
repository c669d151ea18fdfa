use Rattle.std.proofs.Common.{sym, ap, ◌∙◌, rules}
use Rattle.streams.specs.Lines.{◌>>=◌}
use Rattle.drills.specs.Reading.{words_from}
use Rattle.drills.proofs.WordsRead.{all_words, at_first, none_from, one_more, words_of}
use Rattle.drills.proofs.rows.words_in.Goals as goal

pub loop-item-init : goal.loop-item-init
loop-item-init c = at_first c.in_ok-words.words.items (words_of c.deref-item-items.result.now)
    c.in_ok-words.ensures.items

pub returns-in_default-word_in : goal.returns-in_default-word_in
returns-in_default-word_in c =
    none_from c.deref-item-items.result.now c.loop-item.item-index c.item-item.result c.loop-item.words.items
    c.loop-item-test.true c.item-item.is
    c.loop-item.invariant (sym (search rules))
    ∙ ap words_of c.deref-item-items.ensures.value ∙ ap (λ o. o >>= words_from) c.in-Some.ensures

pub loop-item-preserved : goal.loop-item-preserved
loop-item-preserved c =
    one_more c.deref-item-items.result.now c.loop-item.item-index c.in-Some-word_in.word c.item-item.result
    c.loop-item.words.items c.push.new.self.items
    c.loop-item-test.true c.item-item.is c.loop-item.invariant (sym (search rules)) c.in_ok-push.ensures.items

pub returns : goal.returns
returns c =
    all_words c.deref-item-items.result.now c.loop-item.item-index c.loop-item.words.items c.loop-item-test.false
    c.loop-item.invariant
    ∙ ap words_of c.deref-item-items.ensures.value ∙ ap (λ o. o >>= words_from) c.in-Some.ensures
