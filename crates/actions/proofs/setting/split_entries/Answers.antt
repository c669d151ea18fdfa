use Rattle.std.proofs.Common.{lit<, rules}
use Rattle.std.proofs.lemmas.Iterator.{YieldsList-from_map_by}
use Rattle.std.proofs.lemmas.Iterator.Consumers.{map_from_collect, YieldsList-at, YieldsList-from_filter}
use Rattle.std.proofs.lemmas.Iterator.Splits.{YieldsList-from_str_split}
use borrow.Author.Tests.{tests}
use Rattle.actions.specs.Reading.{trimmed_text}
use Rattle.actions.specs.SettingReading.{entries}
use Rattle.actions.specs.Bytes.{semicolon}
use Rattle.actions.proofs.EntryLemmas.{nonempty}
use Rattle.actions.proofs.setting.split_entries.Goals as goal

pub returns : goal.returns
unfolding entries
returns c =
    let cut = YieldsList-from_str_split semicolon c.args.text.now (lit< tt) c.split.ensures.text
    c.split.ensures.has_more c.split.ensures.pattern in
    let bare = YieldsList-from_map_by _ (λ x. x.now) trimmed_text (YieldsList-at c.map.ensures.source cut)
    c.map.ensures.closure (λ x r q k. search rules) in
    map_from_collect _ c.collect.ensures.ran
    (YieldsList-from_filter _ nonempty (YieldsList-at c.filter.ensures.source bare) c.filter.ensures.closure
    (λ x b q k. search (rules, tests)))
