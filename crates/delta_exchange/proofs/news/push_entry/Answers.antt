use Rattle.std.proofs.Common.{◌≡◌, ◌++◌, ◌∷◌, [], List, Bool, map, ap, ◌∙◌}
use Rattle.stamp_register.specs.Keys.{key_value}
use Rattle.operations.specs.Operations.{Operation, Set}
use Rattle.operations.specs.Counts.{operation_told}
use Rattle.replica_state.specs.Stored.{reader_held}
use Rattle.replica_state.proofs.Learned.{on_ok}
use Rattle.message_format.specs.Messages.{entry_value, operations_of, hits_in, execs_in, shifts_in, grants_in}
use Rattle.delta_exchange.specs.News.{news_held, news_of}
use Rattle.delta_exchange.proofs.NewsLemmas.{held_both, news_of_name, entry_named}
use Rattle.delta_exchange.proofs.news.push_entry.Goals as goal

pub returns : goal.returns
returns g c =
    let v = g.R.Replica.state c.args.replica.now in
    let h = reader_held g.R.Point.Stored.held c.point-held.result in
    let e = c.args.entry.now in
    let told = c.new-told.ensures in
    let n : List (Operation × Bool) = map news_of c.args.news.now.items in
    let n1 : List (Operation × Bool) = map news_of c.push_news.new.news.items in
    let n2 : List (Operation × Bool) = map news_of c.push_hits.new.news.items in
    let n3 : List (Operation × Bool) = map news_of c.push_execs.new.news.items in
    let n4 : List (Operation × Bool) = map news_of c.push_shifts.new.news.items in
    let n5 : List (Operation × Bool) = map news_of c.push_grants.new.news.items in
    let set : List Operation = Set e.name (key_value e.key) ∷ [] in
    let hits : List Operation = hits_in e.name e.hits.items in
    let execs : List Operation = execs_in e.name (key_value e.key) e.execs.items in
    let shifts : List Operation = shifts_in e.name (key_value e.key) e.shifts.items in
    let grants : List Operation = grants_in e.name (key_value e.key) e.grants.items in
    let one : n1 ≡ n ++ news_held h set = c.in_ok-push_news.ensures ∙
    (λ i. n ++ news_held h (operation_told (told.name i) (told.key i) (told.count i) ∷ [])) in
    let two : n2 ≡ n1 ++ news_held h hits = c.in_ok-push_hits.ensures ∙
    (λ i. n1 ++ news_held h (hits_in (told.name i) (c.deref.ensures.value i))) in
    let three : n3 ≡ n2 ++ news_held h execs = c.in_ok-push_execs.ensures ∙
    (λ i. n2 ++ news_held h (execs_in (told.name i) (told.key i) (c.deref-2.ensures.value i))) in
    let four : n4 ≡ n3 ++ news_held h shifts = c.in_ok-push_shifts.ensures ∙
    (λ i. n3 ++ news_held h (shifts_in (told.name i) (told.key i) (c.deref-3.ensures.value i))) in
    on_ok c.push_grants.result (λ last.
    let five : n5 ≡ n4 ++ news_held h grants = last ∙ (λ i. n4 ++
    news_held h (grants_in (told.name i) (told.key i) (c.deref-4.ensures.value i))) in
    let all : n5 ≡ n ++ news_held h (operations_of (entry_value e)) =
    held_both h n n1 n5 set (hits ++ (execs ++ (shifts ++ grants))) one
    (held_both h n1 n2 n5 hits (execs ++ (shifts ++ grants)) two
    (held_both h n2 n3 n5 execs (shifts ++ grants) three (held_both h n3 n4 n5 shifts grants four five))) in
    all ∙ ap (λ h. n ++ news_held h (operations_of (entry_value e))) c.point-held.ensures ∙
    ap (λ ns. n ++ ns) (news_of_name v e.name (operations_of (entry_value e)) (entry_named (entry_value e))))
    c.push_grants.ensures
