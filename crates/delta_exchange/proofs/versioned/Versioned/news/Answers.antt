use Rattle.std.proofs.Common.{◌∙◌, ap, sym, nat_lt, Result, Ok, Err}
use Rattle.std.specs.Prelude.{IfOk, vec_len}
use Rattle.message_format.specs.Messages.{message_value, operations_in}
use Rattle.delta_exchange.specs.Versions.{value_of}
use Rattle.delta_exchange.proofs.LearnsLemmas.{all_brings, change_if_any, none_brings, none_new}
use Rattle.delta_exchange.proofs.versioned.Versioned.news.Goals as goal

-- what holds of a value gives what else holds of it
also : {A E : Type 0} (P Q : A → Type 0) → ((x : A) → P x → Q x) → (r : Result A E) → IfOk r P → IfOk r Q
also P Q f (Ok x) h = f x h
also P Q f (Err e) h = tt

pub returns-then-is_empty : goal.returns-then-is_empty
unfolding value_of
returns-then-is_empty g c =
    let v = g.R.Replica.state c.args.self.now.replica in
    let told = operations_in (message_value c.args.message.now) in
    none_brings v _ told c.empty.ensures
    (change_if_any v told c.in_ok-news.news.items c.in_ok-news.ensures ∙ ap (nat_lt 0) (sym c.in_ok-news.news.ok.0)
    ∙ none_new (vec_len c.in_ok-news.news) c.if-is_empty.ensures)

pub returns : goal.returns
unfolding value_of
returns g c =
    let v = g.R.Replica.state c.args.self.now.replica in
    let told = operations_in (message_value c.args.message.now) in
    also _ _ (λ received. all_brings v (g.R.Replica.state received) told) c.replica_of.result c.replica_of.ensures
