use Rattle.std.proofs.Common.{rules}
use Rattle.std.proofs.lemmas.Bool.Decides.{Decides-eqb}
use Rattle.std.proofs.lemmas.Slice.Eq.{strip_prefix_is}
use Rattle.http_exchange.proofs.Joined.{joined-none, joined-rest}
use Rattle.http_exchange.proofs.heads.is_joined.Goals as goal

pub returns-in-Some : goal.returns-in-Some
returns-in-Some c =
    let cut = strip_prefix_is Decides-eqb c.args.bytes.now c.args.start.now _ c.strip_prefix.ensures.cases in
    let same = joined-rest c.args.bytes.now c.args.start.now c.in-Some.rest.now c.args.end.now (rw c.in-Some.is at cut) in
    search (rules, same)

pub returns-in-None : goal.returns-in-None
returns-in-None c =
    let cut = strip_prefix_is Decides-eqb c.args.bytes.now c.args.start.now _ c.strip_prefix.ensures.cases in
    joined-none c.args.bytes.now c.args.start.now c.args.end.now (rw c.in-None.is at cut)
