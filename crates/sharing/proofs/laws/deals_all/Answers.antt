use Rattle.sharing.proofs.Dealt.{deals_all}
use Rattle.sharing.proofs.laws.deals_all.Goals as goal

pub returns : goal.returns
returns c = deals_all
