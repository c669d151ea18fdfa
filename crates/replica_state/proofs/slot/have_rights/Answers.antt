use Rattle.std.proofs.Common.{get_or, pos, ◌<ℤ◌, subst, sym}
use Rattle.replica_state.proofs.slot.have_rights.Goals as goal

pub returns-in-Some : goal.returns-in-Some
returns-in-Some c =
    let same = c.in-Some.ensures in
    let nodes = c.args.nodes.now in
    let told = c.have_rights.ensures in (
      λ yes k d low. subst (λ r. pos 0 <ℤ r) (same (get_or nodes k d)) (told.0 yes k d low),
      λ have. told.1 (λ k d low. subst (λ r. pos 0 <ℤ r) (sym (same (get_or nodes k d))) (have k d low)),
    )
