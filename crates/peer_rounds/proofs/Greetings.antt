-- Peers that are looked for among those that asked, one after the other.
use Rattle.std.proofs.Common.{◌≡◌, ◌<◌, true, false, if◌then◌else◌, ℕ, ◌+◌, suc, List, [], ◌∷◌, ◌++◌, length, take, drop, set, get_or, subst, ap, sym, ◌∙◌, arith}
use Rattle.gossip_pace.specs.declared.news.Pace.{Pace}
use Rattle.gossip_pace.specs.News.{asked_pace}
use Rattle.gossip.proofs.NewsLemmas.{same_first, taken_next, taken_written}
use Rattle.peers.specs.declared.asked.AskState.{AskState}
use Rattle.peer_rounds.specs.Rounds.{AreGreeted, greeted_by, nobody, greeted}

greeted_then : {all more : List AskState} {ps qs ps' qs' : List Pace} → AreGreeted all ps qs → AreGreeted more ps' qs' →
    AreGreeted (all ++ more) (ps ++ ps') (qs ++ qs')
greeted_then nobody more = more
greeted_then (greeted is rest) more = greeted is (greeted_then rest more)

next_is : (i : ℕ) → i + 1 ≡ suc i
next_is i = omega arith

-- one more of them
pub greeted_on : (all : List AskState) (asking : AskState) (ps qs : List Pace) (i : ℕ) (none after : Pace) → i < length qs →
    length qs ≡ length ps → drop i qs ≡ drop i ps → AreGreeted all (take i ps) (take i qs) →
    asking.node ≡ (get_or qs i none).node → after ≡ greeted_by asking (get_or qs i none) →
    AreGreeted (all ++ asking ∷ []) (take (i + 1) ps) (take (i + 1) (set qs i after))
greeted_on all asking ps qs i none after lt long same so_far is so =
    let p : Pace = get_or qs i none in
    let first : take i ps ++ p ∷ [] ≡ take (i + 1) ps =
    ap (λ x. take i ps ++ x ∷ []) (same_first qs ps i none same) ∙ sym (taken_next ps i none (omega (arith, lt, long)))
    ∙ ap (λ k. take k ps) (sym (next_is i)) in
    let then_after : take i qs ++ greeted_by asking p ∷ [] ≡ take (i + 1) (set qs i after) =
    ap (λ x. take i qs ++ x ∷ []) (sym so) ∙ sym (taken_written qs i after lt)
    ∙ ap (λ k. take k (set qs i after)) (sym (next_is i)) in
    subst (λ l. AreGreeted (all ++ asking ∷ []) (take (i + 1) ps) l) then_after
    (subst (λ l. AreGreeted (all ++ asking ∷ []) l (take i qs ++ greeted_by asking p ∷ [])) first
    (greeted_then so_far (greeted is nobody)))

-- who asked, and who didn't
pub asked_is : (asking : AskState) (p : Pace) → asking.has_asked ≡ true → asked_pace p ≡ greeted_by asking p
asked_is asking p is = sym (ap (λ b. if b then asked_pace p else p) is)

pub left_is : (asking : AskState) (p : Pace) → asking.has_asked ≡ false → p ≡ greeted_by asking p
left_is asking p is = sym (ap (λ b. if b then asked_pace p else p) is)
