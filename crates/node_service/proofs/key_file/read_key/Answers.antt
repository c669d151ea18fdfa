use Rattle.std.proofs.Common.{◌≡◌, ap, subst, arith, ℕ, ◌+◌, ◌≤◌, List, [], ◌++◌, take, length, Option, option_map, Some, None, IfSome}
use Rattle.std.proofs.lemmas.List.{length-take, take_all}
use Rattle.node_service.proofs.key_file.read_key.Goals as goal

-- whoever is given fewer bytes than were asked for is given all
all_given : (input : Option (List ℕ)) (asked : ℕ) (empty given : List ℕ) → empty ≡ [] → length given + 1 ≤ asked →
    IfSome (option_map (take asked) input) (λ xs. given ≡ empty ++ xs) → IfSome input (λ bytes. bytes ≡ given)
all_given None asked empty given none few is = is
all_given (Some bytes) asked empty given none few is =
    grind (arith, none, few, is, length-take asked bytes, take_all asked bytes)

pub returns-clause-whole : goal.returns-clause-whole
returns-clause-whole g c =
    let bytes = c.read_to_end.new.buf.items in
    let IsAll : Option (List ℕ) → Type 0 = λ input. IfSome input (λ all. all ≡ bytes) in
    subst IsAll (ap g.I.Read.remaining c.take.ensures.inner)
    (all_given (g.I.Read.remaining c.take.result.inner) c.take.result.limit c.new-bytes.result.items bytes
    c.new-bytes.ensures.items (grind (arith, c.take.ensures.limit, c.if-len-gt-MOST_KEY.false, c.len.ensures)) c.in_ok-read_to_end.ensures.bytes)
