use Rattle.std.proofs.Common.{◌≡◌, ◌-◌, ℕ, List, length, take, drop, take_all, length-drop, ap, ◌∙◌, arith}
use Rattle.sharing.specs.declared.remembered.Remembered.{Remembered}
use Rattle.sharing.specs.Memory.{recall}
use Rattle.sharing.specs.Remembered.{recalled_all}
use Rattle.sharing.proofs.Recalling.{below_both, other_name, recall_from}
use Rattle.sharing.proofs.remembered.from_name.Goals as goal

-- all that is behind a place
behind : (place : ℕ) (kept : List Remembered) → take (length kept - place) (drop place kept) ≡ drop place kept
behind place kept =
    let long = length-drop place kept in
    take_all (length kept - place) (drop place kept) (omega (arith, long))

pub returns-clause-here : goal.returns-clause-here
returns-clause-here c =
    let name = c.args.name.now in
    ap (λ rest. recall (recalled_all rest) name) (behind c.place_of.result c.args.memory.now)
    ∙ recall_from c.place_of.result c.args.memory.now name name c.place_of.ensures.below
    (λ a low. other_name a name low)

pub returns-clause-above : goal.returns-clause-above
returns-clause-above c other high =
    ap (λ rest. recall (recalled_all rest) other) (behind c.place_of.result c.args.memory.now)
    ∙ recall_from c.place_of.result c.args.memory.now c.args.name.now other c.place_of.ensures.below
    (λ a low. below_both a c.args.name.now other low high)
