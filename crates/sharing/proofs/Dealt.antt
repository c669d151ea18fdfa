-- The equal shares of all nodes add up.
use Rattle.std.proofs.Common.{◌≡◌, ℕ, zero, suc, ◌+◌, ◌*◌, ◌/◌, ◌<◌, ◌≤◌, Bool, true, false, [], ◌∷◌, refl, ◌∙◌, ap, arith}
use Rattle.std.specs.Prelude.{◌%◌, min, nat_lt, sum_by, if◌then◌else◌}
use Rattle.std.specs.List.{range_with_len}
use Rattle.std.proofs.Math.Nat.{mul_comm}
use Rattle.std.proofs.lemmas.Bool.Decides.{nat_tests}
use Rattle.std.proofs.lemmas.List.Sums.{sum_by-append}
use Rattle.std.proofs.lemmas.Nat.{div-add-mod', mod_below}
use Rattle.sharing.specs.Spreads.{dealt}
use Rattle.sharing.proofs.Walks.{first_more}

-- where so many get one more, the first so many shares come to this
dealt_upto : (whole more places : ℕ) →
    sum_by (λ place. if nat_lt place more then whole + 1 else whole) (range_with_len 0 places)
    ≡ places * whole + min places more
dealt_upto whole more zero = omega arith
dealt_upto whole more (suc places) =
    let share : ℕ → ℕ = λ place. if nat_lt place more then whole + 1 else whole in
    let before = dealt_upto whole more places in
    let all : sum_by share (range_with_len 0 (places + 1)) ≡ sum_by share (range_with_len 0 places) + (0 + share places) =
    ap (sum_by share) (first_more places) ∙ sum_by-append share (range_with_len 0 places) (places ∷ []) in
    let next : suc places ≡ places + 1 = omega arith in
    ap (λ n. sum_by share (range_with_len 0 n)) next ∙ all ∙ by (nat_lt places more) refl before
  where
    by : (b : Bool) → nat_lt places more ≡ b
        → sum_by (λ place. if nat_lt place more then whole + 1 else whole) (range_with_len 0 places)
        ≡ places * whole + min places more
        → sum_by (λ place. if nat_lt place more then whole + 1 else whole) (range_with_len 0 places)
        + (0 + (if b then whole + 1 else whole)) ≡ suc places * whole + min (suc places) more
    by true e h =
        let low : places < more = grind (arith, nat_tests) in
        omega (arith, h, low)
    by false e h =
        let high : more ≤ places = grind (arith, nat_tests) in
        omega (arith, h, high)

pub deals_all : (rights nodes : ℕ) → 0 < nodes → sum_by (dealt rights nodes) (range_with_len 0 nodes) ≡ rights
deals_all rights nodes some =
    let left : rights % nodes < nodes = mod_below rights nodes some in
    let least : min nodes (rights % nodes) ≡ rights % nodes = omega (arith, left) in
    dealt_upto (rights / nodes) (rights % nodes) nodes
    ∙ ap (λ n. nodes * (rights / nodes) + n) least
    ∙ ap (λ n. n + rights % nodes) (mul_comm nodes (rights / nodes))
    ∙ div-add-mod' rights nodes
