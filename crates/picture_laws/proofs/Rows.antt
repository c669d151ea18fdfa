-- What happens to a row, where all numbers fit.
use Rattle.std.proofs.Common.{◌≡◌, inl, inr, ℕ, suc, ◌+◌, ◌-◌, ◌<◌, ◌≤◌, ◌==◌, ◌&&◌, cond, Bool, true, false, List, length, min, nat_lt, slice_index, slice_set, refl, sym, ◌∙◌, ap, subst, arith, get_or-set_same, get_or-set_other}
use Rattle.std.proofs.lemmas.Bool.Decides.{leb_tells, eqb_tells}
use Rattle.std.proofs.lemmas.List.{length-set}
use Rattle.drill_picture.specs.Rights.{RowTold, fitting, after_grant, after_spend, after_send, after_arrival}

abbrev pub most : ℕ
most = 18446744073709551615

-- a row of n nodes: so many rights but those that are yet to be counted, at their setter, so many spent, and of
-- each node so many held and on their way to it
pub record RowIs (n setter yet whole spent : ℕ) (held way : ℕ → ℕ) (row : RowTold) : Type 0 where
  pub held_long : length row.held ≡ n
  pub way_long : length row.way ≡ n
  pub whole_is : row.whole + yet ≡ whole
  pub spent_is : row.spent ≡ spent
  pub held_is : (i : ℕ) → i < n → slice_index row.held i + cond (i == setter) yet 0 ≡ held i
  pub way_is : (j : ℕ) → j < n → slice_index row.way j ≡ way j

-- a number in a list that was changed
pub set_at : (xs : List ℕ) (k i new : ℕ) → k < length xs →
    slice_index (slice_set xs k new) i ≡ cond (i == k) new (slice_index xs i)
set_at xs k i new within = elim (eqb_tells i k) [
  | inl w ↦
      ap (λ m. slice_index (slice_set xs k new) m) w.1 ∙ get_or-set_same xs k new 0 within
      ∙ sym (ap (λ t. cond t new (slice_index xs i)) w.0)
  | inr w ↦
      get_or-set_other xs k i new 0 w.1
      ∙ sym (ap (λ t. cond t new (slice_index xs i)) w.0)
]

-- the same by how the number changed
pub set_more : (xs : List ℕ) (k i amount : ℕ) → k < length xs →
    slice_index (slice_set xs k (slice_index xs k + amount)) i ≡ slice_index xs i + cond (i == k) amount 0
set_more xs k i amount within =
    let at = set_at xs k i (slice_index xs k + amount) within in
    elim (eqb_tells i k) [
      | inl w ↦
          let e : slice_index (slice_set xs k (slice_index xs k + amount)) i ≡ slice_index xs k + amount =
          at ∙ ap (λ t. cond t (slice_index xs k + amount) (slice_index xs i)) w.0 in
          let f : ◌≡◌ {A = ℕ} (cond (i == k) amount 0) amount = ap (λ t. cond t amount 0) w.0 in
          let same : slice_index xs i ≡ slice_index xs k = ap (λ m. slice_index xs m) w.1 in
          omega (arith, e, f, same)
      | inr w ↦
          let e : slice_index (slice_set xs k (slice_index xs k + amount)) i ≡ slice_index xs i =
          at ∙ ap (λ t. cond t (slice_index xs k + amount) (slice_index xs i)) w.0 in
          let f : ◌≡◌ {A = ℕ} (cond (i == k) amount 0) 0 = ap (λ t. cond t amount 0) w.0 in
          omega (arith, e, f)
    ]

pub set_less : (xs : List ℕ) (k i amount : ℕ) → k < length xs → amount ≤ slice_index xs k →
    slice_index (slice_set xs k (slice_index xs k - amount)) i + cond (i == k) amount 0 ≡ slice_index xs i
set_less xs k i amount within few =
    let at = set_at xs k i (slice_index xs k - amount) within in
    elim (eqb_tells i k) [
      | inl w ↦
          let e : slice_index (slice_set xs k (slice_index xs k - amount)) i ≡ slice_index xs k - amount =
          at ∙ ap (λ t. cond t (slice_index xs k - amount) (slice_index xs i)) w.0 in
          let f : ◌≡◌ {A = ℕ} (cond (i == k) amount 0) amount = ap (λ t. cond t amount 0) w.0 in
          let same : slice_index xs i ≡ slice_index xs k = ap (λ m. slice_index xs m) w.1 in
          omega (arith, e, f, same, few)
      | inr w ↦
          let e : slice_index (slice_set xs k (slice_index xs k - amount)) i ≡ slice_index xs i =
          at ∙ ap (λ t. cond t (slice_index xs k - amount) (slice_index xs i)) w.0 in
          let f : ◌≡◌ {A = ℕ} (cond (i == k) amount 0) 0 = ap (λ t. cond t amount 0) w.0 in
          omega (arith, e, f)
    ]

-- the same row, told by other numbers that are the same
pub row_same : (n setter yet whole spent whole' spent' : ℕ) (held way held' way' : ℕ → ℕ) (row : RowTold) →
    RowIs n setter yet whole spent held way row → whole ≡ whole' → spent ≡ spent' →
    ((i : ℕ) → i < n → held i ≡ held' i) → ((i : ℕ) → i < n → way i ≡ way' i) →
    RowIs n setter yet whole' spent' held' way' row
row_same n setter yet whole spent whole' spent' held way held' way' row is a b c d = record {
  held_long = is.held_long;
  way_long = is.way_long;
  whole_is = is.whole_is ∙ a;
  spent_is = is.spent_is ∙ b;
  held_is = λ i low. is.held_is i low ∙ c i low;
  way_is = λ i low. is.way_is i low ∙ d i low;
}

-- what is yet to be counted is counted
pub make_is : (n setter count whole spent : ℕ) (held way : ℕ → ℕ) (row : RowTold) → setter < n → whole ≤ most →
    RowIs n setter count whole spent held way row →
    RowIs n setter 0 whole spent held way (after_grant setter count row)
unfolding after_grant
make_is n setter count whole spent held way row low few is =
    let new : RowTold = record {
      whole = row.whole + fitting row count;
      spent = row.spent;
      held = slice_set row.held setter (slice_index row.held setter + fitting row count);
      way = row.way;
    } in
    let P : Bool → Type 0 = λ t. RowIs n setter 0 whole spent held way (cond t new row) in
    let room = is.whole_is in
    let fits : fitting row count ≡ count = omega (arith, room, few) in
    elim (leb_tells (suc setter) (length row.held)) [
      | inl w ↦ subst P (sym w.0) (record {
        held_long = length-set row.held setter _ ∙ is.held_long;
        way_long = is.way_long;
        whole_is = omega (arith, room, fits);
        spent_is = is.spent_is;
        held_is = λ i within.
            let e = set_more row.held setter i (fitting row count) w.1 in
            let f = is.held_is i within in
            let g : ◌≡◌ {A = ℕ} (cond (i == setter) (fitting row count) 0) (cond (i == setter) count 0) =
            ap (λ k. cond (i == setter) k 0) fits in
            let h : ◌≡◌ {A = ℕ} (cond (i == setter) 0 0) 0 = nothing (i == setter) in
            omega (arith, e, f, g, h);
        way_is = is.way_is;
      })
      | inr w ↦ let past = w.1 in let long = is.held_long in absurd (omega (arith, past, long, low))
    ]
  where
    nothing : (t : Bool) → ◌≡◌ {A = ℕ} (cond t 0 0) 0
    nothing true = refl
    nothing false = refl

-- some more are granted
pub grant_is : (n setter yet whole spent node amount : ℕ) (held way : ℕ → ℕ) (row : RowTold) → node < n →
    whole + amount ≤ most → RowIs n setter yet whole spent held way row →
    RowIs n setter yet (whole + amount) spent (λ i. held i + cond (i == node) amount 0) way (after_grant node amount row)
unfolding after_grant
grant_is n setter yet whole spent node amount held way row low few is =
    let new : RowTold = record {
      whole = row.whole + fitting row amount;
      spent = row.spent;
      held = slice_set row.held node (slice_index row.held node + fitting row amount);
      way = row.way;
    } in
    let P : Bool → Type 0 = λ t. RowIs n setter yet (whole + amount) spent (λ i. held i + cond (i == node) amount 0) way
    (cond t new row) in
    let room = is.whole_is in
    let fits : fitting row amount ≡ amount = omega (arith, room, few) in
    elim (leb_tells (suc node) (length row.held)) [
      | inl w ↦ subst P (sym w.0) (record {
        held_long = length-set row.held node _ ∙ is.held_long;
        way_long = is.way_long;
        whole_is = omega (arith, room, fits);
        spent_is = is.spent_is;
        held_is = λ i within.
            let e = set_more row.held node i (fitting row amount) w.1 in
            let f = is.held_is i within in
            let g : ◌≡◌ {A = ℕ} (cond (i == node) (fitting row amount) 0) (cond (i == node) amount 0) =
            ap (λ k. cond (i == node) k 0) fits in
            omega (arith, e, f, g);
        way_is = is.way_is;
      })
      | inr w ↦ let past = w.1 in let long = is.held_long in absurd (omega (arith, past, long, low))
    ]

-- one is spent of those that are there
pub spend_is : (n setter yet whole spent node : ℕ) (held way held' : ℕ → ℕ) (row : RowTold) → node < n →
    1 ≤ slice_index row.held node → ((i : ℕ) → i < n → held' i + cond (i == node) 1 0 ≡ held i) →
    RowIs n setter yet whole spent held way row →
    RowIs n setter yet whole (spent + 1) held' way (after_spend node row)
unfolding after_spend
spend_is n setter yet whole spent node held way held' row low some less is =
    let new : RowTold = record {
      whole = row.whole;
      spent = row.spent + 1;
      held = slice_set row.held node (slice_index row.held node - 1);
      way = row.way;
    } in
    let P : Bool → Type 0 = λ t. RowIs n setter yet whole (spent + 1) held' way (cond t new row) in
    let within : node < length row.held = let long = is.held_long in omega (arith, long, low) in
    elim (leb_tells 1 (slice_index row.held node)) [
      | inl w ↦ subst P (sym w.0) (record {
        held_long = length-set row.held node _ ∙ is.held_long;
        way_long = is.way_long;
        whole_is = is.whole_is;
        spent_is = ap (λ k. k + 1) is.spent_is;
        held_is = λ i below.
            let e = set_less row.held node i 1 within some in
            let f = is.held_is i below in
            let g = less i below in
            omega (arith, e, f, g);
        way_is = is.way_is;
      })
      | inr w ↦ let none = w.1 in absurd (omega (arith, none, some))
    ]

-- some of those that are there are sent
pub send_is : (n setter yet whole spent node to amount : ℕ) (held way held' : ℕ → ℕ) (row : RowTold) → node < n →
    to < n → amount ≤ slice_index row.held node → ((i : ℕ) → i < n → held' i + cond (i == node) amount 0 ≡ held i) →
    RowIs n setter yet whole spent held way row →
    RowIs n setter yet whole spent held' (λ j. way j + cond (j == to) amount 0) (after_send node to amount row)
unfolding after_send
send_is n setter yet whole spent node to amount held way held' row low there enough less is =
    let k = min amount (slice_index row.held node) in
    let new : RowTold = record {
      whole = row.whole;
      spent = row.spent;
      held = slice_set row.held node (slice_index row.held node - k);
      way = slice_set row.way to (slice_index row.way to + k);
    } in
    let R : RowTold → Type 0 = λ r. RowIs n setter yet whole spent held' (λ j. way j + cond (j == to) amount 0) r in
    let P : Bool → Type 0 = λ t. R (cond (t && nat_lt to (length row.way)) new row) in
    let Q : Bool → Type 0 = λ t. R (cond (true && t) new row) in
    let all : k ≡ amount = omega (arith, enough) in
    let few : k ≤ slice_index row.held node = omega (arith, enough) in
    let within : node < length row.held = let long = is.held_long in omega (arith, long, low) in
    let inside : to < length row.way = let long = is.way_long in omega (arith, long, there) in
    elim (leb_tells (suc node) (length row.held)) [
      | inl v ↦ (elim (leb_tells (suc to) (length row.way)) [
        | inl w ↦ subst P (sym v.0) (subst Q (sym w.0) (record {
          held_long = length-set row.held node _ ∙ is.held_long;
          way_long = length-set row.way to _ ∙ is.way_long;
          whole_is = is.whole_is;
          spent_is = is.spent_is;
          held_is = λ i below.
              let e = set_less row.held node i k within few in
              let f = is.held_is i below in
              let g = less i below in
              let h : ◌≡◌ {A = ℕ} (cond (i == node) k 0) (cond (i == node) amount 0) =
              ap (λ x. cond (i == node) x 0) all in
              omega (arith, e, f, g, h);
          way_is = λ j below.
              let e = set_more row.way to j k inside in
              let f = is.way_is j below in
              let h : ◌≡◌ {A = ℕ} (cond (j == to) k 0) (cond (j == to) amount 0) =
              ap (λ x. cond (j == to) x 0) all in
              omega (arith, e, f, h);
        }))
        | inr w ↦ let past = w.1 in absurd (omega (arith, past, inside))
      ])
      | inr v ↦ let past = v.1 in absurd (omega (arith, past, within))
    ]

-- some of those that are on their way arrive
pub arrive_is : (n setter yet whole spent node amount : ℕ) (held way way' : ℕ → ℕ) (row : RowTold) → node < n →
    amount ≤ slice_index row.way node → ((j : ℕ) → j < n → way' j + cond (j == node) amount 0 ≡ way j) →
    RowIs n setter yet whole spent held way row →
    RowIs n setter yet whole spent (λ i. held i + cond (i == node) amount 0) way' (after_arrival node row amount)
unfolding after_arrival
arrive_is n setter yet whole spent node amount held way way' row low enough less is =
    let k = min amount (slice_index row.way node) in
    let new : RowTold = record {
      whole = row.whole;
      spent = row.spent;
      held = slice_set row.held node (slice_index row.held node + k);
      way = slice_set row.way node (slice_index row.way node - k);
    } in
    let P : Bool → Type 0 = λ t. RowIs n setter yet whole spent (λ i. held i + cond (i == node) amount 0) way'
    (cond t new row) in
    let all : k ≡ amount = omega (arith, enough) in
    let few : k ≤ slice_index row.way node = omega (arith, enough) in
    let within : node < length row.held = let long = is.held_long in omega (arith, long, low) in
    let inside : node < length row.way = let long = is.way_long in omega (arith, long, low) in
    elim (leb_tells (suc node) (length row.held)) [
      | inl w ↦ subst P (sym w.0) (record {
        held_long = length-set row.held node _ ∙ is.held_long;
        way_long = length-set row.way node _ ∙ is.way_long;
        whole_is = is.whole_is;
        spent_is = is.spent_is;
        held_is = λ i below.
            let e = set_more row.held node i k within in
            let f = is.held_is i below in
            let h : ◌≡◌ {A = ℕ} (cond (i == node) k 0) (cond (i == node) amount 0) =
            ap (λ x. cond (i == node) x 0) all in
            omega (arith, e, f, h);
        way_is = λ j below.
            let e = set_less row.way node j k inside few in
            let f = is.way_is j below in
            let g = less j below in
            let h : ◌≡◌ {A = ℕ} (cond (j == node) k 0) (cond (j == node) amount 0) =
            ap (λ x. cond (j == node) x 0) all in
            omega (arith, e, f, g, h);
      })
      | inr w ↦ let past = w.1 in absurd (omega (arith, past, within))
    ]
