-- Tests over the numbers of terms, and the clocks of entries.
use Rattle.std.proofs.Common.{◌≡◌, ℕ, ◌+◌, ◌<◌, ◌≤◌, zero, suc, Bool, true, false, ◌||◌, max, List, [], ◌∷◌, ◌++◌, length, map, take, ◌⊎◌, inl, inr, refl, ◌∙◌, ap, arith}
use Rattle.std.specs.List.{flat_map}
use Rattle.std.specs.Prelude.{slice_index_or}
use Rattle.std.proofs.lemmas.List.{take_more, map-append}
use Rattle.std.proofs.lemmas.List.Concat.{flat_map-append}
use Rattle.operations.specs.Operations.{Operation, Count, Hits, Execs, Shifts}
use Rattle.replica_state.specs.Folds.{clock_in, clock_of}
use Rattle.message_format.specs.declared.message.NameEntry.{NameEntry}
use Rattle.message_format.specs.Messages.{EntryValue, entry_value, operations_of, hits_in, execs_in, shifts_in, grants_in}
use Rattle.node_steps.specs.Refusals.{any_below}

-- a test that is true below a number
below_next : (a b : ℕ) → a < suc b → (a < b) ⊎ (a ≡ b)
below_next zero zero l = inr refl
below_next zero (suc b) l = inl (omega arith)
below_next (suc a) zero l = absurd (omega (arith, l))
below_next (suc a) (suc b) l = up (below_next a b (omega (arith, l)))
  where
    up : (a < b) ⊎ (a ≡ b) → (suc a < suc b) ⊎ (suc a ≡ suc b)
    up (inl m) = inl (omega (arith, m))
    up (inr e) = inr (ap suc e)

any_next : (n k : ℕ) (test : ℕ → Bool) → test k ≡ true → (k < n) ⊎ (k ≡ n) → (k < n → any_below n test ≡ true) →
    (test n || any_below n test) ≡ true
any_next n k test h (inr s) rest = rw (← s, h) refl
any_next n k test h (inl l) rest = by_test (test n)
  where
    by_test : (b : Bool) → (b || any_below n test) ≡ true
    by_test true = refl
    by_test false = rest l

pub any_true : (n k : ℕ) (test : ℕ → Bool) → k < n → test k ≡ true → any_below n test ≡ true
any_true zero k test low h = absurd (omega (arith, low))
any_true (suc n) k test low h = any_next n k test h (below_next k n low) (λ l. any_true n k test l h)

pub clock-append : (xs ys : List Operation) → clock_of (xs ++ ys) ≡ max (clock_of xs) (clock_of ys)
clock-append [] ys = omega arith
clock-append (x ∷ xs) ys = let rest = clock-append xs ys in omega (arith, rest)

none_later : {C : Type 0} (f : C → Operation) (clock : ℕ) → ((c : C) → clock_in (f c) ≤ clock) → (cs : List C) →
    clock_of (map f cs) ≤ clock
none_later f clock h [] = omega arith
none_later f clock h (c ∷ cs) = let first = h c in let rest = none_later f clock h cs in omega (arith, first, rest)

entry_clock : (e : EntryValue) → clock_of (operations_of e) ≡ e.key.clock
entry_clock e =
    let hits = none_later (λ (c : ℕ × ℕ). Count (Hits e.name c.0) c.1) e.key.clock (λ c. omega arith) e.hits in
    let execs = none_later (λ (c : ℕ × ℕ × ℕ). Count (Execs e.name e.key c.0 c.1) c.2) e.key.clock (λ c. omega arith)
    e.execs in
    let shifts = none_later (λ (c : ℕ × ℕ × ℕ × ℕ). Count (Shifts e.name e.key c.0 c.1 c.2) c.3) e.key.clock
    (λ c. omega arith) e.shifts in
    let grants = none_later (λ (c : ℕ × ℕ × ℕ). Count (Shifts e.name e.key c.0 c.1 c.1) c.2) e.key.clock
    (λ c. omega arith) e.grants in
    let first = clock-append (hits_in e.name e.hits) (execs_in e.name e.key e.execs ++
    (shifts_in e.name e.key e.shifts ++ grants_in e.name e.key e.grants)) in
    let second = clock-append (execs_in e.name e.key e.execs)
    (shifts_in e.name e.key e.shifts ++ grants_in e.name e.key e.grants) in
    let third = clock-append (shifts_in e.name e.key e.shifts) (grants_in e.name e.key e.grants) in
    omega (arith, hits, execs, shifts, grants, first, second, third)

-- the greatest clock of the first so many entries
abbrev pub clock_upto : List NameEntry → ℕ → ℕ
clock_upto es i = clock_of (flat_map operations_of (map entry_value (take i es)))

pub clock_more : (es : List NameEntry) (i : ℕ) (d : NameEntry) → i < length es →
    clock_upto es (i + 1) ≡ max (slice_index_or es i d).key.clock (clock_upto es i)
clock_more es i d low =
    let e : NameEntry = slice_index_or es i d in
    let grown : flat_map operations_of (map entry_value (take (i + 1) es)) ≡ flat_map operations_of
    (map entry_value (take i es)) ++ flat_map operations_of (entry_value e ∷ []) =
    ap (λ xs. flat_map operations_of (map entry_value xs)) (take_more es i d low)
    ∙ ap (flat_map operations_of) (map-append entry_value (take i es) (e ∷ []))
    ∙ flat_map-append operations_of (map entry_value (take i es)) (entry_value e ∷ []) in
    let whole = ap clock_of grown in
    let parts = clock-append (flat_map operations_of (map entry_value (take i es)))
    (flat_map operations_of (entry_value e ∷ [])) in
    let last = clock-append (operations_of (entry_value e)) [] in
    let one = entry_clock (entry_value e) in
    omega (arith, whole, parts, last, one)
