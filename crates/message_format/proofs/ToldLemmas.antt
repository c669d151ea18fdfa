-- What a message tells is well formed.
use Rattle.std.proofs.Common.{ℕ, List, [], ◌∷◌, ◌++◌, map, sym, subst, arith}
use Rattle.std.specs.List.{flat_map, AllByRecursion}
use Rattle.std.proofs.lemmas.List.Concat.{flat_map-cons}
use Rattle.operations.specs.Operations.{Operation, Count, Hits, Execs, Shifts, IsWellFormed}
use Rattle.message_format.specs.Messages.{EntryValue, operations_of}
use Rattle.message_format.specs.Spelling.{IsHit, IsExec, IsShift, IsEntry}

each_told : {C : Type 0} {Is : C → Type 0} (told : C → Operation) → ((c : C) → Is c → IsWellFormed (told c)) →
    (cs : List C) → AllByRecursion Is cs → AllByRecursion IsWellFormed (map told cs)
each_told told one [] h = tt
each_told told one (c ∷ cs) h = (one c h.0, each_told told one cs h.1)

both : (xs ys : List Operation) → AllByRecursion IsWellFormed xs → AllByRecursion IsWellFormed ys →
    AllByRecursion IsWellFormed (xs ++ ys)
both [] ys h k = k
both (x ∷ xs) ys h k = (h.0, both xs ys h.1 k)

entry_told : (nodes : ℕ) (e : EntryValue) → IsEntry nodes e → AllByRecursion IsWellFormed (operations_of e)
entry_told nodes e h =
    let hit = λ (c : ℕ × ℕ). Count (Hits e.name c.0) c.1 in
    let exec = λ (c : ℕ × ℕ × ℕ). Count (Execs e.name e.key c.0 c.1) c.2 in
    let shift = λ (c : ℕ × ℕ × ℕ × ℕ). Count (Shifts e.name e.key c.0 c.1 c.2) c.3 in
    let grant = λ (c : ℕ × ℕ × ℕ). Count (Shifts e.name e.key c.0 c.1 c.1) c.2 in
    let hits = each_told {Is = IsHit nodes} hit (λ c i. omega (arith, i.1)) e.hits h.hits in
    let execs = each_told {Is = IsExec nodes e.key} exec (λ c i. (omega (arith, i.2), i.0.0)) e.execs h.execs in
    let shifts = each_told {Is = IsShift nodes e.key} shift (λ c i. (omega (arith, i.4), i.0.0)) e.shifts h.shifts in
    let grants = each_told {Is = IsExec nodes e.key} grant (λ c i. (omega (arith, i.2), i.0.0)) e.grants h.grants in (
      tt,
      both (map hit e.hits) (map exec e.execs ++ (map shift e.shifts ++ map grant e.grants)) hits
          (both (map exec e.execs) (map shift e.shifts ++ map grant e.grants) execs
          (both (map shift e.shifts) (map grant e.grants) shifts grants)),
    )

pub entries_told : (nodes : ℕ) (es : List EntryValue) → AllByRecursion (IsEntry nodes) es →
    AllByRecursion IsWellFormed (flat_map operations_of es)
entries_told nodes [] h = tt
entries_told nodes (e ∷ es) h =
    subst (AllByRecursion IsWellFormed) (sym (flat_map-cons operations_of e es))
    (both (operations_of e) (flat_map operations_of es) (entry_told nodes e h.0) (entries_told nodes es h.1))
