-- Cells that are read are those that were written, and what was written is read again.
use Rattle.std.proofs.Common.{◌≡◌, ℕ, ◌<◌, ◌^◌, List, [], ◌∷◌, ◌++◌, length, map, option_map, Option, None, Ok, refl, sym, ap, subst, ◌∙◌, append_assoc, arith}
use Rattle.std.specs.List.{flat_map, AllByRecursion}
use Rattle.std.specs.List.Sorted.{IsStrictlySortedBy}
use Rattle.std.specs.Int.{w16, w64, to_be_bytes}
use Rattle.stamp_register.specs.Keys.{KeyValue}
use Rattle.message_format.specs.declared.fault.WireFault.TheVariants as faults
use Rattle.message_format.specs.declared.wire.Form.{Form}
use Rattle.message_format.specs.declared.wire.Form.TheVariants.{Plain, WithGrants}
use Rattle.message_format.specs.Spelling.{hit_bytes, exec_bytes, shift_bytes, hits_bytes, execs_bytes, shifts_bytes, grants_bytes, hit_place, exec_place, shift_place, grant_place, Ascend, IsHit, IsExec, IsShift, IsGrant}
use Rattle.refusals.specs.Refusals.{◌>>=◌}
use Rattle.message_format.specs.Reading.{wants, offset, is_above, byte_at, number_at, node_at, other_node_at, term_at, value_at, hit_at, exec_at, shift_at, each_at, hits_at, execs_at, shifts_at, grants_at}
use Rattle.refusals.proofs.StepLemmas.{bind_ok}
use Rattle.message_format.proofs.Steps.{given, wants_ok, at_ok}
use Rattle.message_format.proofs.Fields.{IsBytes, Takes, Takes-then, byte_takes, byte_again, short_takes, short_again, node_takes, node_again, other_takes, other_again, term_takes, term_again, value_takes, value_again}
use Rattle.message_format.proofs.Lists.{Above, each_takes, each_again, ascend_from_chain, chain_from_ascend}

-- ---- one cell

hit_takes : (all nodes : ℕ) (last : Option (ℕ × ℕ)) (left : List ℕ) (c : ℕ × ℕ) (rest : List ℕ) → IsBytes left →
    hit_at all nodes last left ≡ Ok (c, rest)
    → Takes left (hit_bytes c) rest × Above hit_place (IsHit nodes) last c
unfolding hit_at
hit_takes all nodes last left c rest fits e =
    let fault = faults.CellOrder (offset all left) in
    given (bind_ok (node_at all nodes left) (λ node. wants (is_above (option_map hit_place last) (node.0 ∷ [])) fault
    node.1 >>= λ after. value_at all after >>= λ value. Ok ((node.0, value.0), value.1)) (c, rest) e) (λ a.
    given (bind_ok (wants (is_above (option_map hit_place last) (a.0.0 ∷ [])) fault a.0.1)
    (λ after. value_at all after >>= λ value. Ok ((a.0.0, value.0), value.1)) (c, rest) a.2) (λ b.
    let g = wants_ok (is_above (option_map hit_place last) (a.0.0 ∷ [])) fault a.0.1 b.0 b.1 in
    given (bind_ok (value_at all b.0) (λ value. Ok ((a.0.0, value.0), value.1)) (c, rest) b.2) (λ v.
    let t = node_takes all nodes left a.0.0 a.0.1 fits a.1 in
    let u = subst (λ (x : List ℕ). Takes left (a.0.0 ∷ []) x) g.1 t.0 in
    let w = value_takes all b.0 v.0.0 v.0.1 u.rest_fits v.1 in
    at_ok (λ (p : (ℕ × ℕ) × List ℕ). Takes left (hit_bytes p.0) p.1 × Above hit_place (IsHit nodes) last p.0)
    ((a.0.0, v.0.0), v.0.1) (c, rest) v.2
    (Takes-then left (a.0.0 ∷ []) b.0 (to_be_bytes w64 v.0.0) v.0.1 u w.0, ((t.1, w.1), g.0)))))

hit_again : (all nodes : ℕ) (last : Option (ℕ × ℕ)) (c : ℕ × ℕ) (rest : List ℕ) → Above hit_place (IsHit nodes) last c →
    hit_at all nodes last (hit_bytes c ++ rest) ≡ Ok (c, rest)
unfolding hit_at
hit_again all nodes last c rest h =
    rw (node_again all nodes c.0 (to_be_bytes w64 c.1 ++ rest) h.0.0, h.1, value_again all c.1 rest h.0.1) refl

exec_takes : (all nodes : ℕ) (key : KeyValue) (last : Option (ℕ × ℕ × ℕ)) (left : List ℕ) (c : ℕ × ℕ × ℕ)
    (rest : List ℕ) → IsBytes left → exec_at all nodes key last left ≡ Ok (c, rest)
    → Takes left (exec_bytes c) rest × Above exec_place (IsExec nodes key) last c
unfolding exec_at
exec_takes all nodes key last left c rest fits e =
    let fault = faults.CellOrder (offset all left) in
    given (bind_ok (term_at all key left) (λ term. node_at all nodes term.1 >>= λ node. wants
    (is_above (option_map exec_place last) (term.0 ∷ node.0 ∷ [])) fault node.1 >>= λ after. value_at all after >>=
    λ value. Ok ((term.0, node.0, value.0), value.1)) (c, rest) e) (λ a.
    given (bind_ok (node_at all nodes a.0.1) (λ node. wants
    (is_above (option_map exec_place last) (a.0.0 ∷ node.0 ∷ [])) fault node.1 >>= λ after. value_at all after >>=
    λ value. Ok ((a.0.0, node.0, value.0), value.1)) (c, rest) a.2) (λ b.
    given (bind_ok (wants (is_above (option_map exec_place last) (a.0.0 ∷ b.0.0 ∷ [])) fault b.0.1)
    (λ after. value_at all after >>= λ value. Ok ((a.0.0, b.0.0, value.0), value.1)) (c, rest) b.2) (λ d.
    let g = wants_ok (is_above (option_map exec_place last) (a.0.0 ∷ b.0.0 ∷ [])) fault b.0.1 d.0 d.1 in
    given (bind_ok (value_at all d.0) (λ value. Ok ((a.0.0, b.0.0, value.0), value.1)) (c, rest) d.2) (λ v.
    let s = term_takes all key left a.0.0 a.0.1 fits a.1 in
    let t = node_takes all nodes a.0.1 b.0.0 b.0.1 s.0.rest_fits b.1 in
    let u = subst (λ (x : List ℕ). Takes a.0.1 (b.0.0 ∷ []) x) g.1 t.0 in
    let w = value_takes all d.0 v.0.0 v.0.1 u.rest_fits v.1 in
    let two = Takes-then a.0.1 (b.0.0 ∷ []) d.0 (to_be_bytes w64 v.0.0) v.0.1 u w.0 in
    at_ok (λ (p : (ℕ × ℕ × ℕ) × List ℕ). Takes left (exec_bytes p.0) p.1 × Above exec_place (IsExec nodes key) last p.0)
    ((a.0.0, b.0.0, v.0.0), v.0.1) (c, rest) v.2
    (Takes-then left (a.0.0 ∷ []) a.0.1 (b.0.0 ∷ to_be_bytes w64 v.0.0) v.0.1 s.0 two, ((s.1, t.1, w.1), g.0))))))

exec_again : (all nodes : ℕ) (key : KeyValue) (last : Option (ℕ × ℕ × ℕ)) (c : ℕ × ℕ × ℕ) (rest : List ℕ) →
    Above exec_place (IsExec nodes key) last c → exec_at all nodes key last (exec_bytes c ++ rest) ≡ Ok (c, rest)
unfolding exec_at
exec_again all nodes key last c rest h =
    rw (
      term_again all key c.0 (c.1 ∷ to_be_bytes w64 c.2 ++ rest) h.0.0,
      node_again all nodes c.1 (to_be_bytes w64 c.2 ++ rest) h.0.1,
      h.1,
      value_again all c.2 rest h.0.2,
    ) refl

shift_takes : (all nodes : ℕ) (key : KeyValue) (last : Option (ℕ × ℕ × ℕ × ℕ)) (left : List ℕ) (c : ℕ × ℕ × ℕ × ℕ)
    (rest : List ℕ) → IsBytes left → shift_at all nodes key last left ≡ Ok (c, rest)
    → Takes left (shift_bytes c) rest × Above shift_place (IsShift nodes key) last c
unfolding shift_at
shift_takes all nodes key last left c rest fits e =
    let fault = faults.CellOrder (offset all left) in
    given (bind_ok (term_at all key left) (λ term. node_at all nodes term.1 >>= λ from. other_node_at all nodes from.0
    from.1 >>= λ to. wants (is_above (option_map shift_place last) (term.0 ∷ from.0 ∷ to.0 ∷ [])) fault to.1 >>=
    λ after. value_at all after >>= λ value. Ok ((term.0, from.0, to.0, value.0), value.1)) (c, rest) e) (λ a.
    given (bind_ok (node_at all nodes a.0.1) (λ from. other_node_at all nodes from.0 from.1 >>= λ to. wants
    (is_above (option_map shift_place last) (a.0.0 ∷ from.0 ∷ to.0 ∷ [])) fault to.1 >>= λ after. value_at all after
    >>= λ value. Ok ((a.0.0, from.0, to.0, value.0), value.1)) (c, rest) a.2) (λ b.
    given (bind_ok (other_node_at all nodes b.0.0 b.0.1) (λ to. wants
    (is_above (option_map shift_place last) (a.0.0 ∷ b.0.0 ∷ to.0 ∷ [])) fault to.1 >>= λ after. value_at all after
    >>= λ value. Ok ((a.0.0, b.0.0, to.0, value.0), value.1)) (c, rest) b.2) (λ o.
    given (bind_ok (wants (is_above (option_map shift_place last) (a.0.0 ∷ b.0.0 ∷ o.0.0 ∷ [])) fault o.0.1)
    (λ after. value_at all after >>= λ value. Ok ((a.0.0, b.0.0, o.0.0, value.0), value.1)) (c, rest) o.2) (λ d.
    let g = wants_ok (is_above (option_map shift_place last) (a.0.0 ∷ b.0.0 ∷ o.0.0 ∷ [])) fault o.0.1 d.0 d.1 in
    given (bind_ok (value_at all d.0) (λ value. Ok ((a.0.0, b.0.0, o.0.0, value.0), value.1)) (c, rest) d.2) (λ v.
    let s = term_takes all key left a.0.0 a.0.1 fits a.1 in
    let t = node_takes all nodes a.0.1 b.0.0 b.0.1 s.0.rest_fits b.1 in
    let r = other_takes all nodes b.0.0 b.0.1 o.0.0 o.0.1 t.0.rest_fits o.1 in
    let u = subst (λ (x : List ℕ). Takes b.0.1 (o.0.0 ∷ []) x) g.1 r.0 in
    let w = value_takes all d.0 v.0.0 v.0.1 u.rest_fits v.1 in
    let two = Takes-then b.0.1 (o.0.0 ∷ []) d.0 (to_be_bytes w64 v.0.0) v.0.1 u w.0 in
    let three = Takes-then a.0.1 (b.0.0 ∷ []) b.0.1 (o.0.0 ∷ to_be_bytes w64 v.0.0) v.0.1 t.0 two in
    at_ok (λ (p : (ℕ × ℕ × ℕ × ℕ) × List ℕ). Takes left (shift_bytes p.0) p.1 × Above shift_place (IsShift nodes key)
    last p.0) ((a.0.0, b.0.0, o.0.0, v.0.0), v.0.1) (c, rest) v.2 (
      Takes-then left (a.0.0 ∷ []) a.0.1 (b.0.0 ∷ o.0.0 ∷ to_be_bytes w64 v.0.0) v.0.1 s.0 three,
      ((s.1, t.1, r.1, r.2, w.1), g.0),
    ))))))

shift_again : (all nodes : ℕ) (key : KeyValue) (last : Option (ℕ × ℕ × ℕ × ℕ)) (c : ℕ × ℕ × ℕ × ℕ) (rest : List ℕ) →
    Above shift_place (IsShift nodes key) last c → shift_at all nodes key last (shift_bytes c ++ rest) ≡ Ok (c, rest)
unfolding shift_at
shift_again all nodes key last c rest h =
    rw (
      term_again all key c.0 (c.1 ∷ c.2 ∷ to_be_bytes w64 c.3 ++ rest) h.0.0,
      node_again all nodes c.1 (c.2 ∷ to_be_bytes w64 c.3 ++ rest) h.0.1,
      other_again all nodes c.1 c.2 (to_be_bytes w64 c.3 ++ rest) h.0.2 h.0.3,
      h.1,
      value_again all c.3 rest h.0.4,
    )
    refl

-- ---- lists of cells behind their length

pub hits_take : (all nodes : ℕ) (left : List ℕ) (cs : List (ℕ × ℕ)) (rest : List ℕ) → IsBytes left →
    hits_at all nodes left ≡ Ok (cs, rest)
    → Takes left (hits_bytes cs) rest × (length cs < 2 ^ 8) × AllByRecursion (IsHit nodes) cs × Ascend
    (map hit_place cs)
unfolding hits_at
hits_take all nodes left cs rest fits e =
    given (bind_ok (byte_at all left) (λ count. each_at (hit_at all nodes) count.0 None count.1) (cs, rest) e) (λ n.
    let t = byte_takes all left n.0.0 n.0.1 fits n.1 in
    let u = each_takes (hit_at all nodes) hit_bytes (Above hit_place (IsHit nodes)) (hit_takes all nodes) n.0.0 None
    n.0.1 cs rest t.0.rest_fits n.2 in
    let both = Takes-then left (n.0.0 ∷ []) n.0.1 (flat_map hit_bytes cs) rest t.0 u.0 in
    let chain = ascend_from_chain hit_place (IsHit nodes) cs u.2 in (
      subst (λ (k : ℕ). Takes left (k ∷ flat_map hit_bytes cs) rest) (sym u.1) both,
      omega (arith, u.1, t.1),
      chain.0,
      chain.1,
    ))

pub hits_again : (all nodes : ℕ) (cs : List (ℕ × ℕ)) (rest : List ℕ) → AllByRecursion (IsHit nodes) cs →
    Ascend (map hit_place cs) → hits_at all nodes (hits_bytes cs ++ rest) ≡ Ok (cs, rest)
unfolding hits_at
hits_again all nodes cs rest h sorted =
    rw (byte_again all (length cs) (flat_map hit_bytes cs ++ rest))
    (each_again (hit_at all nodes) hit_bytes (Above hit_place (IsHit nodes)) (hit_again all nodes) None cs rest
    (chain_from_ascend hit_place (IsHit nodes) cs h sorted))

pub execs_take : (all nodes : ℕ) (key : KeyValue) (left : List ℕ) (cs : List (ℕ × ℕ × ℕ)) (rest : List ℕ) →
    IsBytes left → execs_at all nodes key left ≡ Ok (cs, rest)
    → Takes left (execs_bytes cs) rest × (length cs < 2 ^ 16) × AllByRecursion (IsExec nodes key) cs × Ascend
    (map exec_place cs)
unfolding execs_at
execs_take all nodes key left cs rest fits e =
    given (bind_ok (number_at all w16 left) (λ count. each_at (exec_at all nodes key) count.0 None count.1) (cs, rest)
    e) (λ n.
    let t = short_takes all left n.0.0 n.0.1 fits n.1 in
    let u = each_takes (exec_at all nodes key) exec_bytes (Above exec_place (IsExec nodes key))
    (exec_takes all nodes key) n.0.0 None n.0.1 cs rest t.0.rest_fits n.2 in
    let both = Takes-then left (to_be_bytes w16 n.0.0) n.0.1 (flat_map exec_bytes cs) rest t.0 u.0 in
    let chain = ascend_from_chain exec_place (IsExec nodes key) cs u.2 in (
      subst (λ (k : ℕ). Takes left (to_be_bytes w16 k ++ flat_map exec_bytes cs) rest) (sym u.1) both,
      omega (arith, u.1, t.1),
      chain.0,
      chain.1,
    ))

pub execs_again : (all nodes : ℕ) (key : KeyValue) (cs : List (ℕ × ℕ × ℕ)) (rest : List ℕ) → length cs < 2 ^ 16 →
    AllByRecursion (IsExec nodes key) cs → Ascend (map exec_place cs)
    → execs_at all nodes key (execs_bytes cs ++ rest) ≡ Ok (cs, rest)
unfolding execs_at
execs_again all nodes key cs rest few h sorted =
    let regrouped = append_assoc (to_be_bytes w16 (length cs)) (flat_map exec_bytes cs) rest in
    ap (execs_at all nodes key) regrouped ∙ rw (short_again all (length cs) (flat_map exec_bytes cs ++ rest) few)
    (each_again (exec_at all nodes key) exec_bytes (Above exec_place (IsExec nodes key)) (exec_again all nodes key)
    None cs rest (chain_from_ascend exec_place (IsExec nodes key) cs h sorted))

pub shifts_take : (all nodes : ℕ) (key : KeyValue) (left : List ℕ) (cs : List (ℕ × ℕ × ℕ × ℕ)) (rest : List ℕ) →
    IsBytes left → shifts_at all nodes key left ≡ Ok (cs, rest)
    → Takes left (shifts_bytes cs) rest × (length cs < 2 ^ 16) × AllByRecursion (IsShift nodes key) cs × Ascend
    (map shift_place cs)
unfolding shifts_at
shifts_take all nodes key left cs rest fits e =
    given (bind_ok (number_at all w16 left) (λ count. each_at (shift_at all nodes key) count.0 None count.1) (cs, rest)
    e) (λ n.
    let t = short_takes all left n.0.0 n.0.1 fits n.1 in
    let u = each_takes (shift_at all nodes key) shift_bytes (Above shift_place (IsShift nodes key))
    (shift_takes all nodes key) n.0.0 None n.0.1 cs rest t.0.rest_fits n.2 in
    let both = Takes-then left (to_be_bytes w16 n.0.0) n.0.1 (flat_map shift_bytes cs) rest t.0 u.0 in
    let chain = ascend_from_chain shift_place (IsShift nodes key) cs u.2 in (
      subst (λ (k : ℕ). Takes left (to_be_bytes w16 k ++ flat_map shift_bytes cs) rest) (sym u.1) both,
      omega (arith, u.1, t.1),
      chain.0,
      chain.1,
    ))

pub shifts_again : (all nodes : ℕ) (key : KeyValue) (cs : List (ℕ × ℕ × ℕ × ℕ)) (rest : List ℕ) → length cs < 2 ^ 16 →
    AllByRecursion (IsShift nodes key) cs → Ascend (map shift_place cs)
    → shifts_at all nodes key (shifts_bytes cs ++ rest) ≡ Ok (cs, rest)
unfolding shifts_at
shifts_again all nodes key cs rest few h sorted =
    let regrouped = append_assoc (to_be_bytes w16 (length cs)) (flat_map shift_bytes cs) rest in
    ap (shifts_at all nodes key) regrouped ∙ rw (short_again all (length cs) (flat_map shift_bytes cs ++ rest) few)
    (each_again (shift_at all nodes key) shift_bytes (Above shift_place (IsShift nodes key))
    (shift_again all nodes key) None cs rest (chain_from_ascend shift_place (IsShift nodes key) cs h sorted))

-- a plain message tells no grant
pub grants_take : (all nodes : ℕ) (key : KeyValue) (form : Form) (left : List ℕ) (cs : List (ℕ × ℕ × ℕ))
    (rest : List ℕ) → IsBytes left → grants_at all nodes key form left ≡ Ok (cs, rest)
    → Takes left (grants_bytes form cs) rest × (length cs < 2 ^ 16) × AllByRecursion (IsGrant nodes key) cs × Ascend
    (map grant_place cs) × (form ≡ Plain → cs ≡ [])
unfolding grants_at IsStrictlySortedBy
grants_take all nodes key Plain left cs rest fits e =
    let taken : Takes left [] left = record { parts = refl; rest_fits = fits } in
    at_ok (λ (p : List (ℕ × ℕ × ℕ) × List ℕ). Takes left [] p.1 × (length p.0 < 2 ^ 16) × AllByRecursion
    (IsGrant nodes key) p.0 × Ascend (map grant_place p.0) × (Plain ≡ Plain → p.0 ≡ [])) ([], left) (cs, rest) e
    (taken, omega arith, tt, tt, λ _. refl)
grants_take all nodes key WithGrants left cs rest fits e =
    let t = execs_take all nodes key left cs rest fits e in
    (t.0, t.1, t.2, t.3, λ same. absurd cc)

pub grants_again : (all nodes : ℕ) (key : KeyValue) (form : Form) (cs : List (ℕ × ℕ × ℕ)) (rest : List ℕ) →
    length cs < 2 ^ 16 → AllByRecursion (IsGrant nodes key) cs → Ascend (map grant_place cs)
    → (form ≡ Plain → cs ≡ []) → grants_at all nodes key form (grants_bytes form cs ++ rest) ≡ Ok (cs, rest)
unfolding grants_at
grants_again all nodes key Plain cs rest few h sorted none =
    ap (λ (x : List (ℕ × ℕ × ℕ)). Ok (x, rest)) (sym (none refl))
grants_again all nodes key WithGrants cs rest few h sorted none = execs_again all nodes key cs rest few h sorted
