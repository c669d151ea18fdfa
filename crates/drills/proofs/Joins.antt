-- Parts that join to a drill.
use Rattle.std.proofs.Common.{◌≡◌, ◌≢◌, ℕ, zero, suc, ◌+◌, ◌-◌, ◌<◌, ◌≤◌, ◌==◌, Bool, true, false, List, [], ◌∷◌, ◌++◌, length, get_or, map, take, drop, Option, Some, None, Result, Ok, Err, refl, sym, ap, ◌∙◌, subst, arith, length-append}
use Rattle.std.specs.Prelude.{if◌then◌else◌, option_map, slice_get, Vec}
use Rattle.std.proofs.lemmas.Bool.{cond-false, cond-true, eqb-true, ne_eqb}
use Rattle.std.proofs.lemmas.List.{at_drop_all, at_drop_more, length-take-le, map-append}
use Rattle.std.specs.declared.alloc.Global.{Global}
use Rattle.node_calls.specs.declared.receipt.Receipt.{Receipt}
use Rattle.node_calls.specs.Told.{Told}
use Rattle.packed_trace.specs.Packed.{Packed}
use Rattle.packed_trace.proofs.Stays.{taken_one}
use Rattle.drills.specs.declared.part.Part.{Part}
use Rattle.drills.specs.declared.join_fault.JoinFault.{JoinFault}
use Rattle.drills.specs.Lines.{HeadTold, ReceiptTold, head_told, receipt_told}
use Rattle.drills.specs.Drills.{DrillTold, lists_told, traces_told}
use Rattle.drills.specs.Parts.{PartTold, part_of}
use Rattle.drills.specs.Joined.{ListsAreTraces, at, drill_of_traces, first_of, first_other, is_beside, joined_by, joined_of, least, lists_from, nodes_of, parts_of, receipt_at, receipts_from, trace_of, traces_below}
use Rattle.drills.specs.Places.{place_from}

-- ---- parts, one by one

other_next : (h : HeadTold) (place : ℕ) (parts : List Part) (i : ℕ) (p : Part) → i < length parts →
    p ≡ get_or parts i p
    → first_other h place (map part_of (drop i parts)) ≡ (if is_beside h (head_told p.head)
    then first_other h (place + 1) (map part_of (drop (i + 1) parts)) else Some place)
other_next h place parts i p low is =
    at_drop_more (λ (ps : List Part). first_other h place (map part_of ps)) parts i p low
    ∙ ap (λ (q : Part). if is_beside h (head_told q.head)
    then first_other h (place + 1) (map part_of (drop (i + 1) parts)) else Some place) (sym is)

-- a part of the same drill
pub other_on : (h : HeadTold) (place : ℕ) (parts : List Part) (i : ℕ) (p : Part) (all : Option ℕ) → i < length parts →
    p ≡ get_or parts i p → is_beside h (head_told p.head) ≡ true
    → first_other h place (map part_of (drop i parts)) ≡ all →
    first_other h (place + 1) (map part_of (drop (i + 1) parts)) ≡ all
other_on h place parts i p all low is beside so_far =
    sym (other_next h place parts i p low is ∙ cond-true (is_beside h (head_told p.head)) _ _ beside) ∙ so_far

-- and one of another
pub other_here : (h : HeadTold) (place : ℕ) (parts : List Part) (i : ℕ) (p : Part) (all : Option ℕ) → i < length parts →
    p ≡ get_or parts i p → is_beside h (head_told p.head) ≡ false
    → first_other h place (map part_of (drop i parts)) ≡ all → Some place ≡ all
other_here h place parts i p all low is other so_far =
    sym (other_next h place parts i p low is ∙ cond-false (is_beside h (head_told p.head)) _ _ other) ∙ so_far

pub other_none : (h : HeadTold) (place : ℕ) (parts : List Part) (i : ℕ) (all : Option ℕ) → length parts ≤ i →
    first_other h place (map part_of (drop i parts)) ≡ all → None ≡ all
other_none h place parts i all past so_far =
    sym (at_drop_all (λ (ps : List Part). first_other h place (map part_of ps)) parts i past) ∙ so_far

place_next : (node place : ℕ) (parts : List Part) (i : ℕ) (p : Part) → i < length parts → p ≡ get_or parts i p
    → place_from node place (map part_of (drop i parts)) ≡ (if p.head.node == node
    then Some place else place_from node (place + 1) (map part_of (drop (i + 1) parts)))
place_next node place parts i p low is =
    at_drop_more (λ (ps : List Part). place_from node place (map part_of ps)) parts i p low
    ∙ ap (λ (q : Part). if q.head.node == node
    then Some place else place_from node (place + 1) (map part_of (drop (i + 1) parts))) (sym is)

-- a part of another node
pub place_on : (node place : ℕ) (parts : List Part) (i : ℕ) (p : Part) (all : Option ℕ) → i < length parts →
    p ≡ get_or parts i p → (p.head.node == node) ≡ false
    → place_from node place (map part_of (drop i parts)) ≡ all →
    place_from node (place + 1) (map part_of (drop (i + 1) parts)) ≡ all
place_on node place parts i p all low is other so_far =
    sym (place_next node place parts i p low is ∙ cond-false (p.head.node == node) _ _ other) ∙ so_far

-- and the first of this one
pub place_here : (node place : ℕ) (parts : List Part) (i : ℕ) (p : Part) (all : Option ℕ) → i < length parts →
    p ≡ get_or parts i p → (p.head.node == node) ≡ true
    → place_from node place (map part_of (drop i parts)) ≡ all → Some place ≡ all
place_here node place parts i p all low is same so_far =
    sym (place_next node place parts i p low is ∙ cond-true (p.head.node == node) _ _ same) ∙ so_far

pub place_none : (node place : ℕ) (parts : List Part) (i : ℕ) (all : Option ℕ) → length parts ≤ i →
    place_from node place (map part_of (drop i parts)) ≡ all → None ≡ all
place_none node place parts i all past so_far =
    sym (at_drop_all (λ (ps : List Part). place_from node place (map part_of ps)) parts i past) ∙ so_far

pub count_next : (node : ℕ) (parts : List Part) (i : ℕ) (p : Part) → i < length parts → p ≡ get_or parts i p
    → parts_of node (map part_of (drop i parts)) ≡
    (if p.head.node == node then 1 else 0) + parts_of node (map part_of (drop (i + 1) parts))
count_next node parts i p low is =
    at_drop_more (λ (ps : List Part). parts_of node (map part_of ps)) parts i p low
    ∙ ap (λ (q : Part). (if q.head.node == node then 1 else 0) + parts_of node (map part_of (drop (i + 1) parts)))
    (sym is)

pub count_none : (node : ℕ) (parts : List Part) (i : ℕ) → length parts ≤ i →
    parts_of node (map part_of (drop i parts)) ≡ 0
count_none node parts i past = at_drop_all (λ (ps : List Part). parts_of node (map part_of ps)) parts i past

-- ---- the least number

pub least_none : (test : ℕ → Bool) (n : ℕ) → least test n ≡ None → test n ≡ false → least test (n + 1) ≡ None
least_none test n e fails =
    let next : n + 1 ≡ suc n = omega arith in
    ap (least test) next
    ∙ ap (λ o. first_of o (if test n then Some n else None)) e
    ∙ cond-false (test n) (Some n) None fails

least_stays : (test : ℕ → Bool) (n x more : ℕ) → least test n ≡ Some x → least test (n + more) ≡ Some x
least_stays test n x zero e = let same : n + 0 ≡ n = omega arith in ap (least test) same ∙ e
least_stays test n x (suc more) e =
    let next : n + suc more ≡ suc (n + more) = omega arith in
    ap (least test) next
    ∙ ap (λ o. first_of o (if test (n + more) then Some (n + more) else None)) (least_stays test n x more e)

pub least_found : (test : ℕ → Bool) (i n : ℕ) → least test i ≡ None → test i ≡ true → i < n → least test n ≡ Some i
least_found test i n e holds low =
    let split : suc i + (n - suc i) ≡ n = omega (arith, low) in
    let here : least test (suc i) ≡ Some i =
    ap (λ o. first_of o (if test i then Some i else None)) e ∙ cond-true (test i) (Some i) None holds in
    ap (least test) (sym split) ∙ least_stays test (suc i) i (n - suc i) here

-- ---- the part of a node, taken out

-- the first part of a node: it is there, and has the calls of the node
record IsFirstOf (node place : ℕ) (parts : List Part) (found : ℕ) : Type 0 where
  pub index : ℕ
  pub there : found ≡ place + index
  pub low : index < length parts
  pub is : (p : Part) → p ≡ get_or parts index p → p.head.node ≡ node
  pub calls : (p : Part) → p ≡ get_or parts index p → p.trace.calls ≡ trace_of node (map part_of parts)

first_at : (node place : ℕ) (q : Part) (parts : List Part) (found : ℕ)
    → (place_from node (place + 1) (map part_of parts) ≡ Some found → IsFirstOf node (place + 1) parts found)
    → (b : Bool) → (q.head.node == node) ≡ b
    → (if b then Some place else place_from node (place + 1) (map part_of parts)) ≡ Some found →
    IsFirstOf node place (q ∷ parts) found
first_at node place q parts found rest true same e =
    let here : place ≡ found = cc in
    record {
      index = 0;
      there = omega (arith, here);
      low = omega arith;
      is = λ p is. ap (λ (x : Part). x.head.node) is ∙ eqb-true q.head.node node same;
      calls = λ p is. ap (λ (x : Part). x.trace.calls) is
          ∙ sym (cond-true (q.head.node == node) q.trace.calls (trace_of node (map part_of parts)) same);
    }
first_at node place q parts found rest false other e =
    let so = rest e in
    let there = so.there in
    let low = so.low in
    record {
      index = suc so.index;
      there = omega (arith, there);
      low = omega (arith, low);
      is = so.is;
      calls = λ p is. so.calls p is
          ∙ sym (cond-false (q.head.node == node) q.trace.calls (trace_of node (map part_of parts)) other);
    }

is_first : (node place : ℕ) (parts : List Part) (found : ℕ) → place_from node place (map part_of parts) ≡ Some found →
    IsFirstOf node place parts found
is_first node place [] found e = absurd cc
is_first node place (q ∷ parts) found e =
    first_at node place q parts found (is_first node (place + 1) parts found) (q.head.node == node) refl e

none_at : (node place : ℕ) (q : Part) (parts : List Part)
    → (place_from node (place + 1) (map part_of parts) ≡ None → [] ≡ trace_of node (map part_of parts))
    → (b : Bool) → (q.head.node == node) ≡ b
    → (if b then Some place else place_from node (place + 1) (map part_of parts)) ≡ None →
    [] ≡ trace_of node (map part_of (q ∷ parts))
none_at node place q parts rest true same e = absurd cc
none_at node place q parts rest false other e =
    rest e ∙ sym (cond-false (q.head.node == node) q.trace.calls (trace_of node (map part_of parts)) other)

pub none_of : (node place : ℕ) (parts : List Part) → place_from node place (map part_of parts) ≡ None →
    [] ≡ trace_of node (map part_of parts)
none_of node place [] e = refl
none_of node place (q ∷ parts) e =
    none_at node place q parts (none_of node (place + 1) parts) (q.head.node == node) refl e

pub found_low : (node : ℕ) (parts : List Part) (i : ℕ) → place_from node 0 (map part_of parts) ≡ Some i →
    i < length parts
found_low node parts i e =
    let so = is_first node 0 parts i e in
    let there = so.there in
    let low = so.low in
    omega (arith, there, low)

pub found_calls : (node : ℕ) (parts : List Part) (i : ℕ) (p : Part) → place_from node 0 (map part_of parts) ≡ Some i →
    p ≡ get_or parts i p → p.trace.calls ≡ trace_of node (map part_of parts)
found_calls node parts i p e is =
    let so = is_first node 0 parts i e in
    let there = so.there in
    let same : i ≡ so.index = omega (arith, there) in
    so.calls p (is ∙ ap (λ k. get_or parts k p) same)

-- without a part of another node
without : (node other : ℕ) (parts : List Part) (k : ℕ) (p : Part) → k < length parts → p ≡ get_or parts k p →
    p.head.node ≡ node → other ≢ node
    → trace_of other (map part_of (take k parts ++ drop (suc k) parts)) ≡ trace_of other (map part_of parts)
without node other [] k p low is of distinct = absurd (omega (arith, low))
without node other (q ∷ parts) zero p low is of distinct =
    let differs : (q.head.node == other) ≡ false =
    ne_eqb q.head.node other (λ same. distinct (sym same ∙ ap (λ (x : Part). x.head.node) (sym is) ∙ of)) in
    sym (cond-false (q.head.node == other) q.trace.calls (trace_of other (map part_of parts)) differs)
without node other (q ∷ parts) (suc k) p low is of distinct =
    ap (λ rest. if q.head.node == other then q.trace.calls else rest)
    (without node other parts k p (omega (arith, low)) is of distinct)

pub others_stay : (node other : ℕ) (parts rest : List Part) (i : ℕ) (p : Part) →
    place_from node 0 (map part_of parts) ≡ Some i → p ≡ get_or parts i p
    → rest ≡ take i parts ++ drop (i + 1) parts → other ≢ node →
    trace_of other (map part_of rest) ≡ trace_of other (map part_of parts)
others_stay node other parts rest i p e is kept distinct =
    let so = is_first node 0 parts i e in
    let there = so.there in
    let same : i ≡ so.index = omega (arith, there) in
    let next : i + 1 ≡ suc i = omega arith in
    ap (λ (ps : List Part). trace_of other (map part_of ps)) (kept ∙ ap (λ k. take i parts ++ drop k parts) next)
    ∙ without node other parts i p (found_low node parts i e) is (so.is p (is ∙ ap (λ k. get_or parts k p) same))
    distinct

-- ---- receipts, and lists of them

receipts_push : (node index : ℕ) (entries : List Told) (e : Told) →
    receipts_from node index (entries ++ e ∷ []) ≡ receipts_from node index entries ++
    receipt_at node (index + length entries) e ∷ []
receipts_push node index [] e =
    let same : index ≡ index + 0 = omega arith in
    ap (λ i. receipt_at node i e ∷ []) same
receipts_push node index (x ∷ entries) e =
    let same : index + 1 + length entries ≡ index + suc (length entries) = omega arith in
    ap (λ rs. receipt_at node index x ∷ rs) (receipts_push node (index + 1) entries e
    ∙ ap (λ i. receipts_from node (index + 1) entries ++ receipt_at node i e ∷ []) same)

-- one receipt more
pub receipt_more : (node : ℕ) (calls : List Told) (i : ℕ) (e : Told) → slice_get calls i ≡ Some e →
    receipts_from node 0 (take (i + 1) calls) ≡ receipts_from node 0 (take i calls) ++ receipt_at node i e ∷ []
receipt_more node calls i e is =
    let one = taken_one calls i e is in
    let low = one.1 in
    let next : i + 1 ≡ suc i = omega arith in
    let few : i ≤ length calls = omega (arith, low) in
    let taken = length-take-le i calls few in
    let place : 0 + length (take i calls) ≡ i = omega (arith, taken) in
    ap (λ n. receipts_from node 0 (take n calls)) next ∙ ap (receipts_from node 0) one.0
    ∙ receipts_push node 0 (take i calls) e
    ∙ ap (λ k. receipts_from node 0 (take i calls) ++ receipt_at node k e ∷ []) place

lists_push : (node : ℕ) (traces : List (List Told)) (t : List Told) →
    lists_from node (traces ++ t ∷ []) ≡ lists_from node traces ++ receipts_from (node + length traces) 0 t ∷ []
lists_push node [] t =
    let same : node ≡ node + 0 = omega arith in
    ap (λ n. receipts_from n 0 t ∷ []) same
lists_push node (x ∷ traces) t =
    let same : node + 1 + length traces ≡ node + suc (length traces) = omega arith in
    ap (λ ls. receipts_from node 0 x ∷ ls) (lists_push (node + 1) traces t
    ∙ ap (λ n. lists_from (node + 1) traces ++ receipts_from n 0 t ∷ []) same)

below_long : (n : ℕ) (parts : List PartTold) → length (traces_below n parts) ≡ n
below_long zero parts = refl
below_long (suc n) parts =
    let rest = below_long n parts in
    simp length-append (omega (arith, rest))

-- one node more
pub traces_more : (n : ℕ) (parts : List PartTold) →
    traces_below (n + 1) parts ≡ traces_below n parts ++ trace_of n parts ∷ []
traces_more n parts =
    let next : n + 1 ≡ suc n = omega arith in
    ap (λ k. traces_below k parts) next

pub lists_more : (n : ℕ) (parts : List PartTold) →
    lists_from 0 (traces_below (n + 1) parts) ≡ lists_from 0 (traces_below n parts) ++
    receipts_from n 0 (trace_of n parts) ∷ []
lists_more n parts =
    let long = below_long n parts in
    let place : 0 + length (traces_below n parts) ≡ n = omega (arith, long) in
    ap (lists_from 0) (traces_more n parts) ∙ lists_push 0 (traces_below n parts) (trace_of n parts)
    ∙ ap (λ k. lists_from 0 (traces_below n parts) ++ receipts_from k 0 (trace_of n parts) ∷ []) place

-- the same of the code's values
pub one_receipt : (node : ℕ) (calls : List Told) (i : ℕ) (list longer : List ReceiptTold) (t : Told) →
    list ≡ receipts_from node 0 (take i calls) → longer ≡ list ++ receipt_at node i t ∷ []
    → slice_get calls i ≡ Some t → longer ≡ receipts_from node 0 (take (i + 1) calls)
one_receipt node calls i list longer t so_far grown is =
    grown ∙ ap (λ rs. rs ++ receipt_at node i t ∷ []) so_far ∙ sym (receipt_more node calls i t is)

pub trace_behind : (traces longer : List Packed) (t : Packed) (calls : List Told) → longer ≡ traces ++ t ∷ [] →
    t.calls ≡ calls → traces_told longer ≡ traces_told traces ++ calls ∷ []
trace_behind traces longer t calls grown is =
    ap traces_told grown ∙ map-append (λ (t : Packed). t.calls) traces (t ∷ [])
    ∙ ap (λ calls. traces_told traces ++ calls ∷ []) is

pub list_behind : (lists longer : List (Vec Receipt Global)) (l : Vec Receipt Global) (rs : List ReceiptTold) →
    longer ≡ lists ++ l ∷ [] → map receipt_told l.items ≡ rs → lists_told longer ≡ lists_told lists ++ rs ∷ []
list_behind lists longer l rs grown is =
    ap lists_told grown ∙ map-append (λ (l : Vec Receipt Global). map receipt_told l.items) lists (l ∷ [])
    ∙ ap (λ rs. lists_told lists ++ rs ∷ []) is

-- one node more, of which nothing was taken out of the parts before
pub one_trace : (n : ℕ) (parts : List PartTold) (traces longer : List (List Told)) (calls : List Told) →
    traces ≡ traces_below n parts → longer ≡ traces ++ calls ∷ [] → calls ≡ trace_of n parts
    → longer ≡ traces_below (n + 1) parts
one_trace n parts traces longer calls so_far grown is =
    grown ∙ ap (λ ts. ts ++ calls ∷ []) so_far ∙ ap (λ calls. traces_below n parts ++ calls ∷ []) is
    ∙ sym (traces_more n parts)

pub one_list : (n : ℕ) (parts : List PartTold) (lists longer : List (List ReceiptTold)) (calls : List Told) →
    lists ≡ lists_from 0 (traces_below n parts) → longer ≡ lists ++ receipts_from n 0 calls ∷ []
    → calls ≡ trace_of n parts
    → longer ≡ lists_from 0 (traces_below (n + 1) parts)
one_list n parts lists longer calls so_far grown is =
    grown ∙ ap (λ ls. ls ++ receipts_from n 0 calls ∷ []) so_far
    ∙ ap (λ calls. lists_from 0 (traces_below n parts) ++ receipts_from n 0 calls ∷ []) is
    ∙ sym (lists_more n parts)

pub joined_ok : (parts : List PartTold) (nodes : ℕ) (d : DrillTold) → nodes_of parts ≡ Ok nodes →
    d ≡ drill_of_traces (traces_below nodes parts) → joined_of parts ≡ Ok d
unfolding joined_of
joined_ok parts nodes d e is = ap (joined_by parts) e ∙ ap (λ d. Ok d) (sym is)

pub joined_err : (parts : List PartTold) (fault : JoinFault) → nodes_of parts ≡ Err fault → joined_of parts ≡ Err fault
unfolding joined_of
joined_err parts fault e = ap (joined_by parts) e

-- ---- the lists of a joined drill

receipts_have : (node from : ℕ) (entries : List Told) (i : ℕ) →
    slice_get (receipts_from node from entries) i ≡ option_map (receipt_at node (from + i)) (slice_get entries i)
receipts_have node from [] i = refl
receipts_have node from (e ∷ entries) zero =
    let same : from ≡ from + 0 = omega arith in
    ap (λ k. Some (receipt_at node k e)) same
receipts_have node from (e ∷ entries) (suc i) =
    let same : from + 1 + i ≡ from + suc i = omega arith in
    receipts_have node (from + 1) entries i ∙ ap (λ k. option_map (receipt_at node k) (slice_get entries i)) same

lists_have : (from : ℕ) (traces : List (List Told)) (n i : ℕ) →
    at (lists_from from traces) n i ≡ option_map (receipt_at (from + n) i) (at traces n i)
lists_have from [] n i = refl
lists_have from (t ∷ traces) zero i =
    let here : 0 + i ≡ i = omega arith in
    let same : from ≡ from + 0 = omega arith in
    receipts_have from 0 t i ∙ ap (λ k. option_map (receipt_at from k) (slice_get t i)) here
    ∙ ap (λ k. option_map (receipt_at k i) (slice_get t i)) same
lists_have from (t ∷ traces) (suc n) i =
    let same : from + 1 + n ≡ from + suc n = omega arith in
    lists_have (from + 1) traces n i ∙ ap (λ k. option_map (receipt_at k i) (at traces n i)) same

pub lists_are_traces : (parts : List PartTold) (d : DrillTold) → joined_of parts ≡ Ok d → ListsAreTraces d
unfolding joined_of
lists_are_traces parts d e = by (nodes_of parts) e
  where
    by : (nodes : Result ℕ JoinFault) → joined_by parts nodes ≡ Ok d → ListsAreTraces d
    by (Err fault) e = absurd cc
    by (Ok nodes) e =
        let same : drill_of_traces (traces_below nodes parts) ≡ d = cc in
        subst ListsAreTraces same (λ node index.
        let here : 0 + node ≡ node = omega arith in
        lists_have 0 (traces_below nodes parts) node index
        ∙ ap (λ k. option_map (receipt_at k index) (at (traces_below nodes parts) node index)) here)
