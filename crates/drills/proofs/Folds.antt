-- The lines of parts come to what the parts come to.
use Rattle.std.proofs.Common.{◌≡◌, ℕ, ◌+◌, ◌==◌, Bool, false, List, [], ◌∷◌, ◌++◌, length, map, flat_map, Option, Some, None, Result, Ok, refl, sym, ap, ◌∙◌, arith, append_assoc, append-nil, length-append}
use Rattle.std.specs.Prelude.{All, if◌then◌else◌, option_map, option_and_then}
use Rattle.std.proofs.lemmas.Bool.{cond-true, eq-eqb}
use Rattle.std.proofs.lemmas.Grind.{flat_map-append}
use Rattle.std.proofs.lemmas.List.Elements.{All-head, All-tail}
use Rattle.node_calls.specs.Told.{Told}
use Rattle.drills.specs.declared.so_far.Place.{Place}
use Rattle.drills.specs.declared.so_far.Place.TheVariants.{InList, InTrace, Nowhere}
use Rattle.drills.specs.Lines.{LineTold, entry, head, receipt, ReceiptTold, line_text}
use Rattle.drills.specs.Drills.{DrillTold, SoFarTold, after_head, after_line, begun, behind, drill_from, drill_in, drill_lines, drill_so_far, drill_text, list_lines, numbered, or_line, started, trace_lines, ◌>>=◌}
use Rattle.drills.specs.Grammar.{Part, made, no_drill, of_list, of_trace, part_lines, with_part}
use Rattle.drills.specs.Written.{ReadsBack}
use Rattle.drills.proofs.Cut.{all_lines}
use Rattle.drills.proofs.Parts.{behind_last, behind_same, behind_split, drill, followed, list_put, list_puts, trace_put, trace_puts}

abbrev pub at : Bool → List (List Told) → List (List ReceiptTold) → Place → SoFarTold
at pieces traces lists place = record { pieces = pieces; traces = traces; lists = lists; place = place }

-- what lines come to, each read already
abbrev pub comes : Option SoFarTold → List LineTold → Option SoFarTold
comes s [] = s
comes s (line ∷ lines) = option_and_then (λ next. comes (Some next) lines) (after_line s line)

pub comes_after : (s : SoFarTold) (xs ys : List LineTold) → comes (Some s) (xs ++ ys) ≡ option_and_then
    (λ next. comes (Some next) ys) (comes (Some s) xs)
comes_after s [] ys = refl
comes_after s (x ∷ xs) ys = further (λ next. comes (Some next) (xs ++ ys)) (λ next. comes (Some next) xs)
    (λ next. comes (Some next) ys) (λ next. comes_after next xs ys) (after_head s x)
  where
    further : (all first rest : SoFarTold → Option SoFarTold) →
        ((next : SoFarTold) → all next ≡ option_and_then rest (first next)) → (o : Option SoFarTold) →
        option_and_then all o ≡ option_and_then rest (option_and_then first o)
    further all first rest each None = refl
    further all first rest each (Some next) = each next

-- the entries of a trace, behind what it has
entries_come : (pieces : Bool) (lists : List (List ReceiptTold)) (node : ℕ) (entries : List Told)
    (traces next : List (List Told)) → behind node entries traces ≡ Some next
    → comes (Some (at pieces traces lists (InTrace node))) (map entry entries)
    ≡ Some (at pieces next lists (InTrace node))
entries_come pieces lists node [] traces next e =
    ap (λ ts. Some (at pieces ts lists (InTrace node))) (behind_same node traces next e)
entries_come pieces lists node (x ∷ entries) traces next e =
    let step = behind_split node (x ∷ []) entries traces next e in
    ap (λ o. option_and_then (λ after. comes (Some after) (map entry entries))
    (option_map (λ ts. at pieces ts lists (InTrace node)) o)) step.1
    ∙ entries_come pieces lists node entries step.0 next step.2

receipts_come : (pieces : Bool) (traces : List (List Told)) (number : ℕ) (receipts : List ReceiptTold)
    (lists next : List (List ReceiptTold)) → behind number receipts lists ≡ Some next
    → comes (Some (at pieces traces lists (InList number))) (map receipt receipts)
    ≡ Some (at pieces traces next (InList number))
receipts_come pieces traces number [] lists next e =
    ap (λ ls. Some (at pieces traces ls (InList number))) (behind_same number lists next e)
receipts_come pieces traces number (x ∷ receipts) lists next e =
    let step = behind_split number (x ∷ []) receipts lists next e in
    ap (λ o. option_and_then (λ after. comes (Some after) (map receipt receipts))
    (option_map (λ ls. at pieces traces ls (InList number)) o)) step.1
    ∙ receipts_come pieces traces number receipts step.0 next step.2

-- lines come to a drill, whichever part goes on
abbrev ComeTo : Bool → DrillTold → List LineTold → DrillTold → Type 0
ComeTo pieces d lines next = (place : Place) → (after : Place) ×
    (comes (Some (at pieces d.traces d.lists place)) lines ≡ Some (at pieces next.traces next.lists after))

part_comes : (pieces : Bool) (d : DrillTold) (part : Part) (next : DrillTold) → with_part pieces d part ≡ Some next →
    ComeTo pieces d (part_lines part) next
part_comes pieces d (of_trace node from entries) next e = λ place.
    let put = trace_put pieces d node from entries next e in
    let rest : SoFarTold → Option SoFarTold = (λ after. comes (Some after) (map entry entries)) in
    let start : List (List Told) → SoFarTold = (λ ts. at pieces ts d.lists (InTrace node)) in (
      InTrace node,
      ap (λ b. option_and_then rest (if b then option_map start (started pieces node from d.traces) else None))
          put.takes
          ∙ ap (λ o. option_and_then rest (option_map start o)) put.starts
          ∙ entries_come pieces d.lists node entries put.start next.traces put.traces
          ∙ ap (λ ls. Some (at pieces next.traces ls (InTrace node))) (sym put.lists),
    )
part_comes pieces d (of_list number from receipts) next e = λ place.
    let put = list_put pieces d number from receipts next e in
    let rest : SoFarTold → Option SoFarTold = (λ after. comes (Some after) (map receipt receipts)) in
    let start : List (List ReceiptTold) → SoFarTold = (λ ls. at pieces d.traces ls (InList number)) in (
      InList number,
      ap (λ o. option_and_then rest (option_map start o)) put.starts
          ∙ receipts_come pieces d.traces number receipts put.start next.lists put.lists
          ∙ ap (λ ts. Some (at pieces ts next.lists (InList number))) (sym put.traces),
    )

parts_come : (pieces : Bool) (d : DrillTold) (parts : List Part) (next : DrillTold) →
    made pieces d parts ≡ Some next → ComeTo pieces d (flat_map part_lines parts) next
parts_come pieces d [] next e = λ place.
    (place, ap (option_map (λ (d : DrillTold). at pieces d.traces d.lists place)) e)
parts_come pieces d (part ∷ parts) next e = λ place.
    let step = followed (λ mid. made pieces mid parts) (with_part pieces d part) next e in
    let first = part_comes pieces d part step.0 step.1 place in
    let rest = parts_come pieces step.0 parts next step.2 first.0 in (
      rest.0,
      comes_after (at pieces d.traces d.lists place) (part_lines part) (flat_map part_lines parts)
          ∙ ap (option_and_then (λ after. comes (Some after) (flat_map part_lines parts))) first.1
          ∙ rest.1,
    )

-- with the first line
pub all_come : (pieces : Bool) (parts : List Part) (d : DrillTold) → made pieces no_drill parts ≡ Some d →
    (place : Place) × (comes None (head pieces ∷ flat_map part_lines parts) ≡ Some (at pieces d.traces d.lists place))
all_come pieces parts d e = parts_come pieces no_drill parts d e Nowhere

-- ---- a drill that is whole

-- parts, each whole
abbrev pub whole : {A : Type 0} → (ℕ → Option ℕ → List A → Part) → ℕ → List (List A) → List Part
whole part n [] = []
whole part n (x ∷ xs) = part n None x ∷ whole part (n + 1) xs

abbrev pub whole_parts : DrillTold → List Part
whole_parts d = whole of_trace 0 d.traces ++ whole of_list 0 d.lists

trace_lines_whole : (n : ℕ) (traces : List (List Told)) →
    flat_map part_lines (whole of_trace n traces) ≡ numbered trace_lines n traces
trace_lines_whole n [] = refl
trace_lines_whole n (t ∷ traces) = ap (λ ls. trace_lines n t ++ ls) (trace_lines_whole (n + 1) traces)

list_lines_whole : (n : ℕ) (lists : List (List ReceiptTold)) →
    flat_map part_lines (whole of_list n lists) ≡ numbered list_lines n lists
list_lines_whole n [] = refl
list_lines_whole n (l ∷ lists) = ap (λ ls. list_lines n l ++ ls) (list_lines_whole (n + 1) lists)

pub whole_lines : (d : DrillTold) → drill_lines d ≡ head false ∷ flat_map part_lines (whole_parts d)
whole_lines d = sym (ap (λ ls. head false ∷ ls)
    (flat_map-append part_lines (whole of_trace 0 d.traces) (whole of_list 0 d.lists)
    ∙ ap (λ ls. ls ++ flat_map part_lines (whole of_list 0 d.lists)) (trace_lines_whole 0 d.traces)
    ∙ ap (λ ls. numbered trace_lines 0 d.traces ++ ls) (list_lines_whole 0 d.lists)))

begin_next : {A : Type 0} (n : ℕ) (parts : List (List A)) → n ≡ length parts → begun n parts ≡ Some (parts ++ [] ∷ [])
begin_next n parts e = cond-true (n == length parts) _ _ (eq-eqb n (length parts) e)

pub put_next : {A : Type 0} (n : ℕ) (parts : List (List A)) (part : List A) → n ≡ length parts →
    behind n part (parts ++ [] ∷ []) ≡ Some (parts ++ part ∷ [])
put_next n parts part e = ap (λ k. behind k part (parts ++ [] ∷ [])) e ∙ behind_last parts [] part

longer : {A : Type 0} (parts : List (List A)) (part : List A) (n : ℕ) → n ≡ length parts →
    n + 1 ≡ length (parts ++ part ∷ [])
longer parts part n e = simp length-append (omega (arith, e))

traces_made : (done more : List (List Told)) (n : ℕ) (rest : List Part) → n ≡ length done →
    made false (drill done []) (whole of_trace n more ++ rest) ≡ made false (drill (done ++ more) []) rest
traces_made done [] n rest e = ap (λ ts. made false (drill ts []) rest) (sym (append-nil done))
traces_made done (t ∷ more) n rest e =
    ap (option_and_then (λ next. made false next (whole of_trace (n + 1) more ++ rest)))
    (trace_puts false (drill done []) n None t (done ++ [] ∷ []) (done ++ t ∷ []) refl (begin_next n done e)
    (put_next n done t e))
    ∙ traces_made (done ++ t ∷ []) more (n + 1) rest (longer done t n e)
    ∙ ap (λ ts. made false (drill ts []) rest) (append_assoc done (t ∷ []) more)

lists_made : (traces : List (List Told)) (done more : List (List ReceiptTold)) (n : ℕ) → n ≡ length done →
    made false (drill traces done) (whole of_list n more) ≡ Some (drill traces (done ++ more))
lists_made traces done [] n e = ap (λ ls. Some (drill traces ls)) (sym (append-nil done))
lists_made traces done (l ∷ more) n e =
    ap (option_and_then (λ next. made false next (whole of_list (n + 1) more)))
    (list_puts false (drill traces done) n None l (done ++ [] ∷ []) (done ++ l ∷ []) (begin_next n done e)
    (put_next n done l e))
    ∙ lists_made traces (done ++ l ∷ []) more (n + 1) (longer done l n e)
    ∙ ap (λ ls. Some (drill traces ls)) (append_assoc done (l ∷ []) more)

pub whole_made : (d : DrillTold) → made false no_drill (whole_parts d) ≡ Some d
whole_made d = traces_made [] d.traces 0 (whole of_list 0 d.lists) refl ∙ lists_made d.traces [] d.lists 0 refl

-- ---- texts

-- the same of their texts
texts_come : (s : Option SoFarTold) (found : SoFarTold) (n : ℕ) (lines : List LineTold) → All ReadsBack lines →
    comes s lines ≡ Some found → drill_from s n (map line_text lines) ≡ Ok (drill_so_far found)
texts_come s found n [] h e = ap (λ o. or_line n (option_map drill_so_far o)) e
texts_come s found n (line ∷ lines) h e =
    ap (λ o. or_line n (option_and_then (after_line s) o) >>=
    (λ next. drill_from (Some next) (n + 1) (map line_text lines))) (All-head ReadsBack line lines h).read
    ∙ further (after_line s line) (λ next. drill_from (Some next) (n + 1) (map line_text lines))
    (λ next. comes (Some next) lines) e
    (λ next found_so. texts_come (Some next) found (n + 1) lines (All-tail ReadsBack line lines h) found_so)
  where
    further : (o : Option SoFarTold) (rest : SoFarTold → Result DrillTold ℕ) (more : SoFarTold → Option SoFarTold) →
        option_and_then more o ≡ Some found →
        ((next : SoFarTold) → more next ≡ Some found → rest next ≡ Ok (drill_so_far found)) →
        (or_line n o >>= rest) ≡ Ok (drill_so_far found)
    further None rest more e each = cc e
    further (Some next) rest more e each = each next e

pub drill_comes : (d : DrillTold) → (place : Place) ×
    (comes None (drill_lines d) ≡ Some (at false d.traces d.lists place))
drill_comes d =
    let all = all_come false (whole_parts d) d (whole_made d) in
    (all.0, ap (comes None) (whole_lines d) ∙ all.1)

-- what is written reads back
pub reads_back : (d : DrillTold) → All ReadsBack (drill_lines d) → drill_in (drill_text d) ≡ Ok d
unfolding drill_in
reads_back d h =
    let all = drill_comes d in
    ap (drill_from None 1) (all_lines (drill_lines d) h) ∙
    texts_come None (at false d.traces d.lists all.0) 1 (drill_lines d) h all.1
