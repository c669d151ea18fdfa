-- A text of the first version tells each part whole.
use Rattle.std.proofs.Common.{◌≡◌, ℕ, ◌+◌, ◌==◌, false, List, [], ◌∷◌, ◌++◌, length, map, flat_map, take, Option, Some, None, refl, sym, ap, ◌∙◌, arith, append_assoc, append-nil, length-append}
use Rattle.std.specs.Prelude.{◌↔◌}
use Rattle.std.proofs.lemmas.Bool.{eqb-true, ne_eqb}
use Rattle.node_calls.specs.Told.{Told}
use Rattle.drills.specs.Lines.{LineTold, head, ReceiptTold}
use Rattle.drills.specs.Reading.{line_in}
use Rattle.drills.specs.Drills.{DrillTold, behind, drill_lines, lines_in, list_lines, numbered, started, takes_trace, trace_lines}
use Rattle.drills.specs.Grammar.{IsDrill, Part, made, no_drill, of_list, of_trace, part_lines, with_part}
use Rattle.drills.proofs.Folds.{put_next, whole_lines, whole_made, whole_parts}
use Rattle.drills.proofs.Parts.{followed, list_put, passed, trace_put}

-- traces and lists that parts add, each whole, and a trace only where there is no list yet
record AreWhole (d : DrillTold) (parts : List Part) (next : DrillTold) : Type 0 where
  pub more : List (List Told)
  pub others : List (List ReceiptTold)
  pub traces : next.traces ≡ d.traces ++ more
  pub lists : next.lists ≡ d.lists ++ others
  pub spelled : flat_map part_lines parts ≡ numbered trace_lines (length d.traces) more ++
      numbered list_lines (length d.lists) others
  pub ended : takes_trace false d.lists ≡ false → more ≡ []

-- a part that begins has its number, and stands behind the others
record IsNext {A : Type 0} (n : ℕ) (from : Option ℕ) (part : List A) (parts next : List (List A)) : Type 0 where
  pub none : from ≡ None
  pub number : n ≡ length parts
  pub grown : next ≡ parts ++ part ∷ []

is_next : {A : Type 0} (n : ℕ) (from : Option ℕ) (part : List A) (parts start next : List (List A)) →
    started false n from parts ≡ Some start → behind n part start ≡ Some next → IsNext n from part parts next
is_next n (Some from) part parts start next e f = absurd cc
is_next n None part parts start next e f =
    let found = passed (n == length parts) (Some (parts ++ [] ∷ [])) start e in
    let same : parts ++ [] ∷ [] ≡ start = (let there = found.1 in cc) in
    let place : n ≡ length parts = eqb-true n (length parts) found.0 in
    let put : Some next ≡ Some (parts ++ part ∷ []) = sym f ∙ ap (behind n part) (sym same) ∙
    put_next n parts part place in
    record { none = refl; number = place; grown = cc }

one_more : {A : Type 0} (parts : List (List A)) (part : List A) → length (parts ++ part ∷ []) ≡ length parts + 1
one_more parts part = simp length-append (omega arith)

some_lists : (lists : List (List ReceiptTold)) (l : List ReceiptTold) → takes_trace false (lists ++ l ∷ []) ≡ false
some_lists lists l = ne_eqb (length (lists ++ l ∷ [])) 0 (λ none.
    let more = one_more lists l in
    omega (arith, none, more))

are_whole : (parts : List Part) (d next : DrillTold) → made false d parts ≡ Some next → AreWhole d parts next
are_whole [] d next e =
    let same : d ≡ next = cc in
    record {
      more = [];
      others = [];
      traces = sym (ap (λ (d : DrillTold). d.traces) same) ∙ sym (append-nil d.traces);
      lists = sym (ap (λ (d : DrillTold). d.lists) same) ∙ sym (append-nil d.lists);
      spelled = refl;
      ended = λ _. refl;
    }
are_whole (of_trace node from entries ∷ parts) d next e =
    let step = followed (λ mid. made false mid parts) (with_part false d (of_trace node from entries)) next e in
    let put = trace_put false d node from entries step.0 step.1 in
    let new = is_next node from entries d.traces put.start step.0.traces put.starts put.traces in
    let rest = are_whole parts step.0 next step.2 in
    let counted : length step.0.traces ≡ length d.traces + 1 = ap length new.grown ∙ one_more d.traces entries in
    record {
      more = entries ∷ rest.more;
      others = rest.others;
      traces = rest.traces ∙ ap (λ ts. ts ++ rest.more) new.grown ∙ append_assoc d.traces (entries ∷ []) rest.more;
      lists = rest.lists ∙ ap (λ ls. ls ++ rest.others) put.lists;
      spelled = ap (λ ls. part_lines (of_trace node from entries) ++ ls) rest.spelled
          ∙ ap (λ n. part_lines (of_trace node from entries) ++ (numbered trace_lines n rest.more ++
          numbered list_lines (length step.0.lists) rest.others)) counted
          ∙ ap (λ ls. part_lines (of_trace node from entries) ++ (numbered trace_lines (length d.traces + 1) rest.more
          ++ numbered list_lines (length ls) rest.others)) put.lists
          ∙ ap (λ o. part_lines (of_trace node o entries) ++ (numbered trace_lines (length d.traces + 1) rest.more ++
          numbered list_lines (length d.lists) rest.others)) new.none
          ∙ ap (λ n. trace_lines n entries ++ (numbered trace_lines (length d.traces + 1) rest.more ++
          numbered list_lines (length d.lists) rest.others)) new.number
          ∙ sym (append_assoc (trace_lines (length d.traces) entries)
          (numbered trace_lines (length d.traces + 1) rest.more)
          (numbered list_lines (length d.lists) rest.others));
      ended = λ none. absurd (let takes = put.takes in cc);
    }
are_whole (of_list number from receipts ∷ parts) d next e =
    let step = followed (λ mid. made false mid parts) (with_part false d (of_list number from receipts)) next e in
    let put = list_put false d number from receipts step.0 step.1 in
    let new = is_next number from receipts d.lists put.start step.0.lists put.starts put.lists in
    let rest = are_whole parts step.0 next step.2 in
    let counted : length step.0.lists ≡ length d.lists + 1 = ap length new.grown ∙ one_more d.lists receipts in
    let no_more : rest.more ≡ [] =
    rest.ended (ap (λ ls. takes_trace false ls) new.grown ∙ some_lists d.lists receipts) in
    record {
      more = [];
      others = receipts ∷ rest.others;
      traces = rest.traces ∙ ap (λ ts. step.0.traces ++ ts) no_more ∙ ap (λ ts. ts ++ []) put.traces;
      lists = rest.lists ∙ ap (λ ls. ls ++ rest.others) new.grown ∙ append_assoc d.lists (receipts ∷ []) rest.others;
      spelled = ap (λ ls. part_lines (of_list number from receipts) ++ ls) rest.spelled
          ∙ ap (λ ts. part_lines (of_list number from receipts) ++ (numbered trace_lines (length step.0.traces) ts ++
          numbered list_lines (length step.0.lists) rest.others)) no_more
          ∙ ap (λ n. part_lines (of_list number from receipts) ++ numbered list_lines n rest.others) counted
          ∙ ap (λ o. part_lines (of_list number o receipts) ++ numbered list_lines (length d.lists + 1) rest.others)
          new.none
          ∙ ap (λ n. list_lines n receipts ++ numbered list_lines (length d.lists + 1) rest.others) new.number;
      ended = λ _. refl;
    }

-- which of the versions it is, the first line says
whole_so : (lines : List (List ℕ)) (values : List LineTold) → take 1 (map line_in lines) ≡ Some (head false) ∷ [] →
    map line_in lines ≡ map (λ line. Some line) values → take 1 values ≡ head false ∷ []
whole_so [] values first said = absurd cc
whole_so (line ∷ lines) [] first said = absurd cc
whole_so (line ∷ lines) (value ∷ values) first said =
    let same : Some (head false) ≡ Some value = cc in
    let value_is : head false ≡ value = cc in
    ap (λ v. v ∷ []) (sym value_is)

pub whole_parts_stay : (bytes : List ℕ) (d : DrillTold) → take 1 (map line_in (lines_in bytes)) ≡ Some (head false) ∷ []
    → IsDrill bytes d ↔ (map line_in (lines_in bytes) ≡ map (λ line. Some line) (drill_lines d))
whole_parts_stay bytes d first = (
  λ are.
      let start = whole_so (lines_in bytes) (head are.pieces ∷ flat_map part_lines are.parts) first are.said in
      let kind : are.pieces ≡ false = cc in
      let all = are_whole are.parts no_drill d (ap (λ p. made p no_drill are.parts) (sym kind) ∙ are.come) in
      are.said
      ∙ ap (λ p. map (λ line. Some line) (head p ∷ flat_map part_lines are.parts)) kind
      ∙ ap (λ ls. map (λ line. Some line) (head false ∷ ls)) (all.spelled
      ∙ ap (λ ts. numbered trace_lines 0 ts ++ numbered list_lines 0 all.others) (sym all.traces)
      ∙ ap (λ ls. numbered trace_lines 0 d.traces ++ numbered list_lines 0 ls) (sym all.lists)),
  λ said. record {
    pieces = false;
    parts = whole_parts d;
    said = said ∙ ap (map (λ line. Some line)) (whole_lines d);
    come = whole_made d;
  },
)
