-- What is read of bytes is the drill that they are.
use Rattle.std.proofs.Common.{◌≡◌, ◌⊎◌, inl, inr, ℕ, zero, suc, ◌+◌, ◌<◌, ◌≤◌, Bool, List, [], ◌∷◌, ◌++◌, take, map, flat_map, Option, Some, None, Result, Ok, Err, refl, sym, ap, ◌∙◌, subst, arith, append_assoc, append-nil}
use Rattle.std.specs.Prelude.{option_map, option_and_then}
use Rattle.std.proofs.lemmas.Bool.{cases_lt}
use Rattle.std.proofs.lemmas.Grind.{flat_map-append}
use Rattle.std.proofs.lemmas.List.{map-append}
use Rattle.node_calls.specs.Told.{Told}
use Rattle.drills.specs.declared.so_far.Place.{Place}
use Rattle.drills.specs.declared.so_far.Place.TheVariants.{InList, InTrace, Nowhere}
use Rattle.drills.specs.Lines.{LineTold, head, trace, entry, list, receipt, part_head, ReceiptTold}
use Rattle.drills.specs.Reading.{line_in}
use Rattle.drills.specs.Drills.{DrillTold, SoFarTold, after_entry, after_line, after_receipt, after_text, behind, drill_from, drill_in, drill_so_far, lines_in, or_line, started, takes_trace, ◌>>=◌}
use Rattle.drills.specs.Grammar.{AreDrill, AreSomeDrill, IsDrill, IsFirstBad, Part, made, no_drill, of_list, of_trace, part_lines, with_part}
use Rattle.drills.proofs.Folds.{all_come, at, comes}
use Rattle.drills.proofs.Parts.{behind_both, drill, followed, list_put, list_puts, mapped, passed, started_there, trace_put, trace_puts}

-- ---- one line more

-- the part that goes on is the last
abbrev IsLast : Place → List Part → Type 0
IsLast Nowhere parts = Unit {0}
IsLast (InTrace node) parts =
    (before : List Part) × (from : Option ℕ) × (entries : List Told) ×
    (parts ≡ before ++ of_trace node from entries ∷ [])
IsLast (InList number) parts =
    (before : List Part) × (from : Option ℕ) × (receipts : List ReceiptTold) ×
    (parts ≡ before ++ of_list number from receipts ∷ [])

-- parts that lines say, and that come to what is read so far
record Explained (s : SoFarTold) (lines : List LineTold) : Type 0 where
  pub parts : List Part
  pub spelled : lines ≡ head s.pieces ∷ flat_map part_lines parts
  pub come : made s.pieces no_drill parts ≡ Some (drill_so_far s)
  pub last : IsLast s.place parts

abbrev Explains : Option SoFarTold → List LineTold → Type 0
Explains None lines = lines ≡ []
Explains (Some s) lines = Explained s lines

pub made_after : (pieces : Bool) (d : DrillTold) (xs ys : List Part) →
    made pieces d (xs ++ ys) ≡ option_and_then (λ next. made pieces next ys) (made pieces d xs)
made_after pieces d [] ys = refl
made_after pieces d (x ∷ xs) ys = further (with_part pieces d x) (λ next. made pieces next (xs ++ ys))
    (λ next. made pieces next xs) (λ next. made pieces next ys) (λ next. made_after pieces next xs ys)
  where
    further : (o : Option DrillTold) (all first rest : DrillTold → Option DrillTold) →
        ((next : DrillTold) → all next ≡ option_and_then rest (first next)) →
        option_and_then all o ≡ option_and_then rest (option_and_then first o)
    further None all first rest each = refl
    further (Some next) all first rest each = each next

-- a part more
made_next : (pieces : Bool) (parts : List Part) (part : Part) (d next : DrillTold) → made pieces no_drill parts ≡ Some d
    → with_part pieces d part ≡ Some next → made pieces no_drill (parts ++ part ∷ []) ≡ Some next
made_next pieces parts part d next e f =
    made_after pieces no_drill parts (part ∷ [])
    ∙ ap (option_and_then (λ mid. made pieces mid (part ∷ []))) e
    ∙ ap (option_and_then (λ mid. Some mid)) f

-- and what it was put behind
made_before : (pieces : Bool) (parts : List Part) (part : Part) (next : DrillTold) →
    made pieces no_drill (parts ++ part ∷ []) ≡ Some next
    → (d : DrillTold) × (made pieces no_drill parts ≡ Some d) × (with_part pieces d part ≡ Some next)
made_before pieces parts part next e =
    let step = followed (λ mid. made pieces mid (part ∷ [])) (made pieces no_drill parts) next
    (sym (made_after pieces no_drill parts (part ∷ [])) ∙ e) in
    let put = followed (λ mid. made pieces mid []) (with_part pieces step.0 part) next step.2 in
    (step.0, step.1, put.1 ∙ put.2)

-- the lines of a part more, and of one that is longer
lines_next : (pieces : Bool) (lines : List LineTold) (parts : List Part) (part : Part) (line : LineTold) →
    lines ≡ head pieces ∷ flat_map part_lines parts → part_lines part ≡ line ∷ []
    → lines ++ line ∷ [] ≡ head pieces ∷ flat_map part_lines (parts ++ part ∷ [])
lines_next pieces lines parts part line e one =
    ap (λ ls. ls ++ line ∷ []) e
    ∙ ap (λ ls. head pieces ∷ (flat_map part_lines parts ++ ls)) (sym (append-nil (part_lines part) ∙ one))
    ∙ ap (λ ls. head pieces ∷ ls) (sym (flat_map-append part_lines parts (part ∷ [])))

lines_longer : (pieces : Bool) (lines : List LineTold) (parts before : List Part) (part longer : Part)
    (line : LineTold) → lines ≡ head pieces ∷ flat_map part_lines parts → parts ≡ before ++ part ∷ []
    → part_lines longer ≡ part_lines part ++ line ∷ []
    → lines ++ line ∷ [] ≡ head pieces ∷ flat_map part_lines (before ++ longer ∷ [])
lines_longer pieces lines parts before part longer line e is more =
    ap (λ ls. ls ++ line ∷ []) (e ∙ ap (λ ps. head pieces ∷ flat_map part_lines ps) is
    ∙ ap (λ ls. head pieces ∷ ls) (flat_map-append part_lines before (part ∷ [])))
    ∙ ap (λ ls. head pieces ∷ ((flat_map part_lines before ++ ls) ++ line ∷ [])) (append-nil (part_lines part))
    ∙ ap (λ ls. head pieces ∷ ls) (append_assoc (flat_map part_lines before) (part_lines part) (line ∷ []))
    ∙ ap (λ ls. head pieces ∷ (flat_map part_lines before ++ ls)) (sym more ∙ sym (append-nil (part_lines longer)))
    ∙ ap (λ ls. head pieces ∷ ls) (sym (flat_map-append part_lines before (longer ∷ [])))

trace_grown : (s : SoFarTold) (node : ℕ) (from : Option ℕ) (next : SoFarTold) (lines : List LineTold) →
    after_line (Some s) (trace node from) ≡ Some next → Explained s lines
    → Explained next (lines ++ trace node from ∷ [])
trace_grown s node from next lines e x =
    let start : List (List Told) → SoFarTold = (λ ts. record s { traces = ts; place = InTrace node }) in
    let put = passed (takes_trace s.pieces s.lists) (option_map start (started s.pieces node from s.traces)) next e in
    let found = mapped start (started s.pieces node from s.traces) next put.1 in
    let more : made s.pieces no_drill (x.parts ++ of_trace node from [] ∷ []) ≡ Some (drill found.0 s.lists) =
    made_next s.pieces x.parts (of_trace node from []) (drill_so_far s) (drill found.0 s.lists) x.come
    (trace_puts s.pieces (drill_so_far s) node from [] found.0 found.0 put.0 found.1
    (started_there s.pieces node from s.traces found.0 found.1)) in
    subst (λ (n : SoFarTold). Explained n (lines ++ trace node from ∷ [])) found.2 (record {
      parts = x.parts ++ of_trace node from [] ∷ [];
      spelled = lines_next s.pieces lines x.parts (of_trace node from []) (trace node from) x.spelled refl;
      come = more;
      last = (x.parts, from, [], refl);
    })

list_grown : (s : SoFarTold) (number : ℕ) (from : Option ℕ) (next : SoFarTold) (lines : List LineTold) →
    after_line (Some s) (list number from) ≡ Some next → Explained s lines
    → Explained next (lines ++ list number from ∷ [])
list_grown s number from next lines e x =
    let start : List (List ReceiptTold) → SoFarTold = (λ ls. record s { lists = ls; place = InList number }) in
    let found = mapped start (started s.pieces number from s.lists) next e in
    let more : made s.pieces no_drill (x.parts ++ of_list number from [] ∷ []) ≡ Some (drill s.traces found.0) =
    made_next s.pieces x.parts (of_list number from []) (drill_so_far s) (drill s.traces found.0) x.come
    (list_puts s.pieces (drill_so_far s) number from [] found.0 found.0 found.1
    (started_there s.pieces number from s.lists found.0 found.1)) in
    subst (λ (n : SoFarTold). Explained n (lines ++ list number from ∷ [])) found.2 (record {
      parts = x.parts ++ of_list number from [] ∷ [];
      spelled = lines_next s.pieces lines x.parts (of_list number from []) (list number from) x.spelled refl;
      come = more;
      last = (x.parts, from, [], refl);
    })

entry_grown : (pieces : Bool) (traces : List (List Told)) (lists : List (List ReceiptTold)) (place : Place) (e : Told)
    (next : SoFarTold) (lines : List LineTold) → after_entry (at pieces traces lists place) e place ≡ Some next
    → Explained (at pieces traces lists place) lines → Explained next (lines ++ entry e ∷ [])
entry_grown pieces traces lists Nowhere e next lines is x = absurd cc
entry_grown pieces traces lists (InList number) e next lines is x = absurd cc
entry_grown pieces traces lists (InTrace node) e next lines is x =
    let found = mapped (λ (ts : List (List Told)). at pieces ts lists (InTrace node))
    (behind node (e ∷ []) traces) next is in
    let before = x.last.0 in
    let from = x.last.1 in
    let entries = x.last.2 in
    let made_so = made_before pieces before (of_trace node from entries) (drill traces lists)
    (ap (made pieces no_drill) (sym x.last.3) ∙ x.come) in
    let put = trace_put pieces made_so.0 node from entries (drill traces lists) made_so.2 in
    let more = behind_both node entries (e ∷ []) put.start traces found.0 put.traces found.1 in
    let puts : with_part pieces made_so.0 (of_trace node from (entries ++ e ∷ [])) ≡ Some (drill found.0 lists) =
    trace_puts pieces made_so.0 node from (entries ++ e ∷ []) put.start found.0 put.takes put.starts more
    ∙ ap (λ ls. Some (drill found.0 ls)) (sym put.lists) in
    subst (λ (n : SoFarTold). Explained n (lines ++ entry e ∷ [])) found.2 (record {
      parts = before ++ of_trace node from (entries ++ e ∷ []) ∷ [];
      spelled = lines_longer pieces lines x.parts before (of_trace node from entries)
          (of_trace node from (entries ++ e ∷ [])) (entry e) x.spelled x.last.3
          (ap (λ ls. trace node from ∷ ls) (map-append entry entries (e ∷ [])));
      come = made_next pieces before (of_trace node from (entries ++ e ∷ [])) made_so.0 (drill found.0 lists)
          made_so.1 puts;
      last = (before, from, entries ++ e ∷ [], refl);
    })

receipt_grown : (pieces : Bool) (traces : List (List Told)) (lists : List (List ReceiptTold)) (place : Place)
    (r : ReceiptTold) (next : SoFarTold) (lines : List LineTold) →
    after_receipt (at pieces traces lists place) r place ≡ Some next
    → Explained (at pieces traces lists place) lines → Explained next (lines ++ receipt r ∷ [])
receipt_grown pieces traces lists Nowhere r next lines is x = absurd cc
receipt_grown pieces traces lists (InTrace node) r next lines is x = absurd cc
receipt_grown pieces traces lists (InList number) r next lines is x =
    let found = mapped (λ (ls : List (List ReceiptTold)). at pieces traces ls (InList number))
    (behind number (r ∷ []) lists) next is in
    let before = x.last.0 in
    let from = x.last.1 in
    let receipts = x.last.2 in
    let made_so = made_before pieces before (of_list number from receipts) (drill traces lists)
    (ap (made pieces no_drill) (sym x.last.3) ∙ x.come) in
    let put = list_put pieces made_so.0 number from receipts (drill traces lists) made_so.2 in
    let more = behind_both number receipts (r ∷ []) put.start lists found.0 put.lists found.1 in
    let puts : with_part pieces made_so.0 (of_list number from (receipts ++ r ∷ [])) ≡ Some (drill traces found.0) =
    list_puts pieces made_so.0 number from (receipts ++ r ∷ []) put.start found.0 put.starts more
    ∙ ap (λ ts. Some (drill ts found.0)) (sym put.traces) in
    subst (λ (n : SoFarTold). Explained n (lines ++ receipt r ∷ [])) found.2 (record {
      parts = before ++ of_list number from (receipts ++ r ∷ []) ∷ [];
      spelled = lines_longer pieces lines x.parts before (of_list number from receipts)
          (of_list number from (receipts ++ r ∷ [])) (receipt r) x.spelled x.last.3
          (ap (λ ls. list number from ∷ ls) (map-append receipt receipts (r ∷ [])));
      come = made_next pieces before (of_list number from (receipts ++ r ∷ [])) made_so.0 (drill traces found.0)
          made_so.1 puts;
      last = (before, from, receipts ++ r ∷ [], refl);
    })

grown : (o : Option SoFarTold) (line : LineTold) (next : SoFarTold) (lines : List LineTold) →
    after_line o line ≡ Some next → Explains o lines → Explained next (lines ++ line ∷ [])
grown None (head pieces) next lines e x =
    let same : at pieces [] [] Nowhere ≡ next = cc in
    subst (λ (n : SoFarTold). Explained n (lines ++ head pieces ∷ [])) same (record {
      parts = [];
      spelled = ap (λ ls. ls ++ head pieces ∷ []) x;
      come = refl;
      last = tt;
    })
grown None (trace node from) next lines e x = absurd cc
grown None (entry t) next lines e x = absurd cc
grown None (list number from) next lines e x = absurd cc
grown None (receipt r) next lines e x = absurd cc
grown None (part_head h) next lines e x = absurd cc
grown (Some s) (head pieces) next lines e x = absurd cc
grown (Some s) (trace node from) next lines e x = trace_grown s node from next lines e x
grown (Some s) (entry t) next lines e x = entry_grown s.pieces s.traces s.lists s.place t next lines e x
grown (Some s) (list number from) next lines e x = list_grown s number from next lines e x
grown (Some s) (receipt r) next lines e x = receipt_grown s.pieces s.traces s.lists s.place r next lines e x
grown (Some s) (part_head h) next lines e x = absurd cc

explained : (values : List LineTold) (o : Option SoFarTold) (before : List LineTold) (s : SoFarTold) →
    Explains o before → comes o values ≡ Some s → Explained s (before ++ values)
explained [] None before s x e = absurd cc
explained [] (Some c) before s x e =
    let same : c ≡ s = cc in
    subst (λ (ls : List LineTold). Explained s ls) (sym (append-nil before))
    (subst (λ (n : SoFarTold). Explained n before) same x)
explained (value ∷ values) o before s x e =
    let step = followed (λ next. comes (Some next) values) (after_line o value) s e in
    subst (λ (ls : List LineTold). Explained s ls) (append_assoc before (value ∷ []) values)
    (explained values (Some step.0) (before ++ value ∷ []) s (grown o value step.0 before step.1 x) step.2)

-- ---- all lines

-- they say so much, and this is what they come to
pub record AreSaid (o : Option SoFarTold) (lines : List (List ℕ)) (d : DrillTold) : Type 0 where
  pub values : List LineTold
  pub so_far : SoFarTold
  pub said : map line_in lines ≡ map (λ line. Some line) values
  pub come : comes o values ≡ Some so_far
  pub is : drill_so_far so_far ≡ d

-- what comes of a line, and the lines behind it
abbrev goes_on : ℕ → List (List ℕ) → Option SoFarTold → Result DrillTold ℕ
goes_on number lines o = or_line number o >>= (λ next. drill_from (Some next) (number + 1) lines)

said_at : (line : List ℕ) (lines : List (List ℕ)) (o : Option SoFarTold) (number : ℕ) (d : DrillTold)
    → ((next : SoFarTold) → drill_from (Some next) (number + 1) lines ≡ Ok d → AreSaid (Some next) lines d)
    → (told : LineTold) → line_in line ≡ Some told → (x : Option SoFarTold) → after_line o told ≡ x →
    goes_on number lines x ≡ Ok d → AreSaid o (line ∷ lines) d
said_at line lines o number d rest told is None goes e = absurd cc
said_at line lines o number d rest told is (Some next) goes e =
    let behind = rest next e in
    record {
      values = told ∷ behind.values;
      so_far = behind.so_far;
      said = ap (λ x. x ∷ map line_in lines) is ∙ ap (λ xs. Some told ∷ xs) behind.said;
      come = ap (option_and_then (λ after. comes (Some after) behind.values)) goes ∙ behind.come;
      is = behind.is;
    }

said_by : (line : List ℕ) (lines : List (List ℕ)) (o : Option SoFarTold) (number : ℕ) (d : DrillTold)
    → ((next : SoFarTold) → drill_from (Some next) (number + 1) lines ≡ Ok d → AreSaid (Some next) lines d)
    → (x : Option LineTold) → line_in line ≡ x → goes_on number lines (option_and_then (after_line o) x) ≡ Ok d →
    AreSaid o (line ∷ lines) d
said_by line lines o number d rest None is e = absurd cc
said_by line lines o number d rest (Some told) is e = said_at line lines o number d rest told is (after_line o told)
    refl e

are_said : (lines : List (List ℕ)) (o : Option SoFarTold) (number : ℕ) (d : DrillTold) →
    drill_from o number lines ≡ Ok d → AreSaid o lines d
are_said [] None number d e = absurd cc
are_said [] (Some c) number d e =
    let same : drill_so_far c ≡ d = cc in
    record { values = []; so_far = c; said = refl; come = refl; is = same }
are_said (line ∷ lines) o number d e = said_by line lines o number d
    (λ next e. are_said lines (Some next) (number + 1) d e) (line_in line) refl e

-- lines that say this
come_at : (lines : List (List ℕ)) (values : List LineTold) (number : ℕ) (s : SoFarTold)
    → ((next : SoFarTold) → comes (Some next) values ≡ Some s →
    drill_from (Some next) (number + 1) lines ≡ Ok (drill_so_far s))
    → (x : Option SoFarTold) → option_and_then (λ next. comes (Some next) values) x ≡ Some s →
    goes_on number lines x ≡ Ok (drill_so_far s)
come_at lines values number s rest None e = absurd cc
come_at lines values number s rest (Some next) e = rest next e

said_come : (lines : List (List ℕ)) (values : List LineTold) (o : Option SoFarTold) (number : ℕ) (s : SoFarTold) →
    map line_in lines ≡ map (λ line. Some line) values
    → comes o values ≡ Some s → drill_from o number lines ≡ Ok (drill_so_far s)
said_come [] [] None number s said e = absurd cc
said_come [] [] (Some c) number s said e = let same : c ≡ s = cc in ap (λ n. Ok (drill_so_far n)) same
said_come [] (told ∷ values) o number s said e = absurd cc
said_come (line ∷ lines) [] o number s said e = absurd cc
said_come (line ∷ lines) (told ∷ values) o number s said e =
    let first : line_in line ≡ Some told = cc in
    let behind : map line_in lines ≡ map (λ line. Some line) values = cc in
    ap (λ x. goes_on number lines (option_and_then (after_line o) x)) first
    ∙ come_at lines values number s (λ next e. said_come lines values (Some next) (number + 1) s behind e)
    (after_line o told) e

drill_read_from : (lines : List (List ℕ)) (number : ℕ) (d : DrillTold) → drill_from None number lines ≡ Ok d →
    AreDrill lines d
drill_read_from lines number d e =
    let so = are_said lines None number d e in
    let x = explained so.values None [] so.so_far refl so.come in
    record {
      pieces = so.so_far.pieces;
      parts = x.parts;
      said = so.said ∙ ap (map (λ line. Some line)) x.spelled;
      come = x.come ∙ ap (λ d. Some d) so.is;
    }

read_drill_from : (lines : List (List ℕ)) (number : ℕ) (d : DrillTold) → AreDrill lines d →
    drill_from None number lines ≡ Ok d
read_drill_from lines number d are =
    let all = all_come are.pieces are.parts d are.come in
    said_come lines (head are.pieces ∷ flat_map part_lines are.parts) None number
    (at are.pieces d.traces d.lists all.0) are.said all.1

pub drill_read : (bytes : List ℕ) (d : DrillTold) → drill_in bytes ≡ Ok d → IsDrill bytes d
unfolding drill_in
drill_read bytes d e = drill_read_from (lines_in bytes) 1 d e

pub read_drill : (bytes : List ℕ) (d : DrillTold) → IsDrill bytes d → drill_in bytes ≡ Ok d
unfolding drill_in
read_drill bytes d is = read_drill_from (lines_in bytes) 1 d is

pub one_drill : (bytes : List ℕ) (d e : DrillTold) → IsDrill bytes d → IsDrill bytes e → d ≡ e
one_drill bytes d e is also =
    let same : ◌≡◌ {A = Result DrillTold ℕ} (Ok d) (Ok e) = sym (read_drill bytes d is) ∙ read_drill bytes e also in
    cc

-- ---- the first bad line

abbrev Reads : Option SoFarTold → ℕ → List (List ℕ) → Type 0
Reads o number lines = (d : DrillTold) × (drill_from o number lines ≡ Ok d)

-- so many lines behind the first are read
record StopsAt (o : Option SoFarTold) (number : ℕ) (lines : List (List ℕ)) (n : ℕ) : Type 0 where
  pub before : (k : ℕ) → k < n → Reads o number (take (suc k) lines)
  pub stops : Reads o number (take (suc n) lines) → ⊥

abbrev Stops : Option SoFarTold → ℕ → List (List ℕ) → ℕ → Type 0
Stops o number lines bad = (n : ℕ) × (bad ≡ number + n) × StopsAt o number lines n

-- with no line that could be read
none_read : (number : ℕ) (lines : List (List ℕ)) (o : Option SoFarTold) → o ≡ None →
    ((d : DrillTold) × (goes_on number lines o ≡ Ok d)) → ⊥
none_read number lines None is h = let read = h.1 in cc
none_read number lines (Some s) is h = cc

earlier : (line : List ℕ) (lines : List (List ℕ)) (o : Option SoFarTold) (number : ℕ) (next : SoFarTold) (n : ℕ) →
    after_text o line ≡ Some next
    → ((k : ℕ) → k < n → Reads (Some next) (number + 1) (take (suc k) lines)) → (k : ℕ) → k < suc n →
    Reads o number (take (suc k) (line ∷ lines))
earlier line lines o number next n is before zero low = (drill_so_far next, ap (goes_on number (take 0 lines)) is)
earlier line lines o number next n is before (suc k) low =
    let so = before k (omega (arith, low)) in
    (so.0, ap (goes_on number (take (suc k) lines)) is ∙ so.1)

stops_at : (line : List ℕ) (lines : List (List ℕ)) (o : Option SoFarTold) (number bad : ℕ)
    → ((next : SoFarTold) → drill_from (Some next) (number + 1) lines ≡ Err bad →
    Stops (Some next) (number + 1) lines bad)
    → (x : Option SoFarTold) → after_text o line ≡ x → goes_on number lines x ≡ Err bad →
    Stops o number (line ∷ lines) bad
stops_at line lines o number bad rest None is e =
    let same : number ≡ bad = cc in (
      0,
      omega (arith, same),
      record {
        before = λ k low. absurd (omega (arith, low));
        stops =
            none_read number (take 0 lines) (after_text o line) is;
      },
    )
stops_at line lines o number bad rest (Some next) is e =
    let found = rest next e in
    let bad_is = found.1 in (
      suc found.0,
      omega (arith, bad_is),
      record {
        before = earlier line lines o number next found.0 is found.2.before;
        stops = λ h. found.2.stops (h.0, sym (ap (goes_on number (take (suc found.0) lines)) is) ∙ h.1);
      },
    )

stops_from : (lines : List (List ℕ)) (o : Option SoFarTold) (number bad : ℕ) → drill_from o number lines ≡ Err bad →
    Stops o number lines bad
stops_from [] (Some s) number bad e =
    absurd (let impossible : ◌≡◌ {A = Result DrillTold ℕ} (Ok (drill_so_far s)) (Err bad) = e in cc)
stops_from [] None number bad e =
    let same : number ≡ bad = cc in (
      0,
      omega (arith, same),
      record {
        before = λ k low. absurd (omega (arith, low));
        stops = λ h. let read :
            ◌≡◌ {A = Result DrillTold ℕ} (Err number) (Ok h.0) = h.1 in cc;
      },
    )
stops_from (line ∷ lines) o number bad e = stops_at line lines o number bad
    (λ next e. stops_from lines (Some next) (number + 1) bad e) (after_text o line) refl e

-- lines that are read are read up to each of them
shorter : (lines : List (List ℕ)) (number : ℕ) (next : SoFarTold) →
    ((n : ℕ) → Reads (Some next) number (take (suc n) lines)) → (n : ℕ) → Reads (Some next) number (take n lines)
shorter lines number next rest zero = (drill_so_far next, refl)
shorter lines number next rest (suc n) = rest n

less_at : (line : List ℕ) (lines : List (List ℕ)) (o : Option SoFarTold) (number : ℕ)
    → ((next : SoFarTold) → Reads (Some next) (number + 1) lines → (n : ℕ) →
    Reads (Some next) (number + 1) (take (suc n) lines))
    → (x : Option SoFarTold) → after_text o line ≡ x → ((d : DrillTold) × (goes_on number lines x ≡ Ok d)) → (n : ℕ) →
    Reads o number (line ∷ take n lines)
less_at line lines o number rest None is h n = absurd (none_read number lines None refl h)
less_at line lines o number rest (Some next) is h n =
    let so = shorter lines (number + 1) next (rest next h) n in
    (so.0, ap (goes_on number (take n lines)) is ∙ so.1)

reads_less : (lines : List (List ℕ)) (o : Option SoFarTold) (number : ℕ) → Reads o number lines → (n : ℕ) →
    Reads o number (take (suc n) lines)
reads_less [] o number h n = h
reads_less (line ∷ lines) o number h n =
    less_at line lines o number (λ next h n. reads_less lines (Some next) (number + 1) h n) (after_text o line) refl
    (h.0, h.1) n

are_some : (lines : List (List ℕ)) → Reads None 1 lines → AreSomeDrill lines
are_some lines h = (h.0, drill_read_from lines 1 h.0 h.1)

some_are : (lines : List (List ℕ)) → AreSomeDrill lines → Reads None 1 lines
some_are lines h = (h.0, read_drill_from lines 1 h.0 h.1)

before_it : (lines : List (List ℕ)) (n : ℕ) → 1 ≤ n → Reads None 1 lines → AreSomeDrill (take n lines)
before_it lines zero some h = absurd (omega (arith, some))
before_it lines (suc n) some h = are_some (take (suc n) lines) (reads_less lines None 1 h n)

first_bad : (lines : List (List ℕ)) (number : ℕ) → drill_from None 1 lines ≡ Err number → IsFirstBad lines number
first_bad lines number e =
    let found = stops_from lines None 1 number e in
    let number_is = found.1 in
    let next : number ≡ suc found.0 = omega (arith, number_is) in
    subst (IsFirstBad lines) (sym next) (record {
      counted = omega arith;
      before = earlier found.0 found.2;
      bad =
          λ h. found.2.stops (some_are (take (suc found.0) lines) h);
    })
  where
    earlier : (n : ℕ) → StopsAt None 1 lines n → (k : ℕ) → 1 ≤ k → k < suc n → AreSomeDrill (take k lines)
    earlier n found zero some low = absurd (omega (arith, some))
    earlier n found (suc k) some low = are_some (take (suc k) lines) (found.before k (omega (arith, low)))

pub line_bad : (bytes : List ℕ) (number : ℕ) → drill_in bytes ≡ Err number → IsFirstBad (lines_in bytes) number
unfolding drill_in
line_bad bytes number e = first_bad (lines_in bytes) number e

pub bad_line : (bytes : List ℕ) (number : ℕ) → IsFirstBad (lines_in bytes) number → drill_in bytes ≡ Err number
bad_line bytes number is = at (drill_in bytes) refl
  where
    same_line : (other : ℕ) → IsFirstBad (lines_in bytes) other → (other < number) ⊎ (number ≤ other) →
        (number < other) ⊎ (other ≤ number) → other ≡ number
    same_line other also (inl less) q = absurd (also.bad (is.before other also.counted less))
    same_line other also (inr high) (inl less) = absurd (is.bad (also.before number is.counted less))
    same_line other also (inr high) (inr low) = omega (arith, high, low)

    at : (r : Result DrillTold ℕ) → drill_in bytes ≡ r → r ≡ Err number
    at (Ok d) e = absurd (is.bad (before_it (lines_in bytes) number is.counted
        (some_are (lines_in bytes) (d, drill_read bytes d e))))
    at (Err other) e = ap (λ n. Err n) (same_line other (line_bad bytes other e) (cases_lt other number)
        (cases_lt number other))
