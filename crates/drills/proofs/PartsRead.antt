-- What is read of bytes is the part that they are.
use Rattle.std.proofs.Common.{◌≡◌, ℕ, suc, ◌+◌, ◌<◌, ◌≤◌, Bool, true, false, List, [], ◌∷◌, ◌++◌, length, map, Option, Some, None, Result, Ok, Err, refl, sym, ap, ◌∙◌, subst, arith, append_assoc, append-nil, length-append}
use Rattle.std.specs.Prelude.{All, IfOk, IfSome, if◌then◌else◌, nat_lt, ok_or, option_map, option_and_then}
use Rattle.std.proofs.lemmas.Bool.{cond-true, lt-ltb, ltb-true}
use Rattle.std.proofs.lemmas.List.Elements.{All-head, All-tail}
use Rattle.node_calls.specs.Told.{Told}
use Rattle.drills.specs.declared.fault.DrillFault.{DrillFault}
use Rattle.drills.specs.declared.fault.DrillFault.TheVariants.{BadLine}
use Rattle.drills.specs.declared.part.Part.{Part}
use Rattle.drills.specs.declared.part_reader.Next.TheVariants.{Line, End}
use Rattle.drills.specs.Drills.{or_line, ◌>>=◌}
use Rattle.drills.specs.Lines.{LineTold, head, trace, entry, list, receipt, part_head, HeadTold, line_text}
use Rattle.drills.specs.Parts.{CanBeRead, IsPart, PartTold, ended_in, is_cut, is_numbered, part_after, part_from, part_in, part_lines, part_of, part_text, part_with, whole_part, with_cut}
use Rattle.drills.specs.Reading.{line_in}
use Rattle.drills.specs.TakenEnded.{IsNext}
use Rattle.drills.specs.Written.{ReadsBack}
use Rattle.drills.proofs.EndedLines.{all_ended, none_cut}

-- ---- line by line

-- what is left goes on from what was read so far, and comes to what all bytes are
abbrev pub PartGoesOn : Option PartTold → ℕ → List ℕ → Option (List ℕ) → Type 0
PartGoesOn p number bytes left = (rest : List ℕ) × (left ≡ Some rest) ×
    (part_from (is_cut rest) p number (ended_in rest) ≡ part_in bytes)

abbrev pub IfPartGoesOn : Option PartTold → ℕ → Option (List ℕ) → Option (List ℕ) → Type 0
IfPartGoesOn p number old left = IfSome old (λ bytes. PartGoesOn p number bytes left)

pub at_first : (old : Option (List ℕ)) → IfPartGoesOn None 1 old old
unfolding part_in
at_first None = tt
at_first (Some bytes) = (bytes, refl, refl)

-- what comes of a line, and the lines behind it
abbrev goes_on : Bool → ℕ → List (List ℕ) → Option PartTold → Result PartTold ℕ
goes_on cut number lines o = or_line number o >>= (λ next. part_from cut (Some next) (number + 1) lines)

-- a line is taken
stepped : (p : Option PartTold) (number : ℕ) (xs rest : List ℕ) (line : List ℕ) → ended_in xs ≡ line ∷ ended_in rest →
    is_cut xs ≡ is_cut rest
    → part_from (is_cut xs) p number (ended_in xs) ≡ goes_on (is_cut rest) number (ended_in rest) (part_after p line)
stepped p number xs rest line lines cut =
    ap (λ c. part_from c p number (ended_in xs)) cut ∙ ap (part_from (is_cut rest) p number) lines

-- a line that stands in its place
pub one_more : (p : Option PartTold) (next : PartTold) (number : ℕ) (old mid new : Option (List ℕ)) (line : List ℕ) →
    IfPartGoesOn p number old mid
    → IfSome mid (λ xs. IsNext Line line xs new) → part_after p line ≡ Some next →
    IfPartGoesOn (Some next) (number + 1) old new
one_more p next number None mid new line h first e = tt
one_more p next number (Some bytes) mid new line h first e =
    let found : IsNext Line line h.0 new = rw h.1 at first in (
      found.0,
      found.1,
      sym (ap (goes_on (is_cut found.0) number (ended_in found.0)) e)
          ∙ sym (stepped p number h.0 found.0 line found.2 found.3) ∙ h.2,
    )

-- a line that doesn't, or can't be read
pub bad_line : (p : Option PartTold) (number : ℕ) (old mid new : Option (List ℕ)) (line : List ℕ) →
    IfPartGoesOn p number old mid
    → IfSome mid (λ xs. IsNext Line line xs new) → part_after p line ≡ None →
    IfSome old (λ bytes. part_in bytes ≡ Err number)
bad_line p number None mid new line h first e = tt
bad_line p number (Some bytes) mid new line h first e =
    let found : IsNext Line line h.0 new = rw h.1 at first in
    sym h.2 ∙ stepped p number h.0 found.0 line found.2 found.3
    ∙ ap (goes_on (is_cut found.0) number (ended_in found.0)) e

-- no line is left
pub at_end : (p : Option PartTold) (number : ℕ) (old mid new : Option (List ℕ)) (line : List ℕ) (cut : Bool) →
    IfPartGoesOn p number old mid
    → IfSome mid (λ xs. IsNext (End cut) line xs new)
    → IfSome old (λ bytes. part_in bytes ≡ or_line number (option_map (with_cut cut) p))
at_end p number None mid new line cut h last = tt
at_end p number (Some bytes) mid new line cut h last =
    let found : IsNext (End cut) line h.0 new = rw h.1 at last in
    sym h.2 ∙ ap (part_from (is_cut h.0) p number) found.0
    ∙ ap (λ c. or_line number (option_map (with_cut c) p)) (sym found.1)

pub at_last : (p : Option PartTold) (part : Option Part) (number : ℕ) (old mid new : Option (List ℕ)) (line : List ℕ)
    (cut : Bool) → option_map part_of part ≡ option_map (with_cut cut) p → IfPartGoesOn p number old mid
    → IfSome mid (λ xs. IsNext (End cut) line xs new)
    → IfSome old (λ bytes. part_in bytes ≡ or_line number (option_map part_of part))
at_last p part number old mid new line cut is h last = rw is (at_end p number old mid new line cut h last)

-- of the end of the lines: what was read so far, or the line behind it
pub ends_part : (old : Option (List ℕ)) (part : Option Part) (number : ℕ) (r : Result Part DrillFault) →
    r ≡ ok_or part (BadLine number)
    → IfSome old (λ bytes. part_in bytes ≡ or_line number (option_map part_of part)) →
    IfOk r (λ p. IfSome old (λ bytes. part_in bytes ≡ Ok (part_of p)))
ends_part old None number (Ok p) e h = absurd cc
ends_part old None number (Err fault) e h = tt
ends_part old (Some p) number (Err fault) e h = absurd cc
ends_part old (Some p) number (Ok other) e h =
    let same : p ≡ other = cc in
    subst (λ (p : Part). IfSome old (λ bytes. part_in bytes ≡ Ok (part_of p))) same h

pub ends_bad : (old : Option (List ℕ)) (part : Option Part) (number : ℕ) (r : Result Part DrillFault) →
    r ≡ ok_or part (BadLine number)
    → IfSome old (λ bytes. part_in bytes ≡ or_line number (option_map part_of part)) → (line : ℕ) →
    r ≡ Err (BadLine line)
    → IfSome old (λ bytes. part_in bytes ≡ Err line)
ends_bad old None number r e h line bad =
    let told : ◌≡◌ {A = Result Part DrillFault} (Err (BadLine number)) (Err (BadLine line)) = sym e ∙ bad in
    let same : number ≡ line = cc in
    subst (λ (n : ℕ). IfSome old (λ bytes. part_in bytes ≡ Err n)) same h
ends_bad old (Some p) number r e h line bad =
    absurd (let told : ◌≡◌ {A = Result Part DrillFault} (Ok p) (Err (BadLine line)) = sym e ∙ bad in cc)

-- ---- the part that bytes are

abbrev part : HeadTold → List Told → Bool → PartTold
part h entries cut = record { head = h; entries = entries; cut = cut }

longer : (xs : List Told) (e : Told) → length (xs ++ e ∷ []) ≡ suc (length xs)
longer xs e = simp length-append (omega arith)

-- entries that lines say are put behind those before
entries_read : (h : HeadTold) (cut before : Bool) (lines : List (List ℕ)) (entries xs : List Told) (number : ℕ) →
    map line_in lines ≡ map (λ line. Some line) (map entry entries) → length xs + length entries ≤ h.cap
    → part_from cut (Some (part h xs before)) number lines ≡ Ok (part h (xs ++ entries) cut)
entries_read h cut before [] [] xs number said few = ap (λ es. Ok (part h es cut)) (sym (append-nil xs))
entries_read h cut before [] (e ∷ entries) xs number said few = absurd cc
entries_read h cut before (line ∷ lines) [] xs number said few = absurd cc
entries_read h cut before (line ∷ lines) (e ∷ entries) xs number said few =
    let first : line_in line ≡ Some (entry e) = cc in
    let behind : map line_in lines ≡ map (λ line. Some line) (map entry entries) = cc in
    let room : length xs < h.cap = omega (arith, few) in
    let long = longer xs e in
    ap (λ o. goes_on cut number lines (option_and_then (part_with (Some (part h xs before))) o)) first
    ∙ ap (goes_on cut number lines) (cond-true (nat_lt (length xs) h.cap) _ _ (lt-ltb (length xs) h.cap room))
    ∙ entries_read h cut before lines entries (xs ++ e ∷ []) (number + 1) behind (omega (arith, few, long))
    ∙ ap (λ es. Ok (part h es cut)) (append_assoc xs (e ∷ []) entries)

part_read_from : (h : HeadTold) (entries : List Told) (cut : Bool) (lines : List (List ℕ)) →
    map line_in lines ≡ map (λ line. Some line) (part_lines h entries) → CanBeRead h entries
    → part_from cut None 1 lines ≡ Ok (part h entries cut)
part_read_from h entries cut [] said allowed = absurd cc
part_read_from h entries cut (line ∷ lines) said allowed =
    let first : line_in line ≡ Some (part_head h) = cc in
    let behind : map line_in lines ≡ map (λ line. Some line) (map entry entries) = cc in
    let few = allowed.capped in
    ap (λ o. goes_on cut 1 lines (option_and_then (part_with None) o)) first
    ∙ ap (goes_on cut 1 lines) (cond-true (is_numbered h) _ _ allowed.numbered)
    ∙ entries_read h cut false lines entries [] (1 + 1) behind (omega (arith, few))

pub read_part : (bytes : List ℕ) (p : PartTold) → IsPart bytes p → part_in bytes ≡ Ok p
unfolding part_in
read_part bytes p is =
    part_read_from p.head p.entries (is_cut bytes) (ended_in bytes) is.said is.allowed
    ∙ ap (λ c. Ok (part p.head p.entries c)) (sym is.cut)

-- entries that come of lines, behind those before
record AreEntries (h : HeadTold) (cut : Bool) (xs : List Told) (lines : List (List ℕ)) (p : PartTold) : Type 0 where
  pub entries : List Told
  pub said : map line_in lines ≡ map (λ line. Some line) (map entry entries)
  pub is : part h (xs ++ entries) cut ≡ p
  pub few : length (xs ++ entries) ≤ h.cap

entry_told : (h : HeadTold) (cut before : Bool) (xs : List Told) (line : List ℕ) (lines : List (List ℕ))
    (number : ℕ) (p : PartTold)
    → ((es : List Told) → length es ≤ h.cap →
    part_from cut (Some (part h es before)) (number + 1) lines ≡ Ok p → AreEntries h cut es lines p)
    → (e : Told) → line_in line ≡ Some (entry e) → (b : Bool) → nat_lt (length xs) h.cap ≡ b
    → goes_on cut number lines (if b then Some (part h (xs ++ e ∷ []) before) else None) ≡ Ok p →
    AreEntries h cut xs (line ∷ lines) p
entry_told h cut before xs line lines number p rest e is false low goes = absurd cc
entry_told h cut before xs line lines number p rest e is true low goes =
    let room : length xs < h.cap = ltb-true (length xs) h.cap low in
    let long = longer xs e in
    let so = rest (xs ++ e ∷ []) (omega (arith, room, long)) goes in
    record {
      entries = e ∷ so.entries;
      said = ap (λ x. x ∷ map line_in lines) is ∙ ap (λ ls. Some (entry e) ∷ ls) so.said;
      is = ap (λ es. part h es cut) (sym (append_assoc xs (e ∷ []) so.entries)) ∙ so.is;
      few = subst (λ (es : List Told). length es ≤ h.cap) (append_assoc xs (e ∷ []) so.entries) so.few;
    }

line_told : (h : HeadTold) (cut before : Bool) (xs : List Told) (line : List ℕ) (lines : List (List ℕ))
    (number : ℕ) (p : PartTold)
    → ((es : List Told) → length es ≤ h.cap →
    part_from cut (Some (part h es before)) (number + 1) lines ≡ Ok p → AreEntries h cut es lines p)
    → (o : Option LineTold) → line_in line ≡ o
    → goes_on cut number lines (option_and_then (part_with (Some (part h xs before))) o) ≡ Ok p →
    AreEntries h cut xs (line ∷ lines) p
line_told h cut before xs line lines number p rest None is goes = absurd cc
line_told h cut before xs line lines number p rest (Some (head pieces)) is goes = absurd cc
line_told h cut before xs line lines number p rest (Some (trace node from)) is goes = absurd cc
line_told h cut before xs line lines number p rest (Some (entry e)) is goes =
    entry_told h cut before xs line lines number p rest e is (nat_lt (length xs) h.cap) refl goes
line_told h cut before xs line lines number p rest (Some (list n from)) is goes = absurd cc
line_told h cut before xs line lines number p rest (Some (receipt r)) is goes = absurd cc
line_told h cut before xs line lines number p rest (Some (part_head other)) is goes = absurd cc

are_entries : (h : HeadTold) (cut before : Bool) (lines : List (List ℕ)) (xs : List Told) (number : ℕ) (p : PartTold) →
    length xs ≤ h.cap → part_from cut (Some (part h xs before)) number lines ≡ Ok p → AreEntries h cut xs lines p
are_entries h cut before [] xs number p few e =
    let same : part h xs cut ≡ p = cc in
    record {
      entries = [];
      said = refl;
      is = ap (λ es. part h es cut) (append-nil xs) ∙ same;
      few = subst (λ (es : List Told). length es ≤ h.cap) (sym (append-nil xs)) few;
    }
are_entries h cut before (line ∷ lines) xs number p few e =
    line_told h cut before xs line lines number p
    (λ es low e. are_entries h cut before lines es (number + 1) p low e) (line_in line) refl e

-- bytes whose lines are these, of which the last may be cut
record AreRead (cut : Bool) (lines : List (List ℕ)) (p : PartTold) : Type 0 where
  pub said : map line_in lines ≡ map (λ line. Some line) (part_lines p.head p.entries)
  pub allowed : CanBeRead p.head p.entries
  pub ends : p.cut ≡ cut

head_told : (cut : Bool) (line : List ℕ) (lines : List (List ℕ)) (p : PartTold) (o : Option LineTold) → line_in line ≡ o
    → goes_on cut 1 lines (option_and_then (part_with None) o) ≡ Ok p → AreRead cut (line ∷ lines) p
head_told cut line lines p None is e = absurd cc
head_told cut line lines p (Some (head pieces)) is e = absurd cc
head_told cut line lines p (Some (trace node from)) is e = absurd cc
head_told cut line lines p (Some (entry t)) is e = absurd cc
head_told cut line lines p (Some (list n from)) is e = absurd cc
head_told cut line lines p (Some (receipt r)) is e = absurd cc
head_told cut line lines p (Some (part_head h)) is e = begun (is_numbered h) refl e
  where
    begun : (b : Bool) → is_numbered h ≡ b →
        goes_on cut 1 lines (if b then Some (whole_part h []) else None) ≡ Ok p → AreRead cut (line ∷ lines) p
    begun false numbered goes = absurd cc
    begun true numbered goes =
        let so = are_entries h cut false lines [] (1 + 1) p (omega arith) goes in
        subst (λ (q : PartTold). AreRead cut (line ∷ lines) q) so.is (record {
          said = ap (λ x. x ∷ map line_in lines) is ∙ ap (λ ls. Some (part_head h) ∷ ls) so.said;
          allowed = record { numbered = numbered; capped = so.few };
          ends = refl;
        })

are_read : (cut : Bool) (lines : List (List ℕ)) (p : PartTold) → part_from cut None 1 lines ≡ Ok p → AreRead cut lines p
are_read cut [] p e = absurd cc
are_read cut (line ∷ lines) p e = head_told cut line lines p (line_in line) refl e

pub part_read : (bytes : List ℕ) (p : PartTold) → part_in bytes ≡ Ok p → IsPart bytes p
unfolding part_in
part_read bytes p e =
    let so = are_read (is_cut bytes) (ended_in bytes) p e in
    record { said = so.said; allowed = so.allowed; cut = so.ends }

pub is_part : {E : Type 0} (old : Option (List ℕ)) (r : Result Part E) →
    IfOk r (λ p. IfSome old (λ bytes. part_in bytes ≡ Ok (part_of p)))
    → IfOk r (λ p. IfSome old (λ bytes. IsPart bytes (part_of p)))
is_part old (Err fault) h = tt
is_part None (Ok p) h = tt
is_part (Some bytes) (Ok p) h = part_read bytes (part_of p) h

-- ---- what is written

said_back : (lines : List LineTold) → All ReadsBack lines →
    map line_in (map line_text lines) ≡ map (λ line. Some line) lines
said_back [] h = refl
said_back (line ∷ lines) h =
    ap (λ x. x ∷ map line_in (map line_text lines)) (All-head ReadsBack line lines h).read
    ∙ ap (λ ls. Some line ∷ ls) (said_back lines (All-tail ReadsBack line lines h))

-- reads back
pub part_back : (h : HeadTold) (entries : List Told) → All ReadsBack (part_lines h entries) → CanBeRead h entries →
    part_in (part_text h entries) ≡ Ok (whole_part h entries)
part_back h entries reads allowed = read_part (part_text h entries) (whole_part h entries) (record {
  said = ap (map line_in) (all_ended (part_lines h entries) reads) ∙ said_back (part_lines h entries) reads;
  allowed = allowed;
  cut = sym (none_cut (part_lines h entries));
})
