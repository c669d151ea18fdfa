-- The entries of a message follow from the operations that it tells: each begins with its setting.
use Rattle.std.proofs.Common.{◌≡◌, ◌≢◌, ℕ, ◌≤◌, ◌^◌, ◌==◌, Bool, true, false, List, [], ◌∷◌, ◌++◌, Ok, refl, sym, ap, ◌∙◌, append_assoc}
use Rattle.std.specs.List.{flat_map, AllByRecursion}
use Rattle.std.proofs.lemmas.Bool.{eq-eqb, ne_eqb}
use Rattle.std.proofs.lemmas.List.Concat.{flat_map-cons}
use Rattle.stamp_register.specs.Keys.{KeyValue}
use Rattle.operations.specs.Operations.{Cell, Hits, Execs, Shifts, Operation, Set, Count}
use Rattle.message_format.specs.Messages.{EntryValue, MessageValue, MovesToOthers, TellSame, hits_in, execs_in, shifts_in, grants_in, operations_of}
use Rattle.message_format.specs.Spelling.{IsShift, IsEntry, IsMessage, message_bytes}
use Rattle.message_format.specs.Reading.{message_at}
use Rattle.message_format.proofs.Fields.{IsBytes}
use Rattle.message_format.proofs.MessageLemmas.{message_takes}

-- what some last operations tell: cells of an entry whose setting stands before them, and whole entries
record Last : Type 0 where
  pub hits : List (ℕ × ℕ)
  pub execs : List (ℕ × ℕ × ℕ)
  pub shifts : List (ℕ × ℕ × ℕ × ℕ)
  pub grants : List (ℕ × ℕ × ℕ)
  pub entries : List EntryValue

-- what a node moves to itself is its grant
abbrev before_shift : Bool → ℕ → ℕ → ℕ → ℕ → Last → Last
before_shift true term from to number l = record l { grants = (term, from, number) ∷ l.grants }
before_shift false term from to number l = record l { shifts = (term, from, to, number) ∷ l.shifts }

abbrev before_cell : Cell → ℕ → Last → Last
before_cell (Hits name node) number l = record l { hits = (node, number) ∷ l.hits }
before_cell (Execs name key term node) number l = record l { execs = (term, node, number) ∷ l.execs }
before_cell (Shifts name key term from to) number l = before_shift (to == from) term from to number l

abbrev before : Operation → Last → Last
before (Set name key) l = record {
  hits = [];
  execs = [];
  shifts = [];
  grants = [];
  entries = record { name = name; key = key; hits = l.hits; execs = l.execs; shifts = l.shifts; grants = l.grants } ∷
      l.entries;
}
before (Count cell number) l = before_cell cell number l

abbrev entries_in : List Operation → Last
entries_in [] = record { hits = []; execs = []; shifts = []; grants = []; entries = [] }
entries_in (op ∷ ops) = before op (entries_in ops)

-- ---- an entry

own : (node : ℕ) → (node == node) ≡ true
own node = eq-eqb node node refl

others : (from to : ℕ) → to ≢ from → (to == from) ≡ false
others from to apart = ne_eqb to from apart

module _ (name : List ℕ) (key : KeyValue) (rest : List Operation) (es : List EntryValue) where
  with_grants : entries_in rest ≡ record { hits = []; execs = []; shifts = []; grants = []; entries = es } →
      (cells : List (ℕ × ℕ × ℕ))
      → entries_in (grants_in name key cells ++ rest) ≡ record
      { hits = []; execs = []; shifts = []; grants = cells; entries = es }
  with_grants h [] = h
  with_grants h (c ∷ cells) =
      ap (before (Count (Shifts name key c.0 c.1 c.1) c.2)) (with_grants h cells)
      ∙ ap (λ t. before_shift t c.0 c.1 c.1 c.2 (record {
        hits = [];
        execs = [];
        shifts = [];
        grants = cells;
        entries =
            es;
      })) (own c.1)

  with_shifts : (grants : List (ℕ × ℕ × ℕ)) → entries_in rest ≡ record
      { hits = []; execs = []; shifts = []; grants = grants; entries = es } → (cells : List (ℕ × ℕ × ℕ × ℕ)) →
      AllByRecursion (λ c. c.2 ≢ c.1) cells
      → entries_in (shifts_in name key cells ++ rest) ≡ record
      { hits = []; execs = []; shifts = cells; grants = grants; entries = es }
  with_shifts grants h [] apart = h
  with_shifts grants h (c ∷ cells) apart =
      ap (before (Count (Shifts name key c.0 c.1 c.2) c.3)) (with_shifts grants h cells apart.1)
      ∙ ap (λ t. before_shift t c.0 c.1 c.2 c.3 (record {
        hits = [];
        execs = [];
        shifts = cells;
        grants = grants;
        entries = es;
      })) (others c.1 c.2 apart.0)

  with_execs : (shifts : List (ℕ × ℕ × ℕ × ℕ)) (grants : List (ℕ × ℕ × ℕ)) →
      entries_in rest ≡ record { hits = []; execs = []; shifts = shifts; grants = grants; entries = es } →
      (cells : List (ℕ × ℕ × ℕ))
      → entries_in (execs_in name key cells ++ rest) ≡ record
      { hits = []; execs = cells; shifts = shifts; grants = grants; entries = es }
  with_execs shifts grants h [] = h
  with_execs shifts grants h (c ∷ cells) = ap (before (Count (Execs name key c.0 c.1) c.2))
      (with_execs shifts grants h cells)

  with_hits : (execs : List (ℕ × ℕ × ℕ)) (shifts : List (ℕ × ℕ × ℕ × ℕ)) (grants : List (ℕ × ℕ × ℕ)) →
      entries_in rest ≡ record { hits = []; execs = execs; shifts = shifts; grants = grants; entries = es } →
      (cells : List (ℕ × ℕ))
      → entries_in (hits_in name cells ++ rest) ≡ record {
        hits = cells;
        execs = execs;
        shifts = shifts;
        grants =
            grants;
        entries = es;
      }
  with_hits execs shifts grants h [] = h
  with_hits execs shifts grants h (c ∷ cells) = ap (before (Count (Hits name c.0) c.1))
      (with_hits execs shifts grants h cells)

with_entry : (e : EntryValue) → AllByRecursion (λ c. c.2 ≢ c.1) e.shifts →
    (rest : List Operation) (es : List EntryValue) → entries_in rest ≡ record
    { hits = []; execs = []; shifts = []; grants = []; entries = es }
    → entries_in (operations_of e ++ rest) ≡ record {
      hits = [];
      execs = [];
      shifts = [];
      grants = [];
      entries = e ∷
          es;
    }
with_entry e apart rest es h =
    let hits = hits_in e.name e.hits in
    let execs = execs_in e.name e.key e.execs in
    let shifts = shifts_in e.name e.key e.shifts in
    let grants = grants_in e.name e.key e.grants in
    let regrouped : (hits ++ (execs ++ (shifts ++ grants))) ++ rest ≡ hits ++ (execs ++ (shifts ++ (grants ++ rest))) =
    append_assoc hits (execs ++ (shifts ++ grants)) rest ∙ ap (λ ops. hits ++ ops)
    (append_assoc execs (shifts ++ grants) rest ∙ ap (λ ops. execs ++ ops) (append_assoc shifts grants rest)) in
    let granted = with_grants e.name e.key rest es h e.grants in
    let moved = with_shifts e.name e.key (grants ++ rest) es e.grants granted e.shifts apart in
    let executed = with_execs e.name e.key (shifts ++ (grants ++ rest)) es e.shifts e.grants moved e.execs in
    let cells = with_hits e.name e.key (execs ++ (shifts ++ (grants ++ rest))) es e.execs e.shifts e.grants executed
    e.hits in
    ap (λ ops. before (Set e.name e.key) (entries_in ops)) regrouped ∙ ap (before (Set e.name e.key)) cells

-- ---- a message

abbrev MoveToOthers : List EntryValue → Type 0
MoveToOthers es = AllByRecursion (λ e. AllByRecursion (λ c. c.2 ≢ c.1) e.shifts) es

entries_again : (es : List EntryValue) → MoveToOthers es → entries_in (flat_map operations_of es) ≡ record
    { hits = []; execs = []; shifts = []; grants = []; entries = es }
entries_again [] apart = refl
entries_again (e ∷ es) apart = ap entries_in (flat_map-cons operations_of e es) ∙
    with_entry e apart.0 (flat_map operations_of es) es (entries_again es apart.1)

same_entries : (es fs : List EntryValue) → MoveToOthers es → MoveToOthers fs →
    flat_map operations_of es ≡ flat_map operations_of fs → es ≡ fs
same_entries es fs a b h = ap (λ (l : Last). l.entries) (sym (entries_again es a) ∙ ap entries_in h ∙
    entries_again fs b)

pub same_message : (m n : MessageValue) → MovesToOthers m → MovesToOthers n → TellSame m n → m ≡ n
same_message m n a b h = λ i. record {
  from = h.from i;
  to = h.to i;
  base = h.base i;
  upto = h.upto i;
  ack = h.ack i;
  entries = same_entries m.entries n.entries a b h.operations i;
}

-- shifts of a message that can be written go from one node to another
shifts_move : (nodes : ℕ) (key : KeyValue) (cells : List (ℕ × ℕ × ℕ × ℕ)) → AllByRecursion (IsShift nodes key) cells →
    AllByRecursion (λ c. c.2 ≢ c.1) cells
shifts_move nodes key [] h = tt
shifts_move nodes key (c ∷ cells) h = (h.0.3, shifts_move nodes key cells h.1)

entries_move : (nodes : ℕ) (es : List EntryValue) → AllByRecursion (IsEntry nodes) es → MoveToOthers es
entries_move nodes [] h = tt
entries_move nodes (e ∷ es) h = (shifts_move nodes e.key e.shifts h.0.shifts, entries_move nodes es h.1)

pub message_moves : (nodes : ℕ) (m : MessageValue) → IsMessage nodes m → MovesToOthers m
message_moves nodes m h = entries_move nodes m.entries h.entries.each

pub same_bytes : (nodes : ℕ) (a b : List ℕ) (m n : MessageValue) → nodes ≤ 2 ^ 8 → IsBytes a → IsBytes b
    → message_at nodes a ≡ Ok m → message_at nodes b ≡ Ok n → TellSame m n → a ≡ b
same_bytes nodes a b m n few fits others d e h =
    let first = message_takes nodes a m few fits d in
    let second = message_takes nodes b n few others e in
    first.1 ∙ ap message_bytes (same_message m n (message_moves nodes m first.0) (message_moves nodes n second.0) h) ∙
    sym second.1
