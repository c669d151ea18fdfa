-- Lines that are written one after the other.
use Rattle.std.proofs.Common.{◌≡◌, ℕ, suc, ◌+◌, ◌<◌, ◌≤◌, List, [], ◌∷◌, ◌++◌, length, get_or, map, take, flat_map, Bool, true, false, Option, Some, None, Result, Ok, Err, refl, sym, ap, ◌∙◌, arith, append_assoc, append-nil}
use Rattle.std.specs.Prelude.{All, IsOk, OnOk, ◌↔◌, ⊤, slice_get}
use Rattle.std.specs.Io.KnownBytes.{Appends, Keeps}
use Rattle.std.proofs.lemmas.Bool.{true≢false}
use Rattle.std.proofs.lemmas.Grind.{flat_map-append}
use Rattle.std.proofs.lemmas.List.{length-take-le, map-append, map_more}
use Rattle.std.proofs.lemmas.List.Elements.{All-append, All-cons, All-nil}
use Rattle.streams.proofs.Flows.{Appends-then}
use Rattle.node_calls.specs.Told.{Told}
use Rattle.packed_trace.proofs.Stays.{taken_all, taken_one}
use Rattle.drills.specs.declared.fault.DrillFault.{DrillFault}
use Rattle.drills.specs.declared.fault.DrillFault.TheVariants.{WriteFailed}
use Rattle.drills.specs.Drills.{ended, newline, numbered}
use Rattle.drills.specs.Lines.{LineTold, entry, head, HeadTold, part_head}
use Rattle.drills.specs.Written.{ReadsBack, SaysLine}

-- what was written so far is the text of these lines
abbrev pub Holds : Option (List ℕ) → Option (List ℕ) → List LineTold → Type 0
Holds old new lines = Appends old new (flat_map ended lines) × All ReadsBack lines

pub both : (old mid new : Option (List ℕ)) (lines next more : List LineTold) → Holds old mid lines →
    Holds mid new next → more ≡ lines ++ next → Holds old new more
both old mid new lines next more h k e =
    rw e (
      rw (flat_map-append ended lines next) (Appends-then old mid new (flat_map ended lines) (flat_map ended next) h.0
          k.0),
      All-append ReadsBack lines next h.1 k.1,
    )

pub one_line : (old new : Option (List ℕ)) (text : List ℕ) (line : LineTold) → SaysLine text line →
    Appends old new (text ++ newline ∷ []) → Holds old new (line ∷ [])
one_line old new text line says written =
    (rw (append-nil (ended line)) (rw says.0 at written), All-cons ReadsBack line [] says.1 (All-nil ReadsBack))

-- what holds of a result that is one
pub ok_so : {T E P : Type 0} (r : Result T E) → IsOk r → OnOk r P → P
ok_so (Ok x) is h = h
ok_so (Err e) is h = absurd (true≢false (sym is))

pub added_line : (old new : Option (List ℕ)) (line : LineTold) → Appends old new (ended line) × ReadsBack line →
    Holds old new (line ∷ [])
added_line old new line h = (rw (append-nil (ended line)) h.0, All-cons ReadsBack line [] h.1 (All-nil ReadsBack))

-- nothing was written yet
pub none_yet : (old : Option (List ℕ)) → Holds old old []
none_yet None = (tt, All-nil ReadsBack)
none_yet (Some bytes) = (sym (append-nil bytes), All-nil ReadsBack)

-- a write that didn't fail
pub not_failed : (r : Result ⊤ DrillFault) (failed : Bool) → (r ≡ Err WriteFailed) ↔ (failed ≡ true) → r ≡ Ok tt →
    failed ≡ false
not_failed r false h e = refl
not_failed r true h e = cc (h.1 refl, e)

-- one element more of a list
pub mapped : {X T : Type 0} (line : T → LineTold) (tell : X → T) (xs : List X) (i : ℕ) (x : X) → i < length xs →
    x ≡ get_or xs i x
    → map line (map tell (take (i + 1) xs)) ≡ map line (map tell (take i xs)) ++ line (tell x) ∷ []
mapped line tell xs i x h e =
    ap (map line) (map_more tell xs i x h ∙ ap (λ y. map tell (take i xs) ++ tell y ∷ []) (sym e))
    ∙ map-append line (map tell (take i xs)) (tell x ∷ [])

-- one call more
pub called : (calls : List Told) (i : ℕ) (t : Told) → slice_get calls i ≡ Some t →
    map entry (take (i + 1) calls) ≡ map entry (take i calls) ++ entry t ∷ []
called calls i t is =
    let next : i + 1 ≡ suc i = omega arith in
    ap (λ n. map entry (take n calls)) next ∙ ap (map entry) (taken_one calls i t is).0
    ∙ map-append entry (take i calls) (t ∷ [])

-- before the end there is one
pub is_there : (calls : List Told) (i : ℕ) → i < length calls → slice_get calls i ≡ None → ⊥
is_there calls i low none =
    let all = taken_all calls i none in
    let few : i ≤ length calls = omega (arith, low) in
    let counted = ap length all in
    let taken = length-take-le i calls few in
    omega (arith, low, counted, taken)

pub numbered-push : {A : Type 0} (lines : ℕ → A → List LineTold) (n : ℕ) (xs : List A) (x : A) →
    numbered lines n (xs ++ x ∷ []) ≡ numbered lines n xs ++ lines (n + length xs) x
numbered-push {A} lines n [] x =
    let same : n + 0 ≡ n = omega arith in
    append-nil (lines n x) ∙ ap (λ m. lines m x) (sym same)
numbered-push {A} lines n (y ∷ xs) x =
    let same : n + 1 + length xs ≡ n + suc (length xs) = omega arith in
    ap (λ ls. lines n y ++ ls) (numbered-push lines (n + 1) xs x)
    ∙ sym (append_assoc (lines n y) (numbered lines (n + 1) xs) (lines (n + 1 + length xs) x))
    ∙ ap (λ m. numbered lines n (y ∷ xs) ++ lines m x) same

length-told : {X A : Type 0} (tell : X → A) (xs : List X) → length (map tell xs) ≡ length xs
length-told tell [] = refl
length-told tell (x ∷ xs) = ap suc (length-told tell xs)

-- one part more
pub one_part : {X A : Type 0} (lines : ℕ → A → List LineTold) (tell : X → A) (xs : List X) (i : ℕ) (x : X) →
    i < length xs → x ≡ get_or xs i x
    → numbered lines 0 (map tell (take (i + 1) xs)) ≡ numbered lines 0 (map tell (take i xs)) ++ lines i (tell x)
one_part lines tell xs i x h e =
    let few : i ≤ length xs = omega (arith, h) in
    let told : length (map tell (take i xs)) ≡ i = length-told tell (take i xs) ∙ length-take-le i xs few in
    let place : 0 + length (map tell (take i xs)) ≡ i = omega (arith, told) in
    ap (numbered lines 0) (map_more tell xs i x h ∙ ap (λ y. map tell (take i xs) ++ tell y ∷ []) (sym e))
    ∙ numbered-push lines 0 (map tell (take i xs)) (tell x)
    ∙ ap (λ m. numbered lines 0 (map tell (take i xs)) ++ lines m (tell x)) place

-- a flush keeps what was written
pub flushed : (old mid new : Option (List ℕ)) (lines : List LineTold) → Holds old mid lines → Keeps mid new →
    Holds old new lines
flushed None mid new lines h k = (tt, h.1)
flushed (Some xs) None new lines h k = absurd h.0
flushed (Some xs) (Some ys) None lines h k = absurd k
flushed (Some xs) (Some ys) (Some zs) lines h k = (k ∙ h.0, h.1)

-- a drill is its first line, its traces and its lists
pub whole : (start first mid last new : Option (List ℕ)) (text : List ℕ) (traces lists : List LineTold) →
    SaysLine text (head false) → Appends start first (text ++ newline ∷ [])
    → Holds first mid traces → Holds mid last lists → Keeps last new → Holds start new (head false ∷ (traces ++ lists))
whole start first mid last new text traces lists says written behind rest kept =
    let begun = both start first mid (head false ∷ []) traces (head false ∷ traces) (one_line start first text (head false) says written)
    behind refl in
    flushed start last new (head false ∷ (traces ++ lists)) (both start mid last (head false ∷ traces) lists
    (head false ∷ (traces ++ lists)) begun rest refl) kept

-- a part is its head, and its entries
pub whole_part : (start first mid new : Option (List ℕ)) (text : List ℕ) (h : HeadTold) (entries : List LineTold) →
    SaysLine text (part_head h) → Appends start first (text ++ newline ∷ [])
    → Holds first mid entries → Keeps mid new → Holds start new (part_head h ∷ entries)
whole_part start first mid new text h entries says written behind kept =
    flushed start mid new (part_head h ∷ entries) (both start first mid (part_head h ∷ []) entries
    (part_head h ∷ entries) (one_line start first text (part_head h) says written) behind refl) kept
