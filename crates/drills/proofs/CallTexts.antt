-- The text of a call's line, piece by piece.
use Rattle.std.proofs.Common.{◌≡◌, ℕ, zero, suc, ◌+◌, ◌/◌, ◌%◌, ◌-◌, ◌<◌, ◌≤◌, ◌==◌, Bool, true, false, ◌&&◌, not, List, [], ◌∷◌, ◌++◌, length, take, drop, slice_index, Option, Some, None, refl, sym, ap, ◌∙◌, subst, arith, append_assoc, append-nil, inl, inr, eq-eqb}
use Rattle.std.specs.Prelude.{codes, nat_le, nat_lt, IsUtf8, option_and_then}
use Rattle.std.specs.Io.KnownBytes.{Appends}
use Rattle.std.proofs.lemmas.Bool.{and_parts, cases_eq, leb-true, ltb-true, not-true, cases_Bool}
use Rattle.std.proofs.lemmas.List.{take_at}
use Rattle.std.proofs.lemmas.Str.{IsUtf8-append, IsUtf8-from_ascii, IsUtf8-from_is_utf8}
use Rattle.std.proofs.lemmas.Str.Ascii.{IsAscii-cons, IsAscii-nil}
use Rattle.std.specs.Str.{IsAscii, is_utf8}
use Rattle.hex.proofs.HexLemmas.{IsAscii-encode_with}
use Rattle.hex.specs.Hex.{IsBytes, encode_lower, encode_with, lower_digits}
use Rattle.json.specs.Print.{escape, escape_byte, quoted}
use Rattle.json.proofs.Printed.Strings.{escape_byte_plain}
use Rattle.json.proofs.Printed.Utf8.{IsUtf8-are_ascii, IsUtf8-quoted, are_ascii}
use Rattle.serde_json.specs.Data.{Data}
use Rattle.serde_json.specs.Read.{read}
use Rattle.serde_json.specs.Written.{compact_text, has_float}
use Rattle.node_calls.specs.Told.{delivers, was_emitted, Told}
use Rattle.streams.proofs.Flows.{Appends-then}
use Rattle.streams.proofs.Texts.{text_in-text}
use Rattle.streams.specs.Lines.{text_in}
use Rattle.drills.specs.Drills.{ended, newline}
use Rattle.drills.specs.Fits.{LineFits, ToldFits}
use Rattle.drills.specs.Lines.{LineTold, entry, receipt, ReceiptTold, line_data, line_text}
use Rattle.drills.specs.Reading.{line_in, line_of}
use Rattle.drills.specs.Rows.{ask_data, count_data, reply_data, words_data}
use Rattle.drills.specs.Written.{ReadsBack}
use Rattle.drills.proofs.Backs.{line_back}
use Rattle.drills.proofs.Newlines.{in_compact}
use Rattle.drills.proofs.ReadBack.{entry_read, receipt_read}

-- ---- bytes in hexadecimal

-- the digits of two parts
pub hex_append : (xs ys : List ℕ) → encode_lower (xs ++ ys) ≡ encode_lower xs ++ encode_lower ys
unfolding encode_with
hex_append [] ys = refl
hex_append (x ∷ xs) ys =
    ap (λ l. slice_index lower_digits (x / 16) ∷ slice_index lower_digits (x % 16) ∷ l) (hex_append xs ys)

take_none : (n : ℕ) → take {A = ℕ} n [] ≡ []
take_none zero = refl
take_none (suc n) = refl

take_parts : (done end : ℕ) (bytes : List ℕ) → done ≤ end →
    take end bytes ≡ take done bytes ++ take (end - done) (drop done bytes)
take_parts zero end bytes h =
    let same : end ≡ end - 0 = omega arith in ap (λ n. take n bytes) same
take_parts (suc done) zero bytes h = absurd (omega arith)
take_parts (suc done) (suc end) [] h = sym (take_none (suc end - suc done))
take_parts (suc done) (suc end) (x ∷ bytes) h =
    let less : end - done ≡ suc end - suc done = omega arith in
    ap (λ l. x ∷ l) (take_parts done end bytes (omega arith)
    ∙ ap (λ n. take done bytes ++ take n (drop done bytes)) less)

-- of no byte, and of some more
pub hex_none : (a : Option (List ℕ)) → Appends a a (encode_lower [])
unfolding encode_with
hex_none None = tt
hex_none (Some bytes) = sym (append-nil bytes)

pub hex_more : (a b c : Option (List ℕ)) (bytes : List ℕ) (done end : ℕ) → done ≤ end →
    Appends a b (encode_lower (take done bytes)) → Appends b c (encode_lower (take (end - done) (drop done bytes))) →
    Appends a c (encode_lower (take end bytes))
hex_more a b c bytes done end h before more =
    let all : take end bytes ≡ take done bytes ++ take (end - done) (drop done bytes) = take_parts done end bytes h in
    subst (Appends a c) (sym (ap encode_lower all ∙ hex_append (take done bytes) (take (end - done) (drop done bytes))))
    (Appends-then a b c (encode_lower (take done bytes)) (encode_lower (take (end - done) (drop done bytes))) before more)

abbrev is_plain : ℕ → Bool
is_plain x = nat_le 32 x && (not (x == 34) && not (x == 92))

abbrev plain_below : ℕ → Bool
plain_below zero = true
plain_below (suc n) = is_plain (slice_index lower_digits n) && plain_below n

plain_at : (n : ℕ) → plain_below n ≡ true → (k : ℕ) → k < n → is_plain (slice_index lower_digits k) ≡ true
plain_at zero h k below = absurd (omega arith)
plain_at (suc n) h k below =
    let parts = and_parts (is_plain (slice_index lower_digits n)) (plain_below n) h in
    elim (cases_eq k n) [
      | inl same ↦ rw same parts.0
      | inr other ↦ plain_at n parts.1 k (omega arith)
    ]

unlike : (x y : ℕ) → not (x == y) ≡ true → x ≡ y → ⊥
unlike x y h e =
    let is : (x == y) ≡ true = eq-eqb x y e in
    let other : (x == y) ≡ false = not-true (x == y) h in
    cc

plain_stands : (x : ℕ) → is_plain x ≡ true → escape_byte x ≡ x ∷ []
plain_stands x h =
    let parts = and_parts (nat_le 32 x) (not (x == 34) && not (x == 92)) h in
    let others = and_parts (not (x == 34)) (not (x == 92)) parts.1 in
    escape_byte_plain x (unlike x 34 others.0) (unlike x 92 others.1) (leb-true 32 x parts.0)

digit_stands : (k : ℕ) → k < 16 → escape_byte (slice_index lower_digits k) ≡ slice_index lower_digits k ∷ []
digit_stands k below = plain_stands (slice_index lower_digits k) (plain_at 16 refl k below)

-- they stand in a string as they are
hex_stands : (bytes : List ℕ) → IsBytes bytes → escape (encode_lower bytes) ≡ encode_lower bytes
unfolding encode_with
hex_stands [] h = refl
hex_stands (b ∷ rest) h =
    let small : b < 256 = h 0 in
    let high = digit_stands (b / 16) (omega (arith, small)) in
    let low = digit_stands (b % 16) (omega arith) in
    ap (λ l. l ++ (escape_byte (slice_index lower_digits (b % 16)) ++ escape (encode_lower rest))) high
    ∙ ap (λ l. slice_index lower_digits (b / 16) ∷ (l ++ escape (encode_lower rest))) low
    ∙ ap (λ l. slice_index lower_digits (b / 16) ∷ slice_index lower_digits (b % 16) ∷ l)
    (hex_stands rest (λ i. h (suc i)))

ascii_of : (xs : List ℕ) → are_ascii xs ≡ true → IsAscii xs
ascii_of [] h = IsAscii-nil
ascii_of (x ∷ xs) h =
    let parts = and_parts (nat_lt x 128) (are_ascii xs) h in
    IsAscii-cons x xs (ltb-true x 128 parts.0) (ascii_of xs parts.1)

hex_row : (front bytes : List ℕ) → are_ascii front ≡ true → IsUtf8 (front ++ (encode_lower bytes ++ codes "\"]"))
hex_row front bytes plain =
    IsUtf8-append front (encode_lower bytes ++ codes "\"]") (IsUtf8-are_ascii front plain)
    (IsUtf8-append (encode_lower bytes) (codes "\"]")
    (IsUtf8-from_ascii (encode_lower bytes) (IsAscii-encode_with lower_digits bytes (ascii_of lower_digits refl)))
    (IsUtf8-are_ascii (codes "\"]") refl))

-- ---- the rows of messages

pub deliver_text : (bytes : List ℕ) → IsBytes bytes →
    codes "[\"deliver\",\"" ++ (encode_lower bytes ++ codes "\"]") ≡ compact_text (ask_data (delivers bytes))
unfolding escape_byte
deliver_text bytes h =
    ap (λ l. codes "[\"deliver\",\"" ++ (l ++ codes "\"]")) (sym (hex_stands bytes h))
    ∙ ap (λ l. codes "[\"deliver\",\"" ++ l) (sym (append_assoc (escape (encode_lower bytes)) (34 ∷ []) (93 ∷ [])))

pub message_text : (bytes : List ℕ) → IsBytes bytes →
    codes "[\"message\",\"" ++ (encode_lower bytes ++ codes "\"]") ≡ compact_text (reply_data (was_emitted bytes))
unfolding escape_byte
message_text bytes h =
    ap (λ l. codes "[\"message\",\"" ++ (l ++ codes "\"]")) (sym (hex_stands bytes h))
    ∙ ap (λ l. codes "[\"message\",\"" ++ l) (sym (append_assoc (escape (encode_lower bytes)) (34 ∷ []) (93 ∷ [])))

-- ---- the lines

abbrev Put : (old new : Option (List ℕ)) → Data → Type 0
Put old new d = Appends old new (compact_text d) × IsUtf8 (compact_text d)

abbrev PutLine : (old new : Option (List ℕ)) → LineTold → Type 0
PutLine old new line = Appends old new (line_text line) × ReadsBack line

reads_back : (line : LineTold) → LineFits line → IsUtf8 (line_text line) →
    read (line_text line) ≡ Some (line_data line) → ReadsBack line
reads_back line fits utf8 is = record {
  one = in_compact (line_data line);
  read = ap (λ o. option_and_then line_of (option_and_then read o)) (sym (text_in-text (line_text line) utf8))
      ∙ ap (option_and_then line_of) is ∙ line_back line fits;
}

-- what is written of a line that reads back is UTF-8
not_text : (line : LineTold) → is_utf8 (line_text line) ≡ false → line_in (line_text line) ≡ Some line → ⊥
not_text line other is = let none : line_in (line_text line) ≡ None = rw other refl in cc

pub line_utf8 : (line : LineTold) → ReadsBack line → IsUtf8 (line_text line)
line_utf8 line back = elim (cases_Bool (is_utf8 (line_text line))) [
  | inl is ↦ IsUtf8-from_is_utf8 (line_text line) is
  | inr other ↦ absurd (not_text line other back.read)
]

entry_pieces : (e : Told) → codes "{\"ask\":" ++ (compact_text (ask_data e.ask)
    ++ (codes ",\"reply\":" ++ (compact_text (reply_data e.reply)
    ++ (codes ",\"words\":" ++ (compact_text (words_data e.words) ++ codes "}"))))) ≡ line_text (entry e)
unfolding escape_byte
entry_pieces e = refl

receipt_pieces : (r : ReceiptTold) → codes "{\"ask\":" ++ (compact_text (ask_data r.entry.ask)
    ++ (codes ",\"index\":" ++ (compact_text (count_data r.index)
    ++ (codes ",\"node\":" ++ (compact_text (count_data r.node)
    ++ (codes ",\"reply\":" ++ (compact_text (reply_data r.entry.reply)
    ++ (codes ",\"words\":" ++ (compact_text (words_data r.entry.words) ++ codes "}"))))))))) ≡ line_text (receipt r)
unfolding escape_byte
receipt_pieces r = refl

-- a text, a value, and what comes after them
with_value : (a b c d : Option (List ℕ)) (text rest : List ℕ) (value : Data) → are_ascii text ≡ true →
    Appends a b text → Put b c value → (Appends c d rest × IsUtf8 rest) →
    Appends a d (text ++ (compact_text value ++ rest)) × IsUtf8 (text ++ (compact_text value ++ rest))
with_value a b c d text rest value plain first second third = (
  Appends-then a b d text (compact_text value ++ rest) first
      (Appends-then b c d (compact_text value) rest second.0 third.0),
  IsUtf8-append text (compact_text value ++ rest) (IsUtf8-are_ascii text plain)
      (IsUtf8-append (compact_text value) rest second.1 third.1),
)

-- by a value that is this one
pub put_by : (a b : Option (List ℕ)) (d e : Data) → d ≡ e → has_float e ≡ false → (has_float d ≡ false → Put a b d) →
    Put a b e
put_by a b d e is plain h = subst (Put a b) is (h (ap has_float is ∙ plain))

pub entry_written : (o0 o1 o2 o3 o4 o5 o6 o7 : Option (List ℕ)) (e : Told) → ToldFits e →
    Appends o0 o1 (codes "{\"ask\":") → Put o1 o2 (ask_data e.ask) → Appends o2 o3 (codes ",\"reply\":") →
    Put o3 o4 (reply_data e.reply) → Appends o4 o5 (codes ",\"words\":") → Put o5 o6 (words_data e.words) →
    Appends o6 o7 (codes "}") → PutLine o0 o7 (entry e)
entry_written o0 o1 o2 o3 o4 o5 o6 o7 e fits p1 ask p2 reply p3 words p4 =
    let end = with_value o4 o5 o6 o7 (codes ",\"words\":") (codes "}") (words_data e.words) refl p3 words
    (p4, IsUtf8-are_ascii (codes "}") refl) in
    let mid = with_value o2 o3 o4 o7 (codes ",\"reply\":") _ (reply_data e.reply) refl p2 reply end in
    let all = with_value o0 o1 o2 o7 (codes "{\"ask\":") _ (ask_data e.ask) refl p1 ask mid in (
      subst (Appends o0 o7) (entry_pieces e) all.0,
      reads_back (entry e) fits (subst IsUtf8 (entry_pieces e) all.1) (entry_read e fits),
    )

pub receipt_written : (o0 o1 o2 o3 o4 o5 o6 o7 o8 o9 o10 o11 : Option (List ℕ)) (r : ReceiptTold) → LineFits (receipt r) →
    Appends o0 o1 (codes "{\"ask\":") → Put o1 o2 (ask_data r.entry.ask) → Appends o2 o3 (codes ",\"index\":") →
    Put o3 o4 (count_data r.index) → Appends o4 o5 (codes ",\"node\":") → Put o5 o6 (count_data r.node) →
    Appends o6 o7 (codes ",\"reply\":") → Put o7 o8 (reply_data r.entry.reply) →
    Appends o8 o9 (codes ",\"words\":") → Put o9 o10 (words_data r.entry.words) → Appends o10 o11 (codes "}") →
    PutLine o0 o11 (receipt r)
receipt_written o0 o1 o2 o3 o4 o5 o6 o7 o8 o9 o10 o11 r fits p1 ask p2 index p3 node p4 reply p5 words p6 =
    let end = with_value o8 o9 o10 o11 (codes ",\"words\":") (codes "}") (words_data r.entry.words) refl p5 words
    (p6, IsUtf8-are_ascii (codes "}") refl) in
    let four = with_value o6 o7 o8 o11 (codes ",\"reply\":") _ (reply_data r.entry.reply) refl p4 reply end in
    let three = with_value o4 o5 o6 o11 (codes ",\"node\":") _ (count_data r.node) refl p3 node four in
    let two = with_value o2 o3 o4 o11 (codes ",\"index\":") _ (count_data r.index) refl p2 index three in
    let all = with_value o0 o1 o2 o11 (codes "{\"ask\":") _ (ask_data r.entry.ask) refl p1 ask two in (
      subst (Appends o0 o11) (receipt_pieces r) all.0,
      reads_back (receipt r) fits (subst IsUtf8 (receipt_pieces r) all.1) (receipt_read r fits),
    )

-- the row of a message
pub deliver_row : (o0 o3 : Option (List ℕ)) (bytes : List ℕ) → IsBytes bytes →
    Appends o0 o3 (codes "[\"deliver\",\"" ++ (encode_lower bytes ++ codes "\"]")) → Put o0 o3 (ask_data (delivers bytes))
deliver_row o0 o3 bytes h written = (
  subst (Appends o0 o3) (deliver_text bytes h) written,
  subst IsUtf8 (deliver_text bytes h) (hex_row (codes "[\"deliver\",\"") bytes refl),
)

pub message_row : (o0 o3 : Option (List ℕ)) (bytes : List ℕ) → IsBytes bytes →
    Appends o0 o3 (codes "[\"message\",\"" ++ (encode_lower bytes ++ codes "\"]"))
    → Put o0 o3 (reply_data (was_emitted bytes))
message_row o0 o3 bytes h written = (
  subst (Appends o0 o3) (message_text bytes h) written,
  subst IsUtf8 (message_text bytes h) (hex_row (codes "[\"message\",\"") bytes refl),
)
