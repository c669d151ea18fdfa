-- Bytes that come in pieces.
use Rattle.std.proofs.Common.{◌≡◌, ℕ, zero, suc, ◌+◌, ◌-◌, ◌^◌, ◌<◌, ◌≤◌, Bool, true, false, List, [], ◌∷◌, ◌++◌, length, take, drop, set, replicate, min, refl, sym, ap, subst, ◌∙◌, inl, inr, arith, append_assoc, append-nil, get_or}
use Rattle.std.specs.Str.{IsUtf8, is_utf8}
use Rattle.std.proofs.lemmas.Bool.{cases_lt}
use borrow.Rule.Slice.PartMut.{put_mid}
use Rattle.std.proofs.lemmas.List.{drop_all, length-append, length-drop, length-take-le, length-set, take_all, take_at, take_min, take_more_set}
use Rattle.std.specs.Prelude.{IsTrue, ◌↔◌, ◌⊎◌}
use Rattle.http_exchange.specs.Checked.{HasChecked}
use Rattle.message_format.specs.Spelling.{max_message}
use Rattle.http_routes.specs.Bodies.{IsKept, most_kept}
use Rattle.http_exchange.specs.Keeping.{HasCome, IsChecked}
use Rattle.http_exchange.specs.declared.kept_body.KeptBody.{KeptBody}
use Rattle.http_routes.specs.declared.table.Keeps.{Keeps}
use Rattle.http_routes.specs.declared.table.Keeps.TheVariants.{Nothing, Text, Whole}
use Rattle.std.proofs.lemmas.Str.{IsUtf8-from_is_utf8, is_utf8-from_IsUtf8, IsCharBoundary-start}
use Rattle.simdutf8.proofs.StepsLemmas.{IsUtf8-append_ascii, IsAscii-replicate}

-- a block is whole with this byte
pub whole_block : (came blocks block : List ℕ) (filled byte : ℕ) → came ≡ blocks ++ take filled block → length block ≡ 64
    → filled ≡ 63 → came ++ byte ∷ [] ≡ (blocks ++ set block filled byte) ++ []
whole_block came blocks block filled byte e len last =
    let all : take (filled + 1) (set block filled byte) ≡ set block filled byte = take_all _ _ (rw (length-set block filled byte, len) (omega arith)) in
    ap (λ t. t ++ byte ∷ []) e ∙ append_assoc blocks (take filled block) (byte ∷ [])
    ∙ ap (λ t. blocks ++ t) (sym (take_more_set block filled byte (omega arith)) ∙ all)
    ∙ sym (append-nil (blocks ++ set block filled byte))

is_utf8-from_not : (bytes : List ℕ) → ¬ (IsUtf8 bytes) → (b : Bool) → is_utf8 bytes ≡ b → b ≡ false
is_utf8-from_not bytes isnt true e = absurd (isnt (IsUtf8-from_is_utf8 bytes e))
is_utf8-from_not bytes isnt false e = refl

-- bytes that begin in the middle of a character are no text
pub no_text : (bytes : List ℕ) → 0 < length bytes → get_or bytes 0 0 ≡ 128 → is_utf8 bytes ≡ false
no_text bytes some first =
    is_utf8-from_not bytes (λ u. let at = (IsCharBoundary-start bytes u).1 some in omega (arith, first, at)) (is_utf8 bytes) refl

-- spaces stand for what was cut off
pub filled_text : (bytes spaces : List ℕ) (end many : ℕ) → IsUtf8 (take end bytes) → spaces ≡ replicate many 32
    → end ≤ length bytes → is_utf8 (put_mid end (length bytes - end) bytes spaces) ≡ true
filled_text bytes spaces end many is e within =
    let none : drop (length bytes - end) (drop end bytes) ≡ [] = drop_all _ (drop end bytes) (rw (length-drop end bytes) (omega arith)) in
    is_utf8-from_IsUtf8 _ (rw (none, append-nil spaces, e) ((IsUtf8-append_ascii (take end bytes) (replicate many 32)
    (IsAscii-replicate many 32 (omega arith))).1 is))

-- the first bytes of two lists, one behind the other
take_two : (n : ℕ) (xs ys : List ℕ) → take n (xs ++ ys) ≡ take n xs ++ take (n - length xs) ys
take_two zero xs ys = ap (λ (n : ℕ). take n ys) (let e : 0 ≡ 0 - length xs = omega arith in e)
take_two (suc n) [] ys = ap (λ (m : ℕ). take m ys) (let e : suc n ≡ suc n - 0 = omega arith in e)
take_two (suc n) (x ∷ xs) ys =
    let e : suc n - suc (length xs) ≡ n - length xs = omega arith in
    ap (λ t. x ∷ t) (take_two n xs ys) ∙ ap (λ (m : ℕ). x ∷ (take n xs ++ take m ys)) (sym e)

-- one more piece is counted
pub count_more : (had piece count sum next : ℕ) → count ≡ min had (max_message + 1) → sum ≡ min (count + piece) (2 ^ 64 - 1)
    → next ≡ min sum (max_message + 1) → next ≡ min (had + piece) (max_message + 1)
count_more had piece count sum next e1 e2 e3 = omega (arith, e1, e2, e3)

pub checked_text : (keeps : Keeps) (most : ℕ) (body : KeptBody) (came : List ℕ) → keeps ≡ Text most → HasChecked body.check came
    → IsChecked keeps body came
checked_text keeps most body came e is = subst (λ k. IsChecked k body came) (sym e) is

pub checked_in : (keeps : Keeps) (most : ℕ) (body : KeptBody) (came : List ℕ) → keeps ≡ Text most → IsChecked keeps body came
    → HasChecked body.check came
checked_in keeps most body came e is = subst (λ k. IsChecked k body came) e is

pub checked_other : (keeps : Keeps) (body : KeptBody) (came : List ℕ) → ((most : ℕ) → keeps ≡ Text most → ⊥) → IsChecked keeps body came
checked_other Nothing body came isnt = tt
checked_other (Text most) body came isnt = absurd (isnt most refl)
checked_other Whole body came isnt = tt

-- one more piece came
pub come_more : (keeps : Keeps) (old new : KeptBody) (came piece front : List ℕ) (room sum : ℕ) → HasCome keeps old came
    → new.keeps ≡ old.keeps → room ≡ most_kept keeps - length came → front ≡ take (min room (length piece)) piece
    → new.read.items ≡ old.read.items ++ front
    → sum ≡ min (old.count + length piece) (2 ^ 64 - 1) → new.count ≡ min sum (max_message + 1)
    → IsChecked keeps new (came ++ piece) → HasCome keeps new (came ++ piece)
come_more keeps old new came piece front room sum had same e1 e2 e3 e4 e5 checked =
    record {
      keeps_so = same ∙ had.keeps_so;
      first = e3 ∙ ap (λ (t : List ℕ). t ++ front) had.first
          ∙ ap (λ (t : List ℕ). take (most_kept keeps) came ++ t) (e2 ∙ take_min room piece ∙ ap (λ (n : ℕ). take n piece) e1)
          ∙ sym (take_two (most_kept keeps) came piece);
      count = count_more (length came) (length piece) old.count sum new.count had.count e4 e5
          ∙ ap (λ (n : ℕ). min n (max_message + 1)) (sym (length-append came piece));
      checked = checked;
    }

decided : (b : Bool) (bytes : List ℕ) → (IsTrue b ↔ IsUtf8 bytes) → b ≡ is_utf8 bytes
decided true bytes same = sym (is_utf8-from_IsUtf8 bytes (same.0 refl))
decided false bytes same =
    sym (is_utf8-from_not bytes (λ u. let no : false ≡ true = same.1 u in absurd (cc)) (is_utf8 bytes) refl)

-- of a longer text what is kept stands for it
pub kept_long : (keeps : Keeps) (longest : ℕ) (body : KeptBody) (came stands result : List ℕ) (is_text : Bool)
    → HasCome keeps body came → body.keeps ≡ Text longest → length came ≤ max_message → longest + 1 < body.count
    → (IsTrue is_text ↔ IsUtf8 came)
    → length stands ≡ length body.read.items → (0 < length body.read.items → is_utf8 stands ≡ is_text)
    → result ≡ stands
    → IsKept keeps came result
kept_long keeps longest body came stands result is_text had e fits more text len same is =
    let k = sym had.keeps_so ∙ e in
    let long : longest + 1 < length came = omega (arith, had.count) in
    subst (λ t. IsKept keeps came t) (sym is) (subst (λ k. IsKept k came stands) (sym k) (by_longest longest k long))
  where
    by_longest : (n : ℕ) → keeps ≡ Text n → n + 1 < length came → IsKept (Text n) came stands
    by_longest n k long =
        let all : length body.read.items ≡ n + 1 =
        ap length (had.first ∙ ap (λ k. take (most_kept k) came) k) ∙ length-take-le (n + 1) came (omega (arith, long)) in
        inr (long, len ∙ all, same (omega (arith, all)) ∙ decided is_text came text)
