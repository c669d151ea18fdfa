-- A field that is read is the field that was written, and what was written is read again.
use Rattle.std.proofs.Common.{◌≡◌, ◌≢◌, ℕ, suc, ◌+◌, ◌^◌, ◌<◌, ◌≤◌, true, ltb, leb, eqb, not, List, [], ◌∷◌, ◌++◌, length, get_or, take, drop, Ok, refl, sym, ap, subst, ◌∙◌, append_assoc, arith, inl, inr}
use Rattle.std.specs.Prelude.{is_some}
use Rattle.std.specs.Int.{Width, w16, w64, byte_len, from_be_bytes, to_be_bytes}
use Rattle.std.proofs.lemmas.Bool.{cases_lt, leb-true, le-leb, ltb-true, lt-ltb, ne_eqb, not-true}
use Rattle.std.proofs.lemmas.List.{take_at, drop_at, take-append-drop, length-append, length-take, get_or-drop, get_or-take, get_or_past}
use Rattle.std.proofs.lemmas.Nat.{be_bytes_2, be_bytes_8, from_be_bytes-to_be_bytes_2, from_be_bytes-to_be_bytes_8}
use Rattle.stamp_register.specs.Keys.{KeyValue}
use Rattle.operations.specs.Operations.{count_of}
use Rattle.message_format.specs.declared.fault.WireFault.TheVariants as faults
use Rattle.message_format.specs.Spelling.{IsCount, IsCountedTerm}
use Rattle.message_format.specs.Reading.{wants, offset, bytes_at, number_at, byte_at, node_at, other_node_at, value_at, term_at}
use Rattle.refusals.proofs.StepLemmas.{bind_ok}
use Rattle.message_format.proofs.Steps.{wants_ok, at_ok}

abbrev pub IsBytes : List ℕ → Type 0
IsBytes bytes = (i : ℕ) → get_or bytes i 0 < 256

pub IsBytes-drop : (n : ℕ) (bytes : List ℕ) → IsBytes bytes → IsBytes (drop n bytes)
IsBytes-drop n bytes h i = rw get_or-drop (h (n + i))

IsBytes-take : (n : ℕ) (bytes : List ℕ) → IsBytes bytes → IsBytes (take n bytes)
IsBytes-take n bytes h i =
    elim (cases_lt i n) [
      | inl lt ↦ rw (get_or-take n bytes i 0 lt) (h i)
      | inr le ↦ rw (get_or_past (take n bytes) i 0 (omega (arith, length-take n bytes))) (omega arith)
    ]

-- what a reader took from the front
pub record Takes (bytes text rest : List ℕ) : Type 0 where
  pub parts : bytes ≡ text ++ rest
  pub rest_fits : IsBytes rest

pub Takes-then : (a x b y c : List ℕ) → Takes a x b → Takes b y c → Takes a (x ++ y) c
Takes-then a x b y c p q = record {
  parts = p.parts ∙ ap (λ (t : List ℕ). x ++ t) q.parts ∙ sym (append_assoc x y c);
  rest_fits = q.rest_fits;
}

-- ---- bytes

pub bytes_take : (all n : ℕ) (left text rest : List ℕ) → IsBytes left → bytes_at all n left ≡ Ok (text, rest) →
    Takes left text rest × (length text ≡ n)
unfolding bytes_at
bytes_take all n left text rest fits e =
    let g = wants_ok (leb n (length left)) (faults.Short (offset all left)) (take n left, drop n left) (text, rest) e in
    let long : n ≤ length left = leb-true _ _ g.0 in
    let len : length (take n left) ≡ n = omega (arith, length-take n left) in
    let taken : Takes left (take n left) (drop n left) = record
    { parts = sym (take-append-drop n left); rest_fits = IsBytes-drop n left fits } in
    subst (λ (p : List ℕ × List ℕ). Takes left p.0 p.1 × (length p.0 ≡ n)) g.1 (taken, len)

pub bytes_again : (all n : ℕ) (text rest : List ℕ) → length text ≡ n → bytes_at all n (text ++ rest) ≡ Ok (text, rest)
unfolding bytes_at
bytes_again all n text rest len =
    let long : leb n (length (text ++ rest)) ≡ true = le-leb _ _ (omega (arith, length-append text rest, len)) in
    rw (long, take_at text rest n len, drop_at text rest n len) refl

pub byte_takes : (all : ℕ) (left : List ℕ) (b : ℕ) (rest : List ℕ) → IsBytes left → byte_at all left ≡ Ok (b, rest) →
    Takes left (b ∷ []) rest × (b < 2 ^ 8)
unfolding byte_at
byte_takes all [] b rest fits e = absurd cc
byte_takes all (x ∷ left) b rest fits e =
    let taken : Takes (x ∷ left) (x ∷ []) left = record { parts = refl; rest_fits = λ i. fits (suc i) } in
    at_ok (λ (p : ℕ × List ℕ). Takes (x ∷ left) (p.0 ∷ []) p.1 × (p.0 < 2 ^ 8)) (x, left) (b, rest) e (taken, fits 0)

pub byte_again : (all b : ℕ) (rest : List ℕ) → byte_at all (b ∷ rest) ≡ Ok (b, rest)
unfolding byte_at
byte_again all b rest = refl

-- ---- numbers

pub record IsWide (w : Width) (limit : ℕ) : Type 0 where
  pub len : (n : ℕ) → length (to_be_bytes w n) ≡ byte_len w
  pub back : (bytes : List ℕ) → length bytes ≡ byte_len w → IsBytes bytes →
      to_be_bytes w (from_be_bytes w bytes) ≡ bytes
  pub again : (n : ℕ) → n < limit → from_be_bytes w (to_be_bytes w n) ≡ n
  pub below : (bytes : List ℕ) → IsBytes bytes → from_be_bytes w bytes < limit

pub wide16 : IsWide w16 (2 ^ 16)
wide16 = record {
  len = λ n. refl;
  back = λ bytes len fits. be_bytes_2 bytes _ len fits refl;
  again = λ n lt. from_be_bytes-to_be_bytes_2 n lt;
  below = λ bytes fits. omega (arith, fits 0, fits 1);
}

pub wide64 : IsWide w64 (2 ^ 64)
wide64 = record {
  len = λ n. refl;
  back = λ bytes len fits. be_bytes_8 bytes _ len fits refl;
  again = λ n lt. from_be_bytes-to_be_bytes_8 n lt;
  below = λ bytes fits. omega (arith, fits 0, fits 1, fits 2, fits 3, fits 4, fits 5, fits 6, fits 7);
}

number_takes : (all : ℕ) (w : Width) (limit : ℕ) (wide : IsWide w limit) (left : List ℕ) (n : ℕ) (rest : List ℕ) →
    IsBytes left → number_at all w left ≡ Ok (n, rest) → Takes left (to_be_bytes w n) rest × (n < limit)
unfolding number_at
number_takes all w limit wide left n rest fits e =
    let g = wants_ok (leb (byte_len w) (length left)) (faults.Short (offset all left))
    (from_be_bytes w (take (byte_len w) left), drop (byte_len w) left) (n, rest) e in
    let long : byte_len w ≤ length left = leb-true _ _ g.0 in
    let n-is : from_be_bytes w (take (byte_len w) left) ≡ n = ap (λ (p : ℕ × List ℕ). p.0) g.1 in
    let rest-is : drop (byte_len w) left ≡ rest = ap (λ (p : ℕ × List ℕ). p.1) g.1 in
    let front : to_be_bytes w n ≡ take (byte_len w) left = rw (← n-is)
    (wide.back (take (byte_len w) left) (omega (arith, length-take (byte_len w) left))
    (IsBytes-take (byte_len w) left fits)) in (
      record {
        parts = rw (front, ← rest-is) (sym (take-append-drop (byte_len w) left));
        rest_fits =
            rw (← rest-is) (IsBytes-drop (byte_len w) left fits);
      },
      rw (← n-is) (wide.below (take (byte_len w) left) (IsBytes-take (byte_len w) left fits)),
    )

number_again : (all : ℕ) (w : Width) (limit : ℕ) (wide : IsWide w limit) (n : ℕ) (rest : List ℕ) → n < limit →
    number_at all w (to_be_bytes w n ++ rest) ≡ Ok (n, rest)
unfolding number_at
number_again all w limit wide n rest lt =
    let len = wide.len n in
    let long : leb (byte_len w) (length (to_be_bytes w n ++ rest)) ≡ true =
    le-leb _ _ (omega (arith, length-append (to_be_bytes w n) rest)) in
    rw (
      long,
      take_at (to_be_bytes w n) rest (byte_len w) len,
      drop_at (to_be_bytes w n) rest (byte_len w) len,
      wide.again n lt,
    ) refl

pub short_takes : (all : ℕ) (left : List ℕ) (n : ℕ) (rest : List ℕ) → IsBytes left →
    number_at all w16 left ≡ Ok (n, rest) → Takes left (to_be_bytes w16 n) rest × (n < 2 ^ 16)
short_takes all left n rest fits e = number_takes all w16 (2 ^ 16) wide16 left n rest fits e

pub short_again : (all n : ℕ) (rest : List ℕ) → n < 2 ^ 16 →
    number_at all w16 (to_be_bytes w16 n ++ rest) ≡ Ok (n, rest)
short_again all n rest lt = number_again all w16 (2 ^ 16) wide16 n rest lt

pub long_takes : (all : ℕ) (left : List ℕ) (n : ℕ) (rest : List ℕ) → IsBytes left →
    number_at all w64 left ≡ Ok (n, rest) → Takes left (to_be_bytes w64 n) rest × (n < 2 ^ 64)
long_takes all left n rest fits e = number_takes all w64 (2 ^ 64) wide64 left n rest fits e

pub long_again : (all n : ℕ) (rest : List ℕ) → n < 2 ^ 64 → number_at all w64 (to_be_bytes w64 n ++ rest) ≡ Ok (n, rest)
long_again all n rest lt = number_again all w64 (2 ^ 64) wide64 n rest lt

-- ---- nodes, terms and values

pub node_takes : (all nodes : ℕ) (left : List ℕ) (n : ℕ) (rest : List ℕ) → IsBytes left →
    node_at all nodes left ≡ Ok (n, rest) → Takes left (n ∷ []) rest × (n < nodes)
unfolding node_at
node_takes all nodes left n rest fits e =
    let b = bind_ok (byte_at all left) (λ node. wants (ltb node.0 nodes) (faults.BadNode (offset all left)) node)
    (n, rest) e in
    let g = wants_ok (ltb b.0.0 nodes) (faults.BadNode (offset all left)) b.0 (n, rest) b.2 in
    let t = byte_takes all left b.0.0 b.0.1 fits b.1 in
    subst (λ (p : ℕ × List ℕ). Takes left (p.0 ∷ []) p.1 × (p.0 < nodes)) g.1 (t.0, ltb-true _ _ g.0)

pub node_again : (all nodes n : ℕ) (rest : List ℕ) → n < nodes → node_at all nodes (n ∷ rest) ≡ Ok (n, rest)
unfolding node_at
node_again all nodes n rest lt = rw (byte_again all n rest, lt-ltb n nodes lt) refl

unlike : (a b : ℕ) → not (eqb a b) ≡ true → a ≢ b
unlike a b h e = grind (arith, not-true (eqb a b) h)

pub other_takes : (all nodes from : ℕ) (left : List ℕ) (n : ℕ) (rest : List ℕ) → IsBytes left →
    other_node_at all nodes from left ≡ Ok (n, rest) → Takes left (n ∷ []) rest × (n < nodes) × (n ≢ from)
unfolding other_node_at
other_takes all nodes from left n rest fits e =
    let b = bind_ok (node_at all nodes left) (λ to. wants (not (eqb to.0 from)) (faults.BadNode (offset all left)) to)
    (n, rest) e in
    let g = wants_ok (not (eqb b.0.0 from)) (faults.BadNode (offset all left)) b.0 (n, rest) b.2 in
    let t = node_takes all nodes left b.0.0 b.0.1 fits b.1 in
    subst (λ (p : ℕ × List ℕ). Takes left (p.0 ∷ []) p.1 × (p.0 < nodes) × (p.0 ≢ from)) g.1
    (t.0, t.1, unlike b.0.0 from g.0)

pub other_again : (all nodes from n : ℕ) (rest : List ℕ) → n < nodes → n ≢ from →
    other_node_at all nodes from (n ∷ rest) ≡ Ok (n, rest)
unfolding other_node_at
other_again all nodes from n rest lt ne = rw (node_again all nodes n rest lt, ne_eqb n from ne) refl

pub term_takes : (all : ℕ) (key : KeyValue) (left : List ℕ) (n : ℕ) (rest : List ℕ) → IsBytes left →
    term_at all key left ≡ Ok (n, rest) → Takes left (n ∷ []) rest × IsCountedTerm key n
unfolding term_at
term_takes all key left n rest fits e =
    let b = bind_ok (byte_at all left) (λ term. wants (is_some (count_of key term.0)) (faults.BadTerm (offset all left))
    term) (n, rest) e in
    let g = wants_ok (is_some (count_of key b.0.0)) (faults.BadTerm (offset all left)) b.0 (n, rest) b.2 in
    let t = byte_takes all left b.0.0 b.0.1 fits b.1 in
    subst (λ (p : ℕ × List ℕ). Takes left (p.0 ∷ []) p.1 × IsCountedTerm key p.0) g.1 (t.0, (g.0, t.1))

pub term_again : (all : ℕ) (key : KeyValue) (n : ℕ) (rest : List ℕ) → IsCountedTerm key n →
    term_at all key (n ∷ rest) ≡ Ok (n, rest)
unfolding term_at
term_again all key n rest h = rw (byte_again all n rest, h.0) refl

pub value_takes : (all : ℕ) (left : List ℕ) (n : ℕ) (rest : List ℕ) → IsBytes left → value_at all left ≡ Ok (n, rest) →
    Takes left (to_be_bytes w64 n) rest × IsCount n
unfolding value_at
value_takes all left n rest fits e =
    let b = bind_ok (number_at all w64 left) (λ value. wants (ltb 0 value.0) (faults.ZeroCell (offset all left)) value)
    (n, rest) e in
    let g = wants_ok (ltb 0 b.0.0) (faults.ZeroCell (offset all left)) b.0 (n, rest) b.2 in
    let t = long_takes all left b.0.0 b.0.1 fits b.1 in
    subst (λ (p : ℕ × List ℕ). Takes left (to_be_bytes w64 p.0) p.1 × IsCount p.0) g.1 (t.0, (ltb-true _ _ g.0, t.1))

pub value_again : (all n : ℕ) (rest : List ℕ) → IsCount n → value_at all (to_be_bytes w64 n ++ rest) ≡ Ok (n, rest)
unfolding value_at
value_again all n rest h = rw (long_again all n rest h.1, lt-ltb 0 n h.0) refl
