-- What a path is cut into, and what is read of parts with slashes between them.
use Rattle.std.proofs.Common.{◌≡◌, ℕ, ltb, IsAscii, ◌+◌, ◌<◌, List, [], ◌∷◌, ◌++◌, length, drop, get_or, append-nil, Some, None, Bool, true, false, cond, refl, sym, ap, ◌∙◌, subst, arith, nat_eq, ◌==◌, take_at, drop_at, drop-drop, length-append, IsUtf8, bytes_eq}
use Rattle.std.proofs.lemmas.Bool.Decides.{nat_tests}
use Rattle.std.proofs.lemmas.Str.{IsUtf8-from_ascii, IsUtf8-take, IsUtf8-drop, IsCharBoundary-before_ascii, IsCharBoundary-after_ascii}
use Rattle.std.proofs.lemmas.Str.Ascii.{IsAscii-nil, IsAscii-cons}
use Rattle.std.proofs.lemmas.Bool.{and_parts, ltb-true}
use Rattle.std.specs.Prelude.{◌&&◌, nat_lt}
use Rattle.std.specs.List.{list_all, starts_with, join_with_byte, onto_first}
use Rattle.std.proofs.lemmas.List.Splits.{join_with_byte-slice_split}
use Rattle.matchit.specs.Router.{RouteOf}
use Rattle.matchit.specs.Seek.{has_slash, segment}
use Rattle.http_routes.specs.declared.targets.RouteId.{RouteId}
use Rattle.http_routes.specs.Paths.{slash, segments, is_part}
use Rattle.http_routes.proofs.Found.{Found, before_slash, after_slash, on_start, next_part, last_part}

-- ---- no segment has a slash, and joined they are the path

abbrev pub Slashless : List (List ℕ) → Type 0
Slashless [] = Unit {0}
Slashless (s ∷ rest) = (has_slash s ≡ false) × Slashless rest

abbrev pub joined : List (List ℕ) → List ℕ
joined parts = join_with_byte slash parts

pub no-slash : (x : ℕ) (s : List ℕ) → has_slash (x ∷ s) ≡ false → ((x == 47) ≡ false) × (has_slash s ≡ false)
no-slash x s h = by (x == 47) refl
  where
    by : (v : Bool) → (x == 47) ≡ v → ((x == 47) ≡ false) × (has_slash s ≡ false)
    by true e =
        let never : true ≡ false = rw e at h in
        absurd cc
    by false e = (e, rw e at h)

onto : (b : ℕ) (parts : List (List ℕ)) → (b == 47) ≡ false → Slashless parts → Slashless (onto_first b parts)
onto b [] e h = (rw e refl, tt)
onto b (p ∷ ps) e h = (rw e h.0, h.1)

pub segments-slashless : (path : List ℕ) → Slashless (segments path)
segments-slashless [] = (refl, tt)
segments-slashless (b ∷ q) = by (b == 47) refl (segments-slashless q)
  where
    by : (v : Bool) → (b == 47) ≡ v → Slashless (segments q) → Slashless (segments (b ∷ q))
    by true e h = rw e (refl, h)
    by false e h = rw e (onto b (segments q) e h)

pub segments-join : (path : List ℕ) → joined (segments path) ≡ path
segments-join path = join_with_byte-slice_split 47 path

-- ---- a text behind a part

pub before-at : (p r : List ℕ) → has_slash p ≡ false → before_slash (p ++ 47 ∷ r) ≡ p
before-at [] r h = refl
before-at (x ∷ p) r h =
    let s = no-slash x p h in
    rw s.0 (ap (λ (z : List ℕ). x ∷ z) (before-at p r s.1))

pub after-at : (p r : List ℕ) → has_slash p ≡ false → after_slash (p ++ 47 ∷ r) ≡ r
after-at [] r h = refl
after-at (x ∷ p) r h =
    let s = no-slash x p h in
    rw s.0 (after-at p r s.1)

pub has-at : (p r : List ℕ) → has_slash (p ++ 47 ∷ r) ≡ true
has-at [] r = refl
has-at (x ∷ p) r =
    elim (x == 47) as (λ v. cond v true (has_slash (p ++ 47 ∷ r)) ≡ true) [
      | true ↦ refl
      | false ↦ has-at p r
    ]

pub segment-at : (p r : List ℕ) → has_slash p ≡ false → segment (p ++ 47 ∷ r) ≡ p ++ 47 ∷ []
segment-at [] r h = refl
segment-at (x ∷ p) r h =
    let s = no-slash x p h in
    rw s.0 (ap (λ (z : List ℕ). x ∷ z) (segment-at p r s.1))

-- ---- parts with slashes between them

pub next-more : (f : List ℕ → Found) (p r : List ℕ) → has_slash p ≡ false →
    next_part f (p ++ 47 ∷ r) ≡ cond (is_part p) (f r) None
next-more f p r h = rw (before-at p r h, has-at p r, after-at p r h) (by (is_part p))
  where
    by : (v : Bool) → cond (v && true) (f r) None ≡ cond v (f r) None
    by true = refl
    by false = refl

pub next-none : (f : List ℕ → Found) (p r : List ℕ) → has_slash p ≡ false → f r ≡ None →
    next_part f (p ++ 47 ∷ r) ≡ None
next-none f p r h e = next-more f p r h ∙ rw e (by (is_part p) None)
  where
    by : (v : Bool) (o : Found) → cond v o o ≡ o
    by true o = refl
    by false o = refl

pub next-alone : (f : List ℕ → Found) (p : List ℕ) → has_slash p ≡ false → next_part f p ≡ None
next-alone f p h = rw h (by (nat_lt 0 (length (before_slash p))))
  where
    by : (v : Bool) → cond (v && false) (f (after_slash p)) None ≡ None
    by true = refl
    by false = refl

pub last-alone : (row : RouteOf RouteId) (p : List ℕ) → has_slash p ≡ false →
    last_part row p ≡ cond (is_part p) (Some row) None
last-alone row p h = rw h (by (is_part p))
  where
    by : (v : Bool) → cond (v && true) (Some row) None ≡ cond v (Some row) None
    by true = refl
    by false = refl

pub last-more : (row : RouteOf RouteId) (p r : List ℕ) → last_part row (p ++ 47 ∷ r) ≡ None
last-more row p r = rw (has-at p r) (by (nat_lt 0 (length (p ++ 47 ∷ r))))
  where
    by : (v : Bool) → cond (v && false) (Some row) None ≡ None
    by true = refl
    by false = refl

-- ---- a word, and what follows it

-- nothing, or parts each behind a slash
abbrev pub led : List (List ℕ) → List ℕ
led [] = []
led (p ∷ ps) = 47 ∷ joined (p ∷ ps)

pub joined-led : (word : List ℕ) (parts : List (List ℕ)) → joined (word ∷ parts) ≡ word ++ led parts
joined-led word [] = sym (append-nil word)
joined-led word (p ∷ ps) = refl

start-at : (w path : List ℕ) → starts_with nat_eq path w ≡ true → path ≡ w ++ drop (length w) path
start-at [] path h = refl
start-at (x ∷ w) [] h = absurd (grind arith)
start-at (x ∷ w) (y ∷ path) h = by (x == y) refl (start-at w path)
  where
    by : (v : Bool) → (x == y) ≡ v → (starts_with nat_eq path w ≡ true → path ≡ w ++ drop (length w) path)
        → y ∷ path ≡ (x ∷ w) ++ drop (length (x ∷ w)) (y ∷ path)
    by true e rest =
        let same : y ≡ x = grind (arith, nat_tests) in
        let later : starts_with nat_eq path w ≡ true = rw e at h in
        rw same (ap (λ (z : List ℕ). x ∷ z) (rest later))
    by false e rest =
        let never : false ≡ true = rw e at h in
        absurd cc

module _ (inside : List ℕ → Found) (stops : (x : ℕ) (r : List ℕ) → (x == 47) ≡ false → inside (x ∷ r) ≡ None) where
  word-on : (w word : List ℕ) (parts : List (List ℕ)) (o : Found) → has_slash w ≡ false → has_slash word ≡ false
      → (starts_with nat_eq (word ++ led parts) w ≡ true → o ≡ None)
      → cond (starts_with nat_eq (word ++ led parts) w) (inside (drop (length w) (word ++ led parts))) o ≡ cond
      (bytes_eq word w) (inside (led parts)) o
  word-on [] [] parts o h k n = refl
  word-on [] (x ∷ word) parts o h k n = stops x (word ++ led parts) (no-slash x word k).0 ∙ sym (n refl)
  word-on (y ∷ w) [] [] o h k n = refl
  word-on (y ∷ w) [] (p ∷ ps) o h k n = rw (no-slash y w h).0 refl
  word-on (y ∷ w) (x ∷ word) parts o h k n =
      by (y == x) refl (word-on w word parts o (no-slash y w h).1 (no-slash x word k).1)
    where
      by : (v : Bool) → (y == x) ≡ v
          → ((starts_with nat_eq (word ++ led parts) w ≡ true → o ≡ None) →
          cond (starts_with nat_eq (word ++ led parts) w) (inside (drop (length w) (word ++ led parts))) o ≡ cond
          (bytes_eq word w) (inside (led parts)) o)
          → cond (starts_with nat_eq ((x ∷ word) ++ led parts) (y ∷ w))
          (inside (drop (length (y ∷ w)) ((x ∷ word) ++ led parts))) o ≡ cond (bytes_eq (x ∷ word) (y ∷ w))
          (inside (led parts)) o
      by true e later =
          let f : (x == y) ≡ true = grind (arith, nat_tests) in
          rw (e, f) (later (rw e at n))
      by false e later =
          let f : (x == y) ≡ false = grind (arith, nat_tests) in
          rw (e, f) refl

  -- a word is found by its beginning, where what follows it begins with a slash
  pub word-found : (w : List ℕ) (other : List ℕ → Found) → has_slash w ≡ false → ((r : List ℕ) → other (w ++ r) ≡ None)
      → (word : List ℕ) (parts : List (List ℕ)) → has_slash word ≡ false
      → on_start w inside other (word ++ led parts) ≡ cond (bytes_eq word w) (inside (led parts))
      (other (word ++ led parts))
  word-found w other h others word parts k =
      word-on w word parts (other (word ++ led parts)) h k
      (λ s. ap other (start-at w (word ++ led parts) s) ∙ others (drop (length w) (word ++ led parts)))

-- ---- text

ascii : (bs : List ℕ) → list_all (λ b. ltb b 128) bs ≡ true → IsAscii bs
ascii [] h = IsAscii-nil
ascii (b ∷ bs) h =
    let a = and_parts (ltb b 128) (list_all (λ b. ltb b 128) bs) h in
    IsAscii-cons b bs (ltb-true b 128 a.0) (ascii bs a.1)

pub ascii-text : (bs : List ℕ) → list_all (λ b. ltb b 128) bs ≡ true → IsUtf8 bs
ascii-text bs h = IsUtf8-from_ascii bs (ascii bs h)

pub cut-utf8 : (p r : List ℕ) → IsUtf8 (p ++ 47 ∷ r) → IsUtf8 p × IsUtf8 r
cut-utf8 p r h =
    let bs = p ++ 47 ∷ r in
    let l : length p < length bs = omega (arith, length-append p (47 ∷ r)) in
    let at : drop (length p) bs ≡ 47 ∷ r = drop_at p (47 ∷ r) (length p) refl in
    let here : get_or bs (length p) 0 ≡ 47 = slash-here p r in
    let ascii : get_or bs (length p) 0 < 128 = rw here (omega arith) in
    let after : drop (length p + 1) bs ≡ r = sym (drop-drop 1 (length p) bs) ∙ ap (λ (z : List ℕ). drop 1 z) at in (
      subst IsUtf8 (take_at p (47 ∷ r) (length p) refl) (IsUtf8-take bs (length p) h
          (IsCharBoundary-before_ascii bs (length p) l ascii)),
      subst IsUtf8 after (IsUtf8-drop bs (length p + 1) h (IsCharBoundary-after_ascii bs (length p) h l ascii)),
    )
  where
    slash-here : (p r : List ℕ) → get_or (p ++ 47 ∷ r) (length p) 0 ≡ 47
    slash-here [] r = refl
    slash-here (x ∷ p) r = slash-here p r
