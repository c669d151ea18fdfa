-- What the names of a route take from a path whose parts have slashes between them.
use Rattle.std.proofs.Common.{◌≡◌, ℕ, suc, ◌+◌, ◌-◌, ◌<◌, ◌≤◌, List, [], ◌∷◌, ◌++◌, length, drop, get_or, true, false, refl, sym, ap, ◌∙◌, arith, ◌==◌, ltb, leb, ◌&&◌, take_at, take_all, drop_at, drop-drop, length-append, length-drop}
use Rattle.std.proofs.lemmas.Bool.Decides.{nat_tests}
use Rattle.std.proofs.lemmas.Bool.{and_parts, ltb-true}
use Rattle.std.specs.Prelude.{codes}
use Rattle.std.specs.List.{list_all}
use Rattle.matchit.specs.Level.{IsText}
use Rattle.matchit.specs.Params.{walk, wild_from, wild_stop, part_of, after_token}
use Rattle.matchit.specs.Rows.{param_token}
use Rattle.matchit.specs.Router.{RouteOf}
use Rattle.matchit.specs.Seek.{has_slash, segment}
use Rattle.http_routes.specs.declared.targets.RouteId.{RouteId}
use Rattle.http_routes.specs.Parts.{Taken}
use Rattle.http_routes.proofs.Found.{point_row, spread_row, grant_row, shift_row}
use Rattle.http_routes.proofs.Segments.{segment-at}

-- a literal's codes are bytes
literal : (w : List ℕ) → list_all (λ b. ltb b 256) w ≡ true → IsText w
literal [] h = tt
literal (b ∷ w) h =
    let a = and_parts (ltb b 256) (list_all (λ b. ltb b 256) w) h in (ltb-true b 256 a.0, literal w a.1)

-- over the bytes before a parameter
wild-word : (w rest : List ℕ) (len token at : ℕ) → IsText w → at + length w ≤ len
    → wild_from (w ++ param_token ∷ rest) len token at ≡ (token + length w, at + length w)
wild-word [] rest len token at h l =
    let a : token + 0 ≡ token = omega arith in
    let b : at + 0 ≡ at = omega arith in
    rw (a, b) refl
wild-word (x ∷ w) rest len token at h l =
    let byte : ltb x 256 ≡ true = grind (arith, nat_tests, h.0) in
    let on : ltb at len ≡ true = grind (arith, nat_tests) in
    let a : (token + 1) + length w ≡ token + suc (length w) = omega arith in
    let b : (at + 1) + length w ≡ at + suc (length w) = omega arith in
    let later = wild-word w rest len (token + 1) (at + 1) h.1 (omega arith) in
    rw (byte, on) (rw (a, b) at later)

-- a name, once it is known where its part begins and where it ends
walk-at : (pattern text path : List ℕ) (name : ℕ × ℕ) (names : List (ℕ × ℕ)) (token at t a stop : ℕ)
    → wild_from (drop token pattern) (length path) token at ≡ (t, a) → wild_stop pattern t path a ≡ stop
    → walk pattern text path (name ∷ names) token at ≡ (part_of text name.0 name.1, part_of path a stop) ∷
    walk pattern text path names (after_token t) stop
walk-at pattern text path name names token at t a stop e f = rw (e, f) refl

part-here : (path n more : List ℕ) (a : ℕ) → drop a path ≡ n ++ more → 0 < length (n ++ more) →
    part_of path a (a + length n) ≡ n
part-here path n more a e some =
    let there : length path - a ≡ length (n ++ more) = sym (length-drop a path) ∙ ap length e in
    let first : leb a (a + length n) ≡ true = grind (arith, nat_tests) in
    let last : leb (a + length n) (length path) ≡ true = grind (arith, nat_tests, length-append n more) in
    let size : a + length n - a ≡ length n = omega arith in
    rw (first, last, size, e) (take_at n more (length n) refl)

module _ (pattern text path : List ℕ) (name : ℕ × ℕ) (names : List (ℕ × ℕ)) (token at : ℕ) (w rest n : List ℕ)
    (bytes : IsText w)
    (here : drop token pattern ≡ w ++ param_token ∷ rest) where
  -- a part that a slash follows
  takes-next : (more : List ℕ) → drop at path ≡ w ++ (n ++ 47 ∷ more) → has_slash n ≡ false
      → (ltb (token + length w) (length pattern) && (get_or pattern (token + length w) 0 == param_token) && ltb
      (token + length w + 1) (length pattern)) ≡ true
      → length (segment (drop (token + length w + 1) pattern)) ≡ 1
      → walk pattern text path (name ∷ names) token at ≡ (part_of text name.0 name.1, n) ∷
      walk pattern text path names (after_token (token + length w)) (at + length w + length n)
  takes-next more e h tests suffix =
      let there : length path - at ≡ length (w ++ (n ++ 47 ∷ more)) = sym (length-drop at path) ∙ ap length e in
      let fits : at + length w ≤ length path = omega (
        arith,
        length-append w (n ++ 47 ∷ more),
        length-append n (47 ∷ more),
      ) in
      let begins : drop (at + length w) path ≡ n ++ 47 ∷ more =
      sym (drop-drop (length w) at path) ∙ ap (drop (length w)) e ∙ drop_at w (n ++ 47 ∷ more) (length w) refl in
      let from : wild_from (drop token pattern) (length path) token at ≡ (token + length w, at + length w) =
      rw here (wild-word w rest (length path) token at bytes fits) in
      let long : length (segment (drop (at + length w) path)) ≡ length n + 1 =
      ap (λ (z : List ℕ). length (segment z)) begins ∙ ap length (segment-at n more h) ∙ length-append n (47 ∷ []) in
      let size : at + length w + (length n + 1) - 1 ≡ at + length w + length n = omega arith in
      let stop : wild_stop pattern (token + length w) path (at + length w) ≡ at + length w + length n =
      rw (tests, long, suffix) size in
      let part : part_of path (at + length w) (at + length w + length n) ≡ n =
      part-here path n (47 ∷ more) (at + length w) begins (omega (arith, length-append n (47 ∷ more))) in
      walk-at pattern text path name names token at (token + length w) (at + length w) (at + length w + length n) from
      stop
      ∙ rw part refl

  -- a part that ends the path
  takes-last : drop at path ≡ w ++ n → 0 < length w
      → (ltb (token + length w) (length pattern) && (get_or pattern (token + length w) 0 == param_token) && ltb
      (token + length w + 1) (length pattern)) ≡ false
      → walk pattern text path (name ∷ []) token at ≡ (part_of text name.0 name.1, n) ∷ []
  takes-last e some tests =
      let long : length path - at ≡ length (w ++ n) = sym (length-drop at path) ∙ ap length e in
      let fits : at + length w ≤ length path = omega (arith, length-append w n) in
      let begins : drop (at + length w) path ≡ n =
      sym (drop-drop (length w) at path) ∙ ap (drop (length w)) e ∙ drop_at w n (length w) refl in
      let from : wild_from (drop token pattern) (length path) token at ≡ (token + length w, at + length w) =
      rw here (wild-word w rest (length path) token at bytes fits) in
      let stop : wild_stop pattern (token + length w) path (at + length w) ≡ length path = rw tests refl in
      let first : leb (at + length w) (length path) ≡ true = grind (arith, nat_tests) in
      let last : leb (length path) (length path) ≡ true = grind (arith, nat_tests) in
      let there : length path - (at + length w) ≡ length n = sym (length-drop (at + length w) path) ∙
      ap length begins in
      let part : part_of path (at + length w) (length path) ≡ n =
      rw (first, last, begins) (take_all (length path - (at + length w)) n (omega arith)) in
      walk-at pattern text path name [] token at (token + length w) (at + length w) (length path) from stop ∙
      rw part refl

abbrev pub taken : RouteOf RouteId → List ℕ → Taken
taken row path = walk row.pattern row.text path row.names 0 0

-- what follows a part
past : (path n more : List ℕ) (a : ℕ) → drop a path ≡ n ++ more → drop (a + length n) path ≡ more
past path n more a e = sym (drop-drop (length n) a path) ∙ ap (drop (length n)) e ∙ drop_at n more (length n) refl

pub taken-point : (n : List ℕ) → taken point_row (codes "/fail/" ++ n) ≡ (codes "name", n) ∷ []
unfolding point_row
taken-point n =
    takes-last point_row.pattern point_row.text (codes "/fail/" ++ n) (7, 11) [] 0 0 (codes "/fail/") [] n
    (literal (codes "/fail/") refl) refl refl (omega arith) refl

pub taken-spread : (n : List ℕ) → taken spread_row (codes "/spread/" ++ n) ≡ (codes "name", n) ∷ []
unfolding spread_row
taken-spread n =
    takes-last spread_row.pattern spread_row.text (codes "/spread/" ++ n) (9, 13) [] 0 0 (codes "/spread/") [] n
    (literal (codes "/spread/") refl) refl refl (omega arith) refl

pub taken-grant : (n t a : List ℕ) → has_slash n ≡ false → has_slash t ≡ false
    → taken grant_row (codes "/grant/" ++ (n ++ 47 ∷ (t ++ 47 ∷ a))) ≡ (codes "name", n) ∷ (codes "term", t) ∷
    (codes "amount", a) ∷ []
unfolding grant_row
taken-grant n t a hn ht =
    let path = codes "/grant/" ++ (n ++ 47 ∷ (t ++ 47 ∷ a)) in
    let row = grant_row in
    let after-n : drop (7 + length n) path ≡ 47 ∷ (t ++ 47 ∷ a) = past path n (47 ∷ (t ++ 47 ∷ a)) 7 refl in
    let after-t : drop (7 + length n + 1 + length t) path ≡ 47 ∷ a =
    past path t (47 ∷ a) (7 + length n + 1) (past path (47 ∷ []) (t ++ 47 ∷ a) (7 + length n) after-n) in
    let name =
    takes-next row.pattern row.text path (8, 12) ((15, 19) ∷ (22, 28) ∷ []) 0 0 (codes "/grant/") (drop 8 row.pattern) n
    (literal (codes "/grant/") refl) refl (t ++ 47 ∷ a) refl hn refl refl in
    let term =
    takes-next row.pattern row.text path (15, 19) ((22, 28) ∷ []) 8 (7 + length n) (codes "/") (drop 10 row.pattern) t
    (literal (codes "/") refl) refl a after-n ht refl refl in
    let amount =
    takes-last row.pattern row.text path (22, 28) [] 10 (7 + length n + 1 + length t) (codes "/") [] a
    (literal (codes "/") refl) refl after-t (omega arith) refl in
    name ∙ ap (λ (z : Taken). (codes "name", n) ∷ z) (term ∙ ap (λ (z : Taken). (codes "term", t) ∷ z) amount)

pub taken-shift : (n t o a : List ℕ) → has_slash n ≡ false → has_slash t ≡ false → has_slash o ≡ false
    → taken shift_row (codes "/shift/" ++ (n ++ 47 ∷ (t ++ 47 ∷ (o ++ 47 ∷ a)))) ≡ (codes "name", n) ∷
    (codes "term", t) ∷ (codes "to", o) ∷ (codes "amount", a) ∷ []
unfolding shift_row
taken-shift n t o a hn ht ho =
    let path = codes "/shift/" ++ (n ++ 47 ∷ (t ++ 47 ∷ (o ++ 47 ∷ a))) in
    let row = shift_row in
    let at-t = 7 + length n + 1 in
    let at-o = at-t + length t + 1 in
    let after-n : drop (7 + length n) path ≡ 47 ∷ (t ++ 47 ∷ (o ++ 47 ∷ a)) =
    past path n (47 ∷ (t ++ 47 ∷ (o ++ 47 ∷ a))) 7 refl in
    let after-t : drop (at-t + length t) path ≡ 47 ∷ (o ++ 47 ∷ a) =
    past path t (47 ∷ (o ++ 47 ∷ a)) at-t (past path (47 ∷ []) (t ++ 47 ∷ (o ++ 47 ∷ a)) (7 + length n) after-n) in
    let after-o : drop (at-o + length o) path ≡ 47 ∷ a =
    past path o (47 ∷ a) at-o (past path (47 ∷ []) (o ++ 47 ∷ a) (at-t + length t) after-t) in
    let name =
    takes-next row.pattern row.text path (8, 12) ((15, 19) ∷ (22, 24) ∷ (27, 33) ∷ []) 0 0 (codes "/shift/")
    (drop 8 row.pattern) n
    (literal (codes "/shift/") refl) refl (t ++ 47 ∷ (o ++ 47 ∷ a)) refl hn refl refl in
    let term =
    takes-next row.pattern row.text path (15, 19) ((22, 24) ∷ (27, 33) ∷ []) 8 (7 + length n) (codes "/")
    (drop 10 row.pattern) t
    (literal (codes "/") refl) refl (o ++ 47 ∷ a) after-n ht refl refl in
    let to =
    takes-next row.pattern row.text path (22, 24) ((27, 33) ∷ []) 10 (at-t + length t) (codes "/") (drop 12 row.pattern)
    o
    (literal (codes "/") refl) refl a after-t ho refl refl in
    let amount =
    takes-last row.pattern row.text path (27, 33) [] 12 (at-o + length o) (codes "/") [] a (literal (codes "/") refl)
    refl after-o (omega arith) refl in
    name
    ∙ ap (λ (z : Taken). (codes "name", n) ∷ z)
    (term ∙ ap (λ (z : Taken). (codes "term", t) ∷ z) (to ∙ ap (λ (z : Taken). (codes "to", o) ∷ z) amount))
