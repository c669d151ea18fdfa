-- The router's walk over rows, a group of rows at a time.
use Rattle.std.proofs.Common.{◌≡◌, ◌≢◌, ℕ, zero, suc, ◌-◌, ◌<◌, List, [], ◌∷◌, ◌++◌, length, drop, append-nil, length-drop, Option, Some, None, Bool, true, false, cond, refl, ap, ◌∙◌, arith, nat_eq, ◌==◌}
use Rattle.std.proofs.lemmas.Bool.Decides.{nat_tests}
use Rattle.std.proofs.lemmas.Bool.{and_parts, ltb-true}
use Rattle.std.proofs.Math.Seq.{drop-length}
use Rattle.std.specs.List.{starts_with}
use Rattle.matchit.specs.Rows.{RowsOf, param_token, catch_all_token}
use Rattle.matchit.specs.Seek.{own, step, or_else, seek, first, param_step, has_slash}
use Rattle.matchit.specs.Seek.{segment, cuts}
use Rattle.std.specs.List.{ends_with}
use Rattle.std.specs.Prelude.{ltb, nat_lt, ◌&&◌}
use Rattle.http_routes.proofs.Found.{before_slash, after_slash, has_part}
use Rattle.matchit.proofs.CountLemmas.{some-segment}

longer : (b y : ℕ) (s : List ℕ) → ends_with nat_eq (b ∷ y ∷ s) (47 ∷ []) ≡ ends_with nat_eq (y ∷ s) (47 ∷ [])
longer b y s =
    let m : length (b ∷ y ∷ s) - 1 ≡ suc (length (y ∷ s) - 1) = omega arith in
    rw m refl

alone : (y : ℕ) (s : List ℕ) → (y == 47) ≡ false → ends_with nat_eq (y ∷ s) (47 ∷ []) ≡
    (ltb 1 (length (y ∷ s)) && ends_with nat_eq (y ∷ s) (47 ∷ []))
alone y [] e =
    let f : (47 == y) ≡ false = grind (arith, nat_tests) in
    rw f refl
alone y (x ∷ s) e =
    let l : ltb 1 (length (y ∷ x ∷ s)) ≡ true = grind (arith, nat_tests) in
    rw l refl

-- a segment of more than one byte ends with a slash where there is one
ends-slash : (b : ℕ) (q : List ℕ) → (ltb 1 (length (b ∷ segment q)) && ends_with nat_eq (b ∷ segment q) (47 ∷ [])) ≡
    has_slash q
ends-slash b [] = refl
ends-slash b (y ∷ r) = by (y == 47) refl (ends-slash y r)
  where
    by : (v : Bool) → (y == 47) ≡ v → (ltb 1 (length (y ∷ segment r)) && ends_with nat_eq (y ∷ segment r) (47 ∷ [])) ≡
        has_slash r → (ltb 1 (length (b ∷ segment (y ∷ r))) && ends_with nat_eq (b ∷ segment (y ∷ r)) (47 ∷ [])) ≡
        has_slash (y ∷ r)
    by true e later =
        let f : (47 == y) ≡ true = grind (arith, nat_tests) in
        rw (e, f) refl
    by false e later =
        let l : ltb 1 (length (b ∷ y ∷ segment r)) ≡ true = grind (arith, nat_tests) in
        rw (e, l, longer b y (segment r)) (alone y (segment r) e ∙ later)

some : (r : List ℕ) → has_slash r ≡ true → 0 < length (segment r)
some [] h = absurd (grind arith)
some (x ∷ r) h = some-segment x r

-- what stands before the slash gone, the slash and what follows it are left
past-segment : (q : List ℕ) → has_slash q ≡ true → drop (length (segment q) - 1) q ≡ 47 ∷ after_slash q
past-segment [] h = absurd (grind arith)
past-segment (y ∷ r) h = by (y == 47) refl (past-segment r)
  where
    by : (v : Bool) → (y == 47) ≡ v → (has_slash r ≡ true → drop (length (segment r) - 1) r ≡ 47 ∷ after_slash r) →
        drop (length (segment (y ∷ r)) - 1) (y ∷ r) ≡ 47 ∷ after_slash (y ∷ r)
    by true e past =
        let f : y ≡ 47 = grind (arith, nat_tests) in
        rw (e, f) refl
    by false e past =
        let later : has_slash r ≡ true = rw e at h in
        let n = some r later in
        let m : length (y ∷ segment r) - 1 ≡ suc (length (segment r) - 1) = omega arith in
        rw (e, m) (past later)

-- whether a part that is followed by a slash has one
cuts-part : (p : List ℕ) → cuts (segment p) (47 ∷ []) ≡ has_part p
cuts-part [] = refl
cuts-part (b ∷ q) = by (b == 47) refl
  where
    by : (v : Bool) → (b == 47) ≡ v → cuts (segment (b ∷ q)) (47 ∷ []) ≡ has_part (b ∷ q)
    by true e = rw e refl
    by false e =
        let n : nat_lt 0 (length (b ∷ before_slash q)) ≡ true = grind (arith, nat_tests) in
        rw (e, n) (ends-slash b q)

module _ {K : Type 0} where
  -- each row with these tokens in front
  abbrev pub behind : List ℕ → RowsOf K → RowsOf K
  behind w [] = []
  behind w ((t, k) ∷ rest) = (w ++ t, k) ∷ behind w rest

  pub behind-nil : (r : RowsOf K) → behind [] r ≡ r
  behind-nil [] = refl
  behind-nil ((t, k) ∷ r) = ap (λ x. (t, k) ∷ x) (behind-nil r)

  pub own-behind : (x : ℕ) (w : List ℕ) (r s : RowsOf K) → own (behind (x ∷ w) r ++ s) ≡ own s
  own-behind x w [] s = refl
  own-behind x w ((t, k) ∷ r) s = own-behind x w r s

  pub step-hit : (b : ℕ) (w : List ℕ) (r s : RowsOf K) → step b (behind (b ∷ w) r ++ s) ≡ behind w r ++ step b s
  step-hit b w [] s = refl
  step-hit b w ((t, k) ∷ r) s =
      let e : (b == b) ≡ true = grind (arith, nat_tests) in
      rw e (ap (λ x. (w ++ t, k) ∷ x) (step-hit b w r s))

  pub step-miss : (b x : ℕ) (w : List ℕ) (r s : RowsOf K) → x ≢ b → step b (behind (x ∷ w) r ++ s) ≡ step b s
  step-miss b x w [] s n = refl
  step-miss b x w ((t, k) ∷ r) s n =
      let e : (x == b) ≡ false = grind (arith, nat_tests) in
      rw e (step-miss b x w r s n)

  pub or_else-none : (a : Option K) → or_else a None ≡ a
  or_else-none None = refl
  or_else-none (Some k) = refl

  pub param_step-empty : (p : List ℕ) → (param_step {K = K} [] p).1 ≡ []
  unfolding param_step
  param_step-empty p =
      elim (has_slash p) as (λ v. (cond {A = ℕ × RowsOf K} v (0, []) (length p, [])).1 ≡ []) [
        | true ↦ refl
        | false ↦ refl
      ]

  pub seek-empty : (k : ℕ) (p : List ℕ) → seek {K = K} k [] p ≡ None
  unfolding seek
  seek-empty k [] = refl
  seek-empty (suc k) (b ∷ p) = seek-empty k p
  seek-empty zero (b ∷ p) = simp (
    seek-empty 0 p,
    param_step-empty (b ∷ p),
    seek-empty (((param_step {K = K} [] (b ∷ p)).0) - 1) p,
  )

  pub seek-drop : (k : ℕ) (r : RowsOf K) (p : List ℕ) → seek k r p ≡ seek 0 r (drop k p)
  unfolding seek
  seek-drop zero r p = refl
  seek-drop (suc k) r [] = refl
  seek-drop (suc k) r (b ∷ p) = seek-drop k r p

  -- rows none of which begins with a part that is left open
  pub seek-plain : (r : RowsOf K) (y : ℕ) (p : List ℕ) → step param_token r ≡ [] → step catch_all_token r ≡ [] →
      seek 0 r (y ∷ p) ≡ seek 0 (step y r) p
  unfolding seek
  seek-plain r y p h1 h2 =
      simp (h1, h2, param_step-empty (y ∷ p), seek-empty ((param_step {K = K} [] (y ∷ p)).0 - 1) p, or_else-none)

  -- no row begins with all of this word, or leaves a part open within it
  abbrev pub none_along : List ℕ → RowsOf K → Bool
  none_along [] r = length r == 0
  none_along (x ∷ w) r = nat_lt x param_token
      && (length (step param_token r) == 0
      && (length (step catch_all_token r) == 0 && none_along w (step x r)))

  none-left : (r : RowsOf K) → (length r == 0) ≡ true → r ≡ []
  none-left [] h = refl
  none-left (x ∷ r) h = absurd (grind (arith, nat_tests))

  -- rows that begin with a word, and others, none of which goes on along it
  pub choose : (w : List ℕ) (t rest : RowsOf K) (path : List ℕ) → none_along w rest ≡ true →
      first (behind w t ++ rest) path ≡ cond (starts_with nat_eq path w) (first t (drop (length w) path))
      (first rest path)
  unfolding seek
  choose [] t rest path h =
      let none : rest ≡ [] = none-left rest h in
      rw none (ap (λ r. first r path) (append-nil (behind [] t) ∙ behind-nil t))
  choose (x ∷ w) t rest [] h = own-behind x w t rest
  choose (x ∷ w) t rest (y ∷ q) h =
      let byte = and_parts (nat_lt x param_token) _ h in
      let open-part = and_parts (length (step param_token rest) == 0) _ byte.1 in
      let tail = and_parts (length (step catch_all_token rest) == 0) _ open-part.1 in
      let param : step param_token rest ≡ [] = none-left _ open-part.0 in
      let catch : step catch_all_token rest ≡ [] = none-left _ tail.0 in
      let low : x < param_token = ltb-true x param_token byte.0 in
      let not-param : x ≢ param_token = λ e. omega arith in
      let not-catch : x ≢ catch_all_token = λ e. omega arith in
      seek-plain (behind (x ∷ w) t ++ rest) y q (step-miss param_token x w t rest not-param ∙ param)
      (step-miss catch_all_token x w t rest not-catch ∙ catch)
      ∙ rw (seek-plain rest y q param catch) (by (x == y) refl (choose w t (step x rest) q tail.1))
    where
      by : (v : Bool) → (x == y) ≡ v → first (behind w t ++ step x rest) q ≡ cond (starts_with nat_eq q w)
          (first t (drop (length w) q)) (first (step x rest) q) → first (step y (behind (x ∷ w) t ++ rest)) q ≡ cond
          (starts_with nat_eq (y ∷ q) (x ∷ w)) (first t (drop (length (x ∷ w)) (y ∷ q))) (first (step y rest) q)
      by true e later =
          let same : x ≡ y = grind (arith, nat_tests) in
          rw (e, ← same, step-hit x w t rest) later
      by false e later =
          let n : x ≢ y = λ q. grind (arith, nat_tests) in
          rw (step-miss y x w t rest n, e) refl

  -- a route that ends here
  pub first-end : (k : K) (p : List ℕ) → first (([], k) ∷ []) p ≡ cond (length p == 0) (Some k) None
  unfolding seek
  first-end k [] = refl
  first-end k (b ∷ q) =
      let e : (length (b ∷ q) == 0) ≡ false = grind (arith, nat_tests) in
      rw e (seek-plain (([], k) ∷ []) b q refl refl ∙ seek-empty 0 q)

  -- a part that is left open at the end takes the rest, if that has no slash
  part-tail : (k : K) (b : ℕ) (q : List ℕ) (v : Bool) → has_slash (b ∷ q) ≡ v
      → or_else (seek ((param_step {K = K} (([], k) ∷ []) (b ∷ q)).0 - 1) (param_step {K = K} (([], k) ∷ []) (b ∷ q)).1
      q) None ≡ cond v None (Some k)
  unfolding seek param_step
  part-tail k b q true e = rw e (ap (λ a. or_else a None) (seek-empty (0 - 1) q))
  part-tail k b q false e =
      let z : (length (drop (length (b ∷ q) - 1) q) == 0) ≡ true = grind (arith, nat_tests, length-drop) in
      let end : cond (length (drop (length (b ∷ q) - 1) q) == 0) (Some k) None ≡ Some k = rw z refl in
      let got : seek (length (b ∷ q) - 1) (([], k) ∷ []) q ≡ Some k = seek-drop (length (b ∷ q) - 1) (([], k) ∷ []) q ∙
      (first-end k (drop (length (b ∷ q) - 1) q) ∙ end) in
      rw e (ap (λ a. or_else a None) got)

  -- a route whose last part is left open, beside others that may end here
  pub part-end : (k : K) (b : ℕ) (q : List ℕ) (rest : RowsOf K) → step b rest ≡ [] → step param_token rest ≡ [] →
      step catch_all_token rest ≡ []
      → first ((param_token ∷ [], k) ∷ rest) (b ∷ q) ≡ cond (has_slash (b ∷ q)) None (Some k)
  unfolding seek
  part-end k b q rest s p c = by (param_token == b) refl q
    where
      tail : (q : List ℕ) → or_else (seek ((param_step {K = K} (([], k) ∷ []) (b ∷ q)).0 - 1)
          (param_step {K = K} (([], k) ∷ []) (b ∷ q)).1 q) None ≡ cond (has_slash (b ∷ q)) None (Some k)
      tail q = part-tail k b q (has_slash (b ∷ q)) refl

      by : (v : Bool) → (param_token == b) ≡ v → (q : List ℕ) →
          first ((param_token ∷ [], k) ∷ rest) (b ∷ q) ≡ cond (has_slash (b ∷ q)) None (Some k)
      by false e q = rw (e, s, p, c, seek-empty 0 q) (tail q)
      by true e [] =
          let n : (b == 47) ≡ false = grind (arith, nat_tests) in
          rw (e, n) refl
      by true e (y ∷ r) =
          let n : (length (y ∷ r) == 0) ≡ false = grind (arith, nat_tests) in
          rw (e, s, p, c, first-end k (y ∷ r), n) (tail (y ∷ r))

  -- a part that is left open, with a slash after it, takes what stands before the slash
  part-step : (k : K) (t : List ℕ) (b : ℕ) (q : List ℕ)
      → or_else (seek ((param_step {K = K} ((47 ∷ t, k) ∷ []) (b ∷ q)).0 - 1)
      (param_step {K = K} ((47 ∷ t, k) ∷ []) (b ∷ q)).1 q) None ≡ cond (has_part (b ∷ q))
      (first ((t, k) ∷ []) (after_slash (b ∷ q))) None
  unfolding seek param_step
  part-step k t b q = by (b == 47) refl (has_slash q) refl
    where
      row : RowsOf K
      row = (47 ∷ t, k) ∷ []

      taken : (v : Bool) → (b == 47) ≡ false → has_slash q ≡ v
          → or_else (seek ((param_step {K = K} ((47 ∷ t, k) ∷ []) (b ∷ q)).0 - 1)
          (param_step {K = K} ((47 ∷ t, k) ∷ []) (b ∷ q)).1 q) None ≡ cond (has_part (b ∷ q))
          (first ((t, k) ∷ []) (after_slash (b ∷ q))) None
      taken true e h =
          let n : nat_lt 0 (length (b ∷ before_slash q)) ≡ true = grind (arith, nat_tests) in
          let m : length (b ∷ segment q) - 1 - 1 ≡ length (segment q) - 1 = omega arith in
          let past : seek 0 ((47 ∷ t, k) ∷ []) (drop (length (segment q) - 1) q) ≡ first ((t, k) ∷ []) (after_slash q) =
          ap (λ p. seek 0 ((47 ∷ t, k) ∷ []) p) (past-segment q h) ∙
          seek-plain ((47 ∷ t, k) ∷ []) 47 (after_slash q) refl refl in
          let got : seek (length (segment q) - 1) ((47 ∷ t, k) ∷ []) q ≡ first ((t, k) ∷ []) (after_slash q) =
          seek-drop (length (segment q) - 1) ((47 ∷ t, k) ∷ []) q ∙ past in
          rw (e, n, ends-slash b q, h, m, got) (or_else-none (first ((t, k) ∷ []) (after_slash q)))
      taken false e h =
          let n : nat_lt 0 (length (b ∷ before_slash q)) ≡ true = grind (arith, nat_tests) in
          let m : length (b ∷ q) - 1 ≡ length q = omega arith in
          let z : drop (length q) q ≡ [] = drop-length q in
          let got : seek (length q) ((47 ∷ t, k) ∷ []) q ≡ None = seek-drop (length q) ((47 ∷ t, k) ∷ []) q ∙
          rw z refl in
          rw (e, n, ends-slash b q, h, m, got) refl

      by : (w : Bool) → (b == 47) ≡ w → (v : Bool) → has_slash q ≡ v
          → or_else (seek ((param_step {K = K} ((47 ∷ t, k) ∷ []) (b ∷ q)).0 - 1)
          (param_step {K = K} ((47 ∷ t, k) ∷ []) (b ∷ q)).1 q) None ≡ cond (has_part (b ∷ q))
          (first ((t, k) ∷ []) (after_slash (b ∷ q))) None
      by true e v h = rw e (ap (λ a. or_else a None) (seek-empty (0 - 1) q))
      by false e v h = taken v e h

  or_else-same : (a : Option K) → or_else a a ≡ a
  or_else-same None = refl
  or_else-same (Some k) = refl

  either-same : (a p y f : Option K) → a ≡ f → p ≡ y → y ≡ f → or_else a p ≡ y
  either-same a p y f h i j = rw (h, i, j) (or_else-same f)

  second : (a p y : Option K) → a ≡ None → p ≡ y → or_else a p ≡ y
  second a p y h i = rw h i

  -- a route that goes on with a slash after a part that is left open
  pub part-row : (k : K) (t : List ℕ) (b : ℕ) (q : List ℕ) →
      first ((param_token ∷ 47 ∷ t, k) ∷ []) (b ∷ q) ≡ cond (has_part (b ∷ q))
      (first ((t, k) ∷ []) (after_slash (b ∷ q))) None
  unfolding seek
  part-row k t b q = by (param_token == b) refl q
    where
      at : (v : Bool) → (param_token == b) ≡ true → (y : ℕ) (r : List ℕ) → (47 == y) ≡ v →
          first ((param_token ∷ 47 ∷ t, k) ∷ []) (b ∷ y ∷ r) ≡ cond (has_part (b ∷ y ∷ r))
          (first ((t, k) ∷ []) (after_slash (b ∷ y ∷ r))) None
      at true e y r f =
          let n : (b == 47) ≡ false = grind (arith, nat_tests) in
          let g : (y == 47) ≡ true = grind (arith, nat_tests) in
          let a : seek 0 ((47 ∷ t, k) ∷ []) (y ∷ r) ≡ first ((t, k) ∷ []) r =
          seek-plain ((47 ∷ t, k) ∷ []) y r refl refl ∙ rw f refl in
          let c : cond (has_part (b ∷ y ∷ r)) (first ((t, k) ∷ []) (after_slash (b ∷ y ∷ r))) None ≡ first ((t, k) ∷ [])
          r = rw (n, g) refl in
          rw e (either-same _ _ _ _ a (part-step k t b (y ∷ r)) c)
      at false e y r f =
          let a : seek 0 ((47 ∷ t, k) ∷ []) (y ∷ r) ≡ None = seek-plain ((47 ∷ t, k) ∷ []) y r refl refl ∙
          rw f (seek-empty 0 r) in
          rw e (second _ _ _ a (part-step k t b (y ∷ r)))

      by : (v : Bool) → (param_token == b) ≡ v → (q : List ℕ) →
          first ((param_token ∷ 47 ∷ t, k) ∷ []) (b ∷ q) ≡ cond (has_part (b ∷ q))
          (first ((t, k) ∷ []) (after_slash (b ∷ q))) None
      by false e q = rw (e, seek-empty 0 q) (part-step k t b q)
      by true e [] = rw e (part-step k t b [])
      by true e (y ∷ r) = at (47 == y) e y r refl
