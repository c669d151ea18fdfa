-- The route that is found, with what its names take from the path, is the target that the segments spell.
use Rattle.std.proofs.Common.{◌≡◌, ℕ, length-append, List, [], ◌∷◌, ◌++◌, length, Option, Some, None, Bool, true, false, cond, refl, sym, ◌∙◌, subst, arith, ◌==◌, IsUtf8, bytes_eq}
use Rattle.std.proofs.lemmas.Bool.Decides.{nat_tests}
use Rattle.std.specs.Prelude.{codes, ◌&&◌}
use Rattle.std.specs.Cmp.Lexicographic.{bytes_decides}
use Rattle.matchit.specs.Params.{AllText}
use Rattle.matchit.specs.Router.{RouteOf}
use Rattle.matchit.specs.Seek.{first, has_slash}
use Rattle.http_routes.specs.declared.targets.RouteId.{RouteId}
use Rattle.http_routes.specs.declared.targets.RouteId.TheVariants as routes
use Rattle.http_routes.specs.Parts.{Taken, with_parts}
use Rattle.http_routes.specs.Paths.{TargetValue, point, load, spread, shift, grant, gossip, hello, report, status, stop, segments, is_part, after_fail, after_spread, after_grant, after_shift, alone, after_word, target_of}
use Rattle.http_routes.proofs.Found.{Found, plain, point_row, spread_row, grant_row, shift_row, on_start, at_end, in_points, named_point, spreads, grants, shifts, next_part, last_part, nowhere, root, end_of_root, from_gossip, from_grant, from_hello, from_load, from_report, from_shift, from_spread, from_status, from_stop, row_of}
use Rattle.http_routes.proofs.Segments.{Slashless, joined, segments-slashless, segments-join, next-more, next-none, next-alone, last-alone, last-more, led, joined-led, word-found, cut-utf8, ascii-text}
use Rattle.http_routes.specs.Rows.{route_rows}
use Rattle.http_routes.proofs.Choosing.{first_is}
use Rattle.http_routes.proofs.Taking.{taken, taken-point, taken-spread, taken-grant, taken-shift}

-- what is found leads there; what was taken is text
abbrev pub Leads : List ℕ → Found → Option TargetValue → Type 0
Leads path None target = target ≡ None
Leads path (Some row) target = (IsUtf8 path → AllText (taken row path)) ×
    (target ≡ with_parts row.value (taken row path))

either : (path : List ℕ) (b : Bool) (x y : Found) (u v : Option TargetValue) → (b ≡ true → Leads path x u) →
    (b ≡ false → Leads path y v) → Leads path (cond b x y) (cond b u v)
either path true x y u v f g = f refl
either path false x y u v f g = g refl

taken-leads : (path : List ℕ) (row : RouteOf RouteId) (ts : Taken) (target : TargetValue) → taken row path ≡ ts →
    (IsUtf8 path → AllText ts) → with_parts row.value ts ≡ Some target → Leads path (Some row) (Some target)
taken-leads path row ts target e text with_ts =
    subst (λ (x : Taken). (IsUtf8 path → AllText x) × (◌≡◌ {A = Option TargetValue} (Some target)
    (with_parts row.value x))) (sym e) (text, sym with_ts)

-- ---- after a word that leaves nothing open

alone-leads : (path text : List ℕ) (id : RouteId) (target : TargetValue) → with_parts id [] ≡ Some target
    → (parts : List (List ℕ)) → Leads path (at_end (plain text id) (led parts)) (alone target parts)
unfolding plain
alone-leads path text id target e [] = (λ u. tt, sym e)
alone-leads path text id target e (p ∷ ps) =
    let n : (length (led (p ∷ ps)) == 0) ≡ false = grind (arith, nat_tests) in
    rw n refl

-- ---- after `fail`

point-text : (name : List ℕ) → Leads (codes "/fail/" ++ name) (Some point_row) (Some (point name))
unfolding point_row
point-text name =
    taken-leads (codes "/fail/" ++ name) point_row ((codes "name", name) ∷ []) (point name) (taken-point name)
    (λ u. (ascii-text (codes "name") refl, (cut-utf8 (codes "/fail") name u).1, tt)) refl

named-leads : (name : List ℕ) → has_slash name ≡ false
    → Leads (codes "/fail/" ++ name) (named_point name) (after_fail (name ∷ []))
unfolding plain
named-leads [] h = (λ u. tt, refl)
named-leads (b ∷ q) h =
    let n : (length (b ∷ q) == 0) ≡ false = grind (arith, nat_tests) in
    let l : is_part (b ∷ q) ≡ true = grind (arith, nat_tests) in
    let found : last_part point_row (b ∷ q) ≡ Some point_row = last-alone point_row (b ∷ q) h ∙ rw l refl in
    rw (n, found) (point-text (b ∷ q))

fail-leads : (parts : List (List ℕ)) → Slashless parts → Leads (codes "/fail" ++ led parts) (in_points (led parts))
    (after_fail parts)
unfolding plain
fail-leads [] h = (λ u. tt, refl)
fail-leads (p ∷ []) h = named-leads p h.0
fail-leads (p ∷ q ∷ ps) h = more p (joined (q ∷ ps)) (after_fail (p ∷ q ∷ ps)) (target p)
  where
    target : (p : List ℕ) → after_fail (p ∷ q ∷ ps) ≡ None
    target [] = refl
    target (b ∷ p) = refl

    more : (p r : List ℕ) (t : Option TargetValue) → t ≡ None →
        Leads (codes "/fail/" ++ (p ++ 47 ∷ r)) (named_point (p ++ 47 ∷ r)) t
    more p r t e =
        let n : (length (p ++ 47 ∷ r) == 0) ≡ false = grind (arith, nat_tests, length-append p (47 ∷ r)) in
        rw (n, last-more point_row p r) e

-- ---- after `spread`

spread-text : (name : List ℕ) → Leads (codes "/spread/" ++ name) (Some spread_row) (Some (spread name))
unfolding spread_row
spread-text name =
    taken-leads (codes "/spread/" ++ name) spread_row ((codes "name", name) ∷ []) (spread name) (taken-spread name)
    (λ u. (ascii-text (codes "name") refl, (cut-utf8 (codes "/spread") name u).1, tt)) refl

spread-leads : (parts : List (List ℕ)) → Slashless parts
    → Leads (codes "/spread" ++ led parts) (on_start (codes "/") spreads nowhere (led parts)) (after_spread parts)
spread-leads [] h = refl
spread-leads (n ∷ []) h = rw (last-alone spread_row n h.0) (by (is_part n))
  where
    by : (x : Bool) → Leads (codes "/spread/" ++ n) (cond x (Some spread_row) None) (cond x (Some (spread n)) None)
    by true = spread-text n
    by false = refl
spread-leads (n ∷ p ∷ ps) h = rw (last-more spread_row n (joined (p ∷ ps))) refl

-- ---- after `grant`

grant-text : (n t a : List ℕ) → has_slash n ≡ false → has_slash t ≡ false
    → Leads (codes "/grant/" ++ (n ++ 47 ∷ (t ++ 47 ∷ a))) (Some grant_row) (Some (grant n t a))
unfolding grant_row
grant-text n t a hn ht =
    taken-leads (codes "/grant/" ++ (n ++ 47 ∷ (t ++ 47 ∷ a))) grant_row
    ((codes "name", n) ∷ (codes "term", t) ∷ (codes "amount", a) ∷ []) (grant n t a) (taken-grant n t a hn ht) (λ u.
    let after = (cut-utf8 (codes "/grant") (n ++ 47 ∷ (t ++ 47 ∷ a)) u).1 in
    let name = cut-utf8 n (t ++ 47 ∷ a) after in
    let term = cut-utf8 t a name.1 in (
      ascii-text (codes "name") refl,
      name.0,
      (
        ascii-text (codes "term") refl,
        term.0,
        (ascii-text (codes "amount") refl, term.1, tt),
      ),
    ))
    refl

grant-leads : (parts : List (List ℕ)) → Slashless parts
    → Leads (codes "/grant" ++ led parts) (on_start (codes "/") grants nowhere (led parts)) (after_grant parts)
grant-leads [] h = refl
grant-leads (n ∷ []) h =
    rw (next-alone (next_part (last_part grant_row)) n h.0) refl
grant-leads (n ∷ t ∷ []) h =
    rw (next-none (next_part (last_part grant_row)) n t h.0 (next-alone (last_part grant_row) t h.1.0)) refl
grant-leads (n ∷ t ∷ a ∷ []) h =
    rw (
      next-more (next_part (last_part grant_row)) n (t ++ 47 ∷ a) h.0,
      next-more (last_part grant_row) t a h.1.0,
      last-alone grant_row a h.1.1.0,
    )
    (by (is_part n) (is_part t) (is_part a) (grant-text n t a h.0 h.1.0))
  where
    by : (x y z : Bool) → Leads (codes "/grant/" ++ (n ++ 47 ∷ (t ++ 47 ∷ a))) (Some grant_row) (Some (grant n t a))
        → Leads (codes "/grant/" ++ (n ++ 47 ∷ (t ++ 47 ∷ a)))
        (cond x (cond y (cond z (Some grant_row) None) None) None)
        (cond (x && (y && (z && true))) (Some (grant n t a)) None)
    by true true true l = l
    by true true false l = refl
    by true false z l = refl
    by false y z l = refl
grant-leads (n ∷ t ∷ a ∷ b ∷ ps) h =
    rw (next-none (next_part (last_part grant_row)) n (t ++ 47 ∷ (a ++ 47 ∷ joined (b ∷ ps))) h.0
    (next-none (last_part grant_row) t (a ++ 47 ∷ joined (b ∷ ps)) h.1.0 (last-more grant_row a (joined (b ∷ ps)))))
    refl

-- ---- after `shift`

shift-text : (n t o a : List ℕ) → has_slash n ≡ false → has_slash t ≡ false → has_slash o ≡ false
    → Leads (codes "/shift/" ++ (n ++ 47 ∷ (t ++ 47 ∷ (o ++ 47 ∷ a)))) (Some shift_row) (Some (shift n t o a))
unfolding shift_row
shift-text n t o a hn ht ho =
    taken-leads (codes "/shift/" ++ (n ++ 47 ∷ (t ++ 47 ∷ (o ++ 47 ∷ a)))) shift_row
    ((codes "name", n) ∷ (codes "term", t) ∷ (codes "to", o) ∷ (codes "amount", a) ∷ []) (shift n t o a)
    (taken-shift n t o a hn ht ho) (λ u.
    let after = (cut-utf8 (codes "/shift") (n ++ 47 ∷ (t ++ 47 ∷ (o ++ 47 ∷ a))) u).1 in
    let name = cut-utf8 n (t ++ 47 ∷ (o ++ 47 ∷ a)) after in
    let term = cut-utf8 t (o ++ 47 ∷ a) name.1 in
    let to = cut-utf8 o a term.1 in (
      ascii-text (codes "name") refl,
      name.0,
      (
        ascii-text (codes "term") refl,
        term.0,
        (ascii-text (codes "to") refl, to.0, (ascii-text (codes "amount") refl, to.1, tt)),
      ),
    ))
    refl

shift-leads : (parts : List (List ℕ)) → Slashless parts
    → Leads (codes "/shift" ++ led parts) (on_start (codes "/") shifts nowhere (led parts)) (after_shift parts)
shift-leads [] h = refl
shift-leads (n ∷ []) h =
    rw (next-alone (next_part (next_part (last_part shift_row))) n h.0) refl
shift-leads (n ∷ t ∷ []) h =
    rw (next-none (next_part (next_part (last_part shift_row))) n t h.0
    (next-alone (next_part (last_part shift_row)) t h.1.0)) refl
shift-leads (n ∷ t ∷ o ∷ []) h =
    rw (next-none (next_part (next_part (last_part shift_row))) n (t ++ 47 ∷ o) h.0
    (next-none (next_part (last_part shift_row)) t o h.1.0 (next-alone (last_part shift_row) o h.1.1.0))) refl
shift-leads (n ∷ t ∷ o ∷ a ∷ []) h =
    rw (
      next-more (next_part (next_part (last_part shift_row))) n (t ++ 47 ∷ (o ++ 47 ∷ a)) h.0,
      next-more (next_part (last_part shift_row)) t (o ++ 47 ∷ a) h.1.0,
      next-more (last_part shift_row) o a h.1.1.0,
      last-alone shift_row a h.1.1.1.0,
    )
    (by (is_part n) (is_part t) (is_part o) (is_part a) (shift-text n t o a h.0 h.1.0 h.1.1.0))
  where
    by : (w x y z : Bool) → Leads (codes "/shift/" ++ (n ++ 47 ∷ (t ++ 47 ∷ (o ++ 47 ∷ a)))) (Some shift_row)
        (Some (shift n t o a))
        → Leads (codes "/shift/" ++ (n ++ 47 ∷ (t ++ 47 ∷ (o ++ 47 ∷ a))))
        (cond w (cond x (cond y (cond z (Some shift_row) None) None) None) None)
        (cond (w && (x && (y && (z && true)))) (Some (shift n t o a)) None)
    by true true true true l = l
    by true true true false l = refl
    by true true false z l = refl
    by true false y z l = refl
    by false x y z l = refl
shift-leads (n ∷ t ∷ o ∷ a ∷ b ∷ ps) h =
    rw (next-none (next_part (next_part (last_part shift_row))) n (t ++ 47 ∷ (o ++ 47 ∷ (a ++ 47 ∷ joined (b ∷ ps))))
    h.0
    (next-none (next_part (last_part shift_row)) t (o ++ 47 ∷ (a ++ 47 ∷ joined (b ∷ ps))) h.1.0
    (next-none (last_part shift_row) o (a ++ 47 ∷ joined (b ∷ ps)) h.1.1.0 (last-more shift_row a (joined (b ∷ ps))))))
    refl

-- ---- after the first slash

-- what may follow a word doesn't go on without a slash
at_end-stops : (row : RouteOf RouteId) (x : ℕ) (r : List ℕ) → (x == 47) ≡ false → at_end row (x ∷ r) ≡ None
at_end-stops row x r e =
    let n : (length (x ∷ r) == 0) ≡ false = grind (arith, nat_tests) in
    rw n refl

slash-stops : (f : List ℕ → Found) (x : ℕ) (r : List ℕ) → (x == 47) ≡ false →
    on_start (codes "/") f nowhere (x ∷ r) ≡ None
slash-stops f x r e =
    let g : (47 == x) ≡ false = grind (arith, nat_tests) in
    rw g refl

points-stop : (x : ℕ) (r : List ℕ) → (x == 47) ≡ false → in_points (x ∷ r) ≡ None
points-stop x r e =
    let g : (47 == x) ≡ false = grind (arith, nat_tests) in
    rw g (at_end-stops (plain (codes "/fail") routes.Points) x r e)

module _ (word : List ℕ) (parts : List (List ℕ)) (h : has_slash word ≡ false) (hs : Slashless parts) where
  abbrev path : List ℕ
  path = 47 ∷ (word ++ led parts)

  -- one word more: it is this one, or one of the others
  word-leads : (w : List ℕ) (inside other : List ℕ → Found) (target others : Option TargetValue)
      → has_slash w ≡ false → ((x : ℕ) (r : List ℕ) → (x == 47) ≡ false → inside (x ∷ r) ≡ None)
      → ((r : List ℕ) → other (w ++ r) ≡ None)
      → Leads (47 ∷ (w ++ led parts)) (inside (led parts)) target
      → Leads path (other (word ++ led parts)) others
      → Leads path (on_start w inside other (word ++ led parts)) (cond (bytes_eq word w) target others)
  word-leads w inside other target others k stops apart there else =
      subst (λ (x : Found). Leads path x (cond (bytes_eq word w) target others))
      (sym (word-found inside stops w other k apart word parts h))
      (either path (bytes_eq word w) (inside (led parts)) (other (word ++ led parts)) target others
      (λ e. subst (λ (x : List ℕ). Leads (47 ∷ (x ++ led parts)) (inside (led parts)) target)
      (sym ((bytes_decides word w).0 e)) there)
      (λ e. else))

  -- a word with nothing behind it
  alone-word : (w : List ℕ) (id : RouteId) (value : TargetValue) (other : List ℕ → Found) (others : Option TargetValue)
      → has_slash w ≡ false → with_parts id [] ≡ Some value → ((r : List ℕ) → other (w ++ r) ≡ None)
      → Leads path (other (word ++ led parts)) others
      → Leads path (on_start w (at_end (plain (47 ∷ w) id)) other (word ++ led parts))
      (cond (bytes_eq word w) (alone value parts) others)
  alone-word w id value other others k e apart else =
      word-leads w (at_end (plain (47 ∷ w) id)) other (alone value parts) others k (at_end-stops (plain (47 ∷ w) id))
      apart (alone-leads (47 ∷ (w ++ led parts)) (47 ∷ w) id value e parts) else

  -- a word with parts behind it
  open-word : (w : List ℕ) (inside other : List ℕ → Found) (target others : Option TargetValue)
      → has_slash w ≡ false → ((r : List ℕ) → other (w ++ r) ≡ None)
      → Leads (47 ∷ (w ++ led parts)) (on_start (codes "/") inside nowhere (led parts)) target
      → Leads path (other (word ++ led parts)) others
      → Leads path (on_start w (on_start (codes "/") inside nowhere) other (word ++ led parts))
      (cond (bytes_eq word w) target others)
  open-word w inside other target others k apart there else =
      word-leads w (on_start (codes "/") inside nowhere) other target others k (slash-stops inside) apart there else

  -- a word that isn't empty
  words-lead : bytes_eq word [] ≡ false → end_of_root (word ++ led parts) ≡ None
      → Leads path (root (word ++ led parts)) (after_word word parts)
  words-lead some none = rw some
      (word-leads (codes "fail") in_points from_gossip (after_fail parts) _ refl points-stop (λ r. refl)
      (fail-leads parts hs)
      (alone-word (codes "gossip") routes.Gossip gossip from_grant _ refl refl (λ r. refl)
      (open-word (codes "grant") grants from_hello (after_grant parts) _ refl (λ r. refl) (grant-leads parts hs)
      (alone-word (codes "hello") routes.Hello hello from_load _ refl refl (λ r. refl)
      (alone-word (codes "load") routes.Load load from_report _ refl refl (λ r. refl)
      (alone-word (codes "report") routes.Report report from_shift _ refl refl (λ r. refl)
      (open-word (codes "shift") shifts from_spread (after_shift parts) _ refl (λ r. refl) (shift-leads parts hs)
      (open-word (codes "spread") spreads from_status (after_spread parts) _ refl (λ r. refl) (spread-leads parts hs)
      (alone-word (codes "status") routes.Status status from_stop _ refl refl (λ r. refl)
      (alone-word (codes "stop") routes.Stop stop end_of_root None refl refl (λ r. refl)
      (rw none refl)))))))))))

root-leads : (word : List ℕ) (parts : List (List ℕ)) → has_slash word ≡ false → Slashless parts
    → Leads (47 ∷ (word ++ led parts)) (root (word ++ led parts)) (after_word word parts)
unfolding plain
root-leads [] [] h hs = (λ u. tt, refl)
root-leads [] (p ∷ ps) h hs = refl
root-leads (b ∷ w) parts h hs = words-lead (b ∷ w) parts h hs refl refl

-- ---- any path

pub leads : (path : List ℕ) → Leads path (row_of path) (target_of path)
unfolding row_of target_of
leads [] = refl
leads (b ∷ q) = by (47 == b) refl (segments q) refl (segments-join q) (segments-slashless q)
  where
    by : (v : Bool) → (47 == b) ≡ v → (parts : List (List ℕ)) → segments q ≡ parts → joined parts ≡ q → Slashless parts
        → Leads (b ∷ q) (row_of (b ∷ q)) (target_of (b ∷ q))
    by true e [] s j h =
        let never : [] ∷ [] ≡ [] = rw (← j) at s in
        absurd cc
    by true e (word ∷ ps) s j h =
        let same : b ≡ 47 = grind (arith, nat_tests) in
        rw (same, s)
        (subst (λ (x : List ℕ). Leads (47 ∷ x) (root x) (after_word word ps)) (sym (joined-led word ps) ∙ j)
        (root-leads word ps h.0 h.1))
    by false e [] s j h =
        let f : (b == 47) ≡ false = grind (arith, nat_tests) in
        rw (e, f, s) refl
    by false e (p ∷ ps) s j h =
        let f : (b == 47) ≡ false = grind (arith, nat_tests) in
        rw (e, f, s) refl

-- what a router of these routes finds
pub leads-first : (path : List ℕ) (found : Found) → first route_rows path ≡ found → Leads path found (target_of path)
leads-first path found e = subst (λ (x : Found). Leads path x (target_of path)) (sym (first_is path) ∙ e) (leads path)
