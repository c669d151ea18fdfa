-- A path leads to a target just where it is a path of it.
use Rattle.std.proofs.Common.{◌≡◌, ◌↔◌, append-nil, ℕ, List, [], ◌∷◌, ◌++◌, length, Option, Some, None, Bool, true, false, cond, refl, sym, ap, ◌∙◌, subst, arith, bytes_eq, inl, inr}
use Rattle.std.proofs.lemmas.Bool.{and_parts, lt-ltb, ltb-true}
use Rattle.std.specs.Prelude.{codes}
use Rattle.std.specs.List.{list_all}
use Rattle.std.specs.Cmp.Lexicographic.{bytes_decides}
use Rattle.matchit.specs.Seek.{has_slash}
use Rattle.http_routes.specs.Paths.{TargetValue, page, points, point, load, spread, shift, grant, gossip, hello, report, status, stop, segments, is_part, after_fail, after_spread, after_grant, after_shift, alone, after_word, target_in, target_of, AreParts, SpellsTarget}
use Rattle.http_routes.proofs.Segments.{Slashless, joined, no-slash, segments-slashless, segments-join, led, joined-led}

-- ---- what a path leads to, it is a path of

abbrev Spelled : List ℕ → Option TargetValue → Type 0
Spelled path None = Unit {0}
Spelled path (Some target) = SpellsTarget target path

are-parts : (parts : List (List ℕ)) → Slashless parts → list_all is_part parts ≡ true → AreParts parts
are-parts [] h e = tt
are-parts (p ∷ ps) h e =
    let a = and_parts (is_part p) (list_all is_part ps) e in
    ((ltb-true 0 (length p) a.0, h.0), are-parts ps h.1 a.1)

if-parts : (path : List ℕ) (b : Bool) (target : TargetValue) → (b ≡ true → SpellsTarget target path) →
    Spelled path (cond b (Some target) None)
if-parts path true target f = f refl
if-parts path false target f = tt

fail-spelled : (parts : List (List ℕ)) → Slashless parts → Spelled (codes "/fail" ++ led parts) (after_fail parts)
fail-spelled [] h = inl refl
fail-spelled ([] ∷ []) h = inr refl
fail-spelled ((b ∷ q) ∷ []) h = (((omega arith, h.0), tt), refl)
fail-spelled ([] ∷ p ∷ ps) h = tt
fail-spelled ((b ∷ q) ∷ p ∷ ps) h = tt

spread-spelled : (parts : List (List ℕ)) → Slashless parts → Spelled (codes "/spread" ++ led parts) (after_spread parts)
spread-spelled [] h = tt
spread-spelled (n ∷ []) h =
    if-parts (codes "/spread" ++ led (n ∷ [])) (is_part n) (spread n)
    (λ e. (((ltb-true 0 (length n) e, h.0), tt), refl))
spread-spelled (n ∷ p ∷ ps) h = tt

grant-spelled : (parts : List (List ℕ)) → Slashless parts → Spelled (codes "/grant" ++ led parts) (after_grant parts)
grant-spelled [] h = tt
grant-spelled (n ∷ []) h = tt
grant-spelled (n ∷ t ∷ []) h = tt
grant-spelled (n ∷ t ∷ a ∷ []) h =
    if-parts (codes "/grant" ++ led (n ∷ t ∷ a ∷ [])) (list_all is_part (n ∷ t ∷ a ∷ [])) (grant n t a)
    (λ e. (are-parts (n ∷ t ∷ a ∷ []) h e, refl))
grant-spelled (n ∷ t ∷ a ∷ b ∷ ps) h = tt

shift-spelled : (parts : List (List ℕ)) → Slashless parts → Spelled (codes "/shift" ++ led parts) (after_shift parts)
shift-spelled [] h = tt
shift-spelled (n ∷ []) h = tt
shift-spelled (n ∷ t ∷ []) h = tt
shift-spelled (n ∷ t ∷ o ∷ []) h = tt
shift-spelled (n ∷ t ∷ o ∷ a ∷ []) h =
    if-parts (codes "/shift" ++ led (n ∷ t ∷ o ∷ a ∷ [])) (list_all is_part (n ∷ t ∷ o ∷ a ∷ [])) (shift n t o a)
    (λ e. (are-parts (n ∷ t ∷ o ∷ a ∷ []) h e, refl))
shift-spelled (n ∷ t ∷ o ∷ a ∷ b ∷ ps) h = tt

alone-spelled : (path : List ℕ) (target : TargetValue) → SpellsTarget target path → (parts : List (List ℕ)) →
    Spelled (path ++ led parts) (alone target parts)
alone-spelled path target h [] = subst (SpellsTarget target) (sym (append-nil path)) h
alone-spelled path target h (p ∷ ps) = tt

module _ (word : List ℕ) (parts : List (List ℕ)) where
  word-spelled : (w : List ℕ) (u v : Option TargetValue) → Spelled (47 ∷ (w ++ led parts)) u →
      Spelled (47 ∷ (word ++ led parts)) v
      → Spelled (47 ∷ (word ++ led parts)) (cond (bytes_eq word w) u v)
  word-spelled w u v there else = by (bytes_eq word w) refl
    where
      by : (b : Bool) → bytes_eq word w ≡ b → Spelled (47 ∷ (word ++ led parts)) (cond b u v)
      by true e = subst (λ (x : List ℕ). Spelled (47 ∷ (x ++ led parts)) u) (sym ((bytes_decides word w).0 e)) there
      by false e = else

  root-spelled : Slashless parts → Spelled (47 ∷ (word ++ led parts)) (after_word word parts)
  root-spelled h =
      word-spelled [] (alone page parts) _ (alone-spelled (codes "/") page refl parts)
      (word-spelled (codes "fail") (after_fail parts) _ (fail-spelled parts h)
      (word-spelled (codes "gossip") (alone gossip parts) _ (alone-spelled (codes "/gossip") gossip refl parts)
      (word-spelled (codes "grant") (after_grant parts) _ (grant-spelled parts h)
      (word-spelled (codes "hello") (alone hello parts) _ (alone-spelled (codes "/hello") hello refl parts)
      (word-spelled (codes "load") (alone load parts) _ (alone-spelled (codes "/load") load refl parts)
      (word-spelled (codes "report") (alone report parts) _ (alone-spelled (codes "/report") report refl parts)
      (word-spelled (codes "shift") (after_shift parts) _ (shift-spelled parts h)
      (word-spelled (codes "spread") (after_spread parts) _ (spread-spelled parts h)
      (word-spelled (codes "status") (alone status parts) _ (alone-spelled (codes "/status") status refl parts)
      (word-spelled (codes "stop") (alone stop parts) None (alone-spelled (codes "/stop") stop refl parts)
      tt))))))))))

in-spelled : (parts : List (List ℕ)) → Slashless parts → Spelled (joined parts) (target_in parts)
in-spelled [] h = tt
in-spelled ([] ∷ []) h = tt
in-spelled ([] ∷ word ∷ parts) h =
    subst (λ (x : List ℕ). Spelled (47 ∷ x) (after_word word parts)) (sym (joined-led word parts))
    (root-spelled word parts h.1.1)
in-spelled ((b ∷ q) ∷ parts) h = tt

spelled : (path : List ℕ) → Spelled path (target_of path)
unfolding target_of
spelled path =
    subst (λ (x : List ℕ). Spelled x (target_in (segments path))) (segments-join path)
    (in-spelled (segments path) (segments-slashless path))

-- ---- a path of a target leads there

segments-at : (p r : List ℕ) → has_slash p ≡ false → segments (p ++ 47 ∷ r) ≡ p ∷ segments r
segments-at [] r h = refl
segments-at (x ∷ p) r h =
    let s = no-slash x p h in
    rw (s.0, segments-at p r s.1) refl

segments-alone : (p : List ℕ) → has_slash p ≡ false → segments p ≡ p ∷ []
segments-alone [] h = refl
segments-alone (x ∷ p) h =
    let s = no-slash x p h in
    rw (s.0, segments-alone p s.1) refl

segments-joined : (p : List ℕ) (ps : List (List ℕ)) → AreParts (p ∷ ps) → segments (joined (p ∷ ps)) ≡ p ∷ ps
segments-joined p [] h = segments-alone p h.0.1
segments-joined p (q ∷ ps) h =
    segments-at p (joined (q ∷ ps)) h.0.1 ∙ ap (λ (x : List (List ℕ)). p ∷ x) (segments-joined q ps h.1)

all-parts : (parts : List (List ℕ)) → AreParts parts → list_all is_part parts ≡ true
all-parts [] h = refl
all-parts (p ∷ ps) h = rw (lt-ltb 0 (length p) h.0.0) (all-parts ps h.1)

leads-there : (target : TargetValue) (path : List ℕ) → SpellsTarget target path → target_of path ≡ Some target
unfolding target_of
leads-there page path h = rw h refl
leads-there points path (inl e) = rw e refl
leads-there points path (inr e) = rw e refl
leads-there (point []) path h = absurd (omega (arith, h.0.0.0))
leads-there (point (b ∷ q)) path h = rw (h.1, segments-joined (b ∷ q) [] h.0) refl
leads-there load path h = rw h refl
leads-there (spread n) path h = rw (h.1, segments-joined n [] h.0, lt-ltb 0 (length n) h.0.0.0) refl
leads-there (shift n t o a) path h =
    rw (h.1, segments-joined n (t ∷ o ∷ a ∷ []) h.0, all-parts (n ∷ t ∷ o ∷ a ∷ []) h.0) refl
leads-there (grant n t a) path h =
    rw (h.1, segments-joined n (t ∷ a ∷ []) h.0, all-parts (n ∷ t ∷ a ∷ []) h.0) refl
leads-there gossip path h = rw h refl
leads-there hello path h = rw h refl
leads-there report path h = rw h refl
leads-there status path h = rw h refl
leads-there stop path h = rw h refl

-- ---- so a path has this target just where it is a path of it, and has at most one

pub path_of_target : (path : List ℕ) (target : TargetValue) → (target_of path ≡ Some target) ↔ SpellsTarget target path
path_of_target path target = (λ e. subst (Spelled path) e (spelled path), leads-there target path)

pub one_target : (path : List ℕ) (t u : TargetValue) → SpellsTarget t path → SpellsTarget u path → t ≡ u
one_target path t u h k =
    let same : Some t ≡ Some u = sym (leads-there t path h) ∙ leads-there u path k in
    cc
