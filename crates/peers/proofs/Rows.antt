-- The other nodes below a number, and one number more.
use Rattle.std.proofs.Common.{◌≡◌, ℕ, zero, suc, ◌+◌, Bool, true, false, cond, List, [], ◌∷◌, ◌++◌, map, ap, ◌∙◌, append-nil, add-one, arith}
use Rattle.std.specs.Prelude.{filter}
use Rattle.std.specs.List.{range_with_len}
use Rattle.std.proofs.lemmas.List.{map-append}
use Rattle.std.proofs.lemmas.List.Elements.{filter-append}
use Rattle.report_text.specs.declared.peer_rows.PeerRow.{PeerRow}
use Rattle.peers.specs.declared.heard.Cluster.{Cluster}
use Rattle.peers.specs.declared.heard.Row.{Row}
use Rattle.peers.specs.Heard.{is_peer, peer_row}

range_more : (a n : ℕ) → range_with_len a (suc n) ≡ range_with_len a n ++ (a + n) ∷ []
range_more a zero = let same : a ≡ a + 0 = omega arith in ap (λ m. m ∷ []) same
range_more a (suc n) =
    let same : a + 1 + n ≡ a + suc n = omega arith in
    ap (λ ms. a ∷ ms) (range_more (a + 1) n ∙ ap (λ m. range_with_len (a + 1) n ++ m ∷ []) same)

first_more : (n : ℕ) → range_with_len 0 (n + 1) ≡ range_with_len 0 n ++ n ∷ []
first_more n =
    let same : 0 + n ≡ n = omega arith in
    rw add-one (range_more 0 n ∙ ap (λ m. range_with_len 0 n ++ m ∷ []) same)

module _ (cluster : Cluster) (rows : List Row) where
  abbrev pub below : ℕ → List PeerRow
  below n = map (peer_row rows) (filter (is_peer cluster) (range_with_len 0 n))

  more : (n : ℕ) → below (n + 1) ≡ below n ++ map (peer_row rows) (cond (is_peer cluster n) (n ∷ []) [])
  more n =
      ap (λ ns. map (peer_row rows) (filter (is_peer cluster) ns)) (first_more n)
      ∙ ap (λ ns. map (peer_row rows) ns) (filter-append (is_peer cluster) (range_with_len 0 n) (n ∷ []))
      ∙ map-append (peer_row rows) (filter (is_peer cluster) (range_with_len 0 n)) (cond (is_peer cluster n) (n ∷ []) [])

  pub one_more : (n : ℕ) → is_peer cluster n ≡ true → below (n + 1) ≡ below n ++ peer_row rows n ∷ []
  one_more n is = more n ∙ ap (λ b. below n ++ map (peer_row rows) (cond b (n ∷ []) [])) is

  pub none_more : (n : ℕ) → is_peer cluster n ≡ false → below (n + 1) ≡ below n
  none_more n isnt =
      more n ∙ ap (λ b. below n ++ map (peer_row rows) (cond b (n ∷ []) [])) isnt ∙ append-nil (below n)
