-- The words that name peers, and the first that names none.
use Rattle.std.proofs.Common.{◌≡◌, ℕ, ◌+◌, ◌<◌, List, [], ◌∷◌, ◌++◌, Bor, length, get_or, take, drop, map, subst, ap, sym, ◌∙◌, take-append-drop}
use Rattle.std.proofs.lemmas.List.{drop_more, map-append, take_more}
use Rattle.std.specs.List.{AllZip}
use Rattle.command_line.specs.declared.peers.NamedPeer.{NamedPeer}
use Rattle.command_line.specs.declared.peers.PeerFault.{PeerFault}
use Rattle.command_line.specs.Addresses.{IsHere}
use Rattle.command_line.specs.Guarded.{AllHere}
use Rattle.command_line.specs.Peers.{AreNamed, IsFirstBad, IsNoPeer, IsPeerText}

zip_push : {A B : Type 0} (R : A → B → Type 0) (xs : List A) (ys : List B) (x : A) (y : B) → AllZip R xs ys → R x y →
    AllZip R (xs ++ x ∷ []) (ys ++ y ∷ [])
zip_push R [] [] x y h r = (r, tt)
zip_push R [] (b ∷ ys) x y h r = absurd h
zip_push R (a ∷ xs) [] x y h r = absurd h
zip_push R (a ∷ xs) (b ∷ ys) x y h r = (h.0, zip_push R xs ys x y h.1 r)

-- one word more names one peer more
pub named_more : (nodes : ℕ) (words : List (Bor (List ℕ))) (i : ℕ) (d : Bor (List ℕ)) (peers : List NamedPeer)
    (peer : NamedPeer) → i < length words → AreNamed nodes (map (λ w. w.now) (take i words)) peers →
    IsPeerText nodes (get_or words i d).now peer →
    AreNamed nodes (map (λ w. w.now) (take (i + 1) words)) (peers ++ peer ∷ [])
named_more nodes words i d peers peer lt so_far named =
    let on : map (λ w. w.now) (take (i + 1) words) ≡ map (λ w. w.now) (take i words) ++ (get_or words i d).now ∷ [] =
    ap (map (λ w. w.now)) (take_more words i d lt) ∙ map-append (λ w. w.now) (take i words) (get_or words i d ∷ []) in
    subst (λ l. AreNamed nodes l (peers ++ peer ∷ [])) (sym on)
    (zip_push (IsPeerText nodes) (map (λ w. w.now) (take i words)) peers (get_or words i d).now peer so_far named)

module _ {X : Type 0} (text : X → List ℕ) (nodes : ℕ) (words : List X) (i : ℕ) (word : X) (peers : List NamedPeer) where
  pub first_bad : (fault : PeerFault) → i < length words → AreNamed nodes (map text (take i words)) peers →
      IsNoPeer nodes (text (get_or words i word)) fault →
      IsFirstBad nodes (map text words) (text (get_or words i word)) fault
  first_bad fault more so_far bad = record {
    before = map text (take i words);
    after = map text (drop (i + 1) words);
    peers = peers;
    place =
        sym (ap (map text) (take-append-drop i words))
        ∙ map-append text (take i words) (drop i words)
        ∙ ap (λ l. map text (take i words) ++ map text l) (drop_more words i word more);
    good = so_far;
    bad = bad;
  }

here_push : (peers : List NamedPeer) (peer : NamedPeer) → AllHere peers → IsHere peer.address →
    AllHere (peers ++ peer ∷ [])
here_push [] peer h is = (is, tt)
here_push (p ∷ peers) peer h is = (h.0, here_push peers peer h.1 is)

-- one peer more is of this machine
pub here_more : (peers : List NamedPeer) (i : ℕ) (d : NamedPeer) → i < length peers → AllHere (take i peers) →
    IsHere (get_or peers i d).address → AllHere (take (i + 1) peers)
here_more peers i d lt so_far is =
    subst AllHere (sym (take_more peers i d lt)) (here_push (take i peers) (get_or peers i d) so_far is)
