-- A worker's answers, one call further.
use Rattle.std.proofs.Common.{◌≡◌, ℕ, ◌+◌, Bool, true, List, [], ◌∷◌, ◌++◌, sym, ap, ◌∙◌, arith, length-append, append_assoc, append-nil, subst}
use Rattle.std.proofs.Math.ListN.{get_or-append}
use Rattle.std.specs.List.{AllZip}
use Rattle.std.specs.Prelude.{All, map, reverse, Result, Ok, Err, MatchResult}
use Rattle.std.proofs.lemmas.List.{reverse-append}
use Rattle.node_steps.specs.declared.config.Config.{Config}
use Rattle.node_calls.specs.declared.ask.Ask.{Ask}
use Rattle.node_calls.specs.declared.fault.NodeFault.{NodeFault}
use Rattle.node_calls.specs.declared.receipt.Receipt.{Receipt}
use Rattle.node_calls.specs.Asks.{ask_value_first}
use Rattle.node_registry.specs.Receipts.{IsRefused}
use Rattle.node_registry.specs.Refusals.{Refusal}
use Rattle.node_registry.specs.Seats.{SeatState}
use Rattle.node_registry.specs.Workers.{AllNumbered, AreAnswered, IsDone}
use Rattle.node_registry.specs.Workers as workers

module _ (config : Config) (seed : List ℕ) (says : ℕ → Bool → Type 0) (hears : ℕ → Type 0) where
  pub at_the_end : (n : ℕ) (asks : List Ask) → asks ≡ [] → AreAnswered config seed says hears n asks [] [] []
  at_the_end n asks none = subst (λ xs. AreAnswered config seed says hears n xs [] [] []) (sym none) workers.ended

module _ (config : Config) (seed : List ℕ) (says : ℕ → Bool → Type 0) (hears : ℕ → Type 0) (all : List Ask) where
  -- however the others are answered, from that of this number on, all are answered then
  abbrev pub SoFar : ℕ → List Ask → List Receipt → List (ℕ × NodeFault) → List Refusal → Type 0
  SoFar n asks rs fs ns =
      (more : List Receipt) (faults : List (ℕ × NodeFault)) (refusals : List Refusal)
      → AreAnswered config seed says hears n asks more faults refusals
      → AreAnswered config seed says hears 0 all (rs ++ more) (fs ++ faults) (ns ++ refusals)

  pub next_accepted : (n : ℕ) (asks rest : List Ask) (ask : Ask) (r : Receipt) (rs new : List Receipt)
      (fs : List (ℕ × NodeFault)) (ns now : List Refusal)
      → SoFar n asks rs fs ns → asks ≡ ask ∷ rest → r.entry.ask ≡ ask → says n true → hears n → new ≡ rs ++ r ∷ [] →
      now ≡ ns → SoFar (n + 1) rest new fs now
  next_accepted n asks rest ask r rs new fs ns now so_far is of may heard pushed same more faults refusals h =
      let here : AreAnswered config seed says hears n asks (r ∷ more) faults refusals =
      subst (λ xs. AreAnswered config seed says hears n xs (r ∷ more) faults refusals)
      (ap (λ a. a ∷ rest) of ∙ sym is) (workers.accepted may heard h) in
      rw (pushed, same, append_assoc rs (r ∷ []) more) (so_far (r ∷ more) faults refusals here)

  pub next_refused : (n : ℕ) (asks rest : List Ask) (ask : Ask) (f : NodeFault) (rs : List Receipt)
      (fs new : List (ℕ × NodeFault)) (ns now : List Refusal)
      → SoFar n asks rs fs ns → asks ≡ ask ∷ rest → IsRefused config seed (ask_value_first config.nodes ask) f →
      says n true → hears n → new ≡ fs ++ (n, f) ∷ [] → now ≡ ns ++ (ask, f) ∷ [] → SoFar (n + 1) rest rs new now
  next_refused n asks rest ask f rs fs new ns now so_far is why may heard pushed noted more faults refusals h =
      let here : AreAnswered config seed says hears n asks more ((n, f) ∷ faults) ((ask, f) ∷ refusals) =
      subst (λ xs. AreAnswered config seed says hears n xs more ((n, f) ∷ faults) ((ask, f) ∷ refusals)) (sym is)
      (workers.refused may heard why h) in
      rw (pushed, noted, append_assoc fs ((n, f) ∷ []) faults, append_assoc ns ((ask, f) ∷ []) refusals)
      (so_far more ((n, f) ∷ faults) ((ask, f) ∷ refusals) here)

  -- no others are
  pub whole : (n : ℕ) (asks : List Ask) (rs : List Receipt) (fs : List (ℕ × NodeFault)) (ns : List Refusal)
      → SoFar n asks rs fs ns → AreAnswered config seed says hears n asks [] [] []
      → AreAnswered config seed says hears 0 all rs fs ns
  whole n asks rs fs ns so_far none =
      subst (λ l. AreAnswered config seed says hears 0 all l fs ns) (append-nil rs)
      (subst (λ l. AreAnswered config seed says hears 0 all (rs ++ []) l ns) (append-nil fs)
      (subst (λ l. AreAnswered config seed says hears 0 all (rs ++ []) (fs ++ []) l) (append-nil ns)
      (so_far [] [] [] none)))

-- the last of the first list becomes the last of the second, which is read from its end
pub moved : {J T : Type 0} (job : T → J) (js rest : List J) (ts : List T) (t : T) (j : J) → js ≡ rest ++ j ∷ [] →
    job t ≡ j → rest ++ map job (reverse (ts ++ t ∷ [])) ≡ js ++ map job (reverse ts)
moved job js rest ts t j is same =
    rw (reverse-append ts (t ∷ []), is, append_assoc rest (j ∷ []) (map job (reverse ts)))
    (ap (λ x. rest ++ (x ∷ map job (reverse ts))) same)

pub All-front : {X : Type 0} (P : X → Type 0) (xs : List X) (ys : List X) → All P (xs ++ ys) → All P xs
All-front P xs ys h k d below =
    subst P (get_or-append xs ys d k below) (h k d (let l = length-append xs ys in omega arith))

-- one more of each
pub AllNumbered-cons : {A B : Type 0} (R : ℕ → A → B → Type 0) (n : ℕ) (ts rest : List A) (t : A) (ws more all : List B)
    (w : B) (whole : List A)
    → ((xs : List B) → AllNumbered R n (reverse ts) xs → AllNumbered R 0 whole (ws ++ xs)) → ts ≡ rest ++ t ∷ [] →
    R n t w → all ≡ ws ++ w ∷ [] → AllNumbered R (n + 1) (reverse rest) more → AllNumbered R 0 whole (all ++ more)
AllNumbered-cons R n ts rest t ws more all w whole so_far is here all_is h =
    let now : AllNumbered R n (reverse ts) (w ∷ more) = rw (is, reverse-append rest (t ∷ [])) (here, h) in
    rw (all_is, append_assoc ws (w ∷ []) more) (so_far (w ∷ more) now)

-- the same from the front, without numbers
pub AllZip-next : {A B : Type 0} (R : A → B → Type 0) (ts rest : List A) (t : A) (ws more all : List B) (w : B)
    (whole : List A)
    → ((xs : List B) → AllZip R ts xs → AllZip R whole (ws ++ xs)) → ts ≡ t ∷ rest → R t w → all ≡ ws ++ w ∷ [] →
    AllZip R rest more → AllZip R whole (all ++ more)
AllZip-next R ts rest t ws more all w whole so_far is here all_is h =
    let now : AllZip R ts (w ∷ more) = rw is (here, h) in
    rw (all_is, append_assoc ws (w ∷ []) more) (so_far (w ∷ more) now)

-- two relations in turn
pub AllNumbered-through : {A B C : Type 0} (R : ℕ → A → B → Type 0) (S : B → C → Type 0) (Q : ℕ → A → C → Type 0)
    (through : (n : ℕ) (a : A) (b : B) (c : C) → R n a b → S b c → Q n a c) (n : ℕ) (xs : List A) (bs : List B)
    (cs : List C) → AllNumbered R n xs bs → AllZip S bs cs → AllNumbered Q n xs cs
AllNumbered-through R S Q through n [] [] [] h k = tt
AllNumbered-through R S Q through n [] [] (c ∷ cs) h k = absurd k
AllNumbered-through R S Q through n [] (b ∷ bs) cs h k = absurd h
AllNumbered-through R S Q through n (a ∷ xs) [] cs h k = absurd h
AllNumbered-through R S Q through n (a ∷ xs) (b ∷ bs) [] h k = absurd k
AllNumbered-through R S Q through n (a ∷ xs) (b ∷ bs) (c ∷ cs) h k =
    (through n a b c h.0 k.0, AllNumbered-through R S Q through (n + 1) xs bs cs h.1 k.1)

-- of the images
pub AllNumbered-of_map : {A B C : Type 0} (f : A → B) (R : ℕ → B → C → Type 0) (n : ℕ) (xs : List A) (cs : List C) →
    AllNumbered (λ m a c. R m (f a) c) n xs cs → AllNumbered R n (map f xs) cs
AllNumbered-of_map f R n [] [] h = tt
AllNumbered-of_map f R n [] (c ∷ cs) h = absurd h
AllNumbered-of_map f R n (a ∷ xs) [] h = absurd h
AllNumbered-of_map f R n (a ∷ xs) (c ∷ cs) h = (h.0, AllNumbered-of_map f R (n + 1) xs cs h.1)

-- nothing is left
pub finished : {A B : Type 0} (R : A → B → Type 0) (ts whole : List A) (ws : List B) →
    ((xs : List B) → AllZip R ts xs → AllZip R whole (ws ++ xs)) → ts ≡ [] → AllZip R whole ws
finished R ts whole ws so_far none =
    subst (λ xs. AllZip R whole xs) (append-nil ws) (so_far [] (subst (λ ys. AllZip R ys []) (sym none) tt))

-- the same with numbers
pub finished_numbered : {A B : Type 0} (R : ℕ → A → B → Type 0) (n : ℕ) (ts whole : List A) (ws : List B) →
    ((xs : List B) → AllNumbered R n ts xs → AllNumbered R 0 whole (ws ++ xs)) → ts ≡ [] → AllNumbered R 0 whole ws
finished_numbered R n ts whole ws so_far none =
    subst (λ xs. AllNumbered R 0 whole xs) (append-nil ws) (so_far []
    (subst (λ ys. AllNumbered R n ys []) (sym none) tt))

-- what a worker hands back, by its thread or without one
pub through_worker : {H D G : Type 0} (Q : ℕ → G → SeatState → List Ask → D → Type 0) (number : H → ℕ) (gate : H → G)
    (had : H → SeatState) (made : H → List Ask)
    (n : ℕ) (x : G) (was : SeatState) (asks : List Ask) (w : Result H D) (d : D)
    → MatchResult w (λ h. (number h ≡ n) × (gate h ≡ x) × (had h ≡ was) × (made h ≡ asks)) (λ e. Q n x was asks e)
    → MatchResult w (λ h. Q (number h) (gate h) (had h) (made h) d) (λ e. d ≡ e) → Q n x was asks d
through_worker Q number gate had made n x was asks (Ok h) d is done =
    subst (λ m. Q m x was asks d) is.0 (subst (λ y. Q (number h) y was asks d) is.1
    (subst (λ k. Q (number h) (gate h) k asks d) is.2 (subst (λ l. Q (number h) (gate h) (had h) l d) is.3 done)))
through_worker Q number gate had made n x was asks (Err e) d is done = subst (λ y. Q n x was asks y) (sym done) is
