-- What workers were to call, and what they handed back.
use Rattle.std.proofs.Common.{◌≡◌, ◌≢◌, ◌∙◌, ℕ, ◌+◌, ◌<◌, ◌≤◌, Bool, true, false, ◌||◌, cond, true≢false, List, [], ◌∷◌, ◌++◌, length, map, ap, sym, refl, subst, inl, inr, arith, take, suc}
use Rattle.std.specs.Prelude.{All, MatchBool, count_by, ◌==◌, slice_index_or}
use Rattle.std.specs.List.{AllZip, filter, flat_map, sum_by}
use Rattle.std.proofs.Math.Seq.{take-suc}
use Rattle.std.proofs.lemmas.List.{map-append, map_push, take-map}
use Rattle.std.proofs.lemmas.List.Concat.{flat_map-cons}
use Rattle.std.proofs.lemmas.List.Elements.{All-head, All-tail, filter-append}
use Rattle.std.proofs.lemmas.List.Sums.{sum_by-take-le, sum_by_more}
use Rattle.node_steps.specs.declared.config.Config.{Config}
use Rattle.node_calls.specs.declared.ask.Ask.{Ask}
use Rattle.node_calls.specs.declared.fault.NodeFault.{NodeFault}
use Rattle.node_calls.specs.declared.fault.NodeFault.TheVariants as faults
use Rattle.node_calls.specs.declared.receipt.Receipt.{Receipt}
use Rattle.node_calls.specs.Told.{AskTold, ask_told}
use Rattle.node_registry.specs.Refusals.{Refusal}
use Rattle.node_registry.specs.Workers.{AllNumbered, AreAnswered, IsDone}
use Rattle.node_registry.specs.Workers as workers
use Rattle.node_registry.specs.declared.workers.Done.{Done}
use Rattle.node_registry.specs.declared.workers.Job.{Job}
use Rattle.thread_plans.specs.declared.plan.Block.{Block}
use Rattle.thread_plans.specs.Plans.{BlockValue, block_value}
use Rattle.thread_workers.specs.Asks.{asks_of_block}
use Rattle.thread_workers.specs.Calls.{AreMade, AreOfThread, HandsBack, faults_in, faults_of, faults_told, is_memory, lack_memory, no_call, accepted, refused}
use Rattle.thread_warnings.specs.Runs.{Lists}
use Rattle.thread_workers.specs.Workers.{AreOfWorkers, IsOfBlock, Worked}

both_false : (a b : Bool) → (a || b) ≡ false → (a ≡ false) × (b ≡ false)
both_false true b is = absurd (true≢false is)
both_false false b is = (refl, is)

pub not_memory : (f : NodeFault) → is_memory f ≡ false → f ≢ faults.OutOfMemory
not_memory f is e = true≢false (sym (ap is_memory e) ∙ is)

-- what was answered behind a gate that is never closed was made
answered_made : {config : Config} {seed : List ℕ} {says : ℕ → Bool → Type 0} {hears : ℕ → Type 0} {n : ℕ}
    {asks : List Ask} {receipts : List Receipt} {why : List (ℕ × NodeFault)} {refusals : List Refusal}
    → ((k : ℕ) → says k false → ⊥) → AreAnswered config seed says hears n asks receipts why refusals
    → lack_memory why ≡ false → AreMade config seed (map ask_told asks) receipts refusals
answered_made unclosed workers.ended none = no_call
answered_made unclosed (workers.stopped {n = n} closed) none = absurd (unclosed n closed)
answered_made unclosed (workers.accepted may heard rest) none = accepted (answered_made unclosed rest none)
answered_made unclosed (workers.refused {ask = ask} {fault = fault} {faults = more} may heard is rest) none =
    let both = both_false (is_memory fault) (lack_memory more) none in
    refused ask is (not_memory fault both.0) (answered_made unclosed rest both.1)

-- its faults are those of what was refused
faults_answered : {config : Config} {seed : List ℕ} {says : ℕ → Bool → Type 0} {hears : ℕ → Type 0} {n : ℕ}
    {asks : List Ask} {receipts : List Receipt} {why : List (ℕ × NodeFault)} {refusals : List Refusal}
    → AreAnswered config seed says hears n asks receipts why refusals → faults_in why ≡ faults_of refusals
faults_answered workers.ended = refl
faults_answered (workers.stopped closed) = refl
faults_answered (workers.accepted may heard rest) = faults_answered rest
faults_answered (workers.refused {fault = fault} may heard is rest) = ap (λ fs. fault ∷ fs) (faults_answered rest)

handed_back : (config : Config) (seed : List ℕ) (says : ℕ → Bool → Type 0) (hears : ℕ → Type 0)
    → ((k : ℕ) → says k false → ⊥) → (asks : List Ask) (receipts : List Receipt) (why : List (ℕ × NodeFault))
    (refusals : List Refusal) (started : Bool)
    → MatchBool started (AreAnswered config seed says hears 0 asks receipts why refusals)
    ((receipts ≡ []) × (why ≡ []) × (refusals ≡ []))
    → (faults_in why ≡ faults_of refusals)
    × (lack_memory why ≡ false → AreOfThread config seed (map ask_told asks) receipts refusals)
handed_back config seed says hears unclosed asks receipts why refusals true h =
    (faults_answered h, λ none. inl (answered_made unclosed h none))
handed_back config seed says hears unclosed asks receipts why refusals false h =
    (ap faults_in h.1 ∙ sym (ap faults_of h.2), λ none. inr (h.0, h.2))

-- what workers hand back, behind such a gate
pub each_made : {L : Type 0} (config : Config) (seed : List ℕ) (says : ℕ → ℕ → Bool → Type 0)
    (hears : ℕ → ℕ → Type 0) → ((n k : ℕ) → says n k false → ⊥) → (n : ℕ) (jobs : List (Job L)) (dones : List (Done L))
    → AllNumbered (λ n (j : Job L) (d : Done L). IsDone config seed (says n) (hears n) j.seat j.asks.items d) n jobs
    dones
    → AllZip (λ (j : Job L) (d : Done L). HandsBack config seed (map ask_told j.asks.items) d) jobs dones
each_made config seed says hears unclosed n [] [] h = tt
each_made config seed says hears unclosed n [] (d ∷ ds) h = absurd h
each_made config seed says hears unclosed n (j ∷ js) [] h = absurd h
each_made config seed says hears unclosed n (j ∷ js) (d ∷ ds) h = (
  handed_back config seed (says n) (hears n) (unclosed n) j.asks.items d.receipts.items d.faults.items d.refusals
      d.started h.0.answered,
  each_made config seed says hears unclosed (n + 1) js ds h.1,
)

-- ---- the jobs of blocks

-- the first elements, and one more
pub take_one_more : {A B : Type 0} (f : A → B) (xs : List A) (i : ℕ) (x : A) → i < length xs →
    x ≡ slice_index_or xs i x → take (i + 1) (map f xs) ≡ take i (map f xs) ++ f x ∷ []
take_one_more f xs i x below is =
    let one : suc i ≡ i + 1 = omega arith in
    let next : take (suc i) xs ≡ take i xs ++ x ∷ [] =
    take-suc xs i x below ∙ ap (λ y. take i xs ++ y ∷ []) (sym is) in
    subst (λ k. take k (map f xs) ≡ take i (map f xs) ++ f x ∷ []) one
    (take-map f (suc i) xs ∙ ap (map f) next ∙ map_push f (take i xs) x
    ∙ ap (λ ys. ys ++ f x ∷ []) (sym (take-map f i xs)))

pub take_more_at : {A B : Type 0} (f : A → B) (xs : List A) (i : ℕ) (d : A) → i < length xs →
    take (i + 1) (map f xs) ≡ take i (map f xs) ++ f (slice_index_or xs i d) ∷ []
take_more_at f xs i d below =
    let one : suc i ≡ i + 1 = omega arith in
    let x = slice_index_or xs i d in
    subst (λ k. take k (map f xs) ≡ take i (map f xs) ++ f x ∷ []) one
    (take-map f (suc i) xs ∙ ap (map f) (take-suc xs i d below) ∙ map_push f (take i xs) x
    ∙ ap (λ ys. ys ++ f x ∷ []) (sym (take-map f i xs)))

kept_one : {A B : Type 0} (f : A → B) (x : A) (kept : Bool) → map f (cond kept (x ∷ []) []) ≡ cond kept (f x ∷ []) []
kept_one f x true = refl
kept_one f x false = refl

-- how many of the first blocks are a node's, and with one block more
pub count_more : (node : ℕ) (blocks : List Block) (i : ℕ) (x : Block) → i < length blocks →
    x ≡ slice_index_or blocks i x
    → (count_by (λ b. b.node == node) (take (i + 1) blocks) ≡ count_by (λ b. b.node == node) (take i blocks) +
    cond (x.node == node) 1 0)
    × (count_by (λ b. b.node == node) (take (i + 1) blocks) ≤ count_by (λ b. b.node == node) blocks)
count_more node blocks i x below is =
    let one : Block → ℕ = λ b. cond (b.node == node) 1 0 in
    let more : sum_by one (take (i + 1) blocks) ≡ sum_by one (take i blocks) + one x =
    subst (λ b. sum_by one (take (i + 1) blocks) ≡ sum_by one (take i blocks) + one b) (sym is)
    (sum_by_more one blocks i x below) in
    (more, sum_by-take-le one blocks (i + 1))

-- what the first blocks of a node ask, and one block more
pub asks_more : (blocks : List Block) (node i : ℕ) (x : Block) → i < length blocks → x ≡ slice_index_or blocks i x →
    (was now : List (List AskTold))
    → was ≡ map asks_of_block (filter (λ b. b.node == node) (take i (map block_value blocks)))
    → now ≡ was ++ cond (x.node == node) (asks_of_block (block_value x) ∷ []) []
    → now ≡ map asks_of_block (filter (λ b. b.node == node) (take (i + 1) (map block_value blocks)))
asks_more blocks node i x below is was now so_far more =
    let test : BlockValue → Bool = λ b. b.node == node in
    let block = block_value x in
    let first = take i (map block_value blocks) in
    let longer : map asks_of_block (filter test (first ++ block ∷ [])) ≡ map asks_of_block (filter test first) ++
    cond (test block) (asks_of_block block ∷ []) [] =
    ap (map asks_of_block) (filter-append test first (block ∷ []))
    ∙ map-append asks_of_block (filter test first) (filter test (block ∷ []))
    ∙ ap (λ ys. map asks_of_block (filter test first) ++ ys) (kept_one asks_of_block block (test block)) in
    more ∙ ap (λ ys. ys ++ cond (test block) (asks_of_block block ∷ []) []) so_far ∙ sym longer
    ∙ ap (λ ys. map asks_of_block (filter test ys)) (sym (take_one_more block_value blocks i x below is))

abbrev pub rest_of : {A : Type 0} → List A → List A
rest_of [] = []
rest_of (x ∷ xs) = xs

abbrev pub first_or : {A : Type 0} → A → List A → A
first_or d [] = d
first_or d (x ∷ xs) = x

nil_not_cons : {A : Type 0} {x : A} {xs : List A} → [] ≡ x ∷ xs → ⊥
nil_not_cons {A = A} {x = x} {xs = xs} e = let n : 0 ≡ length (x ∷ xs) = ap length e in omega (arith, n)

-- what a worker came to that handed this back
abbrev worked_of : {L : Type 0} → Done L → Worked
worked_of d = (d.receipts, d.refusals)

-- the lists of workers
lists_of_workers : {L : Type 0} (dones : List (Done L))
    → map (λ (w : Worked). w.0) (map (λ (d : Done L). worked_of d) dones) ≡ map (λ (d : Done L). d.receipts) dones
lists_of_workers [] = refl
lists_of_workers (d ∷ ds) = ap (λ ls. d.receipts ∷ ls) (lists_of_workers ds)

-- and why their calls were refused
faults_of_workers : {L : Type 0} (config : Config) (seed : List ℕ) (jobs : List (Job L)) (dones : List (Done L))
    → AllZip (λ (j : Job L) (d : Done L). HandsBack config seed (map ask_told j.asks.items) d) jobs dones
    → flat_map (λ (d : Done L). faults_told d) dones
    ≡ flat_map (λ (w : Worked). faults_of w.1) (map (λ (d : Done L). worked_of d) dones)
faults_of_workers config seed [] [] back = refl
faults_of_workers config seed [] (d ∷ ds) back = absurd back
faults_of_workers config seed (j ∷ js) [] back = absurd back
faults_of_workers {L = L} config seed (j ∷ js) (d ∷ ds) back =
    let told : Done L → List NodeFault = λ d. faults_told d in
    let refused : Worked → List NodeFault = λ w. faults_of w.1 in
    let others = map (λ (d : Done L). worked_of d) ds in
    flat_map-cons told d ds ∙ ap (λ fs. fs ++ flat_map told ds) back.0.0
    ∙ ap (λ fs. faults_of d.refusals ++ fs) (faults_of_workers config seed js ds back.1)
    ∙ sym (flat_map-cons refused (worked_of d) others)

-- what workers came to whose jobs are those of blocks
of_blocks : {L : Type 0} (config : Config) (seed : List ℕ) (blocks : List BlockValue) (jobs : List (Job L))
    (dones : List (Done L))
    → map (λ (j : Job L). map ask_told j.asks.items) jobs ≡ map asks_of_block blocks
    → AllZip (λ (j : Job L) (d : Done L). HandsBack config seed (map ask_told j.asks.items) d) jobs dones
    → All (λ (d : Done L). lack_memory d.faults.items ≡ false) dones
    → AllZip (IsOfBlock config seed) blocks (map (λ (d : Done L). worked_of d) dones)
of_blocks config seed [] [] [] same back memory = tt
of_blocks config seed [] [] (d ∷ ds) same back memory = absurd back
of_blocks config seed [] (j ∷ js) dones same back memory = absurd (nil_not_cons (sym same))
of_blocks config seed (b ∷ bs) [] dones same back memory = absurd (nil_not_cons same)
of_blocks config seed (b ∷ bs) (j ∷ js) [] same back memory = absurd back
of_blocks {L = L} config seed (b ∷ bs) (j ∷ js) (d ∷ ds) same back memory =
    let here : map ask_told j.asks.items ≡ asks_of_block b = ap (first_or (asks_of_block b)) same in (
      subst (λ asks. AreOfThread config seed asks d.receipts.items d.refusals) here
          (back.0.1 (All-head (λ (d : Done L). lack_memory d.faults.items ≡ false) d ds memory)),
      of_blocks config seed bs js ds (ap rest_of same) back.1
          (All-tail (λ (d : Done L). lack_memory d.faults.items ≡ false) d ds memory),
    )

-- so the lists and the faults of workers that were to do what blocks ask
pub of_workers : {L : Type 0} (config : Config) (seed : List ℕ) (blocks : List BlockValue) (jobs : List (Job L))
    (dones : List (Done L)) (lists : Lists) (faults : List NodeFault)
    → map (λ (j : Job L). map ask_told j.asks.items) jobs ≡ map asks_of_block blocks
    → AllZip (λ (j : Job L) (d : Done L). HandsBack config seed (map ask_told j.asks.items) d) jobs dones
    → All (λ (d : Done L). lack_memory d.faults.items ≡ false) dones
    → faults ≡ flat_map (λ (d : Done L). faults_told d) dones → lists ≡ map (λ (d : Done L). d.receipts) dones
    → AreOfWorkers config seed blocks lists faults
of_workers {L = L} config seed blocks jobs dones lists faults same back memory why all = record {
  workers = map (λ (d : Done L). worked_of d) dones;
  all = all ∙ sym (lists_of_workers dones);
  refused = why ∙ faults_of_workers config seed jobs dones back;
  worked = of_blocks config seed blocks jobs dones same back memory;
}
