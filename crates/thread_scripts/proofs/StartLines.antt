-- What a node does before its workers, line by line.
use Rattle.std.proofs.Common.{◌≡◌, ◌≢◌, ◌∙◌, ℕ, ◌+◌, ◌<◌, List, [], ◌∷◌, ◌++◌, length, map, ap, sym, refl, subst, take, append_assoc, arith, length-take}
use Rattle.std.specs.Prelude.{slice_index_or, ◌==◌, false, true}
use Rattle.std.proofs.lemmas.List.{append-nil, length-map}
use Rattle.node_steps.specs.declared.config.Config.{Config}
use Rattle.node_calls.specs.declared.ask.Ask.{Ask}
use Rattle.node_calls.specs.declared.fault.NodeFault.{NodeFault}
use Rattle.node_calls.specs.declared.fault.NodeFault.TheVariants as faults
use Rattle.node_calls.specs.declared.receipt.Receipt.{Receipt}
use Rattle.node_calls.specs.Asks.{ask_value_first}
use Rattle.node_calls.specs.Told.{AskTold, ask_told}
use Rattle.node_registry.specs.Receipts.{IsRefused}
use Rattle.node_registry.specs.Refusals.{Refusal}
use Rattle.gossip.specs.declared.report.Ended.{Ended}
use Rattle.gossip.specs.declared.report.Ended.TheVariants as ends
use Rattle.thread_plans.specs.declared.plan.StartLine.{StartLine}
use Rattle.thread_plans.specs.Lines.{StartValue, spreads}
use Rattle.thread_plans.specs.Plans.{start_line_value}
use Rattle.thread_warnings.specs.Runs.{FaultList, StartFaults}
use Rattle.thread_workers.specs.Calls.{AreMade, faults_of, no_call, accepted, refused}
use Rattle.thread_scripts.specs.Calls.{Adds, AreOfLine, AreOfSpread, AreOfStarts, placed, no_line, next_line}
use Rattle.thread_workers.proofs.Made.{take_more_at}

pub done_of : (e : Ended) → e ≢ ends.OutOfMemory → e ≡ ends.Done
done_of ends.Done not = refl
done_of ends.OutOfMemory not = absurd (not refl)

-- one line more, at the end
line_behind : {config : Config} {seed : List ℕ} {first : ℕ} {lines : List (ℕ × StartValue)} {receipts : List Receipt}
    {refusals : List Refusal} {told : StartFaults} (place : ℕ) (line : ℕ × StartValue) (more : List Receipt)
    (noted : List Refusal) → place ≡ first + length lines
    → AreOfStarts config seed first lines receipts refusals told → AreOfLine config seed line more noted →
    AreOfStarts config seed first (lines ++ line ∷ []) (receipts ++ more) (refusals ++ noted)
    (told ++ placed place (faults_of noted))
line_behind {config = config} {seed = seed} {first = first} place line more noted at no_line here =
    let last : StartFaults = placed first (faults_of noted) in
    let same : first ≡ place = omega (arith, at) in
    subst (λ k. AreOfStarts config seed first (line ∷ []) more noted (placed k (faults_of noted))) same
    (subst (λ ts. AreOfStarts config seed first (line ∷ []) more noted ts) (append-nil last)
    (subst (λ rs. AreOfStarts config seed first (line ∷ []) rs noted (last ++ [])) (append-nil more)
    (subst (λ ns. AreOfStarts config seed first (line ∷ []) (more ++ []) ns (last ++ [])) (append-nil noted)
    (next_line more [] noted [] here no_line))))
line_behind {config = config} {seed = seed} {first = first} place line more noted at
    (next_line {line = head} {lines = lines} {later = later} these rest its others this those) here =
    let front : StartFaults = placed first (faults_of its) in
    let last : StartFaults = placed place (faults_of noted) in
    let there : place ≡ first + 1 + length lines = omega (arith, at) in
    subst (λ rs. AreOfStarts config seed first (head ∷ lines ++ line ∷ []) rs ((its ++ others) ++ noted)
    ((front ++ later) ++ last))
    (sym (append_assoc these rest more))
    (subst (λ ns. AreOfStarts config seed first (head ∷ lines ++ line ∷ []) (these ++ (rest ++ more)) ns
    ((front ++ later) ++ last))
    (sym (append_assoc its others noted))
    (subst (λ ts. AreOfStarts config seed first (head ∷ lines ++ line ∷ []) (these ++ (rest ++ more))
    (its ++ (others ++ noted)) ts)
    (sym (append_assoc front later last))
    (next_line these (rest ++ more) its (others ++ noted) this (line_behind place line more noted there those here))))

pub lines_more : (config : Config) (seed : List ℕ) (starts : List StartLine) (i : ℕ) (d : StartLine) →
    i < length starts → (place : ℕ) → place ≡ i
    → (was now : List Receipt) (noted noted_now : List Refusal) (told told_now : StartFaults) (why : FaultList)
    → AreOfStarts config seed 0 (take i (map start_line_value starts)) was noted told
    → Adds (AreOfLine config seed (start_line_value (slice_index_or starts i d))) was now noted noted_now why
    → told_now ≡ told ++ placed place why
    → AreOfStarts config seed 0 (take (i + 1) (map start_line_value starts)) now noted_now told_now
lines_more config seed starts i d below place here was now noted noted_now told told_now why so_far adds grown =
    let lines = map start_line_value starts in
    let many : length (take i lines) ≡ i =
    omega (arith, below, length-take i lines, length-map starts start_line_value) in
    let at : place ≡ 0 + length (take i lines) = omega (arith, here, many) in
    rw (take_more_at start_line_value starts i d below, adds.2, adds.3, grown, adds.4)
    (line_behind place (start_line_value (slice_index_or starts i d)) adds.0 adds.1 at so_far adds.5)

-- a call that was accepted, or refused
pub made_one : (config : Config) (seed : List ℕ) (r : Receipt) (ask : Ask) (told : AskTold) → r.entry.ask ≡ ask →
    ask_told ask ≡ told → AreMade config seed (told ∷ []) (r ∷ []) []
made_one config seed r ask told asked is =
    subst (λ t. AreMade config seed (t ∷ []) (r ∷ []) []) (ap ask_told asked ∙ is) (accepted no_call)

pub refused_one : (config : Config) (seed : List ℕ) (fault : NodeFault) (ask : Ask) (told : AskTold) →
    IsRefused config seed (ask_value_first config.nodes ask) fault → fault ≢ faults.OutOfMemory → ask_told ask ≡ told →
    AreMade config seed (told ∷ []) [] ((ask, fault) ∷ [])
refused_one config seed fault ask told by memory is =
    subst (λ t. AreMade config seed (t ∷ []) [] ((ask, fault) ∷ [])) is (refused ask by memory no_call)

-- nothing was added
pub adds_none : (Are : List Receipt → List Refusal → Type 0) (was : List Receipt) (noted : List Refusal) → Are [] [] →
    Adds Are was was noted noted []
adds_none Are was noted none = ([], [], sym (append-nil was), sym (append-nil noted), refl, none)

-- a line of another node asks nothing
pub other_line : (config : Config) (seed : List ℕ) (line : ℕ × StartValue) → (line.0 == config.node) ≡ false →
    AreOfLine config seed line [] []
other_line config seed line other = rw other (refl, refl)

-- a spread notes no refusal
pub spread_line : (config : Config) (seed : List ℕ) (line : ℕ × StartValue) (name : List ℕ) (receipts : List Receipt) →
    (line.0 == config.node) ≡ true → line.1 ≡ spreads name → AreOfSpread config seed name receipts →
    AreOfLine config seed line receipts []
spread_line config seed line name receipts own is done = rw (own, is) (done, refl)
