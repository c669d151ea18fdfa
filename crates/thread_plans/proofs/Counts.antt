-- How many elements of a list pass a test, and how many lines a text has.
use Rattle.std.proofs.Common.{◌≡◌, ℕ, ◌+◌, ◌-◌, ◌<◌, ◌≤◌, ◌==◌, Bool, true, false, cond, List, [], ◌∷◌, ◌++◌, length, refl, arith}
use Rattle.std.specs.List.{count_by}
use Rattle.std.proofs.lemmas.Bool.Decides.{nat_tests}
use Rattle.std.proofs.lemmas.List.Splits.{length-slice_split}
use Rattle.std.proofs.lemmas.List.Sums.{count_by-le-length, fold-append}
use Rattle.streams.specs.Fields.{lines_of, newline}
use Rattle.thread_plans.specs.declared.plan.Block.{Block}
use Rattle.thread_plans.specs.Plans.{ends_line, line_count}

pub count_by-push : {X : Type 0} (p : X → Bool) (xs : List X) (x : X) →
    count_by p (xs ++ x ∷ []) ≡ count_by p xs + cond (p x) 1 0
count_by-push p xs x = fold-append (λ n y. n + cond (p y) 1 0) 0 xs (x ∷ [])

few_more : (bs : List Block) (b : Block) (node most : ℕ) (here : Bool) → (b.node == node) ≡ here →
    count_by (λ x. x.node == node) bs ≤ most → count_by (λ x. x.node == b.node) bs < most →
    count_by (λ x. x.node == node) bs + cond here 1 0 ≤ most
few_more bs b node most true e few room =
    let same : b.node ≡ node = grind (arith, nat_tests) in
    let less = rw same at room in
    omega arith
few_more bs b node most false e few room = omega arith

-- a block more of a node that has fewer than the most
pub few_with : (bs all : List Block) (b : Block) (node most : ℕ) → all ≡ bs ++ b ∷ [] →
    count_by (λ x. x.node == node) bs ≤ most → count_by (λ x. x.node == b.node) bs < most →
    count_by (λ x. x.node == node) all ≤ most
few_with bs all b node most e few room =
    rw (e, count_by-push (λ x. x.node == node) bs b) (few_more bs b node most (b.node == node) refl few room)

-- a text has a line at least, and no more than its bytes and one
pub length-lines_of : (text : List ℕ) → (1 ≤ length (lines_of text)) × (length (lines_of text) ≤ length text + 1)
length-lines_of text =
    let n = length-slice_split (λ byte. byte == newline) text in
    let most = count_by-le-length (λ byte. byte == newline) text in
    (omega arith, omega arith)

behind_last : (n number less : ℕ) (ends : Bool) → 1 ≤ n → number ≡ n + 1 → less ≡ cond ends 1 0 →
    cond ends (n - 1) n + 1 ≡ number - less
behind_last n number less true h e f = omega arith
behind_last n number less false h e f = omega arith

-- the number behind the last line
pub line_count-next : (text : List ℕ) (number less : ℕ) → number ≡ length (lines_of text) + 1 →
    less ≡ cond (ends_line text) 1 0 → line_count text + 1 ≡ number - less
line_count-next text number less e f =
    behind_last (length (lines_of text)) number less (ends_line text) ((length-lines_of text).0) e f
