-- What is said of workers, one after the other.
use Rattle.std.proofs.Common.{◌≡◌, ℕ, ◌+◌, ◌<◌, ◌≤◌, Bool, true, false, List, ◌++◌, length, drop, map, sym, ap, ◌∙◌, append_assoc, arith}
use Rattle.std.specs.Prelude.{nat_lt, slice_index_or}
use Rattle.std.proofs.lemmas.List.{at_drop_more, at_drop_all, get_or-map, length-map}
use Rattle.thread_warnings.specs.Runs.{Lists}
use Rattle.thread_plans.specs.declared.plan.Block.{Block}
use Rattle.thread_plans.specs.BadLines.{count_one}
use Rattle.thread_plans.specs.Plans.{BlockValue, PlanValue, block_value}
use Rattle.thread_warnings.specs.Short.{number_at, short_of, short_said, short_sum, shorts_from}

pub no_more : (b : Bool) (n m k next : ℕ) → n ≤ m → k ≡ n + count_one b → next ≡ m + 1 → k ≤ next
no_more true n m k next h e f = omega arith
no_more false n m k next h e f = omega arith

module _ (plan : PlanValue) (lists : Lists) (numbers : List ℕ) (blocks : List Block) (i : ℕ) where
  abbrev said_then : ℕ → ℕ → BlockValue → List (List ℕ)
  said_then before named b =
      short_said named (number_at numbers before) (short_of plan lists before b)
      ++ shorts_from plan lists numbers (before + 1) (named + count_one (nat_lt 0 (short_of plan lists before b)))
      (drop (i + 1) (map block_value blocks))

  shorts-drop : (before named : ℕ) (x : Block) → i < length blocks → x ≡ slice_index_or blocks i x →
      shorts_from plan lists numbers before named (drop i (map block_value blocks)) ≡ said_then before named
      (block_value x)
  shorts-drop before named x below here =
      let there : i < length (map block_value blocks) = omega (arith, length-map blocks block_value) in
      at_drop_more (shorts_from plan lists numbers before named) (map block_value blocks) i (block_value x) there
      ∙ ap (said_then before named) (get_or-map block_value blocks i x (block_value x) below ∙ ap block_value (sym here))

  -- with one worker more
  pub one_short : (before named later after : ℕ) (x : Block) (out longer all : List (List ℕ)) → i < length blocks →
      x ≡ slice_index_or blocks i x
      → out ++ shorts_from plan lists numbers before named (drop i (map block_value blocks)) ≡ all →
      longer ≡ out ++ short_said named (number_at numbers before) (short_of plan lists before (block_value x)) → later ≡ before + 1 →
      after ≡ named + count_one (nat_lt 0 (short_of plan lists before (block_value x))) →
      longer ++ shorts_from plan lists numbers later after (drop (i + 1) (map block_value blocks)) ≡ all
  one_short before named later after x out longer all below here so_far grown stepped counted =
      let next_one = shorts-drop before named x below here in
      rw (stepped, counted, grown) (rw append_assoc (ap (λ y. out ++ y) (sym next_one) ∙ so_far))

  -- behind the last
  pub all_short : (before named : ℕ) (out longer all : List (List ℕ)) → length blocks ≤ i →
      out ++ shorts_from plan lists numbers before named (drop i (map block_value blocks)) ≡ all →
      longer ≡ out ++ short_sum named → longer ≡ all
  all_short before named out longer all past so_far grown =
      let none : shorts_from plan lists numbers before named (drop i (map block_value blocks)) ≡ short_sum named =
      at_drop_all (shorts_from plan lists numbers before named) (map block_value blocks) i
      (omega (arith, length-map blocks block_value)) in
      grown ∙ ap (λ x. out ++ x) (sym none) ∙ so_far
