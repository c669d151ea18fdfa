use Rattle.std.proofs.Common.{◌≡◌, ◌≤◌, ◌++◌, drop}
use Rattle.thread_warnings.specs.RefusedStarts.{refused_from}
use Rattle.thread_warnings.proofs.refused_starts.say_refused_starts.Given as goal

-- what was said, and what is said of the lines that are left, are what is said of all
abbrev pub invariant-loop-number : goal.invariant-loop-number
invariant-loop-number l = record {
  counted : l.place ≡ l.number-index;
  few : l.named ≤ l.place;
  said : l.said ++ refused_from l.refused l.place l.named (drop l.number-index l.numbers)
      ≡ l.initial.said ++ refused_from l.refused 0 0 l.numbers;
}
