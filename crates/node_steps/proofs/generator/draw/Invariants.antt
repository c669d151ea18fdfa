use Rattle.std.proofs.Common.{◌≡◌, ◌≤◌, vec_len, vec_capacity}
use Rattle.node_steps.specs.Words.{words_next, place_after}
use Rattle.node_steps.proofs.generator.draw.Given as goal

abbrev pub invariant-loop : goal.invariant-loop
invariant-loop l = record {
  room : l.count ≤ vec_capacity l.words;
  len : vec_len l.words ≡ l.counter;
  drawn : l.words.items ≡ words_next l.initial.generator l.counter;
  place : l.generator ≡ place_after l.initial.generator l.counter;
}
