use Rattle.std.proofs.Common.{◌≡◌, ◌+◌, ◌++◌, ℕ, List, length, ap, ◌∙◌, arith}
use Rattle.std.proofs.lemmas.List.{length-append}
use Rattle.node_calls.specs.Told.{Told}
use Rattle.packed_trace.specs.Packed.{Packed}
use Rattle.history.specs.Histories.{told_in}
use Rattle.history.proofs.Lemmas.{all_told, part_told}
use Rattle.history.proofs.history.History.give.Goals as goal

pub invariant_of-self : goal.invariant_of-self
invariant_of-self c =
    let h = c.self.inside in
    let part = c.replace-part.result in
    let left = c.replace-part.new.dest.calls in
    let none = ap (λ (p : Packed). p.calls) c.replace-part.ensures.after ∙ c.new.ensures.calls in
    let told = part_told h.past.items c.add.new.self.items part h.kept left c.add.ensures c.replace-part.ensures.value none in
    let all = all_told h.past.items c.add.new.self.items part h.kept left c.add.ensures c.replace-part.ensures.value none in
    let count = ap length told ∙ length-append (told_in h.past.items) h.kept.calls in
    let long = ap length all in
    let len = c.len.ensures ∙ ap (λ (p : Packed). length p.calls) c.replace-part.ensures.value in
    let from = c.self.invariant.0 in
    let few = c.self.invariant.1 in
    (omega (arith, count, len, from), omega (arith, long, few))

pub returns-clause-calls : goal.returns-clause-calls
returns-clause-calls c =
    let h = c.self.inside in
    let part = c.replace-part.result in
    let left = c.replace-part.new.dest.calls in
    let none = ap (λ (p : Packed). p.calls) c.replace-part.ensures.after ∙ c.new.ensures.calls in
    let all = all_told h.past.items c.add.new.self.items part h.kept left c.add.ensures c.replace-part.ensures.value none in
    let len = c.len.ensures ∙ ap (λ (p : Packed). length p.calls) c.replace-part.ensures.value in
    let long = length-append (told_in h.past.items) h.kept.calls in
    let from = c.self.invariant.0 in
    let count : h.from + c.len.result ≡ length (told_in h.past.items ++ h.kept.calls) = omega (arith, long, len, from) in
    ap (λ (calls : List Told). record { all = calls; from = h.from + c.len.result }) all
    ∙ ap (λ (n : ℕ). record { all = told_in h.past.items ++ h.kept.calls; from = n }) count
    ∙ ap (λ (value : _). record { all = value.calls.all; from = length value.calls.all }) c.self.view_is
