-- A cell whose node accepts calls without random draws stays lawful.
use Rattle.std.proofs.Common.{◌≡◌, ℕ, zero, suc, ◌+◌, ◌<◌, ◌^◌, ◌==◌, List, [], ◌∷◌, ◌++◌, length, None, refl, sym, ap, subst, arith, length-append}
use Rattle.std.specs.Prelude.{if◌then◌else◌}
use Rattle.std.proofs.Math.Dec.{eqb-suc-zero}
use Rattle.rand_chacha.specs.ChaCha.{ChaCha}
use Rattle.node_calls.specs.Asks.{Asked}
use Rattle.node_core.specs.Traces.{Kept, SendsDelta, after_call, entry_for, node_of, refusal}
use Rattle.node_steps.specs.Words.{words_from}
use Rattle.node_registry.specs.Batches.{AreAccepted}
use Rattle.node_registry.specs.Cells.{Cell, IsLawful, IsWithinBounds, cell_after, cell_of, next_words}
use Rattle.node_registry.specs.Words.{words_taken}
use Rattle.node_registry.proofs.EnteredCells.{IsKept}
use Rattle.node_registry.proofs.LawfulCells.{bounds_after, lawful_after}

-- one call
one_stays : (k : Kept) (g : ChaCha) (ask : Asked) → IsKept k g → words_taken k ask ≡ 0 → refusal k ask [] ≡ None →
    SendsDelta (node_of k) ask → IsKept (after_call k ask []) g
one_stays k g ask h taken accepted sends =
    let c : Cell = cell_of k g in
    let none : next_words c ask ≡ [] = ap (words_from g.key k.config.node g.word_pos) taken in
    let place : g.word_pos + words_taken k ask ≡ g.word_pos = omega arith in
    let same : cell_after c ask ≡ cell_of (after_call k ask []) g =
    λ i. record { node = after_call k ask (none i); key = g.key; place = place i } in
    let drawn : refusal k ask (next_words c ask) ≡ None = subst (λ ws. refusal k ask ws ≡ None) (sym none) accepted in
    let few : words_taken k ask < 2 ^ 8 = omega arith in (
      h.0,
      subst IsLawful same (lawful_after c ask h.1 drawn sends),
      subst IsWithinBounds same (bounds_after c ask h.2 drawn few),
    )

-- all of them
pub accepted_stays : (k : Kept) (g : ChaCha) (asks : List Asked) (new : Kept) → AreAccepted k asks new → IsKept k g →
    IsKept new g
accepted_stays k g [] new made h = subst (λ n. IsKept n g) (sym made) h
accepted_stays k g (ask ∷ asks) new made h =
    accepted_stays (after_call k ask []) g asks new made.3 (one_stays k g ask h made.0 made.1 made.2)

-- what they leave as it was, and how many calls there are then
pub accepted_from : (k : Kept) (asks : List Asked) (new : Kept) → AreAccepted k asks new →
    (new.config ≡ k.config) × (new.from ≡ k.from)
accepted_from k [] new made = (ap (λ (n : Kept). n.config) made, ap (λ (n : Kept). n.from) made)
accepted_from k (ask ∷ asks) new made = accepted_from (after_call k ask []) asks new made.3

pub accepted_length : (k : Kept) (asks : List Asked) (new : Kept) → AreAccepted k asks new →
    length new.trace ≡ length k.trace + length asks
accepted_length k [] new made =
    let same : length new.trace ≡ length k.trace = ap (λ (n : Kept). length n.trace) made in
    omega arith
accepted_length k (ask ∷ asks) new made =
    let one : length (k.trace ++ entry_for k ask [] ∷ []) ≡ length k.trace + 1 = length-append k.trace _ in
    let rest = accepted_length (after_call k ask []) asks new made.3 in
    omega arith

-- the number after the last of so many calls, of which there may be none
pub next_as_ever : (more old all : ℕ) → more ≡ 0 → old ≡ (if more == 0 then old else all)
next_as_ever more old all none = sym (ap (λ n. if n == 0 then old else all) none)

pub next_at_end : (more old all : ℕ) → (more ≡ 0 → ⊥) → all ≡ (if more == 0 then old else all)
next_at_end zero old all some = absurd (some refl)
next_at_end (suc n) old all some = sym (ap (λ b. if b then old else all) (eqb-suc-zero n))
