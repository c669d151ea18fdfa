-- What is so of a seat is so of it after it handed calls out.
use Rattle.std.proofs.Common.{ℕ, Bool, List, ◌∙◌, arith}
use Rattle.node_steps.specs.declared.config.Config.{Config}
use Rattle.node_core.specs.Traces.{Kept}
use Rattle.node_registry.specs.Batches.{IsBatch}
use Rattle.node_registry.specs.Cells.{Cell, IsCellSince}
use Rattle.node_registry.specs.Seats.{HasSameCalls, SeatState}

module _ (config : Config) (seed : List ℕ) (keeps : Bool) (seats : ℕ) where
  pub cell_as : (had has : SeatState) (c : Cell) → HasSameCalls had has → IsCellSince config seed keeps seats had c →
      IsCellSince config seed keeps seats has c
  cell_as had has c same h =
      let since = h.0.since in let next = h.1 in (
        record {
          lawful = h.0.lawful;
          since = omega (arith, same.0, since);
          alone = λ one. same.0 ∙ h.0.alone one;
          kept = h.0.kept;
        },
        omega (arith, same.1, next),
      )

  pub batch_as : (had has later : SeatState) (comes : Kept → Kept → Type 0) → HasSameCalls has later →
      IsBatch config seed keeps seats had has comes → IsBatch config seed keeps seats had later comes
  batch_as had has later comes same h = record {
    before = h.before;
    after = h.after;
    asks = h.asks;
    since = h.since;
    entered = h.entered;
    counted = (same.0 ∙ h.counted.0, same.1 ∙ h.counted.1);
    came = h.came;
  }
