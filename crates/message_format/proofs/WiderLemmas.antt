-- A message of a cluster is one of each cluster with more nodes.
use Rattle.std.proofs.Common.{ℕ, ◌≤◌, ◌^◌, List, [], ◌∷◌, arith}
use Rattle.std.specs.List.{AllByRecursion}
use Rattle.stamp_register.specs.Keys.{KeyValue}
use Rattle.message_format.specs.Messages.{EntryValue, MessageValue}
use Rattle.message_format.specs.Spelling.{IsHit, IsExec, IsShift, IsEntry, IsMessage}

each_widens : {C : Type 0} {P Q : C → Type 0} (widens : (c : C) → P c → Q c) (cs : List C) → AllByRecursion P cs →
    AllByRecursion Q cs
each_widens widens [] h = tt
each_widens widens (c ∷ cs) h = (widens c h.0, each_widens widens cs h.1)

module _ (nodes more : ℕ) (le : nodes ≤ more) where
  hit_widens : (c : ℕ × ℕ) → IsHit nodes c → IsHit more c
  hit_widens c h = (omega (arith, h.0), h.1)

  exec_widens : (key : KeyValue) (c : ℕ × ℕ × ℕ) → IsExec nodes key c → IsExec more key c
  exec_widens key c h = (h.0, omega (arith, h.1), h.2)

  shift_widens : (key : KeyValue) (c : ℕ × ℕ × ℕ × ℕ) → IsShift nodes key c → IsShift more key c
  shift_widens key c h = (h.0, omega (arith, h.1), omega (arith, h.2), h.3, h.4)

  entry_widens : (e : EntryValue) → IsEntry nodes e → IsEntry more e
  entry_widens e h = record {
    name = h.name;
    key = record { clock = h.key.clock; node = omega (arith, h.key.node); body = h.key.body };
    few_hits = h.few_hits;
    hits = each_widens hit_widens e.hits h.hits;
    hits_ascend = h.hits_ascend;
    few_execs = h.few_execs;
    execs = each_widens (exec_widens e.key) e.execs h.execs;
    execs_ascend = h.execs_ascend;
    few_shifts = h.few_shifts;
    shifts = each_widens (shift_widens e.key) e.shifts h.shifts;
    shifts_ascend = h.shifts_ascend;
    few_grants = h.few_grants;
    grants = each_widens (exec_widens e.key) e.grants h.grants;
    grants_ascend = h.grants_ascend;
  }

  pub message_widens : (m : MessageValue) → more ≤ 2 ^ 8 → IsMessage nodes m → IsMessage more m
  message_widens m few h = record {
    few_nodes = few;
    from = omega (arith, h.from);
    to = omega (arith, h.to);
    apart = h.apart;
    base = h.base;
    upto = h.upto;
    ack = h.ack;
    entries = record {
      few = h.entries.few;
      each = each_widens entry_widens m.entries h.entries.each;
      ascend =
          h.entries.ascend;
    };
  }
