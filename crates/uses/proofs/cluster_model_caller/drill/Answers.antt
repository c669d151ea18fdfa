use Rattle.std.proofs.Common.{◌≡◌, ℕ, ◌+◌, ◌≤◌, arith, List, [], subst, Some, count_by}
use Rattle.stamp_register.specs.Keys.{KeyValue, stamp_of}
use Rattle.operations.specs.Operations.{count_of}
use Rattle.cluster_model.specs.Events.{WorldValue, new_world}
use Rattle.cluster_model.specs.Worlds.{Cluster}
use Rattle.cluster_model.specs.Histories.{IsIssued, all_executions, all_granted}
use Rattle.cluster_model.specs.Laws.{EscrowHolds}
use Rattle.cluster_model.specs.declared.event.Event as code
use Rattle.cluster_model.specs.declared.run.RunReport.{RunReport}
use Rattle.cluster_model.specs.Runs.{Afterwards, HasHistory, TellsExecutions, asked, told, happened_after, tells_act}
use Rattle.uses.proofs.cluster_model_caller.drill.Goals as goal

-- the answers tell of each execution, and these are within the budget
abbrev IsBounded : Cluster → WorldValue → List code.Event → RunReport → Type 0
IsBounded c w events report = (name : List ℕ) (key : KeyValue) (term count : ℕ) →
    IsIssued c (happened_after [] w (asked events) (told w report)) name key → count_of key term ≡ Some count →
    count_by (tells_act (stamp_of key) term) (told w report) ≤ count + all_granted c
    (happened_after [] w (asked events) (told w report)) name key term

bounded : (c : Cluster) (w : WorldValue) (events : List code.Event) (report : RunReport) → HasHistory c [] w
    → TellsExecutions w (asked events) (told w report) → Afterwards w (asked events) (told w report) EscrowHolds →
    IsBounded c w events report
bounded c w events report has executions escrow name key term count issued counted =
    let told_all = executions c [] has (stamp_of key) term in
    let most = (escrow c [] has name key term count issued counted).at_most in
    omega (arith, told_all, most)

pub returns-in-Ok : goal.returns-in-Ok
returns-in-Ok c =
    let cluster : Cluster = record { nodes = c.args.nodes; trace_cap = c.args.trace_cap } in
    subst (λ (w : WorldValue). IsBounded cluster w c.args.events.now c.in-Ok.report) c.in_ok-world.ensures.ok
    (bounded cluster c.in_ok-world.world c.args.events.now c.in-Ok.report c.in_ok-world.ensures.history
    c.in-Ok.ensures.executions c.in-Ok.ensures.escrow)
