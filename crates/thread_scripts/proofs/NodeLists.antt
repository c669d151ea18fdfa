-- The lists of a node's receipts, and those of all nodes.
use Rattle.std.proofs.Common.{◌≡◌, ◌∙◌, ℕ, ◌+◌, List, [], ◌∷◌, ◌++◌, length, length-append, ap, sym, refl, subst, append_assoc, Some, None, arith}
use Rattle.std.specs.Prelude.{Vec}
use Rattle.std.specs.declared.alloc.Global.{Global}
use Rattle.std.specs.List.{flat_map}
use Rattle.std.proofs.lemmas.Grind.{flat_map-append}
use Rattle.std.proofs.lemmas.List.{append-nil}
use Rattle.node_steps.specs.declared.config.Config.{Config}
use Rattle.node_calls.specs.declared.fault.NodeFault.{NodeFault}
use Rattle.node_calls.specs.declared.receipt.Receipt.{Receipt}
use Rattle.audit.specs.Receipts.{Lists}
use Rattle.gossip.specs.Mailboxes.{Place}
use Rattle.thread_plans.specs.declared.plan.Rounds.{Rounds}
use Rattle.thread_plans.specs.Plans.{BlockValue, PlanValue}
use Rattle.thread_warnings.specs.Runs.{RunFaults}
use Rattle.thread_workers.specs.declared.waits.Await.{Await}
use Rattle.thread_workers.specs.Waits.{AreWaited}
use Rattle.thread_workers.specs.Workers.{AreOfWorkers}
use Rattle.thread_scripts.specs.Gossips.{IsGossip}
use Rattle.thread_scripts.specs.Plays.{AreListsBelow, AreOfNode, AreOfWork, Part, config_at, gossip_at}
use Rattle.thread_scripts.proofs.Numbered.{AllFrom-push}

-- workers alone
pub of_workers : (config : Config) (seed : List ℕ) (blocks : List BlockValue) (waits : List Await)
    (worked was lists : Lists) (faults : List NodeFault) (vain : List ℕ)
    → AreOfWorkers config seed blocks worked faults → lists ≡ was ++ worked → AreWaited config seed [] waits vain
    → AreOfWork config seed blocks None waits was lists faults vain
of_workers config seed blocks waits worked was lists faults vain made then waited = record {
  worked = worked;
  gossiped = [];
  all = then ∙ ap (λ ls. was ++ ls) (sym (append-nil worked));
  made = made;
  told = refl;
  waited = waited;
}

-- workers, and gossip beside them
pub of_both : (config : Config) (seed : List ℕ) (blocks : List BlockValue) (gossip : Place × Rounds) (now : Place)
    (waits : List Await) (receipts : Vec Receipt Global) (worked was between lists : Lists) (faults : List NodeFault)
    (vain : List ℕ) → AreOfWorkers config seed blocks worked faults → between ≡ was ++ worked
    → lists ≡ between ++ receipts ∷ [] → IsGossip config seed gossip now receipts.items
    → AreWaited config seed receipts.items waits vain
    → AreOfWork config seed blocks (Some gossip) waits was lists faults vain
of_both config seed blocks gossip now waits receipts worked was between lists faults vain made first then is waited =
    record {
      worked = worked;
      gossiped = receipts ∷ [];
      all = then ∙ ap (λ ls. ls ++ receipts ∷ []) first ∙ append_assoc was worked (receipts ∷ []);
      made = made;
      told = (receipts, now, refl, is);
      waited = subst (λ rs. AreWaited config seed rs waits vain) (sym (append-nil receipts.items)) waited;
    }

-- the lists of no node
pub below_none : (plan : PlanValue) (waits : List Await) → AreListsBelow plan waits 0 [] ([], []) []
below_none plan waits =
    record { parts = []; number = refl; all = refl; starts = refl; refused = refl; waited = refl; each = tt }

-- what each of some parts has, and one part more
one_more : {A : Type 0} (f : Part → List A) (parts : List Part) (part : Part) (was now : List A)
    → was ≡ flat_map f parts → now ≡ was ++ f part → now ≡ flat_map f (parts ++ part ∷ [])
one_more f parts part was now so_far is =
    is ∙ ap (λ xs. xs ++ f part) so_far ∙ ap (λ xs. flat_map f parts ++ xs) (sym (append-nil (f part)))
    ∙ sym (flat_map-append f parts (part ∷ []))

-- the lists of one node more
pub below_more : (plan : PlanValue) (waits : List Await) (n : ℕ) (lists new : Lists) (faults after : RunFaults)
    (vain lines : List ℕ) (part : Part) → AreListsBelow plan waits n lists faults vain
    → AreOfNode (config_at plan n) plan.seed plan (gossip_at plan n) waits part.lists part.faults part.vain
    → new ≡ lists ++ part.lists → after.0 ≡ faults.0 ++ part.faults.0 → after.1 ≡ faults.1 ++ part.faults.1
    → lines ≡ vain ++ part.vain → AreListsBelow plan waits (n + 1) new after lines
below_more plan waits n lists new faults after vain lines part so_far here is before also named =
    let parts = so_far.parts in
    let there : n ≡ 0 + length parts = omega (arith, so_far.number) in record {
      parts = parts ++ part ∷ [];
      number = omega (arith, so_far.number, length-append parts (part ∷ []));
      all = one_more (λ p. p.lists) parts part lists new so_far.all is;
      starts = one_more (λ p. p.faults.0) parts part faults.0 after.0 so_far.starts before;
      refused = one_more (λ p. p.faults.1) parts part faults.1 after.1 so_far.refused also;
      waited = one_more (λ p. p.vain) parts part vain lines so_far.waited named;
      each = AllFrom-push _ 0 parts part so_far.each
          (subst (λ k. AreOfNode (config_at plan k) plan.seed plan (gossip_at plan k) waits part.lists part.faults
          part.vain) there here);
    }
