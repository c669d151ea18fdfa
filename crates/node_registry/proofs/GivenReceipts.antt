-- What a call under a lock says once the lock is let go.
use Rattle.std.proofs.Common.{◌≡◌, ℕ, List, Result, Ok, Err, inl, refl, ap, ◌∙◌, subst}
use Rattle.std.specs.Prelude.{IfOk, IfErr}
use Rattle.std.specs.Result.{IsErrAnd}
use Rattle.std.proofs.lemmas.Result.{err_from_is_err_and}
use Rattle.node_calls.specs.declared.ask.Ask.{Ask}
use Rattle.node_steps.specs.declared.config.Config.{Config}
use Rattle.node_calls.specs.declared.fault.NodeFault.{NodeFault}
use Rattle.node_calls.specs.declared.fault.NodeFault.TheVariants.{OutOfMemory}
use Rattle.node_calls.specs.declared.receipt.Receipt.{Receipt}
use Rattle.node_calls.specs.declared.reply.Reply.{Reply}
use Rattle.node_calls.specs.Asks.{Asked, ask_value, ask_value_first}
use Rattle.node_calls.specs.Told.{ask_told, bytes_of}
use Rattle.node_registry.specs.Cells.{Cell, Enters, IsLawfulAt, IsRefusedBy, Submits, new_cell}
use Rattle.node_registry.specs.Receipts.{receipt_of, IsAnswered, IsGiven, IsReceiptOf, IsRefused}
use Rattle.node_registry.proofs.LawfulCells.{new_lawful}

module _ (config : Config) (seed : List ℕ) (c : Cell) (lawful : IsLawfulAt config seed c) where
  pub is_given : (d : Cell) (r : Result Receipt NodeFault) → IfOk r (λ x. Enters c d x.entry) →
      IfOk r (λ x. x ≡ receipt_of c x.entry) → IfOk r (IsGiven config seed)
  is_given d (Ok x) enters is = (c, d, lawful, enters, is)
  is_given d (Err f) enters is = tt

  pub answered : (d : Cell) (ask : Ask) (reply : Reply) → Submits c d ask reply → IsAnswered config seed ask reply
  answered d ask reply (e, of, answer, enters) =
      (receipt_of c e, ap (λ (k : Config). k.node) lawful.1, of, answer, (c, d, lawful, enters, refl))

  pub is_refused : (ask : Ask) (r : Result Receipt NodeFault) →
      IfErr r (IsRefusedBy c (ask_value_first c.node.config.nodes ask)) →
      IfErr r (IsRefused config seed (ask_value_first config.nodes ask))
  is_refused ask (Ok x) h = tt
  is_refused ask (Err f) h = (
    c,
    lawful,
    subst (λ (k : Config). IsRefusedBy c (ask_value_first k.nodes ask) f) lawful.1
        h,
  )

  pub is_of_node : (r : Result Receipt NodeFault) → IfOk r (λ x. x ≡ receipt_of c x.entry) →
      IfOk r (λ x. x.node ≡ config.node)
  is_of_node (Ok x) is = ap (λ (y : Receipt). y.node) is ∙ ap (λ (k : Config). k.node) lawful.1
  is_of_node (Err f) is = tt

-- out of memory before the lock is taken: any lawful cell may answer that, as a new one
pub memory_refused : {T : Type 0} (config : Config) (seed : List ℕ) (ask : Asked) (r : Result T NodeFault) →
    IsErrAnd r (λ fault. fault ≡ OutOfMemory) → IfErr r (IsRefused config seed ask)
memory_refused config seed ask r h =
    let e = err_from_is_err_and r h in
    rw e.1 (new_cell config seed, (new_lawful config seed, refl, refl), inl e.2)

-- what the receipt of a call says that was asked, by its reply
pub receipt_is_by : (config : Config) (ask : Ask) (asked : Reply → Asked) →
    ((reply : Reply) → ask_value config.nodes ask reply ≡ asked reply) → (r : Result Receipt NodeFault) →
    IfOk r (λ x. x.node ≡ config.node) → IfOk r (λ x. x.entry.ask ≡ ask) →
    IfOk r (λ x. IsReceiptOf config (asked x.entry.reply) x)
receipt_is_by config ask asked same (Ok x) node is =
    (node, (λ i. ask_value config.nodes (is i) x.entry.reply) ∙ same x.entry.reply)
receipt_is_by config ask asked same (Err f) node is = tt

pub receipt_is_of : (config : Config) (ask : Ask) (asked : Asked) →
    ((reply : Reply) → ask_value config.nodes ask reply ≡ asked) → (r : Result Receipt NodeFault) →
    IfOk r (λ x. x.node ≡ config.node) → IfOk r (λ x. x.entry.ask ≡ ask) → IfOk r (IsReceiptOf config asked)
receipt_is_of config ask asked same r node is = receipt_is_by config ask (λ reply. asked) same r node is

pub receipt_has_bytes : (ask : Ask) (bytes : List ℕ) → bytes_of (ask_told ask) ≡ bytes →
    (r : Result Receipt NodeFault) → IfOk r (λ x. x.entry.ask ≡ ask) →
    IfOk r (λ x. bytes_of (ask_told x.entry.ask) ≡ bytes)
receipt_has_bytes ask bytes same (Ok x) is = (λ i. bytes_of (ask_told (is i))) ∙ same
receipt_has_bytes ask bytes same (Err f) is = tt

-- and what its refusal says
pub refused_as : (config : Config) (seed : List ℕ) (ask asked : Asked) → ask ≡ asked → (r : Result Receipt NodeFault) →
    IfErr r (IsRefused config seed ask) → IfErr r (IsRefused config seed asked)
refused_as config seed ask asked same r h = subst (λ a. IfErr r (IsRefused config seed a)) same h
