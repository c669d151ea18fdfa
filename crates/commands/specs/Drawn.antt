-- What the picture of a drill shows.
use Rattle.std.specs.Prelude.{◌≡◌, ℕ, List, ◌++◌, length, min, take, codes, Bool, true, false, Option, Some, None, Result, Ok, Err}
use Rattle.audit.specs.declared.auditing.AuditYes.{AuditYes}
use Rattle.audit.specs.declared.fault.AuditFault.{AuditFault}
use Rattle.audit.specs.declared.fault.AuditFault.TheVariants.{WrongReply}
use Rattle.audit.specs.Answers.{IsAudited}
use Rattle.audit.specs.FaultText.{audit_fault_text}
use Rattle.audit.specs.Receipts.{Lists}
use Rattle.drill_picture.specs.Budgets.{BudgetTold}
use Rattle.drill_picture.specs.Calls.{Traces}
use Rattle.drill_picture.specs.Counted.{AreCounted}
use Rattle.drill_picture.specs.Lines.{AreLines}
use Rattle.drill_picture.specs.Picture.{IsPicture}
use Rattle.drill_picture.specs.declared.shapes.TheConstants.{LEGEND, SHAPES}
use Rattle.commands.specs.Charted.{budgets_of}
use Rattle.streams.specs.Streams.{Writes}
use Rattle.streams.specs.declared.watched.Watched.{Watched}

abbrev pub headline_text : Result AuditYes AuditFault → List ℕ
headline_text (Ok found) = codes "audit yes"
headline_text (Err fault) = codes "audit no " ++ audit_fault_text fault

abbrev pub wrong_of_fault : AuditFault → Option (ℕ × ℕ)
wrong_of_fault (WrongReply node index) = Some (node, index)
wrong_of_fault _ = None

-- the call that a node doesn't reply so, if that is what is wrong
abbrev pub wrong_of : Result AuditYes AuditFault → Option (ℕ × ℕ)
wrong_of (Ok found) = None
wrong_of (Err fault) = wrong_of_fault fault

-- what the calls counted is asked for where an audit doesn't say yes
abbrev pub AreAsked : Traces → Result AuditYes AuditFault → List BudgetTold → Type 0
AreAsked traces (Ok found) counted = Unit {0}
AreAsked traces (Err fault) counted = AreCounted traces counted

-- lanes of text, or an SVG
abbrev pub Shows : Bool → Traces → Result AuditYes AuditFault → List ℕ → Type 0
Shows true traces verdict text = AreLines traces (headline_text verdict) text
Shows false traces verdict text =
    (counted : List BudgetTold) × AreAsked traces verdict counted
    × IsPicture SHAPES.now LEGEND.now traces (headline_text verdict) (wrong_of verdict) (budgets_of verdict counted) text

-- the text is the picture of a drill's traces, of which no cluster has 256, with what an audit says of the drill
pub record DrawsDrill (as_text : Bool) (traces : Traces) (lists : Lists) (text : List ℕ) : Type 0 where
  pub verdict : Result AuditYes AuditFault
  pub judged : IsAudited (min (length traces) 255) traces lists verdict
  pub drawn : Shows as_text (take 256 traces) verdict text

-- the picture of some drill was written
abbrev pub DrawsSome : {O : Type 0} → Bool → (O → Option (List ℕ)) → Watched O → Watched O → Type 0
DrawsSome as_text contents old new =
    (traces : Traces) × (lists : Lists) × (text : List ℕ) × DrawsDrill as_text traces lists text
    × Writes contents old new text
