-- What an audit of a recorded drill says, or of parts.
use Rattle.std.specs.Prelude.{◌≡◌, ◌≢◌, ◌⊎◌, ◌==◌, ◌&&◌, ◌||◌, ◌++◌, ◌∷◌, ℕ, zero, suc, Bool, false, List, [], if◌then◌else◌, length, min, is_ok, IfSome, Option, None, Result, Ok, Err}
use Rattle.audit.specs.declared.auditing.AuditYes.{AuditYes}
use Rattle.audit.specs.declared.fault.AuditFault.{AuditFault}
use Rattle.audit.specs.declared.fault.AuditFault.TheVariants.{OutOfMemory}
use Rattle.audit.specs.Answers.{IsAudited}
use Rattle.audit.specs.Receipts.{Lists}
use Rattle.audit.specs.Traces.{Traces}
use Rattle.answers.specs.Answers as answers
use Rattle.answers.specs.Printing.{written}
use Rattle.answers.specs.Verdicts.{verdict_written}
use Rattle.answers.specs.declared.printed.Format.{Format}
use Rattle.answers.specs.declared.printed.Format.TheVariants as formats
use Rattle.drills.specs.Drills.{drill_in, drill_told}
use Rattle.drills.specs.Joined.{joined_of}
use Rattle.drills.specs.Parts.{PartTold}
use Rattle.streams.specs.Streams.{Writes}
use Rattle.streams.specs.declared.watched.Watched.{Watched}

-- the text is what an audit says of a drill, by a writer, and whether it says yes; out of memory is no verdict
pub record IsToldOf (format : Format) (traces : Traces) (lists : Lists) (explained : Bool) (text : List ℕ) : Type 0 where
  pub verdict : Result AuditYes AuditFault
  pub judged : IsAudited (min (length traces) 255) traces lists verdict
  pub ended : verdict ≢ Err OutOfMemory
  pub is_yes : explained ≡ is_ok verdict
  pub told : text ≡ verdict_written format verdict

-- what an audit says of a drill was written, of the one that the bytes are where these are known; more than 255 traces
-- are as few as those, and too many; out of memory is no verdict
abbrev pub SaysVerdict : {O : Type 0} → Format → Option (List ℕ) → Bool → (O → Option (List ℕ)) → Watched O → Watched O →
    Type 0
SaysVerdict format bytes explained contents old new =
    (traces : Traces) × (lists : Lists) × (verdict : Result AuditYes AuditFault)
    × IfSome bytes (λ known. drill_in known ≡ Ok (drill_told traces lists))
    × IsAudited (min (length traces) 255) traces lists verdict × (verdict ≢ Err OutOfMemory)
    × (explained ≡ is_ok verdict) × Writes contents old new (verdict_written format verdict)

-- whether a part of this node was cut
abbrev pub is_cut_at : ℕ → List PartTold → Bool
is_cut_at node [] = false
is_cut_at node (p ∷ parts) = (p.cut && (p.head.node == node)) || is_cut_at node parts

-- of each node below n whose part was cut, by a writer
abbrev pub cuts_below : Format → ℕ → List PartTold → List ℕ
cuts_below format zero parts = []
cuts_below format (suc n) parts =
    cuts_below format n parts ++ (if is_cut_at n parts then written format (answers.cut n) else [])

-- of how many nodes the first of them says that there are
abbrev pub nodes_in : List PartTold → ℕ
nodes_in [] = 0
nodes_in (p ∷ parts) = p.head.nodes

abbrev pub cuts_text : Format → List PartTold → List ℕ
cuts_text format parts = cuts_below format (nodes_in parts) parts

-- the text is what an audit says of the drill that parts join to, and behind it which of them were cut
pub record AreToldOf (format : Format) (parts : List PartTold) (explained : Bool) (text : List ℕ) : Type 0 where
  pub traces : Traces
  pub lists : Lists
  pub verdict : List ℕ
  pub joined : joined_of parts ≡ Ok (drill_told traces lists)
  pub told : IsToldOf format traces lists explained verdict
  pub with_cuts : text ≡ verdict ++ cuts_text format parts

-- what an audit says of the drill that parts join to was written, and behind it which of them were cut
abbrev pub SaysOfParts : {O : Type 0} → Format → List PartTold → Bool → (O → Option (List ℕ)) → Watched O → Watched O →
    Type 0
SaysOfParts format parts explained contents old new =
    (traces : Traces) × (lists : Lists) × (verdict : Result AuditYes AuditFault)
    × (joined_of parts ≡ Ok (drill_told traces lists))
    × IsAudited (min (length traces) 255) traces lists verdict × (verdict ≢ Err OutOfMemory)
    × (explained ≡ is_ok verdict) × Writes contents old new (verdict_written format verdict ++ cuts_text format parts)

abbrev pub SaysOfSomeParts : {O : Type 0} → Format → Bool → (O → Option (List ℕ)) → Watched O → Watched O → Type 0
SaysOfSomeParts format explained contents old new =
    (parts : List PartTold) × SaysOfParts format parts explained contents old new

-- of a file nothing is known: it is some drill, or a part
abbrev pub SaysOfAFile : {O : Type 0} → Format → Bool → (O → Option (List ℕ)) → Watched O → Watched O → Type 0
SaysOfAFile format explained contents old new =
    SaysVerdict format None explained contents old new ⊎ SaysOfSomeParts format explained contents old new
