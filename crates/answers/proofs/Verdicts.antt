-- What an audit answers, by a writer: that it passes, with each total, or that it fails.
use Rattle.std.proofs.Common.{◌≡◌, ℕ, ◌≤◌, List, [], ◌∷◌, ◌++◌, length, drop, map, flat_map, refl, sym, ap, ◌∙◌, append_assoc, Ok, Err, arith}
use Rattle.std.proofs.lemmas.List.{append-nil, at_drop_all}
use Rattle.audit.specs.declared.auditing.AuditYes.{AuditYes}
use Rattle.audit.specs.declared.fault.AuditFault.{AuditFault}
use Rattle.audit.specs.declared.total.Total.{Total}
use Rattle.answers.specs.declared.printed.Format.{Format}
use Rattle.answers.specs.declared.printed.Format.TheVariants as formats
use Rattle.answers.specs.Answers.{audit_yes, audit_no, budget}
use Rattle.answers.specs.Objects.{object_of}
use Rattle.answers.specs.Printing.{written}
use Rattle.answers.specs.Verdicts.{verdict_written}

each_object : (totals : List Total) →
    flat_map (λ (t : Total). object_of (budget t)) totals ≡ flat_map object_of (map budget totals)
each_object [] = refl
each_object (t ∷ totals) = ap (λ (text : List ℕ). object_of (budget t) ++ text) (each_object totals)

pub yes_written : (format : Format) (found : AuditYes) →
    written format audit_yes ++ flat_map (λ (t : Total). written format (budget t)) found.totals.items
    ≡ verdict_written format (Ok found)
yes_written formats.Lines found = refl
yes_written formats.Objects found =
    ap (λ (text : List ℕ). object_of audit_yes ++ text) (each_object found.totals.items)

pub no_written : (format : Format) (fault : AuditFault) →
    written format (audit_no fault) ≡ verdict_written format (Err fault)
no_written formats.Lines fault = refl
no_written formats.Objects fault = sym (append-nil (object_of (audit_no fault)))

-- behind the last total
pub after_totals : (format later : Format) (found : AuditYes) (old now start : List ℕ) (totals : List Total) (n : ℕ) →
    length totals ≤ n → later ≡ format → totals ≡ found.totals.items → start ≡ old ++ written format audit_yes →
    now ++ flat_map (λ (t : Total). written later (budget t)) (drop n totals)
    ≡ start ++ flat_map (λ (t : Total). written later (budget t)) totals →
    now ≡ old ++ verdict_written format (Ok found)
after_totals format later found old now start totals n all same is first so_far =
    let none : flat_map (λ (t : Total). written later (budget t)) (drop n totals) ≡ [] =
    at_drop_all (flat_map (λ (t : Total). written later (budget t))) totals n (omega (arith, all)) in
    let whole : start ++ flat_map (λ (t : Total). written later (budget t)) totals
    ≡ old ++ verdict_written format (Ok found) =
    rw (first, same, is) (append_assoc old (written format audit_yes) _
    ∙ ap (λ (text : List ℕ). old ++ text) (yes_written format found)) in
    sym (append-nil now) ∙ ap (λ (text : List ℕ). now ++ text) (sym none) ∙ so_far ∙ whole
