use Rattle.std.proofs.Common.{refl, List, ℕ, ◌++◌, ap, append_assoc}
use Rattle.std.specs.Fmt.{HasWritten}
use Rattle.std.specs.Prelude.{codes}
use Rattle.std.proofs.Output.{has_written_of_eq}
use Rattle.std.proofs.lemmas.Grind.{put_three}
use Rattle.audit.specs.VerdictText.{total_text, sums_text}
use Rattle.audit.proofs.total.TotalDisplay.fmt.Goals as goal

pub returns-clause-writes : goal.returns-clause-writes
returns-clause-writes g c = λ plain ok.
    let t = c.args.self.now in
    let name : List ℕ = c.text.result.now in
    let rest : List ℕ = sums_text t.stamp t.term t.count t.granted t.executed in
    let first : HasWritten {W = g.row.W.Denot} g.W.Write.write_str_gives c.args.f.now (codes "budget ")
    c.write_str.new.self = c.in_ok-write_str.ensures.writes plain refl in
    let second : HasWritten {W = g.row.W.Denot} g.W.Write.write_str_gives c.write_str.new.self name
    c.write_str-2.new.self = c.in_ok-write_str-2.ensures.writes first.plain refl in
    let third : HasWritten {W = g.row.W.Denot} g.W.Write.write_str_gives c.write_str-2.new.self rest c.write.new.self =
    has_written_of_eq _ _ _ _ _ (simp append_assoc) (c.write.ensures.writes second.plain ok) in
    put_three g.W.Write.write_str_gives c.args.f.now c.write_str.new.self c.write_str-2.new.self c.write.new.self
    (codes "budget ") name rest (total_text t) first second third
    (ap (λ (n : List ℕ). codes "budget " ++ (n ++ rest)) c.text.ensures.text)
