use Rattle.std.proofs.Common.{◌≡◌, List, ℕ, Option, sym, subst, ◌∙◌, ap}
use Rattle.std.specs.Prelude.{IfSome}
use Rattle.std.specs.Io.Buffered.{reader_inner}
use Rattle.streams.specs.Watched.{inner_of}
use Rattle.drills.specs.Taken.{bytes_left}
use Rattle.part_files.specs.Opened.{HasJournal}
use Rattle.part_files.proofs.Ready.{fresh, resumed}
use Rattle.part_files.proofs.part_file.resume.Goals as goal

pub returns-clause-resumed : goal.returns-clause-resumed
returns-clause-resumed g c =
    let config = g.L.Label.config in
    let seed = g.L.Label.seed in
    let had = c.args.seat.now.calls in
    let has = c.gone_on.new.seat.calls in
    let first = c.args.first.now in
    let known = g.I.Read.remaining c.args.input in
    let all : bytes_left g.I.Read.remaining c.in-Ok.reader ≡ known =
    fresh g.I.Read.remaining c.in-Ok.reader c.args.input c.in-Ok.ensures.capacity c.in-Ok.ensures.empty
    (ap inner_of c.in-Ok.ensures.inner ∙ c.new.ensures.inner) in
    let journal = subst (λ (o : Option (List ℕ)). IfSome o (λ bytes. HasJournal config seed had has first bytes c.in_ok-had.had))
    all c.in_ok-had.ensures.journal in
    resumed config seed had has first known (g.F.Write.contents c.args.file.now) (g.F.Write.contents c.make_ready.new.file)
    c.in_ok-had.had c.requires.same journal c.in_default-make_ready.ensures
