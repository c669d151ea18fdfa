use Rattle.std.proofs.Common.{◌≡◌, ◌≢◌, ◌++◌, ℕ, List, All, Ok, drop, length, true, false, sym, ap, subst, ◌∙◌, rules, arith, length-append, length-drop}
use lib.Seq.{drop-append-le}
use Rattle.std.specs.Io.{StartsWith}
use Rattle.std.proofs.lemmas.List.Elements.{All-append}
use Rattle.std.proofs.KnownBytes.{Consumes-more, starts_with_rest}
use Rattle.std.proofs.Transfers.{starts_with_length, starts_with_trans}
use Rattle.part_keeper.proofs.BoundedLines.{read_ended, read_full}
use Rattle.part_keeper.proofs.bounded_line.append_line.Goals as goal

-- what two calls appended, one after the other
past_both : (old mid new : List ℕ) → StartsWith mid old → StartsWith new mid →
    drop (length old) new ≡ drop (length old) mid ++ drop (length mid) new
past_both old mid new p q =
    ap (drop (length old)) (starts_with_rest new mid q)
    ∙ drop-append-le (length old) mid _ (starts_with_length mid old p)

pub returns-then-not-branch : goal.returns-then-not-branch
returns-then-not-branch g c =
    let step = c.append_ready.ensures in
    let now = c.loop-left.invariant in
    let old = c.args.line.now.items in
    let done : c.append_ready.result ≡ Ok false = search rules in
    let both = past_both _ _ _ now.appends step.appends in
    let within = step.within in
    let counted = now.counted in
    read_ended _ _ _ c.args.most old c.append_ready.new.line.items (drop (length old) c.loop-left.line.items) _ now.taken
    now.plain step.bytes step.stops (step.done done) (step.end done) (omega (arith, within, counted))
    (starts_with_rest _ _ (starts_with_trans _ _ _ step.appends now.appends) ∙ ap (λ l. old ++ l) both)

pub loop-left-preserved : goal.loop-left-preserved
loop-left-preserved g c =
    let step = c.append_ready.ensures in
    let now = c.loop-left.invariant in
    let on : c.append_ready.result ≡ Ok true = search rules in
    let old = c.args.line.now.items in
    let mid = c.loop-left.line.items in
    let new = c.append_ready.new.line.items in
    let both = past_both old mid new now.appends step.appends in
    record {
      appends = starts_with_trans _ _ _ step.appends now.appends;
      counted = omega (
        arith,
        ap length both ∙ length-append (drop (length old) mid) (drop (length mid) new),
        length-drop (length mid) new,
        c.len.ensures,
        c.len-len.ensures,
        c.loop-left.line.ok.0,
        c.append_ready.new.line.ok.0,
        step.within,
        now.counted,
      );
      plain = subst (All (λ x. x ≢ 10)) (sym both) (All-append (λ x. x ≢ 10) _ _ now.plain (step.goes_on on));
      taken = Consumes-more _ _ _ _ _ _ now.appends step.appends now.taken step.bytes;
    }

pub returns : goal.returns
returns g c =
    let now = c.loop-left.invariant in
    let counted = now.counted in
    let none = c.loop-left-test.false in
    read_full _ _ c.args.most c.args.line.now.items c.loop-left.line.items _ now.taken now.plain
    (omega (arith, counted, none)) (starts_with_rest _ _ now.appends)
