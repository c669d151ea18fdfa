use Rattle.std.proofs.Common.{◌<◌, ℕ, refl, arith, Vec, List, get_or, subst, sym, ap, below_more}
use Rattle.std.proofs.lemmas.Option.{slice_get_read, get_or_from_slice_get}
use Rattle.std.specs.declared.alloc.Global.{Global}
use Rattle.node_calls.specs.declared.receipt.Receipt.{Receipt}
use Rattle.audit.specs.Receipts.{IsLate, Ascends}
use Rattle.audit.proofs.receipts.first_list_late.Goals as goal

pub returns-in-Some-clause-late : goal.returns-in-Some-clause-late
returns-in-Some-clause-late c =
    let P : List Receipt → Type 0 = λ xs. IsLate xs c.in-Some.place in
    let Q : List Receipt → Type 0 = λ xs. (k : ℕ) → k < c.in-Some.place → IsLate xs k → ⊥ in
    record {
      list = c.index-lists-list.result;
      there = slice_get_read c.args.lists.now _ c.loop-list.list c.index-lists-list.result refl c.loop-list-test.true
          c.index-lists-list.is;
      late = subst P c.as_slice.ensures.value c.in-Some.ensures.late;
      least = subst Q c.as_slice.ensures.value c.in-Some.ensures.least;
      earlier = c.loop-list.invariant;
    }

pub loop-list-preserved : goal.loop-list-preserved
loop-list-preserved c = λ k d below.
    let P : ℕ → Type 0 = λ k. (d : Vec Receipt Global) → Ascends (get_or c.args.lists.now k d).items in
    let Q : List Receipt → Type 0 = λ xs. Ascends xs in
    let here : Ascends c.index-lists-list.result.items = subst Q c.as_slice.ensures.value c.in_default.ensures.none in
    let there = slice_get_read c.args.lists.now _ c.loop-list.list c.index-lists-list.result refl c.loop-list-test.true
    c.index-lists-list.is in
    let last : P c.loop-list.list = λ d. subst Q (ap (λ v. v.items)
    (sym (get_or_from_slice_get c.args.lists.now c.loop-list.list c.index-lists-list.result d there))) here in
    below_more P c.loop-list.list (λ k h d. c.loop-list.invariant k d h) last k below d

pub returns-clause-none : goal.returns-clause-none
returns-clause-none c = λ k d below. c.loop-list.invariant k d (omega (arith, below))
