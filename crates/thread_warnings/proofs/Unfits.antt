-- What is said of lines, one after the other.
use Rattle.std.proofs.Common.{◌≡◌, ℕ, ◌+◌, ◌<◌, Bool, true, false, List, ◌++◌, length, get_or, drop, sym, ap, ◌∙◌, append_assoc, arith}
use Rattle.std.proofs.lemmas.List.{at_drop_more, at_drop_all}
use Rattle.thread_plans.specs.BadLines.{count_one}
use Rattle.thread_warnings.specs.Unfit.{Unfit, line_counted, line_said, said_from, unfit_sum}

pub fewer : (b : Bool) (n m k next : ℕ) → n < m → k ≡ n + count_one b → next ≡ m + 1 → k < next
fewer true n m k next h e f = omega arith
fewer false n m k next h e f = omega arith

module _ (lines : List (List ℕ)) (n : ℕ) where
  said-drop : (u : Unfit) (line : List ℕ) → n < length lines → line ≡ get_or lines n line →
      said_from u (drop n lines) ≡ line_said u line ++ said_from (line_counted u line) (drop (n + 1) lines)
  said-drop u line h e =
      at_drop_more (said_from u) lines n line h
      ∙ ap (λ x. line_said u x ++ said_from (line_counted u x) (drop (n + 1) lines)) (sym e)

  -- with one line more
  pub one_said : (u later : Unfit) (m : ℕ) (line : List ℕ) (out longer all : List (List ℕ)) → n < length lines →
      line ≡ get_or lines n line → m ≡ n + 1 → out ++ said_from u (drop n lines) ≡ all →
      longer ≡ out ++ line_said u line → later ≡ line_counted u line → longer ++ said_from later (drop m lines) ≡ all
  one_said u later m line out longer all h e last so_far grown stepped =
      let next_one = said-drop u line h e in
      rw (grown, stepped, last) (rw append_assoc (ap (λ x. out ++ x) (sym next_one) ∙ so_far))

  -- behind the last line
  pub all_said : (u : Unfit) (out longer all : List (List ℕ)) → n ≡ length lines → out ++ said_from u (drop n lines) ≡ all →
      longer ≡ out ++ unfit_sum u.unfit → longer ≡ all
  all_said u out longer all e so_far grown =
      let none : said_from u (drop n lines) ≡ unfit_sum u.unfit = at_drop_all (said_from u) lines n (omega arith) in
      grown ∙ ap (λ x. out ++ x) (sym none) ∙ so_far
