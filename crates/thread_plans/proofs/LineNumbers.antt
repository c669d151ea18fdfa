-- The numbers of lines, one after the other.
use Rattle.std.proofs.Common.{◌≡◌, ℕ, ◌+◌, ◌<◌, List, [], ◌++◌, length, get_or, drop, sym, ap, ◌∙◌, append_assoc, append-nil, arith}
use Rattle.std.proofs.lemmas.List.{at_drop_more, at_drop_all}
use Rattle.thread_plans.specs.declared.line_numbers.Kind.{Kind}
use Rattle.thread_plans.specs.LineNumbers.{has_kind, number_if, numbers_from}

module _ (kind : Kind) (lines : List (List ℕ)) (n : ℕ) where
  numbers-drop : (number : ℕ) (line : List ℕ) → n < length lines → line ≡ get_or lines n line →
      numbers_from kind number (drop n lines) ≡ number_if (has_kind kind line) number
      ++ numbers_from kind (number + 1) (drop (n + 1) lines)
  numbers-drop number line h e =
      at_drop_more (numbers_from kind number) lines n line h
      ∙ ap (λ x. number_if (has_kind kind x) number ++ numbers_from kind (number + 1) (drop (n + 1) lines)) (sym e)

  -- with one line more
  pub one_numbered : (number later m : ℕ) (line out longer all : List ℕ) → n < length lines →
      line ≡ get_or lines n line → m ≡ n + 1 → out ++ numbers_from kind number (drop n lines) ≡ all →
      longer ≡ out ++ number_if (has_kind kind line) number → later ≡ number + 1 →
      longer ++ numbers_from kind later (drop m lines) ≡ all
  one_numbered number later m line out longer all h e last so_far grown stepped =
      let next_one = numbers-drop number line h e in
      rw (grown, stepped, last) (rw append_assoc (ap (λ x. out ++ x) (sym next_one) ∙ so_far))

  -- behind the last line
  pub all_numbered : (number : ℕ) (out all : List ℕ) → n ≡ length lines →
      out ++ numbers_from kind number (drop n lines) ≡ all → out ≡ all
  all_numbered number out all e so_far =
      let none : numbers_from kind number (drop n lines) ≡ [] =
      at_drop_all (numbers_from kind number) lines n (omega arith)
      in sym (append-nil out) ∙ ap (λ x. out ++ x) (sym none) ∙ so_far
