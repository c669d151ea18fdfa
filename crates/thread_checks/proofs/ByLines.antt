-- What is shown of lines, one after the other.
use Rattle.std.proofs.Common.{◌≡◌, ℕ, ◌+◌, ◌<◌, Bool, true, false, ◌||◌, List, [], ◌++◌, length, get_or, drop, refl, sym, ap, ◌∙◌, append_assoc, append-nil, arith}
use Rattle.std.specs.Str.{bytes_eq}
use Rattle.std.proofs.lemmas.List.{at_drop_more, at_drop_all}
use Rattle.thread_checks.specs.Scans.{has_line}
use Rattle.thread_checks.specs.Views.{by_lines}

module _ {S A : Type 0} (shown : S → List ℕ → List A) (next : S → List ℕ → S) (lines : List (List ℕ)) (n : ℕ) where
  shown-drop : (s : S) (line : List ℕ) → n < length lines → line ≡ get_or lines n line →
      by_lines shown next s (drop n lines) ≡ shown s line ++ by_lines shown next (next s line) (drop (n + 1) lines)
  shown-drop s line h e =
      at_drop_more (by_lines shown next s) lines n line h
      ∙ ap (λ x. shown s x ++ by_lines shown next (next s x) (drop (n + 1) lines)) (sym e)

  -- with one line more
  pub one_shown : (s later : S) (m : ℕ) (line : List ℕ) (out longer all : List A) → n < length lines →
      line ≡ get_or lines n line → m ≡ n + 1 → out ++ by_lines shown next s (drop n lines) ≡ all →
      longer ≡ out ++ shown s line → later ≡ next s line →
      longer ++ by_lines shown next later (drop m lines) ≡ all
  one_shown s later m line out longer all h e last so_far grown stepped =
      let next_one = shown-drop s line h e in
      rw (grown, stepped, last) (rw append_assoc (ap (λ x. out ++ x) (sym next_one) ∙ so_far))

  -- behind the last line
  pub all_shown : (s : S) (out all : List A) → n ≡ length lines → out ++ by_lines shown next s (drop n lines) ≡ all →
      out ≡ all
  all_shown s out all e so_far =
      let none : by_lines shown next s (drop n lines) ≡ [] = at_drop_all (by_lines shown next s) lines n (omega arith)
      in sym (append-nil out) ∙ ap (λ x. out ++ x) (sym none) ∙ so_far

-- ---- a line that is looked for

or_assoc : (a b c : Bool) → (a || (b || c)) ≡ ((a || b) || c)
or_assoc true b c = refl
or_assoc false b c = refl

or_false : (a : Bool) → (a || false) ≡ a
or_false true = refl
or_false false = refl

module _ (text : List ℕ) (lines : List (List ℕ)) (n : ℕ) where
  looked-drop : (line : List ℕ) → n < length lines → line ≡ get_or lines n line →
      has_line text (drop n lines) ≡ (bytes_eq line text || has_line text (drop (n + 1) lines))
  looked-drop line h e =
      at_drop_more (has_line text) lines n line h
      ∙ ap (λ x. bytes_eq x text || has_line text (drop (n + 1) lines)) (sym e)

  -- with one line more
  pub one_looked : (found later : Bool) (m : ℕ) (line : List ℕ) (all : Bool) → n < length lines →
      line ≡ get_or lines n line → m ≡ n + 1 → (found || has_line text (drop n lines)) ≡ all →
      later ≡ (found || bytes_eq line text) → (later || has_line text (drop m lines)) ≡ all
  one_looked found later m line all h e last so_far stepped =
      let next_one = looked-drop line h e in
      rw (stepped, last) (sym (or_assoc found (bytes_eq line text) (has_line text (drop (n + 1) lines)))
      ∙ ap (λ x. found || x) (sym next_one) ∙ so_far)

  -- behind the last line
  pub all_looked : (found all : Bool) → n ≡ length lines → (found || has_line text (drop n lines)) ≡ all → found ≡ all
  all_looked found all e so_far =
      let none : has_line text (drop n lines) ≡ false = at_drop_all (has_line text) lines n (omega arith)
      in sym (or_false found) ∙ ap (λ x. found || x) (sym none) ∙ so_far
