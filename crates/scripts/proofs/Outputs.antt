-- What one line of a script gives, and the lines after it.
use Rattle.std.proofs.Common.{◌≡◌, ℕ, ◌+◌, ◌<◌, List, [], ◌++◌, length, get_or, drop, Option, sym, ap, ◌∙◌, append_assoc, append-nil, arith}
use Rattle.std.proofs.lemmas.List.{at_drop_more, at_drop_all}
use Rattle.cluster_model.specs.Events.{WorldValue}
use Rattle.scripts.specs.Script.{after_line, text_from}

module _ (output : Option WorldValue → List ℕ → List ℕ) (lines : List (List ℕ)) (n : ℕ) where
  -- the text from a line on begins with that line's
  text_from-drop : (w : Option WorldValue) (line : List ℕ) → n < length lines → line ≡ get_or lines n line →
      text_from output w (drop n lines) ≡ output w line ++ text_from output (after_line w line) (drop (n + 1) lines)
  text_from-drop w line h e =
      at_drop_more (text_from output w) lines n line h
      ∙ ap (λ x. output w x ++ text_from output (after_line w x) (drop (n + 1) lines)) (sym e)

  -- what is out, with what a line gives, and the text of the lines after it
  pub one_more : (w next : Option WorldValue) (m : ℕ) (line out longer all : List ℕ) →
      n < length lines → line ≡ get_or lines n line → m ≡ n + 1 →
      out ++ text_from output w (drop n lines) ≡ all → longer ≡ out ++ output w line →
      next ≡ after_line w line → longer ++ text_from output next (drop m lines) ≡ all
  one_more w next m line out longer all h e last so_far grown after =
      let next_one = text_from-drop w line h e in
      rw (grown, after, last) (rw append_assoc (ap (λ x. out ++ x) (sym next_one) ∙ so_far))

  -- what is out after the last line
  pub none_left : (w : Option WorldValue) (out all : List ℕ) →
      n ≡ length lines → out ++ text_from output w (drop n lines) ≡ all → out ≡ all
  none_left w out all e so_far =
      let none : text_from output w (drop n lines) ≡ [] = at_drop_all (text_from output w) lines n (omega arith) in
      sym (append-nil out) ∙ ap (λ x. out ++ x) (sym none) ∙ so_far
