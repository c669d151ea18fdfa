-- What is said of lines, one after the other, of which the bad ones are named.
use Rattle.std.proofs.Common.{◌≡◌, ℕ, ◌+◌, ◌<◌, Bool, true, false, List, [], ◌∷◌, ◌++◌, Result, Ok, Err, length, get_or, drop, sym, ap, ◌∙◌, append_assoc, arith}
use Rattle.std.specs.Prelude.{OnOk}
use Rattle.std.proofs.lemmas.List.{at_drop_more, at_drop_all}
use Rattle.thread_plans.specs.BadLines.{Naming, after_named, count_one, end_said, line_said, said_from}

-- a line that was added, by what it is
pub pushed : {E : Type 0} (new old : List (List ℕ)) (line is : List ℕ) (r : Result (Unit {0}) E) →
    OnOk r (new ≡ old ++ line ∷ []) → line ≡ is → OnOk r (new ≡ old ++ is ∷ [])
pushed new old line is (Ok _) h e = h ∙ ap (λ (text : List ℕ). old ++ text ∷ []) e
pushed new old line is (Err _) h e = tt

-- what is counted line by line stays below the number of the next line
pub fewer : (b : Bool) (n m k next : ℕ) → n < m → k ≡ n + count_one b → next ≡ m + 1 → k < next
fewer true n m k next h e f = omega arith
fewer false n m k next h e f = omega arith

module _ (lines : List (List ℕ)) (n past : ℕ) where
  said-drop : (s : Naming) (line : List ℕ) → n < length lines → line ≡ get_or lines n line →
      said_from past s (drop n lines) ≡ line_said s line ++ said_from past (after_named s line) (drop (n + 1) lines)
  said-drop s line h e =
      at_drop_more (said_from past s) lines n line h
      ∙ ap (λ x. line_said s x ++ said_from past (after_named s x) (drop (n + 1) lines)) (sym e)

  -- with one line more
  pub one_said : (s later : Naming) (m : ℕ) (line : List ℕ) (out longer all : List (List ℕ)) → n < length lines →
      line ≡ get_or lines n line → m ≡ n + 1 → out ++ said_from past s (drop n lines) ≡ all →
      longer ≡ out ++ line_said s line → later ≡ after_named s line → longer ++ said_from past later (drop m lines) ≡ all
  one_said s later m line out longer all h e last so_far grown stepped =
      let next_one = said-drop s line h e in
      rw (grown, stepped, last) (rw append_assoc (ap (λ x. out ++ x) (sym next_one) ∙ so_far))

  -- behind the last line
  pub all_said : (s : Naming) (out longer all : List (List ℕ)) → n ≡ length lines →
      out ++ said_from past s (drop n lines) ≡ all → longer ≡ out ++ end_said past s → longer ≡ all
  all_said s out longer all e so_far grown =
      let none : said_from past s (drop n lines) ≡ end_said past s = at_drop_all (said_from past s) lines n (omega arith)
      in grown ∙ ap (λ x. out ++ x) (sym none) ∙ so_far
