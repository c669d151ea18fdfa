-- A line that expects something asks for nothing; and what is said of lines, one after the other.
use Rattle.std.proofs.Common.{◌≡◌, ℕ, ◌+◌, ◌<◌, Bool, true, false, List, [], ◌++◌, length, get_or, take, drop, Option, Some, None, codes, refl, sym, ap, ◌∙◌, subst, append_assoc, take-append-drop, arith}
use Rattle.std.specs.Prelude.{if◌then◌else◌, IfSome, OnOk, Result, Ok, Err}
use Rattle.std.specs.Str.{bytes_eq, is_utf8}
use Rattle.std.proofs.lemmas.List.{at_drop_more, at_drop_all}
use Rattle.std.proofs.lemmas.Slice.Eq.{bytes_eq-Decides}
use Rattle.cluster_model.specs.Events.{WorldValue}
use Rattle.streams.specs.Fields.{after_space, before_space, byte_cut_of, has_space}
use Rattle.streams.specs.Lines.{◌>>=◌, is_skipped}
use Rattle.scripts.specs.Commands.{CommandValue, command_after, command_of}
use Rattle.scripts.specs.Schedules.{GoesOn, LineGoesOn}
use Rattle.scripts.specs.Script.{after_line, after_read, command_in}
use Rattle.scripts.specs.Checks.{Checking, begins, expected_in, line_checked, read_checked, skipping}
use Rattle.scripts.specs.Faults.{said_by}

-- ---- a line that expects something

none_behind : {A B : Type 0} (o : Option A) (f : A → Option B) → ((x : A) → f x ≡ None) → (o >>= f) ≡ None
none_behind None f h = refl
none_behind (Some x) f h = h x

word_asks_nothing : (rest : List ℕ) → command_after (codes "expect") rest ≡ None
word_asks_nothing rest = none_behind (byte_cut_of rest) _ (λ node. refl)

front_asks_nothing : (rest : List ℕ) → command_of (codes "expect " ++ rest) ≡ None
front_asks_nothing rest = at (has_space (codes "expect " ++ rest))
  where
    at : (b : Bool) → ((if b then Some (before_space (codes "expect " ++ rest), after_space (codes "expect " ++ rest))
        else None) >>= (λ (parts : List ℕ × List ℕ). command_after (parts.0) (parts.1))) ≡ None
    at true = word_asks_nothing (after_space (codes "expect " ++ rest))
    at false = refl

text_asks_nothing : (line : List ℕ) → command_of line ≡ None → command_in line ≡ None
text_asks_nothing line none = at (is_utf8 line)
  where
    at : (b : Bool) → ((if b then Some line else None) >>= command_of) ≡ None
    at true = none
    at false = refl

none_is_some : {X : Type 0} {x : X} → ◌≡◌ {A = Option X} None (Some x) → ⊥
none_is_some e = cc

word_is : (line : List ℕ) → bytes_eq line (codes "expect") ≡ true → command_in line ≡ None
word_is line e =
    let same : line ≡ codes "expect" = (bytes_eq-Decides line (codes "expect")).0 e in
    text_asks_nothing line (ap command_of same)

front_is : (line : List ℕ) → begins (codes "expect ") line ≡ true → command_in line ≡ None
front_is line e =
    let front : codes "expect " ≡ take 7 line = (bytes_eq-Decides (codes "expect ") (take 7 line)).0 e in
    let whole : line ≡ codes "expect " ++ drop 7 line = sym (take-append-drop 7 line) ∙
    ap (λ (t : List ℕ). t ++ drop 7 line) (sym front) in
    text_asks_nothing line (ap command_of whole ∙ front_asks_nothing (drop 7 line))

pub asks_nothing : (line expected : List ℕ) → expected_in line ≡ Some expected → command_in line ≡ None
asks_nothing line expected e = at_word (bytes_eq line (codes "expect")) refl e
  where
    at_front : (b : Bool) → begins (codes "expect ") line ≡ b →
        ◌≡◌ {A = Option (List ℕ)} (if b then Some (drop 7 line) else None) (Some expected) → command_in line ≡ None
    at_front true is e = front_is line is
    at_front false is e = absurd (none_is_some e)

    at_word : (b : Bool) → bytes_eq line (codes "expect") ≡ b →
        ◌≡◌ {A = Option (List ℕ)} (if b then Some [] else
        (if begins (codes "expect ") line then Some (drop 7 line) else None))
        (Some expected) → command_in line ≡ None
    at_word true is e = word_is line is
    at_word false is e = at_front (begins (codes "expect ") line) refl e

-- so it leaves the cluster as it was
pub expects_leaves : (w : Option WorldValue) (line expected : List ℕ) → expected_in line ≡ Some expected →
    after_line w line ≡ w
expects_leaves w line expected e = at (is_skipped line)
  where
    at : (b : Bool) → (if b then w else after_read w (command_in line)) ≡ w
    at true = refl
    at false = ap (after_read w) (asks_nothing line expected e)

pub expects_goes_on : (w : Option WorldValue) (line expected : List ℕ) → expected_in line ≡ Some expected →
    LineGoesOn w line
expects_goes_on w line expected e = at (is_skipped line)
  where
    at : (b : Bool) → IfSome (if b then None else command_in line) (GoesOn w)
    at true = tt
    at false = subst (λ (c : Option CommandValue). IfSome c (GoesOn w)) (sym (asks_nothing line expected e)) tt

pub on_any : {T E : Type 0} {P : Type 0} (r : Result T E) → P → OnOk r P
on_any (Ok x) p = p
on_any (Err e) p = tt

-- each line has the next number
pub numbered : (w : Option WorldValue) (c : Checking) (line : List ℕ) → (line_checked w c line).number ≡ c.number + 1
numbered w c line = at (is_skipped line) (expected_in line)
  where
    at : (b : Bool) (e : Option (List ℕ)) → (if b then skipping c else read_checked w c line e).number ≡ c.number + 1
    at true e = refl
    at false None = refl
    at false (Some expected) = refl

-- ---- what is said of lines

module _ {S A : Type 0} (said : Option WorldValue → S → List ℕ → List A) (next : Option WorldValue → S → List ℕ → S)
    (left : S → List A) (lines : List (List ℕ)) (n : ℕ) where
  -- from a line on it begins with what is said of that line
  said-drop : (w : Option WorldValue) (s : S) (line : List ℕ) → n < length lines → line ≡ get_or lines n line →
      said_by said next left w s (drop n lines) ≡
      said w s line ++ said_by said next left (after_line w line) (next w s line) (drop (n + 1) lines)
  said-drop w s line h e =
      at_drop_more (said_by said next left w s) lines n line h
      ∙ ap (λ x. said w s x ++ said_by said next left (after_line w x) (next w s x) (drop (n + 1) lines)) (sym e)

  -- what was said, with what is said of a line, and of the lines after it
  pub one_said : (w later_world : Option WorldValue) (s later : S) (m : ℕ) (line : List ℕ) (out longer all : List A) →
      n < length lines → line ≡ get_or lines n line → m ≡ n + 1 →
      out ++ said_by said next left w s (drop n lines) ≡ all → longer ≡ out ++ said w s line →
      later_world ≡ after_line w line → later ≡ next w s line →
      longer ++ said_by said next left later_world later (drop m lines) ≡ all
  one_said w later_world s later m line out longer all h e last so_far grown after stepped =
      let next_one = said-drop w s line h e in
      rw (grown, after, stepped, last) (rw append_assoc (ap (λ x. out ++ x) (sym next_one) ∙ so_far))

  -- behind the last line
  pub all_said : (w : Option WorldValue) (s : S) (out longer all : List A) → n ≡ length lines →
      out ++ said_by said next left w s (drop n lines) ≡ all → longer ≡ out ++ left s → longer ≡ all
  all_said w s out longer all e so_far grown =
      let none : said_by said next left w s (drop n lines) ≡ left s = at_drop_all (said_by said next left w s) lines n
      (omega arith) in
      grown ∙ ap (λ x. out ++ x) (sym none) ∙ so_far
