-- What parts tell when another comes behind them.
use Rattle.std.proofs.Common.{◌≡◌, List, [], ◌∷◌, ◌++◌, sym, ◌∙◌, ap}
use Rattle.std.proofs.lemmas.List.{append-nil, append_assoc}
use Rattle.node_calls.specs.Told.{Told}
use Rattle.packed_trace.specs.Packed.{Packed}
use Rattle.history.specs.Histories.{told_in}

pub told_more : (parts : List Packed) (part : Packed) → told_in (parts ++ part ∷ []) ≡ told_in parts ++ part.calls
unfolding told_in
told_more [] part = append-nil part.calls
told_more (first ∷ parts) part =
    ap (λ (calls : List Told). first.calls ++ calls) (told_more parts part)
    ∙ sym (append_assoc first.calls (told_in parts) part.calls)

-- nothing is told by no part
pub told_none : (parts : List Packed) (left : List Told) → parts ≡ [] → left ≡ [] → told_in parts ++ left ≡ []
unfolding told_in
told_none parts left empty none = ap (λ (all : List Packed). told_in all ++ left) empty ∙ none

pub none_told : (parts : List Packed) → parts ≡ [] → told_in parts ≡ []
unfolding told_in
none_told parts empty = ap told_in empty

-- a part behind others, and nothing behind it
module _ (parts all : List Packed) (part old : Packed) (left : List Told) (more : all ≡ parts ++ part ∷ [])
    (is : part ≡ old) (none : left ≡ []) where
  pub part_told : told_in all ≡ told_in parts ++ old.calls
  part_told = ap told_in more ∙ told_more parts part ∙ ap (λ (p : Packed). told_in parts ++ p.calls) is

  pub all_told : told_in all ++ left ≡ told_in parts ++ old.calls
  all_told = ap (λ (calls : List Told). told_in all ++ calls) none ∙ append-nil (told_in all) ∙ part_told
