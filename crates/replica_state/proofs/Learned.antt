-- What is held of a name after an operation was learned, by how the key stands.
use Rattle.std.proofs.Common.{◌≡◌, true, cond, Option, Some, None, Result, Ok, Err, OnOk, OnErr, refl, sym, ◌∙◌, ap}
use Rattle.std.specs.Ordering.{is_le, match_ordering}
use Rattle.std.specs.declared.cmp.Ordering.{Ordering}
use Rattle.std.specs.declared.cmp.Ordering.TheVariants.{Less, Equal, Greater}
use Rattle.stamp_register.specs.Keys.{KeyValue}
use Rattle.operations.specs.declared.counted.Counted.{Counted}
use Rattle.operations.specs.declared.counted.Count.{Count}
use Rattle.replica_state.specs.Folds.{greater}
use Rattle.replica_state.specs.Points.{Held, order_to_held, raised_numbers, only_hits, held_after_learning, held_after_count}

-- a fact for one variant gives another for it
pub on_ok : {A E P Q : Type 0} (r : Result A E) → (P → Q) → OnOk r P → OnOk r Q
on_ok (Ok a) f h = f h
on_ok (Err e) f h = h

pub both_ok : {A E P Q R : Type 0} (r : Result A E) → (P → Q → R) → OnOk r P → OnOk r Q → OnOk r R
both_ok (Ok a) f h k = f h k
both_ok (Err e) f h k = h

pub on_err : {A E P Q : Type 0} (r : Result A E) → (P → Q) → OnErr r P → OnErr r Q
on_err (Ok a) f h = h
on_err (Err e) f h = f h

pub always_err : {A E P : Type 0} (r : Result A E) → P → OnErr r P
always_err (Ok a) h = tt
always_err (Err e) h = h

-- a key that is no greater leaves the one that is held
greater-held : (key : KeyValue) (o : Option KeyValue) (r : Ordering) → order_to_held key o ≡ r → is_le r ≡ true →
    o ≡ greater (Some key) o
greater-held key None r e h = cc
greater-held key (Some a) r e h = ap (λ b. Some (cond b a key)) (sym h ∙ ap is_le (sym e))

-- one that is greater takes its place
greater-new : (key : KeyValue) (o : Option KeyValue) → order_to_held key o ≡ Greater → Some key ≡ greater (Some key) o
greater-new key None e = refl
greater-new key (Some a) e = ap (λ b. Some (cond b a key)) (ap is_le (sym e))

-- what is held after an operation was learned, by how its key stands
module _ (h w : Held) (ko : Option KeyValue) (count : Option Count) where
  pub held_none : ko ≡ None → w.key ≡ h.key → ((d : Counted) → w.number d ≡ raised_numbers count h.number d) →
      w ≡ held_after_learning ko count h
  unfolding held_after_learning
  held_none e k f = (λ i. record { key = k i; number = λ d. f d i }) ∙
      ap (λ (o : Option KeyValue). held_after_learning o count h) (sym e)

  module _ (key : KeyValue) (e : ko ≡ Some key) where
    pub held_less : order_to_held key h.key ≡ Less → h ≡ held_after_learning ko count h
    unfolding held_after_learning
    held_less s = (λ i. record {
      key = greater-held key h.key Less s refl i;
      number =
          λ d. match_ordering (sym s i) (h.number d) (raised_numbers count h.number d)
          (raised_numbers count (only_hits h.number) d);
    }) ∙ ap (λ (o : Option KeyValue). held_after_learning o count h)
        (sym e)

    pub held_equal : order_to_held key h.key ≡ Equal → w.key ≡ h.key →
        ((d : Counted) → w.number d ≡ raised_numbers count h.number d) → w ≡ held_after_learning ko count h
    unfolding held_after_learning
    held_equal s k f = (λ i. record { key = keys i; number = λ d. numbers d i }) ∙
        ap (λ (o : Option KeyValue). held_after_learning o count h) (sym e)
      where
        keys : w.key ≡ greater (Some key) h.key
        keys = k ∙ greater-held key h.key Equal s refl

        numbers : (d : Counted) → w.number d ≡ match_ordering (order_to_held key h.key) (h.number d)
            (raised_numbers count h.number d) (raised_numbers count (only_hits h.number) d)
        numbers d = f d ∙ ap (λ r. match_ordering r (h.number d) (raised_numbers count h.number d)
            (raised_numbers count (only_hits h.number) d)) (sym s)

    pub held_greater : order_to_held key h.key ≡ Greater → w.key ≡ Some key →
        ((d : Counted) → w.number d ≡ raised_numbers count (only_hits h.number) d) → w ≡ held_after_learning ko count h
    unfolding held_after_learning
    held_greater s k f = (λ i. record { key = keys i; number = λ d. numbers d i }) ∙
        ap (λ (o : Option KeyValue). held_after_learning o count h) (sym e)
      where
        keys : w.key ≡ greater (Some key) h.key
        keys = k ∙ greater-new key h.key s

        numbers : (d : Counted) → w.number d ≡ match_ordering (order_to_held key h.key) (h.number d)
            (raised_numbers count h.number d) (raised_numbers count (only_hits h.number) d)
        numbers d = f d ∙ ap (λ r. match_ordering r (h.number d) (raised_numbers count h.number d)
            (raised_numbers count (only_hits h.number) d)) (sym s)

-- with a count more
pub held_counted : (h w : Held) (count : Count) → w.key ≡ h.key →
    ((d : Counted) → w.number d ≡ raised_numbers (Some count) h.number d) → w ≡ held_after_count count h
unfolding held_after_count
held_counted h w count k f = λ i. record { key = k i; number = λ d. f d i }
