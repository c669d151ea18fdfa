-- Room for the marks of news, one after the other.
use Rattle.std.proofs.Common.{◌≡◌, ℕ, ◌+◌, ◌<◌, List, [], ◌∷◌, ◌++◌, take, drop, length, get_or, IsTrue, Option, Some, None, refl, sym, ◌∙◌, ap, subst, add-one}
use Rattle.std.proofs.Math.Seq.{take-suc, drop-cons}
use Rattle.stamp_register.specs.Keys.{KeyValue}
use Rattle.operations.specs.declared.counted.Counted.{Counted}
use Rattle.operations.specs.declared.counted.Counted.TheVariants.{Hits, Execs, Shifts}
use Rattle.operations.specs.declared.counted.Count.{Count}
use Rattle.operations.specs.Operations.{name_in}
use Rattle.operations.specs.Counts.{operation_told, count_told, cell_told}
use Rattle.operations.specs.Operations as cells
use Rattle.delta_exchange.specs.declared.news.Told.{Told}
use Rattle.delta_exchange.specs.declared.marks.Marks.{Marks}
use Rattle.delta_exchange.specs.Marks.{has_room, KeepsRoom}
use Rattle.delta_exchange.specs.News.{HaveRoom, counted_of}

pub room_kept : (m n : Marks) (ts : List Told) → KeepsRoom m n → HaveRoom m ts → HaveRoom n ts
room_kept m n [] kept h = tt
room_kept m n (t ∷ ts) kept h = (kept t.name.now (counted_of t.count) h.0, room_kept m n ts kept h.1)

room_push : (m : Marks) (ts : List Told) (t : Told) → HaveRoom m ts →
    IsTrue (has_room m t.name.now (counted_of t.count)) → HaveRoom m (ts ++ t ∷ [])
room_push m [] t h room = (room, tt)
room_push m (x ∷ ts) t h room = (h.0, room_push m ts t h.1 room)

pub room_next : (m n : Marks) (ts : List Told) (i : ℕ) (d : Told) → i < length ts → KeepsRoom m n →
    HaveRoom m (take i ts) → IsTrue (has_room n (get_or ts i d).name.now (counted_of (get_or ts i d).count)) →
    HaveRoom n (take (i + 1) ts)
room_next m n ts i d below kept h room = subst (HaveRoom n) (sym
    (ap (λ k. take k ts) (add-one i) ∙ take-suc ts i d below))
    (room_push n (take i ts) (get_or ts i d) (room_kept m n (take i ts) kept h) room)

-- the first of the rest
pub drop_first : {A : Type 0} (xs : List A) (i : ℕ) (d : A) → i < length xs → d ≡ get_or xs i d →
    drop i xs ≡ d ∷ drop (i + 1) xs
drop_first xs i d below is = drop-cons xs i d below ∙ (λ k. sym is k ∷ drop (sym (add-one i) k) xs)

-- what an operation that is told tells of
pub name_told : (name : List ℕ) (key : KeyValue) (count : Option Count) → name_in (operation_told name key count) ≡ name
name_told name key None = refl
name_told name key (Some count) = by_counted count.counted
  where
    by_counted : (c : Counted) → name_in (cells.Count (cell_told name key c) count.number) ≡ name
    by_counted (Hits node) = refl
    by_counted (Execs term node) = refl
    by_counted (Shifts term from to) = refl

pub counted_told : (name : List ℕ) (key : KeyValue) (count : Option Count) →
    counted_of (count_told (operation_told name key count)) ≡ counted_of count
counted_told name key None = refl
counted_told name key (Some count) = by_counted count.counted
  where
    by_counted : (c : Counted) → counted_of (count_told (cells.Count (cell_told name key c) count.number)) ≡ Some c
    by_counted (Hits node) = refl
    by_counted (Execs term node) = refl
    by_counted (Shifts term from to) = refl
