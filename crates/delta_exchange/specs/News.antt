-- What a state doesn't know yet of what it is told.
use Rattle.std.specs.Prelude.{◌≡◌, ℕ, Bool, nat_le, not, false, List, [], ◌∷◌, ◌++◌, map, if◌then◌else◌, Option, Some, None, IsTrue, filter}
use Rattle.std.specs.Ordering.{is_gt}
use Rattle.std.specs.declared.cmp.Ordering.{Ordering}
use Rattle.stamp_register.specs.Keys.{key_value}
use Rattle.operations.specs.declared.counted.Counted.{Counted}
use Rattle.operations.specs.declared.counted.Counted.TheVariants.{Hits, Execs, Shifts}
use Rattle.operations.specs.declared.counted.Count.{Count as Counting}
use Rattle.operations.specs.Operations as cells
use Rattle.operations.specs.Operations.{Operation, Set, Count, IsIn, name_in}
use Rattle.replica_state.specs.States.{State}
use Rattle.replica_state.specs.Folds.{fold, IsUnion}
use Rattle.replica_state.specs.Knowledge.{is_upto, knows, knows_count}
use Rattle.replica_state.specs.Points.{Held, order_to_held}
use Rattle.operations.specs.Counts.{is_hits, key_told, count_told, operation_told}
use Rattle.delta_exchange.specs.declared.news.Told.{Told}
use Rattle.delta_exchange.specs.declared.marks.Marks.{Marks}
use Rattle.delta_exchange.specs.Marks.{MarksValue, has_room, with_mark}

-- whether an operation carries a key above the one that the state has of its name
abbrev pub brings_key : State → Operation → Bool
brings_key v op = not (is_upto (key_told op) (v.key (name_in op)))

-- the operations that the state doesn't know, and whether they bring a key
abbrev pub unknown_in : State → List Operation → List Operation
unknown_in v ops = filter (λ op. not (knows v op)) ops

abbrev pub news_in : State → List Operation → List (Operation × Bool)
news_in v ops = map (λ op. (op, brings_key v op)) (unknown_in v ops)

-- the same of operations of one name, by what is held of it
abbrev pub knows_held : Held → Operation → Bool
knows_held h (Set name key) = is_upto (Some key) h.key
knows_held h (Count (cells.Hits name node) number) = nat_le number (h.number (Hits node))
knows_held h (Count (cells.Execs name key term node) number) = knows_count key number (h.number (Execs term node)) h.key
knows_held h (Count (cells.Shifts name key term from to) number) =
    knows_count key number (h.number (Shifts term from to)) h.key

abbrev pub news_held : Held → List Operation → List (Operation × Bool)
news_held h ops =
    map (λ op. (op, not (is_upto (key_told op) h.key))) (filter (λ op. not (knows_held h op)) ops)

-- where a state is that of some set, together with what another brings it is that of the set with the
-- news
abbrev pub BringsNews : State → State → List Operation → Type 0
BringsNews v received news =
    (ops : List Operation) (both : State) → v ≡ fold ops → IsUnion v received both → both ≡ fold (news ++ ops)

-- a state knows some of what is told, which with what another knows comes to all of it
pub record Brings (v received : State) (told : List Operation) : Type 0 where
  pub kept : List Operation
  pub knows : received ≡ fold kept
  pub told_all : (op : Operation) → IsIn op kept → IsIn op told
  pub enough : (ops : List Operation) → v ≡ fold ops → fold (kept ++ ops) ≡ fold (told ++ ops)

-- ---- the same as the code has it

abbrev pub operation_of : Told → Operation
operation_of told = operation_told told.name.now (key_value told.key.now) told.count

-- where its key stands so, it is new unless hits are told, which belong to no key
abbrev pub is_new : Ordering → Option Counting → Bool
is_new order None = is_gt order
is_new order (Some count) = if is_hits count.counted then false else is_gt order

abbrev pub news_of : Told → Operation × Bool
news_of told = (operation_of told, is_new told.order told.count)

abbrev pub counted_of : Option Counting → Option Counted
counted_of None = None
counted_of (Some count) = Some count.counted

-- it says how its key stands to the one that is held of its name
abbrev pub HasOrderTo : Held → Told → Type 0
HasOrderTo h told = told.order ≡ order_to_held (key_value told.key.now) h.key

-- there is room for the marks of all
abbrev pub HaveRoom : Marks → List Told → Type 0
HaveRoom marks [] = Unit {0}
HaveRoom marks (told ∷ rest) = IsTrue (has_room marks told.name.now (counted_of told.count)) × HaveRoom marks rest

-- marks with a version for all that is new
abbrev pub with_news : ℕ → List (Operation × Bool) → MarksValue → MarksValue
with_news version [] m = m
with_news version (n ∷ ns) m =
    with_news version ns (with_mark (name_in n.0) n.1 (counted_of (count_told n.0)) version m)
