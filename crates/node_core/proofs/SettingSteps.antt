-- What a node holds after points were set, one after the other.
use Rattle.std.proofs.Common.{◌≡◌, ℕ, ◌+◌, ◌<◌, ◌≤◌, Bool, true, false, cond, List, [], ◌∷◌, ◌++◌, length, map, inl, inr, ⊎_elim, Option, refl, sym, ◌∙◌, ap, subst, arith}
use Rattle.std.proofs.lemmas.List.{length-map, append-nil}
use Rattle.std.specs.Str.{bytes_eq}
use Rattle.stamp_register.specs.Keys.{KeyValue}
use Rattle.operations.specs.Operations.{Operation, Set, IsIn}
use Rattle.replica_state.specs.States.{State, with_key}
use Rattle.replica_state.specs.Folds.{fold, clock_of}
use Rattle.replica_state.specs.Unions.{with_names, union_of}
use Rattle.replica_state.proofs.FoldSteps.{fold_key}
use Rattle.replica_state.proofs.KnownSets.{same_members}
use Rattle.operations.proofs.Members.{IsIn-append_left, IsIn-append_right, IsIn-append_cases}
use Rattle.replica_state.proofs.SetJoins.{fold-unites}
use Rattle.node_steps.specs.declared.config.Config.{Config}
use Rattle.node_calls.specs.Asks.{Asked}
use Rattle.node_calls.specs.Asks as asks
use Rattle.node_steps.specs.Nodes.{Node}
use Rattle.node_steps.specs.Outcomes.{state_set}
use Rattle.node_core.specs.Steps.{after, operations_added, clock_after}
use Rattle.node_steps.specs.Settings.{settings, operations_issued, new_key, points_in}
use Rattle.node_core.specs.Holds.{Holds}
use Rattle.node_steps.proofs.OwnRights.{HasOwn, own_key}

abbrev Settings : Type 0
Settings = List (List ℕ × Option (List ℕ))

-- ---- the state of a set with the keys of a setting

-- neither the order of two lists of operations nor that of their first ones matters
swapped : (op : Operation) (a b : List Operation) → fold (op ∷ (a ++ b)) ≡ fold (a ++ op ∷ b)
swapped op a b = same_members (op ∷ (a ++ b)) (a ++ op ∷ b) to from
  where
    to : (o : Operation) → IsIn o (op ∷ (a ++ b)) → IsIn o (a ++ op ∷ b)
    to o (inl e) = IsIn-append_right o a (op ∷ b) (inl e)
    to o (inr h) = ⊎_elim (λ k. IsIn-append_left o a (op ∷ b) k) (λ k. IsIn-append_right o a (op ∷ b) (inr k))
        (IsIn-append_cases o a b h)

    from : (o : Operation) → IsIn o (a ++ op ∷ b) → IsIn o (op ∷ (a ++ b))
    from o h = ⊎_elim (λ k. inr (IsIn-append_left o a b k)) (λ k. ⊎_elim (λ e. inl e)
        (λ l. inr (IsIn-append_right o a b l)) k) (IsIn-append_cases o a (op ∷ b) h)

pub turned : (a b : List Operation) → fold (a ++ b) ≡ fold (b ++ a)
turned a b = same_members (a ++ b) (b ++ a) (λ o h. other o a b h) (λ o h. other o b a h)
  where
    other : (o : Operation) (x y : List Operation) → IsIn o (x ++ y) → IsIn o (y ++ x)
    other o x y h = ⊎_elim (λ k. IsIn-append_right o y x k) (λ k. IsIn-append_left o y x k) (IsIn-append_cases o x y h)

pub fold_issued : (i clock : ℕ) (ss : Settings) (ops : List Operation) → clock_of ops ≤ clock →
    fold (operations_issued i clock ss ++ ops) ≡ state_set i clock ss (fold ops)
fold_issued i clock [] ops low = refl
fold_issued i clock (s ∷ ss) ops low =
    let key : KeyValue = new_key i clock s.1 in
    swapped (Set s.0 key) (operations_issued i (clock + 1) ss) ops
    ∙ fold_issued i (clock + 1) ss (Set s.0 key ∷ ops) (omega (arith, low))
    ∙ ap (state_set i (clock + 1) ss) (fold_key key s.0 ops (omega (arith, low)))

-- the operations of a setting by themselves
pub fold_alone : (i clock : ℕ) (ss : Settings) → state_set i clock ss (fold []) ≡ fold (operations_issued i clock ss)
fold_alone i clock ss = sym (fold_issued i clock ss [] (omega arith)) ∙
    ap fold (append-nil (operations_issued i clock ss))

-- what a node knows with them
pub fold_merged : (i clock : ℕ) (ss : Settings) (ops : List Operation) → clock_of ops ≤ clock →
    fold (ops ++ operations_issued i clock ss) ≡ state_set i clock ss (fold ops)
fold_merged i clock ss ops low = turned ops (operations_issued i clock ss) ∙ fold_issued i clock ss ops low

pub issued_clock : (i clock : ℕ) (ss : Settings) (ops : List Operation) → clock_of ops ≤ clock →
    clock_of (operations_issued i clock ss ++ ops) ≤ clock + length ss
issued_clock i clock [] ops low = omega (arith, low)
issued_clock i clock (s ∷ ss) ops low = let rest = issued_clock i (clock + 1) ss ops (omega (arith, low)) in
    omega (arith, rest)

-- ---- the names of that state

names_key : (name : List ℕ) (key : KeyValue) (v : State) → (with_key name key v).names ≡ with_names (name ∷ []) v.names
unfolding with_key
names_key name key v = refl

pub names_set : (i clock : ℕ) (ss : Settings) (v : State) → (state_set i clock ss v).names ≡ with_names
    (map (λ s. s.0) ss) v.names
names_set i clock [] v = refl
names_set i clock (s ∷ ss) v = names_set i (clock + 1) ss (with_key s.0 (new_key i clock s.1) v) ∙
    ap (with_names (map (λ r. r.0) ss)) (names_key s.0 (new_key i clock s.1) v)

pub names_united : (v w : State) → (union_of v w).names ≡ with_names w.names v.names
unfolding union_of
names_united v w = refl

-- the names that a node holds with those of a setting, whatever the clock
pub names_loaded : (i low clock : ℕ) (ss : Settings) (ops : List Operation) → clock_of ops ≤ clock →
    with_names (state_set i low ss (fold [])).names (fold ops).names ≡ with_names (map (λ s. s.0) ss) (fold ops).names
names_loaded i low clock ss ops upto =
    let names : (state_set i low ss (fold [])).names ≡ (state_set i clock ss (fold [])).names =
    names_set i low ss (fold []) ∙ sym (names_set i clock ss (fold [])) in
    ap (λ ns. with_names ns (fold ops).names) (names ∙ ap (λ (v : State). v.names) (fold_alone i clock ss))
    ∙ sym (names_united (fold ops) (fold (operations_issued i clock ss)))
    ∙ ap (λ (v : State). v.names) (fold-unites ops (operations_issued i clock ss) ∙ fold_merged i clock ss ops upto)
    ∙ names_set i clock ss (fold ops)

-- ---- cells and rights

key_leaves_hits : (name : List ℕ) (key : KeyValue) (v : State) (q : List ℕ) (i : ℕ) →
    (with_key name key v).hits q i ≡ v.hits q i
unfolding with_key
key_leaves_hits name key v q i = refl

key_few_execs : (name : List ℕ) (key : KeyValue) (v : State) (q : List ℕ) (k i : ℕ) →
    (with_key name key v).execs q k i ≤ v.execs q k i
unfolding with_key
key_few_execs name key v q k i = by_test (bytes_eq name q)
  where
    by_test : (b : Bool) → cond b 0 (v.execs q k i) ≤ v.execs q k i
    by_test true = omega arith
    by_test false = omega arith

hits_kept : (i clock : ℕ) (ss : Settings) (v : State) (q : List ℕ) (j : ℕ) →
    (state_set i clock ss v).hits q j ≡ v.hits q j
hits_kept i clock [] v q j = refl
hits_kept i clock (s ∷ ss) v q j = hits_kept i (clock + 1) ss (with_key s.0 (new_key i clock s.1) v) q j ∙
    key_leaves_hits s.0 (new_key i clock s.1) v q j

execs_fewer : (i clock : ℕ) (ss : Settings) (v : State) (q : List ℕ) (k j : ℕ) →
    (state_set i clock ss v).execs q k j ≤ v.execs q k j
execs_fewer i clock [] v q k j = omega arith
execs_fewer i clock (s ∷ ss) v q k j =
    let rest = execs_fewer i (clock + 1) ss (with_key s.0 (new_key i clock s.1) v) q k j in
    let first = key_few_execs s.0 (new_key i clock s.1) v q k j in
    omega (arith, rest, first)

own_set : (i clock : ℕ) (ss : Settings) (v : State) (j : ℕ) → HasOwn v j → HasOwn (state_set i clock ss v) j
own_set i clock [] v j own = own
own_set i clock (s ∷ ss) v j own = own_set i (clock + 1) ss (with_key s.0 (new_key i clock s.1) v) j
    (own_key v s.0 (new_key i clock s.1) j own)

-- ---- the node

-- an ask that sets points issues their keys, and counts its clock by them
pub record Issues (a : Asked) : Type 0 where
  pub adds : (i : ℕ) (n : Node) (words : List ℕ) → operations_added i n a words ≡ operations_issued i n.marks.clock
      (settings a)
  pub counts : (n : Node) → clock_after n a ≡ n.marks.clock + length (settings a)

pub issues_load : (text : List ℕ) → Issues (asks.Load text)
issues_load text = record {
  adds = λ i n words. refl;
  counts =
      λ n. ap (λ k. n.marks.clock + k) (sym (length-map (points_in text) _));
}

pub issues_some : (a : Asked) (s : List ℕ × Option (List ℕ)) (ss : Settings) → settings a ≡ s ∷ ss → Issues a
issues_some (asks.Set name text) s ss h = record { adds = λ i n words. refl; counts = λ n. refl }
issues_some (asks.Remove name) s ss h = record { adds = λ i n words. refl; counts = λ n. refl }
issues_some (asks.Load text) s ss h = issues_load text
issues_some (asks.Pass name) s ss h = absurd (let impossible : ◌≡◌ {A = Settings} [] (s ∷ ss) = h in cc)
issues_some (asks.Shift name term to amount) s ss h = absurd (let impossible : ◌≡◌ {A = Settings} [] (s ∷ ss) = h in cc)
issues_some (asks.Grant name term amount) s ss h = absurd (let impossible : ◌≡◌ {A = Settings} [] (s ∷ ss) = h in cc)
issues_some (asks.Emit to versions chosen) s ss h = absurd (let impossible : ◌≡◌ {A = Settings} [] (s ∷ ss) = h in cc)
issues_some (asks.Deliver read) s ss h = absurd (let impossible : ◌≡◌ {A = Settings} [] (s ∷ ss) = h in cc)

-- after points were set
pub holds_set : (config : Config) (clock : ℕ) (state next : State) (len : ℕ) (n : Node) (a : Asked) → Issues a →
    Holds config clock state len n → len < config.trace_cap → next ≡ state_set config.node clock (settings a) state →
    Holds config (clock + length (settings a)) next (len + 1) (after config.node n a [])
unfolding after
holds_set config clock state next len n a issues h room e =
    let ss : Settings = settings a in
    let at : n.marks.clock ≡ clock = h.clock_is in
    let was : clock_of n.ops ≤ clock = h.carried in
    let adds : operations_added config.node n a [] ≡ operations_issued config.node clock ss =
    issues.adds config.node n [] ∙ ap (λ c. operations_issued config.node c ss) at in
    let carried : clock_of (operations_added config.node n a [] ++ n.ops) ≤ clock + length ss =
    subst (λ os. clock_of (os ++ n.ops) ≤ clock + length ss) (sym adds)
    (issued_clock config.node clock ss n.ops was) in
    record {
      own = h.own;
      few = h.few;
      small = h.small;
      capped = omega arith;
      clock_is = issues.counts n ∙ ap (λ c. c + length ss) at;
      state_is = ap (λ os. fold (os ++ n.ops)) adds ∙ fold_issued config.node clock ss n.ops was ∙
          ap (state_set config.node clock ss) h.state_is ∙ sym e;
      carried = carried;
      hits_few = λ q. let x = ap (λ (v : State). v.hits q config.node) e in
          let y = hits_kept config.node clock ss state q config.node in let z = h.hits_few q in omega (arith, x, y, z);
      execs_few = λ q k. let x = ap (λ (v : State). v.execs q k config.node) e in
          let y = execs_fewer config.node clock ss state q k config.node in let z = h.execs_few q k in
          omega (arith, x, y, z);
      own_rights = subst (λ (v : State). HasOwn v config.node) (sym e)
          (own_set config.node clock ss state config.node h.own_rights);
    }
