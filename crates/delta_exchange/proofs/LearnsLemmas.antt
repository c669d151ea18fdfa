-- What a replica with versions has learned once its news are learned and marked.
use Rattle.std.proofs.Common.{◌≡◌, ℕ, ◌≤◌, ◌+◌, Bool, true, false, cond, not, nat_lt, List, [], ◌∷◌, ◌++◌, ◌==◌, map, length, zero, suc, ⊎_elim, arith, refl, sym, ◌∙◌, ap, subst}
use Rattle.std.proofs.lemmas.Bool.{true≢false, eqb-true}
use Rattle.std.specs.List.{AllByRecursion}
use Rattle.std.proofs.lemmas.List.{append-nil, length-map}
use Rattle.operations.specs.Operations.{Operation, IsIn, IsWellFormed}
use Rattle.replica_state.specs.States.{State}
use Rattle.replica_state.specs.Folds.{fold, IsUnion}
use Rattle.replica_state.specs.Knowledge.{knows, changes}
use Rattle.operations.proofs.Members.{IsIn-append_left, IsIn-append_right, IsIn-append_cases}
use Rattle.replica_state.proofs.KnownSets.{same_members}
use Rattle.replica_state.proofs.Changes.{no_change}
use Rattle.delta_exchange.specs.declared.news.Told.{Told}
use Rattle.delta_exchange.specs.Changes.{ChangesAt}
use Rattle.delta_exchange.specs.Marks.{MarksValue, AreUpto, last_changes}
use Rattle.delta_exchange.specs.News.{brings_key, unknown_in, news_in, news_of, operation_of, with_news, Brings, BringsNews}
use Rattle.delta_exchange.specs.Told.{HasLearned}
use Rattle.delta_exchange.specs.Versions.{VersionedValue, Issues}
use Rattle.delta_exchange.proofs.NewsChanges.{any_in_part, all_in_part, news_suffice, news_change}

operations_told : (ts : List Told) → map (λ (n : Operation × Bool). n.0) (map news_of ts) ≡ map operation_of ts
operations_told [] = refl
operations_told (t ∷ ts) = ap (λ os. operation_of t ∷ os) (operations_told ts)

operations_new : (v : State) (ops : List Operation) → map (λ (n : Operation × Bool). n.0)
    (map (λ op. (op, brings_key v op)) ops) ≡ ops
operations_new v [] = refl
operations_new v (op ∷ ops) = ap (λ os. op ∷ os) (operations_new v ops)

turned : (xs ys : List Operation) (op : Operation) → IsIn op (xs ++ ys) → IsIn op (ys ++ xs)
turned xs ys op h = ⊎_elim (λ k. IsIn-append_right op ys xs k) (λ k. IsIn-append_left op ys xs k)
    (IsIn-append_cases op xs ys h)

module _ (v : State) (told : List Operation) (ts : List Told) (e : map news_of ts ≡ news_in v told) where
  pub are_unknown : map operation_of ts ≡ unknown_in v told
  are_unknown = sym (operations_told ts) ∙ ap (map (λ (n : Operation × Bool). n.0)) e ∙
      operations_new v (unknown_in v told)

  pub change_if_any : changes v told ≡ nat_lt 0 (length ts)
  change_if_any = any_in_part (λ op. not (knows v op)) told ∙
      ap (λ n. nat_lt 0 n) (sym (length-map (unknown_in v told) (λ op. (op, brings_key v op))) ∙ ap length (sym e) ∙
      length-map ts news_of)

  -- who knows just the news brings them
  pub news_received : (received : State) → received ≡ fold (map operation_of ts ++ []) →
      BringsNews v received (map operation_of ts)
  news_received received knows a both f union =
      let news = map operation_of ts in
      union a (news ++ []) f knows ∙ ap (λ os. fold (a ++ os)) (append-nil news) ∙
      same_members (a ++ news) (news ++ a) (turned a news) (turned news a)

  -- so does who knows enough of what was told
  pub told_received : (received : State) → Brings v received told → BringsNews v received (map operation_of ts)
  told_received received brings a both f union =
      union a brings.kept f brings.knows ∙ same_members (a ++ brings.kept) (brings.kept ++ a) (turned a brings.kept)
      (turned brings.kept a)
      ∙ brings.enough a f ∙ sym (news_suffice a told)
      ∙ ap (λ (x : State). fold (unknown_in x told ++ a)) (sym f) ∙ ap (λ os. fold (os ++ a)) (sym are_unknown)

  -- the state that a merge with them comes to
  pub learned_state : (w received : State) → BringsNews v received (map operation_of ts) → IsUnion v received w →
      (a : List Operation) → v ≡ fold a → w ≡ fold (unknown_in v told ++ a)
  learned_state w received brings union a f = brings a w f union ∙ ap (λ os. fold (os ++ a)) are_unknown

  pub learned_all : (w : State) → ((a : List Operation) → v ≡ fold a → w ≡ fold (unknown_in v told ++ a)) →
      HasLearned v w told
  learned_all w state a f = state a f ∙ ap (λ (x : State). fold (unknown_in x told ++ a)) f ∙ news_suffice a told

  pub learned_changes : (w : State) (m : MarksValue) (version : ℕ) → 1 ≤ version → AreUpto m version →
      ((a : List Operation) → v ≡ fold a → w ≡ fold (unknown_in v told ++ a)) → (a : List Operation) → v ≡ fold a →
      ChangesAt v w version (last_changes m) (last_changes (with_news version (map news_of ts) m))
  learned_changes w m version some upto state a f =
      let changed = news_change a told m version some upto in
      let same : fold (unknown_in (fold a) told ++ a) ≡ w = sym
      (state a f ∙ ap (λ (x : State). fold (unknown_in x told ++ a)) f) in
      subst (λ ns. ChangesAt v w version (last_changes m) (last_changes (with_news version ns m))) (sym e)
      (subst (λ (x : State). ChangesAt x w version (last_changes m)
      (last_changes (with_news version (news_in x told) m))) (sym f)
      (subst (λ (x : State). ChangesAt (fold a) x version (last_changes m)
      (last_changes (with_news version (news_in (fold a) told) m))) same changed))

-- nothing changes where nothing is news
pub learns_nothing : (before : VersionedValue) (told : List Operation) → changes before.state told ≡ false →
    Issues before told before
learns_nothing before told none = record {
  learned = record {
    state = λ ops e. e ∙ sym (no_change told ops (ap (λ (v : State). changes v told) (sym e) ∙ none));
    version = by_test (changes before.state told) none;
    last = λ ops e. record {
      key = λ name. (λ _. refl, λ other. absurd (other refl));
      cell = λ name c some. (λ _. refl, λ other. absurd (other (λ _. refl, refl)));
    };
  };
  known = refl;
  acked = refl;
}
  where
    by_test : (b : Bool) → b ≡ false → before.version ≡ before.version + cond b 1 0
    by_test true e = absurd (true≢false e)
    by_test false e = omega arith

-- operations of a list are well formed where those of the list that they come from are
pub news_well_formed : (v : State) (told : List Operation) (ts : List Told) → map news_of ts ≡ news_in v told →
    AllByRecursion IsWellFormed told → AllByRecursion (λ (t : Told). IsWellFormed (operation_of t)) ts
news_well_formed v told ts e h = each ts (subst (AllByRecursion IsWellFormed) (sym (are_unknown v told ts e))
    (all_in_part (λ op. not (knows v op)) told h))
  where
    each : (ts : List Told) → AllByRecursion IsWellFormed (map operation_of ts) →
        AllByRecursion (λ (t : Told). IsWellFormed (operation_of t)) ts
    each [] h = tt
    each (t ∷ ts) h = (h.0, each ts h.1)

pub none_new : (n : ℕ) → true ≡ (n == 0) → nat_lt 0 n ≡ false
none_new n e = ap (λ k. nat_lt 0 k) (eqb-true n 0 (sym e))

pub some_new : (n : ℕ) → (n == 0) ≡ false → nat_lt 0 n ≡ true
some_new zero e = absurd (true≢false e)
some_new (suc n) e = grind arith

-- who knows all that was told brings it, and so does who knows nothing where there are no news
pub all_brings : (v received : State) (told : List Operation) → received ≡ fold told → Brings v received told
all_brings v received told knows = record { kept = told; knows = knows; told_all = λ op h. h; enough = λ ops f. refl }

pub none_brings : (v received : State) (told : List Operation) → received ≡ fold [] → changes v told ≡ false →
    Brings v received told
none_brings v received told knows none = record {
  kept = [];
  knows = knows;
  told_all = λ op h. absurd h;
  enough = λ ops f. sym (no_change told ops (ap (λ (x : State). changes x told) (sym f) ∙ none));
}
