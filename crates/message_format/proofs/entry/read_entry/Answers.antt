use Rattle.std.proofs.Common.{◌≡◌, ℕ, List, option_map, Option, Result, Ok, Err, refl, rules}
use Rattle.std.proofs.lemmas.Result.{err_from_is_err_and}
use Rattle.refusals.specs.Refusals.{◌>>=◌}
use Rattle.refusals.proofs.StepLemmas.{fails_along}
use Rattle.message_format.specs.declared.fault.WireFault.{WireFault}
use Rattle.stamp_register.specs.Keys.{KeyValue, key_value}
use Rattle.message_format.specs.declared.wire.Form.{Form}
use Rattle.message_format.specs.Messages.{EntryValue, entry_value}
use Rattle.message_format.specs.Reading.{Fails, is_out_of_memory, name_at, key_at, hits_at, execs_at, shifts_at, grants_at, counted_at, entry_at}
use Rattle.message_format.proofs.entry.read_entry.Goals as goal

abbrev Counted : Type 0
Counted = List (ℕ × ℕ × ℕ) × List (ℕ × ℕ × ℕ × ℕ) × List (ℕ × ℕ × ℕ)

abbrev entry_of : List ℕ → KeyValue → List (ℕ × ℕ) → Counted → EntryValue
entry_of name key hits counted =
    record {
      name = name;
      key = key;
      hits = hits;
      execs = counted.0;
      shifts = counted.1;
      grants = counted.2;
    }

module _ (all nodes : ℕ) (form : Form) (last : Option EntryValue) (above : Option (List ℕ)) (left : List ℕ)
    (same : option_map (λ e. e.name) last ≡ above) where
  -- an entry is read as what was counted is
  entry_counted : (name : List ℕ × List ℕ) (key : KeyValue × List ℕ) (hits : List (ℕ × ℕ) × List ℕ)
      → name_at all above left ≡ Ok name → key_at all nodes name.1 ≡ Ok key → hits_at all nodes key.1 ≡ Ok hits
      → entry_at all nodes form last left
      ≡ (counted_at all nodes key.0 form hits.1 >>= λ x. Ok (entry_of name.0 key.0 hits.0 x.0, x.1))
  unfolding entry_at counted_at
  entry_counted name key hits named keyed hit = by_execs (execs_at all nodes key.0 hits.1) refl
    where
      by_grants : (execs : List (ℕ × ℕ × ℕ) × List ℕ) (shifts : List (ℕ × ℕ × ℕ × ℕ) × List ℕ)
          → execs_at all nodes key.0 hits.1 ≡ Ok execs → shifts_at all nodes key.0 execs.1 ≡ Ok shifts
          → (read : Result (List (ℕ × ℕ × ℕ) × List ℕ) WireFault) → grants_at all nodes key.0 form shifts.1 ≡ read
          → entry_at all nodes form last left
          ≡ (counted_at all nodes key.0 form hits.1 >>= λ x. Ok (entry_of name.0 key.0 hits.0 x.0, x.1))
      by_grants execs shifts run moved (Ok x) e = rw (same, named, keyed, hit, run, moved, e) refl
      by_grants execs shifts run moved (Err f) e = rw (same, named, keyed, hit, run, moved, e) refl

      by_shifts : (execs : List (ℕ × ℕ × ℕ) × List ℕ) → execs_at all nodes key.0 hits.1 ≡ Ok execs
          → (read : Result (List (ℕ × ℕ × ℕ × ℕ) × List ℕ) WireFault) → shifts_at all nodes key.0 execs.1 ≡ read
          → entry_at all nodes form last left
          ≡ (counted_at all nodes key.0 form hits.1 >>= λ x. Ok (entry_of name.0 key.0 hits.0 x.0, x.1))
      by_shifts execs run (Ok x) e = by_grants execs x run e (grants_at all nodes key.0 form x.1) refl
      by_shifts execs run (Err f) e = rw (same, named, keyed, hit, run, e) refl

      by_execs : (read : Result (List (ℕ × ℕ × ℕ) × List ℕ) WireFault) → execs_at all nodes key.0 hits.1 ≡ read
          → entry_at all nodes form last left
          ≡ (counted_at all nodes key.0 form hits.1 >>= λ x. Ok (entry_of name.0 key.0 hits.0 x.0, x.1))
      by_execs (Ok x) e = by_shifts x e (shifts_at all nodes key.0 x.1) refl
      by_execs (Err f) e = rw (same, named, keyed, hit, e) refl

  -- a fault of a field is one of the entry
  module _ (e : WireFault) where
    no_name : Fails e (name_at all above left) → Fails e (entry_at all nodes form last left)
    unfolding entry_at
    no_name fails = fails_along is_out_of_memory e (name_at all above left) (entry_at all nodes form last left)
        (λ f refused. rw (same, refused) refl) fails

    no_key : (name : List ℕ × List ℕ) → name_at all above left ≡ Ok name → Fails e (key_at all nodes name.1) →
        Fails e (entry_at all nodes form last left)
    unfolding entry_at
    no_key name named fails = fails_along is_out_of_memory e (key_at all nodes name.1)
        (entry_at all nodes form last left) (λ f refused. rw (same, named, refused) refl) fails

    no_hits : (name : List ℕ × List ℕ) → (key : KeyValue × List ℕ) → name_at all above left ≡ Ok name →
        key_at all nodes name.1 ≡ Ok key → Fails e (hits_at all nodes key.1) →
        Fails e (entry_at all nodes form last left)
    unfolding entry_at
    no_hits name key named keyed fails = fails_along is_out_of_memory e (hits_at all nodes key.1)
        (entry_at all nodes form last left) (λ f refused. rw (same, named, keyed, refused) refl) fails

    no_counted : (name : List ℕ × List ℕ) → (key : KeyValue × List ℕ) → (hits : List (ℕ × ℕ) × List ℕ) →
        name_at all above left ≡ Ok name → key_at all nodes name.1 ≡ Ok key → hits_at all nodes key.1 ≡ Ok hits →
        Fails e (counted_at all nodes key.0 form hits.1) → Fails e (entry_at all nodes form last left)
    no_counted name key hits named keyed hit fails =
        fails_along is_out_of_memory e (counted_at all nodes key.0 form hits.1) (entry_at all nodes form last left)
        (λ f refused. rw (entry_counted name key hits named keyed hit, refused) refl) fails

pub returns-in_err-name : goal.returns-in_err-name
returns-in_err-name c =
    let from = c.from_residual in
    let p = err_from_is_err_and from.result from.ensures.1 in
    let last = option_map (λ e. entry_value e.now) c.args.last in
    let same : option_map (λ e. e.name) last ≡ option_map (λ n. n.now) c.map.result = search rules in
    rw (p.1, p.2) (no_name c.args.whole.len c.args.whole.nodes c.args.form last _ c.args.rest.now same _
    c.in_err-name.ensures)

pub returns-in_err-key : goal.returns-in_err-key
returns-in_err-key c =
    let from = c.from_residual-in_err-key in
    let p = err_from_is_err_and from.result from.ensures.1 in
    let last = option_map (λ e. entry_value e.now) c.args.last in
    let same : option_map (λ e. e.name) last ≡ option_map (λ n. n.now) c.map.result = search rules in
    rw (p.1, p.2) (no_key c.args.whole.len c.args.whole.nodes c.args.form last _ c.args.rest.now same _
    (c.in_ok-name.name, c.in_ok-name.rest.now) c.in_ok-name.ensures
    c.in_err-key.ensures)

pub returns-in_err-hits : goal.returns-in_err-hits
returns-in_err-hits c =
    let from = c.from_residual-in_err-hits in
    let p = err_from_is_err_and from.result from.ensures.1 in
    let last = option_map (λ e. entry_value e.now) c.args.last in
    let same : option_map (λ e. e.name) last ≡ option_map (λ n. n.now) c.map.result = search rules in
    rw (p.1, p.2) (no_hits c.args.whole.len c.args.whole.nodes c.args.form last _ c.args.rest.now same _
    (c.in_ok-name.name, c.in_ok-name.rest.now) (key_value c.in_ok-key.key, c.in_ok-key.rest.now)
    c.in_ok-name.ensures c.in_ok-key.ensures
    c.in_err-hits.ensures)

pub returns-in_err-execs : goal.returns-in_err-execs
returns-in_err-execs c =
    let from = c.from_residual-in_err-execs in
    let p = err_from_is_err_and from.result from.ensures.1 in
    let last = option_map (λ e. entry_value e.now) c.args.last in
    let same : option_map (λ e. e.name) last ≡ option_map (λ n. n.now) c.map.result = search rules in
    rw (p.1, p.2) (no_counted c.args.whole.len c.args.whole.nodes c.args.form last _ c.args.rest.now same _
    (c.in_ok-name.name, c.in_ok-name.rest.now) (key_value c.in_ok-key.key, c.in_ok-key.rest.now)
    (c.in_ok-hits.hits.items, c.in_ok-hits.rest.now) c.in_ok-name.ensures c.in_ok-key.ensures c.in_ok-hits.ensures
    c.in_err-execs.ensures)

pub returns : goal.returns
returns c =
    let last = option_map (λ e. entry_value e.now) c.args.last in
    let same : option_map (λ e. e.name) last ≡ option_map (λ n. n.now) c.map.result = search rules in
    rw (
      entry_counted c.args.whole.len c.args.whole.nodes c.args.form last _ c.args.rest.now same
          (c.in_ok-name.name, c.in_ok-name.rest.now) (key_value c.in_ok-key.key, c.in_ok-key.rest.now)
          (c.in_ok-hits.hits.items, c.in_ok-hits.rest.now) c.in_ok-name.ensures c.in_ok-key.ensures c.in_ok-hits.ensures,
      c.in_ok-execs.ensures,
    ) refl
