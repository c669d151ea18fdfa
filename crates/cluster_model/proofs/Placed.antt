-- The messages of a world stay where they are.
use Rattle.std.proofs.Common.{◌≡◌, ◌≢◌, ℕ, ◌<◌, ◌⊎◌, inl, inr, List, [], ◌∷◌, ◌++◌, length, map, sym, ◌∙◌, ap, subst, Option, Some, Ok}
use Rattle.std.proofs.lemmas.Bool.{cases_eq}
use Rattle.std.proofs.lemmas.List.{length-set}
use Rattle.std.specs.Prelude.{slice_get, slice_set, option_and_then}
use Rattle.node_calls.specs.Asks.{Asked, Message, Call, IsEmitted}
use Rattle.node_core.specs.Traces.{Kept, after_call, entry_for}
use Rattle.cluster_model.specs.declared.world.Place.{Place}
use Rattle.cluster_model.specs.Places.{IsEmitOf, IsPlace, IsWorld, call_at, message_at, message_of_call, message_told}
use Rattle.cluster_model.proofs.Lists.{get_below, get_set_same, get_set_other, get_append, get_push, get_last, map_same}

same_kept : (a b : Kept) → ◌≡◌ {A = Option Kept} (Some a) (Some b) → a ≡ b
same_kept a b h = cc

-- ---- what stands at a place

pub call_is : (nodes : List Kept) (place : Place) (is : IsPlace nodes place) → call_at nodes place ≡ Some is.emit.1.call
call_is nodes place is =
    ap (λ o. option_and_then (λ (k : Kept). slice_get k.trace place.entry) o) is.there ∙ is.emit.1.there

pub message_is : (nodes : List Kept) (place : Place) (is : IsPlace nodes place) → message_at nodes place ≡ is.emit.0
message_is nodes place is = ap message_of_call (call_is nodes place is) ∙ ap message_told is.emit.1.reply

-- the message of an emit is one
pub one_message : (trace : List Call) (entry : ℕ) (m n : Message) → IsEmitOf trace entry m → IsEmitOf trace entry n →
    m ≡ n
one_message trace entry m n a b =
    let a_there = a.there in
    let b_there = b.there in
    let call : ◌≡◌ {A = Option Call} (Some a.call) (Some b.call) = sym a_there ∙ b_there in
    let same : a.call ≡ b.call = cc in
    let replies : IsEmitted (Ok m) ≡ IsEmitted (Ok n) = sym a.reply ∙ ap (λ (c : Call). c.reply) same ∙ b.reply in
    cc

-- ---- after a call of one node

module _ (nodes : List Kept) (i : ℕ) (k : Kept) (there : slice_get nodes i ≡ Some k) (ask : Asked) (words : List ℕ)
  where
    abbrev after : List Kept
    after = slice_set nodes i (after_call k ask words)

    low : i < length nodes
    low = get_below nodes i k there

    place_stays : (place : Place) → IsPlace nodes place → IsPlace after place
    place_stays place is = at (cases_eq place.node i)
      where
        at : (place.node ≡ i) ⊎ (place.node ≢ i) → IsPlace after place
        at (inl same) =
            let node : is.node ≡ k = same_kept is.node k (sym is.there ∙ ap (slice_get nodes) same ∙ there) in
            let emit : IsEmitOf k.trace place.entry is.emit.0 =
            subst (λ (n : Kept). IsEmitOf n.trace place.entry is.emit.0) node is.emit.1 in
            record {
              node = after_call k ask words;
              there = ap (slice_get after) same ∙ get_set_same nodes i (after_call k ask words) low;
              emit = (
                is.emit.0,
                record {
                  call = emit.call;
                  there =
                      get_append k.trace (entry_for k ask words ∷ []) place.entry emit.call emit.there;
                  reply = emit.reply;
                },
              );
            }
        at (inr other) =
            record {
              node = is.node;
              there = get_set_other nodes i place.node (after_call k ask words) other ∙ is.there;
              emit = is.emit;
            }

    message_stays : (place : Place) → IsPlace nodes place → message_at after place ≡ message_at nodes place
    message_stays place is = at (cases_eq place.node i)
      where
        read : Option Kept → Message
        read o = message_of_call (option_and_then (λ (k : Kept). slice_get k.trace place.entry) o)

        at : (place.node ≡ i) ⊎ (place.node ≢ i) → message_at after place ≡ message_at nodes place
        at (inl same) =
            let node : is.node ≡ k = same_kept is.node k (sym is.there ∙ ap (slice_get nodes) same ∙ there) in
            let emit : IsEmitOf k.trace place.entry is.emit.0 =
            subst (λ (n : Kept). IsEmitOf n.trace place.entry is.emit.0) node is.emit.1 in
            ap read (ap (slice_get after) same ∙ get_set_same nodes i (after_call k ask words) low)
            ∙ ap message_of_call (get_append k.trace (entry_for k ask words ∷ []) place.entry emit.call emit.there)
            ∙ ap message_told emit.reply
            ∙ sym (message_is nodes place is)
        at (inr other) = ap read (get_set_other nodes i place.node (after_call k ask words) other)

    pub messages_stay : (places : List Place) → ((n : ℕ) (p : Place) → slice_get places n ≡ Some p → IsPlace nodes p) →
        map (message_at after) places ≡ map (message_at nodes) places
    messages_stay places placed = map_same (message_at after) (message_at nodes) places
        (λ n p h. message_stays p (placed n p h))

    pub world_stays : (places : List Place) → IsWorld nodes places → IsWorld after places
    world_stays places is =
        record {
          sizes = λ j l h. by_place j l h (cases_eq j i);
          numbers = λ j l h. numbered j l h (cases_eq j i);
          whole = λ j l h. kept_whole j l h (cases_eq j i);
          placed = λ n p h. place_stays p (is.placed n p h);
        }
      where
        size : length after ≡ length nodes
        size = length-set nodes i (after_call k ask words)

        set_here : (j : ℕ) (l : Kept) → slice_get after j ≡ Some l → j ≡ i → after_call k ask words ≡ l
        set_here j l h same = same_kept _ l (sym (get_set_same nodes i (after_call k ask words) low) ∙
            ap (slice_get after) (sym same) ∙ h)

        by_place : (j : ℕ) (l : Kept) → slice_get after j ≡ Some l → (j ≡ i) ⊎ (j ≢ i) → l.config.nodes ≡ length after
        by_place j l h (inl same) = ap (λ (l : Kept). l.config.nodes) (sym (set_here j l h same)) ∙ is.sizes i k there ∙
            sym size
        by_place j l h (inr other) = is.sizes j l (sym (get_set_other nodes i j (after_call k ask words) other) ∙ h) ∙
            sym size

        numbered : (j : ℕ) (l : Kept) → slice_get after j ≡ Some l → (j ≡ i) ⊎ (j ≢ i) → l.config.node ≡ j
        numbered j l h (inl same) = ap (λ (l : Kept). l.config.node) (sym (set_here j l h same)) ∙
            is.numbers i k there ∙
            sym same
        numbered j l h (inr other) = is.numbers j l (sym (get_set_other nodes i j (after_call k ask words) other) ∙ h)

        kept_whole : (j : ℕ) (l : Kept) → slice_get after j ≡ Some l → (j ≡ i) ⊎ (j ≢ i) → l.from ≡ 0
        kept_whole j l h (inl same) = ap (λ (l : Kept). l.from) (sym (set_here j l h same)) ∙ is.whole i k there
        kept_whole j l h (inr other) = is.whole j l (sym (get_set_other nodes i j (after_call k ask words) other) ∙ h)

-- ---- one message more

pub world_pushed : (nodes : List Kept) (places : List Place) (place : Place) → IsWorld nodes places →
    IsPlace nodes place → IsWorld nodes (places ++ place ∷ [])
world_pushed nodes places place is new =
    record {
      sizes = is.sizes;
      numbers = is.numbers;
      whole = is.whole;
      placed = λ n p h. at n p h (cases_eq n (length places));
    }
  where
    same_place : (a b : Place) → ◌≡◌ {A = Option Place} (Some a) (Some b) → a ≡ b
    same_place a b h = cc

    at : (n : ℕ) (p : Place) → slice_get (places ++ place ∷ []) n ≡ Some p → (n ≡ length places) ⊎ (n ≢ length places) →
        IsPlace nodes p
    at n p h (inl same) = subst (IsPlace nodes) (same_place place p
        (sym (get_last places place) ∙ ap (slice_get (places ++ place ∷ [])) (sym same) ∙ h)) new
    at n p h (inr other) = is.placed n p (get_push places place n p h other)
