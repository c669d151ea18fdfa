-- The list of the points that are set, name by name.
use Rattle.std.proofs.Common.{◌≡◌, ℕ, ◌&&◌, Bool, true, false, List, [], ◌∷◌, ◌++◌, Option, Some, None, refl, sym, ◌∙◌, ap, append_assoc}
use Rattle.std.specs.Prelude.{is_none}
use Rattle.std.specs.List.{filter_map, join_with_byte, cons_option}
use Rattle.std.proofs.lemmas.List.{append-nil}
use Rattle.replica_state.specs.States.{State}
use Rattle.node_steps.specs.Texts.{list_entry, entry_after, list_text}

-- nothing stands in the list yet
pub is_empty : List (List ℕ) → Bool
is_empty [] = true
is_empty (e ∷ es) = false

joined_more : (es : List (List ℕ)) (o : Option (List ℕ)) → join_with_byte 59 (es ++ cons_option o []) ≡ entry_after
    (is_empty es) o (join_with_byte 59 es)
unfolding is_empty
joined_more es None = ap (λ ds. join_with_byte 59 ds) (append-nil es)
joined_more [] (Some e) = refl
joined_more (x ∷ []) (Some e) = refl
joined_more (x ∷ y ∷ es) (Some e) = ap (λ text. x ++ 59 ∷ text) (joined_more (y ∷ es) (Some e)) ∙
    sym (append_assoc x (59 ∷ join_with_byte 59 (y ∷ es)) (59 ∷ e))

empty_more : (es : List (List ℕ)) (o : Option (List ℕ)) → is_empty (es ++ cons_option o []) ≡ (is_empty es && is_none o)
unfolding is_empty
empty_more [] None = refl
empty_more [] (Some e) = refl
empty_more (x ∷ es) o = refl

joined_both : (es : List (List ℕ)) (o : Option (List ℕ)) (rest : List (List ℕ)) →
    (es ++ cons_option o []) ++ rest ≡ es ++ cons_option o rest
joined_both es None rest = ap (λ ds. ds ++ rest) (append-nil es)
joined_both es (Some e) rest = append_assoc es (e ∷ []) rest

-- the list once these names are told after a text, where it is still empty or not
pub grown : State → Bool → List ℕ → List (List ℕ) → List ℕ
grown v first text [] = text
grown v first text (n ∷ ns) = grown v (first && is_none (list_entry v n)) (entry_after first (list_entry v n) text) ns

pub grown_step : (v : State) (first : Bool) (text : List ℕ) (n : List ℕ) (ns : List (List ℕ)) →
    grown v first text (n ∷ ns) ≡ grown v (first && is_none (list_entry v n)) (entry_after first (list_entry v n) text)
    ns
unfolding grown
grown_step v first text n ns = refl

pub grown_end : (v : State) (first : Bool) (text : List ℕ) → grown v first text [] ≡ text
unfolding grown
grown_end v first text = refl

grown_joined : (v : State) (es ns : List (List ℕ)) → grown v (is_empty es) (join_with_byte 59 es) ns ≡ join_with_byte 59
    (es ++ filter_map (list_entry v) ns)
unfolding grown
grown_joined v es [] = ap (join_with_byte 59) (sym (append-nil es))
grown_joined v es (n ∷ ns) =
    let o = list_entry v n in
    (λ i. grown v (sym (empty_more es o) i) (sym (joined_more es o) i) ns)
    ∙ grown_joined v (es ++ cons_option o []) ns
    ∙ ap (join_with_byte 59) (joined_both es o (filter_map (list_entry v) ns))

pub all_grown : (v : State) → grown v true [] v.names ≡ list_text v
unfolding list_text is_empty
all_grown v = grown_joined v [] v.names
