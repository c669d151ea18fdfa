-- One term: its argument and its word.
use Rattle.std.proofs.Common.{◌≡◌, ◌≢◌, ℕ, suc, ◌+◌, ◌-◌, true, false, eqb, List, [], ◌∷◌, ◌++◌, length, get_or, take, Option, Err, refl, sym, ap, subst, ◌∙◌, arith, length-append}
use Rattle.std.specs.Prelude.{codes, bytes_eq}
use Rattle.std.proofs.lemmas.Bool.{ne_eqb, false_from_ne_true}
use Rattle.std.proofs.lemmas.Slice.Eq.{bytes_eq-Decides}
use Rattle.std.proofs.lemmas.List.{take_more, take_all, get_or_at, get_or-append-add, nil_from_length}
use Rattle.actions.specs.declared.fault.ActionFault.TheVariants.{Unclosed, UnknownTask}
use Rattle.actions.specs.Bytes.{has_byte, closing_parenthesis, opening_parenthesis}
use Rattle.actions.specs.Reading.{argument_at, task_at}

-- a list with something at its end
pub split_last : (b : ℕ) (bs : List ℕ) → (b ∷ bs) ≡ take (length bs) (b ∷ bs) ++ get_or (b ∷ bs) (length bs) 0 ∷ []
split_last b bs = sym (take_all (length bs + 1) (b ∷ bs) (omega arith)) ∙ take_more (b ∷ bs) (length bs) 0 (omega arith)

-- what ends with a `)` behind a `(` has it in what follows that `(`
pub last_of : (xs a : List ℕ) → get_or (xs ++ opening_parenthesis ∷ a) (length (xs ++ opening_parenthesis ∷ a) - 1) 0 ≡
    closing_parenthesis
    → (front : List ℕ) × (a ≡ front ++ closing_parenthesis ∷ [])
last_of xs [] e =
    let n : length (xs ++ opening_parenthesis ∷ []) - 1 ≡ length xs =
    omega (arith, length-append xs (opening_parenthesis ∷ [])) in
    absurd (omega (arith, rw n at e, get_or_at xs opening_parenthesis [] 0 (length xs) refl))
last_of xs (b ∷ bs) e =
    let n : length (xs ++ opening_parenthesis ∷ b ∷ bs) - 1 ≡ length xs + suc (length bs) =
    omega (arith, length-append xs (opening_parenthesis ∷ b ∷ bs)) in
    let there : get_or (b ∷ bs) (length bs) 0 ≡ closing_parenthesis =
    sym (get_or-append-add xs (opening_parenthesis ∷ b ∷ bs) (suc (length bs)) 0)
    ∙ ap (λ (i : ℕ). get_or (xs ++ opening_parenthesis ∷ b ∷ bs) i 0) (sym n) ∙ e in
    (take (length bs) (b ∷ bs), split_last b bs ∙ ap (λ (x : ℕ). take (length bs) (b ∷ bs) ++ x ∷ []) there)

pub unclosed : (k : ℕ) (text xs a : List ℕ) → text ≡ xs ++ opening_parenthesis ∷ a →
    has_byte opening_parenthesis text ≡ true
    → ((front : List ℕ) → a ≢ front ++ closing_parenthesis ∷ []) → argument_at k text ≡ Err (Unclosed k)
unfolding argument_at
unclosed k text xs a e h lacks =
    let open_end : eqb (get_or text (length text - 1) 0) closing_parenthesis ≡ false =
    ne_eqb (get_or text (length text - 1) 0) closing_parenthesis
    (λ last. let p = last_of xs a (subst (λ (t : List ℕ). get_or t (length t - 1) 0 ≡ closing_parenthesis) e last) in
    lacks p.0 p.1) in
    rw (h, open_end) refl

different : (xs ys : List ℕ) → xs ≢ ys → bytes_eq xs ys ≡ false
different xs ys h = false_from_ne_true (bytes_eq xs ys) (λ e. h ((bytes_eq-Decides xs ys).0 e))

not_empty : (word : List ℕ) → word ≢ [] → eqb (length word) 0 ≡ false
not_empty word h = ne_eqb (length word) 0 (λ e. h (nil_from_length word e))

pub unknown : (k : ℕ) (word : List ℕ) (argument : Option (List ℕ)) → word ≢ []
    → word ≢ codes "off" → word ≢ codes "return" → word ≢ codes "sleep" → word ≢ codes "panic"
    → word ≢ codes "print" → word ≢ codes "pause" → word ≢ codes "yield" → word ≢ codes "delay"
    → task_at k word argument ≡ Err (UnknownTask k)
unfolding task_at
unknown k word argument e0 e1 e2 e3 e4 e5 e6 e7 e8 =
    rw (
      not_empty word e0,
      different word (codes "off") e1,
      different word (codes "return") e2,
      different word (codes "sleep") e3,
      different word (codes "panic") e4,
      different word (codes "print") e5,
      different word (codes "pause") e6,
      different word (codes "yield") e7,
      different word (codes "delay") e8,
    ) refl
