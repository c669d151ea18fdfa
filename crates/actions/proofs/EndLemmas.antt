-- A canonical text doesn't end in a space: it ends in a letter of a task's word or in a `)`.
use Rattle.std.proofs.Common.{◌≡◌, ◌≢◌, ℕ, List, [], ◌∷◌, ◌++◌, length, Option, Some, None, refl, sym, ap, subst, ◌∙◌, arith, append_assoc, length-append}
use Rattle.std.specs.Prelude.{codes}
use Rattle.std.proofs.lemmas.List.{append-nil, same_from_push}
use Rattle.actions.specs.Bytes.{closing_parenthesis, opening_parenthesis, space}
use Rattle.actions.specs.Value.{TaskValue, off, «return», sleep, panic, print, pause, yield, delay, TermValue}
use Rattle.actions.specs.Grammar.{chance_text, count_text, word_of, argument_text, arrow}
use Rattle.actions.specs.Canonical.{argument_of, canonical_term, task_text, term_text, canonical}
use Rattle.actions.specs.SettingGrammar.{EndsBare}

-- it has a last byte, which is no space
abbrev HasBareEnd : List ℕ → Type 0
HasBareEnd text = (front : List ℕ) × (last : ℕ) × (text ≡ front ++ last ∷ []) × (last ≢ space)

end_behind : (xs ys : List ℕ) → HasBareEnd ys → HasBareEnd (xs ++ ys)
end_behind xs ys h =
    (xs ++ h.0, h.1, ap (λ (zs : List ℕ). xs ++ zs) h.2 ∙ sym (append_assoc xs h.0 (h.1 ∷ [])), h.3)

word_end : (task : TaskValue) → HasBareEnd (word_of task)
word_end off = (codes "of", 102, refl, λ e. omega (arith, e))
word_end («return» text) = (codes "retur", 110, refl, λ e. omega (arith, e))
word_end (sleep n) = (codes "slee", 112, refl, λ e. omega (arith, e))
word_end (panic text) = (codes "pani", 99, refl, λ e. omega (arith, e))
word_end (print text) = (codes "prin", 116, refl, λ e. omega (arith, e))
word_end pause = (codes "paus", 101, refl, λ e. omega (arith, e))
word_end yield = (codes "yiel", 100, refl, λ e. omega (arith, e))
word_end (delay n) = (codes "dela", 121, refl, λ e. omega (arith, e))

argument_end : (word : List ℕ) (argument : Option (List ℕ)) → HasBareEnd word
    → HasBareEnd (word ++ argument_text argument)
argument_end word None h = subst HasBareEnd (sym (append-nil word)) h
argument_end word (Some a) h =
    end_behind word (opening_parenthesis ∷ (a ++ closing_parenthesis ∷ []))
    (opening_parenthesis ∷ a, closing_parenthesis, refl, λ e. omega (arith, e))

term_end : (t : TermValue) → HasBareEnd (term_text t)
term_end t =
    let w = canonical_term t in
    end_behind (chance_text w.chance) (count_text w.count ++ task_text t.task)
    (end_behind (count_text w.count) (task_text t.task)
    (argument_end (word_of t.task) (argument_of t.task) (word_end t.task)))

canonical_end : (t : TermValue) (ts : List TermValue) → HasBareEnd (canonical (t ∷ ts))
canonical_end t [] = term_end t
canonical_end t (u ∷ ts) =
    end_behind (term_text t) (arrow ++ canonical (u ∷ ts)) (end_behind arrow (canonical (u ∷ ts)) (canonical_end u ts))

pub canonical_ends_bare : (ts : List TermValue) → EndsBare (canonical ts)
canonical_ends_bare [] front e = omega (arith, ap length e, length-append front (space ∷ []))
canonical_ends_bare (t ∷ ts) front e =
    let h = canonical_end t ts in
    h.3 (same_from_push h.0 front h.1 space (sym h.2 ∙ e)).1
