-- The names of the points that a setting text sets.
use Rattle.std.proofs.Common.{ℕ, List, [], ◌∷◌, map, Option, Some, IsTrue, inl, inr, sym, subst}
use Rattle.actions.specs.Value.{TermValue}
use Rattle.actions.specs.Names.{is_name}
use Rattle.actions.specs.SettingGrammar.{Entry, blank, setting, SetEach, SpellsSetting}
use Rattle.actions.specs.Canonical.{canonical}
use Rattle.operations.specs.Operations.{IsIn}
use Rattle.message_format.specs.Spelling.{IsBody}
use Rattle.message_format.proofs.Members.{mapped_from}

each_named : (es : List Entry) (points : List (List ℕ × List TermValue)) → SetEach es points →
    (s : List ℕ × List TermValue) → IsIn s points → IsTrue (is_name s.0)
each_named [] [] h s k = absurd k
each_named [] (p ∷ ps) h s k = absurd h
each_named (blank spaces ∷ es) points h s k = each_named es points h s k
each_named (setting before name text after ∷ es) [] h s k = absurd h
each_named (setting before name text after ∷ es) (p ∷ ps) h s (inl e) =
    subst (λ (q : List ℕ × List TermValue). IsTrue (is_name q.0)) (sym e)
    (subst (λ (n : List ℕ). IsTrue (is_name n)) (sym h.1) h.0)
each_named (setting before name text after ∷ es) (p ∷ ps) h s (inr k) = each_named es ps h.4 s k

pub points_named : (text : List ℕ) (points : List (List ℕ × List TermValue)) → SpellsSetting text points →
    (s : List ℕ × List TermValue) → IsIn s points → IsTrue (is_name s.0)
points_named text points h s k = each_named h.entries.0 points h.entries.1 s k

-- what each of those points is set to can be told, where each of its texts can
pub settings_told : (points : List (List ℕ × List TermValue)) →
    ((s : List ℕ × List TermValue) → IsIn s points → IsTrue (is_name s.0)) →
    ((s : List ℕ × List TermValue) → IsIn s points → IsBody (Some (canonical s.1))) →
    (s : List ℕ × Option (List ℕ)) → IsIn s (map (λ point. (point.0, Some (canonical point.1))) points) →
    IsTrue (is_name s.0) × IsBody s.1
settings_told points named bodies s h =
    let r = mapped_from (λ (point : List ℕ × List TermValue). (point.0, Some (canonical point.1))) points s h in
    subst (λ (q : List ℕ × Option (List ℕ)). IsTrue (is_name q.0) × IsBody q.1) (sym r.2)
    (named r.0 r.1, bodies r.0 r.1)
