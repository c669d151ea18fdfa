-- The two laws: what is read is spelled so, and what is spelled so is read.
use Rattle.std.proofs.Common.{◌≡◌, ℕ, ◌<◌, ◌≤◌, ◌^◌, ◌⊎◌, inl, inr, Bool, true, false, cond, eqb, leb, List, [], ◌∷◌, ◌++◌, length, Result, Ok, Err, refl, sym, ap, subst, ◌∙◌, append_assoc}
use Rattle.std.specs.Int.{w64, to_be_bytes}
use Rattle.std.specs.Str.{bytes_eq}
use Rattle.std.proofs.lemmas.Bool.{eqb-true, leb-true, le-leb}
use Rattle.std.proofs.lemmas.List.{append-nil, nil_from_length}
use Rattle.std.proofs.lemmas.Slice.Eq.{bytes_eq-Decides}
use Rattle.message_format.specs.declared.fault.WireFault.{WireFault}
use Rattle.message_format.specs.declared.fault.WireFault.TheVariants as faults
use Rattle.message_format.specs.declared.wire.Form.{Form}
use Rattle.message_format.specs.declared.wire.Form.TheVariants.{Plain, WithGrants}
use Rattle.message_format.specs.Messages.{EntryValue, MessageValue}
use Rattle.message_format.specs.Spelling.{max_message, magic, form_of, versions_bytes, entries_bytes, message_bytes, IsMessage, SpellsMessage}
use Rattle.refusals.specs.Refusals.{◌>>=◌}
use Rattle.message_format.specs.Reading.{wants, offset, bytes_at, number_at, node_at, other_node_at, entries_at, is_form_of, magic_at, versions_at, fields_at, message_at}
use Rattle.refusals.proofs.StepLemmas.{bind_ok}
use Rattle.message_format.proofs.Steps.{given, wants_ok, at_ok}
use Rattle.message_format.proofs.Fields.{IsBytes, Takes, Takes-then, bytes_take, bytes_again, long_takes, long_again, node_takes, node_again, other_takes, other_again}
use Rattle.message_format.proofs.EntryLemmas.{entries_take, entries_again, form_is, are_entries, are_of_form}

-- the form that a magic says
form_parts : {A : Type 0} (plain with : Bool) (x y : A) (d : WireFault) (z : A) →
    cond plain (Ok x) (cond with (Ok y) (Err d)) ≡ Ok z → ((plain ≡ true) × (x ≡ z)) ⊎ ((with ≡ true) × (y ≡ z))
form_parts true with x y d z e = inl (refl, cc)
form_parts false true x y d z e = inr (refl, cc)
form_parts false false x y d z e = absurd cc

magic_takes : (all : ℕ) (left : List ℕ) (form : Form) (rest : List ℕ) → IsBytes left →
    magic_at all left ≡ Ok (form, rest) → Takes left (magic form) rest
unfolding magic_at
magic_takes all left form rest fits e =
    let d = faults.Magic (offset all left) in
    given (bind_ok (bytes_at all 4 left) (λ first. cond (bytes_eq first.0 (magic Plain)) (Ok (Plain, first.1))
    (cond (bytes_eq first.0 (magic WithGrants)) (Ok (WithGrants, first.1)) (Err d))) (form, rest) e) (λ a.
    let t = bytes_take all 4 left a.0.0 a.0.1 fits a.1 in
    let said : (f : Form) → bytes_eq a.0.0 (magic f) ≡ true → (f, a.0.1) ≡ (form, rest) →
    Takes left (magic form) rest = λ f named same.
    let taken = subst (λ (x : List ℕ). Takes left x a.0.1) ((bytes_eq-Decides a.0.0 (magic f)).0 named) t.0 in
    subst (λ (p : Form × List ℕ). Takes left (magic p.0) p.1) same taken in
    elim (form_parts (bytes_eq a.0.0 (magic Plain)) (bytes_eq a.0.0 (magic WithGrants)) (Plain, a.0.1)
    (WithGrants, a.0.1) d (form, rest) a.2) [
      | inl h ↦ said Plain h.0 h.1
      | inr h ↦ said WithGrants h.0 h.1
    ])

magic_again : (all : ℕ) (form : Form) (rest : List ℕ) → magic_at all (magic form ++ rest) ≡ Ok (form, rest)
unfolding magic_at
magic_again all Plain rest = rw (bytes_again all 4 (magic Plain) rest refl) refl
magic_again all WithGrants rest = rw (bytes_again all 4 (magic WithGrants) rest refl) refl

versions_take : (all : ℕ) (left : List ℕ) (v : ℕ × ℕ × ℕ) (rest : List ℕ) → IsBytes left →
    versions_at all left ≡ Ok (v, rest)
    → Takes left (to_be_bytes w64 v.0 ++ (to_be_bytes w64 v.1 ++ to_be_bytes w64 v.2)) rest × (v.0 < 2 ^ 64) ×
    (v.1 < 2 ^ 64) × (v.2 < 2 ^ 64)
unfolding versions_at
versions_take all left v rest fits e =
    given (bind_ok (number_at all w64 left) (λ base. number_at all w64 base.1 >>= λ upto. number_at all w64 upto.1 >>=
    λ ack. Ok ((base.0, upto.0, ack.0), ack.1)) (v, rest) e) (λ a.
    given (bind_ok (number_at all w64 a.0.1) (λ upto. number_at all w64 upto.1 >>= λ ack. Ok
    ((a.0.0, upto.0, ack.0), ack.1)) (v, rest) a.2) (λ b.
    given (bind_ok (number_at all w64 b.0.1) (λ ack. Ok ((a.0.0, b.0.0, ack.0), ack.1)) (v, rest) b.2) (λ d.
    let t = long_takes all left a.0.0 a.0.1 fits a.1 in
    let u = long_takes all a.0.1 b.0.0 b.0.1 t.0.rest_fits b.1 in
    let w = long_takes all b.0.1 d.0.0 d.0.1 u.0.rest_fits d.1 in
    let two = Takes-then a.0.1 (to_be_bytes w64 b.0.0) b.0.1 (to_be_bytes w64 d.0.0) d.0.1 u.0 w.0 in
    let three = Takes-then left (to_be_bytes w64 a.0.0) a.0.1 (to_be_bytes w64 b.0.0 ++ to_be_bytes w64 d.0.0) d.0.1 t.0
    two in
    at_ok (λ (x : (ℕ × ℕ × ℕ) × List ℕ). Takes left (to_be_bytes w64 x.0.0 ++
    (to_be_bytes w64 x.0.1 ++ to_be_bytes w64 x.0.2)) x.1 × (x.0.0 < 2 ^ 64) × (x.0.1 < 2 ^ 64) × (x.0.2 < 2 ^ 64))
    ((a.0.0, b.0.0, d.0.0), d.0.1) (v, rest) d.2
    (three, t.1, u.1, w.1))))

versions_again : (all base upto ack : ℕ) (rest : List ℕ) → base < 2 ^ 64 → upto < 2 ^ 64 → ack < 2 ^ 64
    → versions_at all ((to_be_bytes w64 base ++ (to_be_bytes w64 upto ++ to_be_bytes w64 ack)) ++ rest) ≡ Ok
    ((base, upto, ack), rest)
unfolding versions_at
versions_again all base upto ack rest p q r =
    let regrouped : (to_be_bytes w64 base ++ (to_be_bytes w64 upto ++ to_be_bytes w64 ack)) ++
    rest ≡ to_be_bytes w64 base ++ (to_be_bytes w64 upto ++ (to_be_bytes w64 ack ++ rest)) =
    append_assoc (to_be_bytes w64 base) (to_be_bytes w64 upto ++ to_be_bytes w64 ack) rest ∙
    ap (λ (x : List ℕ). to_be_bytes w64 base ++ x) (append_assoc (to_be_bytes w64 upto) (to_be_bytes w64 ack)
    rest) in
    ap (versions_at all) regrouped
    ∙ rw (
      long_again all base (to_be_bytes w64 upto ++ (to_be_bytes w64 ack ++ rest)) p,
      long_again all upto (to_be_bytes w64 ack ++ rest) q,
      long_again all ack rest r,
    ) refl

-- how fields after the magic are read, one after the other
module _ (all nodes : ℕ) (start : List ℕ) where
  message_with : ℕ → ℕ → ℕ × ℕ × ℕ → List EntryValue → MessageValue
  message_with from to versions es = record {
    from = from;
    to = to;
    base = versions.0;
    upto = versions.1;
    ack =
        versions.2;
    entries = es;
  }

  after_entries : Form → (ℕ × ℕ × (ℕ × ℕ × ℕ)) → List EntryValue × List ℕ → Result MessageValue WireFault
  after_entries form head read =
      wants (eqb (length read.1) 0) (faults.Long (offset all read.1)) read >>= λ entries.
      wants (is_form_of form entries.0) (faults.NoGrant (offset all start))
      (message_with head.0 head.1 head.2 entries.0)

fields_take : (all nodes : ℕ) (left : List ℕ) (m : MessageValue) → nodes ≤ 2 ^ 8 → IsBytes left →
    fields_at all nodes left ≡ Ok m → IsMessage nodes m × (left ≡ message_bytes m)
unfolding fields_at after_entries message_with
fields_take all nodes left m few fits e =
    let after = after_entries all nodes left in
    given (bind_ok (magic_at all left) (λ form. node_at all nodes form.1 >>= λ from. other_node_at all nodes from.0
    from.1 >>= λ to. versions_at all to.1 >>= λ versions. entries_at all nodes form.0 versions.1 >>= λ read. after
    form.0 (from.0, to.0, versions.0) read) m e) (λ a.
    given (bind_ok (node_at all nodes a.0.1) (λ from. other_node_at all nodes from.0 from.1 >>= λ to. versions_at all
    to.1 >>= λ versions. entries_at all nodes a.0.0 versions.1 >>= λ read. after a.0.0 (from.0, to.0, versions.0)
    read) m a.2) (λ b.
    given (bind_ok (other_node_at all nodes b.0.0 b.0.1) (λ to. versions_at all to.1 >>= λ versions. entries_at all
    nodes a.0.0 versions.1 >>= λ read. after a.0.0 (b.0.0, to.0, versions.0) read) m b.2) (λ d.
    given (bind_ok (versions_at all d.0.1) (λ versions. entries_at all nodes a.0.0 versions.1 >>= λ read. after a.0.0
    (b.0.0, d.0.0, versions.0) read) m d.2) (λ f.
    given (bind_ok (entries_at all nodes a.0.0 f.0.1) (λ read. after a.0.0 (b.0.0, d.0.0, f.0.0) read) m f.2) (λ g.
    given (bind_ok (wants (eqb (length g.0.1) 0) (faults.Long (offset all g.0.1)) g.0)
    (λ entries. wants (is_form_of a.0.0 entries.0) (faults.NoGrant (offset all left))
    (message_with all nodes left b.0.0 d.0.0 f.0.0 entries.0)) m g.2) (λ i.
    let l = wants_ok (eqb (length g.0.1) 0) (faults.Long (offset all g.0.1)) g.0 i.0 i.1 in
    let tells : wants (is_form_of a.0.0 g.0.0) (faults.NoGrant (offset all left))
    (message_with all nodes left b.0.0 d.0.0 f.0.0 g.0.0) ≡ Ok m =
    subst (λ (x : List EntryValue × List ℕ). wants (is_form_of a.0.0 x.0) (faults.NoGrant (offset all left))
    (message_with all nodes left b.0.0 d.0.0 f.0.0 x.0) ≡ Ok m) (sym l.1) i.2 in
    let made : MessageValue = message_with all nodes left b.0.0 d.0.0 f.0.0 g.0.0 in
    let h = wants_ok (is_form_of a.0.0 g.0.0) (faults.NoGrant (offset all left)) made m tells in
    let t = magic_takes all left a.0.0 a.0.1 fits a.1 in
    let u = node_takes all nodes a.0.1 b.0.0 b.0.1 t.rest_fits b.1 in
    let w = other_takes all nodes b.0.0 b.0.1 d.0.0 d.0.1 u.0.rest_fits d.1 in
    let x = versions_take all d.0.1 f.0.0 f.0.1 w.0.rest_fits f.1 in
    let y = entries_take all nodes a.0.0 f.0.1 g.0.0 g.0.1 x.0.rest_fits g.1 in
    let two = Takes-then d.0.1 (versions_bytes made) f.0.1 (entries_bytes a.0.0 g.0.0) g.0.1 x.0 y.0 in
    let three = Takes-then b.0.1 (d.0.0 ∷ []) d.0.1 (versions_bytes made ++ entries_bytes a.0.0 g.0.0) g.0.1 w.0 two in
    let four = Takes-then a.0.1 (b.0.0 ∷ []) b.0.1 (d.0.0 ∷ (versions_bytes made ++ entries_bytes a.0.0 g.0.0)) g.0.1
    u.0 three in
    let five = Takes-then left (magic a.0.0) a.0.1 (b.0.0 ∷ d.0.0 ∷ (versions_bytes made ++ entries_bytes a.0.0 g.0.0))
    g.0.1 t four in
    let nothing : g.0.1 ≡ [] = nil_from_length g.0.1 (eqb-true _ _ l.0) in
    let spelled : List ℕ = magic a.0.0 ++ (b.0.0 ∷ d.0.0 ∷ (versions_bytes made ++ entries_bytes a.0.0 g.0.0)) in
    let form : form_of g.0.0 ≡ a.0.0 = form_is a.0.0 nodes g.0.0 y.2 h.0 in
    let whole : left ≡ message_bytes made = five.parts ∙ ap (λ (r : List ℕ). spelled ++ r) nothing ∙ append-nil spelled
    ∙ ap (λ (k : Form). magic k ++ (b.0.0 ∷ d.0.0 ∷ (versions_bytes made ++ entries_bytes k g.0.0))) (sym form) in
    let is_message : IsMessage nodes made = record {
      few_nodes = few;
      from = u.1;
      to = w.1;
      apart = w.2;
      base = x.1;
      upto = x.2;
      ack = x.3;
      entries = record { few = y.1; each = are_entries a.0.0 nodes g.0.0 y.2; ascend = y.3 };
    } in
    subst (λ (n : MessageValue). IsMessage nodes n × (left ≡ message_bytes n)) h.1 (is_message, whole)))))))

fields_again : (all nodes : ℕ) (m : MessageValue) → IsMessage nodes m → fields_at all nodes (message_bytes m) ≡ Ok m
unfolding fields_at
fields_again all nodes m h =
    let form = form_of m.entries in
    let of_form = are_of_form nodes m.entries h.entries.each in
    let after = versions_bytes m ++ entries_bytes form m.entries in
    let g : magic_at all (message_bytes m) ≡ Ok (form, m.from ∷ m.to ∷ after) =
    magic_again all form (m.from ∷ m.to ∷ after) in
    let u : node_at all nodes (m.from ∷ m.to ∷ after) ≡ Ok (m.from, m.to ∷ after) =
    node_again all nodes m.from (m.to ∷ after) h.from in
    let w : other_node_at all nodes m.from (m.to ∷ after) ≡ Ok (m.to, after) =
    other_again all nodes m.from m.to after h.to h.apart in
    let x : versions_at all after ≡ Ok ((m.base, m.upto, m.ack), entries_bytes form m.entries) =
    versions_again all m.base m.upto m.ack (entries_bytes form m.entries) h.base h.upto h.ack in
    let y : entries_at all nodes form (entries_bytes form m.entries) ≡ Ok (m.entries, []) =
    ap (entries_at all nodes form) (sym (append-nil (entries_bytes form m.entries))) ∙
    entries_again all nodes form m.entries [] h.entries.few of_form.0 h.entries.ascend in
    rw (g, u, w, x, y, of_form.1) refl

-- what is read is spelled so
pub message_takes : (nodes : ℕ) (bytes : List ℕ) (m : MessageValue) → nodes ≤ 2 ^ 8 → IsBytes bytes →
    message_at nodes bytes ≡ Ok m → SpellsMessage nodes bytes m
unfolding message_at
message_takes nodes bytes m few fits e =
    given (bind_ok (wants (leb (length bytes) max_message) (faults.TooBig max_message) bytes)
    (λ held. fields_at (length bytes) nodes held) m e) (λ a.
    let g = wants_ok (leb (length bytes) max_message) (faults.TooBig max_message) bytes a.0 a.1 in
    let read : fields_at (length bytes) nodes bytes ≡ Ok m = ap (fields_at (length bytes) nodes) g.1 ∙ a.2 in
    let t = fields_take (length bytes) nodes bytes m few fits read in
    (t.0, t.1, leb-true _ _ g.0))

-- what is spelled so is read
pub message_again : (nodes : ℕ) (bytes : List ℕ) (m : MessageValue) → SpellsMessage nodes bytes m →
    message_at nodes bytes ≡ Ok m
unfolding message_at
message_again nodes bytes m h =
    rw (le-leb (length bytes) 67108864 h.2) (ap (fields_at (length bytes) nodes) h.1 ∙
    fields_again (length bytes) nodes m h.0)
