-- Entries that are read are those that were written, and what was written is read again.
use Rattle.std.proofs.Common.{◌≡◌, ℕ, ◌<◌, ◌≤◌, ◌^◌, ◌&&◌, ◌⊎◌, inl, inr, Bool, true, false, cond, nat_lt, eqb, ltb, leb, List, [], ◌∷◌, ◌++◌, length, map, option_map, Option, Some, None, Result, Ok, Err, refl, sym, ap, subst, ◌∙◌, append_assoc, arith}
use Rattle.std.specs.List.{flat_map, list_all, list_any, AllByRecursion}
use Rattle.std.specs.Int.{w16, w64, to_be_bytes}
use Rattle.std.specs.Str.{is_utf8}
use Rattle.std.proofs.lemmas.Bool.{and_parts, and_from, or_parts, eqb-true, le-leb}
use Rattle.std.proofs.lemmas.Bool.Decides.{nat_tests}
use Rattle.std.proofs.lemmas.Slice.Eq.{bytes_eq-Decides}
use Rattle.std.proofs.lemmas.Str.{IsUtf8-from_is_utf8, is_utf8-from_IsUtf8}
use Rattle.actions.specs.Limits.{max_name, max_text}
use Rattle.actions.specs.Names.{is_name_byte, is_name}
use Rattle.actions.specs.Value.{TermValue}
use Rattle.actions.specs.Canonical.{canonical}
use Rattle.actions.specs.Reading.{reading}
use Rattle.actions.specs.declared.fault.ActionFault.{ActionFault}
use Rattle.actions.proofs.Sound.{reading_sound}
use Rattle.actions.proofs.Complete.{reading_complete}
use Rattle.stamp_register.specs.Keys.{KeyValue}
use Rattle.message_format.specs.declared.fault.WireFault.{WireFault}
use Rattle.message_format.specs.declared.fault.WireFault.TheVariants as faults
use Rattle.message_format.specs.declared.wire.Form.{Form}
use Rattle.message_format.specs.declared.wire.Form.TheVariants.{Plain, WithGrants}
use Rattle.message_format.specs.Messages.{EntryValue}
use Rattle.message_format.specs.Spelling.{name_bytes, body_bytes, key_bytes, hits_bytes, execs_bytes, shifts_bytes, grants_bytes, has_grants, form_of, entry_bytes, entries_bytes, hit_place, exec_place, shift_place, grant_place, Ascend, IsHit, IsExec, IsShift, IsGrant, IsCanonicalText, IsBody, IsKey, IsEntry}
use Rattle.refusals.specs.Refusals.{◌>>=◌}
use Rattle.message_format.specs.Reading.{wants, offset, is_above, bytes_at, byte_at, number_at, node_at, each_at, hits_at, execs_at, shifts_at, grants_at, is_form_of, name_at, is_canonical, is_canonical_text, text_at, body_at, key_at, entry_at, entries_at}
use Rattle.refusals.proofs.StepLemmas.{bind_ok}
use Rattle.message_format.proofs.Steps.{given, wants_ok, at_ok}
use Rattle.message_format.proofs.Fields.{IsBytes, Takes, Takes-then, bytes_take, bytes_again, byte_takes, byte_again, short_takes, short_again, long_takes, long_again, node_takes, node_again}
use Rattle.message_format.proofs.Lists.{Above, each_takes, each_again, ascend_from_chain, chain_from_ascend}
use Rattle.message_format.proofs.CellLemmas.{hits_take, hits_again, execs_take, execs_again, shifts_take, shifts_again, grants_take, grants_again}

-- ---- names

name_takes : (all : ℕ) (last : Option (List ℕ)) (left name rest : List ℕ) → IsBytes left →
    name_at all last left ≡ Ok (name, rest)
    → Takes left (name_bytes name) rest × (is_name name ≡ true) × (is_above last name ≡ true)
unfolding name_at
name_takes all last left name rest fits e =
    given (bind_ok (byte_at all left) (λ n. wants (ltb 0 n.0 && leb n.0 max_name) (faults.BadName (offset all left)) n
    >>= λ len. bytes_at all len.0 len.1 >>= λ text. wants (is_name text.0) (faults.BadName (offset all len.1)) text
    >>= λ good. wants (is_above last good.0) (faults.NameOrder (offset all len.1)) good) (name, rest) e) (λ a.
    given (bind_ok (wants (ltb 0 a.0.0 && leb a.0.0 max_name) (faults.BadName (offset all left)) a.0)
    (λ len. bytes_at all len.0 len.1 >>= λ text. wants (is_name text.0) (faults.BadName (offset all len.1)) text >>=
    λ good. wants (is_above last good.0) (faults.NameOrder (offset all len.1)) good) (name, rest) a.2) (λ b.
    let g = wants_ok (ltb 0 a.0.0 && leb a.0.0 max_name) (faults.BadName (offset all left)) a.0 b.0 b.1 in
    given (bind_ok (bytes_at all b.0.0 b.0.1) (λ text. wants (is_name text.0) (faults.BadName (offset all b.0.1)) text
    >>= λ good. wants (is_above last good.0) (faults.NameOrder (offset all b.0.1)) good) (name, rest) b.2) (λ d.
    given (bind_ok (wants (is_name d.0.0) (faults.BadName (offset all b.0.1)) d.0)
    (λ good. wants (is_above last good.0) (faults.NameOrder (offset all b.0.1)) good) (name, rest) d.2) (λ f.
    let i = wants_ok (is_name d.0.0) (faults.BadName (offset all b.0.1)) d.0 f.0 f.1 in
    let h = wants_ok (is_above last f.0.0) (faults.NameOrder (offset all b.0.1)) f.0 (name, rest) f.2 in
    let t = byte_takes all left a.0.0 a.0.1 fits a.1 in
    let u = subst (λ (x : ℕ × List ℕ). Takes left (x.0 ∷ []) x.1) g.1 t.0 in
    let v = bytes_take all b.0.0 b.0.1 d.0.0 d.0.1 u.rest_fits d.1 in
    let both = Takes-then left (b.0.0 ∷ []) b.0.1 d.0.0 d.0.1 u v.0 in
    let whole = subst (λ (k : ℕ). Takes left (k ∷ d.0.0) d.0.1) (sym v.1) both in
    let named = subst (λ (x : List ℕ × List ℕ). Takes left (name_bytes x.0) x.1 × (is_name x.0 ≡ true)) i.1
    (whole, i.0) in
    subst (λ (x : List ℕ × List ℕ). Takes left (name_bytes x.0) x.1 × (is_name x.0 ≡ true) × (is_above last x.0 ≡ true))
    h.1 (named.0, named.1, h.0)))))

name_again : (all : ℕ) (last : Option (List ℕ)) (name rest : List ℕ) → is_name name ≡ true → is_above last name ≡ true →
    name_at all last (name_bytes name ++ rest) ≡ Ok (name, rest)
unfolding name_at
name_again all last name rest h above =
    let fits = (and_parts (ltb 0 (length name) && leb (length name) max_name) (list_all is_name_byte name) h).0 in
    rw (byte_again all (length name) (name ++ rest), fits, bytes_again all (length name) name rest refl, h, above) refl

-- ---- keys

canonical_parts : (text : List ℕ) (read : Result (List TermValue) ActionFault) → is_canonical text read ≡ true →
    (terms : List TermValue) × (read ≡ Ok terms) × (text ≡ canonical terms)
canonical_parts text (Ok terms) h = (terms, refl, (bytes_eq-Decides text (canonical terms)).0 h)
canonical_parts text (Err f) h = absurd cc

is_canonical_sound : (text : List ℕ) → is_canonical_text text ≡ true → IsCanonicalText text
unfolding is_canonical_text
is_canonical_sound text h =
    let parts = and_parts (is_utf8 text) (is_canonical text (reading text)) h in
    let read = canonical_parts text (reading text) parts.1 in
    (IsUtf8-from_is_utf8 text parts.0, read.0, reading_sound text read.0 read.1, read.2)

is_canonical_complete : (text : List ℕ) → IsCanonicalText text → is_canonical_text text ≡ true
unfolding is_canonical_text
is_canonical_complete text h =
    let passes : is_canonical text (reading text) ≡ true = rw (reading_complete text h.1 h.2)
    ((bytes_eq-Decides text (canonical h.1)).1 h.3) in
    and_from (is_utf8 text) (is_canonical text (reading text)) (is_utf8-from_IsUtf8 text h.0) passes

text_takes : (all : ℕ) (left text rest : List ℕ) → IsBytes left → text_at all left ≡ Ok (text, rest) →
    Takes left (to_be_bytes w16 (length text) ++ text) rest × IsCanonicalText text
unfolding text_at
text_takes all left text rest fits e =
    given (bind_ok (number_at all w16 left) (λ n. wants (leb n.0 max_text) (faults.NotCanonical (offset all left)) n
    >>= λ len. bytes_at all len.0 len.1 >>= λ text. wants (is_canonical_text text.0)
    (faults.NotCanonical (offset all len.1)) text) (text, rest) e) (λ a.
    given (bind_ok (wants (leb a.0.0 max_text) (faults.NotCanonical (offset all left)) a.0)
    (λ len. bytes_at all len.0 len.1 >>= λ text. wants (is_canonical_text text.0)
    (faults.NotCanonical (offset all len.1)) text) (text, rest) a.2) (λ b.
    let g = wants_ok (leb a.0.0 max_text) (faults.NotCanonical (offset all left)) a.0 b.0 b.1 in
    given (bind_ok (bytes_at all b.0.0 b.0.1) (λ text. wants (is_canonical_text text.0)
    (faults.NotCanonical (offset all b.0.1)) text) (text, rest) b.2) (λ d.
    let h = wants_ok (is_canonical_text d.0.0) (faults.NotCanonical (offset all b.0.1)) d.0 (text, rest) d.2 in
    let t = short_takes all left a.0.0 a.0.1 fits a.1 in
    let u = subst (λ (x : ℕ × List ℕ). Takes left (to_be_bytes w16 x.0) x.1) g.1 t.0 in
    let v = bytes_take all b.0.0 b.0.1 d.0.0 d.0.1 u.rest_fits d.1 in
    let both = Takes-then left (to_be_bytes w16 b.0.0) b.0.1 d.0.0 d.0.1 u v.0 in
    let whole = subst (λ (k : ℕ). Takes left (to_be_bytes w16 k ++ d.0.0) d.0.1) (sym v.1) both in
    subst (λ (x : List ℕ × List ℕ). Takes left (to_be_bytes w16 (length x.0) ++ x.0) x.1 × IsCanonicalText x.0) h.1
    (whole, is_canonical_sound d.0.0 h.0))))

text_again : (all : ℕ) (text rest : List ℕ) → IsCanonicalText text →
    text_at all ((to_be_bytes w16 (length text) ++ text) ++ rest) ≡ Ok (text, rest)
unfolding text_at
text_again all text rest h =
    let short : length text ≤ 1024 = h.2.short in
    let regrouped = append_assoc (to_be_bytes w16 (length text)) text rest in
    ap (text_at all) regrouped
    ∙ rw (
      short_again all (length text) (text ++ rest) (omega (arith, short)),
      le-leb (length text) 1024 short,
      bytes_again all (length text) text rest refl,
      is_canonical_complete text h,
    ) refl

tag_parts : {A : Type 0} (zero one : Bool) (x y : Result A WireFault) (d : WireFault) (z : A) →
    cond zero x (cond one y (Err d)) ≡ Ok z → ((zero ≡ true) × (x ≡ Ok z)) ⊎ ((one ≡ true) × (y ≡ Ok z))
tag_parts true one x y d z e = inl (refl, e)
tag_parts false true x y d z e = inr (refl, e)
tag_parts false false x y d z e = absurd cc

body_takes : (all : ℕ) (left : List ℕ) (body : Option (List ℕ)) (rest : List ℕ) → IsBytes left →
    body_at all left ≡ Ok (body, rest) → Takes left (body_bytes body) rest × IsBody body
unfolding body_at
body_takes all left body rest fits e =
    let set : List ℕ → Result (Option (List ℕ) × List ℕ) WireFault =
    λ after. text_at all after >>= λ text. Ok (Some text.0, text.1) in
    let d = faults.BadBody (offset all left) in
    given (bind_ok (byte_at all left) (λ tag. cond (eqb tag.0 0) (Ok (None, tag.1))
    (cond (eqb tag.0 1) (set tag.1) (Err d))) (body, rest) e) (λ a.
    let t = byte_takes all left a.0.0 a.0.1 fits a.1 in
    elim (tag_parts (eqb a.0.0 0) (eqb a.0.0 1) (Ok (None, a.0.1)) (set a.0.1) d (body, rest) a.2) [
      | inl h ↦ (let tagged = subst (λ (k : ℕ). Takes left (k ∷ []) a.0.1) (eqb-true _ _ h.0) t.0 in
          at_ok (λ (x : Option (List ℕ) × List ℕ). Takes left (body_bytes x.0) x.1 × IsBody x.0) (None, a.0.1)
          (body, rest) h.1 (tagged, tt))
      | inr h ↦ (let tagged = subst (λ (k : ℕ). Takes left (k ∷ []) a.0.1) (eqb-true _ _ h.0) t.0 in
          let b = bind_ok (text_at all a.0.1) (λ text. Ok (Some text.0, text.1)) (body, rest) h.1 in
          let u = text_takes all a.0.1 b.0.0 b.0.1 tagged.rest_fits b.1 in
          let both = Takes-then left (1 ∷ []) a.0.1 (to_be_bytes w16 (length b.0.0) ++ b.0.0) b.0.1 tagged u.0 in
          at_ok (λ (x : Option (List ℕ) × List ℕ). Takes left (body_bytes x.0) x.1 × IsBody x.0) (Some b.0.0, b.0.1)
          (body, rest) b.2 (both, u.1))
    ])

body_again : (all : ℕ) (body : Option (List ℕ)) (rest : List ℕ) → IsBody body →
    body_at all (body_bytes body ++ rest) ≡ Ok (body, rest)
unfolding body_at
body_again all None rest h = rw (byte_again all 0 rest) refl
body_again all (Some text) rest h =
    rw (byte_again all 1 ((to_be_bytes w16 (length text) ++ text) ++ rest), text_again all text rest h) refl

key_takes : (all nodes : ℕ) (left : List ℕ) (k : KeyValue) (rest : List ℕ) → IsBytes left →
    key_at all nodes left ≡ Ok (k, rest) → Takes left (key_bytes k) rest × IsKey nodes k
unfolding key_at
key_takes all nodes left k rest fits e =
    given (bind_ok (number_at all w64 left) (λ clock. node_at all nodes clock.1 >>= λ node. body_at all node.1 >>=
    λ body. Ok (record { clock = clock.0; node = node.0; body = body.0 }, body.1)) (k, rest) e) (λ a.
    given (bind_ok (node_at all nodes a.0.1) (λ node. body_at all node.1 >>= λ body. Ok
    (record { clock = a.0.0; node = node.0; body = body.0 }, body.1)) (k, rest) a.2) (λ b.
    given (bind_ok (body_at all b.0.1) (λ body. Ok (record { clock = a.0.0; node = b.0.0; body = body.0 }, body.1))
    (k, rest) b.2) (λ d.
    let t = long_takes all left a.0.0 a.0.1 fits a.1 in
    let u = node_takes all nodes a.0.1 b.0.0 b.0.1 t.0.rest_fits b.1 in
    let v = body_takes all b.0.1 d.0.0 d.0.1 u.0.rest_fits d.1 in
    let two = Takes-then a.0.1 (b.0.0 ∷ []) b.0.1 (body_bytes d.0.0) d.0.1 u.0 v.0 in
    let three = Takes-then left (to_be_bytes w64 a.0.0) a.0.1 (b.0.0 ∷ body_bytes d.0.0) d.0.1 t.0 two in
    let made : KeyValue × List ℕ = (record { clock = a.0.0; node = b.0.0; body = d.0.0 }, d.0.1) in
    at_ok (λ (x : KeyValue × List ℕ). Takes left (key_bytes x.0) x.1 × IsKey nodes x.0) made (k, rest) d.2
    (three, record { clock = t.1; node = u.1; body = v.1 }))))

key_again : (all nodes : ℕ) (k : KeyValue) (rest : List ℕ) → IsKey nodes k →
    key_at all nodes (key_bytes k ++ rest) ≡ Ok (k, rest)
unfolding key_at
key_again all nodes k rest h =
    let regrouped = append_assoc (to_be_bytes w64 k.clock) (k.node ∷ body_bytes k.body) rest in
    ap (key_at all nodes) regrouped ∙ rw (
      long_again all k.clock (k.node ∷ body_bytes k.body ++ rest) h.clock,
      node_again all nodes k.node (body_bytes k.body ++ rest) h.node,
      body_again all k.body rest h.body,
    ) refl

-- ---- entries

-- an entry of a message of a form: of a plain one it tells no grant
abbrev pub IsEntryOf : Form → ℕ → EntryValue → Type 0
IsEntryOf form nodes e = IsEntry nodes e × (form ≡ Plain → e.grants ≡ [])

abbrev pub EntryAbove : Form → ℕ → Option EntryValue → EntryValue → Type 0
EntryAbove form nodes last e = Above (λ e. e.name) (IsEntryOf form nodes) last e

-- an entry that is made of what is read after its key
record IsMadeOf (nodes : ℕ) (form : Form) (key : KeyValue) (make : List (ℕ × ℕ) → List (ℕ × ℕ × ℕ) →
    List (ℕ × ℕ × ℕ × ℕ) → List (ℕ × ℕ × ℕ) → EntryValue) (left : List ℕ) (made : EntryValue × List ℕ) : Type 0 where
  pub hits : List (ℕ × ℕ)
  pub execs : List (ℕ × ℕ × ℕ)
  pub shifts : List (ℕ × ℕ × ℕ × ℕ)
  pub grants : List (ℕ × ℕ × ℕ)
  pub is : made.0 ≡ make hits execs shifts grants
  pub taken : Takes left (hits_bytes hits ++ (execs_bytes execs ++ (shifts_bytes shifts ++ grants_bytes form grants)))
      made.1
  pub are_hits : (length hits < 2 ^ 8) × AllByRecursion (IsHit nodes) hits × Ascend (map hit_place hits)
  pub are_execs : (length execs < 2 ^ 16) × AllByRecursion (IsExec nodes key) execs × Ascend (map exec_place execs)
  pub are_shifts : (length shifts < 2 ^ 16) × AllByRecursion (IsShift nodes key) shifts × Ascend
      (map shift_place shifts)
  pub are_grants : (length grants < 2 ^ 16) × AllByRecursion (IsGrant nodes key) grants × Ascend
      (map grant_place grants)
  pub plain : form ≡ Plain → grants ≡ []

cells_take : (all nodes : ℕ) (form : Form) (key : KeyValue) (make : List (ℕ × ℕ) → List (ℕ × ℕ × ℕ) →
    List (ℕ × ℕ × ℕ × ℕ) → List (ℕ × ℕ × ℕ) → EntryValue) (left : List ℕ) (made : EntryValue × List ℕ) → IsBytes left
    → (hits_at all nodes left >>= λ hits. execs_at all nodes key hits.1 >>= λ execs. shifts_at all nodes key execs.1 >>=
    λ shifts. grants_at all nodes key form shifts.1 >>= λ grants. Ok
    (make hits.0 execs.0 shifts.0 grants.0, grants.1)) ≡ Ok made
    → IsMadeOf nodes form key make left made
cells_take all nodes form key make left made fits e =
    given (bind_ok (hits_at all nodes left) (λ hits. execs_at all nodes key hits.1 >>= λ execs. shifts_at all nodes key
    execs.1 >>= λ shifts. grants_at all nodes key form shifts.1 >>= λ grants. Ok
    (make hits.0 execs.0 shifts.0 grants.0, grants.1)) made e) (λ d.
    given (bind_ok (execs_at all nodes key d.0.1) (λ execs. shifts_at all nodes key execs.1 >>= λ shifts. grants_at all
    nodes key form shifts.1 >>= λ grants. Ok (make d.0.0 execs.0 shifts.0 grants.0, grants.1)) made d.2) (λ f.
    given (bind_ok (shifts_at all nodes key f.0.1) (λ shifts. grants_at all nodes key form shifts.1 >>= λ grants. Ok
    (make d.0.0 f.0.0 shifts.0 grants.0, grants.1)) made f.2) (λ g.
    given (bind_ok (grants_at all nodes key form g.0.1) (λ grants. Ok (make d.0.0 f.0.0 g.0.0 grants.0, grants.1)) made
    g.2) (λ i.
    let h = hits_take all nodes left d.0.0 d.0.1 fits d.1 in
    let x = execs_take all nodes key d.0.1 f.0.0 f.0.1 h.0.rest_fits f.1 in
    let s = shifts_take all nodes key f.0.1 g.0.0 g.0.1 x.0.rest_fits g.1 in
    let y = grants_take all nodes key form g.0.1 i.0.0 i.0.1 s.0.rest_fits i.1 in
    let one = Takes-then f.0.1 (shifts_bytes g.0.0) g.0.1 (grants_bytes form i.0.0) i.0.1 s.0 y.0 in
    let two = Takes-then d.0.1 (execs_bytes f.0.0) f.0.1 (shifts_bytes g.0.0 ++ grants_bytes form i.0.0) i.0.1 x.0
    one in
    at_ok (IsMadeOf nodes form key make left) (make d.0.0 f.0.0 g.0.0 i.0.0, i.0.1) made i.2 (record {
      hits = d.0.0;
      execs = f.0.0;
      shifts = g.0.0;
      grants = i.0.0;
      is = refl;
      taken = Takes-then left (hits_bytes d.0.0) d.0.1 (execs_bytes f.0.0 ++
          (shifts_bytes g.0.0 ++ grants_bytes form i.0.0)) i.0.1 h.0 two;
      are_hits = (h.1, h.2, h.3);
      are_execs = (x.1, x.2, x.3);
      are_shifts = (s.1, s.2, s.3);
      are_grants = (y.1, y.2, y.3);
      plain = y.4;
    })))))

entry_takes : (all nodes : ℕ) (form : Form) (last : Option EntryValue) (left : List ℕ) (v : EntryValue)
    (rest : List ℕ) → IsBytes left → entry_at all nodes form last left ≡ Ok (v, rest)
    → Takes left (entry_bytes form v) rest × EntryAbove form nodes last v
unfolding entry_at
entry_takes all nodes form last left v rest fits e =
    let before = option_map (λ e. e.name) last in
    let entry : List ℕ → KeyValue → List (ℕ × ℕ) → List (ℕ × ℕ × ℕ) → List (ℕ × ℕ × ℕ × ℕ) → List (ℕ × ℕ × ℕ) →
    EntryValue =
    λ name key hits execs shifts grants. record {
      name = name;
      key = key;
      hits = hits;
      execs = execs;
      shifts = shifts;
      grants = grants;
    } in
    given (bind_ok (name_at all before left) (λ name. key_at all nodes name.1 >>= λ key. hits_at all nodes key.1 >>=
    λ hits. execs_at all nodes key.0 hits.1 >>= λ execs. shifts_at all nodes key.0 execs.1 >>= λ shifts. grants_at
    all nodes key.0 form shifts.1 >>= λ grants. Ok (entry name.0 key.0 hits.0 execs.0 shifts.0 grants.0, grants.1))
    (v, rest) e) (λ a.
    given (bind_ok (key_at all nodes a.0.1) (λ key. hits_at all nodes key.1 >>= λ hits. execs_at all nodes key.0 hits.1
    >>= λ execs. shifts_at all nodes key.0 execs.1 >>= λ shifts. grants_at all nodes key.0 form shifts.1 >>=
    λ grants. Ok (entry a.0.0 key.0 hits.0 execs.0 shifts.0 grants.0, grants.1)) (v, rest) a.2) (λ b.
    let n = name_takes all before left a.0.0 a.0.1 fits a.1 in
    let k = key_takes all nodes a.0.1 b.0.0 b.0.1 n.0.rest_fits b.1 in
    let r = cells_take all nodes form b.0.0 (entry a.0.0 b.0.0) b.0.1 (v, rest) k.0.rest_fits b.2 in
    let cells = hits_bytes r.hits ++ (execs_bytes r.execs ++ (shifts_bytes r.shifts ++ grants_bytes form r.grants)) in
    let keyed = Takes-then a.0.1 (key_bytes b.0.0) b.0.1 cells rest k.0 r.taken in
    let taken = Takes-then left (name_bytes a.0.0) a.0.1 (key_bytes b.0.0 ++ cells) rest n.0 keyed in
    let is_entry : IsEntry nodes (entry a.0.0 b.0.0 r.hits r.execs r.shifts r.grants) = record {
      name = n.1;
      key = k.1;
      few_hits = r.are_hits.0;
      hits = r.are_hits.1;
      hits_ascend = r.are_hits.2;
      few_execs = r.are_execs.0;
      execs = r.are_execs.1;
      execs_ascend = r.are_execs.2;
      few_shifts = r.are_shifts.0;
      shifts = r.are_shifts.1;
      shifts_ascend = r.are_shifts.2;
      few_grants = r.are_grants.0;
      grants = r.are_grants.1;
      grants_ascend = r.are_grants.2;
    } in
    subst (λ (z : EntryValue). Takes left (entry_bytes form z) rest × EntryAbove form nodes last z) (sym r.is)
    (taken, ((is_entry, r.plain), n.2))))

entry_again : (all nodes : ℕ) (form : Form) (last : Option EntryValue) (v : EntryValue) (rest : List ℕ) →
    EntryAbove form nodes last v → entry_at all nodes form last (entry_bytes form v ++ rest) ≡ Ok (v, rest)
unfolding entry_at
entry_again all nodes form last v rest h =
    let before = option_map (λ e. e.name) last in
    let moved = shifts_bytes v.shifts ++ grants_bytes form v.grants in
    let counted = execs_bytes v.execs ++ moved in
    let cells = hits_bytes v.hits ++ counted in
    let is = h.0.0 in
    let n : name_at all before (entry_bytes form v ++ rest) ≡ Ok (v.name, (key_bytes v.key ++ cells) ++ rest) =
    ap (name_at all before) (append_assoc (name_bytes v.name) (key_bytes v.key ++ cells) rest) ∙
    name_again all before v.name ((key_bytes v.key ++ cells) ++ rest) is.name h.1 in
    let k : key_at all nodes ((key_bytes v.key ++ cells) ++ rest) ≡ Ok (v.key, cells ++ rest) =
    ap (key_at all nodes) (append_assoc (key_bytes v.key) cells rest) ∙
    key_again all nodes v.key (cells ++ rest) is.key in
    let i : hits_at all nodes (cells ++ rest) ≡ Ok (v.hits, counted ++ rest) =
    ap (hits_at all nodes) (append_assoc (hits_bytes v.hits) counted rest) ∙
    hits_again all nodes v.hits (counted ++ rest) is.hits is.hits_ascend in
    let x : execs_at all nodes v.key (counted ++ rest) ≡ Ok (v.execs, moved ++ rest) =
    ap (execs_at all nodes v.key) (append_assoc (execs_bytes v.execs) moved rest) ∙
    execs_again all nodes v.key v.execs (moved ++ rest) is.few_execs is.execs is.execs_ascend in
    let s : shifts_at all nodes v.key (moved ++ rest) ≡ Ok (v.shifts, grants_bytes form v.grants ++ rest) =
    ap (shifts_at all nodes v.key) (append_assoc (shifts_bytes v.shifts) (grants_bytes form v.grants) rest) ∙
    shifts_again all nodes v.key v.shifts (grants_bytes form v.grants ++ rest) is.few_shifts is.shifts
    is.shifts_ascend in
    let g : grants_at all nodes v.key form (grants_bytes form v.grants ++ rest) ≡ Ok (v.grants, rest) =
    grants_again all nodes v.key form v.grants rest is.few_grants is.grants is.grants_ascend h.0.1 in
    rw (n, k, i, x, s, g) refl

pub entries_take : (all nodes : ℕ) (form : Form) (left : List ℕ) (es : List EntryValue) (rest : List ℕ) → IsBytes left →
    entries_at all nodes form left ≡ Ok (es, rest)
    → Takes left (entries_bytes form es) rest × (length es < 2 ^ 16) × AllByRecursion (IsEntryOf form nodes) es × Ascend
    (map (λ e. e.name) es)
unfolding entries_at
entries_take all nodes form left es rest fits e =
    given (bind_ok (number_at all w16 left) (λ count. each_at (entry_at all nodes form) count.0 None count.1)
    (es, rest) e) (λ n.
    let t = short_takes all left n.0.0 n.0.1 fits n.1 in
    let u = each_takes (entry_at all nodes form) (entry_bytes form) (EntryAbove form nodes) (entry_takes all nodes form)
    n.0.0 None n.0.1 es rest t.0.rest_fits n.2 in
    let both = Takes-then left (to_be_bytes w16 n.0.0) n.0.1 (flat_map (entry_bytes form) es) rest t.0 u.0 in
    let chain = ascend_from_chain (λ (e : EntryValue). e.name) (IsEntryOf form nodes) es u.2 in (
      subst (λ (k : ℕ). Takes left (to_be_bytes w16 k ++ flat_map (entry_bytes form) es) rest) (sym u.1) both,
      omega (arith, u.1, t.1),
      chain.0,
      chain.1,
    ))

pub entries_again : (all nodes : ℕ) (form : Form) (es : List EntryValue) (rest : List ℕ) → length es < 2 ^ 16 →
    AllByRecursion (IsEntryOf form nodes) es → Ascend (map (λ e. e.name) es)
    → entries_at all nodes form (entries_bytes form es ++ rest) ≡ Ok (es, rest)
unfolding entries_at
entries_again all nodes form es rest few h sorted =
    let regrouped = append_assoc (to_be_bytes w16 (length es)) (flat_map (entry_bytes form) es) rest in
    ap (entries_at all nodes form) regrouped ∙ rw (short_again all (length es) (flat_map (entry_bytes form) es ++ rest)
    few) (each_again (entry_at all nodes form) (entry_bytes form) (EntryAbove form nodes)
    (entry_again all nodes form) None es rest (chain_from_ascend (λ (e : EntryValue). e.name) (IsEntryOf form nodes)
    es h sorted))

-- ---- the form of a message

-- entries of a plain message are those of one without grants, and of another those of one with some
pub form_is : (form : Form) (nodes : ℕ) (es : List EntryValue) → AllByRecursion (IsEntryOf form nodes) es →
    is_form_of form es ≡ true → form_of es ≡ form
form_is Plain nodes es h tells = ap (λ (t : Bool). cond t WithGrants Plain) (none es h)
  where
    none : (es : List EntryValue) → AllByRecursion (IsEntryOf Plain nodes) es → list_any has_grants es ≡ false
    none [] h = refl
    none (e ∷ es) h = rw (h.0.1 refl) (none es h.1)
form_is WithGrants nodes es h tells = ap (λ (t : Bool). cond t WithGrants Plain) tells

pub are_entries : (form : Form) (nodes : ℕ) (es : List EntryValue) → AllByRecursion (IsEntryOf form nodes) es →
    AllByRecursion (IsEntry nodes) es
are_entries form nodes [] h = tt
are_entries form nodes (e ∷ es) h = (h.0.0, are_entries form nodes es h.1)

-- and the entries of a message are of its form
no_grants : (grants : List (ℕ × ℕ × ℕ)) → nat_lt 0 (length grants) ≡ false → grants ≡ []
no_grants [] e = refl
no_grants (c ∷ grants) e = absurd (grind (arith, nat_tests))

pub are_of_form : (nodes : ℕ) (es : List EntryValue) → AllByRecursion (IsEntry nodes) es →
    AllByRecursion (IsEntryOf (form_of es) nodes) es × (is_form_of (form_of es) es ≡ true)
are_of_form nodes es h = by_test (list_any has_grants es) refl
  where
    with_grants : (es : List EntryValue) → AllByRecursion (IsEntry nodes) es →
        AllByRecursion (IsEntryOf WithGrants nodes) es
    with_grants [] h = tt
    with_grants (e ∷ es) h = ((h.0, λ same. absurd cc), with_grants es h.1)

    plain : (es : List EntryValue) → AllByRecursion (IsEntry nodes) es → list_any has_grants es ≡ false →
        AllByRecursion (IsEntryOf Plain nodes) es
    plain [] h e = tt
    plain (x ∷ es) h e =
        let parts = or_parts (has_grants x) (list_any has_grants es) e in
        ((h.0, λ _. no_grants x.grants parts.0), plain es h.1 parts.1)

    by_test : (t : Bool) → list_any has_grants es ≡ t → AllByRecursion (IsEntryOf (cond t WithGrants Plain) nodes) es ×
        (is_form_of (cond t WithGrants Plain) es ≡ true)
    by_test true e = (with_grants es h, e)
    by_test false e = (plain es h e, refl)
