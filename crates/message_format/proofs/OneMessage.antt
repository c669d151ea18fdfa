-- A message follows from its sender, its receiver, its versions and the set of operations that it tells.
use Rattle.std.proofs.Common.{◌≡◌, ◌≢◌, ℕ, inl, inr, List, [], ◌∷◌, ◌++◌, map, refl, sym, ◌∙◌, ap, subst}
use Rattle.std.specs.List.{flat_map}
use Rattle.std.proofs.lemmas.Cmp.{nat_list_cmp_total}
use Rattle.std.specs.List.Sorted.{IsStrictlySortedBy}
use Rattle.std.specs.Ordering.{nat_cmp}
use Rattle.std.specs.Cmp.Lexicographic.{slice_cmp}
use Rattle.std.specs.declared.cmp.Ordering.TheVariants.{Less}
use Rattle.stamp_register.specs.Keys.{KeyValue}
use Rattle.operations.specs.Operations.{Hits, Execs, Shifts, Operation, Set, Count, IsIn}
use Rattle.operations.proofs.Members.{IsIn-append_left, IsIn-append_right}
use Rattle.operations.proofs.Order.{never_less}
use Rattle.message_format.specs.Messages.{EntryValue, MessageValue, operations_of, operations_in}
use Rattle.message_format.specs.Spelling.{hit_place, exec_place, shift_place, grant_place, Ascend, IsShift, IsEntry, AreEntries, IsMessage}
use Rattle.message_format.proofs.Members.{flat_in, in_flat, mapped_in, one_of}
use Rattle.message_format.proofs.Told.{hit_told, exec_told, shift_told, grant_told, IsTold, told_of}

-- ---- lists in the order of their places

module _ {A : Type 0} (place : A → List ℕ) where
  pub first_below : (x : A) (xs : List A) → Ascend (map place (x ∷ xs)) → (y : A) → IsIn y xs →
      slice_cmp nat_cmp (place x) (place y) ≡ Less
  unfolding IsStrictlySortedBy
  first_below x xs h y m = one_of (λ p. slice_cmp nat_cmp (place x) p ≡ Less) (map place xs) h.0 (place y)
      (mapped_in place xs y m)

  -- at one place stands one element
  pub one_there : (xs : List A) → Ascend (map place xs) → (x y : A) → IsIn x xs → IsIn y xs → place x ≡ place y → x ≡ y
  unfolding IsStrictlySortedBy
  one_there [] h x y m n e = absurd m
  one_there (z ∷ zs) h x y (inl p) (inl q) e = p ∙ sym q
  one_there (z ∷ zs) h x y (inl p) (inr n) e = absurd (never_less (place z)
      (subst (λ k. slice_cmp nat_cmp (place z) k ≡ Less) (sym e ∙ ap place p) (first_below z zs h y n)))
  one_there (z ∷ zs) h x y (inr m) (inl q) e = absurd (never_less (place z)
      (subst (λ k. slice_cmp nat_cmp (place z) k ≡ Less) (e ∙ ap place q) (first_below z zs h x m)))
  one_there (z ∷ zs) h x y (inr m) (inr n) e = one_there zs h.1 x y m n e

  -- lists in order with the same members are the same
  pub same_list : (xs ys : List A) → Ascend (map place xs) → Ascend (map place ys) → ((x : A) → IsIn x xs → IsIn x ys) →
      ((x : A) → IsIn x ys → IsIn x xs) → xs ≡ ys
  unfolding IsStrictlySortedBy
  same_list [] [] a b h k = refl
  same_list [] (y ∷ ys) a b h k = absurd (k y (inl refl))
  same_list (x ∷ xs) [] a b h k = absurd (h x (inl refl))
  same_list (x ∷ xs) (y ∷ ys) a b h k = λ i. first i ∷ same_list xs ys a.1 b.1
      (λ m j. later ys x y m first (first_below x xs a m j) (h m (inr j)))
      (λ m j. later xs y x m (sym first) (first_below y ys b m j) (k m (inr j))) i
    where
      later : (zs : List A) (u v m : A) → u ≡ v → slice_cmp nat_cmp (place u) (place m) ≡ Less → IsIn m (v ∷ zs) →
          IsIn m zs
      later zs u v m s l (inl e) = absurd (never_less (place m)
          (subst (λ w. slice_cmp nat_cmp w (place m) ≡ Less) (ap place (s ∙ sym e)) l))
      later zs u v m s l (inr j) = j

      heads : IsIn x (y ∷ ys) → IsIn y (x ∷ xs) → x ≡ y
      heads (inl e) g = e
      heads (inr j) (inl e) = sym e
      heads (inr j) (inr l) = absurd (never_less (place x) (nat_list_cmp_total.trans (place x) (place y) (place x)
          (first_below x xs a y l) (first_below y ys b x j)))

      first : x ≡ y
      first = heads (h x (inl refl)) (k y (inl refl))

-- ---- which entry tells an operation

pub set_of : (e : EntryValue) (name : List ℕ) (key : KeyValue) → IsIn (Set name key) (operations_of e) →
    (name ≡ e.name) × (key ≡ e.key)
set_of e name key h = by_kind (told_of e (Set name key) h)
  where
    by_kind : IsTold e (Set name key) → (name ≡ e.name) × (key ≡ e.key)
    by_kind (inl s) = (cc, cc)
    by_kind (inr (inl (c, k, s))) = absurd (cc)
    by_kind (inr (inr (inl (c, k, s)))) = absurd (cc)
    by_kind (inr (inr (inr (inl (c, k, s))))) = absurd (cc)
    by_kind (inr (inr (inr (inr (c, k, s))))) = absurd (cc)

pub hit_of : (e : EntryValue) (name : List ℕ) (c : ℕ × ℕ) → IsIn (Count (Hits name c.0) c.1) (operations_of e) →
    (name ≡ e.name) × IsIn c e.hits
hit_of e name c h = by_kind (told_of e (Count (Hits name c.0) c.1) h)
  where
    by_kind : IsTold e (Count (Hits name c.0) c.1) → (name ≡ e.name) × IsIn c e.hits
    by_kind (inl s) = absurd (cc)
    by_kind (inr (inl (d, k, s))) =
        let node : d.0 ≡ c.0 = cc in
        let number : d.1 ≡ c.1 = cc in
        (cc, subst (λ x. IsIn x e.hits) (λ i. (node i, number i)) k)
    by_kind (inr (inr (inl (d, k, s)))) = absurd (cc)
    by_kind (inr (inr (inr (inl (d, k, s))))) = absurd (cc)
    by_kind (inr (inr (inr (inr (d, k, s))))) = absurd (cc)

pub exec_of : (e : EntryValue) (name : List ℕ) (key : KeyValue) (c : ℕ × ℕ × ℕ) →
    IsIn (Count (Execs name key c.0 c.1) c.2) (operations_of e) → (name ≡ e.name) × IsIn c e.execs
exec_of e name key c h = by_kind (told_of e (Count (Execs name key c.0 c.1) c.2) h)
  where
    by_kind : IsTold e (Count (Execs name key c.0 c.1) c.2) → (name ≡ e.name) × IsIn c e.execs
    by_kind (inl s) = absurd (cc)
    by_kind (inr (inl (d, k, s))) = absurd (cc)
    by_kind (inr (inr (inl (d, k, s)))) =
        let term : d.0 ≡ c.0 = cc in
        let node : d.1 ≡ c.1 = cc in
        let number : d.2 ≡ c.2 = cc in
        (cc, subst (λ x. IsIn x e.execs) (λ i. (term i, node i, number i)) k)
    by_kind (inr (inr (inr (inl (d, k, s))))) = absurd (cc)
    by_kind (inr (inr (inr (inr (d, k, s))))) = absurd (cc)

-- a shift to another node is told among the shifts, and a grant among the grants, where no shift of
-- the entry goes from a node to itself
pub shift_of : (e : EntryValue) (name : List ℕ) (key : KeyValue) (c : ℕ × ℕ × ℕ × ℕ) → c.2 ≢ c.1 →
    IsIn (Count (Shifts name key c.0 c.1 c.2) c.3) (operations_of e) → (name ≡ e.name) × IsIn c e.shifts
shift_of e name key c apart h = by_kind (told_of e (Count (Shifts name key c.0 c.1 c.2) c.3) h)
  where
    by_kind : IsTold e (Count (Shifts name key c.0 c.1 c.2) c.3) → (name ≡ e.name) × IsIn c e.shifts
    by_kind (inl s) = absurd (cc)
    by_kind (inr (inl (d, k, s))) = absurd (cc)
    by_kind (inr (inr (inl (d, k, s)))) = absurd (cc)
    by_kind (inr (inr (inr (inl (d, k, s))))) =
        let term : d.0 ≡ c.0 = cc in
        let from : d.1 ≡ c.1 = cc in
        let to : d.2 ≡ c.2 = cc in
        let number : d.3 ≡ c.3 = cc in
        (cc, subst (λ x. IsIn x e.shifts) (λ i. (term i, from i, to i, number i)) k)
    by_kind (inr (inr (inr (inr (d, k, s))))) =
        let from : c.1 ≡ d.1 = cc in
        let to : c.2 ≡ d.1 = cc in
        absurd (apart (to ∙ sym from))

abbrev pub MovesOn : EntryValue → Type 0
MovesOn e = (c : ℕ × ℕ × ℕ × ℕ) → IsIn c e.shifts → c.2 ≢ c.1

pub grant_of : (e : EntryValue) → MovesOn e → (name : List ℕ) (key : KeyValue) (c : ℕ × ℕ × ℕ) →
    IsIn (Count (Shifts name key c.0 c.1 c.1) c.2) (operations_of e) → (name ≡ e.name) × IsIn c e.grants
grant_of e moves name key c h = by_kind (told_of e (Count (Shifts name key c.0 c.1 c.1) c.2) h)
  where
    by_kind : IsTold e (Count (Shifts name key c.0 c.1 c.1) c.2) → (name ≡ e.name) × IsIn c e.grants
    by_kind (inl s) = absurd (cc)
    by_kind (inr (inl (d, k, s))) = absurd (cc)
    by_kind (inr (inr (inl (d, k, s)))) = absurd (cc)
    by_kind (inr (inr (inr (inl (d, k, s))))) =
        let from : c.1 ≡ d.1 = cc in
        let to : c.1 ≡ d.2 = cc in
        absurd (moves d k (sym to ∙ from))
    by_kind (inr (inr (inr (inr (d, k, s))))) =
        let term : d.0 ≡ c.0 = cc in
        let node : d.1 ≡ c.1 = cc in
        let number : d.2 ≡ c.2 = cc in
        (cc, subst (λ x. IsIn x e.grants) (λ i. (term i, node i, number i)) k)

-- an entry tells each of its cells
module _ (e : EntryValue) where
  abbrev after_hits : List Operation
  after_hits = map (exec_told e) e.execs ++ (map (shift_told e) e.shifts ++ map (grant_told e) e.grants)

  abbrev after_execs : List Operation
  after_execs = map (shift_told e) e.shifts ++ map (grant_told e) e.grants

  pub hit_in : (c : ℕ × ℕ) → IsIn c e.hits → IsIn (hit_told e c) (operations_of e)
  hit_in c h = inr (IsIn-append_left (hit_told e c) (map (hit_told e) e.hits) after_hits
      (mapped_in (hit_told e) e.hits c h))

  pub exec_in : (c : ℕ × ℕ × ℕ) → IsIn c e.execs → IsIn (exec_told e c) (operations_of e)
  exec_in c h = inr (IsIn-append_right (exec_told e c) (map (hit_told e) e.hits) after_hits
      (IsIn-append_left (exec_told e c) (map (exec_told e) e.execs) after_execs (mapped_in (exec_told e) e.execs c h)))

  pub shift_in : (c : ℕ × ℕ × ℕ × ℕ) → IsIn c e.shifts → IsIn (shift_told e c) (operations_of e)
  shift_in c h = inr (IsIn-append_right (shift_told e c) (map (hit_told e) e.hits) after_hits
      (IsIn-append_right (shift_told e c) (map (exec_told e) e.execs) after_execs
      (IsIn-append_left (shift_told e c) (map (shift_told e) e.shifts) (map (grant_told e) e.grants)
      (mapped_in (shift_told e) e.shifts c h))))

  pub grant_in : (c : ℕ × ℕ × ℕ) → IsIn c e.grants → IsIn (grant_told e c) (operations_of e)
  grant_in c h = inr (IsIn-append_right (grant_told e c) (map (hit_told e) e.hits) after_hits
      (IsIn-append_right (grant_told e c) (map (exec_told e) e.execs) after_execs
      (IsIn-append_right (grant_told e c) (map (shift_told e) e.shifts) (map (grant_told e) e.grants)
      (mapped_in (grant_told e) e.grants c h))))

-- ---- entries that tell the same

abbrev Tells : List EntryValue → List EntryValue → Type 0
Tells es fs = (op : Operation) → IsIn op (flat_map operations_of es) → IsIn op (flat_map operations_of fs)

-- of two entries of one name, whatever cells the first has the second has too
record HasCells (e f : EntryValue) : Type 0 where
  pub hits : (c : ℕ × ℕ) → IsIn c e.hits → IsIn c f.hits
  pub execs : (c : ℕ × ℕ × ℕ) → IsIn c e.execs → IsIn c f.execs
  pub shifts : (c : ℕ × ℕ × ℕ × ℕ) → IsIn c e.shifts → IsIn c f.shifts
  pub grants : (c : ℕ × ℕ × ℕ) → IsIn c e.grants → IsIn c f.grants

-- a shift of an entry that can be written goes from one node to another
pub moves_on : (nodes : ℕ) (e : EntryValue) → IsEntry nodes e → MovesOn e
moves_on nodes e h c k = (one_of (IsShift nodes e.key) e.shifts h.shifts c k).3

has_cells : (nodes : ℕ) (es fs : List EntryValue) → AreEntries nodes es → AreEntries nodes fs → Tells es fs →
    (e f : EntryValue) → IsIn e es → IsIn f fs → e.name ≡ f.name → HasCells e f
has_cells nodes es fs is are there e f m n same =
    record {
      hits = λ c h.
          let r = in_flat operations_of fs (hit_told e c) (there (hit_told e c)
          (flat_in operations_of es e (hit_told e c) m (hit_in e c h))) in
          let k = hit_of r.0 e.name c r.2 in
          subst (λ (g : EntryValue). IsIn c g.hits) (this r.0 r.1 k.0) k.1;
      execs = λ c h.
          let r = in_flat operations_of fs (exec_told e c) (there (exec_told e c)
          (flat_in operations_of es e (exec_told e c) m (exec_in e c h))) in
          let k = exec_of r.0 e.name e.key c r.2 in
          subst (λ (g : EntryValue). IsIn c g.execs) (this r.0 r.1 k.0) k.1;
      shifts = λ c h.
          let r = in_flat operations_of fs (shift_told e c) (there (shift_told e c)
          (flat_in operations_of es e (shift_told e c) m (shift_in e c h))) in
          let k = shift_of r.0 e.name e.key c (moves_on nodes e (one_of (IsEntry nodes) es is.each e m) c h) r.2 in
          subst (λ (g : EntryValue). IsIn c g.shifts) (this r.0 r.1 k.0) k.1;
      grants = λ c h.
          let r = in_flat operations_of fs (grant_told e c) (there (grant_told e c)
          (flat_in operations_of es e (grant_told e c) m (grant_in e c h))) in
          let k = grant_of r.0 (moves_on nodes r.0 (one_of (IsEntry nodes) fs are.each r.0 r.1)) e.name e.key c r.2 in
          subst (λ (g : EntryValue). IsIn c g.grants) (this r.0 r.1 k.0) k.1;
    }
  where
    this : (g : EntryValue) → IsIn g fs → e.name ≡ g.name → g ≡ f
    this g k s = one_there (λ (x : EntryValue). x.name) fs are.ascend g f k n (sym s ∙ same)

entry_there : (nodes : ℕ) (es fs : List EntryValue) → AreEntries nodes es → AreEntries nodes fs → Tells es fs →
    Tells fs es → (e : EntryValue) → IsIn e es → IsIn e fs
entry_there nodes es fs is are there back e m =
    let r = in_flat operations_of fs (Set e.name e.key) (there (Set e.name e.key)
    (flat_in operations_of es e (Set e.name e.key) m (inl refl))) in
    let s = set_of r.0 e.name e.key r.2 in
    subst (λ (x : EntryValue). IsIn x fs) (sym (same r.0 r.1 s.0 s.1)) r.1
  where
    same : (f : EntryValue) → IsIn f fs → e.name ≡ f.name → e.key ≡ f.key → e ≡ f
    same f n names keys =
        let one = one_of (IsEntry nodes) es is.each e m in
        let other = one_of (IsEntry nodes) fs are.each f n in
        let more = has_cells nodes es fs is are there e f m n names in
        let less = has_cells nodes fs es are is back f e n m (sym names) in
        let hits = same_list hit_place e.hits f.hits one.hits_ascend other.hits_ascend more.hits less.hits in
        let execs = same_list exec_place e.execs f.execs one.execs_ascend other.execs_ascend more.execs less.execs in
        let shifts = same_list shift_place e.shifts f.shifts one.shifts_ascend other.shifts_ascend more.shifts
        less.shifts in
        let grants = same_list grant_place e.grants f.grants one.grants_ascend other.grants_ascend more.grants
        less.grants in
        λ i. record {
          name = names i;
          key = keys i;
          hits = hits i;
          execs = execs i;
          shifts = shifts i;
          grants =
              grants i;
        }

same_entries : (nodes : ℕ) (es fs : List EntryValue) → AreEntries nodes es → AreEntries nodes fs → Tells es fs →
    Tells fs es → es ≡ fs
same_entries nodes es fs is are there back = same_list (λ (e : EntryValue). e.name) es fs is.ascend are.ascend
    (entry_there nodes es fs is are there back)
    (entry_there nodes fs es are is back there)

-- ---- messages

-- messages of one sender to one receiver that tell the same versions and the same operations
pub record TellTheSame (m n : MessageValue) : Type 0 where
  pub from : m.from ≡ n.from
  pub to : m.to ≡ n.to
  pub base : m.base ≡ n.base
  pub upto : m.upto ≡ n.upto
  pub ack : m.ack ≡ n.ack
  pub there : (op : Operation) → IsIn op (operations_in m) → IsIn op (operations_in n)
  pub back : (op : Operation) → IsIn op (operations_in n) → IsIn op (operations_in m)

pub one_message : (nodes : ℕ) (m n : MessageValue) → IsMessage nodes m → IsMessage nodes n → TellTheSame m n → m ≡ n
one_message nodes m n is are h = λ i. record {
  from = h.from i;
  to = h.to i;
  base = h.base i;
  upto = h.upto i;
  ack = h.ack i;
  entries = same_entries nodes m.entries n.entries is.entries are.entries h.there h.back i;
}
