-- The JSON report has no numbers of JSON, and nests little: so its text says it whole.
use Rattle.std.proofs.Common.{◌≡◌, ℕ, suc, ◌≤◌, Bool, true, false, List, [], ◌∷◌, Option, Some, None, map, option_map, option_and_then, refl, sym, ap, ◌∙◌, arith, append-nil, codes, decimal}
use Rattle.std.specs.Prelude.{◌||◌, ◌==◌, if◌then◌else◌}
use Rattle.std.specs.Cmp.Lexicographic.{slice_cmp}
use Rattle.std.specs.Fmt.{signed_decimal}
use Rattle.std.specs.Ordering.{match_ordering, nat_cmp}
use Rattle.std.specs.declared.cmp.Ordering.{Ordering}
use Rattle.std.specs.declared.cmp.Ordering.TheVariants.{Less, Equal, Greater}
use Rattle.std.proofs.Math.Nat.{max-le}
use Rattle.json.specs.Json as json
use Rattle.json.specs.Tree.{HasNumbers, ItemsHaveNumbers, MembersHaveNumbers, json_tokens}
use Rattle.json.specs.Tree as tree
use Rattle.json.specs.Lex.{tokens}
use Rattle.json.proofs.Printed.Tokens.{tokens-print}
use Rattle.json.proofs.Printed.Trees.{value-json_tokens, ArePrintable-json_tokens}
use Rattle.serde_json.specs.Data.{Data, string, null, array, object, Items, item, Members, no_members, member, put}
use Rattle.serde_json.specs.Read.{of_json, of_items, of_members, read, max_depth}
use Rattle.serde_json.specs.View.{items_of}
use Rattle.serde_json.specs.Written.{outline, items_outline, members_outline, has_float, items_have_float, members_have_float, compact_text}
use Rattle.serde_json.proofs.Texts.{print-outline}
use Rattle.stamp_register.specs.Keys.{stamp_text}
use Rattle.replica_state.specs.States.{State}
use Rattle.report_text.specs.Report.{TermRow, PointRow, point_rows}
use Rattle.report_text.specs.Status.{BudgetRow, BudgetsRow, all_budgets, budget_data, budgets_data, node_data, points_data, status_data}
use Rattle.report_text.specs.Peers.{all_codes, code_name, count_of, counts_in, heard_data, number_data, peer_data, peers_data, peers_member, refused_data}
use Rattle.report_text.specs.declared.node_json.NodeHead.{NodeHead}
use Rattle.report_text.specs.declared.peer_rows.PeerRow.{PeerRow}
use Rattle.report_text.specs.declared.peer_rows.RejectCode.{RejectCode}
use Rattle.report_text.specs.Json.{list_data, rights_data, term_data, actions_data, point_data, report_data}

-- a value that is read as itself, with no number, that nests no deeper than this
record IsPlain (deep : ℕ) (d : Data) : Type 0 where
  pub read : of_json (outline d) ≡ Some d
  pub numbers : HasNumbers (outline d)
  pub shallow : tree.depth (outline d) ≤ deep
  pub floatless : has_float d ≡ false

record ArePlain (deep : ℕ) (ds : Items) : Type 0 where
  pub read : of_items (items_outline ds) ≡ Some ds
  pub numbers : ItemsHaveNumbers (items_outline ds)
  pub shallow : tree.items_depth (items_outline ds) ≤ deep
  pub floatless : items_have_float ds ≡ false

-- members put one by one among those before them
abbrev put_all : Members → Members → Members
put_all no_members before = before
put_all (member key d ms) before = put_all ms (put key d before)

record HavePlain (deep : ℕ) (ms : Members) : Type 0 where
  pub read : (before : Members) → of_members (members_outline ms) before ≡ Some (put_all ms before)
  pub numbers : MembersHaveNumbers (members_outline ms)
  pub shallow : tree.members_depth (members_outline ms) ≤ deep
  pub floatless : members_have_float ms ≡ false

string_plain : (deep : ℕ) (text : List ℕ) → IsPlain deep (string text)
string_plain deep text = record { read = refl; numbers = tt; shallow = omega arith; floatless = refl }

null_plain : (deep : ℕ) → IsPlain deep null
null_plain deep = record { read = refl; numbers = tt; shallow = omega arith; floatless = refl }

items_plain : {X : Type 0} (g : X → Data) (deep : ℕ) → ((x : X) → IsPlain deep (g x)) → (xs : List X) →
    ArePlain deep (items_of (map g xs))
items_plain g deep each [] = record { read = refl; numbers = tt; shallow = omega arith; floatless = refl }
items_plain g deep each (x ∷ xs) =
    let first = each x in
    let rest = items_plain g deep each xs in
    record {
      read =
          ap (option_and_then (λ d. option_map (item d) (of_items (items_outline (items_of (map g xs)))))) first.read
          ∙ ap (option_map (item (g x))) rest.read;
      numbers = (first.numbers, rest.numbers);
      shallow = max-le first.shallow rest.shallow;
      floatless = ap (λ b. b || items_have_float (items_of (map g xs))) first.floatless ∙ rest.floatless;
    }

list_plain : {X : Type 0} (g : X → Data) (deep : ℕ) → ((x : X) → IsPlain deep (g x)) → (xs : List X) →
    IsPlain (suc deep) (list_data (map g xs))
list_plain g deep each xs =
    let plain = items_plain g deep each xs in
    let bound = plain.shallow in
    record {
      read = ap (option_map array) plain.read;
      numbers = plain.numbers;
      shallow = omega (arith, bound);
      floatless = plain.floatless;
    }

no_more : (deep : ℕ) → HavePlain deep no_members
no_more deep = record { read = λ before. refl; numbers = tt; shallow = omega arith; floatless = refl }

and_member : {deep : ℕ} {d : Data} {ms : Members} (key : List ℕ) → IsPlain deep d → HavePlain deep ms →
    HavePlain deep (member key d ms)
and_member {deep} {d} {ms} key first rest =
    record {
      read = λ before. ap (option_and_then (λ e. of_members (members_outline ms) (put key e before))) first.read ∙
          rest.read (put key d before);
      numbers = (first.numbers, rest.numbers);
      shallow = max-le first.shallow rest.shallow;
      floatless = ap (λ b. b || members_have_float ms) first.floatless ∙ rest.floatless;
    }

-- the members stand in the order of their names
object_plain : (deep : ℕ) (ms : Members) → HavePlain deep ms → put_all ms no_members ≡ ms →
    IsPlain (suc deep) (object ms)
object_plain deep ms plain ordered =
    let bound = plain.shallow in
    record {
      read = ap (option_map object) (plain.read no_members ∙ ap (λ all. Some all) ordered);
      numbers = plain.numbers;
      shallow = omega (arith, bound);
      floatless = plain.floatless;
    }

counted_plain : (deep : ℕ) (count granted rights spent term : Data)
    → IsPlain deep count → IsPlain deep granted → IsPlain deep rights → IsPlain deep spent → IsPlain deep term →
    (is_ungranted : Bool)
    → let last = member (codes "rights") rights (member (codes "spent") spent
    (member (codes "term") term no_members)) in
    IsPlain (suc deep) (object (member (codes "count") count
    (if is_ungranted then last else member (codes "granted") granted last)))
counted_plain deep count granted rights spent term c g r s t true =
    object_plain deep _ (and_member (codes "count") c (and_member (codes "rights") r
    (and_member (codes "spent") s (and_member (codes "term") t (no_more deep))))) refl
counted_plain deep count granted rights spent term c g r s t false =
    object_plain deep _
    (and_member (codes "count") c (and_member (codes "granted") g
    (and_member (codes "rights") r (and_member (codes "spent") s (and_member (codes "term") t (no_more deep))))))
    refl

term_plain : (row : TermRow) → IsPlain 2 (term_data row)
term_plain row =
    counted_plain 1 (string (decimal row.count)) (string (decimal row.granted)) (rights_data row.rights)
    (string (decimal row.spent)) (string (decimal row.term))
    (string_plain 1 _) (string_plain 1 _) (list_plain _ 0 (λ at. string_plain 0 (signed_decimal at.1)) row.rights)
    (string_plain 1 _) (string_plain 1 _)
    (row.granted == 0)

actions_plain : (deep : ℕ) (actions : Option (List ℕ)) → IsPlain deep (actions_data actions)
actions_plain deep None = null_plain deep
actions_plain deep (Some text) = string_plain deep text

point_plain : (row : PointRow) → IsPlain 4 (point_data row)
point_plain row =
    object_plain 3 _
    (and_member (codes "actions") (actions_plain 3 row.actions)
    (and_member (codes "hits") (list_plain _ 2 (λ at. string_plain 2 (decimal at.1)) row.hits)
    (and_member (codes "name") (string_plain 3 row.name)
    (and_member (codes "stamp") (string_plain 3 (stamp_text row.stamp))
    (and_member (codes "terms") (list_plain term_data 2 term_plain row.terms) (no_more 3))))))
    refl

report_plain : (v : State) (nodes : ℕ) → IsPlain 5 (report_data v nodes)
unfolding report_data
report_plain v nodes = list_plain point_data 4 point_plain (point_rows v nodes)

pub report_floatless : (v : State) (nodes : ℕ) → has_float (report_data v nodes) ≡ false
report_floatless v nodes = (report_plain v nodes).floatless

-- ---- the status of a node

by_node_plain : (cells : List (ℕ × ℕ)) → IsPlain 1 (list_data (map (λ at. string (decimal at.1)) cells))
by_node_plain cells = list_plain _ 0 (λ at. string_plain 0 (decimal at.1)) cells

budget_plain : (row : BudgetRow) → IsPlain 2 (budget_data row)
budget_plain row =
    object_plain 1 _
    (and_member (codes "count") (string_plain 1 _)
    (and_member (codes "granted") (by_node_plain row.granted)
    (and_member (codes "rights") (list_plain _ 0 (λ at. string_plain 0 (signed_decimal at.1)) row.rights)
    (and_member (codes "spent") (by_node_plain row.spent)
    (and_member (codes "term") (string_plain 1 _) (no_more 1))))))
    refl

budgets_plain : (row : BudgetsRow) → IsPlain 4 (budgets_data row)
budgets_plain row =
    object_plain 3 _
    (and_member (codes "name") (string_plain 3 row.name)
    (and_member (codes "stamp") (string_plain 3 (stamp_text row.stamp))
    (and_member (codes "terms") (list_plain budget_data 2 budget_plain row.terms) (no_more 3))))
    refl

points_plain : (v : State) (nodes : ℕ) → IsPlain 5 (points_data v nodes)
unfolding points_data
points_plain v nodes = list_plain budgets_data 4 budgets_plain (all_budgets v nodes)

node_plain : (head : NodeHead) (v : State) → IsPlain 6 (node_data head v)
node_plain head v =
    object_plain 5 _
    (and_member (codes "calls") (string_plain 5 _)
    (and_member (codes "cap") (string_plain 5 _)
    (and_member (codes "nodes") (string_plain 5 _)
    (and_member (codes "number") (string_plain 5 _)
    (and_member (codes "points") (points_plain v head.nodes)
    (and_member (codes "version") (string_plain 5 _) (no_more 5)))))))
    refl

-- ---- the other nodes in it

or_left : (b c : Bool) → (b || c) ≡ false → b ≡ false
or_left false c none = refl
or_left true c none = none

or_right : (b c : Bool) → (b || c) ≡ false → c ≡ false
or_right false c none = none
or_right true c none = let no : ⊥ = cc in absurd no

-- a member that is put among others, wherever it is put
put_by : (order : Ordering) (here there more : Members) → members_have_float here ≡ false → members_have_float there ≡ false →
    members_have_float more ≡ false → members_have_float (match_ordering order here there more) ≡ false
put_by Less here there more h t m = h
put_by Equal here there more h t m = t
put_by Greater here there more h t m = m

put_floatless : (k : List ℕ) (d : Data) (ms : Members) → has_float d ≡ false → members_have_float ms ≡ false →
    members_have_float (put k d ms) ≡ false
put_floatless k d no_members none all = ap (λ b. b || false) none
put_floatless k d (member l e ms) none all =
    let first = or_left (has_float e) (members_have_float ms) all in
    let rest = or_right (has_float e) (members_have_float ms) all in
    put_by (slice_cmp nat_cmp k l) (member k d (member l e ms)) (member l d ms) (member l e (put k d ms))
    (ap (λ b. b || (has_float e || members_have_float ms)) none ∙ all)
    (ap (λ b. b || members_have_float ms) none ∙ rest)
    (ap (λ b. b || members_have_float (put k d ms)) first ∙ put_floatless k d ms none rest)

counted_floatless : (is_none : Bool) (k : List ℕ) (d : Data) (ms : Members) → has_float d ≡ false →
    members_have_float ms ≡ false → members_have_float (if is_none then ms else put k d ms) ≡ false
counted_floatless true k d ms none all = all
counted_floatless false k d ms none all = put_floatless k d ms none all

counts_floatless : (refused : List ℕ) (codes : List RejectCode) → members_have_float (counts_in refused codes) ≡ false
counts_floatless refused [] = refl
counts_floatless refused (code ∷ rest) =
    counted_floatless (count_of refused code == 0) (code_name code) (number_data (count_of refused code))
    (counts_in refused rest) refl (counts_floatless refused rest)

refused_floatless : (refused : List ℕ) → has_float (refused_data refused) ≡ false
refused_floatless refused = counts_floatless refused all_codes

heard_floatless : (heard : Option ℕ) → has_float (heard_data heard) ≡ false
heard_floatless None = refl
heard_floatless (Some at) = refl

peer_floatless : (row : PeerRow) → has_float (peer_data row) ≡ false
peer_floatless row =
    ap (λ b. b || (false || (has_float (refused_data row.refused) || false))) (heard_floatless row.heard)
    ∙ ap (λ b. b || false) (refused_floatless row.refused)

rows_floatless : (rows : List PeerRow) → items_have_float (items_of (map peer_data rows)) ≡ false
rows_floatless [] = refl
rows_floatless (row ∷ rows) =
    ap (λ b. b || items_have_float (items_of (map peer_data rows))) (peer_floatless row) ∙ rows_floatless rows

peers_floatless : (peers : Option (List PeerRow)) → members_have_float (peers_member peers) ≡ false
peers_floatless None = refl
peers_floatless (Some rows) = ap (λ b. b || false) (rows_floatless rows)

pub status_floatless : (head : NodeHead) (v : State) (peers : Option (List PeerRow)) →
    has_float (status_data head v peers) ≡ false
status_floatless head v peers =
    ap (λ b. b || members_have_float (peers_member peers)) (node_plain head v).floatless ∙ peers_floatless peers

-- the text of such a value is read as the value
plain_read : (deep : ℕ) (d : Data) → deep ≤ max_depth → IsPlain deep d → read (compact_text d) ≡ Some d
plain_read deep d low plain =
    let j = outline d in
    let bound = plain.shallow in
    let found : tokens (compact_text d) ≡ json_tokens j =
    ap tokens (sym (print-outline d)) ∙ tokens-print (json_tokens j) (ArePrintable-json_tokens j plain.numbers) in
    let parsed : json.value max_depth (json_tokens j) ≡ Some (j, []) =
    ap (json.value max_depth) (sym (append-nil (json_tokens j))) ∙
    value-json_tokens j max_depth [] (omega (arith, bound)) in
    ap (λ ts. option_and_then of_json (option_and_then (λ p. json.if_last p.0 p.1) (json.value max_depth ts))) found
    ∙ ap (λ o. option_and_then of_json (option_and_then (λ p. json.if_last p.0 p.1) o)) parsed
    ∙ plain.read

pub report_read : (v : State) (nodes : ℕ) → read (compact_text (report_data v nodes)) ≡ Some (report_data v nodes)
report_read v nodes = plain_read 5 (report_data v nodes) (omega arith) (report_plain v nodes)
