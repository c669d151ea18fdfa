-- Answers as JSON objects, each on a line of its own.
use Rattle.std.specs.Prelude.{ℕ, ℤ, true, List, Option, [], ◌++◌, ◌==◌, if◌then◌else◌, codes, decimal, flat_map, unwrap_or}
use Rattle.std.specs.Fmt.{signed_decimal}
use Rattle.actions.specs.Canonical.{task_text}
use Rattle.audit.specs.FaultText.{audit_fault_text}
use Rattle.audit.specs.declared.total.Total.{Total}
use Rattle.cluster_model.specs.declared.fault.WorldFault.{WorldFault}
use Rattle.cluster_model.specs.declared.fault.WorldFault.TheVariants.{NoNode, NoMessage, Refused}
use Rattle.node_calls.specs.FaultCodes.{code_of}
use Rattle.node_calls.specs.declared.fault.NodeFault.{NodeFault}
use Rattle.replica_state.specs.States.{State}
use Rattle.report_text.specs.Report.{PointRow, TermRow, point_rows}
use Rattle.stamp_register.specs.declared.key.Stamp.{Stamp}
use Rattle.stamp_register.specs.Keys.{stamp_text}
use Rattle.answers.specs.Answers.{AnswerValue, set, removed, loaded, unset, no_term, act, shifted, granted, message, delivered, refused, bad_line, listed, report, rights, spent, hits, workers, calls, audit_yes, audit_no, budget, cut}
use Rattle.answers.specs.Causes.{cause_text}
use Rattle.answers.specs.Lines.{delivered_text}
use Rattle.answers.specs.Strings.{string_of}

-- the beginning of an object, whose first member says what the answer is, and its end: the last string is open between
unfoldable pub opening : List ℕ → List ℕ
opening kind = codes "{\"answer\":\"" ++ kind

unfoldable pub closing : List ℕ
closing = codes "\"}\n"

abbrev pub object : List ℕ → List ℕ → List ℕ
object kind members = opening kind ++ (members ++ closing)

-- a further member: the string before it is closed, and its own is open
unfoldable pub plain_member : List ℕ → List ℕ → List ℕ
plain_member name value = codes "\",\"" ++ (name ++ (codes "\":\"" ++ value))

-- the same of any text
abbrev pub member : List ℕ → List ℕ → List ℕ
member name value = plain_member name (string_of true value)

abbrev pub stamp_member : Stamp → List ℕ
stamp_member stamp = plain_member (codes "stamp") (stamp_text stamp)

abbrev pub number_member : List ℕ → ℕ → List ℕ
number_member name number = plain_member name (decimal number)

-- nothing is said of grants where there are none
abbrev pub granted_member : ℕ → List ℕ
granted_member count = if count == 0 then [] else number_member (codes "granted") count

-- ---- a refusal

abbrev pub node_fault_members : NodeFault → List ℕ
node_fault_members fault =
    plain_member (codes "code") (codes "N" ++ decimal (code_of fault)) ++ plain_member (codes "fault") (cause_text fault)

abbrev pub fault_members : WorldFault → List ℕ
fault_members NoNode = plain_member (codes "code") (codes "NoNode")
fault_members NoMessage = plain_member (codes "code") (codes "NoMessage")
fault_members (Refused fault) = node_fault_members fault

-- ---- a report

abbrev pub node_member : ℕ → List ℕ → List ℕ
node_member node value = plain_member (decimal node) value

abbrev pub hits_members : List (ℕ × ℕ) → List ℕ
hits_members counts = flat_map (λ at. node_member at.0 (decimal at.1)) counts

abbrev pub rights_members : List (ℕ × ℤ) → List ℕ
rights_members counts = flat_map (λ at. node_member at.0 (signed_decimal at.1)) counts

abbrev pub point_object : List ℕ → Stamp → Option (List ℕ) → List ℕ
point_object name stamp actions = object (codes "point")
    (plain_member (codes "name") name ++ (stamp_member stamp
    ++ member (codes "actions") (unwrap_or actions (codes "removed"))))

abbrev pub hits_object : List (ℕ × ℕ) → ℕ → List ℕ
hits_object counts total = object (codes "hits") (hits_members counts ++ number_member (codes "total") total)

abbrev pub term_object : TermRow → List ℕ
term_object row = object (codes "term")
    (number_member (codes "term") row.term ++ (number_member (codes "count") row.count
    ++ (granted_member row.granted ++ (number_member (codes "spent") row.spent
    ++ (plain_member (codes "rights") [] ++ rights_members row.rights)))))

abbrev pub point_objects : PointRow → List ℕ
point_objects row =
    point_object row.name row.stamp row.actions
    ++ hits_object row.hits row.total ++ flat_map term_object row.terms

unfoldable pub report_objects : State → ℕ → List ℕ
report_objects v nodes = flat_map point_objects (point_rows v nodes)

-- ---- any answer

abbrev pub budget_members : Total → List ℕ
budget_members t =
    plain_member (codes "name") t.name ++ (stamp_member t.stamp ++ (number_member (codes "term") t.term
    ++ (number_member (codes "count") t.count ++ (granted_member t.granted
    ++ number_member (codes "executed") t.executed))))

abbrev pub object_of : AnswerValue → List ℕ
object_of (set stamp) = object (codes "set") (stamp_member stamp)
object_of (removed stamp) = object (codes "removed") (stamp_member stamp)
object_of (loaded entries) = object (codes "loaded") (number_member (codes "number") entries)
object_of unset = object (codes "unset") []
object_of (no_term stamp) = object (codes "none") (stamp_member stamp)
object_of (act stamp term task) = object (codes "act")
    (stamp_member stamp ++ (number_member (codes "term") term ++ member (codes "task") (task_text task)))
object_of (shifted total) = object (codes "shifted") (number_member (codes "total") total)
object_of (granted total) = object (codes "granted") (number_member (codes "total") total)
object_of (message number) = object (codes "message") (number_member (codes "number") number)
object_of (delivered changed) = object (delivered_text changed) []
object_of (refused fault) = object (codes "refused") (fault_members fault)
object_of bad_line = object (codes "bad line") []
object_of (listed text) = object (string_of true text) []
object_of (report state nodes) = report_objects state nodes
object_of (rights left) = object (signed_decimal left) []
object_of (spent count) = object (decimal count) []
object_of (hits count) = object (decimal count) []
object_of (workers count) = object (codes "workers") (number_member (codes "number") count)
object_of (calls count) = object (codes "calls") (number_member (codes "number") count)
object_of audit_yes = object (codes "audit") (plain_member (codes "verdict") (codes "yes"))
object_of (audit_no fault) = object (codes "audit")
    (plain_member (codes "verdict") (codes "no") ++ plain_member (codes "fault") (audit_fault_text fault))
object_of (budget total) = object (codes "budget") (budget_members total)
object_of (cut node) = object (codes "cut") (number_member (codes "node") node)
