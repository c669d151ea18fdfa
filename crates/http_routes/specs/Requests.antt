-- What a request wants of a node, by what it asks for and its body.
use Rattle.std.specs.Prelude.{◌≡◌, ◌⊎◌, ℕ, if◌then◌else◌, List, length, Option, Some, None}
use Rattle.std.specs.Str.{is_utf8}
use Rattle.node_calls.specs.Told.{AskTold, ask_ref_told, ask_told, sets, removes, loads, shifts, grants, delivers}
use Rattle.http_routes.specs.Asked.{AskedValue, NodeRequestValue, asked_of, fault_of, known, node}
use Rattle.http_routes.specs.Asked as asks
use Rattle.http_routes.specs.declared.request.RequestFault.{RequestFault}
use Rattle.http_routes.specs.declared.request.RequestFault.TheVariants as faults
use Rattle.http_routes.specs.declared.table.RouteSet.{RouteSet}
use Rattle.http_routes.specs.declared.table.RouteSet.TheVariants as offers
use Rattle.http_routes.specs.Replies.{ReplyValue, http_value, no_memory, request_fault_reply}
use Rattle.http_routes.specs.declared.wanted.Wanted.{Wanted}
use Rattle.http_routes.specs.declared.wanted.Wanted.TheVariants as wants
use Rattle.http_routes.specs.declared.wanted.WantedRef.{WantedRef}
use Rattle.http_routes.specs.declared.wanted.WantedRef.TheVariants as refs

-- a call; the list, the report or the status; a point that is set to a text and spread, or spread as it is; or nothing
-- but this reply
pub data WantedValue : Type 0 where
  call : (ask : AskTold) → WantedValue
  list : WantedValue
  report : WantedValue
  status : WantedValue
  sets_spread : (name text : List ℕ) → WantedValue
  spreads : (name : List ℕ) → WantedValue
  answered : (reply : ReplyValue) → WantedValue

abbrev pub refused : RequestFault → WantedValue
refused fault = answered (request_fault_reply fault)

abbrev pub wanted_value : Wanted → WantedValue
wanted_value (wants.Do ask) = call (ask_told ask)
wanted_value wants.List = list
wanted_value wants.Report = report
wanted_value wants.Status = status
wanted_value (wants.Answered reply) = answered (http_value reply)

abbrev pub wanted_ref_value : WantedRef → WantedValue
wanted_ref_value (refs.Do ask) = call (ask_ref_told ask)
wanted_ref_value refs.List = list
wanted_ref_value refs.Report = report
wanted_ref_value refs.Status = status
wanted_ref_value (refs.SetSpread name text) = sets_spread name.now text.now
wanted_ref_value (refs.Spread name) = spreads name.now
wanted_ref_value (refs.Refused fault) = refused fault

-- this, or no more than the reply where memory was refused
abbrev pub IsWanted : WantedValue → WantedValue → Type 0
IsWanted wanted given = (given ≡ wanted) ⊎ (given ≡ answered no_memory)

-- bytes that are a text
abbrev pub text_in : List ℕ → Option (List ℕ)
text_in body = if is_utf8 body then Some body else None

abbrev pub texted_by : (List ℕ → WantedValue) → Option (List ℕ) → WantedValue
texted_by f None = refused faults.BadText
texted_by f (Some text) = f text

-- what is wanted with the body as its text
abbrev pub texted : (List ℕ → WantedValue) → List ℕ → WantedValue
texted f body = texted_by f (text_in body)

abbrev pub call_of : (List ℕ → AskTold) → List ℕ → WantedValue
call_of f text = call (f text)

-- what a request of a node wants with this body
abbrev pub wanted_of : NodeRequestValue → List ℕ → WantedValue
wanted_of asks.list body = list
wanted_of asks.report body = report
wanted_of asks.status body = status
wanted_of (asks.set name) body = texted (call_of (sets name)) body
wanted_of (asks.remove name) body = call (removes name)
wanted_of asks.load body = texted (call_of loads) body
wanted_of (asks.set_spread name) body = texted (sets_spread name) body
wanted_of (asks.spread name) body = spreads name
wanted_of (asks.shift name term to amount) body = call (shifts name term to amount)
wanted_of (asks.grant name term amount) body = call (grants name term amount)
wanted_of asks.deliver body = call (delivers body)
wanted_of asks.bad_number body = refused faults.BadNumber

-- a node alone answers what is asked of a node
abbrev pub wanted_known : AskedValue → List ℕ → WantedValue
wanted_known (known (node request) row) body = wanted_of request body
wanted_known _ body = refused faults.NotFound

abbrev pub wanted_unless : Option RequestFault → AskedValue → List ℕ → WantedValue
wanted_unless (Some fault) asked body = refused fault
wanted_unless None asked body = wanted_known asked body

-- of several refusals the first: no route, another method, a body that is too long, and then those of what is asked
abbrev pub wanted_asked : AskedValue → List ℕ → WantedValue
wanted_asked asked body = wanted_unless (fault_of asked (length body)) asked body

-- what a request of these routes wants
abbrev pub wanted_from : RouteSet → List ℕ → List ℕ → List ℕ → WantedValue
wanted_from offered method path body = wanted_asked (asked_of offered method path) body

-- the same of the routes of a node alone
abbrev pub wanted : List ℕ → List ℕ → List ℕ → WantedValue
wanted method path body = wanted_from offers.Node method path body
