-- What a request is read as.
use Rattle.std.specs.Prelude.{◌≡◌, ℕ, Bool, true, false, nat_lt, List, length, take, drop, slice_range, Option, Some, None, ok_or, Result, Ok, Err, if◌then◌else◌}
use Rattle.login_base.specs.declared.id.RootKey.{RootKey}
use Rattle.asks.specs.declared.ask.Ask.{Ask}
use Rattle.ask_pairs.specs.declared.pairs.Pair.{Pair}
use Rattle.ask_pairs.specs.Asks.{keyed_ask}
use Rattle.ask_pairs.specs.Browsers.{browser_ask}
use Rattle.ask_pairs.specs.Pairs.{pairs_of}
use Rattle.web_pages.specs.declared.fault.RouteMethod.{RouteMethod}
use Rattle.web_pages.specs.declared.fault.RouteMethod.TheVariants as methods
use Rattle.web_pages.specs.declared.fault.WebFault.{WebFault}
use Rattle.web_pages.specs.declared.fault.WebFault.TheVariants as faults
use Rattle.web_requests.specs.declared.front.HeadPlace.{HeadPlace}
use Rattle.web_requests.specs.declared.front.HeadPlace.TheVariants as places
use Rattle.web_requests.specs.declared.head.Request.{Request}
use Rattle.web_requests.specs.declared.read.Read.{Read}
use Rattle.web_requests.specs.declared.read.Read.TheVariants as reads
use Rattle.web_requests.specs.declared.request.Wanted.{Wanted}
use Rattle.web_requests.specs.declared.route.Route.{Route}
use Rattle.web_requests.specs.declared.route.Route.TheVariants as routes
use Rattle.web_requests.specs.Bodies.{◌>>=◌, body_length}
use Rattle.web_requests.specs.Cookies.{root_cookie}
use Rattle.web_requests.specs.Front.{head_place, field_lines}
use Rattle.web_requests.specs.Heads.{IsHead}
use Rattle.web_requests.specs.Routes.{path_of, query_of, route_of, route_method, check_method}

-- the route of a request, and how long its body is, or the first fault
unfoldable pub wanted_by : Request → Result Wanted WebFault
wanted_by request = do
  route ← ok_or (route_of (path_of request.target)) faults.NotFound
  allowed ← check_method (route_method route) request.method
  n ← body_length (route_method route) request.fields
  Ok (record { route = route; length = n })

-- the pairs are those of the query, or of the body of what is posted
abbrev pub form_text : RouteMethod → List ℕ → List ℕ → List ℕ
form_text methods.Get target body = query_of target
form_text methods.Post target body = body

-- the ask of a route, with the root of a cookie
abbrev pub route_ask : Route → Option RootKey → List Pair → Ask
route_ask (routes.Browser verb) root pairs = browser_ask verb (Ok root) pairs
route_ask routes.Admin root pairs = keyed_ask pairs

abbrev pub asked : Route → Request → List ℕ → Ask
asked route request body = route_ask route (root_cookie request.fields) (pairs_of (form_text (route_method route) request.target body))

-- an ask once its body is there
abbrev pub read_wanted : Request → List ℕ → Result Wanted WebFault → Read
read_wanted request rest (Ok wanted) = if nat_lt (length rest) wanted.length then reads.More else reads.Ask (asked wanted.route request (take wanted.length rest))
read_wanted request rest (Err fault) = reads.Fault fault

-- what the head and the bytes behind it are read as
abbrev pub read_head : Option Request → List ℕ → Read
read_head (Some request) rest = read_wanted request rest (wanted_by request)
read_head None rest = reads.Fault faults.BadRequest

-- a head of so many field lines, and the bytes behind it, are read so
abbrev pub ReadsLines : Bool → List ℕ → List ℕ → Read → Type 0
ReadsLines true head rest read = read ≡ reads.Fault faults.HeadTooLarge
ReadsLines false head rest read = (request : Option Request) × IsHead head request × (read ≡ read_head request rest)

abbrev pub ReadsAt : List ℕ → HeadPlace → Read → Type 0
ReadsAt bytes places.Unfinished read = read ≡ reads.More
ReadsAt bytes places.TooLarge read = read ≡ reads.Fault faults.HeadTooLarge
ReadsAt bytes (places.Whole start end) read =
    let head = slice_range bytes start end in
    ReadsLines (nat_lt 64 (field_lines head)) head (drop end bytes) read

-- what the bytes of a request are read as, so far as they came: the head ends in the first 16,384
abbrev pub ReadsAs : List ℕ → Read → Type 0
ReadsAs bytes read = ReadsAt bytes (head_place 16384 bytes) read
