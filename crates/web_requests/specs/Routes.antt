-- The routes of the service.
use Rattle.std.specs.Prelude.{ℕ, List, Option, Some, None, Result, Ok, Err, codes, if◌then◌else◌}
use Rattle.std.specs.Str.{bytes_eq}
use Rattle.form_urlencoded.specs.Form.{split_once}
use Rattle.ask_pairs.specs.declared.browser_verb.BrowserVerb.{BrowserVerb}
use Rattle.ask_pairs.specs.declared.browser_verb.BrowserVerb.TheVariants as verbs
use Rattle.web_pages.specs.declared.fault.RouteMethod.{RouteMethod}
use Rattle.web_pages.specs.declared.fault.RouteMethod.TheVariants as methods
use Rattle.web_pages.specs.declared.fault.WebFault.{WebFault}
use Rattle.web_pages.specs.declared.fault.WebFault.TheVariants as faults
use Rattle.web_pages.specs.Statuses.{method_text}
use Rattle.web_requests.specs.declared.route.Route.{Route}
use Rattle.web_requests.specs.declared.route.Route.TheVariants as routes

-- a target is cut at its first `?` into a path and a query
abbrev pub path_of : List ℕ → List ℕ
path_of target = (split_once 63 target).0

abbrev pub query_of : List ℕ → List ℕ
query_of target = (split_once 63 target).1

-- the route of a path
unfoldable pub route_of : List ℕ → Option Route
route_of path =
    if bytes_eq path (codes "/login") then Some (routes.Browser verbs.NewTab)
    else if bytes_eq path (codes "/tab") then Some (routes.Browser verbs.Page)
    else if bytes_eq path (codes "/post") then Some (routes.Browser verbs.Post)
    else if bytes_eq path (codes "/verify") then Some (routes.Browser verbs.Verify)
    else if bytes_eq path (codes "/reset") then Some (routes.Browser verbs.Reset)
    else if bytes_eq path (codes "/logout") then Some (routes.Browser verbs.Logout)
    else if bytes_eq path (codes "/admin") then Some routes.Admin
    else None

-- what opens a tab or shows one is a GET
abbrev pub verb_method : BrowserVerb → RouteMethod
verb_method verbs.NewTab = methods.Get
verb_method verbs.Page = methods.Get
verb_method verbs.Post = methods.Post
verb_method verbs.Verify = methods.Post
verb_method verbs.Reset = methods.Post
verb_method verbs.Logout = methods.Post

abbrev pub route_method : Route → RouteMethod
route_method (routes.Browser verb) = verb_method verb
route_method routes.Admin = methods.Post

-- the request has the method of its route
abbrev pub check_method : RouteMethod → List ℕ → Result (Unit {0}) WebFault
check_method allowed method = if bytes_eq method (method_text allowed) then Ok tt else Err (faults.MethodNotAllowed allowed)
