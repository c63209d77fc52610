-- The status of a page (RFC 9110, section 15).
use Rattle.std.specs.Prelude.{ℕ, List, codes}
use Rattle.asks.specs.declared.reply.What.{What}
use Rattle.asks.specs.declared.reply.What.TheVariants as whats
use Rattle.web_pages.specs.declared.fault.RouteMethod.{RouteMethod}
use Rattle.web_pages.specs.declared.fault.RouteMethod.TheVariants as methods
use Rattle.web_pages.specs.declared.fault.WebFault.{WebFault}
use Rattle.web_pages.specs.declared.fault.WebFault.TheVariants as faults

-- 400 where the ask is none, 403 where it isn't allowed, 404 and 410 where its tab or token isn't there or is no more, 409 where
-- things have moved on, 503 where the service can't
abbrev pub what_status : What → ℕ
what_status (whats.BadForm at) = 400
what_status (whats.AdminRefused rule) = 403
what_status whats.UnknownClient = 400
what_status whats.LevelUnknown = 400
what_status (whats.TooManyRoots count) = 503
what_status (whats.TooManyTabs count) = 503
what_status whats.UnknownTab = 404
what_status whats.TabExpired = 410
what_status (whats.Stale current) = 409
what_status (whats.OtherUser tab session) = 409
what_status whats.Finished = 409
what_status whats.NotAsked = 409
what_status (whats.Locked until) = 403
what_status whats.Disabled = 403
what_status (whats.CredentialMoved had now) = 409
what_status (whats.BadCredentials next) = 403
what_status (whats.BadCode next) = 403
what_status (whats.CodeSpent step next) = 409
what_status whats.TokenUnknown = 404
what_status whats.TokenSpent = 409
what_status (whats.TokenExpired expiry) = 410
what_status (whats.Denied execution) = 403
what_status (whats.NotConfigured execution) = 403
what_status whats.DeadEnd = 403
what_status (whats.LevelMissed level) = 403
what_status (whats.Done session user level) = 200
what_status (whats.Action code kind shown) = 200
what_status (whats.Form code asked) = 200
what_status (whats.ActionDone user kind) = 200
what_status whats.LoggedOut = 200
what_status (whats.Told text) = 200
what_status whats.StoreFault = 503
what_status whats.DiceFault = 503
what_status whats.Memory = 503

abbrev pub fault_status : WebFault → ℕ
fault_status faults.BadRequest = 400
fault_status faults.NotFound = 404
fault_status (faults.MethodNotAllowed allowed) = 405
fault_status faults.LengthRequired = 411
fault_status faults.BodyTooLarge = 413
fault_status faults.UnsupportedMediaType = 415
fault_status faults.HeadTooLarge = 431

abbrev pub method_text : RouteMethod → List ℕ
method_text methods.Get = codes "GET"
method_text methods.Post = codes "POST"
