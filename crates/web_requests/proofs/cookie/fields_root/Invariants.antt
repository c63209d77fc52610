use Rattle.std.proofs.Common.{◌≡◌, drop}
use Rattle.std.specs.Prelude.{map}
use Rattle.web_requests.specs.Cookies.{first_some, field_root}
use Rattle.web_requests.proofs.cookie.fields_root.Given as goal

abbrev pub invariant-loop-field : goal.invariant-loop-field
invariant-loop-field l = first_some field_root (map (λ field. field) (drop l.field-index l.fields)) ≡ first_some field_root (map (λ field. field) l.fields)
