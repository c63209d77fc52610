use Rattle.std.proofs.Common.{◌≡◌, drop}
use Rattle.std.specs.Prelude.{map}
use Rattle.web_requests.specs.Cookies.{first_some, part_root}
use Rattle.web_requests.proofs.cookie.parts_root.Given as goal

abbrev pub invariant-loop-part : goal.invariant-loop-part
invariant-loop-part l = first_some part_root (map (λ part. part.now) (drop l.part-index l.parts)) ≡ first_some part_root (map (λ part. part.now) l.parts)
