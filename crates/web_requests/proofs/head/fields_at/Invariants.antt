use Rattle.std.proofs.Common.{◌≡◌, take}
use Rattle.std.specs.Prelude.{map}
use Rattle.web_requests.specs.Heads.{field_at}
use Rattle.web_requests.proofs.head.fields_at.Given as goal

abbrev pub invariant-loop-span : goal.invariant-loop-span
invariant-loop-span l = l.fields ≡ map (field_at l.bytes) (take l.span-index l.spans)
