-- A request that comes bit by bit.
use Rattle.std.specs.Prelude.{Bool, true, false}
use Rattle.web_requests.specs.declared.read.Read.{Read}
use Rattle.web_requests.specs.declared.read.Read.TheVariants as reads

-- nothing more is awaited
abbrev pub is_settled : Read → Bool
is_settled (reads.Ask ask) = true
is_settled (reads.Fault fault) = true
is_settled reads.More = false
