-- What a count of steps is opened on.
use Rattle.std.specs.Prelude.{◌≡◌, ◌<◌, ℕ}
use Rattle.std.specs.declared.sync.ledger.Blank.{Blank}

-- the blank is that of the ledger with this name and this number of parts, and has a part
pub record IsBlank (blank : Blank) (ledger_name ledger_parts : ℕ) : Type 0 where
  pub name : blank.name ≡ ledger_name
  pub parts : blank.parts ≡ ledger_parts
  pub some : 0 < blank.parts
