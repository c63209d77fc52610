-- The statuses of the program.
use Rattle.std.specs.Prelude.{ℕ}
use Rattle.login_desk.specs.declared.status.Outcome.{Outcome}
use Rattle.login_desk.specs.declared.status.Outcome.TheVariants as outcomes

abbrev pub number_of : Outcome → ℕ
number_of outcomes.Done = 0
number_of outcomes.Usage = 2
number_of outcomes.NoRealm = 3
number_of outcomes.ReadFailed = 4
number_of outcomes.PutFailed = 5
number_of outcomes.Memory = 7
number_of outcomes.TooLong = 9
