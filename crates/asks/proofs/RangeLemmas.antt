-- How long a token may live.
use Rattle.std.proofs.Common.{◌≡◌, ℕ, ◌≤◌, true}
use Rattle.std.specs.Prelude.{nat_le}
use Rattle.std.proofs.lemmas.Bool.{and_parts, leb-true}
use Rattle.asks.specs.Ranges.{is_life}

pub life_most : (seconds : ℕ) → is_life seconds ≡ true → seconds ≤ 31536000
life_most seconds h = leb-true seconds 31536000 (and_parts (nat_le 1 seconds) (nat_le seconds 31536000) h).1
