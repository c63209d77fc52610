use Rattle.std.proofs.Common.{◌≡◌, ◌-◌, ℕ, List, length}
use Rattle.mac_kit.specs.Hmac.{HoldsKey, hmac}
use Rattle.mac_kit.specs.Pbkdf2.{round_value, xor_through}
use Rattle.mac_kit.proofs.pbkdf2.block.Given as goal

abbrev pub invariant-rounds : goal.invariant-rounds
invariant-rounds g l = record {
  size : length l.sum ≡ g.row.N;
  value : (password : List ℕ)
      → HoldsKey g.H.BlockHash.holds g.H.BlockHash.digest_of g.row.B l.keyed.inner l.keyed.outer password
      → (l.last ≡ round_value (hmac g.H.BlockHash.digest_of g.row.B) password l.salt l.number (l.counter - 1))
      × (l.sum ≡ xor_through (hmac g.H.BlockHash.digest_of g.row.B) password l.salt l.number (l.counter - 1));
}
