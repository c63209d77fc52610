use Rattle.std.proofs.Common.{◌≡◌, ◌*◌, ℕ, List, length, take}
use Rattle.mac_kit.specs.Hmac.{HoldsKey, hmac}
use Rattle.mac_kit.specs.Pbkdf2.{blocks_of}
use Rattle.mac_kit.proofs.pbkdf2.derive.Given as goal

abbrev pub invariant-parts : goal.invariant-parts
invariant-parts g l = (password : List ℕ)
    → HoldsKey g.H.BlockHash.holds g.H.BlockHash.digest_of g.row.B l.keyed.inner l.keyed.outer password
    → (length (blocks_of (hmac g.H.BlockHash.digest_of g.row.B) password l.salt l.count l.i) ≡ l.i * g.row.N)
    × (take (l.i * g.row.N) l.out
    ≡ take (length l.fn.out) (blocks_of (hmac g.H.BlockHash.digest_of g.row.B) password l.salt l.count l.i))
