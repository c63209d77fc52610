-- What the objects of the outside do, and what they count.
use Rattle.std.specs.Prelude.{◌≡◌, ℕ, ◌+◌, ◌-◌, ◌^◌, ◌≤◌, min, Bool, true, false, not, ◌&&◌, ◌==◌, List, [], ◌++◌, length, take, Option, Some, None, if◌then◌else◌}
use Rattle.login_base.specs.declared.source.Read.{Read}
use Rattle.login_base.specs.declared.source.Read.TheVariants as reads
use Rattle.login_base.specs.declared.sink.Put.{Put}
use Rattle.login_base.specs.declared.sink.Put.TheVariants as puts

-- these bytes, and then the known ones
abbrev pub before_known : List ℕ → Option (List ℕ) → Option (List ℕ)
before_known bytes None = None
before_known bytes (Some more) = Some (bytes ++ more)

-- the known bytes, and then these
abbrev pub after_known : Option (List ℕ) → List ℕ → Option (List ℕ)
after_known None bytes = None
after_known (Some known) bytes = Some (known ++ bytes)

-- a count after one more, which stands still at the end of its type
abbrev pub counted : ℕ → ℕ
counted before = min (before + 1) (2 ^ 64 - 1)

-- the count rose
abbrev pub Rose : ℕ → ℕ → Type 0
Rose before now = counted before ≤ now

-- a read that got bytes took them from the front of what is left, and one that failed took nothing
abbrev pub ReadTakes : Option (List ℕ) → Option (List ℕ) → Read → List ℕ → Type 0
ReadTakes old new (reads.Got n) buffer = (n ≤ length buffer) × (old ≡ before_known (take n buffer) new)
ReadTakes old new reads.Failed buffer = new ≡ old

-- nothing was got, though there was room for it
abbrev pub is_end : Read → ℕ → Bool
is_end (reads.Got n) room = n == 0 && not (room == 0)
is_end reads.Failed room = false

abbrev pub is_failed_read : Read → Bool
is_failed_read (reads.Got n) = false
is_failed_read reads.Failed = true

-- nothing is left, where it is told
abbrev pub IsAtEnd : Option (List ℕ) → Type 0
IsAtEnd None = Unit {0}
IsAtEnd (Some bytes) = bytes ≡ []

-- the count of ends after a read into so much room: an end raises it, and nothing else changes it
abbrev pub ends_after : Read → ℕ → ℕ → ℕ
ends_after read room before = if is_end read room then counted before else before

abbrev pub is_failed_put : Put → Bool
is_failed_put puts.All = false
is_failed_put puts.Failed = true

-- all bytes were added, or a front of them where the write failed
abbrev pub PutAdds : Option (List ℕ) → Option (List ℕ) → Put → List ℕ → Type 0
PutAdds old new puts.All bytes = new ≡ after_known old bytes
PutAdds old new puts.Failed bytes = (front rest : List ℕ) × (bytes ≡ front ++ rest) × (new ≡ after_known old front)
