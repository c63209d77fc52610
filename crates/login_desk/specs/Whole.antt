-- A source that is read whole.
use Rattle.std.specs.Prelude.{◌≡◌, ℕ, ◌+◌, ◌<◌, ◌≤◌, Bool, true, false, List, ◌++◌, length, Option}
use Rattle.login_base.specs.Outside.{before_known, IsAtEnd}
use Rattle.login_desk.specs.declared.whole.Whole.{Whole}
use Rattle.login_desk.specs.declared.whole.Whole.TheVariants as wholes
use Rattle.login_desk.specs.declared.whole.Part.{Part}
use Rattle.login_desk.specs.declared.whole.Part.TheVariants as parts

-- so many bytes are kept at most
abbrev pub whole_limit : ℕ
whole_limit = 4194304

-- more bytes were taken than are kept
pub record TakesTooMany (before after : Option (List ℕ)) : Type 0 where
  pub bytes : List ℕ
  pub taken : before ≡ before_known bytes after
  pub many : whole_limit < length bytes

-- all bytes were taken and kept, or some were taken
abbrev pub TakesWhole : Option (List ℕ) → Whole → Option (List ℕ) → Type 0
TakesWhole before (wholes.Bytes kept) after = (before ≡ before_known kept.items after) × IsAtEnd after × (length kept.items ≤ whole_limit)
TakesWhole before wholes.TooLong after = TakesTooMany before after
TakesWhole before wholes.Failed after = (bytes : List ℕ) × (before ≡ before_known bytes after)
TakesWhole before wholes.Memory after = Unit {0}

abbrev pub is_whole_end : Whole → Bool
is_whole_end (wholes.Bytes kept) = true
is_whole_end wholes.TooLong = false
is_whole_end wholes.Failed = false
is_whole_end wholes.Memory = false

-- one more part was kept, at least one byte; else nothing more is kept
abbrev pub TakesPart : List ℕ → Option (List ℕ) → Part → List ℕ → Option (List ℕ) → Type 0
TakesPart old before parts.Kept new after = (piece : List ℕ) × (new ≡ old ++ piece) × (before ≡ before_known piece after) × (0 < length piece) × (length new ≤ whole_limit)
TakesPart old before parts.End new after = (new ≡ old) × (before ≡ after) × IsAtEnd after
TakesPart old before parts.TooLong new after = (piece : List ℕ) × (before ≡ before_known piece after) × (whole_limit < length old + length piece)
TakesPart old before parts.Failed new after = before ≡ after
TakesPart old before parts.Memory new after = Unit {0}

abbrev pub is_part_end : Part → Bool
is_part_end parts.Kept = false
is_part_end parts.End = true
is_part_end parts.TooLong = false
is_part_end parts.Failed = false
is_part_end parts.Memory = false
