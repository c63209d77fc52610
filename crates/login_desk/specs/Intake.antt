-- Bytes and lines that are taken from a source.
use Rattle.std.specs.Prelude.{◌≡◌, ℕ, ◌+◌, ◌^◌, ◌<◌, ◌≤◌, Bool, true, false, nat_le, List, [], ◌∷◌, ◌++◌, length, Option, if◌then◌else◌}
use Rattle.login_base.specs.Outside.{before_known, counted, IsAtEnd}
use Rattle.script_lines.specs.Lines.{IsLine, with_newline, line_limit}
use Rattle.login_desk.specs.declared.intake.Byte.{Byte}
use Rattle.login_desk.specs.declared.intake.Byte.TheVariants as bytes
use Rattle.login_desk.specs.declared.intake.Refill.{Refill}
use Rattle.login_desk.specs.declared.intake.Refill.TheVariants as refills
use Rattle.login_desk.specs.declared.intake.Next.{Next}
use Rattle.login_desk.specs.declared.intake.Next.TheVariants as nexts

-- the bytes that were read and not taken yet, and how many were taken
pub record Held : Type 0 where
  pub pending : List ℕ
  pub taken : ℕ

-- what is still to come
abbrev pub rest : Held → Option (List ℕ) → Option (List ℕ)
rest held left = before_known held.pending left

-- ---- what is kept of a line

-- the kept bytes with one more, where they aren't over the limit yet
abbrev pub with_byte : List ℕ → ℕ → List ℕ
with_byte kept b = if nat_le (length kept) line_limit then kept ++ b ∷ [] else kept

-- a front of the line is kept: all of it, where it is within the limit
pub record IsFront (limit : ℕ) (line kept : List ℕ) : Type 0 where
  pub more : List ℕ
  pub begins : line ≡ kept ++ more
  pub whole : length kept ≤ limit → more ≡ []

-- ---- counts

-- a count of ends, with one more where an end was met
abbrev pub ends_with : Bool → ℕ → ℕ
ends_with true before = counted before
ends_with false before = before

-- ---- bytes

abbrev pub is_refill_end : Refill → Bool
is_refill_end refills.Ready = false
is_refill_end refills.End = true
is_refill_end refills.Failed = false

abbrev pub is_byte_end : Byte → Bool
is_byte_end (bytes.Got b) = false
is_byte_end bytes.End = true
is_byte_end bytes.Failed = false
is_byte_end bytes.Full = false

abbrev pub Refills : Held → Option (List ℕ) → Refill → Held → Option (List ℕ) → Type 0
Refills old left refills.Ready new after = (rest new after ≡ rest old left) × (0 < length new.pending)
Refills old left refills.End new after = (rest old left ≡ after) × IsAtEnd after
Refills old left refills.Failed new after = rest old left ≡ after

-- a byte is the next of those to come; else all that was to come is still there
abbrev pub TakesByte : Held → Option (List ℕ) → Byte → Held → Option (List ℕ) → Type 0
TakesByte old left (bytes.Got b) new after = (rest old left ≡ before_known (b ∷ []) (rest new after)) × (new.taken ≡ old.taken + 1)
TakesByte old left bytes.End new after = (rest old left ≡ after) × IsAtEnd after × (old.taken < 2 ^ 32)
TakesByte old left bytes.Failed new after = (rest old left ≡ after) × (old.taken < 2 ^ 32)
TakesByte old left bytes.Full new after = old.taken ≡ 2 ^ 32

-- ---- lines

-- these bytes of a line were taken, and this was kept of them
pub record Taking (old : Held) (left : Option (List ℕ)) (kept : List ℕ) (new : Held) (after : Option (List ℕ)) : Type 0 where
  pub line : List ℕ
  pub plain : IsLine line
  pub front : IsFront line_limit line kept
  pub came : rest old left ≡ before_known line (rest new after)
  pub count : new.taken ≡ old.taken + length line

-- a line and its newline were taken
pub record TakesLine (old : Held) (left : Option (List ℕ)) (kept : List ℕ) (new : Held) (after : Option (List ℕ)) : Type 0 where
  pub line : List ℕ
  pub plain : IsLine line
  pub front : IsFront line_limit line kept
  pub came : rest old left ≡ before_known (with_newline line) (rest new after)
  pub count : new.taken ≡ old.taken + length line + 1

-- a last line was taken, which has no newline, and nothing is left
pub record TakesLast (old : Held) (left : Option (List ℕ)) (kept : List ℕ) (after : Option (List ℕ)) : Type 0 where
  pub line : List ℕ
  pub plain : IsLine line
  pub front : IsFront line_limit line kept
  pub some : 0 < length line
  pub came : rest old left ≡ before_known line after
  pub end : IsAtEnd after
  pub short : old.taken + length line < 2 ^ 32

-- nothing is left
pub record FindsEnd (old : Held) (left after : Option (List ℕ)) : Type 0 where
  pub came : rest old left ≡ after
  pub end : IsAtEnd after
  pub short : old.taken < 2 ^ 32

-- a part of a line was taken when a read failed
pub record MeetsFault (old : Held) (left after : Option (List ℕ)) : Type 0 where
  pub part : List ℕ
  pub plain : IsLine part
  pub came : rest old left ≡ before_known part after
  pub short : old.taken + length part < 2 ^ 32

-- a part of a line was taken when so many bytes were taken as may be
pub record MeetsLimit (old : Held) (left : Option (List ℕ)) : Type 0 where
  pub part : List ℕ
  pub plain : IsLine part
  pub later : Option (List ℕ)
  pub came : rest old left ≡ before_known part later
  pub full : old.taken + length part ≡ 2 ^ 32

abbrev pub TakesNext : Held → Option (List ℕ) → Next → Held → Option (List ℕ) → Type 0
TakesNext old left (nexts.Line kept) new after = TakesLine old left kept.items new after
TakesNext old left (nexts.Last kept) new after = TakesLast old left kept.items after
TakesNext old left nexts.End new after = FindsEnd old left after
TakesNext old left nexts.Failed new after = MeetsFault old left after
TakesNext old left nexts.Full new after = MeetsLimit old left
TakesNext old left nexts.Memory new after = Unit {0}

-- the source came to its end
abbrev pub is_end : Next → Bool
is_end (nexts.Line kept) = false
is_end (nexts.Last kept) = true
is_end nexts.End = true
is_end nexts.Failed = false
is_end nexts.Full = false
is_end nexts.Memory = false

-- what was kept of a line
abbrev pub kept_of : Next → List ℕ
kept_of (nexts.Line kept) = kept.items
kept_of (nexts.Last kept) = kept.items
kept_of nexts.End = []
kept_of nexts.Failed = []
kept_of nexts.Full = []
kept_of nexts.Memory = []
