-- Where the head of a request is (RFC 9112, section 2).
use Rattle.std.specs.Prelude.{ℕ, ◌≤◌, ⊤, ◌-◌, ◌==◌, ◌&&◌, ◌||◌, Bool, true, false, nat_le, nat_eq, List, [], ◌∷◌, length, take, drop, Option, Some, None, if◌then◌else◌}
use Rattle.std.specs.List.{starts_with, count_by}
use Rattle.web_requests.specs.declared.front.HeadPlace.{HeadPlace}
use Rattle.web_requests.specs.declared.front.HeadPlace.TheVariants as places

-- an empty line begins here: LF, or CR LF
abbrev pub begins_blank : List ℕ → Bool
begins_blank bytes = starts_with nat_eq bytes (10 ∷ []) || starts_with nat_eq bytes (13 ∷ 10 ∷ [])

-- the bytes from the first line that isn't empty
unfoldable pub skip_blank : List ℕ → List ℕ
skip_blank [] = []
skip_blank (b ∷ bytes) = if begins_blank (b ∷ bytes) then skip_blank bytes else b ∷ bytes

-- the bytes behind an empty line
abbrev pub behind_blank : List ℕ → List ℕ
behind_blank [] = []
behind_blank (b ∷ bytes) = if b == 10 then bytes else drop 1 bytes

-- the bytes behind the first empty line that follows a line, where there is one
unfoldable pub behind_head : List ℕ → Option (List ℕ)
behind_head [] = None
behind_head (b ∷ bytes) = if b == 10 && begins_blank bytes then Some (behind_blank bytes) else behind_head bytes

-- the places of the head in the first bytes, from a count of bytes left at its first line and behind it
abbrev pub place_from : ℕ → ℕ → Option (List ℕ) → Bool → HeadPlace
place_from size left (Some rest) full = places.Whole (size - left) (size - length rest)
place_from size left None true = places.TooLarge
place_from size left None false = places.Unfinished

-- the head begins at the first line that isn't empty, and ends with the first empty line behind it, in the first limit bytes
unfoldable pub head_place : ℕ → List ℕ → HeadPlace
head_place limit bytes =
    let window = take limit bytes in
    let lines = skip_blank window in
    place_from (length window) (length lines) (behind_head lines) (nat_le limit (length bytes))

-- the lines of a head but for its first one and the empty one
abbrev pub field_lines : List ℕ → ℕ
field_lines head = count_by (λ b. b == 10) head - 2

-- the head lies in the first bytes
abbrev pub IsWithin : ℕ → HeadPlace → Type 0
IsWithin size (places.Whole start end) = (start ≤ end) × (end ≤ size)
IsWithin size places.TooLarge = ⊤
IsWithin size places.Unfinished = ⊤
