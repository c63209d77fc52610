-- The text of an id.
use Rattle.std.specs.Prelude.{ℕ, Bool, ◌==◌, zero, suc, ◌+◌, ◌-◌, ◌*◌, ◌/◌, ◌%◌, ◌^◌, ◌<◌, ◌&&◌, nat_lt, nat_le, List, [], ◌∷◌, ◌++◌, Option, Some, None, if◌then◌else◌, nat_eq, length, slice_index, take, drop}
use Rattle.login_base.specs.declared.id.Id.{Id}

-- `0` to `9`, then `a` to `f`
abbrev pub hex_digit : ℕ → ℕ
hex_digit d = if nat_lt d 10 then 48 + d else 87 + d

-- k digits, the highest first
unfoldable pub hex_text : ℕ → ℕ → List ℕ
hex_text zero n = []
hex_text (suc k) n = hex_digit (n / 2 ^ (4 * k) % 16) ∷ hex_text k n

abbrev pub digit_value : ℕ → Option ℕ
digit_value b =
    if nat_le 48 b && nat_le b 57 then Some (b - 48)
    else if nat_le 97 b && nat_le b 102 then Some (b - 97 + 10)
    else None

abbrev pub then_digit : (ℕ → Option ℕ) → ℕ → Option ℕ → Option ℕ
then_digit more n None = None
then_digit more n (Some d) = more (n * 16 + d)

-- the number that the digits go on from
unfoldable pub hex_value_from : ℕ → List ℕ → Option ℕ
hex_value_from n [] = Some n
hex_value_from n (b ∷ bs) = then_digit (λ m. hex_value_from m bs) n (digit_value b)

unfoldable pub id_bytes : Id → List ℕ
id_bytes i = hex_text 16 i.serial ++ 46 ∷ (hex_text 16 i.high ++ hex_text 16 i.low)

infixl 10 ◌>>=◌
abbrev pub ◌>>=◌ : {A B : Type 0} → Option A → (A → Option B) → Option B
None >>= f = None
(Some x) >>= f = f x

-- the id that is spelled so
unfoldable pub id_of : List ℕ → Option Id
id_of text =
    if nat_eq (length text) 49 && nat_eq (slice_index text 16) 46 then (do
      serial ← hex_value_from 0 (take 16 text)
      high ← hex_value_from 0 (take 16 (drop 17 text))
      low ← hex_value_from 0 (take 16 (drop 33 text))
      Some (record { serial = serial; high = high; low = low }))
    else None

-- both ids have the same serial and draws
abbrev pub same_id : Id → Id → Bool
same_id a b = a.serial == b.serial && a.high == b.high && a.low == b.low

-- what a program's id is
pub record IsId (i : Id) : Type 0 where
  pub serial : i.serial < 2 ^ 64
  pub high : i.high < 2 ^ 64
  pub low : i.low < 2 ^ 64
