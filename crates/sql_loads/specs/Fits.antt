-- What each column of an answer holds, so that its row can be read.
use Rattle.std.specs.Prelude.{◌≡◌, ◌<◌, ℕ, ℤ, List, length}
use Rattle.std.specs.Str.{IsUtf8}
use Rattle.sqlite.specs.declared.types.Value.{Value}
use Rattle.sqlite.specs.declared.types.Value.TheVariants.{Int, Text, Blob}
use Rattle.sqlite.specs.Order.{Row, column}

abbrev pub HoldsNumber : Value → Type 0
HoldsNumber v = (n : ℤ) × (v ≡ Int n)

abbrev pub HoldsBytes : Value → Type 0
HoldsBytes v = (bytes : List ℕ) × (v ≡ Blob bytes)

-- in any encoding
abbrev pub HoldsAnyText : Value → Type 0
HoldsAnyText v = (text : List ℕ) × (v ≡ Text text)

abbrev pub HoldsText : Value → Type 0
HoldsText v = (text : List ℕ) × (v ≡ Text text) × IsUtf8 text

-- whether a realm's text is one is asked when it is read
pub record RealmFits (shown : Row) : Type 0 where
  pub width : 1 < length shown
  pub version : HoldsNumber (column shown 0)
  pub text : HoldsAnyText (column shown 1)

pub record AccountFits (shown : Row) : Type 0 where
  pub width : 8 < length shown
  pub id : HoldsNumber (column shown 0)
  pub name : HoldsText (column shown 1)
  pub roles : HoldsText (column shown 2)
  pub enabled : HoldsNumber (column shown 3)
  pub count : HoldsNumber (column shown 4)
  pub last : HoldsNumber (column shown 5)
  pub until : HoldsNumber (column shown 6)
  pub permanent : HoldsNumber (column shown 7)
  pub actions : HoldsText (column shown 8)

pub record SecretFits (shown : Row) : Type 0 where
  pub width : 4 < length shown
  pub serial : HoldsNumber (column shown 0)
  pub user : HoldsNumber (column shown 1)
  pub kind : HoldsText (column shown 2)
  pub body : HoldsBytes (column shown 3)
  pub spent : HoldsText (column shown 4)

pub record SessionFits (shown : Row) : Type 0 where
  pub width : 6 < length shown
  pub id : HoldsText (column shown 0)
  pub user : HoldsNumber (column shown 1)
  pub opened : HoldsNumber (column shown 2)
  pub seen : HoldsNumber (column shown 3)
  pub idle : HoldsNumber (column shown 4)
  pub max : HoldsNumber (column shown 5)
  pub levels : HoldsText (column shown 6)

pub record TokenFits (shown : Row) : Type 0 where
  pub width : 4 < length shown
  pub key : HoldsText (column shown 0)
  pub user : HoldsNumber (column shown 1)
  pub kind : HoldsText (column shown 2)
  pub expiry : HoldsNumber (column shown 3)
  pub spent : HoldsNumber (column shown 4)

pub record MarkFits (shown : Row) : Type 0 where
  pub width : 3 < length shown
  pub one : HoldsNumber (column shown 0)
  pub schema : HoldsNumber (column shown 1)
  pub serial : HoldsNumber (column shown 2)
  pub moment : HoldsNumber (column shown 3)
