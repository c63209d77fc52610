-- What a printed value is read as.
use Rattle.std.specs.Prelude.{◌≡◌, ℕ, ◌≤◌, Bool, true, List, length, Option, unwrap_or, IfSome, Ok}
use Rattle.toml.specs.Data.{Data, Members, depth, members_depth, has_valid_dates, members_have_valid_dates}
use Rattle.realm_data.specs.Realm.{is_within}
use Rattle.realm_fields.specs.Reading.{Reader, flag_in, or_absent, listed, few_in}

-- wherever the data stand, they are read as this
abbrev pub IsReadAs : {A : Type 0} → Reader A → Data → A → Type 0
IsReadAs read d x = (path : List ℕ) → read path d ≡ Ok x

-- what stands at a key, if anything, is read as this
abbrev pub IsFoundAs : {A : Type 0} → Reader A → Option Data → Option A → Type 0
IsFoundAs read d x = (path : List ℕ) → or_absent read path d ≡ Ok x

-- what stands at a key, if anything, is read as these
abbrev pub AreListedAs : {A : Type 0} → Reader (List A) → Option Data → List A → Type 0
AreListedAs read d xs = (path : List ℕ) → listed (or_absent read path d) ≡ Ok xs

-- a flag that has a usual value where nothing stands is read as this
abbrev pub IsFlag : Bool → Option Data → Bool → Type 0
IsFlag usual d flag = (o : Option Bool) × IsFoundAs flag_in d o × (unwrap_or o usual ≡ flag)

-- where there are so many as an array may have, it is read as these
abbrev pub AreFewAs : {A : Type 0} → Reader A → Data → List A → Type 0
AreFewAs read d xs = (least most : ℕ) → is_within least most (length xs) ≡ true → IsReadAs (few_in least most read) d xs

-- the data nest no deeper than this, and have no date that no text can write
pub record IsPlain (most : ℕ) (d : Data) : Type 0 where
  pub deep : depth d ≤ most
  pub dates : has_valid_dates d ≡ true

abbrev pub IfPlain : ℕ → Option Data → Type 0
IfPlain most d = IfSome d (IsPlain most)

pub record ArePlain (most : ℕ) (ms : Members) : Type 0 where
  pub deep : members_depth ms ≤ most
  pub dates : members_have_valid_dates ms ≡ true
