-- What the bytes of a realm source come to.
use Rattle.std.specs.Prelude.{◌≡◌, ℕ, nat_lt, List, [], ◌∷◌, ◌++◌, length, Option, Some, None, Result, Ok, Err, codes, if◌then◌else◌}
use Rattle.realm_data.specs.declared.realm_parts.RealmParts.{RealmParts}
use Rattle.realm_fields.specs.declared.fault.RealmFault.{RealmFault}
use Rattle.realm_fields.specs.declared.fault.RealmFault.TheVariants.{OutOfRange}
use Rattle.realm_file.specs.FaultWords.{fault_words}
use Rattle.realm_file.specs.RealmFile.{realm_read}
use Rattle.login_desk.specs.declared.realm_given.Given.{Given}
use Rattle.login_desk.specs.declared.realm_given.Given.TheVariants as givens
use Rattle.login_desk.specs.Whole.{whole_limit}

-- the realm of bytes; more than a realm may have are none
abbrev pub realm_within : List ℕ → Result RealmParts RealmFault
realm_within bytes = if nat_lt whole_limit (length bytes) then Err (OutOfRange []) else realm_read bytes

abbrev pub or_fault : Result RealmParts RealmFault → Result (Option RealmParts) RealmFault
or_fault (Ok realm) = Ok (Some realm)
or_fault (Err fault) = Err fault

-- the realm that is given, if any: without bytes there is none
unfoldable pub realm_given : List ℕ → Result (Option RealmParts) RealmFault
realm_given [] = Ok None
realm_given (b ∷ bytes) = or_fault (realm_within (b ∷ bytes))

-- ---- the line on it

abbrev pub refusal_line : RealmFault → List ℕ
refusal_line refusal = codes "error 3 realm " ++ fault_words refusal ++ 10 ∷ []

-- ---- what the bytes come to

-- unless memory ran out, they come to what is due
abbrev pub Comes : Given → Result (Option RealmParts) RealmFault → Type 0
Comes (givens.Realm given) due = due ≡ Ok given
Comes (givens.Refused refusal) due = due ≡ Err refusal
Comes givens.Memory due = Unit {0}
