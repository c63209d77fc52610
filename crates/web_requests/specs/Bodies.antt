-- How long a body is, and of which kind (RFC 9110, section 8).
use Rattle.std.specs.Prelude.{ℕ, ◌^◌, ◌-◌, Bool, false, not, ◌||◌, nat_lt, List, Option, Some, None, Result, Ok, Err, codes, if◌then◌else◌}
use Rattle.form_urlencoded.specs.Form.{split_once}
use Rattle.decimal_text.specs.Numbers.{number}
use Rattle.web_pages.specs.declared.fault.RouteMethod.{RouteMethod}
use Rattle.web_pages.specs.declared.fault.RouteMethod.TheVariants as methods
use Rattle.web_pages.specs.declared.fault.WebFault.{WebFault}
use Rattle.web_pages.specs.declared.fault.WebFault.TheVariants as faults
use Rattle.web_requests.specs.declared.head.HeaderField.{HeaderField}
use Rattle.web_requests.specs.Fields.{has_field, first_value, all_say}
use Rattle.web_requests.specs.Texts.{same_word, trim_spaces}

-- the first fault stands
infixl 10 ◌>>=◌
abbrev pub ◌>>=◌ : {A B : Type 0} → Result A WebFault → (A → Result B WebFault) → Result B WebFault
(Ok x) >>= f = f x
(Err fault) >>= f = Err fault

-- what is posted has a Content-Length, and no other framing
abbrev pub check_framing : RouteMethod → List HeaderField → Result (Unit {0}) WebFault
check_framing methods.Post fields = if has_field (codes "transfer-encoding") fields || not (has_field (codes "content-length") fields) then Err faults.LengthRequired else Ok tt
check_framing methods.Get fields = Ok tt

-- at most 8,192 bytes
abbrev pub small_length : Option ℕ → Result ℕ WebFault
small_length (Some n) = if nat_lt 8192 n then Err faults.BodyTooLarge else Ok n
small_length None = Err faults.BadRequest

-- a number, and the same in each Content-Length; without one there is no body
abbrev pub length_given : Option (List ℕ) → List HeaderField → Result ℕ WebFault
length_given (Some text) fields = if all_say (codes "content-length") text fields then small_length (number (2 ^ 64 - 1) text) else Err faults.BadRequest
length_given None fields = Ok 0

-- the pairs of a form, whatever its parameters
abbrev pub is_form_type : Option (List ℕ) → Bool
is_form_type (Some value) = same_word (trim_spaces (split_once 59 value).0) (codes "application/x-www-form-urlencoded")
is_form_type None = false

-- what is posted is a form
abbrev pub check_type : RouteMethod → List HeaderField → Result (Unit {0}) WebFault
check_type methods.Post fields = if is_form_type (first_value (codes "content-type") fields) then Ok tt else Err faults.UnsupportedMediaType
check_type methods.Get fields = Ok tt

-- no body is coded
abbrev pub check_coding : List HeaderField → Result (Unit {0}) WebFault
check_coding fields = if has_field (codes "content-encoding") fields then Err faults.UnsupportedMediaType else Ok tt

-- the length of the body
unfoldable pub body_length : RouteMethod → List HeaderField → Result ℕ WebFault
body_length method fields = do
  framing ← check_framing method fields
  n ← length_given (first_value (codes "content-length") fields) fields
  coding ← check_coding fields
  kind ← check_type method fields
  Ok n
