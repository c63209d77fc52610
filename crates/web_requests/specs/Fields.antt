-- The fields of a head (RFC 9110, section 5).
use Rattle.std.specs.Prelude.{ℕ, Bool, not, ◌||◌, List, Option, option_map}
use Rattle.std.specs.List.{list_any, list_all, find}
use Rattle.std.specs.Str.{bytes_eq}
use Rattle.web_requests.specs.declared.head.HeaderField.{HeaderField}
use Rattle.web_requests.specs.Texts.{same_word}

-- the field has this name, in any case
abbrev pub is_field : List ℕ → HeaderField → Bool
is_field name field = same_word field.name name

-- some field has this name
abbrev pub has_field : List ℕ → List HeaderField → Bool
has_field name fields = list_any (is_field name) fields

-- the value of the first field of this name
abbrev pub first_value : List ℕ → List HeaderField → Option (List ℕ)
first_value name fields = option_map (λ field. field.value) (find (is_field name) fields)

-- a field of this name has this value
abbrev pub says : List ℕ → List ℕ → HeaderField → Bool
says name value field = not (is_field name field) || bytes_eq field.value value

-- each field of this name has this value
abbrev pub all_say : List ℕ → List ℕ → List HeaderField → Bool
all_say name value fields = list_all (says name value) fields
