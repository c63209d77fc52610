-- What the pairs of an administrator's verb ask.
use Rattle.std.specs.Prelude.{ℕ, Bool, true, false, List, [], Option, Some, None, ok_or, Result, Ok, Err, codes, if◌then◌else◌}
use Rattle.std.specs.Result.{result_ok}
use Rattle.std.specs.Str.{bytes_eq}
use Rattle.realm_data.specs.declared.action.Action.{Action}
use Rattle.realm_data.specs.declared.realm_parts.RealmParts.{RealmParts}
use Rattle.realm_file.specs.RealmFile.{realm_read}
use Rattle.asks.specs.declared.admin.AdminVerb.{AdminVerb}
use Rattle.asks.specs.declared.admin.AdminVerb.TheVariants as verbs
use Rattle.asks.specs.declared.admin.NewUser.{NewUser}
use Rattle.asks.specs.declared.admin.TokenAction.{TokenAction}
use Rattle.asks.specs.declared.ask.Access.{Access}
use Rattle.asks.specs.declared.ask.Access.TheVariants as accesses
use Rattle.asks.specs.declared.ask.Ask.{Ask}
use Rattle.asks.specs.declared.ask.Ask.TheVariants as asks
use Rattle.ask_pairs.specs.declared.accounts.AccountVerb.{AccountVerb}
use Rattle.ask_pairs.specs.declared.accounts.AccountVerb.TheVariants as accounts
use Rattle.ask_pairs.specs.declared.admin_word.AdminWord.{AdminWord}
use Rattle.ask_pairs.specs.declared.admin_word.AdminWord.TheVariants as words
use Rattle.ask_pairs.specs.declared.pairs.Pair.{Pair}
use Rattle.ask_pairs.specs.declared.place.Place.{Place}
use Rattle.ask_pairs.specs.declared.place.Place.TheVariants as places
use Rattle.ask_pairs.specs.Access.{access_of}
use Rattle.ask_pairs.specs.Credentials.{has_replacement, user_name, password_text}
use Rattle.ask_pairs.specs.Keys.{id_given}
use Rattle.ask_pairs.specs.Pairs.{value_of}
use Rattle.ask_pairs.specs.Places.{◌>>=◌, ask_or_bad, optional, items_or_none}
use Rattle.ask_pairs.specs.Words.{roles_from, actions_from, action_from, token_action_from, secret_from, life_from}

-- ---- the verbs

-- the name of a user in the pairs
abbrev pub named : List Pair → Option (List ℕ)
named pairs = user_name (value_of (codes "name") pairs)

-- an account, whose name alone has to be there
unfoldable pub new_user : Option (List ℕ) → Result (Option (List ℕ)) Place → Result (Option (List ℕ)) Place → Result (List (List ℕ)) Place → Result (List Action) Place → Result AdminVerb Place
new_user name password otp roles actions = do
  name ← ok_or name places.Name
  password ← password
  otp ← otp
  roles ← roles
  actions ← actions
  Ok (verbs.UserAdd (record { name = name; password = password; otp = otp; roles = roles; actions = actions }))

abbrev pub user_add : List Pair → Result AdminVerb Place
user_add pairs = new_user (named pairs)
    (optional places.Password pairs (password_text (value_of (codes "password") pairs)))
    (optional places.Otp pairs (secret_from (value_of (codes "otp") pairs)))
    (items_or_none (optional places.Roles pairs (roles_from (value_of (codes "roles") pairs))))
    (items_or_none (optional places.Actions pairs (actions_from (value_of (codes "actions") pairs))))

unfoldable pub with_roles : Option (List ℕ) → Option (List (List ℕ)) → Result AdminVerb Place
with_roles name roles = do
  name ← ok_or name places.Name
  roles ← ok_or roles places.Roles
  Ok (verbs.Roles name roles)

unfoldable pub with_password : Option (List ℕ) → Option (List ℕ) → Result AdminVerb Place
with_password name password = do
  name ← ok_or name places.Name
  password ← ok_or password places.Password
  Ok (verbs.SetPassword name password)

unfoldable pub with_secret : Option (List ℕ) → Option (List ℕ) → Result AdminVerb Place
with_secret name secret = do
  name ← ok_or name places.Name
  secret ← ok_or secret places.Secret
  Ok (verbs.OtpSet name secret)

unfoldable pub with_action : Option (List ℕ) → Option Action → Result AdminVerb Place
with_action name action = do
  name ← ok_or name places.Name
  action ← ok_or action places.Action
  Ok (verbs.Require name action)

unfoldable pub with_token : Option (List ℕ) → Option TokenAction → Option ℕ → Result AdminVerb Place
with_token name action life = do
  name ← ok_or name places.Name
  action ← ok_or action places.Action
  life ← ok_or life places.Life
  Ok (verbs.Token name action life)

-- what is asked of the account of this name
abbrev pub of_account : AccountVerb → List ℕ → AdminVerb
of_account accounts.OtpRemove name = verbs.OtpRemove name
of_account accounts.Enable name = verbs.Enable name
of_account accounts.Disable name = verbs.Disable name
of_account accounts.Unlock name = verbs.Unlock name

-- a verb of a user's name alone
abbrev pub account_verb : AccountVerb → Option (List ℕ) → Result AdminVerb Place
account_verb verb name = ok_or name places.Name >>= λ name. Ok (of_account verb name)

abbrev pub revoke : List Pair → Result AdminVerb Place
revoke pairs = id_given places.Session pairs >>= λ id. Ok (verbs.Revoke (record { 0 = id }))

-- the realm that a text describes, or none where it is no realm
abbrev pub realm_in : List ℕ → Option RealmParts
realm_in text = result_ok (realm_read text)

-- a text of UTF-8 is given; one that is no realm is well-formed
abbrev pub realm_put : Option (List ℕ) → Result AdminVerb Place
realm_put (Some text) = if has_replacement text then Err places.Text else Ok (verbs.RealmPut (realm_in text))
realm_put None = Err places.Text

-- ---- the ask

-- the verb of a word
unfoldable pub admin_word : List ℕ → Option AdminWord
admin_word word =
    if bytes_eq word (codes "user-add") then Some words.UserAdd
    else if bytes_eq word (codes "roles") then Some words.Roles
    else if bytes_eq word (codes "set-password") then Some words.SetPassword
    else if bytes_eq word (codes "otp-set") then Some words.OtpSet
    else if bytes_eq word (codes "otp-remove") then Some words.OtpRemove
    else if bytes_eq word (codes "require") then Some words.Require
    else if bytes_eq word (codes "enable") then Some words.Enable
    else if bytes_eq word (codes "disable") then Some words.Disable
    else if bytes_eq word (codes "unlock") then Some words.Unlock
    else if bytes_eq word (codes "token") then Some words.Token
    else if bytes_eq word (codes "revoke") then Some words.Revoke
    else if bytes_eq word (codes "sweep") then Some words.Sweep
    else if bytes_eq word (codes "realm-put") then Some words.RealmPut
    else None

-- what a verb asks of the pairs
unfoldable pub admin_read : AdminWord → List Pair → Result AdminVerb Place
admin_read words.UserAdd pairs = user_add pairs
admin_read words.Roles pairs = with_roles (named pairs) (roles_from (value_of (codes "roles") pairs))
admin_read words.SetPassword pairs = with_password (named pairs) (password_text (value_of (codes "password") pairs))
admin_read words.OtpSet pairs = with_secret (named pairs) (secret_from (value_of (codes "secret") pairs))
admin_read words.OtpRemove pairs = account_verb accounts.OtpRemove (named pairs)
admin_read words.Require pairs = with_action (named pairs) (action_from (value_of (codes "action") pairs))
admin_read words.Enable pairs = account_verb accounts.Enable (named pairs)
admin_read words.Disable pairs = account_verb accounts.Disable (named pairs)
admin_read words.Unlock pairs = account_verb accounts.Unlock (named pairs)
admin_read words.Token pairs = with_token (named pairs) (token_action_from (value_of (codes "action") pairs)) (life_from (value_of (codes "life") pairs))
admin_read words.Revoke pairs = revoke pairs
admin_read words.Sweep pairs = Ok verbs.Sweep
admin_read words.RealmPut pairs = realm_put (value_of (codes "text") pairs)

-- a realm is put by a script or the command line alone
abbrev pub with_key : AdminWord → Result AdminWord Place
with_key words.RealmPut = Err places.Verb
with_key word = Ok word

abbrev pub open_to : Bool → AdminWord → Result AdminWord Place
open_to true word = Ok word
open_to false word = with_key word

abbrev pub word_given : Bool → List ℕ → Result AdminWord Place
word_given local verb = ok_or (admin_word verb) places.Verb >>= λ word. open_to local word

abbrev pub is_local : Access → Bool
is_local accesses.Local = true
is_local (accesses.Key digest) = false

-- the ask of a verb that is known, by an access
abbrev pub with_access : AdminWord → Access → List Pair → Result Ask Place
with_access word access pairs = admin_read word pairs >>= λ verb. Ok (asks.Admin access verb)

-- the ask by this access, or the first place that is malformed: the verb, then its pairs
abbrev pub admin_of : List ℕ → List Pair → Access → Ask
admin_of verb pairs access = ask_or_bad (do
  word ← word_given (is_local access) verb
  with_access word access pairs)

-- the ask by the access in the pairs: the verb, then the key, then the pairs of the verb
abbrev pub admin_ask : Bool → List ℕ → List Pair → Ask
admin_ask local verb pairs = ask_or_bad (do
  word ← word_given local verb
  access ← access_of local pairs
  with_access word access pairs)
