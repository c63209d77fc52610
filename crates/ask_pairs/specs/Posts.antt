-- What the pairs of a post ask.
use Rattle.std.specs.Prelude.{ℕ, Bool, true, false, List, Option, Some, None, ok_or, Result, Ok, Err, codes, if◌then◌else◌}
use Rattle.login_base.specs.declared.id.RootKey.{RootKey}
use Rattle.realm_data.specs.declared.action.Action.{Action}
use Rattle.realm_data.specs.declared.action.Action.TheVariants as actions
use Rattle.asks.specs.declared.ask.Ask.{Ask}
use Rattle.asks.specs.declared.ask.Ask.TheVariants as asks
use Rattle.asks.specs.declared.ask.Form.{Form}
use Rattle.asks.specs.declared.ask.Form.TheVariants as forms
use Rattle.realm_fields.specs.Words.{action_of}
use Rattle.ask_pairs.specs.declared.pairs.Pair.{Pair}
use Rattle.ask_pairs.specs.declared.place.Place.{Place}
use Rattle.ask_pairs.specs.declared.place.Place.TheVariants as places
use Rattle.ask_pairs.specs.declared.form_kind.FormKind.{FormKind}
use Rattle.ask_pairs.specs.declared.form_kind.FormKind.TheVariants as kinds
use Rattle.ask_pairs.specs.declared.post_target.PostTarget.{PostTarget}
use Rattle.ask_pairs.specs.Credentials.{exact_name, user_name, password_text, code_value}
use Rattle.ask_pairs.specs.Keys.{id_given}
use Rattle.ask_pairs.specs.Pairs.{has, value_of}
use Rattle.ask_pairs.specs.Places.{◌>>=◌}

-- the form of an execution: a name, a password, both, or a value
abbrev pub execution_form : Bool → Bool → Bool → Result FormKind Place
execution_form true false false = Ok kinds.Username
execution_form false true false = Ok kinds.Password
execution_form true true false = Ok kinds.NamePassword
execution_form false false true = Ok kinds.Value
execution_form name password value = Err places.Form

-- the action's form has just these pairs: a new password, a value, or none of the two
abbrev pub action_kind : Action → Bool → Bool → Result FormKind Place
action_kind actions.Terms false false = Ok kinds.Terms
action_kind actions.VerifyEmail false false = Ok kinds.VerifyEmail
action_kind actions.UpdatePassword true false = Ok kinds.UpdatePassword
action_kind actions.ConfigureOtp false true = Ok kinds.ConfigureOtp
action_kind actions.RecoveryCodes false false = Ok kinds.RecoveryCodes
action_kind action password value = Err places.Form

abbrev pub named_action : Option Action → Bool → Bool → Result FormKind Place
named_action (Some action) password value = action_kind action password value
named_action None password value = Err places.Form

-- the form of the action that one pair names; a doubled pair is malformed itself
abbrev pub single_action : Option (List ℕ) → Bool → Bool → Result FormKind Place
single_action (Some word) password value = named_action (action_of word) password value
single_action None password value = Err places.Action

-- no action's form has both a password and a value
abbrev pub action_form : Option (List ℕ) → Bool → Bool → Result FormKind Place
action_form word true true = Err places.Form
action_form word true false = single_action word true false
action_form word false value = single_action word false value

-- the form of an execution or of an action, by which of its pairs are there, doubled or not
abbrev pub form_shape : Bool → Bool → Bool → Bool → Bool → Option (List ℕ) → Result FormKind Place
form_shape true false name password value word = execution_form name password value
form_shape false true false password value word = action_form word password value
form_shape execution action name password value word = Err places.Form

abbrev pub form_kind : List Pair → Result FormKind Place
form_kind pairs = form_shape (has (codes "execution") pairs) (has (codes "action") pairs) (has (codes "name") pairs) (has (codes "password") pairs) (has (codes "value") pairs) (value_of (codes "action") pairs)

-- what a post is posted to, and as which form
unfoldable pub post_target : Result (Option RootKey) Place → List Pair → Result PostTarget Place
post_target root pairs = do
  root ← root
  tab ← id_given places.Tab pairs
  code ← id_given places.Code pairs
  form ← form_kind pairs
  Ok (record { root = root; tab = record { 0 = tab }; code = record { 0 = code }; form = form })

-- the form of this kind, whose texts are none where they aren't well-formed
unfoldable pub form_with : FormKind → Option (List ℕ) → Option (List ℕ) → Option (List ℕ) → Option (List ℕ) → Result Form Place
form_with kinds.Username execution name password value = do
  execution ← ok_or execution places.Execution
  name ← ok_or name places.Name
  Ok (forms.Username execution name)
form_with kinds.Password execution name password value = do
  execution ← ok_or execution places.Execution
  password ← ok_or password places.Password
  Ok (forms.Password execution password)
form_with kinds.NamePassword execution name password value = do
  execution ← ok_or execution places.Execution
  name ← ok_or name places.Name
  password ← ok_or password places.Password
  Ok (forms.NamePassword execution name password)
form_with kinds.Value execution name password value = do
  execution ← ok_or execution places.Execution
  value ← ok_or value places.Value
  Ok (forms.Value execution value)
form_with kinds.Terms execution name password value = Ok forms.Terms
form_with kinds.UpdatePassword execution name password value = do
  password ← ok_or password places.Password
  Ok (forms.UpdatePassword password)
form_with kinds.ConfigureOtp execution name password value = do
  value ← ok_or value places.Value
  Ok (forms.ConfigureOtp value)
form_with kinds.RecoveryCodes execution name password value = Ok forms.RecoveryCodes
form_with kinds.VerifyEmail execution name password value = Ok forms.VerifyEmail

-- the form of this kind in the pairs
abbrev pub form_of : FormKind → List Pair → Result Form Place
form_of kind pairs = form_with kind (exact_name (value_of (codes "execution") pairs)) (user_name (value_of (codes "name") pairs)) (password_text (value_of (codes "password") pairs)) (code_value (value_of (codes "value") pairs))

-- the post of a form
abbrev pub post : Result (Option RootKey) Place → List Pair → Result Ask Place
post root pairs = do
  to ← post_target root pairs
  form ← form_of to.form pairs
  Ok (asks.Post (record { root = to.root; tab = to.tab; code = to.code; form = form }))
