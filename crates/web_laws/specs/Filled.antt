-- A form that a page shows, as a browser posts it.
use Rattle.std.specs.Prelude.{ℕ, List, [], ◌∷◌, map, Option, Some, None, codes}
use Rattle.form_urlencoded.specs.Form.{extend_pairs}
use Rattle.login_base.specs.IdText.{id_bytes}
use Rattle.login_base.specs.declared.id.Code.{Code}
use Rattle.login_base.specs.declared.id.TabKey.{TabKey}
use Rattle.flow_tree.specs.declared.exec.Kind.{Kind}
use Rattle.flow_tree.specs.declared.exec.Kind.TheVariants as kinds
use Rattle.realm_data.specs.declared.action.Action.{Action}
use Rattle.realm_data.specs.declared.action.Action.TheVariants as actions
use Rattle.asks.specs.declared.ask.Form.{Form}
use Rattle.asks.specs.declared.ask.Form.TheVariants as forms
use Rattle.web_pages.specs.declared.field.Field.{Field}
use Rattle.web_pages.specs.declared.field.Field.TheVariants as fields

-- what a browser fills in: a name, a password, and a value
pub record Typed : Type 0 where
  pub name : List ℕ
  pub password : List ℕ
  pub value : List ℕ

abbrev pub typed_as : List ℕ → List ℕ → List ℕ → Typed
typed_as name password value = record { name = name; password = password; value = value }

-- an input with what is filled in
abbrev pub field_pair : Typed → Field → List ℕ × List ℕ
field_pair typed fields.Name = (codes "name", typed.name)
field_pair typed fields.Password = (codes "password", typed.password)
field_pair typed fields.Value = (codes "value", typed.value)

-- the inputs of a form, those that are hidden first
abbrev pub form_pairs : TabKey → Code → List ℕ → List ℕ → List Field → Typed → List (List ℕ × List ℕ)
form_pairs tab code kind name own typed = (codes "tab", id_bytes tab.0) ∷ (codes "code", id_bytes code.0) ∷ (kind, name) ∷ map (field_pair typed) own

-- the body of the post (URL Standard, section 5.2)
abbrev pub posted : TabKey → Code → List ℕ → List ℕ → List Field → Typed → List ℕ
posted tab code kind name own typed = extend_pairs [] (form_pairs tab code kind name own typed)

-- the form that an execution of this kind stands for; the others are never asked
abbrev pub execution_form : Kind → List ℕ → Typed → Option Form
execution_form kinds.Username id typed = Some (forms.Username id typed.name)
execution_form kinds.Password id typed = Some (forms.Password id typed.password)
execution_form kinds.Form id typed = Some (forms.NamePassword id typed.name typed.password)
execution_form kinds.Otp id typed = Some (forms.Value id typed.value)
execution_form kinds.Recovery id typed = Some (forms.Value id typed.value)
execution_form kind id typed = None

-- the form that an action stands for
abbrev pub action_form : Action → Typed → Form
action_form actions.Terms typed = forms.Terms
action_form actions.VerifyEmail typed = forms.VerifyEmail
action_form actions.UpdatePassword typed = forms.UpdatePassword typed.password
action_form actions.ConfigureOtp typed = forms.ConfigureOtp typed.value
action_form actions.RecoveryCodes typed = forms.RecoveryCodes
