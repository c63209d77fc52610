-- The forms of a page (HTML Living Standard, section 4.10).
use Rattle.std.specs.Prelude.{ℕ, List, [], ◌∷◌, ◌++◌, Option, Some, None, codes}
use Rattle.std.specs.List.{flat_map}
use Rattle.login_base.specs.IdText.{id_bytes}
use Rattle.login_base.specs.declared.id.Code.{Code}
use Rattle.login_base.specs.declared.id.TabKey.{TabKey}
use Rattle.flow_tree.specs.declared.exec.Kind.{Kind}
use Rattle.flow_tree.specs.declared.exec.Kind.TheVariants as kinds
use Rattle.realm_data.specs.declared.action.Action.{Action}
use Rattle.realm_data.specs.declared.action.Action.TheVariants as actions
use Rattle.asks.specs.declared.reply.Need.{Need}
use Rattle.asks.specs.declared.reply.Next.{Next}
use Rattle.asks.specs.declared.reply.Next.TheVariants as nexts
use Rattle.asks.specs.declared.reply.What.{What}
use Rattle.asks.specs.declared.reply.What.TheVariants as whats
use Rattle.reply_words.specs.Words.{action_words}
use Rattle.web_pages.specs.declared.field.Field.{Field}
use Rattle.web_pages.specs.declared.field.Field.TheVariants as fields

-- what a browser fills in for an execution
abbrev pub kind_fields : Kind → List Field
kind_fields kinds.Username = fields.Name ∷ []
kind_fields kinds.Password = fields.Password ∷ []
kind_fields kinds.Form = fields.Name ∷ fields.Password ∷ []
kind_fields kinds.Otp = fields.Value ∷ []
kind_fields kinds.Recovery = fields.Value ∷ []
kind_fields kinds.Allow = []
kind_fields kinds.Deny = []
kind_fields kinds.Cookie = []

-- what a browser fills in for an action
abbrev pub action_fields : Action → List Field
action_fields actions.UpdatePassword = fields.Password ∷ []
action_fields actions.ConfigureOtp = fields.Value ∷ []
action_fields actions.Terms = []
action_fields actions.RecoveryCodes = []
action_fields actions.VerifyEmail = []

-- an input that a browser fills in
abbrev pub field_text : Field → List ℕ
field_text fields.Name = codes "<input name=\"name\">"
field_text fields.Password = codes "<input name=\"password\" type=\"password\">"
field_text fields.Value = codes "<input name=\"value\">"

-- an input that is filled in already
unfoldable pub hidden : List ℕ → List ℕ → List ℕ
hidden name value = codes "<input type=\"hidden\" name=\"" ++ name ++ codes "\" value=\"" ++ value ++ codes "\">"

-- the tab and the code to which a form is posted
unfoldable pub form_front : TabKey → Code → List ℕ
form_front tab code = codes "<form method=\"post\" action=\"/post\">" ++ hidden (codes "tab") (id_bytes tab.0) ++ hidden (codes "code") (id_bytes code.0)

-- what is posted: the execution or action of this name, and what is filled in
unfoldable pub form_back : List ℕ → List ℕ → List Field → List ℕ
form_back kind name own = hidden kind name ++ flat_map field_text own ++ codes "<button>" ++ name ++ codes "</button></form>\n"

-- the form of an execution or action
unfoldable pub form_line : TabKey → Code → List ℕ → List ℕ → List Field → List ℕ
form_line tab code kind name own = form_front tab code ++ form_back kind name own

abbrev pub need_form : TabKey → Code → Need → List ℕ
need_form tab code need = form_line tab code (codes "execution") need.id (kind_fields need.kind)

-- a form for each execution that is asked
abbrev pub need_forms : TabKey → Code → List Need → List ℕ
need_forms tab code asked = flat_map (need_form tab code) asked

-- the form of an action; a token alone verifies mail
abbrev pub action_forms : TabKey → Code → Action → List ℕ
action_forms tab code actions.VerifyEmail = []
action_forms tab code action = form_line tab code (codes "action") (action_words action) (action_fields action)

abbrev pub next_forms : TabKey → Next → List ℕ
next_forms tab (nexts.Form code asked) = need_forms tab code asked
next_forms tab (nexts.Action code kind shown) = action_forms tab code kind

-- the forms of a page of the tab; a page that is shown again has its forms again
unfoldable pub what_forms : TabKey → What → List ℕ
what_forms tab (whats.Form code asked) = need_forms tab code asked
what_forms tab (whats.Action code kind shown) = action_forms tab code kind
what_forms tab (whats.BadCredentials next) = next_forms tab next
what_forms tab (whats.BadCode next) = next_forms tab next
what_forms tab (whats.CodeSpent step next) = next_forms tab next
what_forms tab what = []

-- a reply without a tab has none
abbrev pub forms_of : Option TabKey → What → List ℕ
forms_of (Some tab) what = what_forms tab what
forms_of None what = []
