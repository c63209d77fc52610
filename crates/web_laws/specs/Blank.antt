-- The page of a reply in which no value stands: its fixed texts alone.
use Rattle.std.specs.Prelude.{ℕ, List, [], ◌++◌, Option, Some, codes}
use Rattle.std.specs.List.{flat_map}
use Rattle.login_base.specs.declared.id.RootKey.{RootKey}
use Rattle.login_base.specs.declared.id.TabKey.{TabKey}
use Rattle.realm_data.specs.declared.action.Action.{Action}
use Rattle.realm_data.specs.declared.action.Action.TheVariants as actions
use Rattle.asks.specs.declared.reply.Need.{Need}
use Rattle.asks.specs.declared.reply.Next.{Next}
use Rattle.asks.specs.declared.reply.Next.TheVariants as nexts
use Rattle.asks.specs.declared.reply.Reply.{Reply}
use Rattle.asks.specs.declared.reply.What.{What}
use Rattle.asks.specs.declared.reply.What.TheVariants as whats
use Rattle.web_pages.specs.declared.field.Field.{Field}
use Rattle.web_pages.specs.Forms.{hidden, form_back, kind_fields, action_fields}
use Rattle.web_pages.specs.Heads.{response}
use Rattle.web_pages.specs.Pages.{document}
use Rattle.web_pages.specs.Statuses.{what_status}

-- a form that is posted to no tab, for nothing
abbrev pub blank_form : List ℕ → List Field → List ℕ
blank_form kind own = codes "<form method=\"post\" action=\"/post\">" ++ hidden (codes "tab") [] ++ hidden (codes "code") [] ++ form_back kind [] own

abbrev pub blank_needs : List Need → List ℕ
blank_needs asked = flat_map (λ need. blank_form (codes "execution") (kind_fields need.kind)) asked

abbrev pub blank_action : Action → List ℕ
blank_action actions.VerifyEmail = []
blank_action action = blank_form (codes "action") (action_fields action)

abbrev pub blank_next : Next → List ℕ
blank_next (nexts.Form code asked) = blank_needs asked
blank_next (nexts.Action code kind shown) = blank_action kind

abbrev pub blank_forms : Option TabKey → What → List ℕ
blank_forms (Some tab) (whats.Form code asked) = blank_needs asked
blank_forms (Some tab) (whats.Action code kind shown) = blank_action kind
blank_forms (Some tab) (whats.BadCredentials next) = blank_next next
blank_forms (Some tab) (whats.BadCode next) = blank_next next
blank_forms (Some tab) (whats.CodeSpent step next) = blank_next next
blank_forms tab what = []

abbrev pub blank_cookie : Option RootKey → Option TabKey → List ℕ
blank_cookie (Some root) (Some tab) = codes "Set-Cookie: root=; Path=/; HttpOnly; SameSite=Lax\r\n"
blank_cookie root tab = []

-- the status of the reply, a form for each thing that it asks, and no words
abbrev pub blank_page : Reply → List ℕ
blank_page reply = response (what_status reply.what) (blank_cookie reply.opened reply.tab) (document [] (blank_forms reply.tab reply.what))
