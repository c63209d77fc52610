-- The words of a reply.
use Rattle.std.specs.Prelude.{ℕ, List, [], ◌∷◌, ◌++◌, Option, Some, None, codes, decimal}
use Rattle.std.specs.List.{flat_map}
use Rattle.login_base.specs.IdText.{id_bytes}
use Rattle.login_base.specs.declared.id.Code.{Code}
use Rattle.login_base.specs.declared.id.RootKey.{RootKey}
use Rattle.login_base.specs.declared.id.TabKey.{TabKey}
use Rattle.realm_data.specs.declared.action.Action.{Action}
use Rattle.realm_data.specs.declared.action.Action.TheVariants as actions
use Rattle.flow_tree.specs.declared.exec.Kind.{Kind}
use Rattle.flow_tree.specs.declared.exec.Kind.TheVariants as kinds
use Rattle.asks.specs.declared.rule.Rule.{Rule}
use Rattle.asks.specs.declared.rule.Rule.TheVariants as rules
use Rattle.asks.specs.declared.reply.Need.{Need}
use Rattle.asks.specs.declared.reply.Next.{Next}
use Rattle.asks.specs.declared.reply.Next.TheVariants as nexts
use Rattle.asks.specs.declared.reply.Reply.{Reply}
use Rattle.asks.specs.declared.reply.What.{What}
use Rattle.asks.specs.declared.reply.What.TheVariants as whats
use Rattle.asks.specs.declared.reply.Who.{Who}

-- ---- names

abbrev pub rule_words : Rule → List ℕ
rule_words rules.WrongKey = codes "WrongKey"
rule_words rules.UserTaken = codes "UserTaken"
rule_words rules.TooManyUsers = codes "TooManyUsers"
rule_words rules.NoSuchUser = codes "NoSuchUser"
rule_words rules.NothingThere = codes "NothingThere"
rule_words rules.AccountDisabled = codes "AccountDisabled"
rule_words rules.TooManyTokens = codes "TooManyTokens"
rule_words rules.NoSuchSession = codes "NoSuchSession"
rule_words rules.RealmRefused = codes "RealmRefused"

abbrev pub kind_words : Kind → List ℕ
kind_words kinds.Allow = codes "allow"
kind_words kinds.Deny = codes "deny"
kind_words kinds.Cookie = codes "cookie"
kind_words kinds.Username = codes "username"
kind_words kinds.Password = codes "password"
kind_words kinds.Form = codes "form"
kind_words kinds.Otp = codes "otp"
kind_words kinds.Recovery = codes "recovery"

unfoldable pub action_words : Action → List ℕ
action_words actions.Terms = codes "terms"
action_words actions.VerifyEmail = codes "verify_email"
action_words actions.UpdatePassword = codes "update_password"
action_words actions.ConfigureOtp = codes "configure_otp"
action_words actions.RecoveryCodes = codes "recovery_codes"

-- ---- pages

-- items one after the other, with commas between them
abbrev pub listed : {A : Type 0} → (A → List ℕ) → List A → List ℕ
listed words [] = []
listed words (x ∷ xs) = words x ++ flat_map (λ y. codes "," ++ words y) xs

-- which recovery code is asked
abbrev pub number_words : Kind → ℕ → List ℕ
number_words kinds.Recovery n = codes "#" ++ decimal n
number_words kind n = []

abbrev pub need_words : Need → List ℕ
need_words need = need.id ++ codes ":" ++ kind_words need.kind ++ number_words need.kind need.number

-- a form: its code, and the executions that it asks
abbrev pub form_words : Code → List Need → List ℕ
form_words code asked = codes "form code=" ++ id_bytes code.0 ++ codes " asked=" ++ listed need_words asked

-- what an action's page shows: an offered secret, or the offered codes
abbrev pub shown_words : Action → List (List ℕ) → List ℕ
shown_words actions.ConfigureOtp shown = codes " secret=" ++ listed (λ text. text) shown
shown_words actions.RecoveryCodes shown = codes " codes=" ++ listed (λ text. text) shown
shown_words action shown = []

-- an action: its code, its kind, and what its page shows
abbrev pub action_page_words : Code → Action → List (List ℕ) → List ℕ
action_page_words code kind shown = codes "action code=" ++ id_bytes code.0 ++ codes " kind=" ++ action_words kind ++ shown_words kind shown

abbrev pub next_words : Next → List ℕ
next_words (nexts.Form code asked) = codes " " ++ form_words code asked
next_words (nexts.Action code kind shown) = codes " " ++ action_page_words code kind shown

-- ---- replies

abbrev pub current_words : Option Code → List ℕ
current_words (Some code) = id_bytes code.0
current_words None = codes "-"

abbrev pub other_user_words : Who → Who → List ℕ
other_user_words tab session = codes "refused 10 OtherUser tab=" ++ tab.name ++ codes " session=" ++ session.name

abbrev pub moved_words : ℕ → ℕ → List ℕ
moved_words had now = codes "refused 15 CredentialMoved had=" ++ decimal had ++ codes " now=" ++ decimal now

abbrev pub spent_words : ℕ → Next → List ℕ
spent_words step next = codes "refused 18 CodeSpent step=" ++ decimal step ++ next_words next

abbrev pub done_words : List ℕ → List ℕ → ℕ → List ℕ
done_words session user level = codes "done session=" ++ session ++ codes " user=" ++ user ++ codes " level=" ++ decimal level

abbrev pub action_done_words : List ℕ → Action → List ℕ
action_done_words user kind = codes "action-done user=" ++ user ++ codes " kind=" ++ action_words kind

-- a refusal's words are its number, its name, and what it carries
abbrev pub what_words : What → List ℕ
what_words (whats.BadForm at) = codes "refused 1 BadForm at=" ++ at
what_words (whats.AdminRefused rule) = codes "refused 2 AdminRefused rule=" ++ rule_words rule
what_words whats.UnknownClient = codes "refused 3 UnknownClient"
what_words whats.LevelUnknown = codes "refused 4 LevelUnknown"
what_words (whats.TooManyRoots count) = codes "refused 5 TooManyRoots count=" ++ decimal count
what_words (whats.TooManyTabs count) = codes "refused 6 TooManyTabs count=" ++ decimal count
what_words whats.UnknownTab = codes "refused 7 UnknownTab"
what_words whats.TabExpired = codes "refused 8 TabExpired"
what_words (whats.Stale current) = codes "refused 9 Stale current=" ++ current_words current
what_words (whats.OtherUser tab session) = other_user_words tab session
what_words whats.Finished = codes "refused 11 Finished"
what_words whats.NotAsked = codes "refused 12 NotAsked"
what_words (whats.Locked until) = codes "refused 13 Locked until=" ++ decimal until
what_words whats.Disabled = codes "refused 14 Disabled"
what_words (whats.CredentialMoved had now) = moved_words had now
what_words (whats.BadCredentials next) = codes "refused 16 BadCredentials" ++ next_words next
what_words (whats.BadCode next) = codes "refused 17 BadCode" ++ next_words next
what_words (whats.CodeSpent step next) = spent_words step next
what_words whats.TokenUnknown = codes "refused 19 TokenUnknown"
what_words whats.TokenSpent = codes "refused 19 TokenSpent"
what_words (whats.TokenExpired expiry) = codes "refused 19 TokenExpired expiry=" ++ decimal expiry
what_words (whats.Denied execution) = codes "refused 20 Denied execution=" ++ execution
what_words (whats.NotConfigured execution) = codes "refused 21 NotConfigured execution=" ++ execution
what_words whats.DeadEnd = codes "refused 22 DeadEnd"
what_words (whats.LevelMissed level) = codes "refused 23 LevelMissed level=" ++ decimal level
what_words (whats.Done session user level) = done_words (id_bytes session.0) user.name level
what_words (whats.Action code kind shown) = action_page_words code kind shown
what_words (whats.Form code asked) = form_words code asked
what_words (whats.ActionDone user kind) = action_done_words user.name kind
what_words whats.LoggedOut = codes "logged-out"
what_words (whats.Told text) = codes "told " ++ text
what_words whats.StoreFault = codes "fault store"
what_words whats.DiceFault = codes "fault dice"
what_words whats.Memory = codes "fault memory"

-- the keys of an open
abbrev pub keys_words : Option RootKey → Option TabKey → List ℕ
keys_words (Some root) (Some tab) = codes "root=" ++ id_bytes root.0 ++ codes " tab=" ++ id_bytes tab.0 ++ codes " "
keys_words (Some root) None = []
keys_words None tab = []

-- the line of a reply, without its newline
abbrev pub words : Reply → List ℕ
words reply = keys_words reply.opened reply.tab ++ what_words reply.what
