-- Refusals, tried one after the other.
use Rattle.std.specs.Prelude.{List, Option, Result, Ok, Err, codes, unwrap_or}
use Rattle.login_base.specs.declared.id.TabKey.{TabKey}
use Rattle.login_base.specs.declared.id.UserId.{UserId}
use Rattle.facts.specs.declared.fact.Fact.{Fact}
use Rattle.asks.specs.declared.reply.What.{What}
use Rattle.asks.specs.declared.reply.What.TheVariants as whats
use Rattle.asks.specs.declared.reply.Who.{Who}
use Rattle.asks.specs.declared.rule.Rule.TheVariants as rules
use Rattle.facts.specs.Accounts.{name_of}
use Rattle.hall_answers.specs.declared.answer.Answer.{Answer}
use Rattle.hall_answers.specs.declared.refusal.Refusal.{Refusal}
use Rattle.hall_answers.specs.declared.refusal.Refusal.TheVariants as refusals
use Rattle.hall_answers.specs.Answers.{only}

-- the first refusal stands
infixl 10 ◌>>=◌
abbrev pub ◌>>=◌ : {A B : Type 0} → Result A Refusal → (A → Result B Refusal) → Result B Refusal
(Ok x) >>= f = f x
(Err refusal) >>= f = Err refusal

-- a user by name; every user that there is was put with one
abbrev pub who_named : List Fact → UserId → Who
who_named facts user = record { id = user; name = unwrap_or (name_of user facts) (codes "unknown") }

-- what a refusal says
abbrev pub what_of : List Fact → Refusal → What
what_of facts refusals.WrongKey = whats.AdminRefused rules.WrongKey
what_of facts refusals.UserTaken = whats.AdminRefused rules.UserTaken
what_of facts refusals.TooManyUsers = whats.AdminRefused rules.TooManyUsers
what_of facts refusals.NoSuchUser = whats.AdminRefused rules.NoSuchUser
what_of facts refusals.NothingThere = whats.AdminRefused rules.NothingThere
what_of facts refusals.AccountDisabled = whats.AdminRefused rules.AccountDisabled
what_of facts refusals.RealmRefused = whats.AdminRefused rules.RealmRefused
what_of facts refusals.TooManyTokens = whats.AdminRefused rules.TooManyTokens
what_of facts refusals.NoSuchSession = whats.AdminRefused rules.NoSuchSession
what_of facts refusals.UnknownClient = whats.UnknownClient
what_of facts refusals.LevelUnknown = whats.LevelUnknown
what_of facts refusals.TooManyRoots = whats.TooManyRoots 65536
what_of facts (refusals.TooManyTabs count) = whats.TooManyTabs count
what_of facts refusals.UnknownTab = whats.UnknownTab
what_of facts refusals.TabExpired = whats.TabExpired
what_of facts (refusals.Stale current) = whats.Stale current
what_of facts (refusals.OtherUser tab session) = whats.OtherUser (who_named facts tab) (who_named facts session)
what_of facts refusals.Finished = whats.Finished
what_of facts refusals.NotAsked = whats.NotAsked
what_of facts (refusals.Locked until) = whats.Locked until
what_of facts refusals.Disabled = whats.Disabled
what_of facts (refusals.CredentialMoved had now) = whats.CredentialMoved had now
what_of facts refusals.TokenUnknown = whats.TokenUnknown
what_of facts refusals.TokenSpent = whats.TokenSpent
what_of facts (refusals.TokenExpired expiry) = whats.TokenExpired expiry

-- what a refused ask is due, in a tab or in none: the refusal alone
abbrev pub refused : List Fact → Option TabKey → Refusal → Answer
refused facts tab refusal = only tab (what_of facts refusal)

-- the answer where nothing is refused, else the refusal's
abbrev pub settled : {A : Type 0} → List Fact → Option TabKey → (A → Answer) → Result A Refusal → Answer
settled facts tab answer (Ok x) = answer x
settled facts tab answer (Err refusal) = refused facts tab refusal
