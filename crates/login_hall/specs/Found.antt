-- What the check of a password finds.
use Rattle.std.specs.Prelude.{◌≡◌, ℕ, Bool, true, List, ◌++◌, Option, Some, None, slice_index, false, if◌then◌else◌}
use Rattle.std.specs.Int.{w64, to_be_bytes}
use Rattle.std.specs.Str.{bytes_eq}
use Rattle.login_base.specs.declared.id.RootKey.{RootKey}
use Rattle.login_base.specs.declared.id.TabKey.{TabKey}
use Rattle.login_base.specs.declared.id.UserId.{UserId}
use Rattle.login_base.specs.declared.draws.Draws.{Draws}
use Rattle.asks.specs.declared.ask.Ask.{Ask}
use Rattle.asks.specs.declared.ask.Ask.TheVariants as asks
use Rattle.asks.specs.declared.ask.Form.{Form}
use Rattle.facts.specs.declared.fact.Fact.{Fact}
use Rattle.asks.specs.declared.finding.Finding.{Finding}
use Rattle.asks.specs.declared.finding.Finding.TheVariants as findings
use Rattle.asks.specs.declared.finding.PasswordUse.{PasswordUse}
use Rattle.asks.specs.declared.finding.PasswordUse.TheVariants as uses
use Rattle.facts.specs.declared.user_password.UserPassword.{UserPassword}
use Rattle.facts.specs.declared.tabs.Opening.{Opening}
use Rattle.facts.specs.declared.tabs.TabState.{TabState}
use Rattle.realm_data.specs.PasswordHash.{is_iterations}
use Rattle.asks.specs.Passwords.{password_use, password_text, emptied}
use Rattle.asks.specs.Solved.{SolvedAsk}
use Rattle.facts.specs.Tabs.{tab_state, tab_is_known, who_of}
use Rattle.mac_kit.specs.Pbkdf2.{pbkdf2_sha256}
use Rattle.hall_answers.specs.Setting.{realm_now}
use Rattle.login_progress.specs.PasswordFor.{password_for}
use Rattle.tab_asks.specs.Forms.{named_by, target_of}
use Rattle.login_hall.specs.declared.task.Task.{Task}
use Rattle.login_hall.specs.declared.task.Task.TheVariants as tasks

-- the salt of an ask: the draws 8 and 9
abbrev pub salt_of : Draws → List ℕ
salt_of draws = to_be_bytes w64 (slice_index draws.0 8) ++ to_be_bytes w64 (slice_index draws.0 9)

-- whose login it is in a tab of a root at a moment, where the root has the tab, which is known
abbrev pub who_among : ℕ → TabState → Option Opening → Option UserId
who_among moment state None = None
who_among moment state (Some opening) = if tab_is_known moment opening then who_of moment state else None

abbrev pub who_in : List Fact → ℕ → Option RootKey → TabKey → Option UserId
who_in chronicle moment None tab = None
who_in chronicle moment (Some root) tab = who_among moment (tab_state root tab chronicle) (tab_state root tab chronicle).opening

-- the account whose password a form checks in a tab
abbrev pub form_target : List Fact → ℕ → Option RootKey → TabKey → Form → Option UserId
form_target chronicle moment root tab form = target_of (named_by chronicle form) (who_in chronicle moment root tab) form

-- the account whose password an ask checks
unfoldable pub checked_user : List Fact → ℕ → Ask → Option UserId
checked_user chronicle moment (asks.Post post) = form_target chronicle moment post.root post.tab post.form
checked_user chronicle moment (asks.Bad at) = None
checked_user chronicle moment (asks.NewTab new) = None
checked_user chronicle moment (asks.Page root tab) = None
checked_user chronicle moment (asks.Verify key) = None
checked_user chronicle moment (asks.Reset key password) = None
checked_user chronicle moment (asks.Logout root) = None
checked_user chronicle moment (asks.Admin access verb) = None

-- the password that the ask has to fit
abbrev pub target_password : List Fact → ℕ → Ask → Option UserPassword
target_password chronicle moment ask = password_for chronicle (checked_user chronicle moment ask)

-- what is to be done with the password of an ask: a new one is hashed so often
unfoldable pub task_for : PasswordUse → Option UserPassword → ℕ → Draws → Option Task
task_for uses.NoPassword target iterations draws = None
task_for uses.Checks target iterations draws = Some (tasks.Check target)
task_for uses.Sets target iterations draws = Some (tasks.Derive (salt_of draws) iterations)

-- a password is hashed as often as it may be
abbrev pub HasRounds : Task → Type 0
HasRounds (tasks.Check target) = Unit {0}
HasRounds (tasks.Derive salt count) = is_iterations count ≡ true

abbrev pub MayHave : Option Task → Type 0
MayHave None = Unit {0}
MayHave (Some task) = HasRounds task

-- A password fits exactly where the key that is derived from it is the kept digest. The new password of an ask is
-- kept as the key that is derived from it.
unfoldable pub finding_of : Task → List ℕ → Finding
finding_of (tasks.Check None) password = findings.Checked 0 false
finding_of (tasks.Check (Some kept)) password = findings.Checked kept.serial (bytes_eq (pbkdf2_sha256 password kept.hash.salt kept.hash.iterations 32) kept.hash.digest)
finding_of (tasks.Derive salt count) password = findings.Derived salt count (pbkdf2_sha256 password salt count 32)

abbrev pub finding_for : Option Task → List ℕ → Finding
finding_for None password = findings.None
finding_for (Some task) password = finding_of task password

-- what is found for an ask over a chronicle whose last used moment this is
unfoldable pub found : List Fact → ℕ → Ask → Draws → Finding
found chronicle moment ask draws =
    finding_for (task_for (password_use ask) (target_password chronicle moment ask) (realm_now chronicle).iterations draws) (password_text ask)

-- the ask with its password gone, and what was found
abbrev pub solved_of : List Fact → ℕ → Ask → Draws → SolvedAsk
solved_of chronicle moment ask draws = record { ask = emptied ask; finding = found chronicle moment ask draws }

-- the ask has a password
abbrev pub has_password : PasswordUse → Bool
has_password uses.NoPassword = false
has_password uses.Checks = true
has_password uses.Sets = true
