-- The accepted posts that count.
use Rattle.std.specs.Prelude.{ℕ, Bool, false, not, ◌&&◌, ◌||◌, ◌==◌, List, [], ◌∷◌, Option, Some, None}
use Rattle.std.specs.List.{list_any}
use Rattle.std.specs.Str.{bytes_eq}
use Rattle.login_base.specs.IdText.{same_id}
use Rattle.login_base.specs.declared.id.TabKey.{TabKey}
use Rattle.login_base.specs.declared.id.UserId.{UserId}
use Rattle.conditions.specs.declared.secret_kind.SecretKind.{SecretKind}
use Rattle.conditions.specs.Secrets.{same_secret}
use Rattle.facts.specs.declared.fact.Fact.{Fact}
use Rattle.facts.specs.declared.fact.Fact.TheVariants as events

-- the change was made by this tab
abbrev pub is_by : TabKey → Option TabKey → Bool
is_by tab None = false
is_by tab (Some by) = same_id by.0 tab.0

-- it is an accepted post of this user for the execution in the tab
abbrev pub is_passed : TabKey → UserId → List ℕ → Fact → Bool
is_passed tab user id (events.Passed of execution by kind credential moment) = same_id of.0 tab.0 && by.0 == user.0 && bytes_eq execution id
is_passed tab user id event = false

-- the secret on which an accepted post rests, if on any
abbrev pub rests_on : Fact → Option SecretKind
rests_on (events.Passed of execution by kind credential moment) = kind
rests_on event = None

abbrev pub is_secret : Option SecretKind → SecretKind → Bool
is_secret None changed = false
is_secret (Some kind) changed = same_secret kind changed

-- it changes the user's secret of this kind, by anything but this tab
abbrev pub voids : TabKey → UserId → Option SecretKind → Fact → Bool
voids tab user kind (events.SecretSet of changed serial secret by) = is_secret kind changed && of.0 == user.0 && not (is_by tab by)
voids tab user kind event = false

-- a post of the user for the execution was accepted in the tab, and no later change of the secret on which it rests,
-- by anything but the tab, voids it
unfoldable pub has_evidence : TabKey → UserId → List ℕ → List Fact → Bool
has_evidence tab user id [] = false
has_evidence tab user id (fact ∷ later) =
    (is_passed tab user id fact && not (list_any (voids tab user (rests_on fact)) later)) || has_evidence tab user id later
