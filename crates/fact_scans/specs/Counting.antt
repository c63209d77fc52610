-- How evidence is counted, fact by fact.
use Rattle.std.specs.Prelude.{ℕ, Bool, true, false, not, ◌&&◌, ◌||◌, ◌==◌, if◌then◌else◌, List, Option, Some, None}
use Rattle.std.specs.Str.{bytes_eq}
use Rattle.login_base.specs.IdText.{same_id}
use Rattle.login_base.specs.declared.id.TabKey.{TabKey}
use Rattle.login_base.specs.declared.id.UserId.{UserId}
use Rattle.conditions.specs.declared.secret_kind.SecretKind.{SecretKind}
use Rattle.conditions.specs.declared.secret_kind.SecretKind.TheVariants as secrets
use Rattle.facts.specs.declared.fact.Fact.{Fact}
use Rattle.facts.specs.declared.fact.Fact.TheVariants as events
use Rattle.facts.specs.Evidence.{is_by}
use Rattle.fact_scans.specs.declared.evidence.Counting.{Counting}

abbrev pub nothing : Counting
nothing = record { lasting = false; password = false; otp = false; recovery = false }

abbrev pub some_counts : Counting → Bool
some_counts c = c.lasting || c.password || c.otp || c.recovery

abbrev pub with_kind : Counting → Option SecretKind → Counting
with_kind c None = record c { lasting = true }
with_kind c (Some secrets.Password) = record c { password = true }
with_kind c (Some secrets.Otp) = record c { otp = true }
with_kind c (Some secrets.Recovery) = record c { recovery = true }

abbrev pub without_kind : Counting → SecretKind → Counting
without_kind c secrets.Password = record c { password = false }
without_kind c secrets.Otp = record c { otp = false }
without_kind c secrets.Recovery = record c { recovery = false }

-- of this tab, user and execution
abbrev pub is_own : TabKey → UserId → List ℕ → TabKey → UserId → List ℕ → Bool
is_own tab user id of by execution = same_id of.0 tab.0 && by.0 == user.0 && bytes_eq execution id

-- of this user, by anything but this tab
abbrev pub is_foreign : TabKey → UserId → UserId → Option TabKey → Bool
is_foreign tab user of by = of.0 == user.0 && not (is_by tab by)

abbrev pub counting_after : TabKey → UserId → List ℕ → Counting → Fact → Counting
counting_after tab user id c (events.Passed of execution by kind credential moment) = if is_own tab user id of by execution then with_kind c kind else c
counting_after tab user id c (events.SecretSet of kind serial secret by) = if is_foreign tab user of by then without_kind c kind else c
counting_after tab user id c event = c
