-- The accepted posts that count, by what they rest on.
use Rattle.std.specs.Prelude.{ℕ, Bool, true, false, not, ◌&&◌, ◌||◌, List, [], ◌∷◌, Option, Some, None}
use Rattle.std.specs.List.{list_any}
use Rattle.login_base.specs.declared.id.TabKey.{TabKey}
use Rattle.login_base.specs.declared.id.UserId.{UserId}
use Rattle.conditions.specs.declared.secret_kind.SecretKind.{SecretKind}
use Rattle.conditions.specs.Secrets.{same_secret}
use Rattle.facts.specs.declared.fact.Fact.{Fact}
use Rattle.facts.specs.Evidence.{is_passed, rests_on, voids}

-- both are no secret, or the same
abbrev pub same_rest : Option SecretKind → Option SecretKind → Bool
same_rest None None = true
same_rest None (Some other) = false
same_rest (Some kind) None = false
same_rest (Some kind) (Some other) = same_secret kind other

-- it is an accepted post of the user for the execution in the tab, and rests on this
abbrev pub is_passed_on : TabKey → UserId → List ℕ → Option SecretKind → Fact → Bool
is_passed_on tab user id kind fact = is_passed tab user id fact && same_rest kind (rests_on fact)

-- such a post was accepted, and no later change of what it rests on, by anything but the tab, voids it
unfoldable pub has_evidence_on : TabKey → UserId → List ℕ → Option SecretKind → List Fact → Bool
has_evidence_on tab user id kind [] = false
has_evidence_on tab user id kind (fact ∷ later) =
    (is_passed_on tab user id kind fact && not (list_any (voids tab user kind) later)) || has_evidence_on tab user id kind later
