-- What a flow that doesn't hold asks, or why it asks nothing.
use Rattle.std.specs.Prelude.{ℕ, Bool, true, false, not, if◌then◌else◌, List, [], ◌∷◌, Option, Some, None, find, unwrap_or}
use Rattle.std.specs.List.{flat_map}
use Rattle.conditions.specs.declared.account.AccountView.{AccountView}
use Rattle.conditions.specs.declared.secret_kind.SecretKind.TheVariants as secrets
use Rattle.conditions.specs.Setup.{kind_configured}
use Rattle.flow_tree.specs.declared.exec.Exec.{Exec}
use Rattle.flow_tree.specs.declared.exec.Kind.{Kind}
use Rattle.flow_tree.specs.declared.exec.Kind.TheVariants as kinds
use Rattle.flow_tree.specs.Places.{places, kind_among, same_kind}
use Rattle.asks.specs.declared.reply.Need.{Need}
use Rattle.login_progress.specs.declared.progress.Progress.{Progress}
use Rattle.login_progress.specs.declared.progress.Progress.TheVariants.{Denied, NotConfigured, DeadEnd}
use Rattle.login_progress.specs.declared.login.Login.{Login}
use Rattle.login_progress.specs.Account.{holds}

-- ---- what can be answered

-- a name, alone or with a password, by anyone; a secret alone by a user who has it; the rest by nobody
abbrev pub can_answer : Option AccountView → Kind → Bool
can_answer account kinds.Allow = false
can_answer account kinds.Deny = false
can_answer account kinds.Cookie = false
can_answer account kinds.Username = true
can_answer account kinds.Form = true
can_answer account kinds.Password = holds account secrets.Password
can_answer account kinds.Otp = holds account secrets.Otp
can_answer account kinds.Recovery = holds account secrets.Recovery

-- the number that is asked: that of the next recovery code
abbrev pub number_of : Option ℕ → Kind → ℕ
number_of next kinds.Allow = 0
number_of next kinds.Deny = 0
number_of next kinds.Cookie = 0
number_of next kinds.Username = 0
number_of next kinds.Form = 0
number_of next kinds.Password = 0
number_of next kinds.Otp = 0
number_of next kinds.Recovery = unwrap_or next 0

abbrev pub need_of : Option ℕ → List ℕ → Kind → Need
need_of next id kind = record { id = id; kind = kind; number = number_of next kind }

abbrev pub asked_as : Login → List ℕ → Option Kind → List Need
asked_as login id None = []
asked_as login id (Some kind) = if can_answer login.view.account kind then need_of login.next_code id kind ∷ [] else []

-- the needs that can be answered, in their order
unfoldable pub asked_of : List Exec → Login → List (List ℕ) → List Need
asked_of tree login needs = flat_map (λ id. asked_as login id (kind_among id (places tree))) needs

-- ---- why nothing is asked

abbrev pub is_deny : Option Kind → Bool
is_deny None = false
is_deny (Some kind) = same_kind kind kinds.Deny

abbrev pub lacks_setup : AccountView → Option Kind → Bool
lacks_setup account None = false
lacks_setup account (Some kind) = not (kind_configured account kind)

unfoldable pub first_denied : List Exec → List (List ℕ) → Option (List ℕ)
first_denied tree needs = find (λ id. is_deny (kind_among id (places tree))) needs

unfoldable pub first_lacking : List Exec → AccountView → List (List ℕ) → Option (List ℕ)
first_lacking tree account needs = find (λ id. lacks_setup account (kind_among id (places tree))) needs

-- the first need that a known user hasn't set up
abbrev pub first_not_configured : List Exec → Option AccountView → List (List ℕ) → Option (List ℕ)
first_not_configured tree None needs = None
first_not_configured tree (Some account) needs = first_lacking tree account needs

abbrev pub not_configured : Option (List ℕ) → Progress
not_configured None = DeadEnd
not_configured (Some id) = NotConfigured id

abbrev pub denied_or : Option (List ℕ) → Progress → Progress
denied_or (Some id) other = Denied id
denied_or None other = other

-- a deny among the needs denies; else a need that the known user hasn't set up is named
unfoldable pub blocked : List Exec → Option AccountView → List (List ℕ) → Progress
blocked tree account needs = denied_or (first_denied tree needs) (not_configured (first_not_configured tree account needs))
