-- Which facts a question is about: a fact of another subject has no answer to it.
use Rattle.std.proofs.Common.{◌≡◌, ℕ, Bool, true, false, ◌&&◌, ◌||◌, ◌==◌, List, [], None, refl}
use Rattle.login_base.specs.IdText.{same_id}
use Rattle.login_base.specs.declared.id.Id.{Id}
use Rattle.login_base.specs.declared.id.TabKey.{TabKey}
use Rattle.login_base.specs.declared.id.TokenKey.{TokenKey}
use Rattle.login_base.specs.declared.id.UserId.{UserId}
use Rattle.conditions.specs.declared.secret_kind.SecretKind.{SecretKind}
use Rattle.conditions.specs.declared.secret_kind.SecretKind.TheVariants as kinds
use Rattle.asks.specs.declared.admin.TokenAction.{TokenAction}
use Rattle.facts.specs.declared.fact.Fact.{Fact}
use Rattle.facts.specs.declared.fact.Fact.TheVariants as events
use Rattle.facts.specs.declared.subject.Subject.{Subject}
use Rattle.facts.specs.declared.subject.Subject.TheVariants as subjects
use Rattle.facts.specs.Accounts.{put_as, name_put, roles_put, disabled_by}
use Rattle.facts.specs.Moments.{used_by}
use Rattle.facts.specs.Realms as realms
use Rattle.facts.specs.Secrets.{password_set, change_of}
use Rattle.facts.specs.Spent.{step_spent, number_after}
use Rattle.facts.specs.Subjects.{subject_of, is_realm, is_account, is_of_user, is_login_in, is_of_secret, is_token, is_of_token, is_other}
use Rattle.facts.specs.Tokens.{token_by}
use Rattle.fact_scans.specs.declared.actions.Pending.{Pending}
use Rattle.fact_scans.specs.declared.evidence.Counting.{Counting}
use Rattle.fact_scans.specs.Carrying.{pending_after, spent_after, tokens_after}
use Rattle.fact_scans.specs.Counting.{counting_after}

-- an id of another serial is another one
other_id : (a b : Id) → (a.serial == b.serial) ≡ false → same_id a b ≡ false
other_id a b h = rw h refl

-- ---- accounts

-- what isn't about an account isn't about the user's
pub of_none : (user : UserId) (subject : Subject) → is_account subject ≡ false → is_of_user user subject ≡ false
of_none user (subjects.User serial) h = absurd cc
of_none user subject h = refl

pub of_name : (name : List ℕ) (fact : Fact) → is_account (subject_of fact) ≡ false → put_as name fact ≡ None
of_name name (events.UserPut user other roles) h = absurd cc
of_name name fact h = refl

pub of_users_name : (user : UserId) (fact : Fact) → is_of_user user (subject_of fact) ≡ false → name_put user fact ≡ None
of_users_name user (events.UserPut of name roles) h = rw h refl
of_users_name user fact h = refl

pub of_roles : (user : UserId) (fact : Fact) → is_of_user user (subject_of fact) ≡ false → roles_put user fact ≡ None
of_roles user (events.UserPut of name roles) h = rw h refl
of_roles user fact h = refl

pub of_disabling : (user : UserId) (fact : Fact) → is_of_user user (subject_of fact) ≡ false → disabled_by user fact ≡ None
of_disabling user (events.Disabled of) h = rw h refl
of_disabling user (events.Enabled of) h = rw h refl
of_disabling user fact h = refl

-- ---- secrets

pub of_password : (user : UserId) (fact : Fact) → is_of_user user (subject_of fact) ≡ false → password_set user fact ≡ None
of_password user (events.SecretSet of kinds.Password serial secret by) h = rw h refl
of_password user fact h = refl

pub of_change : (user : UserId) (kind : SecretKind) (fact : Fact) → is_of_user user (subject_of fact) ≡ false → change_of user kind fact ≡ None
of_change user kind (events.SecretSet of changed serial secret by) h = rw h refl
of_change user kind fact h = refl

pub of_steps : (serial : ℕ) (fact : Fact) → is_of_secret serial (subject_of fact) ≡ false → step_spent serial fact ≡ []
of_steps serial (events.SpentStep credential step) h = rw h refl
of_steps serial fact h = refl

pub of_numbers : (serial last : ℕ) (fact : Fact) → is_of_secret serial (subject_of fact) ≡ false → number_after serial last fact ≡ last
of_numbers serial last (events.SpentRecovery credential number) h = rw h refl
of_numbers serial last fact h = refl

-- ---- actions and tokens

pub of_pending : (user : UserId) (p : Pending) (fact : Fact) → is_of_user user (subject_of fact) ≡ false → pending_after user p fact ≡ p
of_pending user p (events.ActionSet of kind) h = rw h refl
of_pending user p (events.ActionDone of kind) h = rw h refl
of_pending user p fact h = refl

pub of_token : (key : TokenKey) (kind : TokenAction) (fact : Fact) → is_of_token key (subject_of fact) ≡ false → token_by key kind fact ≡ None
of_token key kind (events.TokenMade of user own expiry) h = rw (other_id of.0 key.0 h) refl
of_token key kind fact h = refl

or_false : (x : Bool) → (x || false) ≡ x
or_false true = refl
or_false false = refl

pub of_spending : (key : TokenKey) (spent : Bool) (fact : Fact) → is_of_token key (subject_of fact) ≡ false → spent_after key spent fact ≡ spent
of_spending key spent (events.SpentToken of) h = rw (other_id of.0 key.0 h) (or_false spent)
of_spending key spent fact h = or_false spent

pub of_tokens : (n : ℕ) (fact : Fact) → is_token (subject_of fact) ≡ false → tokens_after n fact ≡ n
of_tokens n (events.TokenMade key user kind expiry) h = absurd cc
of_tokens n fact h = refl

-- ---- realms and marks

pub of_version : (version : ℕ) (fact : Fact) → is_realm (subject_of fact) ≡ false → realms.put_as version fact ≡ None
of_version version (events.RealmPut own realm) h = absurd cc
of_version version fact h = refl

pub of_mark : (fact : Fact) → is_other (subject_of fact) ≡ false → used_by fact ≡ None
of_mark (events.Mark tabs stored used kept) h = absurd cc
of_mark fact h = refl

-- ---- evidence

-- it is about logins of the user in the tab, or about the user's secrets
abbrev pub is_evidence : TabKey → UserId → Subject → Bool
is_evidence tab user subject = is_login_in tab user subject || is_of_user user subject

middle : (x y z : Bool) → y ≡ false → (x && y && z) ≡ false
middle true false z h = refl
middle false false z h = refl
middle x true z h = absurd cc

apart : (a b : Id) (same own : Bool) (rest : Bool) → (a.serial == b.serial) ≡ same → ((same && own) || false) ≡ false → (same_id a b && own && rest) ≡ false
apart a b false own rest e h = rw (other_id a b e) refl
apart a b true false rest e h = middle (same_id a b) false rest refl
apart a b true true rest e h = absurd cc

pub of_evidence : (tab : TabKey) (user : UserId) (id : List ℕ) (c : Counting) (fact : Fact) → is_evidence tab user (subject_of fact) ≡ false → counting_after tab user id c fact ≡ c
of_evidence tab user id c (events.Passed of execution by kind credential moment) h =
    rw (apart of.0 tab.0 (of.0.serial == tab.0.serial) (by.0 == user.0) _ refl h) refl
of_evidence tab user id c (events.SecretSet of kind serial secret by) h = rw h refl
of_evidence tab user id c fact h = refl
