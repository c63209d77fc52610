-- The questions that an ask puts to the facts: what it is due, and what the check of its password finds, depends on
-- the answers to these alone.
use Rattle.std.specs.Prelude.{◌≡◌, ℕ, List, Option}
use Rattle.conditions.specs.declared.secret_kind.SecretKind.{SecretKind}
use Rattle.login_base.specs.declared.id.RootKey.{RootKey}
use Rattle.login_base.specs.declared.id.SessionId.{SessionId}
use Rattle.login_base.specs.declared.id.TabKey.{TabKey}
use Rattle.login_base.specs.declared.id.TokenKey.{TokenKey}
use Rattle.login_base.specs.declared.id.UserId.{UserId}
use Rattle.realm_data.specs.declared.action.Action.{Action}
use Rattle.asks.specs.declared.admin.TokenAction.{TokenAction}
use Rattle.facts.specs.declared.fact.Fact.{Fact}
use Rattle.facts.specs.Accounts.{account_named, name_of, roles_of, is_disabled}
use Rattle.facts.specs.Actions.{is_pending}
use Rattle.facts.specs.Levels.{levels_of}
use Rattle.facts.specs.Realms.{current_realm, last_version, realm_of}
use Rattle.facts.specs.Roots.{tabs_known, tabs_known_in, session_of}
use Rattle.facts.specs.Secrets.{password_of, otp_of, recovery_of}
use Rattle.facts.specs.Serials.{last_tab_serial, last_stored_serial}
use Rattle.facts.specs.Sessions.{is_standing, standing_sessions}
use Rattle.facts.specs.Spent.{spent_steps, codes_spent}
use Rattle.facts.specs.Tabs.{tab_state}
use Rattle.facts.specs.Tokens.{token_made, is_token_spent, tokens_made}
use Rattle.account_states.specs.Standings.{failures_of}
use Rattle.hall_questions.specs.Evidence.{has_evidence_on}

-- Two lists of facts answer each question alike. How many accounts and which roots are known follows: by the names of
-- users, and by the tabs and the sessions of roots.
pub record AnswerAlike (one other : List Fact) : Type 0 where
  -- the realm in force, its version, and the realm of each version
  pub realm : current_realm one ≡ current_realm other
  pub version : last_version one ≡ last_version other
  pub realm_of : (version : ℕ) → realm_of version one ≡ realm_of version other
  -- how far the counters of serials have come
  pub tab_serial : last_tab_serial one ≡ last_tab_serial other
  pub stored_serial : last_stored_serial one ≡ last_stored_serial other
  -- who has a name; the name of a user, the roles, whether an administrator disabled it, what its failures have come
  -- to, and which actions are pending
  pub named : (name : List ℕ) → account_named name one ≡ account_named name other
  pub name : (user : UserId) → name_of user one ≡ name_of user other
  pub roles : (user : UserId) → roles_of user one ≡ roles_of user other
  pub disabled : (user : UserId) → is_disabled user one ≡ is_disabled user other
  pub failures : (user : UserId) → failures_of user one ≡ failures_of user other
  pub pending : (user : UserId) (action : Action) → is_pending user one action ≡ is_pending user other action
  -- the secrets of a user, and what was spent of one
  pub password : (user : UserId) → password_of user one ≡ password_of user other
  pub otp : (user : UserId) → otp_of user one ≡ otp_of user other
  pub recovery : (user : UserId) → recovery_of user one ≡ recovery_of user other
  pub steps : (serial : ℕ) → spent_steps serial one ≡ spent_steps serial other
  pub codes : (serial : ℕ) → codes_spent serial one ≡ codes_spent serial other
  -- what is known of a tab; how many tabs are known, of a root and of all
  pub tab : (root : RootKey) (tab : TabKey) → tab_state root tab one ≡ tab_state root tab other
  pub tabs_in : (moment : ℕ) (root : RootKey) → tabs_known_in moment root one ≡ tabs_known_in moment root other
  pub tabs : (moment : ℕ) → tabs_known moment one ≡ tabs_known moment other
  -- which accepted posts count, by what they rest on
  pub evidence : (tab : TabKey) (user : UserId) (id : List ℕ) (kind : Option SecretKind)
      → has_evidence_on tab user id kind one ≡ has_evidence_on tab user id kind other
  -- the session of a root, the levels of a session, whether it stands, and all that stand
  pub session : (root : RootKey) → session_of root one ≡ session_of root other
  pub levels : (session : SessionId) → levels_of session one ≡ levels_of session other
  pub standing : (session : SessionId) → is_standing session one ≡ is_standing session other
  pub sessions : standing_sessions one ≡ standing_sessions other
  -- the token of a key, whether it was followed, and how many were made
  pub token : (key : TokenKey) (kind : TokenAction) → token_made key kind one ≡ token_made key kind other
  pub spent : (key : TokenKey) → is_token_spent key one ≡ is_token_spent key other
  pub tokens : tokens_made one ≡ tokens_made other
