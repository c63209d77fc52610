-- An administrator's ask is due the same over lists of facts that answer alike.
use Rattle.std.proofs.Common.{◌≡◌, ℕ, Bool, None, List, refl, ap}
use Rattle.std.specs.Prelude.{Option, Result, Ok, Err, if◌then◌else◌}
use Rattle.login_base.specs.declared.draws.Draws.{Draws}
use Rattle.login_base.specs.declared.id.SessionId.{SessionId}
use Rattle.login_base.specs.declared.id.UserId.{UserId}
use Rattle.realm_data.specs.declared.action.Action.{Action}
use Rattle.realm_data.specs.declared.realm_parts.RealmParts.{RealmParts}
use Rattle.asks.specs.declared.admin.AdminVerb.{AdminVerb}
use Rattle.asks.specs.declared.admin.AdminVerb.TheVariants as verbs
use Rattle.asks.specs.declared.admin.NewUser.{NewUser}
use Rattle.asks.specs.declared.admin.TokenAction.{TokenAction}
use Rattle.asks.specs.declared.ask.Access.{Access}
use Rattle.asks.specs.declared.finding.Finding.{Finding}
use Rattle.facts.specs.declared.fact.Fact.{Fact}
use Rattle.hall_answers.specs.declared.refusal.Refusal.{Refusal}
use Rattle.hall_answers.specs.declared.refusal.Refusal.TheVariants.{AccountDisabled}
use Rattle.hall_answers.specs.Setting.{Setting, setting_at, realm_now}
use Rattle.admin_asks.specs.Admin.{check_key, due_verb, verb_with, due_admin}
use Rattle.admin_asks.specs.Closing.{answer_to_enable, due_enable, answer_to_disable, due_disable, if_open, check_open, due_unlock}
use Rattle.admin_asks.specs.Ending.{check_session, answer_to_revoke, due_revoke, due_sweep}
use Rattle.admin_asks.specs.Named.{user_from, check_user}
use Rattle.admin_asks.specs.OtpRemove.{if_there, check_there, answer_to_otp_remove, due_otp_remove}
use Rattle.admin_asks.specs.OtpSet.{answer_to_otp_set, due_otp_set}
use Rattle.admin_asks.specs.RealmPut.{check_realm, answer_to_realm, due_realm_put}
use Rattle.admin_asks.specs.Require.{answer_to_require, due_require}
use Rattle.admin_asks.specs.Roles.{answer_to_roles, if_made, check_made, due_roles}
use Rattle.admin_asks.specs.SetPassword.{answer_to_set_password, due_set_password}
use Rattle.admin_asks.specs.Token.{if_room, check_holder, answer_to_token, due_token}
use Rattle.admin_asks.specs.UserAdd.{check_name_free, check_room, check_new_user, answer_to_new_user, due_user_add}
use Rattle.hall_questions.specs.Questions.{AnswerAlike}
use Rattle.hall_questions.proofs.Shared.{next_alike, realm_alike, settled_alike, closed_alike, has_room_alike}

module _ (one other : List Fact) (alike : AnswerAlike one other) where
  -- ---- accounts that are named

  check_user_alike : (name : List ℕ) → check_user one name ≡ check_user other name
  unfolding check_user
  check_user_alike name = ap user_from (alike.named name)

  if_open_alike : (user : UserId) → if_open one user ≡ if_open other user
  if_open_alike user =
      ap (λ (closed : Bool). let open_one : Result UserId Refusal = if closed then Err AccountDisabled else Ok user in open_one) (closed_alike one other alike user)

  check_open_alike : (name : List ℕ) → check_open one name ≡ check_open other name
  unfolding check_open
  check_open_alike name = next_alike (check_user one name) (check_user other name) (if_open one) (if_open other) (check_user_alike name) if_open_alike

  if_there_alike : (user : UserId) → if_there one user ≡ if_there other user
  if_there_alike user = rw (alike.otp user) refl

  check_there_alike : (name : List ℕ) → check_there one name ≡ check_there other name
  unfolding check_there
  check_there_alike name = next_alike (check_user one name) (check_user other name) (if_there one) (if_there other) (check_user_alike name) if_there_alike

  if_made_alike : (user : UserId) → if_made one user ≡ if_made other user
  if_made_alike user = rw alike.stored_serial refl

  check_made_alike : (name : List ℕ) → check_made one name ≡ check_made other name
  unfolding check_made
  check_made_alike name = next_alike (check_user one name) (check_user other name) (if_made one) (if_made other) (check_user_alike name) if_made_alike

  if_room_alike : (user : UserId) → if_room one user ≡ if_room other user
  if_room_alike user = rw alike.tokens refl

  check_holder_alike : (name : List ℕ) → check_holder one name ≡ check_holder other name
  unfolding check_holder
  check_holder_alike name = next_alike (check_user one name) (check_user other name) (if_room one) (if_room other) (check_user_alike name) if_room_alike

  -- ---- a new account

  check_name_free_alike : (name : List ℕ) → check_name_free one name ≡ check_name_free other name
  unfolding check_name_free
  check_name_free_alike name = rw (alike.named name) refl

  check_room_alike : check_room one ≡ check_room other
  unfolding check_room
  check_room_alike = rw (has_room_alike one other alike) refl

  check_new_user_alike : (new : NewUser) → check_new_user one new ≡ check_new_user other new
  unfolding check_new_user
  check_new_user_alike new = rw (check_name_free_alike new.name, check_room_alike, alike.stored_serial) refl

  -- ---- sessions

  check_session_alike : (session : SessionId) → check_session one session ≡ check_session other session
  unfolding check_session
  check_session_alike session = rw (alike.standing session) refl

  -- ---- the verbs

  module _ (moment : ℕ) (draws : Draws) where
    -- an ask at one moment, with the same draws, over each list
    abbrev here : Setting
    here = setting_at one moment draws

    abbrev there : Setting
    there = setting_at other moment draws

    realm_put_alike : (realm : Option RealmParts) → due_realm_put here realm ≡ due_realm_put there realm
    unfolding due_realm_put
    realm_put_alike realm =
        settled_alike one other alike None (answer_to_realm one) (answer_to_realm other) (check_realm realm) (check_realm realm)
        (λ (put : RealmParts). rw alike.version refl) refl

    user_add_alike : (new : NewUser) (finding : Finding) → due_user_add here new finding ≡ due_user_add there new finding
    unfolding due_user_add
    user_add_alike new finding =
        settled_alike one other alike None (answer_to_new_user new finding) (answer_to_new_user new finding) (check_new_user one new) (check_new_user other new)
        (λ (user : UserId). refl) (check_new_user_alike new)

    roles_alike : (name : List ℕ) (roles : List (List ℕ)) → due_roles here name roles ≡ due_roles there name roles
    unfolding due_roles
    roles_alike name roles =
        settled_alike one other alike None (answer_to_roles name roles) (answer_to_roles name roles) (check_made one name) (check_made other name)
        (λ (user : UserId). refl) (check_made_alike name)

    set_password_alike : (name : List ℕ) (finding : Finding) → due_set_password here name finding ≡ due_set_password there name finding
    unfolding due_set_password
    set_password_alike name finding =
        settled_alike one other alike None (answer_to_set_password one name finding) (answer_to_set_password other name finding)
        (check_user one name) (check_user other name) (λ (user : UserId). rw alike.stored_serial refl) (check_user_alike name)

    otp_set_alike : (name key : List ℕ) → due_otp_set here name key ≡ due_otp_set there name key
    unfolding due_otp_set
    otp_set_alike name key =
        settled_alike one other alike None (answer_to_otp_set one name key) (answer_to_otp_set other name key)
        (check_user one name) (check_user other name) (λ (user : UserId). rw alike.stored_serial refl) (check_user_alike name)

    otp_remove_alike : (name : List ℕ) → due_otp_remove here name ≡ due_otp_remove there name
    unfolding due_otp_remove
    otp_remove_alike name =
        settled_alike one other alike None (answer_to_otp_remove name) (answer_to_otp_remove name) (check_there one name) (check_there other name)
        (λ (user : UserId). refl) (check_there_alike name)

    require_alike : (name : List ℕ) (kind : Action) → due_require here name kind ≡ due_require there name kind
    unfolding due_require
    require_alike name kind =
        settled_alike one other alike None (answer_to_require name kind) (answer_to_require name kind) (check_user one name) (check_user other name)
        (λ (user : UserId). refl) (check_user_alike name)

    enable_alike : (name : List ℕ) → due_enable here name ≡ due_enable there name
    unfolding due_enable
    enable_alike name =
        settled_alike one other alike None (answer_to_enable name) (answer_to_enable name) (check_user one name) (check_user other name)
        (λ (user : UserId). refl) (check_user_alike name)

    disable_alike : (name : List ℕ) → due_disable here name ≡ due_disable there name
    unfolding due_disable
    disable_alike name =
        settled_alike one other alike None (answer_to_disable name) (answer_to_disable name) (check_user one name) (check_user other name)
        (λ (user : UserId). refl) (check_user_alike name)

    unlock_alike : (name : List ℕ) → due_unlock here name ≡ due_unlock there name
    unfolding due_unlock
    unlock_alike name =
        settled_alike one other alike None (answer_to_enable name) (answer_to_enable name) (check_open one name) (check_open other name)
        (λ (user : UserId). refl) (check_open_alike name)

    token_alike : (name : List ℕ) (kind : TokenAction) (life : ℕ) → due_token here name kind life ≡ due_token there name kind life
    unfolding due_token
    token_alike name kind life =
        settled_alike one other alike None (answer_to_token here kind life) (answer_to_token there kind life) (check_holder one name) (check_holder other name)
        (λ (user : UserId). rw alike.stored_serial refl) (check_holder_alike name)

    revoke_alike : (session : SessionId) → due_revoke here session ≡ due_revoke there session
    unfolding due_revoke
    revoke_alike session =
        settled_alike one other alike None (answer_to_revoke session) (answer_to_revoke session) (check_session one session) (check_session other session)
        (λ (stands : Unit {0}). refl) (check_session_alike session)

    sweep_alike : due_sweep here ≡ due_sweep there
    unfolding due_sweep
    sweep_alike = rw alike.sessions refl

    due_verb_alike : (verb : AdminVerb) (finding : Finding) → due_verb here verb finding ≡ due_verb there verb finding
    due_verb_alike (verbs.RealmPut realm) finding = realm_put_alike realm
    due_verb_alike (verbs.UserAdd new) finding = user_add_alike new finding
    due_verb_alike (verbs.Roles name roles) finding = roles_alike name roles
    due_verb_alike (verbs.SetPassword name password) finding = set_password_alike name finding
    due_verb_alike (verbs.OtpSet name secret) finding = otp_set_alike name secret
    due_verb_alike (verbs.OtpRemove name) finding = otp_remove_alike name
    due_verb_alike (verbs.Require name action) finding = require_alike name action
    due_verb_alike (verbs.Enable name) finding = enable_alike name
    due_verb_alike (verbs.Disable name) finding = disable_alike name
    due_verb_alike (verbs.Unlock name) finding = unlock_alike name
    due_verb_alike (verbs.Token name action life) finding = token_alike name action life
    due_verb_alike (verbs.Revoke session) finding = revoke_alike session
    due_verb_alike verbs.Sweep finding = sweep_alike

    pub admin_alike : (access : Access) (verb : AdminVerb) (finding : Finding) → due_admin here access verb finding ≡ due_admin there access verb finding
    unfolding due_admin
    admin_alike access verb finding =
        settled_alike one other alike None (verb_with here verb finding) (verb_with there verb finding)
        (check_key (realm_now one) access) (check_key (realm_now other) access)
        (λ (key : Unit {0}). due_verb_alike verb finding) (ap (λ (realm : RealmParts). check_key realm access) (realm_alike one other alike))
