-- How far the asks of administrators lift the counters.
use Rattle.std.proofs.Common.{◌≡◌, ℕ, ◌+◌, ◌≤◌, Bool, true, false, nat_le, List, [], ◌∷◌, ◌++◌, map, Option, Some, None, refl, ap, sym, subst, arith}
use Rattle.std.specs.Prelude.{Result, Ok, Err, fold, if◌then◌else◌}
use Rattle.std.proofs.lemmas.Bool.{leb-true}
use Rattle.login_base.specs.declared.id.SessionId.{SessionId}
use Rattle.login_base.specs.declared.id.UserId.{UserId}
use Rattle.asks.specs.declared.admin.AdminVerb.{AdminVerb}
use Rattle.asks.specs.declared.admin.AdminVerb.TheVariants as verbs
use Rattle.asks.specs.declared.admin.NewUser.{NewUser}
use Rattle.asks.specs.declared.admin.TokenAction.{TokenAction}
use Rattle.asks.specs.declared.ask.Access.{Access}
use Rattle.facts.specs.declared.fact.Fact.{Fact}
use Rattle.asks.specs.declared.finding.Finding.{Finding}
use Rattle.asks.specs.declared.finding.Finding.TheVariants as findings
use Rattle.facts.specs.Serials.{last_tab_serial, last_stored_serial, tab_serial_after, stored_serial_after}
use Rattle.hall_answers.specs.declared.refusal.Refusal.{Refusal}
use Rattle.hall_answers.specs.declared.refusal.Refusal.TheVariants.{NoSuchUser}
use Rattle.hall_answers.specs.Passwords.{derived}
use Rattle.hall_answers.specs.Refusals.{◌>>=◌, settled}
use Rattle.hall_answers.specs.Setting.{Setting}
use Rattle.hall_answers.proofs.Lifts.{Lifts, lifts, nothing, both, Raising, raising}
use Rattle.facts.specs.declared.fact.Fact.TheVariants.{RealmPut, UserPut, SessionEnd}
use Rattle.facts.specs.Realms.{last_version, version_after}
use Rattle.facts.proofs.InForce.{last_version_more}
use Rattle.facts.proofs.SerialLemmas.{last_tab_serial_more, last_stored_serial_more}
use Rattle.realm_data.specs.declared.realm_parts.RealmParts.{RealmParts}
use Rattle.realm_data.specs.PasswordHash.{HashedPassword}
use Rattle.realm_data.specs.declared.action.Action.{Action}
use Rattle.admin_asks.specs.Account.{secret_facts, action_facts}
use Rattle.admin_asks.specs.OtpRemove.{check_there, answer_to_otp_remove, due_otp_remove}
use Rattle.admin_asks.specs.OtpSet.{answer_to_otp_set, due_otp_set}
use Rattle.admin_asks.specs.RealmPut.{check_realm, answer_to_realm, due_realm_put}
use Rattle.admin_asks.specs.Admin.{check_key, due_verb, verb_with, due_admin}
use Rattle.admin_asks.specs.Closing.{answer_to_enable, answer_to_disable, due_enable, due_disable, check_open, due_unlock}
use Rattle.admin_asks.specs.Ending.{check_session, answer_to_revoke, due_revoke, outlived_ids, answer_to_sweep, due_sweep}
use Rattle.admin_asks.specs.Named.{check_user}
use Rattle.admin_asks.specs.Require.{answer_to_require, due_require}
use Rattle.admin_asks.specs.Roles.{answer_to_roles, if_made, check_made, due_roles}
use Rattle.admin_asks.specs.SetPassword.{answer_to_set_password, due_set_password}
use Rattle.admin_asks.specs.Token.{check_holder, answer_to_token, due_token}
use Rattle.admin_asks.specs.UserAdd.{check_name_free, check_room, check_new_user, given_by, answer_to_new_user, due_user_add}

-- a user whose serial is the next one, with a password and a secret of one-time codes
given_lift : (old : List Fact) (user : UserId) (name : List ℕ) (roles : List (List ℕ)) (password : Option HashedPassword) (otp : Option (List ℕ)) → user.0 ≡ last_stored_serial old + 1
    → Lifts 3 old (UserPut user name roles ∷ secret_facts user user.0 (record { password = password; otp = otp; recovery = None }))
given_lift old user name roles None None next = lifts 3 old _ (omega arith) (omega arith) refl
given_lift old user name roles None (Some key) next = lifts 3 old _ (omega arith) (omega arith) refl
given_lift old user name roles (Some hash) None next = lifts 3 old _ (omega arith) (omega arith) refl
given_lift old user name roles (Some hash) (Some key) next = lifts 3 old _ (omega arith) (omega arith) refl

-- actions take no serial
tabs_require : (n : ℕ) (user : UserId) (actions : List Action) → fold tab_serial_after n (action_facts user actions) ≡ n
tabs_require n user [] = refl
tabs_require n user (action ∷ actions) = tabs_require n user actions

stored_require : (n : ℕ) (user : UserId) (actions : List Action) → fold stored_serial_after n (action_facts user actions) ≡ n
stored_require n user [] = refl
stored_require n user (action ∷ actions) = stored_require n user actions

version_requires : (n : ℕ) (user : UserId) (actions : List Action) → fold version_after n (action_facts user actions) ≡ n
version_requires n user [] = refl
version_requires n user (action ∷ actions) = version_requires n user actions

actions_lift : (old : List Fact) (user : UserId) (actions : List Action) → Lifts 0 old (action_facts user actions)
actions_lift old user actions =
    let t = tabs_require (last_tab_serial old) user actions in
    let s = stored_require (last_stored_serial old) user actions in
    lifts 0 old _ (omega (arith, t)) (omega (arith, s)) (version_requires (last_version old) user actions)

user_lifts : (old : List Fact) (new : NewUser) (finding : Finding) (user : UserId) → user.0 ≡ last_stored_serial old + 1 → Lifts 3 old (answer_to_new_user new finding user).added
user_lifts old new finding user next =
    let given = UserPut user new.name new.roles ∷ secret_facts user user.0 (given_by new finding) in
    both 3 0 old given (action_facts user new.actions) (given_lift old user new.name new.roles (derived finding) new.otp next) (actions_lift (old ++ given) user new.actions)

-- where nothing refuses, the user is the next one
next_user : (free room : Result (Unit {0}) Refusal) (serial : ℕ) (user : UserId)
    → ◌≡◌ {A = Result UserId Refusal} (free >>= (λ x. room >>= (λ y. Ok (record { 0 = serial })))) (Ok user)
    → user.0 ≡ serial
next_user (Ok x) (Ok y) serial user h = let e : ◌≡◌ {A = UserId} (record { 0 = serial }) user = cc in ap (λ (u : UserId). u.0) (sym e)
next_user (Ok x) (Err refusal) serial user h = absurd cc
next_user (Err refusal) room serial user h = absurd cc

new_user_lifts : (setting : Setting) (new : NewUser) (finding : Finding) (user : Result UserId Refusal) → check_new_user setting.facts new ≡ user
    → Lifts 3 setting.facts (settled setting.facts None (answer_to_new_user new finding) user).added
unfolding check_new_user
new_user_lifts setting new finding (Ok user) h =
    user_lifts setting.facts new finding user (next_user (check_name_free setting.facts new.name) (check_room setting.facts) (last_stored_serial setting.facts + 1) user h)
new_user_lifts setting new finding (Err refusal) h = nothing 3 setting.facts

-- the next version is the one after the last
realm_raises : (setting : Setting) (realm : Result RealmParts Refusal) → Raising 3 setting.facts (settled setting.facts None (answer_to_realm setting.facts) realm).added
realm_raises setting (Ok realm) =
    let new = RealmPut (last_version setting.facts + 1) realm ∷ [] in
    record {
      tabs = let e = last_tab_serial_more setting.facts new in omega arith;
      stored = let e = last_stored_serial_more setting.facts new in omega arith;
      version = let e = last_version_more setting.facts new in omega arith;
    }
realm_raises setting (Err refusal) = raising 3 setting.facts [] (nothing 3 setting.facts)

-- a new password has the next serial
password_lifts : (setting : Setting) (name : List ℕ) (finding : Finding) (user : Result UserId Refusal)
    → Lifts 3 setting.facts (settled setting.facts None (answer_to_set_password setting.facts name finding) user).added
password_lifts setting name (findings.Derived salt count digest) (Ok user) = lifts 3 setting.facts _ (omega arith) (omega arith) refl
password_lifts setting name findings.None (Ok user) = nothing 3 setting.facts
password_lifts setting name (findings.Checked had fits) (Ok user) = nothing 3 setting.facts
password_lifts setting name finding (Err refusal) = nothing 3 setting.facts

-- a new secret of one-time codes has the next serial, and its removal has none
otp_set_lifts : (setting : Setting) (name key : List ℕ) (user : Result UserId Refusal)
    → Lifts 3 setting.facts (settled setting.facts None (answer_to_otp_set setting.facts name key) user).added
otp_set_lifts setting name key (Ok user) = lifts 3 setting.facts _ (omega arith) (omega arith) refl
otp_set_lifts setting name key (Err refusal) = nothing 3 setting.facts

otp_remove_lifts : (setting : Setting) (name : List ℕ) (user : Result UserId Refusal)
    → Lifts 3 setting.facts (settled setting.facts None (answer_to_otp_remove name) user).added
otp_remove_lifts setting name (Ok user) = lifts 3 setting.facts _ (omega arith) (omega arith) refl
otp_remove_lifts setting name (Err refusal) = nothing 3 setting.facts

-- to open an account and to close it takes no serial
enable_lifts : (setting : Setting) (name : List ℕ) (user : Result UserId Refusal)
    → Lifts 3 setting.facts (settled setting.facts None (answer_to_enable name) user).added
enable_lifts setting name (Ok user) = lifts 3 setting.facts _ (omega arith) (omega arith) refl
enable_lifts setting name (Err refusal) = nothing 3 setting.facts

disable_lifts : (setting : Setting) (name : List ℕ) (user : Result UserId Refusal)
    → Lifts 3 setting.facts (settled setting.facts None (answer_to_disable name) user).added
disable_lifts setting name (Ok user) = lifts 3 setting.facts _ (omega arith) (omega arith) refl
disable_lifts setting name (Err refusal) = nothing 3 setting.facts

-- so is it with an action; a token has the next serial
require_lifts : (setting : Setting) (name : List ℕ) (kind : Action) (user : Result UserId Refusal)
    → Lifts 3 setting.facts (settled setting.facts None (answer_to_require name kind) user).added
require_lifts setting name kind (Ok user) = lifts 3 setting.facts _ (omega arith) (omega arith) refl
require_lifts setting name kind (Err refusal) = nothing 3 setting.facts

token_lifts : (setting : Setting) (kind : TokenAction) (life : ℕ) (user : Result UserId Refusal)
    → Lifts 3 setting.facts (settled setting.facts None (answer_to_token setting kind life) user).added
token_lifts setting kind life (Ok user) = lifts 3 setting.facts _ (omega arith) (omega arith) refl
token_lifts setting kind life (Err refusal) = nothing 3 setting.facts

-- roles and the ends of sessions take none
put_lifts : (facts : List Fact) (name : List ℕ) (roles : List (List ℕ)) (user : UserId) → user.0 ≤ last_stored_serial facts → Lifts 3 facts (answer_to_roles name roles user).added
put_lifts facts name roles user made = lifts 3 facts _ (omega arith) (omega (arith, made)) refl

made_user : (facts : List Fact) (found : Result UserId Refusal) (user : UserId) → (found >>= if_made facts) ≡ Ok user → user.0 ≤ last_stored_serial facts
made_user facts (Ok x) user h = by_test (nat_le x.0 (last_stored_serial facts)) refl h
  where
    by_test : (made : Bool) → nat_le x.0 (last_stored_serial facts) ≡ made → ◌≡◌ {A = Result UserId Refusal} (if made then Ok x else Err NoSuchUser) (Ok user) → user.0 ≤ last_stored_serial facts
    by_test true made h = let e : ◌≡◌ {A = UserId} x user = cc in subst (λ (u : UserId). u.0 ≤ last_stored_serial facts) e (leb-true _ _ made)
    by_test false made h = absurd cc
made_user facts (Err refusal) user h = absurd cc

roles_lift : (setting : Setting) (name : List ℕ) (roles : List (List ℕ)) (user : Result UserId Refusal) → check_made setting.facts name ≡ user
    → Lifts 3 setting.facts (settled setting.facts None (answer_to_roles name roles) user).added
unfolding check_made
roles_lift setting name roles (Ok user) h = put_lifts setting.facts name roles user (made_user setting.facts (check_user setting.facts name) user h)
roles_lift setting name roles (Err refusal) h = nothing 3 setting.facts

revoke_lifts : (setting : Setting) (session : SessionId) (there : Result (Unit {0}) Refusal)
    → Lifts 3 setting.facts (settled setting.facts None (answer_to_revoke session) there).added
revoke_lifts setting session (Ok there) = lifts 3 setting.facts _ (omega arith) (omega arith) refl
revoke_lifts setting session (Err refusal) = nothing 3 setting.facts

tabs_end : (n : ℕ) (ended : List SessionId) → fold tab_serial_after n (map SessionEnd ended) ≡ n
tabs_end n [] = refl
tabs_end n (session ∷ ended) = tabs_end n ended

stored_end : (n : ℕ) (ended : List SessionId) → fold stored_serial_after n (map SessionEnd ended) ≡ n
stored_end n [] = refl
stored_end n (session ∷ ended) = stored_end n ended

version_ends : (n : ℕ) (ended : List SessionId) → fold version_after n (map SessionEnd ended) ≡ n
version_ends n [] = refl
version_ends n (session ∷ ended) = version_ends n ended

sweep_lifts : (facts : List Fact) (ended : List SessionId) → Lifts 3 facts (answer_to_sweep ended).added
sweep_lifts facts ended =
    let t = tabs_end (last_tab_serial facts) ended in
    let s = stored_end (last_stored_serial facts) ended in
    lifts 3 facts _ (omega (arith, t)) (omega (arith, s)) (version_ends (last_version facts) ended)

verb_raises : (setting : Setting) (verb : AdminVerb) (finding : Finding) → Raising 3 setting.facts (due_verb setting verb finding).added
unfolding due_user_add due_realm_put due_set_password due_otp_set due_otp_remove due_enable due_disable due_unlock due_require due_token due_roles due_revoke due_sweep
verb_raises setting (verbs.UserAdd new) finding = raising 3 setting.facts _ (new_user_lifts setting new finding (check_new_user setting.facts new) refl)
verb_raises setting (verbs.RealmPut realm) finding = realm_raises setting (check_realm realm)
verb_raises setting (verbs.SetPassword name password) finding =
    raising 3 setting.facts _ (password_lifts setting name finding (check_user setting.facts name))
verb_raises setting (verbs.OtpSet name key) finding =
    raising 3 setting.facts _ (otp_set_lifts setting name key (check_user setting.facts name))
verb_raises setting (verbs.OtpRemove name) finding =
    raising 3 setting.facts _ (otp_remove_lifts setting name (check_there setting.facts name))
verb_raises setting (verbs.Enable name) finding =
    raising 3 setting.facts _ (enable_lifts setting name (check_user setting.facts name))
verb_raises setting (verbs.Disable name) finding =
    raising 3 setting.facts _ (disable_lifts setting name (check_user setting.facts name))
verb_raises setting (verbs.Unlock name) finding =
    raising 3 setting.facts _ (enable_lifts setting name (check_open setting.facts name))
verb_raises setting (verbs.Roles name roles) finding =
    raising 3 setting.facts _ (roles_lift setting name roles (check_made setting.facts name) refl)
verb_raises setting (verbs.Revoke session) finding =
    raising 3 setting.facts _ (revoke_lifts setting session (check_session setting.facts session))
verb_raises setting verbs.Sweep finding = raising 3 setting.facts _ (sweep_lifts setting.facts (outlived_ids setting.moment setting.facts))
verb_raises setting (verbs.Require name kind) finding =
    raising 3 setting.facts _ (require_lifts setting name kind (check_user setting.facts name))
verb_raises setting (verbs.Token name kind life) finding =
    raising 3 setting.facts _ (token_lifts setting kind life (check_holder setting.facts name))

key_raises : (setting : Setting) (verb : AdminVerb) (finding : Finding) (key : Result (Unit {0}) Refusal) → Raising 3 setting.facts (settled setting.facts None (verb_with setting verb finding) key).added
key_raises setting verb finding (Ok key) = verb_raises setting verb finding
key_raises setting verb finding (Err refusal) = raising 3 setting.facts [] (nothing 3 setting.facts)

pub admin_raises : (setting : Setting) (access : Access) (verb : AdminVerb) (finding : Finding) → Raising 3 setting.facts (due_admin setting access verb finding).added
unfolding due_admin
admin_raises setting access verb finding = key_raises setting verb finding (check_key setting.realm access)
