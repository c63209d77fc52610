-- What the rules of a realm come to.
use Rattle.std.proofs.Common.{◌≡◌, ◌≤◌, ℕ, true, length}
use Rattle.std.specs.Prelude.{nat_le}
use Rattle.std.specs.List.{list_all}
use Rattle.std.proofs.lemmas.Bool.{and_parts, leb-true}
use Rattle.login_base.specs.Names.{is_name}
use Rattle.lockout.specs.declared.policy.Policy.{Policy}
use Rattle.lockout.specs.Policy.{IsWithin, IsPolicy}
use Rattle.flow_tree.specs.Names.{has_names}
use Rattle.realm_data.specs.declared.realm_parts.AcrLevel.{AcrLevel}
use Rattle.realm_data.specs.declared.realm_parts.Client.{Client}
use Rattle.realm_data.specs.declared.realm_parts.RealmParts.{RealmParts}
use Rattle.realm_data.specs.PasswordHash.{is_iterations}
use Rattle.realm_data.specs.Realm.{is_within, are_limits, is_otp_rule, is_policy, are_numbers, has_levels_in_range, are_levels, are_clients, are_users, is_user_named, are_named, are_secrets, is_realm}

-- each rule of a realm is kept
pub record KeepsRules (r : RealmParts) : Type 0 where
  pub numbers : are_numbers r ≡ true
  pub ages : has_levels_in_range r.flow ≡ true
  pub levels : are_levels r.flow r.acr ≡ true
  pub clients : are_clients r.flow r.clients ≡ true
  pub users : are_users r.users ≡ true
  pub names : are_named r ≡ true
  pub secrets : are_secrets r ≡ true

pub rules_kept : (r : RealmParts) → is_realm r ≡ true → KeepsRules r
unfolding is_realm
rules_kept r all =
    let secrets = and_parts _ (are_secrets r) all in
    let names = and_parts _ (are_named r) secrets.0 in
    let users = and_parts _ (are_users r.users) names.0 in
    let clients = and_parts _ (are_clients r.flow r.clients) users.0 in
    let levels = and_parts _ (are_levels r.flow r.acr) clients.0 in
    let ages = and_parts (are_numbers r) (has_levels_in_range r.flow) levels.0 in
    record {
      numbers = ages.0;
      ages = ages.1;
      levels = levels.1;
      clients = clients.1;
      users = users.1;
      names = names.1;
      secrets = secrets.1;
    }

-- ---- numbers

within : (least greatest n : ℕ) → is_within least greatest n ≡ true → IsWithin least greatest n
within least greatest n h =
    let both = and_parts (nat_le least n) (nat_le n greatest) h in
    (leb-true least n both.0, leb-true n greatest both.1)

pub record HasNumbers (r : RealmParts) : Type 0 where
  pub session : are_limits r.session ≡ true
  pub iterations : is_iterations r.iterations ≡ true
  pub otp : is_otp_rule r.otp ≡ true
  pub recovery_count : is_within 1 16 r.recovery_count ≡ true
  pub lockout : is_policy r.lockout ≡ true

pub numbers_kept : (r : RealmParts) → is_realm r ≡ true → HasNumbers r
numbers_kept r h =
    let lockout = and_parts _ (is_policy r.lockout) (rules_kept r h).numbers in
    let recovery_count = and_parts _ (is_within 1 16 r.recovery_count) lockout.0 in
    let otp = and_parts _ (is_otp_rule r.otp) recovery_count.0 in
    let iterations = and_parts (are_limits r.session) (is_iterations r.iterations) otp.0 in
    record {
      session = iterations.0;
      iterations = iterations.1;
      otp = otp.1;
      recovery_count = recovery_count.1;
      lockout = lockout.1;
    }

pub kept_iterations : (r : RealmParts) → is_realm r ≡ true → is_iterations r.iterations ≡ true
kept_iterations r h = (numbers_kept r h).iterations

pub tab_limit : (r : RealmParts) → is_realm r ≡ true → r.session.tab ≤ 86400
tab_limit r h =
    let tab = and_parts _ (is_within 60 86400 r.session.tab) (numbers_kept r h).session in
    (within 60 86400 r.session.tab tab.1).1

otp_rule : (r : RealmParts) → is_realm r ≡ true → IsWithin 6 8 r.otp.digits × (r.otp.window ≤ 2)
otp_rule r h =
    let both = and_parts (is_within 6 8 r.otp.digits) (nat_le r.otp.window 2) (numbers_kept r h).otp in
    (within 6 8 r.otp.digits both.0, leb-true r.otp.window 2 both.1)

pub least_digits : (r : RealmParts) → is_realm r ≡ true → 6 ≤ r.otp.digits
least_digits r h = (otp_rule r h).0.0

pub most_digits : (r : RealmParts) → is_realm r ≡ true → r.otp.digits ≤ 8
most_digits r h = (otp_rule r h).0.1

pub widest_window : (r : RealmParts) → is_realm r ≡ true → r.otp.window ≤ 2
widest_window r h = (otp_rule r h).1

codes_within : (r : RealmParts) → is_realm r ≡ true → IsWithin 1 16 r.recovery_count
codes_within r h = within 1 16 r.recovery_count (numbers_kept r h).recovery_count

pub least_codes : (r : RealmParts) → is_realm r ≡ true → 1 ≤ r.recovery_count
least_codes r h = (codes_within r h).0

pub most_codes : (r : RealmParts) → is_realm r ≡ true → r.recovery_count ≤ 16
most_codes r h = (codes_within r h).1

pub few_users : (r : RealmParts) → is_realm r ≡ true → length r.users ≤ 10000
few_users r h = leb-true (length r.users) 10000 (and_parts (nat_le (length r.users) 10000) _ (rules_kept r h).users).0

policy_of : (p : Policy) → is_policy p ≡ true → IsPolicy p
policy_of p all =
    let quick_wait = and_parts _ (nat_le p.quick_wait 86400) all in
    let quick_check = and_parts _ (nat_le p.quick_check 60000) quick_wait.0 in
    let reset = and_parts _ (is_within 1 31536000 p.failure_reset) quick_check.0 in
    let max_wait = and_parts _ (is_within 1 86400 p.max_wait) reset.0 in
    let increment = and_parts (is_within 1 1000 p.max_failures) (is_within 1 86400 p.wait_increment) max_wait.0 in
    record {
      max_failures = within 1 1000 p.max_failures increment.0;
      wait_increment = within 1 86400 p.wait_increment increment.1;
      max_wait = within 1 86400 p.max_wait max_wait.1;
      failure_reset = within 1 31536000 p.failure_reset reset.1;
      quick_check = leb-true p.quick_check 60000 quick_check.1;
      quick_wait = leb-true p.quick_wait 86400 quick_wait.1;
    }

pub policy_in_range : (r : RealmParts) → is_realm r ≡ true → IsPolicy r.lockout
policy_in_range r h = policy_of r.lockout (numbers_kept r h).lockout

-- ---- names

-- every text of a realm that names something is a name
pub record HasNames (r : RealmParts) : Type 0 where
  pub realm : is_name r.name ≡ true
  pub flow : has_names r.flow ≡ true
  pub acr : list_all (λ (a : AcrLevel). is_name a.name) r.acr ≡ true
  pub clients : list_all (λ (c : Client). is_name c.id) r.clients ≡ true
  pub users : list_all is_user_named r.users ≡ true

pub names_kept : (r : RealmParts) → is_realm r ≡ true → HasNames r
names_kept r h =
    let users = and_parts _ (list_all is_user_named r.users) (rules_kept r h).names in
    let clients = and_parts _ (list_all (λ (c : Client). is_name c.id) r.clients) users.0 in
    let acr = and_parts _ (list_all (λ (a : AcrLevel). is_name a.name) r.acr) clients.0 in
    let flow = and_parts (is_name r.name) (has_names r.flow) acr.0 in
    record {
      realm = flow.0;
      flow = flow.1;
      acr = acr.1;
      clients = clients.1;
      users = users.1;
    }
