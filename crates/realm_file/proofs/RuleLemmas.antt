-- A draft that keeps the rules is a realm.
use Rattle.std.proofs.Common.{◌≡◌, ℕ, ◌+◌, ◌≤◌, Bool, true, false, not, ◌&&◌, ◌||◌, ◌==◌, cond, nat_le, le-leb, List, [], ◌∷◌, length, Option, Some, None, is_some, option_map, Result, Ok, Err, refl, sym, ap, ◌∙◌}
use Rattle.std.specs.List.{list_all}
use Rattle.std.proofs.lemmas.Bool.{and_parts, not-false}
use Rattle.login_base.specs.Names.{is_name}
use Rattle.flow_tree.specs.declared.exec.Exec.{Exec}
use Rattle.flow_tree.specs.Levels.{live_age}
use Rattle.realm_data.specs.PasswordHash.{is_iterations}
use Rattle.realm_data.specs.Realm.{is_within, are_limits, is_otp_rule, is_policy, are_apart, is_bound, is_user_named, has_secrets_in_range, is_realm}
use Rattle.realm_data.specs.declared.realm_parts.AcrLevel.{AcrLevel}
use Rattle.realm_data.specs.declared.realm_parts.Client.{Client}
use Rattle.realm_data.specs.declared.realm_parts.RealmUser.{RealmUser}
use Rattle.realm_fields.specs.declared.fault.RealmFault.{RealmFault}
use Rattle.realm_file.specs.declared.read.Draft.{Draft}
use Rattle.realm_fields.specs.Reading.{Read, ◌>>=◌}
use Rattle.realm_fields.specs.Levels.{is_level_in_range}
use Rattle.realm_fields.specs.Users.{is_client_in_range, is_user_in_range}
use Rattle.realm_file.specs.Rules.{doubled_from, doubled_path, not_doubled, ids_apart, users_apart, names_apart, is_unbound, acr_bound, clients_bound, levels_bound}
use Rattle.realm_file.specs.RealmFile.{IsDraft, are_settings, parts_of}
use Rattle.realm_file.proofs.DoubledLemmas.{are_apart_if}
use Rattle.realm_fields.proofs.RangeLemmas.{bind_ok}

-- ---- doubled names

none_doubled : (o : Option ℕ) (path : ℕ → List ℕ) → not_doubled (option_map path o) ≡ Ok tt → o ≡ None
none_doubled None path h = refl
none_doubled (Some i) path h = absurd cc

ids_are_apart : (clients : List Client) → ids_apart clients ≡ Ok tt → are_apart (λ (c : Client). c.id) clients ≡ true
ids_are_apart clients h = are_apart_if _ clients (none_doubled (doubled_from (λ (c : Client). c.id) [] 0 clients) _ h)

users_are_apart : (users : List RealmUser) → users_apart users ≡ Ok tt → are_apart (λ (u : RealmUser). u.name) users ≡ true
users_are_apart users h = are_apart_if _ users (none_doubled (doubled_from (λ (u : RealmUser). u.name) [] 0 users) _ h)

-- ---- levels

bound_test : (b : Bool) (fault : RealmFault) (rest : Read (Unit {0})) → cond (not b) (Err fault) rest ≡ Ok tt → (b ≡ true) × (rest ≡ Ok tt)
bound_test true fault rest h = (refl, h)
bound_test false fault rest h = absurd cc

-- levels that are known to be at most 1,000
acr_are_bound : (flow : List Exec) (acr : List AcrLevel) → list_all is_level_in_range acr ≡ true → acr_bound flow acr ≡ Ok tt
    → list_all (λ (a : AcrLevel). is_bound flow a.level) acr ≡ true
unfolding acr_bound
acr_are_bound flow [] range h = refl
acr_are_bound flow (a ∷ acr) range h =
    let parts = and_parts (is_level_in_range a) (list_all is_level_in_range acr) range in
    let small = and_parts (is_name a.name) (nat_le a.level 1000) parts.0 in
    let bound = bound_test (a.level == 0 || is_some (live_age a.level flow)) _ (acr_bound flow acr) h in
    rw (small.1, bound.0, acr_are_bound flow acr parts.1 bound.1) refl

clients_are_bound : (flow : List Exec) (i : ℕ) (clients : List Client) → list_all is_client_in_range clients ≡ true → clients_bound flow i clients ≡ Ok tt
    → list_all (λ (c : Client). is_bound flow c.level) clients ≡ true
unfolding clients_bound
clients_are_bound flow i [] range h = refl
clients_are_bound flow i (c ∷ clients) range h =
    let parts = and_parts (is_client_in_range c) (list_all is_client_in_range clients) range in
    let small = and_parts (is_name c.id) (nat_le c.level 1000) parts.0 in
    let bound = bound_test (c.level == 0 || is_some (live_age c.level flow)) _ (clients_bound flow (i + 1) clients) h in
    rw (small.1, bound.0, clients_are_bound flow (i + 1) clients parts.1 bound.1) refl

-- ---- each of a list

-- what follows from a test of each holds of each
each_also : {A : Type 0} (p q : A → Bool) (xs : List A) → ((x : A) → p x ≡ true → q x ≡ true) → list_all p xs ≡ true → list_all q xs ≡ true
each_also p q [] f h = refl
each_also p q (x ∷ xs) f h =
    let parts = and_parts (p x) (list_all p xs) h in
    rw (f x parts.0, each_also p q xs f parts.1) refl

-- ---- all of it

record HasSettings (d : Draft) : Type 0 where
  session : are_limits d.settings.session ≡ true
  iterations : is_iterations d.settings.iterations ≡ true
  otp : is_otp_rule d.settings.otp ≡ true
  recovery_count : is_within 1 16 d.settings.recovery_count ≡ true
  lockout : is_policy d.settings.lockout ≡ true

settings_parts : (d : Draft) → are_settings d.settings ≡ true → HasSettings d
settings_parts d h =
    let lockout = and_parts _ (is_policy d.settings.lockout) h in
    let recovery_count = and_parts _ (is_within 1 16 d.settings.recovery_count) lockout.0 in
    let otp = and_parts _ (is_otp_rule d.settings.otp) recovery_count.0 in
    let iterations = and_parts (are_limits d.settings.session) (is_iterations d.settings.iterations) otp.0 in
    record {
      session = iterations.0;
      iterations = iterations.1;
      otp = otp.1;
      recovery_count = recovery_count.1;
      lockout = lockout.1;
    }

pub keeps_rules : (d : Draft) → IsDraft d → names_apart d.clients d.users ≡ Ok tt → levels_bound d.flow d.acr d.clients ≡ Ok tt
    → is_realm (parts_of d) ≡ true
unfolding is_realm
keeps_rules d in_range apart bound =
    let names = bind_ok (ids_apart d.clients) (λ ids. users_apart d.users) tt apart in
    let levels = bind_ok (acr_bound d.flow d.acr) (λ acr. clients_bound d.flow 0 d.clients) tt bound in
    let settings = settings_parts d in_range.settings in
    let acr_levels = acr_are_bound d.flow d.acr in_range.acr levels.1 in
    let client_levels = clients_are_bound d.flow 0 d.clients in_range.clients levels.2 in
    let acr_names = each_also is_level_in_range (λ (a : AcrLevel). is_name a.name) d.acr (λ a h. (and_parts (is_name a.name) (nat_le a.level 1000) h).0) in_range.acr in
    let client_names = each_also is_client_in_range (λ (c : Client). is_name c.id) d.clients (λ c h. (and_parts (is_name c.id) (nat_le c.level 1000) h).0) in_range.clients in
    let user_names = each_also is_user_in_range is_user_named d.users (λ u h. (and_parts (is_user_named u) (has_secrets_in_range u) h).0) in_range.users in
    let secrets = each_also is_user_in_range has_secrets_in_range d.users (λ u h. (and_parts (is_user_named u) (has_secrets_in_range u) h).1) in_range.users in
    rw (
      settings.session,
      settings.iterations,
      settings.otp,
      settings.recovery_count,
      settings.lockout,
      in_range.flow,
      in_range.order,
      acr_levels,
      in_range.client_count,
      client_levels,
      ids_are_apart d.clients names.1,
      le-leb (length d.users) 10000 in_range.user_count,
      users_are_apart d.users names.2,
      in_range.name,
      in_range.flow_names,
      acr_names,
      client_names,
      user_names,
      in_range.admin_key,
      secrets,
    ) refl
