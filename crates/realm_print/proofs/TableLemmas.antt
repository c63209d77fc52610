-- The tables of a realm are read back.
use Rattle.std.proofs.Common.{◌≡◌, ℕ, zero, suc, pos, ◌+◌, ◌<◌, Bool, true, false, ◌||◌, ◌==◌, nat_le, List, [], ◌∷◌, ◌++◌, length, take, get_or, Option, Some, Ok, Ordering, Less, Equal, Greater, codes, nat_cmp, refl, ap, ◌∙◌, arith}
use Rattle.std.specs.List.{list_all}
use Rattle.std.specs.Str.{bytes_eq}
use Rattle.std.specs.Ordering.{is_lt, ordering_reverse}
use Rattle.std.specs.Cmp.Lexicographic.{slice_cmp}
use Rattle.std.proofs.lemmas.Bool.{and_parts}
use Rattle.std.proofs.lemmas.Cmp.{nat_list_cmp_total}
use Rattle.std.proofs.lemmas.List.{take_more}
use Rattle.realm_file.proofs.DoubledLemmas.{bytes_eq-self}
use Rattle.toml.specs.Data.{Data, integer, table, no_members, member}
use Rattle.login_base.specs.Names.{is_name}
use Rattle.lockout.specs.declared.policy.Policy.{Policy}
use Rattle.realm_data.specs.PasswordHash.{HashedPassword, is_hash, is_iterations}
use Rattle.realm_data.specs.Realm.{is_within, are_limits, is_otp_rule, is_policy, is_before, are_ascending}
use Rattle.realm_data.specs.declared.realm_parts.SessionLimits.{SessionLimits}
use Rattle.realm_data.specs.declared.realm_parts.OtpRule.{OtpRule}
use Rattle.realm_data.specs.declared.realm_parts.AcrLevel.{AcrLevel}
use Rattle.realm_data.specs.declared.realm_parts.Client.{Client}
use Rattle.realm_data.specs.declared.realm_parts.RealmUser.{RealmUser}
use Rattle.realm_fields.specs.Paths.{key_path}
use Rattle.realm_fields.specs.Reading.{required, is_among, only_keys, word_in, number_in, flag_in, list_in, few_in}
use Rattle.realm_fields.specs.Words.{name_of, digest_of, salt_of, is_salt, otp_of, mode_of, action_of}
use Rattle.realm_fields.specs.Settings.{session_in, session_fields, otp_rule_in, otp_fields, policy_in, policy_fields, policy_keys, policy_key_list, lone_number}
use Rattle.realm_fields.specs.Levels.{level_named, levels_from, levels_in, is_level_in_range}
use Rattle.realm_fields.specs.Users.{client_in, client_fields, is_client_in_range, password_in, password_fields, user_keys, check_user_keys, user_in, user_fields}
use Rattle.realm_print.specs.Fields.{Fields, made, with_member}
use Rattle.realm_print.specs.Levels.{level_members}
use Rattle.realm_print.specs.Printed.{IsReadAs, IsFoundAs, AreListedAs, IsFlag, ArePlain}
use Rattle.realm_print.proofs.FieldLemmas.{get_same, only_made, required_made, optional_made, listed_made, lone, only_more, only_none}
use Rattle.realm_print.proofs.WordLemmas.{number_back, upto_back}

-- ---- settings

abbrev number_field : List ℕ → ℕ → List ℕ × Option Data
number_field key n = (key, Some (integer (pos n)))

abbrev pub session_made : SessionLimits → Fields
session_made s = number_field (codes "tab") s.tab ∷ number_field (codes "max") s.max ∷ number_field (codes "idle") s.idle ∷ []

pub session_back : (s : SessionLimits) → are_limits s ≡ true → IsReadAs session_in (table (made (session_made s))) s
unfolding session_fields
session_back s h = λ path.
    let tab = and_parts _ (is_within 60 86400 s.tab) h in
    let max = and_parts (is_within 1 31536000 s.idle) (is_within 1 31536000 s.max) tab.0 in
    let fs = session_made s in
    let keys = only_made (is_among (codes "idle" ∷ codes "max" ∷ codes "tab" ∷ [])) path fs refl in
    let first = required_made path (codes "idle") fs (number_in 1 31536000) _ s.idle refl (number_back 1 31536000 s.idle max.0) in
    let second = required_made path (codes "max") fs (number_in 1 31536000) _ s.max refl (number_back 1 31536000 s.max max.1) in
    let third = required_made path (codes "tab") fs (number_in 60 86400) _ s.tab refl (number_back 60 86400 s.tab tab.1) in
    rw (keys, first, second, third) refl

abbrev pub otp_made : OtpRule → Fields
otp_made o = number_field (codes "window") o.window ∷ number_field (codes "digits") o.digits ∷ []

pub otp_back : (o : OtpRule) → is_otp_rule o ≡ true → IsReadAs otp_rule_in (table (made (otp_made o))) o
unfolding otp_fields
otp_back o h = λ path.
    let parts = and_parts (is_within 6 8 o.digits) (nat_le o.window 2) h in
    let fs = otp_made o in
    let keys = only_made (is_among (codes "digits" ∷ codes "window" ∷ [])) path fs refl in
    let first = required_made path (codes "digits") fs (number_in 6 8) _ o.digits refl (number_back 6 8 o.digits parts.0) in
    let second = required_made path (codes "window") fs (number_in 0 2) _ o.window refl (upto_back 2 o.window parts.1) in
    rw (keys, first, second) refl

abbrev pub policy_made : Policy → Data → Fields
policy_made p mode =
    number_field (codes "quick_wait") p.quick_wait ∷ number_field (codes "quick_check") p.quick_check
    ∷ number_field (codes "failure_reset") p.failure_reset ∷ number_field (codes "max_wait") p.max_wait
    ∷ number_field (codes "wait_increment") p.wait_increment ∷ number_field (codes "max_failures") p.max_failures
    ∷ (codes "mode", Some mode) ∷ []

pub policy_back : (p : Policy) (mode : Data) → is_policy p ≡ true → IsReadAs (word_in mode_of) mode p.mode → IsReadAs policy_in (table (made (policy_made p mode))) p
unfolding policy_fields
policy_back p mode h back = λ path.
    let quick_wait = and_parts _ (nat_le p.quick_wait 86400) h in
    let quick_check = and_parts _ (nat_le p.quick_check 60000) quick_wait.0 in
    let reset = and_parts _ (is_within 1 31536000 p.failure_reset) quick_check.0 in
    let max_wait = and_parts _ (is_within 1 86400 p.max_wait) reset.0 in
    let increment = and_parts (is_within 1 1000 p.max_failures) (is_within 1 86400 p.wait_increment) max_wait.0 in
    let fs = policy_made p mode in
    let keys : policy_keys path (made fs) ≡ Ok tt = only_made (is_among policy_key_list) path fs refl in
    let first = required_made path (codes "mode") fs (word_in mode_of) mode p.mode refl back in
    let second = required_made path (codes "max_failures") fs (number_in 1 1000) _ p.max_failures refl (number_back 1 1000 p.max_failures increment.0) in
    let third = required_made path (codes "wait_increment") fs (number_in 1 86400) _ p.wait_increment refl (number_back 1 86400 p.wait_increment increment.1) in
    let fourth = required_made path (codes "max_wait") fs (number_in 1 86400) _ p.max_wait refl (number_back 1 86400 p.max_wait max_wait.1) in
    let fifth = required_made path (codes "failure_reset") fs (number_in 1 31536000) _ p.failure_reset refl (number_back 1 31536000 p.failure_reset reset.1) in
    let sixth = required_made path (codes "quick_check") fs (number_in 0 60000) _ p.quick_check refl (upto_back 60000 p.quick_check quick_check.1) in
    let seventh = required_made path (codes "quick_wait") fs (number_in 0 86400) _ p.quick_wait refl (upto_back 86400 p.quick_wait quick_wait.1) in
    rw (keys, first, second, third, fourth, fifth, sixth, seventh) refl

same_itself : (key : List ℕ) (rest : Bool) → (bytes_eq key key || rest) ≡ true
same_itself key rest = rw (bytes_eq-self key) refl

pub lone_back : (key : List ℕ) (n least most : ℕ) → is_within least most n ≡ true
    → IsReadAs (lone_number key least most) (table (with_member key (integer (pos n)) no_members)) n
unfolding required
lone_back key n least most h = λ path.
    let keys = only_more (is_among (key ∷ [])) path key (integer (pos n)) no_members (same_itself key false) (only_none (is_among (key ∷ [])) path) in
    rw (keys, get_same key (integer (pos n)) no_members, h) refl

-- ---- clients

abbrev pub client_made : Data → ℕ → Fields
client_made id level = number_field (codes "level") level ∷ (codes "id", Some id) ∷ []

pub client_back : (c : Client) (id : Data) → is_client_in_range c ≡ true → IsReadAs (word_in name_of) id c.id
    → IsReadAs client_in (table (made (client_made id c.level))) c
unfolding client_fields
client_back c id h back = λ path.
    let parts = and_parts (is_name c.id) (nat_le c.level 1000) h in
    let fs = client_made id c.level in
    let keys = only_made (is_among (codes "id" ∷ codes "level" ∷ [])) path fs refl in
    let first = required_made path (codes "id") fs (word_in name_of) id c.id refl back in
    let second = required_made path (codes "level") fs (number_in 0 1000) _ c.level refl (upto_back 1000 c.level parts.1) in
    rw (keys, first, second) refl

-- ---- passwords

abbrev pub password_made : Data → ℕ → Data → Fields
password_made salt iterations digest =
    (codes "digest", Some digest) ∷ number_field (codes "iterations") iterations ∷ (codes "salt", Some salt) ∷ []

pub password_back : (h : HashedPassword) (salt digest : Data) → is_hash h ≡ true → IsReadAs (word_in salt_of) salt h.salt → IsReadAs (word_in digest_of) digest h.digest
    → IsReadAs password_in (table (made (password_made salt h.iterations digest))) h
unfolding password_fields
password_back h salt digest sound salt_back digest_back = λ path.
    let long = and_parts _ (length h.digest == 32) sound in
    let times = and_parts (is_salt h.salt) (is_iterations h.iterations) long.0 in
    let fs = password_made salt h.iterations digest in
    let keys = only_made (is_among (codes "salt" ∷ codes "iterations" ∷ codes "digest" ∷ [])) path fs refl in
    let first = required_made path (codes "salt") fs (word_in salt_of) salt h.salt refl salt_back in
    let second = required_made path (codes "iterations") fs (number_in 1 2000000) _ h.iterations refl (number_back 1 2000000 h.iterations times.1) in
    let third = required_made path (codes "digest") fs (word_in digest_of) digest h.digest refl digest_back in
    rw (keys, first, second, third) refl

-- ---- users

-- the parts of a user, each as what is printed of it
pub record IsUser (u : RealmUser) (name : Data) (roles enabled password otp recovery actions : Option Data) : Type 0 where
  pub name_read : IsReadAs (word_in name_of) name u.name
  pub roles_read : AreListedAs (list_in (word_in name_of)) roles u.roles
  pub enabled_read : IsFlag true enabled u.enabled
  pub password_read : IsFoundAs password_in password u.password
  pub otp_read : IsFoundAs (word_in otp_of) otp u.otp
  pub recovery_read : IsFoundAs (few_in 1 16 (word_in digest_of)) recovery u.recovery
  pub actions_read : AreListedAs (list_in (word_in action_of)) actions u.actions

abbrev pub user_made : Data → Option Data → Option Data → Option Data → Option Data → Option Data → Option Data → Fields
user_made name roles enabled password otp recovery actions =
    (codes "actions", actions) ∷ (codes "recovery", recovery) ∷ (codes "otp", otp) ∷ (codes "password", password)
    ∷ (codes "enabled", enabled) ∷ (codes "roles", roles) ∷ (codes "name", Some name) ∷ []

pub user_back : (u : RealmUser) (name : Data) (roles enabled password otp recovery actions : Option Data) → IsUser u name roles enabled password otp recovery actions
    → IsReadAs user_in (table (made (user_made name roles enabled password otp recovery actions))) u
unfolding user_fields
user_back u name roles enabled password otp recovery actions is = λ path.
    let fs = user_made name roles enabled password otp recovery actions in
    let keys : check_user_keys path (made fs) ≡ Ok tt = only_made (is_among user_keys) path fs refl in
    let first = required_made path (codes "name") fs (word_in name_of) name u.name refl is.name_read in
    let second = listed_made path (codes "roles") fs (list_in (word_in name_of)) roles u.roles (lone roles) is.roles_read in
    let third = optional_made path (codes "enabled") fs flag_in enabled is.enabled_read.0 (lone enabled) is.enabled_read.1 in
    let fourth = optional_made path (codes "password") fs password_in password u.password (lone password) is.password_read in
    let fifth = optional_made path (codes "otp") fs (word_in otp_of) otp u.otp (lone otp) is.otp_read in
    let sixth = optional_made path (codes "recovery") fs (few_in 1 16 (word_in digest_of)) recovery u.recovery (lone recovery) is.recovery_read in
    let seventh = listed_made path (codes "actions") fs (list_in (word_in action_of)) actions u.actions (lone actions) is.actions_read in
    rw (keys, first, second, third, fourth, fifth, sixth, seventh, is.enabled_read.2) refl

-- ---- levels

levels_keys : (path : List ℕ) (acr : List AcrLevel) → list_all is_level_in_range acr ≡ true → only_keys is_name path (level_members acr) ≡ Ok tt
unfolding only_keys level_members
levels_keys path [] h = refl
levels_keys path (a ∷ acr) h =
    let parts = and_parts (is_level_in_range a) (list_all is_level_in_range acr) h in
    let named = and_parts (is_name a.name) (nat_le a.level 1000) parts.0 in
    rw named.0 (levels_keys path acr parts.1)

levels_read : (path : List ℕ) (acr : List AcrLevel) → list_all is_level_in_range acr ≡ true → levels_from path (level_members acr) ≡ Ok acr
unfolding levels_from level_named level_members
levels_read path [] h = refl
levels_read path (a ∷ acr) h =
    let parts = and_parts (is_level_in_range a) (list_all is_level_in_range acr) h in
    let named = and_parts (is_name a.name) (nat_le a.level 1000) parts.0 in
    rw (named.0, upto_back 1000 a.level named.1 (key_path path a.name), levels_read path acr parts.1) refl

pub levels_back : (acr : List AcrLevel) → list_all is_level_in_range acr ≡ true → IsReadAs levels_in (table (level_members acr)) acr
levels_back acr h = λ path. rw (levels_keys path acr h) (levels_read path acr h)

pub levels_listed : (acr : List AcrLevel) → list_all is_level_in_range acr ≡ true → AreListedAs levels_in (Some (table (level_members acr))) acr
levels_listed acr h = λ path. rw (levels_back acr h path) refl

pub levels_plain : (acr : List AcrLevel) → ArePlain 0 (level_members acr)
unfolding level_members
levels_plain [] = record { deep = omega arith; dates = refl }
levels_plain (a ∷ acr) = record { deep = (let low = (levels_plain acr).deep in omega arith); dates = (levels_plain acr).dates }

lt_less : (o : Ordering) → is_lt o ≡ true → o ≡ Less
lt_less Less h = refl
lt_less Equal h = absurd cc
lt_less Greater h = absurd cc

-- each of ascending names stands before the last
before_last : (x : AcrLevel) (xs : List AcrLevel) (a : AcrLevel) → are_ascending (λ (l : AcrLevel). l.name) (x ∷ (xs ++ a ∷ [])) ≡ true
    → slice_cmp nat_cmp x.name a.name ≡ Less
unfolding are_ascending
before_last x [] a h = lt_less _ (and_parts (is_lt (slice_cmp nat_cmp x.name a.name)) _ h).0
before_last x (y ∷ xs) a h =
    let parts = and_parts (is_lt (slice_cmp nat_cmp x.name y.name)) (are_ascending (λ (l : AcrLevel). l.name) (y ∷ (xs ++ a ∷ []))) h in
    nat_list_cmp_total.trans x.name y.name a.name (lt_less _ parts.0) (before_last y xs a parts.1)

-- a level whose name stands behind the others is put at the end
put_last : (xs : List AcrLevel) (a : AcrLevel) → are_ascending (λ (l : AcrLevel). l.name) (xs ++ a ∷ []) ≡ true
    → with_member a.name (integer (pos a.level)) (level_members xs) ≡ level_members (xs ++ a ∷ [])
unfolding level_members are_ascending
put_last [] a h = refl
put_last (x ∷ xs) a h =
    let less = before_last x xs a h in
    let above : slice_cmp nat_cmp a.name x.name ≡ Greater = nat_list_cmp_total.antisymm a.name x.name ∙ ap ordering_reverse less in
    let rest = and_parts (is_before (λ (l : AcrLevel). l.name) x (xs ++ a ∷ [])) (are_ascending (λ (l : AcrLevel). l.name) (xs ++ a ∷ [])) h in
    rw above (ap (λ ms. member x.name (integer (pos x.level)) ms) (put_last xs a rest.1))

still_ascending : (i : ℕ) (xs : List AcrLevel) → are_ascending (λ (l : AcrLevel). l.name) xs ≡ true → are_ascending (λ (l : AcrLevel). l.name) (take i xs) ≡ true
unfolding are_ascending
still_ascending zero xs h = refl
still_ascending (suc i) [] h = refl
still_ascending (suc zero) (x ∷ xs) h = refl
still_ascending (suc (suc i)) (x ∷ []) h = refl
still_ascending (suc (suc i)) (x ∷ y ∷ xs) h =
    let parts = and_parts (is_lt (slice_cmp nat_cmp x.name y.name)) (are_ascending (λ (l : AcrLevel). l.name) (y ∷ xs)) h in
    rw (parts.0, still_ascending (suc i) (y ∷ xs) parts.1) refl

pub level_more : (acr : List AcrLevel) (i : ℕ) (a : AcrLevel) → i < length acr → get_or acr i a ≡ a → are_ascending (λ (l : AcrLevel). l.name) acr ≡ true
    → with_member a.name (integer (pos a.level)) (level_members (take i acr)) ≡ level_members (take (i + 1) acr)
level_more acr i a lt at h =
    let more : take (i + 1) acr ≡ take i acr ++ a ∷ [] = rw (take_more acr i a lt, at) refl in
    rw more (put_last (take i acr) a (rw more at (still_ascending (i + 1) acr h)))

-- ---- users and levels, whole

pub all_fit : {A : Type 0} (xs : List A) → list_all (λ (x : A). true) xs ≡ true
all_fit [] = refl
all_fit (x ∷ xs) = all_fit xs
