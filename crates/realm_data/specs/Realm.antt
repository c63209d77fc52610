-- The rules of a realm.
use Rattle.std.specs.Prelude.{ℕ, Bool, true, not, is_some, ◌&&◌, ◌||◌, ◌==◌, nat_le, List, [], ◌∷◌, length}
use Rattle.std.specs.List.{list_all, list_any}
use Rattle.std.specs.Ordering.{nat_cmp, is_lt}
use Rattle.std.specs.Cmp.Lexicographic.{slice_cmp}
use Rattle.std.specs.Option.{option_map_or}
use Rattle.std.specs.Str.{bytes_eq}
use Rattle.login_base.specs.Names.{is_name}
use Rattle.lockout.specs.declared.policy.Policy.{Policy}
use Rattle.flow_tree.specs.declared.exec.Exec.{Exec}
use Rattle.flow_tree.specs.Levels.{live_age}
use Rattle.flow_tree.specs.Names.{has_names}
use Rattle.flow_tree.specs.Places.{Place, places}
use Rattle.flow_tree.specs.Ranges.{is_level_in_range}
use Rattle.realm_data.specs.declared.realm_parts.SessionLimits.{SessionLimits}
use Rattle.realm_data.specs.declared.realm_parts.OtpRule.{OtpRule}
use Rattle.realm_data.specs.declared.realm_parts.AcrLevel.{AcrLevel}
use Rattle.realm_data.specs.declared.realm_parts.Client.{Client}
use Rattle.realm_data.specs.declared.realm_parts.RealmUser.{RealmUser}
use Rattle.realm_data.specs.declared.realm_parts.RealmParts.{RealmParts}
use Rattle.realm_data.specs.PasswordHash.{is_hash, is_iterations}
use Rattle.realm_data.specs.Secrets.{is_otp_key, is_digest, are_recovery_digests}

-- ---- numbers

-- from the least to the greatest, both included
abbrev pub is_within : ℕ → ℕ → ℕ → Bool
is_within least greatest n = nat_le least n && nat_le n greatest

-- in seconds
abbrev pub are_limits : SessionLimits → Bool
are_limits s = is_within 1 31536000 s.idle && is_within 1 31536000 s.max && is_within 60 86400 s.tab

abbrev pub is_otp_rule : OtpRule → Bool
is_otp_rule o = is_within 6 8 o.digits && nat_le o.window 2

-- the ranges of the crate `lockout`
abbrev pub is_policy : Policy → Bool
is_policy p =
    is_within 1 1000 p.max_failures && is_within 1 86400 p.wait_increment && is_within 1 86400 p.max_wait
    && is_within 1 31536000 p.failure_reset && nat_le p.quick_check 60000 && nat_le p.quick_wait 86400

abbrev pub are_numbers : RealmParts → Bool
are_numbers r =
    are_limits r.session && is_iterations r.iterations && is_otp_rule r.otp && is_within 1 16 r.recovery_count
    && is_policy r.lockout

-- ---- names

-- no two items have one name
unfoldable pub are_apart : {A : Type 0} → (A → List ℕ) → List A → Bool
are_apart name [] = true
are_apart name (item ∷ items) =
    not (list_any (λ other. bytes_eq (name item) (name other)) items) && are_apart name items

-- the item's name stands before that of the first of these, in byte order
abbrev pub is_before : {A : Type 0} → (A → List ℕ) → A → List A → Bool
is_before name item [] = true
is_before name item (next ∷ items) = is_lt (slice_cmp nat_cmp (name item) (name next))

-- each item's name stands before the next one's
unfoldable pub are_ascending : {A : Type 0} → (A → List ℕ) → List A → Bool
are_ascending name [] = true
are_ascending name (item ∷ items) = is_before name item items && are_ascending name items

-- ---- flows, levels, clients and users

-- each condition of a level has a level of 1 to 1,000, and an age of at most 31,536,000 seconds
abbrev pub has_levels_in_range : List Exec → Bool
has_levels_in_range flow = list_all (λ (p : Place). is_level_in_range p.shape) (places flow)

-- 0 to 1,000, and above 0 one that a live condition of the flow asks
abbrev pub is_bound : List Exec → ℕ → Bool
is_bound flow level = nat_le level 1000 && (level == 0 || is_some (live_age level flow))

abbrev pub are_levels : List Exec → List AcrLevel → Bool
are_levels flow acr =
    are_ascending (λ (a : AcrLevel). a.name) acr && list_all (λ (a : AcrLevel). is_bound flow a.level) acr

abbrev pub are_clients : List Exec → List Client → Bool
are_clients flow clients =
    is_within 1 64 (length clients) && list_all (λ (c : Client). is_bound flow c.level) clients
    && are_apart (λ (c : Client). c.id) clients

abbrev pub are_users : List RealmUser → Bool
are_users users = nat_le (length users) 10000 && are_apart (λ (u : RealmUser). u.name) users

-- ---- what the parts keep by their types

-- a user's name and roles are names
abbrev pub is_user_named : RealmUser → Bool
is_user_named u = is_name u.name && list_all is_name u.roles

-- every text that names something is a name
abbrev pub are_named : RealmParts → Bool
are_named r =
    is_name r.name && has_names r.flow && list_all (λ (a : AcrLevel). is_name a.name) r.acr
    && list_all (λ (c : Client). is_name c.id) r.clients && list_all is_user_named r.users

-- what a user is kept with is in its ranges
abbrev pub has_secrets_in_range : RealmUser → Bool
has_secrets_in_range u =
    option_map_or is_hash u.password true && option_map_or is_otp_key u.otp true
    && option_map_or are_recovery_digests u.recovery true

abbrev pub are_secrets : RealmParts → Bool
are_secrets r = is_digest r.admin_key && list_all has_secrets_in_range r.users

-- ---- realms

-- the parts keep the rules and the ranges of a realm
unfoldable pub is_realm : RealmParts → Bool
is_realm r =
    are_numbers r && has_levels_in_range r.flow && are_levels r.flow r.acr && are_clients r.flow r.clients
    && are_users r.users && are_named r && are_secrets r
