-- A realm's document is read as the realm.
use Rattle.std.proofs.Common.{◌≡◌, ℕ, pos, ◌+◌, Bool, true, false, not, ◌&&◌, ◌||◌, ◌==◌, nat_le, List, [], ◌∷◌, ◌++◌, length, Some, None, is_some, Ok, codes, refl, ◌∙◌, arith}
use Rattle.std.specs.List.{list_all, list_any}
use Rattle.std.specs.Str.{bytes_eq}
use Rattle.std.proofs.lemmas.Bool.{and_parts}
use Rattle.std.proofs.lemmas.List.Folds.{list_any-append}
use Rattle.toml.specs.Data.{Members, no_members, integer}
use Rattle.login_base.specs.Names.{is_name}
use Rattle.flow_tree.specs.declared.exec.Exec.{Exec}
use Rattle.flow_tree.specs.Faults.{fault_of}
use Rattle.flow_tree.specs.Levels.{live_age}
use Rattle.flow_tree.specs.Places.{places_at}
use Rattle.flow_tree.proofs.Keeping.{none_deep, not_deep}
use Rattle.realm_data.specs.Realm.{are_apart, is_bound, is_user_named, has_secrets_in_range, is_realm, are_ascending, is_within}
use Rattle.realm_data.specs.Secrets.{is_digest}
use Rattle.realm_data.specs.declared.realm_parts.AcrLevel.{AcrLevel}
use Rattle.realm_data.specs.declared.realm_parts.Client.{Client}
use Rattle.realm_data.specs.declared.realm_parts.RealmUser.{RealmUser}
use Rattle.realm_data.specs.declared.realm_parts.RealmParts.{RealmParts}
use Rattle.realm_data.proofs.RealmRules.{rules_kept, names_kept}
use Rattle.realm_fields.specs.Reading.{is_among, word_in, number_in, few_in}
use Rattle.realm_fields.specs.Words.{name_of, digest_of}
use Rattle.realm_fields.specs.Settings.{session_in, otp_rule_in, policy_in, lone_number}
use Rattle.realm_fields.specs.Levels.{levels_in, is_level_in_range}
use Rattle.realm_fields.specs.Users.{client_in, user_in, is_client_in_range, is_user_in_range}
use Rattle.realm_file.specs.Execs.{execs_in}
use Rattle.realm_file.specs.Rules.{doubled_from, acr_bound, clients_bound, by_rules}
use Rattle.realm_file.specs.RealmFile.{realm_keys, check_realm_keys, settings_fields, draft_fields, realm_in}
use Rattle.realm_file.proofs.DoubledLemmas.{bytes_eq-sym}
use Rattle.realm_print.specs.Documents.{PutsHead, PutsSettings, PutsLists}
use Rattle.realm_print.specs.Fields.{Fields, made}
use Rattle.realm_print.specs.Flows.{AreRanged, are_shallow}
use Rattle.realm_print.specs.Printed.{ArePlain}
use Rattle.realm_print.proofs.FieldLemmas.{only_made, required_made, listed_made, lone, wider, if_wider, AllPlain, plain_made, plain_number}
use Rattle.realm_print.proofs.WordLemmas.{number_back}

-- ---- what each of a list is

both : {A : Type 0} (p q : A → Bool) (xs : List A) → list_all p xs ≡ true → list_all q xs ≡ true → list_all (λ x. p x && q x) xs ≡ true
both p q [] h k = refl
both p q (x ∷ xs) h k =
    let first = and_parts (p x) (list_all p xs) h in
    let second = and_parts (q x) (list_all q xs) k in
    rw (first.0, second.0, both p q xs first.1 second.1) refl

each_also : {A : Type 0} (p q : A → Bool) (xs : List A) → ((x : A) → p x ≡ true → q x ≡ true) → list_all p xs ≡ true → list_all q xs ≡ true
each_also p q [] f h = refl
each_also p q (x ∷ xs) f h =
    let parts = and_parts (p x) (list_all p xs) h in
    rw (f x parts.0, each_also p q xs f parts.1) refl

small : (flow : List Exec) (level : ℕ) → is_bound flow level ≡ true → nat_le level 1000 ≡ true
small flow level h = (and_parts (nat_le level 1000) (level == 0 || is_some (live_age level flow)) h).0

pub levels_ranged : (r : RealmParts) → is_realm r ≡ true → list_all is_level_in_range r.acr ≡ true
levels_ranged r h =
    let bound = (and_parts (are_ascending (λ (a : AcrLevel). a.name) r.acr) _ (rules_kept r h).levels).1 in
    both (λ (a : AcrLevel). is_name a.name) (λ (a : AcrLevel). nat_le a.level 1000) r.acr (names_kept r h).acr
    (each_also (λ (a : AcrLevel). is_bound r.flow a.level) _ r.acr (λ a k. small r.flow a.level k) bound)

pub levels_ascend : (r : RealmParts) → is_realm r ≡ true → are_ascending (λ (a : AcrLevel). a.name) r.acr ≡ true
levels_ascend r h = (and_parts (are_ascending (λ (a : AcrLevel). a.name) r.acr) _ (rules_kept r h).levels).0

record AreClients (r : RealmParts) : Type 0 where
  count : is_within 1 64 (length r.clients) ≡ true
  bound : list_all (λ (c : Client). is_bound r.flow c.level) r.clients ≡ true
  apart : are_apart (λ (c : Client). c.id) r.clients ≡ true

clients_kept : (r : RealmParts) → is_realm r ≡ true → AreClients r
clients_kept r h =
    let apart = and_parts _ (are_apart (λ (c : Client). c.id) r.clients) (rules_kept r h).clients in
    let bound = and_parts (is_within 1 64 (length r.clients)) (list_all (λ (c : Client). is_bound r.flow c.level) r.clients) apart.0 in
    record { count = bound.0; bound = bound.1; apart = apart.1 }

pub client_count : (r : RealmParts) → is_realm r ≡ true → is_within 1 64 (length r.clients) ≡ true
client_count r h = (clients_kept r h).count

pub clients_ranged : (r : RealmParts) → is_realm r ≡ true → list_all is_client_in_range r.clients ≡ true
clients_ranged r h =
    both (λ (c : Client). is_name c.id) (λ (c : Client). nat_le c.level 1000) r.clients (names_kept r h).clients
    (each_also (λ (c : Client). is_bound r.flow c.level) _ r.clients (λ c k. small r.flow c.level k) (clients_kept r h).bound)

pub users_ranged : (r : RealmParts) → is_realm r ≡ true → list_all is_user_in_range r.users ≡ true
users_ranged r h =
    both is_user_named has_secrets_in_range r.users (names_kept r h).users
    (and_parts (is_digest r.admin_key) (list_all has_secrets_in_range r.users) (rules_kept r h).secrets).1

pub admin_key_kept : (r : RealmParts) → is_realm r ≡ true → is_digest r.admin_key ≡ true
admin_key_kept r h = (and_parts (is_digest r.admin_key) (list_all has_secrets_in_range r.users) (rules_kept r h).secrets).0

pub flow_ranged : (r : RealmParts) → is_realm r ≡ true → AreRanged r.flow
flow_ranged r h = (1, (rules_kept r h).ages)

-- none of a tree's executions stands deeper than 8
pub flow_shallow : (es : List Exec) → fault_of es ≡ None → are_shallow (places_at 1 es) ≡ true
flow_shallow es sound = none_deep [] (places_at 1 es) (not_deep es sound)

-- ---- names that are apart

none_same : (a b : Bool) → (a || b) ≡ false → (a ≡ false) × (b ≡ false)
none_same false false h = (refl, refl)
none_same false true h = absurd cc
none_same true b h = absurd cc

-- none of the items has an earlier name
abbrev are_new : {A : Type 0} → (A → List ℕ) → List (List ℕ) → List A → Bool
are_new name earlier items = list_all (λ item. not (is_among earlier (name item))) items

not_among : (b c : Bool) → not b ≡ true → c ≡ false → not (b || (c || false)) ≡ true
not_among true c h k = absurd cc
not_among false true h k = absurd cc
not_among false false h k = refl

new_behind : {A : Type 0} (name : A → List ℕ) (earlier : List (List ℕ)) (n : List ℕ) (items : List A) → are_new name earlier items ≡ true
    → list_any (λ other. bytes_eq n (name other)) items ≡ false → are_new name (earlier ++ n ∷ []) items ≡ true
new_behind name earlier n [] h k = refl
new_behind name earlier n (item ∷ items) h k =
    let first = and_parts (not (is_among earlier (name item))) (are_new name earlier items) h in
    let second = none_same (bytes_eq n (name item)) (list_any (λ other. bytes_eq n (name other)) items) k in
    let here : not (is_among (earlier ++ n ∷ []) (name item)) ≡ true =
    rw list_any-append (not_among (is_among earlier (name item)) (bytes_eq (name item) n) first.0 (bytes_eq-sym (name item) n ∙ second.0)) in
    rw (here, new_behind name earlier n items first.1 second.1) refl

not_is : (b : Bool) → not b ≡ true → b ≡ false
not_is true h = absurd cc
not_is false h = refl

none_doubled : {A : Type 0} (name : A → List ℕ) (earlier : List (List ℕ)) (i : ℕ) (items : List A) → are_new name earlier items ≡ true
    → are_apart name items ≡ true → doubled_from name earlier i items ≡ None
unfolding doubled_from are_apart
none_doubled name earlier i [] new apart = refl
none_doubled name earlier i (item ∷ items) new apart =
    let first = and_parts (not (is_among earlier (name item))) (are_new name earlier items) new in
    let second = and_parts (not (list_any (λ other. bytes_eq (name item) (name other)) items)) (are_apart name items) apart in
    let rest = none_doubled name (earlier ++ name item ∷ []) (i + 1) items (new_behind name earlier (name item) items first.1 (not_is _ second.0)) second.1 in
    rw (not_is _ first.0, rest) refl

all_new : {A : Type 0} (name : A → List ℕ) (items : List A) → are_new name [] items ≡ true
all_new name [] = refl
all_new name (item ∷ items) = all_new name items

-- ---- levels that a condition asks

bound_at : (flow : List Exec) (level : ℕ) → is_bound flow level ≡ true → not (level == 0 || is_some (live_age level flow)) ≡ false
bound_at flow level h = rw ((and_parts (nat_le level 1000) (level == 0 || is_some (live_age level flow)) h).1) refl

acr_kept : (flow : List Exec) (acr : List AcrLevel) → list_all (λ (a : AcrLevel). is_bound flow a.level) acr ≡ true → acr_bound flow acr ≡ Ok tt
unfolding acr_bound
acr_kept flow [] h = refl
acr_kept flow (a ∷ acr) h =
    let parts = and_parts (is_bound flow a.level) (list_all (λ (b : AcrLevel). is_bound flow b.level) acr) h in
    rw (bound_at flow a.level parts.0) (acr_kept flow acr parts.1)

clients_bound_kept : (flow : List Exec) (i : ℕ) (clients : List Client) → list_all (λ (c : Client). is_bound flow c.level) clients ≡ true
    → clients_bound flow i clients ≡ Ok tt
unfolding clients_bound
clients_bound_kept flow i [] h = refl
clients_bound_kept flow i (c ∷ clients) h =
    let parts = and_parts (is_bound flow c.level) (list_all (λ (b : Client). is_bound flow b.level) clients) h in
    rw (bound_at flow c.level parts.0) (clients_bound_kept flow (i + 1) clients parts.1)

-- ---- the rules that go beyond the tables

rules_back : (r : RealmParts) → is_realm r ≡ true → fault_of r.flow ≡ None → by_rules r ≡ Ok r
unfolding by_rules
rules_back r h tree =
    let ids : doubled_from (λ (c : Client). c.id) [] 0 r.clients ≡ None =
    none_doubled (λ (c : Client). c.id) [] 0 r.clients (all_new (λ (c : Client). c.id) r.clients) (clients_kept r h).apart in
    let users : doubled_from (λ (u : RealmUser). u.name) [] 0 r.users ≡ None =
    none_doubled (λ (u : RealmUser). u.name) [] 0 r.users (all_new (λ (u : RealmUser). u.name) r.users) (and_parts (nat_le (length r.users) 10000) (are_apart (λ (u : RealmUser). u.name) r.users) (rules_kept r h).users).1 in
    let acr = acr_kept r.flow r.acr (and_parts (are_ascending (λ (a : AcrLevel). a.name) r.acr) _ (rules_kept r h).levels).1 in
    let clients = clients_bound_kept r.flow 0 r.clients (clients_kept r h).bound in
    rw (tree, ids, users, acr, clients) refl

-- ---- the tables

module _ (r : RealmParts) (a b c : Members) (h : PutsHead r no_members a) (s : PutsSettings r a b) (l : PutsLists r b c) where
  abbrev fields : Fields
  fields =
      (codes "user", l.users) ∷ (codes "client", Some l.clients) ∷ (codes "acr", l.acr) ∷ (codes "lockout", Some s.lockout) ∷ (codes "recovery", Some s.recovery)
      ∷ (codes "otp", Some s.otp) ∷ (codes "password", Some s.password) ∷ (codes "session", Some s.session) ∷ (codes "flow", Some h.flow)
      ∷ (codes "admin_key", Some h.admin_key) ∷ (codes "realm", Some h.name) ∷ (codes "format", Some (integer (pos 1))) ∷ []

  is_made : c ≡ made fields
  unfolding made
  is_made = rw (l.members, s.members, h.members) refl

  settings_back : settings_fields (made fields) ≡ Ok (record {
    session = r.session;
    iterations = r.iterations;
    otp = r.otp;
    recovery_count = r.recovery_count;
    lockout = r.lockout;
  })
  unfolding settings_fields
  settings_back =
      let session = required_made [] (codes "session") fields session_in s.session r.session refl s.session_read in
      let iterations = required_made [] (codes "password") fields (lone_number (codes "iterations") 1 2000000) s.password r.iterations refl s.password_read in
      let otp = required_made [] (codes "otp") fields otp_rule_in s.otp r.otp refl s.otp_read in
      let count = required_made [] (codes "recovery") fields (lone_number (codes "count") 1 16) s.recovery r.recovery_count refl s.recovery_read in
      let lockout = required_made [] (codes "lockout") fields policy_in s.lockout r.lockout refl s.lockout_read in
      rw (session, iterations, otp, count, lockout) refl

  draft_back : draft_fields (made fields) ≡ Ok (record {
    name = r.name;
    admin_key = r.admin_key;
    flow = r.flow;
    settings = record { session = r.session; iterations = r.iterations; otp = r.otp; recovery_count = r.recovery_count; lockout = r.lockout };
    acr = r.acr;
    clients = r.clients;
    users = r.users;
  })
  unfolding draft_fields
  draft_back =
      let keys : check_realm_keys (made fields) ≡ Ok tt = only_made (is_among realm_keys) [] fields refl in
      let format = required_made [] (codes "format") fields (number_in 1 1) (integer (pos 1)) 1 refl (number_back 1 1 1 refl) in
      let name = required_made [] (codes "realm") fields (word_in name_of) h.name r.name refl h.name_read in
      let admin_key = required_made [] (codes "admin_key") fields (word_in digest_of) h.admin_key r.admin_key refl h.admin_key_read in
      let flow = required_made [] (codes "flow") fields execs_in h.flow r.flow refl h.flow_read in
      let acr = listed_made [] (codes "acr") fields levels_in l.acr r.acr (lone l.acr) l.acr_read in
      let clients = required_made [] (codes "client") fields (few_in 1 64 client_in) l.clients r.clients refl l.clients_read in
      let users = listed_made [] (codes "user") fields (few_in 0 10000 user_in) l.users r.users (lone l.users) l.users_read in
      rw (keys, format, name, admin_key, flow, settings_back, acr, clients, users) refl

  pub realm_back : is_realm r ≡ true → fault_of r.flow ≡ None → realm_in c ≡ Ok r
  realm_back kept tree = rw (is_made, draft_back) (rules_back r kept tree)

  plain_fields : AllPlain 80 fields
  plain_fields = (
    if_wider 3 80 l.users l.users_plain (omega arith),
    (
      wider 2 80 l.clients l.clients_plain (omega arith),
      (
        if_wider 1 80 l.acr l.acr_plain (omega arith),
        (
          wider 1 80 s.lockout s.lockout_plain (omega arith),
          (
            wider 1 80 s.recovery s.recovery_plain (omega arith),
            (
              wider 1 80 s.otp s.otp_plain (omega arith),
              (
                wider 1 80 s.password s.password_plain (omega arith),
                (
                  wider 1 80 s.session s.session_plain (omega arith),
                  (
                    wider 17 80 h.flow h.flow_plain (omega arith),
                    (
                      wider 0 80 h.admin_key h.admin_key_plain (omega arith),
                      (
                        wider 0 80 h.name h.name_plain (omega arith),
                        (plain_number 80 1, tt),
                      ),
                    ),
                  ),
                ),
              ),
            ),
          ),
        ),
      ),
    ),
  )

  pub realm_plain : ArePlain 80 c
  realm_plain = rw is_made (plain_made 80 fields plain_fields)
