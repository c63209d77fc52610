-- The facts of a start.
use Rattle.std.proofs.Common.{◌≡◌, ℕ, ◌+◌, ◌*◌, ◌≤◌, Bool, true, false, ◌||◌, List, [], ◌∷◌, ◌++◌, Option, Some, None, refl, ap, sym, subst, ◌∙◌, ◌<◌, suc, length, drop, get_or, append_assoc, arith}
use Rattle.std.specs.Prelude.{is_some, fold, if◌then◌else◌}
use Rattle.std.specs.List.{list_any}
use Rattle.std.specs.Option.{option_or}
use Rattle.std.proofs.Math.Seq.{drop-cons}
use Rattle.std.proofs.lemmas.List.{append-nil, drop_all}
use Rattle.std.proofs.lemmas.List.Folds.{list_any-append}
use Rattle.login_base.specs.declared.id.UserId.{UserId}
use Rattle.facts.specs.declared.fact.Fact.{Fact}
use Rattle.realm_data.specs.declared.realm_parts.RealmParts.{RealmParts}
use Rattle.realm_data.specs.declared.realm_parts.RealmUser.{RealmUser}
use Rattle.facts.specs.Accounts.{account_named}
use Rattle.realm_data.specs.PasswordHash.{HashedPassword}
use Rattle.realm_data.specs.declared.action.Action.{Action}
use Rattle.realm_data.specs.RealmBuiltin.{builtin_realm}
use Rattle.facts.specs.declared.fact.Fact.TheVariants as events
use Rattle.facts.specs.Places.{last_of}
use Rattle.facts.specs.Realms.{current_realm, has_realm, realm_put, last_version, version_after}
use Rattle.facts.specs.Serials.{last_tab_serial, last_stored_serial, tab_serial_after, stored_serial_after}
use Rattle.facts.proofs.InForce.{has_realm_more, last_version_more}
use Rattle.facts.proofs.PlacesLemmas.{last_of_append}
use Rattle.facts.proofs.SerialLemmas.{last_tab_serial_more, last_stored_serial_more}
use Rattle.admin_asks.specs.Account.{GivenSecrets, disabled_facts, otp_facts, recovery_facts, count, secret_facts, action_facts, account_facts, serials_of}
use Rattle.hall_answers.specs.Passwords.{password_facts}
use Rattle.login_hall.specs.Legal.{RaisesAtStart}
use Rattle.login_hall.specs.Start.{IsStart, IsPut, is_mark, realm_facts, secrets_of, user_facts, new_user_facts, serial_after, users_facts, users_after, start_facts}

-- ---- no mark is among them

pub both_without : (front back : List Fact) → list_any is_mark front ≡ false → list_any is_mark back ≡ false → list_any is_mark (front ++ back) ≡ false
both_without front back f b = list_any-append is_mark front back ∙ ap (λ x. x || list_any is_mark back) f ∙ b

disabled_without : (user : UserId) (enabled : Bool) → list_any is_mark (disabled_facts user enabled) ≡ false
disabled_without user true = refl
disabled_without user false = refl

password_without : (user : UserId) (serial : ℕ) (password : Option HashedPassword) → list_any is_mark (password_facts user serial password None) ≡ false
password_without user serial None = refl
password_without user serial (Some hash) = refl

otp_without : (user : UserId) (serial : ℕ) (otp : Option (List ℕ)) → list_any is_mark (otp_facts user serial otp) ≡ false
otp_without user serial None = refl
otp_without user serial (Some key) = refl

recovery_without : (user : UserId) (serial : ℕ) (recovery : Option (List (List ℕ))) → list_any is_mark (recovery_facts user serial recovery) ≡ false
recovery_without user serial None = refl
recovery_without user serial (Some digests) = refl

secrets_without : (user : UserId) (last : ℕ) (given : GivenSecrets) → list_any is_mark (secret_facts user last given) ≡ false
secrets_without user last given =
    let first = password_facts user (last + 1) given.password None in
    let second = otp_facts user (last + count given.password + 1) given.otp in
    let third = recovery_facts user (last + count given.password + count given.otp + 1) given.recovery in
    both_without (first ++ second) third
    (both_without first second (password_without user (last + 1) given.password) (otp_without user (last + count given.password + 1) given.otp))
    (recovery_without user (last + count given.password + count given.otp + 1) given.recovery)

actions_without : (user : UserId) (actions : List Action) → list_any is_mark (action_facts user actions) ≡ false
actions_without user [] = refl
actions_without user (action ∷ actions) = actions_without user actions

user_without : (user : UserId) (given : RealmUser) → list_any is_mark (user_facts user given) ≡ false
user_without user given =
    let disabled = disabled_facts user given.enabled in
    let secrets = secret_facts user user.0 (secrets_of given) in
    both_without (disabled ++ secrets) (action_facts user given.actions)
    (both_without disabled secrets (disabled_without user given.enabled) (secrets_without user user.0 (secrets_of given))) (actions_without user given.actions)

new_user_without : (serial : ℕ) (given : RealmUser) (known : Bool) → list_any is_mark (if known then [] else user_facts (record { 0 = serial + 1 }) given) ≡ false
new_user_without serial given true = refl
new_user_without serial given false = user_without (record { 0 = serial + 1 }) given

users_without : (base : List Fact) (serial : ℕ) (users : List RealmUser) → list_any is_mark (users_facts base serial users) ≡ false
unfolding users_facts
users_without base serial [] = refl
users_without base serial (given ∷ users) =
    both_without (new_user_facts base serial given) (users_facts base (serial_after base serial given) users)
    (new_user_without serial given (is_some (account_named given.name base))) (users_without base (serial_after base serial given) users)

realm_without : (last : ℕ) (put : Option RealmParts) → list_any is_mark (realm_facts last put) ≡ false
realm_without last None = refl
realm_without last (Some realm) = refl

pub start_without : (base : List Fact) (put : Option RealmParts) → list_any is_mark (start_facts base put) ≡ false
unfolding start_facts
start_without base put =
    both_without (realm_facts (last_version base) put) (users_facts base (last_stored_serial base) (users_after put (current_realm base)))
    (realm_without (last_version base) put) (users_without base (last_stored_serial base) (users_after put (current_realm base)))

pub no_mark : (base : List Fact) (realm : Option RealmParts) (added : List Fact) → IsStart base realm added → list_any is_mark added ≡ false
no_mark base realm added start = ap (list_any is_mark) start.facts ∙ start_without base start.put

-- ---- one user after the other

pub users_step : (base added : List Fact) (serial : ℕ) (given : RealmUser) (users rest : List RealmUser) → users ≡ given ∷ rest
    → (added ++ new_user_facts base serial given) ++ users_facts base (serial_after base serial given) rest ≡ added ++ users_facts base serial users
unfolding users_facts
users_step base added serial given users rest h =
    append_assoc added (new_user_facts base serial given) (users_facts base (serial_after base serial given) rest) ∙ ap (λ us. added ++ users_facts base serial us) (sym h)

pub dropped : (users : List RealmUser) (i : ℕ) (given : RealmUser) → i < length users → given ≡ get_or users i given → drop i users ≡ given ∷ drop (i + 1) users
dropped users i given within is =
    let next : suc i ≡ i + 1 = omega arith in
    drop-cons users i given within ∙ ap (λ g. g ∷ drop (suc i) users) (sym is) ∙ ap (λ k. given ∷ drop k users) next

pub users_end : (base added : List Fact) (serial : ℕ) (users : List RealmUser) (i : ℕ) → length users ≤ i → added ≡ added ++ users_facts base serial (drop i users)
unfolding users_facts
users_end base added serial users i h = sym (ap (λ us. added ++ users_facts base serial us) (drop_all i users h) ∙ append-nil added)

-- ---- a hall that has started has a realm

none_put : (current : Option RealmParts) → None ≡ (if is_some current then None else Some builtin_realm) → is_some current ≡ true
none_put (Some realm) h = refl
none_put None h = absurd cc

kept_realm : (base : List Fact) (realm : Option RealmParts) → IsPut base realm None → is_some (current_realm base) ≡ true
kept_realm base None h = none_put (current_realm base) h
kept_realm base (Some realm) h = ap is_some h

first_there : (later : Option RealmParts) (realm : RealmParts) (old : Option RealmParts) → is_some (option_or (option_or later (Some realm)) old) ≡ true
first_there (Some other) realm old = refl
first_there None realm old = refl

-- a realm that is put behind facts is there
put_realm : (base more : List Fact) (version : ℕ) (realm : RealmParts) → has_realm (base ++ events.RealmPut version realm ∷ more) ≡ true
unfolding has_realm current_realm
put_realm base more version realm =
    ap is_some (last_of_append realm_put base (events.RealmPut version realm ∷ more)) ∙ first_there (last_of realm_put more) realm (last_of realm_put base)

with_put : (base : List Fact) (realm put : Option RealmParts) → IsPut base realm put → has_realm (base ++ start_facts base put) ≡ true
unfolding start_facts has_realm
with_put base realm None h = has_realm_more base (start_facts base None) (kept_realm base realm h)
with_put base realm (Some put) h = put_realm base (users_facts base (last_stored_serial base) (users_after (Some put) (current_realm base))) (last_version base + 1) put

pub started_has_realm : (base : List Fact) (realm : Option RealmParts) (added : List Fact) → IsStart base realm added → has_realm (base ++ added) ≡ true
started_has_realm base realm added start = ap (λ l. has_realm (base ++ l)) start.facts ∙ with_put base realm start.put start.is_put

-- ---- how far a start raises the counters

-- the facts leave the tab counter and the version, and bring the stored counter to this number at most
pub record Adds (old more : List Fact) (top : ℕ) : Type 0 where
  pub tabs : last_tab_serial (old ++ more) ≡ last_tab_serial old
  pub stored : last_stored_serial (old ++ more) ≤ top
  pub version : last_version (old ++ more) ≡ last_version old

nothing_adds : (old : List Fact) (top : ℕ) → last_stored_serial old ≤ top → Adds old [] top
nothing_adds old top h = record {
  tabs = ap last_tab_serial (append-nil old);
  stored = let e = ap last_stored_serial (append-nil old) in omega (arith, h);
  version = ap last_version (append-nil old);
}

adds_more : (old more : List Fact) (top : ℕ) → fold tab_serial_after (last_tab_serial old) more ≡ last_tab_serial old → fold stored_serial_after (last_stored_serial old) more ≤ top
    → fold version_after (last_version old) more ≡ last_version old → Adds old more top
adds_more old more top tabs stored version = record {
  tabs = last_tab_serial_more old more ∙ tabs;
  stored = let e = last_stored_serial_more old more in omega (arith, stored);
  version = last_version_more old more ∙ version;
}

-- first these, then those
both_add : (old front back : List Fact) (middle top : ℕ) → Adds old front middle → Adds (old ++ front) back top → Adds old (front ++ back) top
both_add old front back middle top f b =
    let e = append_assoc old front back in
    record {
      tabs = sym (ap last_tab_serial e) ∙ b.tabs ∙ f.tabs;
      stored = let t = ap last_stored_serial e in let s = b.stored in omega (arith, s, t);
      version = sym (ap last_version e) ∙ b.version ∙ f.version;
    }

put_adds : (old : List Fact) (user : UserId) (name : List ℕ) (roles : List (List ℕ)) (enabled : Bool) → last_stored_serial old ≤ user.0
    → Adds old (events.UserPut user name roles ∷ disabled_facts user enabled) user.0
put_adds old user name roles true h = adds_more old _ user.0 refl (omega (arith, h)) refl
put_adds old user name roles false h = adds_more old _ user.0 refl (omega (arith, h)) refl

password_adds : (old : List Fact) (user : UserId) (last : ℕ) (password : Option HashedPassword) → last_stored_serial old ≤ last → Adds old (password_facts user (last + 1) password None) (last + count password)
password_adds old user last None h = nothing_adds old (last + 0) (omega (arith, h))
password_adds old user last (Some hash) h = adds_more old _ (last + 1) refl (omega (arith, h)) refl

otp_adds : (old : List Fact) (user : UserId) (last : ℕ) (otp : Option (List ℕ)) → last_stored_serial old ≤ last → Adds old (otp_facts user (last + 1) otp) (last + count otp)
otp_adds old user last None h = nothing_adds old (last + 0) (omega (arith, h))
otp_adds old user last (Some key) h = adds_more old _ (last + 1) refl (omega (arith, h)) refl

recovery_adds : (old : List Fact) (user : UserId) (last : ℕ) (recovery : Option (List (List ℕ))) → last_stored_serial old ≤ last → Adds old (recovery_facts user (last + 1) recovery) (last + count recovery)
recovery_adds old user last None h = nothing_adds old (last + 0) (omega (arith, h))
recovery_adds old user last (Some digests) h = adds_more old _ (last + 1) refl (omega (arith, h)) refl

secrets_add : (old : List Fact) (user : UserId) (last : ℕ) (given : GivenSecrets) → last_stored_serial old ≤ last
    → Adds old (secret_facts user last given) (last + count given.password + count given.otp + count given.recovery)
secrets_add old user last given h =
    let first = password_facts user (last + 1) given.password None in
    let second = otp_facts user (last + count given.password + 1) given.otp in
    let third = recovery_facts user (last + count given.password + count given.otp + 1) given.recovery in
    let one = password_adds old user last given.password h in
    let two = otp_adds (old ++ first) user (last + count given.password) given.otp one.stored in
    let three = recovery_adds ((old ++ first) ++ second) user (last + count given.password + count given.otp) given.recovery two.stored in
    let front = both_add old first second (last + count given.password) (last + count given.password + count given.otp) one two in
    let e = append_assoc old first second in
    both_add old (first ++ second) third (last + count given.password + count given.otp) (last + count given.password + count given.otp + count given.recovery) front
    (subst (λ (fs : List Fact). Adds fs third (last + count given.password + count given.otp + count given.recovery)) e three)

same_top : (old more : List Fact) (top other : ℕ) → top ≡ other → Adds old more top → Adds old more other
same_top old more top other e adds = subst (λ (n : ℕ). Adds old more n) e adds

-- actions take no serial
tabs_require : (n : ℕ) (user : UserId) (actions : List Action) → fold tab_serial_after n (action_facts user actions) ≡ n
tabs_require n user [] = refl
tabs_require n user (action ∷ actions) = tabs_require n user actions

stored_require : (n : ℕ) (user : UserId) (actions : List Action) → fold stored_serial_after n (action_facts user actions) ≡ n
stored_require n user [] = refl
stored_require n user (action ∷ actions) = stored_require n user actions

version_requires : (n : ℕ) (user : UserId) (actions : List Action) → fold version_after n (action_facts user actions) ≡ n
version_requires n user [] = refl
version_requires n user (action ∷ actions) = version_requires n user actions

actions_add : (old : List Fact) (user : UserId) (actions : List Action) (top : ℕ) → last_stored_serial old ≤ top → Adds old (action_facts user actions) top
actions_add old user actions top h =
    let s = stored_require (last_stored_serial old) user actions in
    adds_more old (action_facts user actions) top (tabs_require (last_tab_serial old) user actions) (omega (arith, h, s)) (version_requires (last_version old) user actions)

account_adds : (old : List Fact) (serial : ℕ) (name : List ℕ) (roles : List (List ℕ)) (enabled : Bool) (given : GivenSecrets) (actions : List Action) → last_stored_serial old ≤ serial
    → Adds old (account_facts (record { 0 = serial + 1 }) name roles enabled given actions) (serial + serials_of given)
account_adds old serial name roles enabled given actions h =
    let user : UserId = record { 0 = serial + 1 } in
    let put = events.UserPut user name roles ∷ disabled_facts user enabled in
    let secrets = secret_facts user (serial + 1) given in
    let top = serial + 1 + count given.password + count given.otp + count given.recovery in
    let front : Adds old put (serial + 1) = put_adds old user name roles enabled (omega (arith, h)) in
    let middle : Adds (old ++ put) secrets top = secrets_add (old ++ put) user (serial + 1) given front.stored in
    let first : Adds old (put ++ secrets) top = both_add old put secrets (serial + 1) top front middle in
    let back : Adds (old ++ (put ++ secrets)) (action_facts user actions) top = actions_add (old ++ (put ++ secrets)) user actions top first.stored in
    same_top old (account_facts user name roles enabled given actions) top (serial + serials_of given) (omega arith)
    (both_add old (put ++ secrets) (action_facts user actions) top top first back)

user_adds : (base old : List Fact) (serial : ℕ) (given : RealmUser) (known : Bool) → last_stored_serial old ≤ serial
    → Adds old (if known then [] else user_facts (record { 0 = serial + 1 }) given) (if known then serial else serial + serials_of (secrets_of given))
user_adds base old serial given true h = nothing_adds old serial h
user_adds base old serial given false h = account_adds old serial given.name given.roles given.enabled (secrets_of given) given.actions h

one_at_most : {A : Type 0} (given : Option A) → count given ≤ 1
one_at_most None = omega arith
one_at_most (Some x) = omega arith

few_serials : (serial : ℕ) (given : GivenSecrets) (known : Bool) → (if known then serial else serial + serials_of given) ≤ serial + 4
few_serials serial given true = omega arith
few_serials serial given false =
    let p = one_at_most given.password in let o = one_at_most given.otp in let r = one_at_most given.recovery in omega (arith, p, o, r)

users_add : (base old : List Fact) (serial : ℕ) (users : List RealmUser) → last_stored_serial old ≤ serial → Adds old (users_facts base serial users) (serial + 4 * length users)
unfolding users_facts
users_add base old serial [] h = nothing_adds old (serial + 4 * 0) (omega (arith, h))
users_add base old serial (given ∷ users) h =
    let known = is_some (account_named given.name base) in
    let front = new_user_facts base serial given in
    let next = serial_after base serial given in
    let back = users_facts base next users in
    let first : Adds old front next = user_adds base old serial given known h in
    let rest : Adds (old ++ front) back (next + 4 * length users) = users_add base (old ++ front) next users first.stored in
    let few : next ≤ serial + 4 = few_serials serial (secrets_of given) known in
    let e = append_assoc old front back in
    record {
      tabs = sym (ap last_tab_serial e) ∙ rest.tabs ∙ first.tabs;
      stored = let t = ap last_stored_serial e in let s = rest.stored in omega (arith, few, s, t);
      version = sym (ap last_version e) ∙ rest.version ∙ first.version;
    }

-- the facts of a realm, and behind them those of at most 10,000 users
pub start_raises : (base : List Fact) (put : Option RealmParts) → length (users_after put (current_realm base)) ≤ 10000 → RaisesAtStart base (base ++ start_facts base put)
unfolding start_facts
start_raises base None few =
    let users = users_after None (current_realm base) in
    let added = users_add base base (last_stored_serial base) users (omega arith) in
    record { tabs = added.tabs; stored = let s = added.stored in omega (arith, few, s); version = let v = added.version in omega (arith, v) }
start_raises base (Some realm) few =
    let put = events.RealmPut (last_version base + 1) realm ∷ [] in
    let users = users_after (Some realm) (current_realm base) in
    let same : last_stored_serial (base ++ put) ≡ last_stored_serial base = last_stored_serial_more base put in
    let added = users_add base (base ++ put) (last_stored_serial base) users (omega (arith, same)) in
    let e = append_assoc base put (users_facts base (last_stored_serial base) users) in
    record {
      tabs = sym (ap last_tab_serial e) ∙ added.tabs ∙ last_tab_serial_more base put;
      stored = let t = ap last_stored_serial e in let s = added.stored in omega (arith, few, s, t);
      version = let t = ap last_version e in let v = added.version in let w : last_version (base ++ put) ≡ last_version base + 1 = last_version_more base put in omega (arith, t, v, w);
    }

pub started_raises : (base : List Fact) (realm : Option RealmParts) (added : List Fact) → IsStart base realm added → RaisesAtStart base (base ++ added)
started_raises base realm added start =
    let P : List Fact → Type 0 = λ more. RaisesAtStart base (base ++ more) in
    subst P (sym start.facts) (start_raises base start.put start.few)
