-- What stands where nothing refused.
use Rattle.std.proofs.Common.{◌≡◌, ℕ, Bool, true, false, List, Some, None, refl, sym, ap, ◌∙◌}
use Rattle.std.specs.Prelude.{Option, Result, Ok, Err, ◌==◌, if◌then◌else◌}
use Rattle.std.specs.Option.{option_or}
use Rattle.std.proofs.lemmas.Bool.{eq-eqb, eqb-true}
use Rattle.login_base.specs.declared.id.TabKey.{TabKey}
use Rattle.login_base.specs.declared.id.UserId.{UserId}
use Rattle.facts.specs.declared.fact.Fact.{Fact}
use Rattle.facts.specs.declared.tabs.RootSession.{RootSession}
use Rattle.account_states.specs.States.{is_closed}
use Rattle.account_states.specs.Standings.{standing_of}
use Rattle.lockout.specs.Standing.{is_locked}
use Rattle.facts.specs.Tabs.{user_among}
use Rattle.hall_answers.specs.declared.answer.Answer.{Answer}
use Rattle.hall_answers.specs.declared.refusal.Refusal.{Refusal}
use Rattle.hall_answers.specs.declared.refusal.Refusal.TheVariants as refusals
use Rattle.hall_answers.specs.Refusals.{◌>>=◌, what_of, settled}
use Rattle.tab_pages.specs.Visit.{same_user, user_of, check_unlocked, check_enabled, check_account}
use Rattle.hall_laws.specs.Ready.{done_for}

pub first_passed : {A : Type 0} (first : Result (Unit {0}) Refusal) (more : Unit {0} → Result A Refusal) (x : A)
    → (first >>= more) ≡ Ok x → (first ≡ Ok tt) × (more tt ≡ Ok x)
first_passed (Ok u) more x h = (refl, h)
first_passed (Err refusal) more x h = absurd cc

pub test_passed : (b : Bool) (refusal : Refusal) → ◌≡◌ {A = Result (Unit {0}) Refusal} (if b then Ok tt else Err refusal) (Ok tt) → b ≡ true
test_passed true refusal h = refl
test_passed false refusal h = absurd cc

pub test_failed : (b : Bool) (refusal : Refusal) → ◌≡◌ {A = Result (Unit {0}) Refusal} (if b then Err refusal else Ok tt) (Ok tt) → b ≡ false
test_failed true refusal h = absurd cc
test_failed false refusal h = refl

-- ---- one user

pub user_is : (a b : UserId) → a.0 ≡ b.0 → a ≡ b
user_is a b h = ap (λ (n : ℕ). let user : UserId = record { 0 = n } in user) h

pub same_is : (a b : UserId) → same_user (Some a) (Some b) ≡ Ok tt → a ≡ b
same_is a b h = user_is a b (eqb-true a.0 b.0 (test_passed (a.0 == b.0) (refusals.OtherUser a b) h))

pub is_same : (a b : UserId) → a ≡ b → same_user (Some a) (Some b) ≡ Ok tt
is_same a b h = let e : a.0 ≡ b.0 = ap (λ (user : UserId). user.0) h in rw (eq-eqb a.0 b.0 e) refl

-- the named user is the live session's, where both are there
abbrev pub AreOne : Option UserId → Option RootSession → Type 0
AreOne named live = (user : UserId) (own : RootSession) → named ≡ Some user → live ≡ Some own → user ≡ own.user

pub whole_is : (named : Option UserId) (live : Option RootSession) → same_user named (user_of live) ≡ Ok tt → AreOne named live
whole_is None live h user own is_named is_live = absurd cc
whole_is (Some first) None h user own is_named is_live = absurd cc
whole_is (Some first) (Some found) h user own is_named is_live =
    let e : first ≡ found.user = same_is first found.user h in
    let n : first ≡ user = cc in
    let l : found ≡ own = cc in
    sym n ∙ e ∙ ap (λ (s : RootSession). s.user) l

pub is_whole : (named : Option UserId) (live : Option RootSession) → AreOne named live → same_user named (user_of live) ≡ Ok tt
is_whole None live h = refl
is_whole (Some first) None h = refl
is_whole (Some first) (Some found) h = is_same first found.user (h first found refl refl)

-- both are the live session's, so the one that counts is
pub same_either : (named first own : Option UserId) → same_user named own ≡ Ok tt → same_user first own ≡ Ok tt → same_user (option_or named first) own ≡ Ok tt
same_either (Some user) first own named_same first_same = named_same
same_either None first own named_same first_same = first_same

-- whom a form names comes before whose login it is, and the live session before both
pub concerned_is : (named first : Option UserId) (live : Option RootSession) → same_user named (user_of live) ≡ Ok tt
    → option_or named (user_among live first) ≡ user_among live (option_or named first)
concerned_is None first live h = refl
concerned_is (Some user) first None h = refl
concerned_is (Some user) first (Some own) h = ap Some (same_is user own.user h)

-- the account is neither locked nor closed
pub record IsOpen (facts : List Fact) (moment : ℕ) (user : UserId) : Type 0 where
  pub unlocked : is_locked (standing_of user facts) moment ≡ false
  pub enabled : is_closed user facts ≡ false

pub open_is : (facts : List Fact) (moment : ℕ) (user : UserId) → check_account facts moment (Some user) ≡ Ok tt → IsOpen facts moment user
unfolding check_account check_unlocked check_enabled
open_is facts moment user h =
    let standing = standing_of user facts in
    let both = first_passed (check_unlocked moment standing) _ tt h in
    record {
      unlocked = test_failed (is_locked standing moment) (refusals.Locked standing.until) both.0;
      enabled = test_failed (is_closed user facts) refusals.Disabled both.1;
    }

pub is_open : (facts : List Fact) (moment : ℕ) (user : UserId) → IsOpen facts moment user → check_account facts moment (Some user) ≡ Ok tt
unfolding check_account check_unlocked check_enabled
is_open facts moment user opened = rw (opened.unlocked, opened.enabled) refl

-- ---- refusals complete no login

not_done : (facts : List Fact) (refusal : Refusal) → done_for (what_of facts refusal) ≡ None
not_done facts refusals.WrongKey = refl
not_done facts refusals.UserTaken = refl
not_done facts refusals.TooManyUsers = refl
not_done facts refusals.NoSuchUser = refl
not_done facts refusals.AccountDisabled = refl
not_done facts refusals.RealmRefused = refl
not_done facts refusals.TooManyTokens = refl
not_done facts refusals.NothingThere = refl
not_done facts refusals.NoSuchSession = refl
not_done facts refusals.UnknownClient = refl
not_done facts refusals.LevelUnknown = refl
not_done facts refusals.TooManyRoots = refl
not_done facts (refusals.TooManyTabs count) = refl
not_done facts refusals.UnknownTab = refl
not_done facts refusals.TabExpired = refl
not_done facts (refusals.Stale current) = refl
not_done facts (refusals.OtherUser tab session) = refl
not_done facts refusals.Finished = refl
not_done facts refusals.NotAsked = refl
not_done facts (refusals.Locked until) = refl
not_done facts refusals.Disabled = refl
not_done facts (refusals.CredentialMoved had now) = refl
not_done facts refusals.TokenUnknown = refl
not_done facts refusals.TokenSpent = refl
not_done facts (refusals.TokenExpired expiry) = refl

-- what was answered, where the login completes
pub record Settled {A : Type 0} (answer : A → Answer) (result : Result A Refusal) (user : UserId) : Type 0 where
  pub got : A
  pub is_got : result ≡ Ok got
  pub done : done_for (answer got).reply.what ≡ Some user

pub settled_done : {A : Type 0} (facts : List Fact) (tab : Option TabKey) (answer : A → Answer) (result : Result A Refusal) (user : UserId)
    → done_for (settled facts tab answer result).reply.what ≡ Some user → Settled answer result user
settled_done facts tab answer (Ok x) user h = record { got = x; is_got = refl; done = h }
settled_done facts tab answer (Err refusal) user h = let e = not_done facts refusal in absurd cc
