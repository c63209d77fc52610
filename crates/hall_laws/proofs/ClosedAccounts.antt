-- What the answers to asks do to an account that is closed or locked.
use Rattle.std.proofs.Common.{◌≡◌, Bool, true, false, ◌||◌, ◌==◌, List, [], ◌∷◌, ◌++◌, Some, None, refl, sym, ap, subst, ◌∙◌, append_assoc}
use Rattle.std.specs.Prelude.{Option, Ok, unwrap_or, if◌then◌else◌}
use Rattle.std.specs.Option.{option_or}
use Rattle.std.specs.List.{All, list_any, flat_map}
use Rattle.std.proofs.lemmas.List.{append-nil}
use Rattle.std.proofs.lemmas.Bool.{eqb-true}
use Rattle.std.proofs.lemmas.List.Elements.{All-nil, All-cons, All-head, All-tail}
use Rattle.login_base.specs.declared.id.UserId.{UserId}
use Rattle.lockout.specs.Standing.{is_locked}
use Rattle.asks.specs.declared.ask.Ask.{Ask}
use Rattle.asks.specs.declared.finding.Finding.{Finding}
use Rattle.facts.specs.declared.fact.Fact.{Fact}
use Rattle.facts.specs.declared.fact.Fact.TheVariants as events
use Rattle.facts.specs.Accounts.{disabled_by, is_disabled}
use Rattle.facts.specs.Places.{last_of}
use Rattle.account_states.specs.Standings.{standing_of, renews, moves_standing}
use Rattle.account_states.specs.States.{is_closed}
use Rattle.account_states.proofs.StateLemmas.{is_disabled_more, permanent_kept, standing_kept}
use Rattle.hall_answers.specs.Setting.{Setting, setting_at}
use Rattle.facts.specs.declared.entry.Entry.{Entry}
use Rattle.login_hall.specs.Growth.{chronicle_of}
use Rattle.login_hall.specs.Legal.{LegalAfter}
use Rattle.login_hall.proofs.Pushes.{chronicle_of-push}
use Rattle.tab_asks.specs.declared.passing.Passing.{Passing}
use Rattle.tab_pages.specs.Visit.{check_account}
use Rattle.login_hall.specs.Due.{due_ask}
use Rattle.hall_laws.specs.Closing.{opens, OpenNothing}
use Rattle.hall_laws.proofs.Added.{is_plain, plain_allows, ask_all}
use Rattle.hall_laws.proofs.EvidenceFacts.{evidence_all}
use Rattle.hall_laws.proofs.Gates.{user_is, open_is}

-- ---- what asks add

-- it gives the user another standing only where it opens the account
abbrev Renewing : UserId → Fact → Type 0
Renewing user fact = renews user fact ≡ opens user fact

-- it changes the user's standing only where it opens the account
abbrev Moving : UserId → Fact → Type 0
Moving user fact = moves_standing user fact ≡ opens user fact

renewing : (user : UserId) (fact : Fact) → is_plain fact ≡ true → Renewing user fact
renewing user (events.Standing of value) h = absurd cc
renewing user fact h = refl

moving : (user : UserId) (fact : Fact) → is_plain fact ≡ true → Moving user fact
moving user (events.Failed of moment) h = absurd cc
moving user (events.Standing of value) h = absurd cc
moving user fact h = refl

-- ---- where nothing opens the account

-- what holds only of what opens it holds of none
none : (test : Fact → Bool) (user : UserId) (facts : List Fact) → All (λ fact. test fact ≡ opens user fact) facts → OpenNothing user facts → list_any test facts ≡ false
none test user [] same unopened = refl
none test user (fact ∷ facts) same unopened =
    let P : Fact → Type 0 = λ fact. test fact ≡ opens user fact in
    let N : Fact → Type 0 = λ fact. opens user fact ≡ false in
    rw (All-head P fact facts same, All-head N fact facts unopened) (none test user facts (All-tail P fact facts same) (All-tail N fact facts unopened))

-- ---- closed accounts

still_disabled : (user : UserId) (facts : List Fact) → OpenNothing user facts → unwrap_or (last_of (disabled_by user) facts) true ≡ true
still_disabled user [] unopened = refl
still_disabled user (fact ∷ facts) unopened =
    let N : Fact → Type 0 = λ fact. opens user fact ≡ false in
    by_rest (last_of (disabled_by user) facts) fact (still_disabled user facts (All-tail N fact facts unopened)) (All-head N fact facts unopened)
  where
    own : (fact : Fact) → opens user fact ≡ false → unwrap_or (disabled_by user fact) true ≡ true
    own (events.Disabled of) h = by_test (of.0 == user.0)
      where
        by_test : (is : Bool) → unwrap_or (if is then Some true else None) true ≡ true
        by_test true = refl
        by_test false = refl
    own (events.Enabled of) h = rw h refl
    own fact h = refl

    by_rest : (rest : Option Bool) (fact : Fact) → unwrap_or rest true ≡ true → opens user fact ≡ false → unwrap_or (option_or rest (disabled_by user fact)) true ≡ true
    by_rest (Some b) fact h n = h
    by_rest None fact h n = own fact n

module _ (setting : Setting) (ask : Ask) (finding : Finding) (user : UserId) (unopened : OpenNothing user (due_ask setting ask finding).added) where
  abbrev added : List Fact
  added = (due_ask setting ask finding).added

  unrenewed : list_any (renews user) added ≡ false
  unrenewed =
      none (renews user) user added
      (ask_all (Renewing user) (plain_allows (Renewing user) (renewing user)) (λ tab own session moment. refl) setting ask finding (λ failing opened. refl) (λ credential step. refl) (λ key. refl) (λ post accepted.
      let passing : Passing = record { tab = accepted.known.tab; user = accepted.user; credential = accepted.credential; moment = setting.moment } in
      evidence_all (Renewing user) (λ p. refl) (λ p execution kind. refl) (λ credential step. refl) (λ credential number. refl) passing post.form)) unopened

  closed_either : (permanent disabled : Bool) → (standing_of user setting.facts).permanent ≡ permanent → is_disabled user setting.facts ≡ disabled → (permanent || disabled) ≡ true
      → is_closed user (setting.facts ++ added) ≡ true
  closed_either true disabled p d h = rw (permanent_kept user setting.facts added unrenewed p) refl
  closed_either false true p d h = rw (is_disabled_more user setting.facts added, d, still_disabled user added unopened) (or-true (standing_of user (setting.facts ++ added)).permanent)
    where
      or-true : (b : Bool) → (b || true) ≡ true
      or-true true = refl
      or-true false = refl
  closed_either false false p d h = absurd cc

  pub closed_kept : is_closed user setting.facts ≡ true → is_closed user (setting.facts ++ added) ≡ true
  closed_kept closed = closed_either (standing_of user setting.facts).permanent (is_disabled user setting.facts) refl refl closed

  -- ---- locked accounts

  module _ (locked : is_locked (standing_of user setting.facts) setting.moment ≡ true) where
    failing_other : (failing : UserId) → check_account setting.facts setting.moment (Some failing) ≡ Ok tt → Moving user (events.Failed failing setting.moment)
    failing_other failing opened = by_test (failing.0 == user.0) refl
      where
        by_test : (is : Bool) → (failing.0 == user.0) ≡ is → (is || false) ≡ false
        by_test false e = refl
        by_test true e =
            let same : failing ≡ user = user_is failing user (eqb-true failing.0 user.0 e) in
            let unlocked = subst (λ (u : UserId). is_locked (standing_of u setting.facts) setting.moment ≡ false) same (open_is setting.facts setting.moment failing opened).unlocked in
            absurd cc

    unmoved : list_any (moves_standing user) added ≡ false
    unmoved =
        none (moves_standing user) user added
        (ask_all (Moving user) (plain_allows (Moving user) (moving user)) (λ tab own session moment. refl) setting ask finding failing_other (λ credential step. refl) (λ key. refl) (λ post accepted.
        let passing : Passing = record { tab = accepted.known.tab; user = accepted.user; credential = accepted.credential; moment = setting.moment } in
        evidence_all (Moving user) (λ p. refl) (λ p execution kind. refl) (λ credential step. refl) (λ credential number. refl) passing post.form)) unopened

    pub same_standing : standing_of user (setting.facts ++ added) ≡ standing_of user setting.facts
    same_standing = standing_kept user setting.facts added unmoved

pub locked_kept : (setting : Setting) (ask : Ask) (finding : Finding) (user : UserId) → is_locked (standing_of user setting.facts) setting.moment ≡ true
    → OpenNothing user (due_ask setting ask finding).added
    → standing_of user (setting.facts ++ (due_ask setting ask finding).added) ≡ standing_of user setting.facts
locked_kept setting ask finding user locked unopened = same_standing setting ask finding user unopened locked

-- ---- histories

front_all : (P : Fact → Type 0) (front back : List Fact) → All P (front ++ back) → All P front
front_all P [] back all = All-nil P
front_all P (fact ∷ front) back all = All-cons P fact front (All-head P fact (front ++ back) all) (front_all P front back (All-tail P fact (front ++ back) all))

back_all : (P : Fact → Type 0) (front back : List Fact) → All P (front ++ back) → All P back
back_all P [] back all = all
back_all P (fact ∷ front) back all = back_all P front back (All-tail P fact (front ++ back) all)

-- through the entries of a legal history
pub closed_through : (base : List Fact) (front more : List Entry) (user : UserId) → LegalAfter base front more
    → OpenNothing user (flat_map (λ (entry : Entry). entry.added) more)
    → is_closed user (chronicle_of base front) ≡ true → is_closed user (chronicle_of base (front ++ more)) ≡ true
unfolding LegalAfter
closed_through base front [] user legal unopened closed = ap (λ (f : List Entry). is_closed user (chronicle_of base f)) (append-nil front) ∙ closed
closed_through base front (entry ∷ more) user legal unopened closed =
    let N : Fact → Type 0 = λ fact. opens user fact ≡ false in
    let rest : List Fact = flat_map (λ (entry : Entry). entry.added) more in
    let facts = chronicle_of base front in
    let setting = setting_at facts entry.moment entry.draws in
    let own = front_all N entry.added rest unopened in
    let same = legal.0.added in
    let after = closed_kept setting entry.solved.ask entry.solved.finding user (subst (OpenNothing user) same own) closed in
    let grown = subst (λ (added : List Fact). is_closed user (facts ++ added) ≡ true) (sym same) after in
    let pushed = ap (is_closed user) (chronicle_of-push base front entry) ∙ grown in
    ap (λ (f : List Entry). is_closed user (chronicle_of base f)) (sym (append_assoc front (entry ∷ []) more))
    ∙ closed_through base (front ++ entry ∷ []) more user legal.1 (back_all N entry.added rest unopened) pushed
