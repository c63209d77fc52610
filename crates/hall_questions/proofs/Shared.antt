-- What more than one room needs of lists of facts that answer alike.
use Rattle.std.proofs.Common.{◌≡◌, ℕ, Bool, true, false, ◌||◌, ◌==◌, nat_eq, nat_lt, List, [], ◌∷◌, Some, None, is_some, refl, ap, sym, ◌∙◌}
use Rattle.std.specs.Prelude.{Option, Result, Ok, Err, unwrap_or, if◌then◌else◌}
use Rattle.std.specs.Option.{option_or}
use Rattle.std.specs.Set.{is_member}
use Rattle.std.proofs.lemmas.Cmp.{nat_eq_equiv}
use Rattle.login_base.specs.declared.draws.Draws.{Draws}
use Rattle.login_base.specs.declared.id.TabKey.{TabKey}
use Rattle.login_base.specs.declared.id.UserId.{UserId}
use Rattle.realm_data.specs.declared.realm_parts.RealmParts.{RealmParts}
use Rattle.realm_data.specs.RealmBuiltin.{builtin_realm}
use Rattle.asks.specs.declared.reply.What.TheVariants as whats
use Rattle.asks.specs.declared.reply.Who.{Who}
use Rattle.facts.specs.declared.fact.Fact.{Fact}
use Rattle.facts.specs.declared.fact.Fact.TheVariants as events
use Rattle.facts.specs.Accounts.{name_put, name_of}
use Rattle.facts.specs.Places.{last_of}
use Rattle.facts.proofs.PlacesLemmas.{option_or_none}
use Rattle.account_states.specs.declared.failures.Failures.{Failures}
use Rattle.account_states.specs.Count.{users_put, account_count, has_room}
use Rattle.account_states.specs.Standings.{standing_of}
use Rattle.account_states.specs.States.{state_of, is_closed_in, is_closed}
use Rattle.root_states.proofs.UniqueLemmas.{same_count}
use Rattle.hall_answers.specs.declared.answer.Answer.{Answer}
use Rattle.hall_answers.specs.declared.refusal.Refusal.{Refusal}
use Rattle.hall_answers.specs.declared.refusal.Refusal.TheVariants as refusals
use Rattle.hall_answers.specs.Answers.{only}
use Rattle.hall_answers.specs.Refusals.{◌>>=◌, who_named, what_of, settled}
use Rattle.hall_answers.specs.Setting.{Setting, realm_now}
use Rattle.hall_questions.specs.Questions.{AnswerAlike}

-- over these facts, with this realm in force
abbrev pub under : RealmParts → ℕ → Draws → List Fact → Setting
under realm moment draws facts = record { facts = facts; realm = realm; moment = moment; draws = draws }

-- checks one after the other come to the same where each does
pub next_alike : {A B : Type 0} (first again : Result A Refusal) (more others : A → Result B Refusal) → first ≡ again → ((x : A) → more x ≡ others x)
    → (first >>= more) ≡ (again >>= others)
next_alike first again more others is same = ap (λ (result : Result _ Refusal). result >>= more) is ∙ behind again
  where
    behind : (result : Result _ Refusal) → (result >>= more) ≡ (result >>= others)
    behind (Ok x) = same x
    behind (Err refusal) = refl

-- ---- a user has a name exactly where its serial is among those that were put

put_or_had : (last : Option (List ℕ)) (same had : Bool) (name : List ℕ) → is_some last ≡ had
    → is_some (option_or last (if same then Some name else None)) ≡ (same || had)
put_or_had (Some before) true had name h = refl
put_or_had (Some before) false had name h = h
put_or_had None true had name h = refl
put_or_had None false had name h = h

named_put : (facts : List Fact) (serial : ℕ) → is_some (name_of (record { 0 = serial }) facts) ≡ is_member nat_eq (users_put facts) serial
unfolding name_of
named_put [] serial = refl
named_put (events.UserPut user name roles ∷ facts) serial =
    let own : UserId = record { 0 = serial } in
    let had = is_member nat_eq (users_put facts) serial in
    put_or_had (last_of (name_put own) facts) (user.0 == serial) had name (named_put facts serial)
    ∙ ap (λ (same : Bool). same || had) (nat_eq_equiv.symm user.0 serial)
named_put (fact ∷ facts) serial =
    let own : UserId = record { 0 = serial } in
    ap is_some (option_or_none (last_of (name_put own) facts)) ∙ named_put facts serial

module _ (one other : List Fact) (alike : AnswerAlike one other) where
  pub realm_alike : realm_now one ≡ realm_now other
  unfolding realm_now
  realm_alike = ap (λ (realm : Option RealmParts). unwrap_or realm builtin_realm) alike.realm

  -- ---- refusals, and what is told of users

  pub who_named_alike : (user : UserId) → who_named one user ≡ who_named other user
  who_named_alike user = rw (alike.name user) refl

  pub what_of_alike : (refusal : Refusal) → what_of one refusal ≡ what_of other refusal
  what_of_alike (refusals.OtherUser tab session) =
      ap (λ (who : Who). whats.OtherUser who (who_named one session)) (who_named_alike tab)
      ∙ ap (λ (who : Who). whats.OtherUser (who_named other tab) who) (who_named_alike session)
  what_of_alike refusal = refl

  pub settled_alike : {A : Type 0} (tab : Option TabKey) (answer again : A → Answer) (result same : Result A Refusal)
      → ((x : A) → answer x ≡ again x) → result ≡ same
      → settled one tab answer result ≡ settled other tab again same
  settled_alike tab answer again result same equal is = over result ∙ ap (settled other tab again) is
    where
      over : (result : Result _ Refusal) → settled one tab answer result ≡ settled other tab again result
      over (Ok x) = equal x
      over (Err refusal) = ap (only tab) (what_of_alike refusal)

  -- ---- how accounts stand, and how many there are

  pub standing_alike : (user : UserId) → standing_of user one ≡ standing_of user other
  unfolding standing_of
  standing_alike user = ap (λ (failures : Failures). failures.standing) (alike.failures user)

  state_alike : (user : UserId) → state_of user one ≡ state_of user other
  state_alike user = rw (standing_alike user, alike.disabled user) refl

  pub closed_alike : (user : UserId) → is_closed user one ≡ is_closed user other
  closed_alike user = ap is_closed_in (state_alike user)

  count_alike : account_count one ≡ account_count other
  unfolding account_count
  count_alike =
      same_count nat_eq_equiv (users_put one) (users_put other)
      (λ (serial : ℕ). sym (named_put one serial) ∙ ap is_some (alike.name (record { 0 = serial })) ∙ named_put other serial)

  pub has_room_alike : has_room one ≡ has_room other
  unfolding has_room
  has_room_alike = ap (λ (count : ℕ). nat_lt count 100000) count_alike
