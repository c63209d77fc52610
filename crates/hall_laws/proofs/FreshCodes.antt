-- A code that a check takes wasn't used before.
use Rattle.std.proofs.Common.{◌≡◌, ℕ, ◌+◌, ◌<◌, ◌≤◌, ◌^◌, Bool, true, false, not, ◌&&◌, ◌||◌, ◌==◌, List, [], ◌∷◌, Some, None, nat_eq, nat_lt, max, length, refl, sym, ap, subst, ◌∙◌, arith}
use Rattle.std.specs.Prelude.{Option, fold, if◌then◌else◌}
use Rattle.std.specs.List.{list_any, find, flat_map}
use Rattle.std.specs.Option.{option_to_list}
use Rattle.std.proofs.lemmas.Bool.{and_parts, ne_eqb, not-true}
use Rattle.std.proofs.lemmas.List.Folds.{list_any-append}
use Rattle.login_base.specs.declared.id.UserId.{UserId}
use Rattle.one_time.specs.Hotp.{is_code_of}
use Rattle.one_time.specs.declared.verdict.Verdict.{Verdict}
use Rattle.one_time.specs.declared.verdict.Verdict.TheVariants as verdicts
use Rattle.one_time.specs.Verdicts.{verdict_from, step_of, steps_near, contains, totp_verdict, recovery_verdict}
use Rattle.asks.specs.declared.ask.Form.{Form}
use Rattle.asks.specs.declared.ask.Form.TheVariants as forms
use Rattle.asks.specs.declared.finding.Finding.{Finding}
use Rattle.asks.specs.declared.finding.Finding.TheVariants as findings
use Rattle.asks.specs.declared.reply.Need.{Need}
use Rattle.facts.specs.declared.fact.Fact.{Fact}
use Rattle.facts.specs.declared.fact.Fact.TheVariants as events
use Rattle.facts.specs.declared.tabs.Page.{Page}
use Rattle.facts.specs.declared.user_password.UserPassword.{UserPassword}
use Rattle.facts.specs.Secrets.{KeptOtp, KeptRecovery, otp_of, recovery_of}
use Rattle.facts.specs.Spent.{step_spent, spent_steps, number_after, codes_spent}
use Rattle.hall_answers.specs.Setting.{Setting}
use Rattle.login_progress.specs.declared.known_tab.KnownTab.{KnownTab}
use Rattle.tab_asks.specs.declared.check.Check.{Check}
use Rattle.tab_asks.specs.declared.check.Check.TheVariants as checks
use Rattle.tab_asks.specs.declared.check.Credential.{Credential}
use Rattle.tab_asks.specs.declared.check.Spent.{Spent}
use Rattle.tab_asks.specs.declared.check.Spent.TheVariants as spends
use Rattle.tab_asks.specs.Codes.{step_check, otp_verdict, otp_check, number_check, kept_verdict, recovery_check, asks_recovery, code_check}
use Rattle.tab_asks.specs.Deeds.{new_serial, deed_check, offered_otp, uncounted, setup_check}
use Rattle.tab_asks.specs.Post.{name_check, password_check, check_with}
use Rattle.hall_laws.specs.SpentOnce.{spends_same}

-- ---- steps

-- no fact of these spends the same as this one
abbrev pub IsNew : Fact → List Fact → Type 0
IsNew fact facts = list_any (λ old. spends_same old fact) facts ≡ false

module _ (serial step : ℕ) where
  one_step : (fact : Fact) → list_any (λ other. nat_eq other step) (step_spent serial fact) ≡ spends_same fact (events.SpentStep serial step)
  one_step (events.SpentStep credential own) = by_test (credential == serial)
    where
      or_false : (b : Bool) → (b || false) ≡ b
      or_false true = refl
      or_false false = refl

      by_test : (b : Bool) → list_any (λ other. nat_eq other step) (if b then own ∷ [] else []) ≡ (b && own == step)
      by_test true = or_false (nat_eq own step)
      by_test false = refl
  one_step fact = refl

  steps_same : (facts : List Fact) → list_any (λ other. nat_eq other step) (flat_map (step_spent serial) facts) ≡ list_any (λ old. spends_same old (events.SpentStep serial step)) facts
  steps_same [] = refl
  steps_same (fact ∷ facts) =
      list_any-append (λ other. nat_eq other step) (step_spent serial fact) (flat_map (step_spent serial) facts)
      ∙ ap (λ b. b || list_any (λ other. nat_eq other step) (flat_map (step_spent serial) facts)) (one_step fact)
      ∙ ap (λ b. spends_same fact (events.SpentStep serial step) || b) (steps_same facts)

  step_new : (facts : List Fact) → contains (spent_steps serial facts) step ≡ false → IsNew (events.SpentStep serial step) facts
  unfolding spent_steps
  step_new facts h = sym (steps_same facts) ∙ h

-- ---- numbers

module _ (serial number : ℕ) where
  rises : (last : ℕ) (facts : List Fact) → last ≤ fold (number_after serial) last facts
  rises last [] = omega arith
  rises last (fact ∷ facts) = let first = one fact in let rest = rises (number_after serial last fact) facts in omega (arith, first, rest)
    where
      one : (fact : Fact) → last ≤ number_after serial last fact
      one (events.SpentRecovery credential own) = by_test (credential == serial)
        where
          by_test : (b : Bool) → last ≤ (if b then max last own else last)
          by_test true = omega arith
          by_test false = omega arith
      one fact = omega arith

  one_number : (last : ℕ) (fact : Fact) → number_after serial last fact < number → spends_same fact (events.SpentRecovery serial number) ≡ false
  one_number last (events.SpentRecovery credential own) h = by_test (credential == serial) refl h
    where
      by_test : (b : Bool) → (credential == serial) ≡ b → (if b then max last own else last) < number → (b && own == number) ≡ false
      by_test true e below = ne_eqb own number (λ same. omega (arith, below, same))
      by_test false e below = refl
  one_number last fact h = refl

  above : (last : ℕ) (facts : List Fact) → fold (number_after serial) last facts < number → IsNew (events.SpentRecovery serial number) facts
  above last [] h = refl
  above last (fact ∷ facts) h =
      let after = number_after serial last fact in
      let least = rises after facts in
      rw (one_number last fact (omega (arith, h, least)), above after facts h) refl

-- ---- verdicts

of_test : (p : ℕ → Bool) (y x : ℕ) (b : Bool) (rest : Option ℕ) → p y ≡ b → (rest ≡ Some x → p x ≡ true) → (if b then Some y else rest) ≡ Some x → p x ≡ true
of_test p y x true rest e more h = let same : y ≡ x = cc in ap p (sym same) ∙ e
of_test p y x false rest e more h = more h

-- what is found passes
passes : (p : ℕ → Bool) (xs : List ℕ) (x : ℕ) → find p xs ≡ Some x → p x ≡ true
passes p [] x h = absurd cc
passes p (y ∷ ys) x h = of_test p y x (p y) (find p ys) refl (passes p ys x) h

fitting : (one other : Option ℕ) (x : ℕ) → verdict_from one other ≡ verdicts.Fits x → one ≡ Some x
fitting (Some y) other x h = cc
fitting None (Some y) x h = absurd cc
fitting None None x h = absurd cc

unspent : (key : List ℕ) (now window digits : ℕ) (spent : List ℕ) (text : List ℕ) (step : ℕ) → totp_verdict key now window digits spent text ≡ verdicts.Fits step → contains spent step ≡ false
unfolding totp_verdict
unspent key now window digits spent text step h =
    let p : ℕ → Bool = λ step. is_code_of key digits text step && not (contains spent step) in
    let found = fitting (find p (steps_near (step_of now) window)) _ step h in
    not-true (contains spent step) (and_parts (is_code_of key digits text step) (not (contains spent step)) (passes p (steps_near (step_of now) window) step found)).1

next_is : (small : Bool) (next number : ℕ) (fits : ℕ → Bool) → find fits (option_to_list (if small then Some next else None)) ≡ Some number → number ≡ next
next_is false next number fits h = absurd cc
next_is true next number fits h = by_test (fits next) h
  where
    by_test : (b : Bool) → (if b then Some next else None) ≡ Some number → number ≡ next
    by_test true e = cc
    by_test false e = absurd cc

after_spent : (digests : List (List ℕ)) (spent : ℕ) (value : List ℕ) (number : ℕ) → recovery_verdict digests spent value ≡ verdicts.Fits number → number ≡ spent + 1
unfolding recovery_verdict
after_spent digests spent value number h =
    next_is (nat_lt spent (length digests) && nat_lt (spent + 1) (2 ^ 32)) (spent + 1) number _ (fitting _ _ number h)

-- ---- checks

abbrev pub IsNewSpent : List Fact → ℕ → Spent → Type 0
IsNewSpent facts serial spends.Nothing = Unit {0}
IsNewSpent facts serial (spends.Step step) = IsNew (events.SpentStep serial step) facts
IsNewSpent facts serial (spends.Number number) = IsNew (events.SpentRecovery serial number) facts

abbrev pub IsFresh : List Fact → Check → Type 0
IsFresh facts (checks.Fits user credential) = IsNewSpent facts credential.serial credential.spent
IsFresh facts (checks.Wrong user) = Unit {0}
IsFresh facts (checks.WrongCode user) = Unit {0}
IsFresh facts (checks.SpentCode step) = Unit {0}

otp_fresh : (setting : Setting) (user : UserId) (kept : Option KeptOtp) (value : List ℕ) → IsFresh setting.facts (otp_check setting user kept value)
otp_fresh setting user None value = tt
otp_fresh setting user (Some kept) value = by_verdict (otp_verdict setting kept value) refl
  where
    by_verdict : (verdict : Verdict) → otp_verdict setting kept value ≡ verdict → IsFresh setting.facts (step_check user kept.serial verdict)
    by_verdict (verdicts.Fits step) h =
        step_new kept.serial step setting.facts
        (unspent kept.key setting.moment setting.realm.otp.window setting.realm.otp.digits (spent_steps kept.serial setting.facts) value step h)
    by_verdict (verdicts.Spent step) h = tt
    by_verdict verdicts.Wrong h = tt

recovery_fresh : (setting : Setting) (user : UserId) (kept : Option KeptRecovery) (value : List ℕ) → IsFresh setting.facts (recovery_check setting user kept value)
unfolding codes_spent
recovery_fresh setting user None value = tt
recovery_fresh setting user (Some kept) value = by_verdict (kept_verdict setting kept value) refl
  where
    next_new : (number : ℕ) → number ≡ codes_spent kept.serial setting.facts + 1 → IsNew (events.SpentRecovery kept.serial number) setting.facts
    next_new number e = above kept.serial number 0 setting.facts (omega (arith, e))

    by_verdict : (verdict : Verdict) → kept_verdict setting kept value ≡ verdict → IsFresh setting.facts (number_check user kept.serial verdict)
    by_verdict (verdicts.Fits number) h = next_new number (after_spent kept.digests (codes_spent kept.serial setting.facts) value number h)
    by_verdict (verdicts.Spent number) h = tt
    by_verdict verdicts.Wrong h = tt

either_fresh : (facts : List Fact) (b : Bool) (one other : Check) → IsFresh facts one → IsFresh facts other → IsFresh facts (if b then one else other)
either_fresh facts true one other h k = h
either_fresh facts false one other h k = k

code_fresh : (setting : Setting) (asked : List Need) (who : Option UserId) (execution value : List ℕ) → IsFresh setting.facts (code_check setting asked who execution value)
unfolding code_check
code_fresh setting asked None execution value = tt
code_fresh setting asked (Some user) execution value =
    either_fresh setting.facts (asks_recovery asked execution) _ _
    (recovery_fresh setting user (recovery_of user setting.facts) value) (otp_fresh setting user (otp_of user setting.facts) value)

name_fresh : (facts : List Fact) (named : Option UserId) → IsFresh facts (name_check named)
name_fresh facts None = tt
name_fresh facts (Some user) = tt

password_fresh : (facts : List Fact) (target : Option UserId) (password : Option UserPassword) (finding : Finding) → IsFresh facts (password_check target password finding)
unfolding password_check
password_fresh facts None password finding = tt
password_fresh facts (Some user) None finding = tt
password_fresh facts (Some user) (Some kept) (findings.Checked had true) = tt
password_fresh facts (Some user) (Some kept) (findings.Checked had false) = tt
password_fresh facts (Some user) (Some kept) finding = tt

deed_fresh : (facts : List Fact) (who : Option UserId) → IsFresh facts (deed_check who)
deed_fresh facts None = tt
deed_fresh facts (Some user) = tt

uncounted_fresh : (facts : List Fact) (check : Check) → IsFresh facts check → IsFresh facts (uncounted check)
uncounted_fresh facts (checks.Fits user credential) h = h
uncounted_fresh facts (checks.Wrong user) h = tt
uncounted_fresh facts (checks.WrongCode user) h = tt
uncounted_fresh facts (checks.SpentCode step) h = tt

setup_fresh : (setting : Setting) (page : Option Page) (who : Option UserId) (value : List ℕ) → IsFresh setting.facts (setup_check setting page who value)
setup_fresh setting page None value = tt
setup_fresh setting page (Some user) value =
    uncounted_fresh setting.facts (otp_check setting user (Some (offered_otp setting page)) value) (otp_fresh setting user (Some (offered_otp setting page)) value)

pub check_fresh : (setting : Setting) (known : KnownTab) (asked : List Need) (named who : Option UserId) (password : Option UserPassword) (form : Form) (finding : Finding)
    → IsFresh setting.facts (check_with setting known asked named who password form finding)
check_fresh setting known asked named who password (forms.Username execution name) finding = name_fresh setting.facts named
check_fresh setting known asked named who password (forms.Password execution given) finding = password_fresh setting.facts who password finding
check_fresh setting known asked named who password (forms.NamePassword execution name given) finding = password_fresh setting.facts named password finding
check_fresh setting known asked named who password (forms.Value execution value) finding = code_fresh setting asked who execution value
check_fresh setting known asked named who password forms.Terms finding = deed_fresh setting.facts who
check_fresh setting known asked named who password (forms.UpdatePassword given) finding = deed_fresh setting.facts who
check_fresh setting known asked named who password (forms.ConfigureOtp value) finding = setup_fresh setting known.state.page who value
check_fresh setting known asked named who password forms.RecoveryCodes finding = deed_fresh setting.facts who
check_fresh setting known asked named who password forms.VerifyEmail finding = tt

-- ---- the serial of a code of an offered secret

abbrev HasSerial : ℕ → Check → Type 0
HasSerial serial (checks.Fits user credential) = credential.serial ≡ serial
HasSerial serial (checks.Wrong user) = Unit {0}
HasSerial serial (checks.WrongCode user) = Unit {0}
HasSerial serial (checks.SpentCode step) = Unit {0}

step_serial : (user : UserId) (serial : ℕ) (verdict : Verdict) → HasSerial serial (uncounted (step_check user serial verdict))
step_serial user serial (verdicts.Fits step) = refl
step_serial user serial (verdicts.Spent step) = tt
step_serial user serial verdicts.Wrong = tt

-- it is that of the secret that is to be set
pub setup_serial : (setting : Setting) (page : Option Page) (who : Option UserId) (value : List ℕ) (user : UserId) (credential : Credential)
    → setup_check setting page who value ≡ checks.Fits user credential → credential.serial ≡ new_serial setting
setup_serial setting page None value user credential h = absurd cc
setup_serial setting page (Some own) value user credential h =
    subst (HasSerial (new_serial setting)) h (step_serial own (new_serial setting) (otp_verdict setting (offered_otp setting page) value))
