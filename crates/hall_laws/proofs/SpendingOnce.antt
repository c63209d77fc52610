-- No ask spends a code or a token that was spent before, and none spends one twice.
use Rattle.std.proofs.Common.{◌≡◌, ℕ, ◌+◌, Bool, true, false, ◌||◌, List, [], ◌∷◌, ◌++◌, Some, None, refl, sym, subst, ◌∙◌, append_assoc}
use Rattle.std.specs.Prelude.{Option, Result, Ok, Err, if◌then◌else◌}
use Rattle.std.specs.List.{All, list_any}
use Rattle.std.proofs.lemmas.List.{append-nil}
use Rattle.std.proofs.lemmas.List.Elements.{All-nil, All-cons, All-append, All-head, All-tail}
use Rattle.std.proofs.lemmas.List.Folds.{list_any-append}
use Rattle.login_base.specs.declared.id.TabKey.{TabKey}
use Rattle.login_base.specs.declared.id.TokenKey.{TokenKey}
use Rattle.login_base.specs.declared.id.UserId.{UserId}
use Rattle.flow_tree.specs.declared.exec.Kind.{Kind}
use Rattle.flow_tree.specs.declared.exec.Kind.TheVariants as kinds
use Rattle.realm_data.specs.declared.action.Action.{Action}
use Rattle.realm_data.specs.declared.action.Action.TheVariants as actions
use Rattle.asks.specs.declared.admin.TokenAction.{TokenAction}
use Rattle.asks.specs.declared.admin.TokenAction.TheVariants as tokens
use Rattle.asks.specs.declared.ask.Ask.{Ask}
use Rattle.asks.specs.declared.ask.Ask.TheVariants as asks
use Rattle.asks.specs.declared.ask.Form.{Form}
use Rattle.asks.specs.declared.ask.Form.TheVariants as forms
use Rattle.asks.specs.declared.ask.Post.{Post}
use Rattle.asks.specs.declared.finding.Finding.{Finding}
use Rattle.facts.specs.declared.entry.Entry.{Entry}
use Rattle.facts.specs.declared.fact.Fact.{Fact}
use Rattle.facts.specs.declared.fact.Fact.TheVariants as events
use Rattle.asks.specs.declared.reply.Need.{Need}
use Rattle.facts.specs.declared.token.Token.{Token}
use Rattle.facts.specs.declared.user_password.UserPassword.{UserPassword}
use Rattle.facts.specs.Realms.{realm_of}
use Rattle.facts.specs.Serials.{last_stored_serial}
use Rattle.facts.specs.Tabs.{who_of}
use Rattle.facts.specs.Tokens.{spends, is_token_spent}
use Rattle.hall_answers.specs.declared.answer.Answer.{Answer}
use Rattle.hall_answers.specs.declared.refusal.Refusal.{Refusal}
use Rattle.hall_answers.specs.declared.refusal.Refusal.TheVariants as refusals
use Rattle.hall_answers.specs.Passwords.{derived, password_facts}
use Rattle.hall_answers.specs.Refusals.{◌>>=◌, settled}
use Rattle.hall_answers.specs.Setting.{Setting, setting_at}
use Rattle.login_progress.specs.declared.known_tab.KnownTab.{KnownTab}
use Rattle.login_progress.specs.PasswordFor.{password_for}
use Rattle.login_progress.specs.Progress.{asked_in, action_in}
use Rattle.token_asks.specs.Follow.{check_made, check_unspent, check_unexpired, check_token, followed, answer_to_verify, answer_to_reset, due_verify, due_reset}
use Rattle.tab_asks.specs.declared.check.Check.{Check}
use Rattle.tab_asks.specs.declared.check.Check.TheVariants as checks
use Rattle.tab_asks.specs.declared.check.Credential.{Credential}
use Rattle.tab_asks.specs.declared.check.Spent.{Spent}
use Rattle.tab_asks.specs.declared.check.Spent.TheVariants as spends
use Rattle.tab_asks.specs.declared.passing.Passing.{Passing}
use Rattle.tab_asks.specs.Forms.{target_of, code_evidence, evidence_of, name_fact, evidence_fact}
use Rattle.tab_pages.specs.Pages.{tab_answer}
use Rattle.tab_asks.specs.Deeds.{new_serial, done_facts, step_used, secret_deed, codes_deed}
use Rattle.tab_asks.specs.Post.{check_post, check_form, check_with, accepted_facts, known_over, answer_to_accepted, shown_again, answer_to_check, post_where, post_by, post_in, due_post}
use Rattle.tab_pages.specs.Visit.{check_tab}
use Rattle.login_hall.specs.Due.{due_ask}
use Rattle.login_hall.specs.Growth.{chronicle_of}
use Rattle.login_hall.specs.Legal.{LegalAfter}
use Rattle.login_hall.proofs.Pushes.{chronicle_of-push}
use Rattle.hall_laws.specs.AskedEvidence.{is_post}
use Rattle.hall_laws.specs.Ready.{progress_at}
use Rattle.hall_laws.specs.SpentOnce.{spends_same, AreSpentOnce}
use Rattle.hall_laws.proofs.Added.{is_plain, plain_allows, token_of, tab_all, wrong_all, other_all}
use Rattle.hall_laws.proofs.DeedFacts.{done_all, password_all, secret_all, codes_all}
use Rattle.hall_laws.proofs.FreshCodes.{IsNew, IsNewSpent, IsFresh, check_fresh, setup_serial}
use Rattle.hall_laws.proofs.PostReadiness.{is_fitting}

-- ---- facts behind others

abbrev is_spending : Fact → Bool
is_spending (events.SpentStep credential step) = true
is_spending (events.SpentRecovery credential number) = true
is_spending (events.SpentToken key) = true
is_spending event = false

-- it spends nothing
abbrev IsPlain : Fact → Type 0
IsPlain fact = is_spending fact ≡ false

plain_apart : (old fact : Fact) → IsPlain fact → spends_same old fact ≡ false
plain_apart (events.SpentStep first step) (events.SpentStep second other) h = absurd cc
plain_apart (events.SpentRecovery first number) (events.SpentRecovery second other) h = absurd cc
plain_apart (events.SpentToken first) (events.SpentToken second) h = absurd cc
plain_apart old fact h = refl

plain_before : (old fact : Fact) → IsPlain old → spends_same old fact ≡ false
plain_before (events.SpentStep credential step) fact h = absurd cc
plain_before (events.SpentRecovery credential number) fact h = absurd cc
plain_before (events.SpentToken key) fact h = absurd cc
plain_before old fact h = refl

plain_new : (facts : List Fact) (fact : Fact) → IsPlain fact → IsNew fact facts
plain_new [] fact h = refl
plain_new (old ∷ facts) fact h = rw (plain_apart old fact h) (plain_new facts fact h)

neither : (a b : Bool) → (a || b) ≡ false → (a ≡ false) × (b ≡ false)
neither false b h = (refl, h)
neither true b h = absurd cc

pushed : (facts : List Fact) (fact : Fact) → AreSpentOnce facts → IsNew fact facts → AreSpentOnce (facts ++ fact ∷ [])
unfolding AreSpentOnce
pushed [] fact once new = (refl, tt)
pushed (old ∷ facts) fact once new =
    let both = neither (spends_same old fact) (list_any (λ old. spends_same old fact) facts) new in
    (list_any-append (spends_same old) facts (fact ∷ []) ∙ rw (once.0, both.0) refl, pushed facts fact once.1 both.1)

pushed_plain : (facts added : List Fact) → All IsPlain added → AreSpentOnce facts → AreSpentOnce (facts ++ added)
pushed_plain facts [] all once = subst AreSpentOnce (sym (append-nil facts)) once
pushed_plain facts (fact ∷ added) all once =
    let first = pushed facts fact once (plain_new facts fact (All-head IsPlain fact added all)) in
    subst AreSpentOnce (append_assoc facts (fact ∷ []) added) (pushed_plain (facts ++ fact ∷ []) added (All-tail IsPlain fact added all) first)

-- what is new behind facts is new behind plain ones too
plain_behind : (fact : Fact) (more : List Fact) → All IsPlain more → IsNew fact more
plain_behind fact [] all = refl
plain_behind fact (old ∷ more) all = rw (plain_before old fact (All-head IsPlain old more all)) (plain_behind fact more (All-tail IsPlain old more all))

still_new : (fact : Fact) (facts more : List Fact) → IsNew fact facts → All IsPlain more → IsNew fact (facts ++ more)
still_new fact facts more new all = list_any-append (λ old. spends_same old fact) facts more ∙ rw (new, plain_behind fact more all) refl

-- ---- evidence

one_plain : (passing : Passing) (execution : List ℕ) (kind : Kind) → All IsPlain (evidence_fact passing execution kind ∷ [])
one_plain passing execution kind = All-cons IsPlain (evidence_fact passing execution kind) [] refl (All-nil IsPlain)

named_plain : (passing : Passing) (execution : List ℕ) (kind : Kind) → All IsPlain (name_fact passing ∷ evidence_fact passing execution kind ∷ [])
named_plain passing execution kind = All-cons IsPlain (name_fact passing) (evidence_fact passing execution kind ∷ []) refl (one_plain passing execution kind)

-- behind evidence, a new code
spent_once : (facts : List Fact) (passing : Passing) (execution : List ℕ) (kind : Kind) (spent : Fact) → AreSpentOnce facts → IsNew spent facts
    → spends_same (evidence_fact passing execution kind) spent ≡ false → AreSpentOnce (facts ++ evidence_fact passing execution kind ∷ spent ∷ [])
spent_once facts passing execution kind spent once new other =
    let passed = evidence_fact passing execution kind in
    let front = pushed_plain facts (passed ∷ []) (one_plain passing execution kind) once in
    let still : IsNew spent (facts ++ passed ∷ []) = list_any-append (λ old. spends_same old spent) facts (passed ∷ []) ∙ rw (new, other) refl in
    subst AreSpentOnce (append_assoc facts (passed ∷ []) (spent ∷ [])) (pushed (facts ++ passed ∷ []) spent front still)

code_once : (facts : List Fact) (passing : Passing) (execution : List ℕ) (spent : Spent) → AreSpentOnce facts → IsNewSpent facts passing.credential.serial spent
    → AreSpentOnce (facts ++ code_evidence passing execution spent)
code_once facts passing execution spends.Nothing once new = pushed_plain facts [] (All-nil IsPlain) once
code_once facts passing execution (spends.Step step) once new =
    spent_once facts passing execution kinds.Otp (events.SpentStep passing.credential.serial step) once new refl
code_once facts passing execution (spends.Number number) once new =
    spent_once facts passing execution kinds.Recovery (events.SpentRecovery passing.credential.serial number) once new refl

evidence_once : (facts : List Fact) (passing : Passing) (form : Form) → AreSpentOnce facts → IsNewSpent facts passing.credential.serial passing.credential.spent
    → AreSpentOnce (facts ++ evidence_of passing form)
evidence_once facts passing (forms.Username execution name) once new = pushed_plain facts _ (named_plain passing execution kinds.Username) once
evidence_once facts passing (forms.NamePassword execution name password) once new = pushed_plain facts _ (named_plain passing execution kinds.Form) once
evidence_once facts passing (forms.Password execution password) once new = pushed_plain facts _ (one_plain passing execution kinds.Password) once
evidence_once facts passing (forms.Value execution value) once new = code_once facts passing execution passing.credential.spent once new
evidence_once facts passing forms.Terms once new = pushed_plain facts [] (All-nil IsPlain) once
evidence_once facts passing (forms.UpdatePassword password) once new = pushed_plain facts [] (All-nil IsPlain) once
evidence_once facts passing (forms.ConfigureOtp value) once new = pushed_plain facts [] (All-nil IsPlain) once
evidence_once facts passing forms.RecoveryCodes once new = pushed_plain facts [] (All-nil IsPlain) once
evidence_once facts passing forms.VerifyEmail once new = pushed_plain facts [] (All-nil IsPlain) once

-- ---- answers

spendless : (fact : Fact) → is_plain fact ≡ true → IsPlain fact
spendless (events.SpentStep credential step) h = absurd cc
spendless (events.SpentRecovery credential number) h = absurd cc
spendless (events.SpentToken key) h = absurd cc
spendless fact h = refl

settled_once : {A : Type 0} (facts old : List Fact) (tab : Option TabKey) (answer : A → Answer) (result : Result A Refusal) → AreSpentOnce old
    → ((x : A) → result ≡ Ok x → AreSpentOnce (old ++ (answer x).added)) → AreSpentOnce (old ++ (settled facts tab answer result).added)
settled_once facts old tab answer (Ok x) once each = each x refl
settled_once facts old tab answer (Err refusal) once each = pushed_plain old [] (All-nil IsPlain) once

-- ---- what an accepted post adds

done_plain : (user : UserId) (action : Action) → All IsPlain (done_facts user action)
done_plain user action = done_all IsPlain (λ own kind serial secret by. refl) (λ own of. refl) user action

-- the secret that a tab sets, a new code of it, and that the action is done
setup_once : (facts secret : List Fact) (user : UserId) (serial : ℕ) (spent : Spent) → AreSpentOnce facts → All IsPlain secret → IsNewSpent facts serial spent
    → AreSpentOnce (facts ++ (secret ++ (step_used serial spent ++ done_facts user actions.ConfigureOtp)))
setup_once facts secret user serial spends.Nothing once plain new =
    let done = done_facts user actions.ConfigureOtp in
    pushed_plain facts (secret ++ done) (All-append IsPlain secret done plain (done_plain user actions.ConfigureOtp)) once
setup_once facts secret user serial (spends.Step step) once plain new =
    let spent = events.SpentStep serial step in
    let done = done_facts user actions.ConfigureOtp in
    let front = pushed_plain facts secret plain once in
    let middle = pushed (facts ++ secret) spent front (still_new spent facts secret new plain) in
    let back = pushed_plain ((facts ++ secret) ++ spent ∷ []) done (done_plain user actions.ConfigureOtp) middle in
    subst AreSpentOnce (append_assoc facts secret (spent ∷ done)) (subst AreSpentOnce (append_assoc (facts ++ secret) (spent ∷ []) done) back)
setup_once facts secret user serial (spends.Number number) once plain new =
    let done = done_facts user actions.ConfigureOtp in
    pushed_plain facts (secret ++ done) (All-append IsPlain secret done plain (done_plain user actions.ConfigureOtp)) once

-- a code of an offered secret has the serial of the secret that is set
abbrev IsSerialOf : Setting → Form → Credential → Type 0
IsSerialOf setting (forms.ConfigureOtp value) credential = credential.serial ≡ new_serial setting
IsSerialOf setting form credential = Unit {0}

serial_of : (setting : Setting) (known : KnownTab) (asked : List Need) (named who : Option UserId) (password : Option UserPassword) (form : Form) (finding : Finding) (user : UserId) (credential : Credential)
    → check_with setting known asked named who password form finding ≡ checks.Fits user credential → IsSerialOf setting form credential
serial_of setting known asked named who password (forms.ConfigureOtp value) finding user credential h = setup_serial setting known.state.page who value user credential h
serial_of setting known asked named who password (forms.Username execution name) finding user credential h = tt
serial_of setting known asked named who password (forms.NamePassword execution name given) finding user credential h = tt
serial_of setting known asked named who password (forms.Password execution given) finding user credential h = tt
serial_of setting known asked named who password (forms.Value execution value) finding user credential h = tt
serial_of setting known asked named who password forms.Terms finding user credential h = tt
serial_of setting known asked named who password (forms.UpdatePassword given) finding user credential h = tt
serial_of setting known asked named who password forms.RecoveryCodes finding user credential h = tt
serial_of setting known asked named who password forms.VerifyEmail finding user credential h = tt

module _ (setting : Setting) (known : KnownTab) (finding : Finding) (user : UserId) (credential : Credential) (once : AreSpentOnce setting.facts) where
  abbrev of_post : Passing
  of_post = record { tab = known.tab; user = user; credential = credential; moment = setting.moment }

  -- evidence, and no action behind it
  alone_once : (form : Form) → IsNewSpent setting.facts credential.serial credential.spent → AreSpentOnce (setting.facts ++ (evidence_of of_post form ++ []))
  alone_once form new =
      let evidence = evidence_of of_post form in
      subst (λ (added : List Fact). AreSpentOnce (setting.facts ++ added)) (sym (append-nil evidence)) (evidence_once setting.facts of_post form once new)

  accepted_once : (form : Form) → IsNewSpent setting.facts credential.serial credential.spent → IsSerialOf setting form credential
      → AreSpentOnce (setting.facts ++ accepted_facts setting known form finding user credential)
  accepted_once (forms.Username execution name) new serial = alone_once (forms.Username execution name) new
  accepted_once (forms.NamePassword execution name given) new serial = alone_once (forms.NamePassword execution name given) new
  accepted_once (forms.Password execution given) new serial = alone_once (forms.Password execution given) new
  accepted_once (forms.Value execution value) new serial = alone_once (forms.Value execution value) new
  accepted_once forms.Terms new serial = pushed_plain setting.facts (done_facts user actions.Terms) (done_plain user actions.Terms) once
  accepted_once (forms.UpdatePassword given) new serial =
      let password = password_facts user (new_serial setting) (derived finding) (Some known.tab) in
      let plain = password_all IsPlain (λ own kind number secret by. refl) (λ own of. refl) user (new_serial setting) (derived finding) (Some known.tab) in
      pushed_plain setting.facts (password ++ done_facts user actions.UpdatePassword)
      (All-append IsPlain password (done_facts user actions.UpdatePassword) plain (done_plain user actions.UpdatePassword)) once
  accepted_once (forms.ConfigureOtp value) new serial =
      setup_once setting.facts (secret_deed setting known user) user (new_serial setting) credential.spent once
      (secret_all IsPlain (λ own kind number secret by. refl) (λ own of. refl) setting known user)
      (subst (λ (n : ℕ). IsNewSpent setting.facts n credential.spent) serial new)
  accepted_once forms.RecoveryCodes new serial =
      let codes = codes_deed setting known user in
      let plain = codes_all IsPlain (λ own kind number secret by. refl) (λ own of. refl) setting known user (realm_of known.opening.version setting.facts) in
      pushed_plain setting.facts (codes ++ done_facts user actions.RecoveryCodes)
      (All-append IsPlain codes (done_facts user actions.RecoveryCodes) plain (done_plain user actions.RecoveryCodes)) once
  accepted_once forms.VerifyEmail new serial = pushed_plain setting.facts [] (All-nil IsPlain) once

module _ (setting : Setting) (post : Post) (finding : Finding) (once : AreSpentOnce setting.facts) where
  -- what a fitting check spends is new, and of the secret that it sets
  abbrev IsGood : Check → Type 0
  IsGood (checks.Fits user credential) = IsNewSpent setting.facts credential.serial credential.spent × IsSerialOf setting post.form credential
  IsGood (checks.Wrong user) = Unit {0}
  IsGood (checks.WrongCode user) = Unit {0}
  IsGood (checks.SpentCode step) = Unit {0}

  is_good : (known : KnownTab) (asked : List Need) (named who : Option UserId) (password : Option UserPassword) (check : Check)
      → check_with setting known asked named who password post.form finding ≡ check → IsGood check
  is_good known asked named who password (checks.Fits user credential) h =
      (subst (IsFresh setting.facts) h (check_fresh setting known asked named who password post.form finding), serial_of setting known asked named who password post.form finding user credential h)
  is_good known asked named who password (checks.Wrong user) h = tt
  is_good known asked named who password (checks.WrongCode user) h = tt
  is_good known asked named who password (checks.SpentCode step) h = tt

  check_good : (known : KnownTab) (named : Option UserId) (check : Check) → check_form setting known (progress_at setting known) named post.form finding ≡ Ok check → IsGood check
  check_good known named check h =
      let who = who_of setting.moment known.state in
      let progress = progress_at setting known in
      let fitting = is_fitting setting known progress named post.form finding check h in
      is_good known (asked_in progress) named who (password_for setting.facts (target_of named who post.form)) check fitting.is_check

  again_once : (known : KnownTab) (action : Option Action) (user : Option UserId) → AreSpentOnce (setting.facts ++ shown_again setting known action user)
  again_once known action user =
      pushed_plain setting.facts (shown_again setting known action user) (wrong_all IsPlain (plain_allows IsPlain spendless) setting known action user (λ own is. refl)) once

  check_once : (known : KnownTab) (check : Check) → IsGood check → AreSpentOnce (setting.facts ++ (answer_to_check setting known (progress_at setting known) post.form finding check).added)
  unfolding answer_to_check answer_to_accepted
  check_once known (checks.Fits user credential) good =
      let accepted = accepted_facts setting known post.form finding user credential in
      let more = setting.facts ++ accepted in
      let answer = tab_answer more setting (known_over known more) in
      subst AreSpentOnce (append_assoc setting.facts accepted answer.added)
      (pushed_plain more answer.added (tab_all IsPlain (plain_allows IsPlain spendless) (λ tab own session moment. refl) more setting (known_over known more)) (accepted_once setting known finding user credential once post.form good.0 good.1))
  check_once known (checks.Wrong user) good = again_once known (action_in (progress_at setting known)) user
  check_once known (checks.WrongCode user) good = again_once known (action_in (progress_at setting known)) user
  check_once known (checks.SpentCode step) good = again_once known (action_in (progress_at setting known)) None

  post_once : AreSpentOnce (setting.facts ++ (due_post setting post finding).added)
  unfolding due_post post_in post_where
  post_once =
      let facts = setting.facts in
      settled_once facts facts None (post_in setting post finding) (check_tab facts setting.moment post.root post.tab) once (λ known is_known.
      settled_once facts facts (Some known.tab) (post_by setting post.form finding known) (check_post facts setting.moment known post) once (λ named is_named.
      let progress = progress_at setting known in
      settled_once facts facts (Some known.tab) (answer_to_check setting known progress post.form finding) (check_form setting known progress named post.form finding) once (λ check is.
      check_once known check (check_good known named check is))))

-- ---- tokens

token_unspent : (made : Result Token Refusal) (spent : Bool) (unexpired : Token → Result (Unit {0}) Refusal) (user : UserId)
    → (made >>= (λ token. ◌>>=◌ {A = Unit {0}} (if spent then Err refusals.TokenSpent else Ok tt) (λ u. unexpired token >>= (λ v. Ok token.user)))) ≡ Ok user → spent ≡ false
token_unspent (Ok token) true unexpired user h = absurd cc
token_unspent (Ok token) false unexpired user h = refl
token_unspent (Err refusal) spent unexpired user h = absurd cc

unspent_token : (facts : List Fact) (moment : ℕ) (key : TokenKey) (kind : TokenAction) (user : UserId) → check_token facts moment key kind ≡ Ok user → is_token_spent key facts ≡ false
unfolding check_token check_unspent
unspent_token facts moment key kind user h = token_unspent (check_made facts key kind) (is_token_spent key facts) (check_unexpired moment) user h

spends_it : (key : TokenKey) (fact : Fact) → spends_same fact (events.SpentToken key) ≡ spends key fact
spends_it key (events.SpentToken of) = refl
spends_it key fact = refl

token_new : (key : TokenKey) (facts : List Fact) → list_any (spends key) facts ≡ false → IsNew (events.SpentToken key) facts
token_new key [] h = refl
token_new key (fact ∷ facts) h =
    let both = neither (spends key fact) (list_any (spends key) facts) h in
    rw (spends_it key fact, both.0) (token_new key facts both.1)

followed_once : (facts front : List Fact) (key : TokenKey) (user : UserId) (action : Action) → AreSpentOnce facts → All IsPlain front → IsNew (events.SpentToken key) facts
    → AreSpentOnce (facts ++ (front ++ followed key user action))
followed_once facts front key user action once plain new =
    let spent = events.SpentToken key in
    let done = done_facts user action in
    let first = pushed_plain facts front plain once in
    let middle = pushed (facts ++ front) spent first (still_new spent facts front new plain) in
    let back = pushed_plain ((facts ++ front) ++ spent ∷ []) done (done_plain user action) middle in
    subst AreSpentOnce (append_assoc facts front (spent ∷ done)) (subst AreSpentOnce (append_assoc (facts ++ front) (spent ∷ []) done) back)

verify_once : (setting : Setting) (key : TokenKey) → AreSpentOnce setting.facts → AreSpentOnce (setting.facts ++ (due_verify setting key).added)
unfolding due_verify is_token_spent
verify_once setting key once =
    settled_once setting.facts setting.facts None (answer_to_verify setting key) (check_token setting.facts setting.moment key tokens.VerifyEmail) once (λ user is.
    followed_once setting.facts [] key user actions.VerifyEmail once (All-nil IsPlain)
    (token_new key setting.facts (unspent_token setting.facts setting.moment key tokens.VerifyEmail user is)))

reset_once : (setting : Setting) (key : TokenKey) (finding : Finding) → AreSpentOnce setting.facts → AreSpentOnce (setting.facts ++ (due_reset setting key finding).added)
unfolding due_reset is_token_spent
reset_once setting key finding once =
    settled_once setting.facts setting.facts None (answer_to_reset setting key finding) (check_token setting.facts setting.moment key tokens.UpdatePassword) once (λ user is.
    let serial = last_stored_serial setting.facts + 1 in
    followed_once setting.facts (password_facts user serial (derived finding) None) key user actions.UpdatePassword once
    (password_all IsPlain (λ own kind number secret by. refl) (λ own of. refl) user serial (derived finding) None)
    (token_new key setting.facts (unspent_token setting.facts setting.moment key tokens.UpdatePassword user is)))

-- ---- asks

other_once : (setting : Setting) (ask : Ask) (finding : Finding) → AreSpentOnce setting.facts → is_post ask ≡ false → token_of ask ≡ None → AreSpentOnce (setting.facts ++ (due_ask setting ask finding).added)
other_once setting ask finding once h none =
    pushed_plain setting.facts (due_ask setting ask finding).added
    (other_all IsPlain (plain_allows IsPlain spendless) (λ tab own session moment. refl) setting ask finding h (λ key is. absurd cc)) once

pub ask_once : (setting : Setting) (ask : Ask) (finding : Finding) → AreSpentOnce setting.facts → AreSpentOnce (setting.facts ++ (due_ask setting ask finding).added)
ask_once setting (asks.Post post) finding once = post_once setting post finding once
ask_once setting (asks.Bad at) finding once = other_once setting (asks.Bad at) finding once refl refl
ask_once setting (asks.NewTab new) finding once = other_once setting (asks.NewTab new) finding once refl refl
ask_once setting (asks.Page root tab) finding once = other_once setting (asks.Page root tab) finding once refl refl
ask_once setting (asks.Verify key) finding once = verify_once setting key once
ask_once setting (asks.Reset key password) finding once = reset_once setting key finding once
ask_once setting (asks.Logout root) finding once = other_once setting (asks.Logout root) finding once refl refl
ask_once setting (asks.Admin access verb) finding once = other_once setting (asks.Admin access verb) finding once refl refl

-- ---- histories

pub once_through : (base : List Fact) (front more : List Entry) → LegalAfter base front more → AreSpentOnce (chronicle_of base front) → AreSpentOnce (chronicle_of base (front ++ more))
unfolding LegalAfter
once_through base front [] legal once = subst (λ (f : List Entry). AreSpentOnce (chronicle_of base f)) (sym (append-nil front)) once
once_through base front (entry ∷ more) legal once =
    let facts = chronicle_of base front in
    let setting = setting_at facts entry.moment entry.draws in
    let after = ask_once setting entry.solved.ask entry.solved.finding once in
    let grown = subst (λ (added : List Fact). AreSpentOnce (facts ++ added)) (sym legal.0.added) after in
    let pushed = subst AreSpentOnce (sym (chronicle_of-push base front entry)) grown in
    subst (λ (f : List Entry). AreSpentOnce (chronicle_of base f)) (append_assoc front (entry ∷ []) more) (once_through base (front ++ entry ∷ []) more legal.1 pushed)
