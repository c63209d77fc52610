-- What each status of a run says.
use Rattle.std.proofs.Common.{◌≡◌, ℕ, ◌<◌, ◌^◌, true, List, ◌++◌, Some, None, Ok, Err, length, refl, sym, ap, ◌∙◌, inl, inr, arith}
use Rattle.std.specs.Prelude.{Option, ◌⊎◌, Result, is_err, IsSomeAnd, IsOk, IsErr}
use Rattle.std.proofs.lemmas.List.{append-nil, length-append}
use Rattle.login_base.specs.Outside.{before_known, after_known, Rose, IsAtEnd}
use Rattle.realm_data.specs.declared.realm_parts.RealmParts.{RealmParts}
use Rattle.login_desk.specs.declared.command.Command.{Command}
use Rattle.login_desk.specs.declared.command.Command.TheVariants as commands
use Rattle.realm_fields.specs.declared.fault.RealmFault.{RealmFault}
use Rattle.login_desk.specs.declared.status.Outcome.{Outcome}
use Rattle.login_desk.specs.declared.status.Outcome.TheVariants as outcomes
use Rattle.login_desk.specs.Causes.{IsReplayed, IsChecked, IsRefused, IsUnreadable, IsPutFailed, IsOutOfMemory, IsTooLong, HasNoRealm, HasRealm, HasAll, IsShort}
use Rattle.login_desk.specs.Causes.IsUnreadable.{Realm, Script}
use Rattle.login_desk.specs.Causes.IsPutFailed.{Usage, Fault, Refusal, Line, Replies}
use Rattle.login_desk.specs.Causes.IsOutOfMemory.{Nothing, Front}
use Rattle.login_desk.specs.Outside.{OutsideState, IsUnread, IsFaultless}
use Rattle.login_desk.specs.RealmGiven.{realm_given}
use Rattle.login_desk.specs.Run.{LineMeans, RunMeans, TakesRealm, TakesNoRealm, is_status, usage_line}
use Rattle.login_desk.specs.Run.LineMeans.{Told, Cut}
use Rattle.login_desk.specs.Run.ReplayMeans.{Answered, Stopped, CutOff, Starved, Overlong}
use Rattle.login_desk.specs.Run.CheckMeans.{Checked, Unchecked}
use Rattle.login_desk.specs.Run.CommandMeans.{Faulty, Refused, Unmade, Goes}
use Rattle.login_desk.specs.Statuses.{number_of}
use Rattle.login_desk.specs.Whole.{whole_limit}
use Rattle.login_desk.proofs.RunLemmas.{too_many}

-- ---- outcomes

pub known : (outcome : Outcome) → is_status (number_of outcome) ≡ true
known outcomes.Done = refl
known outcomes.Usage = refl
known outcomes.NoRealm = refl
known outcomes.ReadFailed = refl
known outcomes.PutFailed = refl
known outcomes.Memory = refl
known outcomes.TooLong = refl

pub is_done : (outcome : Outcome) → number_of outcome ≡ 0 → outcome ≡ outcomes.Done
is_done outcomes.Done e = refl
is_done outcomes.Usage e = absurd (omega arith)
is_done outcomes.NoRealm e = absurd (omega arith)
is_done outcomes.ReadFailed e = absurd (omega arith)
is_done outcomes.PutFailed e = absurd (omega arith)
is_done outcomes.Memory e = absurd (omega arith)
is_done outcomes.TooLong e = absurd (omega arith)

module _ {S R : Type 0} (old new : OutsideState S R) (status : ℕ) where
  -- the line ends a run with its own status, or with 5
  other : {A : Type 0} (text : List ℕ) (wanted n : ℕ) → LineMeans text wanted old new status → status ≡ n → ¬ (n ≡ wanted) → ¬ (n ≡ 5) → A
  other text wanted n (Told s w) e own cut = absurd (own (sym e ∙ s))
  other text wanted n (Cut s rose w) e own cut = absurd (cut (sym e ∙ s))

  -- ---- 0

  pub replayed : (command : Option Command) → RunMeans command old new status → status ≡ 0 → command ≡ Some commands.Replay → IsReplayed old new
  replayed None m e is = absurd cc
  replayed (Some commands.Check) m e is = absurd cc
  replayed (Some commands.Replay) (Faulty u f l) e is = other _ 4 0 l e (λ h. omega arith) (λ h. omega arith)
  replayed (Some commands.Replay) (Refused u r n l) e is = other _ 3 0 l e (λ h. omega arith) (λ h. omega arith)
  replayed (Some commands.Replay) (Unmade u s w) e is = absurd (omega arith)
  replayed (Some commands.Replay) (Goes given t (Answered s a)) e is = record { given = given; realm = t; script = a }
  replayed (Some commands.Replay) (Goes given t (Stopped s r a)) e is = absurd (omega arith)
  replayed (Some commands.Replay) (Goes given t (CutOff s r a)) e is = absurd (omega arith)
  replayed (Some commands.Replay) (Goes given t (Starved s a)) e is = absurd (omega arith)
  replayed (Some commands.Replay) (Goes given t (Overlong s a)) e is = absurd (omega arith)

  pub checked : (command : Option Command) → RunMeans command old new status → status ≡ 0 → command ≡ Some commands.Check → IsChecked old new
  checked None m e is = absurd cc
  checked (Some commands.Replay) m e is = absurd cc
  checked (Some commands.Check) (Faulty u f l) e is = other _ 4 0 l e (λ h. omega arith) (λ h. omega arith)
  checked (Some commands.Check) (Refused u r n l) e is = other _ 3 0 l e (λ h. omega arith) (λ h. omega arith)
  checked (Some commands.Check) (Unmade u s w) e is = absurd (omega arith)
  checked (Some commands.Check) (Goes given t (Checked u (Told s w))) e is = record { given = given; realm = t; line = w }
  checked (Some commands.Check) (Goes given t (Checked u (Cut s r w))) e is = absurd (omega arith)
  checked (Some commands.Check) (Goes given t (Unchecked u s w)) e is = absurd (omega arith)

  pub scriptless : (command : Option Command) → RunMeans command old new status → command ≡ Some commands.Check → new.script ≡ old.script
  scriptless None m is = absurd cc
  scriptless (Some commands.Replay) m is = absurd cc
  scriptless (Some commands.Check) (Faulty u f l) is = u
  scriptless (Some commands.Check) (Refused u r n l) is = u
  scriptless (Some commands.Check) (Unmade u s w) is = u
  scriptless (Some commands.Check) (Goes given t (Checked u l)) is = u
  scriptless (Some commands.Check) (Goes given t (Unchecked u s w)) is = u

  -- ---- 2

  pub usage : (command : Option Command) → RunMeans command old new status → status ≡ 2 → (command ≡ None) × (new.written ≡ after_known old.written usage_line)
  usage None (u, Told s w) e = (refl, w)
  usage None (u, Cut s r w) e = absurd (omega arith)
  usage (Some command) (Faulty u f l) e = other _ 4 2 l e (λ h. omega arith) (λ h. omega arith)
  usage (Some command) (Refused u r n l) e = other _ 3 2 l e (λ h. omega arith) (λ h. omega arith)
  usage (Some command) (Unmade u s w) e = absurd (omega arith)
  usage (Some commands.Replay) (Goes given t (Answered s a)) e = absurd (omega arith)
  usage (Some commands.Replay) (Goes given t (Stopped s r a)) e = absurd (omega arith)
  usage (Some commands.Replay) (Goes given t (CutOff s r a)) e = absurd (omega arith)
  usage (Some commands.Replay) (Goes given t (Starved s a)) e = absurd (omega arith)
  usage (Some commands.Replay) (Goes given t (Overlong s a)) e = absurd (omega arith)
  usage (Some commands.Check) (Goes given t (Checked u l)) e = other _ 0 2 l e (λ h. omega arith) (λ h. omega arith)
  usage (Some commands.Check) (Goes given t (Unchecked u s w)) e = absurd (omega arith)

  pub outside : (command : Option Command) → RunMeans command old new status → command ≡ None → (status ≡ 2) ⊎ (status ≡ 5)
  outside None (u, Told s w) is = inl s
  outside None (u, Cut s r w) is = inr s
  outside (Some command) m is = absurd cc

  pub unread : (command : Option Command) → RunMeans command old new status → command ≡ None → IsUnread old new
  unread None m is = m.0
  unread (Some command) m is = absurd cc

  -- ---- 3

  pub realm : (command : Option Command) → RunMeans command old new status → status ≡ 3 → IsSomeAnd command (λ c. IsRefused c old new)
  realm None (u, l) e = other _ 2 3 l e (λ h. omega arith) (λ h. omega arith)
  realm (Some command) (Faulty u f l) e = other _ 4 3 l e (λ h. omega arith) (λ h. omega arith)
  realm (Some command) (Refused u r n (Told s w)) e = record { refusal = r; no_realm = n; line = w; unread = u }
  realm (Some command) (Refused u r n (Cut s rose w)) e = absurd (omega arith)
  realm (Some command) (Unmade u s w) e = absurd (omega arith)
  realm (Some commands.Replay) (Goes given t (Answered s a)) e = absurd (omega arith)
  realm (Some commands.Replay) (Goes given t (Stopped s r a)) e = absurd (omega arith)
  realm (Some commands.Replay) (Goes given t (CutOff s r a)) e = absurd (omega arith)
  realm (Some commands.Replay) (Goes given t (Starved s a)) e = absurd (omega arith)
  realm (Some commands.Replay) (Goes given t (Overlong s a)) e = absurd (omega arith)
  realm (Some commands.Check) (Goes given t (Checked u l)) e = other _ 0 3 l e (λ h. omega arith) (λ h. omega arith)
  realm (Some commands.Check) (Goes given t (Unchecked u s w)) e = absurd (omega arith)

  -- ---- 4

  pub read : (command : Option Command) → RunMeans command old new status → status ≡ 4 → IsSomeAnd command (λ c. IsUnreadable c old new)
  read None (u, l) e = other _ 2 4 l e (λ h. omega arith) (λ h. omega arith)
  read (Some command) (Faulty u f (Told s w)) e = Realm f u w
  read (Some command) (Faulty u f (Cut s rose w)) e = absurd (omega arith)
  read (Some command) (Refused u r n l) e = other _ 3 4 l e (λ h. omega arith) (λ h. omega arith)
  read (Some command) (Unmade u s w) e = absurd (omega arith)
  read (Some commands.Replay) (Goes given t (Answered s a)) e = absurd (omega arith)
  read (Some commands.Replay) (Goes given t (Stopped s r a)) e = Script refl r given t a
  read (Some commands.Replay) (Goes given t (CutOff s r a)) e = absurd (omega arith)
  read (Some commands.Replay) (Goes given t (Starved s a)) e = absurd (omega arith)
  read (Some commands.Replay) (Goes given t (Overlong s a)) e = absurd (omega arith)
  read (Some commands.Check) (Goes given t (Checked u l)) e = other _ 0 4 l e (λ h. omega arith) (λ h. omega arith)
  read (Some commands.Check) (Goes given t (Unchecked u s w)) e = absurd (omega arith)

  read_by : (command : Option Command) → IsSomeAnd command (λ c. IsUnreadable c old new) → Rose old.realm.faults new.realm.faults ⊎ Rose old.script.faults new.script.faults
  read_by None h = absurd h
  read_by (Some command) (Realm f u w) = inl f.rose
  read_by (Some command) (Script is rose given t a) = inr rose

  pub read_cause : (command : Option Command) → RunMeans command old new status → status ≡ 4 → Rose old.realm.faults new.realm.faults ⊎ Rose old.script.faults new.script.faults
  read_cause command m e = read_by command (read command m e)

  -- ---- 5

  pub put : (command : Option Command) → RunMeans command old new status → status ≡ 5 → IsPutFailed old new command × Rose old.write_faults new.write_faults
  put None (u, Told s w) e = absurd (omega arith)
  put None (u, Cut s rose w) e = (Usage w, rose)
  put (Some command) (Faulty u f (Told s w)) e = absurd (omega arith)
  put (Some command) (Faulty u f (Cut s rose w)) e = (Fault command f w, rose)
  put (Some command) (Refused u r n (Told s w)) e = absurd (omega arith)
  put (Some command) (Refused u r n (Cut s rose w)) e = (Refusal command r n w, rose)
  put (Some command) (Unmade u s w) e = absurd (omega arith)
  put (Some commands.Replay) (Goes given t (Answered s a)) e = absurd (omega arith)
  put (Some commands.Replay) (Goes given t (Stopped s r a)) e = absurd (omega arith)
  put (Some commands.Replay) (Goes given t (CutOff s rose a)) e = (Replies given t a, rose)
  put (Some commands.Replay) (Goes given t (Starved s a)) e = absurd (omega arith)
  put (Some commands.Replay) (Goes given t (Overlong s a)) e = absurd (omega arith)
  put (Some commands.Check) (Goes given t (Checked u (Told s w))) e = absurd (omega arith)
  put (Some commands.Check) (Goes given t (Checked u (Cut s rose w))) e = (Line given t w, rose)
  put (Some commands.Check) (Goes given t (Unchecked u s w)) e = absurd (omega arith)

  -- ---- 7

  pub memory : (command : Option Command) → RunMeans command old new status → status ≡ 7 → IsSomeAnd command (λ c. IsOutOfMemory c old new)
  memory None (u, l) e = other _ 2 7 l e (λ h. omega arith) (λ h. omega arith)
  memory (Some command) (Faulty u f l) e = other _ 4 7 l e (λ h. omega arith) (λ h. omega arith)
  memory (Some command) (Refused u r n l) e = other _ 3 7 l e (λ h. omega arith) (λ h. omega arith)
  memory (Some command) (Unmade u s w) e = Nothing w
  memory (Some commands.Replay) (Goes given t (Answered s a)) e = absurd (omega arith)
  memory (Some commands.Replay) (Goes given t (Stopped s r a)) e = absurd (omega arith)
  memory (Some commands.Replay) (Goes given t (CutOff s r a)) e = absurd (omega arith)
  memory (Some commands.Replay) (Goes given t (Starved s a)) e = Front refl given t a
  memory (Some commands.Replay) (Goes given t (Overlong s a)) e = absurd (omega arith)
  memory (Some commands.Check) (Goes given t (Checked u l)) e = other _ 0 7 l e (λ h. omega arith) (λ h. omega arith)
  memory (Some commands.Check) (Goes given t (Unchecked u s w)) e = Nothing w

  -- ---- 9

  pub long : (command : Option Command) → RunMeans command old new status → status ≡ 9 → IsSomeAnd command (λ c. IsTooLong c old new)
  long None (u, l) e = other _ 2 9 l e (λ h. omega arith) (λ h. omega arith)
  long (Some command) (Faulty u f l) e = other _ 4 9 l e (λ h. omega arith) (λ h. omega arith)
  long (Some command) (Refused u r n l) e = other _ 3 9 l e (λ h. omega arith) (λ h. omega arith)
  long (Some command) (Unmade u s w) e = absurd (omega arith)
  long (Some commands.Replay) (Goes given t (Answered s a)) e = absurd (omega arith)
  long (Some commands.Replay) (Goes given t (Stopped s r a)) e = absurd (omega arith)
  long (Some commands.Replay) (Goes given t (CutOff s r a)) e = absurd (omega arith)
  long (Some commands.Replay) (Goes given t (Starved s a)) e = absurd (omega arith)
  long (Some commands.Replay) (Goes given t (Overlong s a)) e = record { replay = refl; given = given; realm = t; script = a }
  long (Some commands.Check) (Goes given t (Checked u l)) e = other _ 0 9 l e (λ h. omega arith) (λ h. omega arith)
  long (Some commands.Check) (Goes given t (Unchecked u s w)) e = absurd (omega arith)

-- ---- sources that tell

-- what was taken to the end is all that there was
all_taken : (all bytes : List ℕ) (later : Option (List ℕ)) → Some all ≡ before_known bytes later → IsAtEnd later → all ≡ bytes
all_taken all bytes None taken end = absurd cc
all_taken all bytes (Some more) taken end =
    let same : all ≡ bytes ++ more = cc in
    same ∙ ap (λ l. bytes ++ l) end ∙ append-nil bytes

-- it begins with what was taken
not_fewer : (all bytes : List ℕ) (later : Option (List ℕ)) (n : ℕ) → Some all ≡ before_known bytes later → n < length bytes → n < length all
not_fewer all bytes None n taken more = absurd cc
not_fewer all bytes (Some later) n taken more =
    let same : all ≡ bytes ++ later = cc in
    omega (arith, ap length same, length-append bytes later)

-- fewer than 2^32 bytes don't begin with so many
not_short : (script later : Option (List ℕ)) (bytes : List ℕ) → IsShort script → script ≡ before_known bytes later → length bytes ≡ 2 ^ 32 → ⊥
not_short None later bytes short taken full = short
not_short (Some all) None bytes short taken full = absurd cc
not_short (Some all) (Some later) bytes short taken full =
    let same : all ≡ bytes ++ later = cc in
    omega (arith, ap length same, length-append bytes later)

not_both : {A E : Type 0} (r : Result A E) → IsOk r → IsErr r → ⊥
not_both (Ok x) ok err = absurd cc
not_both (Err e) ok err = absurd cc

module _ {S R : Type 0} (old new : OutsideState S R) where
  -- a realm that was taken is what the source tells
  is_realm : (command : Command) (given : Option RealmParts) → TakesRealm command old new given → HasNoRealm command old.realm.left → ⊥
  is_realm command given t h = go old.realm.left refl h
    where
      go : (told : Option (List ℕ)) → old.realm.left ≡ told → HasNoRealm command told → ⊥
      go None e h = h
      go (Some all) e h =
          let same = all_taken all t.bytes new.realm.left (sym e ∙ t.taken) t.end in
          let ok : IsOk (realm_given all) = rw (same, t.meant) refl in
          not_both (realm_given all) ok h

  is_no_realm : (command : Command) (refusal : RealmFault) → TakesNoRealm command old new refusal → HasRealm command old.realm.left → ⊥
  is_no_realm command refusal t h = go old.realm.left refl h t.whole
    where
      go : (told : Option (List ℕ)) → old.realm.left ≡ told → HasRealm command told → IsAtEnd new.realm.left ⊎ (whole_limit < length t.bytes) → ⊥
      go None e h w = h
      go (Some all) e h (inl end) =
          let same = all_taken all t.bytes new.realm.left (sym e ∙ t.taken) end in
          let err : IsErr (realm_given all) = rw (same, t.meant) refl in
          not_both (realm_given all) h err
      go (Some all) e h (inr many) = not_both (realm_given all) h (ap is_err (too_many all (not_fewer all t.bytes new.realm.left whole_limit (sym e ∙ t.taken) many)))

  module _ (status : ℕ) (faultless : IsFaultless old new) where
    pub refused : (command : Option Command) → RunMeans command old new status → IsSomeAnd command (λ c. HasNoRealm c old.realm.left) → (status ≡ 3) ⊎ (status ≡ 7)
    refused None m h = absurd h
    refused (Some command) (Faulty u f l) h = absurd (faultless.realm f.rose)
    refused (Some command) (Refused u r n (Told s w)) h = inl s
    refused (Some command) (Refused u r n (Cut s rose w)) h = absurd (faultless.puts rose)
    refused (Some command) (Unmade u s w) h = inr s
    refused (Some command) (Goes given t w) h = absurd (is_realm command given t h)

    has_realm : (command : Command) → HasAll old command → HasRealm command old.realm.left
    has_realm commands.Replay h = h.0
    has_realm commands.Check h = h

    pub complete : (command : Option Command) → RunMeans command old new status → IsSomeAnd command (λ c. HasAll old c) → (status ≡ 0) ⊎ (status ≡ 7)
    complete None m h = absurd h
    complete (Some command) (Faulty u f l) h = absurd (faultless.realm f.rose)
    complete (Some command) (Refused u r n l) h = absurd (is_no_realm command r n (has_realm command h))
    complete (Some command) (Unmade u s w) h = inr s
    complete (Some commands.Replay) (Goes given t (Answered s a)) h = inl s
    complete (Some commands.Replay) (Goes given t (Stopped s rose a)) h = absurd (faultless.script rose)
    complete (Some commands.Replay) (Goes given t (CutOff s rose a)) h = absurd (faultless.puts rose)
    complete (Some commands.Replay) (Goes given t (Starved s a)) h = inr s
    complete (Some commands.Replay) (Goes given t (Overlong s a)) h = absurd (not_short old.script.left a.later a.bytes h.1 a.taken a.full)
    complete (Some commands.Check) (Goes given t (Checked u (Told s w))) h = inl s
    complete (Some commands.Check) (Goes given t (Checked u (Cut s rose w))) h = absurd (faultless.puts rose)
    complete (Some commands.Check) (Goes given t (Unchecked u s w)) h = inr s
