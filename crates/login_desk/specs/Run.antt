-- What a run of the program means, by its command and its status.
use Rattle.std.specs.Prelude.{◌≡◌, ◌⊎◌, ◌==◌, ◌||◌, ℕ, ◌<◌, Bool, List, [], ◌∷◌, ◌++◌, Option, Some, None, Ok, Err, length, codes}
use Rattle.facts.specs.declared.fact.Fact.{Fact}
use Rattle.login_base.specs.Outside.{before_known, after_known, IsAtEnd, Rose}
use Rattle.realm_data.specs.declared.realm_parts.RealmParts.{RealmParts}
use Rattle.login_desk.specs.declared.command.Command.{Command}
use Rattle.login_desk.specs.declared.command.Command.TheVariants as commands
use Rattle.realm_fields.specs.declared.fault.RealmFault.{RealmFault}
use Rattle.login_desk.specs.declared.status.Outcome.{Outcome}
use Rattle.login_desk.specs.declared.status.Outcome.TheVariants as outcomes
use Rattle.realm_check.specs.Check.{check_line}
use Rattle.login_desk.specs.Outcome.{IsAnswered, IsStopped, IsOverlong, IsStarved, IsCutOff, read_line, script_line}
use Rattle.login_desk.specs.Outside.{OutsideState, IsUnread}
use Rattle.script_play.specs.Base.{or_builtin, base_of}
use Rattle.login_desk.specs.RealmGiven.{realm_given, refusal_line}
use Rattle.login_desk.specs.Turn.{WritesFront}
use Rattle.login_desk.specs.Whole.{whole_limit}

abbrev pub usage_line : List ℕ
usage_line = codes "error 2 usage" ++ 10 ∷ []

-- the statuses that there are
abbrev pub is_status : ℕ → Bool
is_status n = n == 0 || n == 2 || n == 3 || n == 4 || n == 5 || n == 7 || n == 9

-- ---- one line

-- the line was written, and the status is this one; or a write failed, and a front of the line was written
pub data LineMeans {S R : Type 0} (line : List ℕ) (wanted : ℕ) (old new : OutsideState S R) (status : ℕ) : Type 0 where
  Told : status ≡ wanted → new.written ≡ after_known old.written line → LineMeans line wanted old new status
  Cut : status ≡ 5 → Rose old.write_faults new.write_faults → WritesFront old.written new.written line → LineMeans line wanted old new status

-- the same, by the outcome
abbrev pub LineEnds : Option (List ℕ) → Option (List ℕ) → List ℕ → Outcome → Outcome → Type 0
LineEnds before after line wanted outcome = ((outcome ≡ wanted) × (after ≡ after_known before line)) ⊎ ((outcome ≡ outcomes.PutFailed) × WritesFront before after line)

-- ---- the realm

-- the realm source was read to its end, and its bytes are the realm with which the command goes on, or none
pub record TakesRealm {S R : Type 0} (command : Command) (old new : OutsideState S R) (given : Option RealmParts) : Type 0 where
  pub bytes : List ℕ
  pub taken : old.realm.left ≡ before_known bytes new.realm.left
  pub end : IsAtEnd new.realm.left
  pub meant : realm_given bytes ≡ Ok given

-- the realm source was read to its end, or more bytes were taken than a realm may have; they are no realm for the command
pub record TakesNoRealm {S R : Type 0} (command : Command) (old new : OutsideState S R) (refusal : RealmFault) : Type 0 where
  pub bytes : List ℕ
  pub taken : old.realm.left ≡ before_known bytes new.realm.left
  pub whole : IsAtEnd new.realm.left ⊎ (whole_limit < length bytes)
  pub meant : realm_given bytes ≡ Err refusal

-- a read of the realm source failed
pub record MeetsRealmFault {S R : Type 0} (old new : OutsideState S R) : Type 0 where
  pub rose : Rose old.realm.faults new.realm.faults
  pub bytes : List ℕ
  pub taken : old.realm.left ≡ before_known bytes new.realm.left

-- ---- commands

-- a replay over a base
pub data ReplayMeans {S R : Type 0} (base : List Fact) (old new : OutsideState S R) (status : ℕ) : Type 0 where
  Answered : status ≡ 0 → IsAnswered base old new → ReplayMeans base old new status
  Stopped : status ≡ 4 → Rose old.script.faults new.script.faults → IsStopped base old new read_line → ReplayMeans base old new status
  CutOff : status ≡ 5 → Rose old.write_faults new.write_faults → IsCutOff base old new → ReplayMeans base old new status
  Starved : status ≡ 7 → IsStarved base old new → ReplayMeans base old new status
  Overlong : status ≡ 9 → IsOverlong base old new script_line → ReplayMeans base old new status

-- a check of a realm, which reads no script
pub data CheckMeans {S R : Type 0} (realm : RealmParts) (old new : OutsideState S R) (status : ℕ) : Type 0 where
  Checked : new.script ≡ old.script → LineMeans (check_line realm) 0 old new status → CheckMeans realm old new status
  Unchecked : new.script ≡ old.script → status ≡ 7 → new.written ≡ old.written → CheckMeans realm old new status

-- what a command does with the realm that is given, if any
abbrev pub WorkMeans : {S R : Type 0} → Command → Option RealmParts → OutsideState S R → OutsideState S R → ℕ → Type 0
WorkMeans commands.Replay given old new status = ReplayMeans (base_of given) old new status
WorkMeans commands.Check given old new status = CheckMeans (or_builtin given) old new status

-- what a command does with the bytes of a realm source: they are no realm for it, or it goes on
pub data BytesMean {S R : Type 0} (command : Command) (bytes : List ℕ) (old new : OutsideState S R) (status : ℕ) : Type 0 where
  Denied : new.script ≡ old.script → (refusal : RealmFault) → realm_given bytes ≡ Err refusal → LineMeans (refusal_line refusal) 3 old new status → BytesMean command bytes old new status
  Unmet : new.script ≡ old.script → status ≡ 7 → new.written ≡ old.written → BytesMean command bytes old new status
  Met : (given : Option RealmParts) → realm_given bytes ≡ Ok given → WorkMeans command given old new status → BytesMean command bytes old new status

-- a command that has the option of a realm: it reads the realm source first
pub data CommandMeans {S R : Type 0} (command : Command) (old new : OutsideState S R) (status : ℕ) : Type 0 where
  Faulty : new.script ≡ old.script → MeetsRealmFault old new → LineMeans read_line 4 old new status → CommandMeans command old new status
  Refused : new.script ≡ old.script → (refusal : RealmFault) → TakesNoRealm command old new refusal → LineMeans (refusal_line refusal) 3 old new status → CommandMeans command old new status
  Unmade : new.script ≡ old.script → status ≡ 7 → new.written ≡ old.written → CommandMeans command old new status
  Goes : (given : Option RealmParts) → TakesRealm command old new given → WorkMeans command given old new status → CommandMeans command old new status

-- what a run of this command does to the outside, where it ends with this status; without a command it reads nothing
abbrev pub RunMeans : {S R : Type 0} → Option Command → OutsideState S R → OutsideState S R → ℕ → Type 0
RunMeans None old new status = IsUnread old new × LineMeans usage_line 2 old new status
RunMeans (Some command) old new status = CommandMeans command old new status
