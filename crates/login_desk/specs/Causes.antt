-- What each status of a run says.
use Rattle.std.specs.Prelude.{◌≡◌, ℕ, ◌^◌, ◌<◌, List, Option, Some, None, length, IsOk, IsErr}
use Rattle.login_base.specs.Outside.{after_known, Rose}
use Rattle.realm_data.specs.declared.realm_parts.RealmParts.{RealmParts}
use Rattle.login_desk.specs.declared.command.Command.{Command}
use Rattle.login_desk.specs.declared.command.Command.TheVariants as commands
use Rattle.realm_fields.specs.declared.fault.RealmFault.{RealmFault}
use Rattle.realm_check.specs.Check.{check_line}
use Rattle.login_desk.specs.Outcome.{IsAnswered, IsStopped, IsOverlong, IsStarved, IsCutOff, read_line, script_line}
use Rattle.login_desk.specs.Outside.{OutsideState}
use Rattle.script_play.specs.Base.{or_builtin, base_of}
use Rattle.login_desk.specs.RealmGiven.{realm_given, refusal_line}
use Rattle.login_desk.specs.Run.{TakesRealm, TakesNoRealm, MeetsRealmFault, usage_line}
use Rattle.login_desk.specs.Turn.{WritesFront}

-- ---- 0

-- the whole script is answered, over the base with the realm that was read
pub record IsReplayed {S R : Type 0} (old new : OutsideState S R) : Type 0 where
  pub given : Option RealmParts
  pub realm : TakesRealm commands.Replay old new given
  pub script : IsAnswered (base_of given) old new

-- the line on the realm that was read is written
pub record IsChecked {S R : Type 0} (old new : OutsideState S R) : Type 0 where
  pub given : Option RealmParts
  pub realm : TakesRealm commands.Check old new given
  pub line : new.written ≡ after_known old.written (check_line (or_builtin given))

-- ---- 3

-- the bytes of the realm source are no realm for the command, and the line on it is written; the script isn't read
pub record IsRefused {S R : Type 0} (command : Command) (old new : OutsideState S R) : Type 0 where
  pub refusal : RealmFault
  pub no_realm : TakesNoRealm command old new refusal
  pub line : new.written ≡ after_known old.written (refusal_line refusal)
  pub unread : new.script ≡ old.script

-- ---- 4

-- a read of the realm source failed before the script was read; or in a replay a read of the script
pub data IsUnreadable {S R : Type 0} (command : Command) (old new : OutsideState S R) : Type 0 where
  Realm : MeetsRealmFault old new → new.script ≡ old.script → new.written ≡ after_known old.written read_line → IsUnreadable command old new
  Script : command ≡ commands.Replay → Rose old.script.faults new.script.faults → (given : Option RealmParts) → TakesRealm commands.Replay old new given → IsStopped (base_of given) old new read_line → IsUnreadable command old new

-- ---- 5

-- a front of what was due was written: of the line on the realm source, of that of a check, or of the replies
pub data IsPutFailed {S R : Type 0} (old new : OutsideState S R) : Option Command → Type 0 where
  Usage : WritesFront old.written new.written usage_line → IsPutFailed old new None
  Fault : (command : Command) → MeetsRealmFault old new → WritesFront old.written new.written read_line → IsPutFailed old new (Some command)
  Refusal : (command : Command) (refusal : RealmFault) → TakesNoRealm command old new refusal → WritesFront old.written new.written (refusal_line refusal) → IsPutFailed old new (Some command)
  Line : (given : Option RealmParts) → TakesRealm commands.Check old new given → WritesFront old.written new.written (check_line (or_builtin given)) → IsPutFailed old new (Some commands.Check)
  Replies : (given : Option RealmParts) → TakesRealm commands.Replay old new given → IsCutOff (base_of given) old new → IsPutFailed old new (Some commands.Replay)

-- ---- 7

-- nothing was written; or in a replay the reply lines to the first whole lines
pub data IsOutOfMemory {S R : Type 0} (command : Command) (old new : OutsideState S R) : Type 0 where
  Nothing : new.written ≡ old.written → IsOutOfMemory command old new
  Front : command ≡ commands.Replay → (given : Option RealmParts) → TakesRealm commands.Replay old new given → IsStarved (base_of given) old new → IsOutOfMemory command old new

-- ---- 9

-- 2^32 bytes of script were taken; the whole lines in them are answered, over the base with the realm that was read
pub record IsTooLong {S R : Type 0} (command : Command) (old new : OutsideState S R) : Type 0 where
  pub replay : command ≡ commands.Replay
  pub given : Option RealmParts
  pub realm : TakesRealm commands.Replay old new given
  pub script : IsOverlong (base_of given) old new script_line

-- ---- what a run comes to without a fault

-- the realm source tells its bytes, and they are no realm for the command
abbrev pub HasNoRealm : Command → Option (List ℕ) → Type 0
HasNoRealm command None = ⊥
HasNoRealm command (Some bytes) = IsErr (realm_given bytes)

-- the realm source tells its bytes, and the command can go on with them
abbrev pub HasRealm : Command → Option (List ℕ) → Type 0
HasRealm command None = ⊥
HasRealm command (Some bytes) = IsOk (realm_given bytes)

-- the script tells its bytes, and they are fewer than 2^32
abbrev pub IsShort : Option (List ℕ) → Type 0
IsShort None = ⊥
IsShort (Some bytes) = length bytes < 2 ^ 32

-- what a command needs of the outside to end with 0
abbrev pub HasAll : {S R : Type 0} → OutsideState S R → Command → Type 0
HasAll old commands.Replay = HasRealm commands.Replay old.realm.left × IsShort old.script.left
HasAll old commands.Check = HasRealm commands.Check old.realm.left
