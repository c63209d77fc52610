-- The words of a realm file.
use Rattle.std.specs.Prelude.{ℕ, Bool, ◌&&◌, nat_le, List, length, Option, Some, None, Result, Ok, Err, option_map, option_and_then, codes, if◌then◌else◌}
use Rattle.std.specs.Str.{bytes_eq}
use Rattle.hex.specs.Hex.{decode_of, decode_sized}
use Rattle.hex.specs.declared.error.FromHexError.{FromHexError}
use Rattle.login_base.specs.Names.{is_name}
use Rattle.lockout.specs.declared.policy.Mode.{Mode}
use Rattle.lockout.specs.declared.policy.Mode.TheVariants.{Temporary, Permanent}
use Rattle.flow_tree.specs.declared.exec.Kind.{Kind}
use Rattle.flow_tree.specs.declared.exec.Kind.TheVariants as kinds
use Rattle.flow_tree.specs.declared.exec.Requirement.{Requirement}
use Rattle.flow_tree.specs.declared.exec.Requirement.TheVariants.{Required, Alternative, Conditional, Disabled}
use Rattle.realm_data.specs.declared.action.Action.{Action}
use Rattle.realm_data.specs.declared.action.Action.TheVariants as actions
use Rattle.realm_data.specs.Secrets.{is_otp_key}
use Rattle.one_time.specs.Base32.{base32_bytes}
use Rattle.one_time.specs.declared.base32.Base32Fault.{Base32Fault}
use Rattle.realm_fields.specs.declared.words.ExecKind.{ExecKind}
use Rattle.realm_fields.specs.declared.words.ExecKind.TheVariants.{Auth, Configured, Role, Level, Flow}

abbrev pub requirement_of : List ℕ → Option Requirement
requirement_of word =
    if bytes_eq word (codes "required") then Some Required
    else if bytes_eq word (codes "alternative") then Some Alternative
    else if bytes_eq word (codes "conditional") then Some Conditional
    else if bytes_eq word (codes "disabled") then Some Disabled
    else None

unfoldable pub leaf_kind_of : List ℕ → Option Kind
leaf_kind_of word =
    if bytes_eq word (codes "allow") then Some kinds.Allow
    else if bytes_eq word (codes "deny") then Some kinds.Deny
    else if bytes_eq word (codes "cookie") then Some kinds.Cookie
    else if bytes_eq word (codes "username") then Some kinds.Username
    else if bytes_eq word (codes "password") then Some kinds.Password
    else if bytes_eq word (codes "form") then Some kinds.Form
    else if bytes_eq word (codes "otp") then Some kinds.Otp
    else if bytes_eq word (codes "recovery") then Some kinds.Recovery
    else None

-- what the word `kind` of an execution says
unfoldable pub exec_kind_of : List ℕ → Option ExecKind
exec_kind_of word =
    if bytes_eq word (codes "configured") then Some Configured
    else if bytes_eq word (codes "role") then Some Role
    else if bytes_eq word (codes "level") then Some Level
    else if bytes_eq word (codes "flow") then Some Flow
    else option_map Auth (leaf_kind_of word)

abbrev pub mode_of : List ℕ → Option Mode
mode_of word =
    if bytes_eq word (codes "temporary") then Some Temporary
    else if bytes_eq word (codes "permanent") then Some Permanent
    else None

unfoldable pub action_of : List ℕ → Option Action
action_of word =
    if bytes_eq word (codes "terms") then Some actions.Terms
    else if bytes_eq word (codes "verify_email") then Some actions.VerifyEmail
    else if bytes_eq word (codes "update_password") then Some actions.UpdatePassword
    else if bytes_eq word (codes "configure_otp") then Some actions.ConfigureOtp
    else if bytes_eq word (codes "recovery_codes") then Some actions.RecoveryCodes
    else None

abbrev pub name_of : List ℕ → Option (List ℕ)
name_of word = if is_name word then Some word else None

abbrev pub if_decoded : Result (List ℕ) FromHexError → Option (List ℕ)
if_decoded (Ok bytes) = Some bytes
if_decoded (Err e) = None

-- 64 hexadecimal digits, in either case
abbrev pub digest_of : List ℕ → Option (List ℕ)
digest_of word = if_decoded (decode_sized word 32)

-- a salt has 1 to 64 bytes
abbrev pub is_salt : List ℕ → Bool
is_salt salt = nat_le 1 (length salt) && nat_le (length salt) 64

abbrev pub if_salt : List ℕ → Option (List ℕ)
if_salt bytes = if is_salt bytes then Some bytes else None

-- hexadecimal digits of a salt, in either case
abbrev pub salt_of : List ℕ → Option (List ℕ)
salt_of word = option_and_then if_salt (if_decoded (decode_of word))

abbrev pub if_otp_key : Result (List ℕ) Base32Fault → Option (List ℕ)
if_otp_key (Ok key) = if is_otp_key key then Some key else None
if_otp_key (Err e) = None

-- base32 of a secret
abbrev pub otp_of : List ℕ → Option (List ℕ)
otp_of word = if_otp_key (base32_bytes word)
