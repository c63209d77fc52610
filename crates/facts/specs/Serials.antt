-- The two counters of serials: that of tabs numbers roots, tabs and codes, and the stored one
-- users, secrets, sessions and tokens. And how far the serials of the known roots and tabs go.
use Rattle.std.specs.Prelude.{ℕ, max, List, Option, Some, None, fold}
use Rattle.login_base.specs.declared.id.RootKey.{RootKey}
use Rattle.facts.specs.declared.fact.Fact.{Fact}
use Rattle.facts.specs.declared.fact.Fact.TheVariants as events

-- the greatest serial of the tab counter after one more fact: a mark puts its own in its place
abbrev pub tab_serial_after : ℕ → Fact → ℕ
tab_serial_after n (events.Opened root tab version level life moment) = max (max n root.0.serial) tab.0.serial
tab_serial_after n (events.Rendered tab code action offer) = max n code.0.serial
tab_serial_after n (events.Mark tabs stored used kept) = tabs
tab_serial_after n event = n

-- the last used serial of the tab counter
unfoldable pub last_tab_serial : List Fact → ℕ
last_tab_serial facts = fold tab_serial_after 0 facts

-- the greatest serial of the stored counter after one more fact
abbrev pub stored_serial_after : ℕ → Fact → ℕ
stored_serial_after n (events.UserPut user name roles) = max n user.0
stored_serial_after n (events.SecretSet user kind serial secret by) = max n serial
stored_serial_after n (events.TokenMade key user kind expiry) = max n key.0.serial
stored_serial_after n (events.Session session root user moment idle life) = max n session.0.serial
stored_serial_after n (events.Mark tabs stored used kept) = stored
stored_serial_after n event = n

-- the last used serial of the stored counter
unfoldable pub last_stored_serial : List Fact → ℕ
last_stored_serial facts = fold stored_serial_after 0 facts

abbrev pub root_serial : Option RootKey → ℕ
root_serial None = 0
root_serial (Some root) = root.0.serial

-- the greatest serial of a root or a tab after one more fact, which may name some
abbrev pub known_serial_after : ℕ → Fact → ℕ
known_serial_after n (events.SecretSet user kind serial secret (Some tab)) = max n tab.0.serial
known_serial_after n (events.Session session root user moment idle life) = max n (root_serial root)
known_serial_after n (events.Completed tab user session moment) = max n tab.0.serial
known_serial_after n (events.Opened root tab version level life moment) = max (max n root.0.serial) tab.0.serial
known_serial_after n (events.Rendered tab code action offer) = max n tab.0.serial
known_serial_after n (events.Named tab user) = max n tab.0.serial
known_serial_after n (events.Passed tab execution user kind credential moment) = max n tab.0.serial
known_serial_after n event = n

-- the greatest serial of a root or a tab that the facts name
unfoldable pub last_known_serial : List Fact → ℕ
last_known_serial facts = fold known_serial_after 0 facts
