-- Which facts are kept in tables.
use Rattle.std.specs.Prelude.{Bool, true, false, not, ◌||◌, ◌&&◌, ◌==◌, List}
use Rattle.std.specs.List.{list_any}
use Rattle.facts.specs.declared.fact.Fact.{Fact}
use Rattle.facts.specs.declared.fact.Fact.TheVariants as events

-- the fact changes what is kept: of tabs nothing is, and an opening value tells what was kept before
abbrev pub is_stored : Fact → Bool
is_stored (events.RealmPut version realm) = true
is_stored (events.UserPut user name roles) = true
is_stored (events.SecretSet user kind serial secret by) = true
is_stored (events.ActionSet user kind) = true
is_stored (events.ActionDone user kind) = true
is_stored (events.TokenMade key user kind expiry) = true
is_stored (events.SpentToken key) = true
is_stored (events.Enabled user) = true
is_stored (events.Disabled user) = true
is_stored (events.Failed user moment) = true
is_stored (events.SpentStep credential step) = true
is_stored (events.SpentRecovery credential number) = true
is_stored (events.Session session root user moment idle most) = true
is_stored (events.Seen session moment) = true
is_stored (events.Level session level moment) = true
is_stored (events.SessionEnd session) = true
is_stored (events.Completed tab user session moment) = true
is_stored (events.Opened root tab version level life moment) = false
is_stored (events.Rendered tab code action offer) = false
is_stored (events.Named tab user) = false
is_stored (events.Passed tab execution user kind credential moment) = false
is_stored (events.Standing user standing) = false
is_stored (events.Mark tabs stored used kept) = false

abbrev pub has_stored : List Fact → Bool
has_stored facts = list_any is_stored facts

-- an opening value, which no ask adds
abbrev pub is_opening_value : Fact → Bool
is_opening_value (events.Standing user standing) = true
is_opening_value (events.Mark tabs stored used kept) = true
is_opening_value fact = false

-- a mark of which some number isn't 0
abbrev pub is_used_mark : Fact → Bool
is_used_mark (events.Mark tabs stored used kept) = not (tabs == 0 && stored == 0 && used == 0 && kept == 0)
is_used_mark fact = false

-- the tables aren't empty: a stored fact is there, or a mark that tells of some
abbrev pub leaves_rows : Fact → Bool
leaves_rows fact = is_stored fact || is_used_mark fact

unfoldable pub has_rows : List Fact → Bool
has_rows facts = list_any leaves_rows facts
