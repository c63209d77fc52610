-- Legal histories: each entry is the one that was due.
use Rattle.std.specs.Prelude.{◌≡◌, ℕ, ◌+◌, ◌^◌, ◌<◌, ◌≤◌, List, [], ◌∷◌, ◌++◌}
use Rattle.login_base.specs.declared.draws.Draws.{Draws}
use Rattle.facts.specs.declared.entry.Entry.{Entry}
use Rattle.facts.specs.declared.fact.Fact.{Fact}
use Rattle.facts.specs.Realms.{last_version}
use Rattle.facts.specs.Serials.{last_tab_serial, last_stored_serial}
use Rattle.asks.specs.Solved.{SolvedAsk}
use Rattle.login_hall.specs.Due.{due}
use Rattle.login_hall.specs.Growth.{chronicle_of, last_moment, next_moment}

-- the entry may come next: its moment isn't earlier, and its reply and facts are the due ones
pub record Follows (base : List Fact) (journal : List Entry) (entry : Entry) : Type 0 where
  pub later : last_moment base journal ≤ entry.moment
  pub small : entry.moment < 2 ^ 53
  pub reply : entry.reply ≡ (due (chronicle_of base journal) entry.solved entry.moment entry.draws).reply
  pub added : entry.added ≡ (due (chronicle_of base journal) entry.solved entry.moment entry.draws).added

-- each entry follows those before it
unfoldable pub LegalAfter : List Fact → List Entry → List Entry → Type 0
LegalAfter base front [] = Unit {0}
LegalAfter base front (entry ∷ journal) = Follows base front entry × LegalAfter base (front ++ entry ∷ []) journal

abbrev pub IsLegal : List Fact → List Entry → Type 0
IsLegal base journal = LegalAfter base [] journal

-- the entry of an ask at a moment over a chronicle
abbrev pub entry_at : List Fact → ℕ → ℕ → Draws → SolvedAsk → Entry
entry_at chronicle caller moment draws solved =
    record {
      caller = caller;
      moment = moment;
      draws = draws;
      solved = solved;
      reply = (due chronicle solved moment draws).reply;
      added = (due chronicle solved moment draws).added;
    }

-- the entry that an ask is due after a journal
abbrev pub entry_due : List Fact → List Entry → ℕ → ℕ → Draws → SolvedAsk → Entry
entry_due base journal caller moment draws solved = entry_at (chronicle_of base journal) caller (next_moment base journal moment) draws solved

-- an ask raises each counter of serials by 4 at most, and the realm's version by 1
pub record Raises (old new : List Fact) : Type 0 where
  pub tabs : last_tab_serial new ≤ last_tab_serial old + 4
  pub stored : last_stored_serial new ≤ last_stored_serial old + 4
  pub version : last_version new ≤ last_version old + 1

-- a start raises the stored counter by 40,000 at most, and the version by 1; it leaves that of tabs
pub record RaisesAtStart (old new : List Fact) : Type 0 where
  pub tabs : last_tab_serial new ≡ last_tab_serial old
  pub stored : last_stored_serial new ≤ last_stored_serial old + 40000
  pub version : last_version new ≤ last_version old + 1
