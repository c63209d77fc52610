-- The play of a script: its journal, its text, and the asks that wait.
use Rattle.std.specs.Prelude.{ℕ, Bool, true, false, List, [], ◌∷◌, ◌++◌, fold, Option, Some, None, codes, decimal, if◌then◌else◌}
use Rattle.login_base.specs.declared.draws.Draws.{Draws}
use Rattle.asks.specs.declared.ask.Ask.{Ask}
use Rattle.asks.specs.declared.ask.Ask.TheVariants as asks
use Rattle.asks.specs.Solved.{SolvedAsk}
use Rattle.facts.specs.declared.entry.Entry.{Entry}
use Rattle.facts.specs.declared.fact.Fact.{Fact}
use Rattle.reply_words.specs.Words.{words}
use Rattle.login_hall.specs.Found.{solved_of}
use Rattle.login_hall.specs.Growth.{chronicle_of, last_moment}
use Rattle.login_hall.specs.Legal.{entry_due}
use Rattle.script_lines.specs.declared.lines.ScriptLine.{ScriptLine}
use Rattle.script_lines.specs.declared.step.Step.{Step}
use Rattle.script_lines.specs.declared.step.Step.TheVariants as steps
use Rattle.script_lines.specs.Lines.{script_line, is_skipped}
use Rattle.script_play.specs.declared.begun.BegunAsk.{BegunAsk}
use Rattle.script_play.specs.Begun.{begun_under, is_begun, without}

-- ---- where a play stands

-- its base, its entries so far, and the asks that wait
pub record PlayState : Type 0 where
  pub base : List Fact
  pub journal : List Entry
  pub begun : List BegunAsk

-- all that happened
abbrev pub facts_in : PlayState → List Fact
facts_in now = chronicle_of now.base now.journal

-- ---- what a line brings

-- entries, what is written, and the asks that wait from then on
pub record Brings : Type 0 where
  pub entries : List Entry
  pub text : List ℕ
  pub begun : List BegunAsk

-- a line that asks nothing
abbrev pub nothing : PlayState → Brings
nothing now = record { entries = []; text = []; begun = now.begun }

-- the reply line of an entry
abbrev pub entry_text : Entry → List ℕ
entry_text entry = words entry.reply ++ 10 ∷ []

-- an entry, and its reply line
abbrev pub with_entry : List BegunAsk → Entry → Brings
with_entry begun entry = record { entries = entry ∷ []; text = entry_text entry; begun = begun }

-- what an ask comes to at this place: its password gone, and what was found for it
abbrev pub solved_in : PlayState → Draws → Ask → SolvedAsk
solved_in now draws ask = solved_of (facts_in now) (last_moment now.base now.journal) ask draws

-- the entry of a solved ask, at the moment and with the draws of a line; the caller of a script is 0
abbrev pub entry_in : PlayState → ℕ → Draws → SolvedAsk → Entry
entry_in now moment draws solved = entry_due now.base now.journal 0 moment draws solved

-- ---- asks, begins and settles

-- the ask of a line is due at once
abbrev pub ask_brings : PlayState → ℕ → Draws → Ask → Brings
ask_brings now moment draws ask = with_entry now.begun (entry_in now moment draws (solved_in now draws ask))

-- a handle that is in use can't be begun, and one that isn't can't be settled
abbrev pub bad_handle : Ask
bad_handle = asks.Bad (codes "h")

abbrev pub begun_text : ℕ → List ℕ
begun_text handle = codes "begun h=" ++ decimal handle ++ 10 ∷ []

-- the ask waits under the handle, with what was found for it here; it is no entry yet
abbrev pub begin_brings : PlayState → Draws → ℕ → Ask → Brings
begin_brings now draws handle ask =
    let own : BegunAsk = record { handle = handle; solved = solved_in now draws ask } in
    record { entries = []; text = begun_text handle; begun = now.begun ++ own ∷ [] }

-- the ask that waited is due, at the moment and with the draws of the line that settles it
abbrev pub settle_brings : PlayState → ℕ → Draws → ℕ → Option BegunAsk → Brings
settle_brings now moment draws handle (Some own) = with_entry (without handle now.begun) (entry_in now moment draws own.solved)
settle_brings now moment draws handle None = ask_brings now moment draws bad_handle

abbrev pub is_bad : Ask → Bool
is_bad (asks.Bad at) = true
is_bad ask = false

-- a malformed ask isn't begun: it is due at once
unfoldable pub step_brings : PlayState → ℕ → Draws → Step → Brings
step_brings now moment draws (steps.Ask ask) = ask_brings now moment draws ask
step_brings now moment draws (steps.Begin handle ask) =
    if is_begun handle now.begun then ask_brings now moment draws bad_handle
    else if is_bad ask then ask_brings now moment draws ask
    else begin_brings now draws handle ask
step_brings now moment draws (steps.Settle handle) = settle_brings now moment draws handle (begun_under handle now.begun)

abbrev pub script_line_brings : PlayState → ScriptLine → Brings
script_line_brings now line = step_brings now line.moment line.draws line.step

unfoldable pub line_brings : PlayState → List ℕ → Brings
line_brings now line = if is_skipped line then nothing now else script_line_brings now (script_line line)

-- where the play stands then
abbrev pub after : PlayState → Brings → PlayState
after now brings = record { base = now.base; journal = now.journal ++ brings.entries; begun = brings.begun }

-- ---- plays

-- the entries so far, what is written for them, and the asks that wait
pub record Play : Type 0 where
  pub journal : List Entry
  pub text : List ℕ
  pub begun : List BegunAsk

abbrev pub no_play : Play
no_play = record { journal = []; text = []; begun = [] }

abbrev pub state_of : List Fact → Play → PlayState
state_of base play = record { base = base; journal = play.journal; begun = play.begun }

-- a play with one more line
abbrev pub with_line : List Fact → Play → List ℕ → Play
with_line base play line =
    let brings = line_brings (state_of base play) line in
    record { journal = play.journal ++ brings.entries; text = play.text ++ brings.text; begun = brings.begun }

-- the play of these lines over a base
unfoldable pub play : List Fact → List (List ℕ) → Play
play base lines = fold (with_line base) no_play lines

-- what is written for these lines
abbrev pub play_text : List Fact → List (List ℕ) → List ℕ
play_text base lines = (play base lines).text
