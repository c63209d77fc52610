-- A list of facts, and the facts that wait to join it.
use Rattle.std.specs.Prelude.{◌≡◌, ℕ, ◌+◌, List, [], ◌∷◌, length, Option, if◌then◌else◌}
use Rattle.realm_data.specs.declared.realm_parts.RealmParts.{RealmParts}
use Rattle.facts.specs.declared.fact.Fact.{Fact}
use Rattle.facts.specs.declared.note.Note.{Note}
use Rattle.facts.specs.declared.chronicle.Waiting.{Waiting}
use Rattle.facts.specs.Places.{last_of}
use Rattle.facts.specs.Realms.{realm_put, current_realm, last_version}
use Rattle.facts.specs.Serials.{last_tab_serial, last_stored_serial, last_known_serial, known_serial_after}
use Rattle.facts.specs.Subjects.{subject_of, is_account}

pub record Kept : Type 0 where
  pub list : List Fact
  pub waiting : List Fact

-- the serials, the version and the realm are those of the list
pub record IsCounted (list : List Fact) (tabs stored known number : ℕ) (put : Option RealmParts) : Type 0 where
  pub tab_serial : tabs ≡ last_tab_serial list
  pub stored_serial : stored ≡ last_stored_serial list
  pub known_serial : known ≡ last_known_serial list
  pub version : number ≡ last_version list
  pub realm : put ≡ current_realm list

abbrev pub note_of : ℕ → Fact → Note
note_of known fact = record { subject = subject_of fact; known = known_serial_after known fact }

-- what is noted of each fact behind others whose greatest serial of a root or a tab is given
unfoldable pub notes_of : ℕ → List Fact → List Note
notes_of known [] = []
notes_of known (fact ∷ facts) = note_of known fact ∷ notes_of (known_serial_after known fact) facts

-- the notes are those of the facts, one by one
abbrev pub AreNotes : List Note → List Fact → Type 0
AreNotes notes facts = notes ≡ notes_of 0 facts

-- so are those of the facts that wait
abbrev pub AreNotesBehind : List Note → List Fact → List Fact → Type 0
AreNotesBehind notes facts waiting = notes ≡ notes_of (last_known_serial facts) waiting

-- the places of the facts about accounts, where so many facts stand before these
unfoldable pub account_places : ℕ → List Fact → List ℕ
account_places before [] = []
account_places before (fact ∷ facts) =
    if is_account (subject_of fact) then before ∷ account_places (before + 1) facts
    else account_places (before + 1) facts

abbrev pub AreAccounts : List ℕ → List Fact → Type 0
AreAccounts places facts = places ≡ account_places 0 facts

-- what is kept beside the facts that wait to join a list
pub record IsAwaited (list : List Fact) (waiting : Waiting) : Type 0 where
  pub notes : AreNotesBehind waiting.notes.items list waiting.facts.items
  pub accounts : waiting.accounts.items ≡ account_places (length list) waiting.facts.items
  pub realm : waiting.realm ≡ last_of realm_put waiting.facts.items
