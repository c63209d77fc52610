-- A hall as contracts see it.
use Rattle.std.specs.Prelude.{◌≡◌, ℕ, ◌≤◌, List, length, take}
use Rattle.facts.specs.declared.entry.Entry.{Entry}
use Rattle.facts.specs.declared.fact.Fact.{Fact}
use Rattle.login_hall.specs.Growth.{chronicle_of, last_moment}
use Rattle.login_hall.specs.Legal.{IsLegal}

-- the base and the journal; the facts that a proposal made room for; and the room for entries
pub record HallState : Type 0 where
  pub base : List Fact
  pub journal : List Entry
  pub waiting : List Fact
  pub room : ℕ

-- all that happened
abbrev pub facts_of : HallState → List Fact
facts_of hall = chronicle_of hall.base hall.journal

-- base and journal are as before
pub record IsUnchanged (old new : HallState) : Type 0 where
  pub base : new.base ≡ old.base
  pub journal : new.journal ≡ old.journal

-- what a hall keeps: its facts are those of a base and a legal journal, and its moment is the last one
pub record IsSound (facts : List Fact) (based : ℕ) (journal : List Entry) (last : ℕ) : Type 0 where
  pub within : based ≤ length facts
  pub kept : facts ≡ chronicle_of (take based facts) journal
  pub legal : IsLegal (take based facts) journal
  pub ends : last ≡ last_moment (take based facts) journal
