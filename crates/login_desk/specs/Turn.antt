-- How one line is answered.
use Rattle.std.specs.Prelude.{◌≡◌, ℕ, List, ◌++◌, Option}
use Rattle.login_base.specs.Outside.{after_known}
use Rattle.script_play.specs.Play.{PlayState, facts_in, after, line_brings}
use Rattle.login_desk.specs.declared.turn.Turn.{Turn}
use Rattle.login_desk.specs.declared.turn.Turn.TheVariants as turns
use Rattle.login_hall.specs.Legal.{Raises}

-- the play goes on with what the line brings
pub record Answers (old new : PlayState) (line : List ℕ) : Type 0 where
  pub goes_on : new ≡ after old (line_brings old line)
  pub raises : Raises (facts_in old) (facts_in new)

-- a front of the text was written
pub record WritesFront (before after : Option (List ℕ)) (text : List ℕ) : Type 0 where
  pub front : List ℕ
  pub unwritten : List ℕ
  pub cut : text ≡ front ++ unwritten
  pub written : after ≡ after_known before front

abbrev pub TurnEnds : PlayState → PlayState → List ℕ → Option (List ℕ) → Option (List ℕ) → Turn → Type 0
TurnEnds old new line before after turns.Told =
    Answers old new line × (after ≡ after_known before (line_brings old line).text)
TurnEnds old new line before after turns.Failed = WritesFront before after (line_brings old line).text
TurnEnds old new line before after turns.Memory = after ≡ before
