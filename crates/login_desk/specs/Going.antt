-- What holds between two lines of a script.
use Rattle.std.specs.Prelude.{◌≡◌, ◌+◌, ◌*◌, ◌≤◌, ℕ, true, List, length}
use Rattle.std.specs.List.{AllByRecursion}
use Rattle.facts.specs.declared.fact.Fact.{Fact}
use Rattle.facts.specs.Realms.{last_version}
use Rattle.facts.specs.Serials.{last_tab_serial, last_stored_serial}
use Rattle.login_base.specs.Outside.{after_known, before_known}
use Rattle.script_lines.specs.Lines.{IsLine, unlines}
use Rattle.login_desk.specs.Intake.{Held, rest}
use Rattle.login_desk.specs.Outside.{OutsideState}
use Rattle.script_play.specs.Play.{PlayState, facts_in, state_of, play, play_text}

-- these lines were taken and answered
pub record Going {S R : Type 0} (base : List Fact) (old now : OutsideState S R) (held : Held) (player : PlayState) : Type 0 where
  pub done : List (List ℕ)
  pub plain : AllByRecursion IsLine done
  pub came : old.script.left ≡ before_known (unlines done) (rest held now.script.left)
  pub count : held.taken ≡ length (unlines done)
  pub text : now.written ≡ after_known old.written (play_text base done)
  pub over : player ≡ state_of base (play base done)
  pub tabs : last_tab_serial (facts_in player) ≤ last_tab_serial base + 4 * length done
  pub stored : last_stored_serial (facts_in player) ≤ last_stored_serial base + 4 * length done
  pub version : last_version (facts_in player) ≤ last_version base + length done
  pub unread : now.realm ≡ old.realm
  pub reads : old.script.faults ≤ now.script.faults
  pub puts : old.write_faults ≤ now.write_faults
  pub ends : now.script.ends ≡ old.script.ends
