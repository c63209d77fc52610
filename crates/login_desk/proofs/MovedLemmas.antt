-- What is done after the realm was read is done from the outset, since the reading of a realm leaves the script and what
-- was written.
use Rattle.std.proofs.Common.{◌≡◌, ℕ, List, sym, ap, subst, ◌∙◌}
use Rattle.std.specs.Prelude.{Option}
use Rattle.facts.specs.declared.fact.Fact.{Fact}
use Rattle.login_base.specs.Outside.{after_known, Rose}
use Rattle.realm_data.specs.declared.realm_parts.RealmParts.{RealmParts}
use Rattle.login_desk.specs.declared.command.Command.{Command}
use Rattle.login_desk.specs.declared.command.Command.TheVariants as commands
use Rattle.login_desk.specs.Outcome.{IsReplyDue}
use Rattle.login_desk.specs.Outcome.IsReplyDue.{Whole, Ended, Fault, Limit}
use Rattle.login_desk.specs.Outside.{SourceState, OutsideState, IsUnwritten}
use Rattle.login_desk.specs.Run.{LineMeans, ReplayMeans, CheckMeans, WorkMeans}
use Rattle.login_desk.specs.Run.LineMeans.{Told, Cut}
use Rattle.login_desk.specs.Run.ReplayMeans.{Answered, Stopped, CutOff, Starved, Overlong}
use Rattle.login_desk.specs.Run.CheckMeans.{Checked, Unchecked}
use Rattle.login_desk.specs.Turn.{WritesFront}

module _ {S R : Type 0} (old mid new : OutsideState S R) (script : mid.script ≡ old.script) (unwritten : IsUnwritten old mid) where
  put_rose : Rose mid.write_faults new.write_faults → Rose old.write_faults new.write_faults
  put_rose rose = subst (λ n. Rose n new.write_faults) unwritten.faults rose

  read_rose : Rose mid.script.faults new.script.faults → Rose old.script.faults new.script.faults
  read_rose rose = subst (λ n. Rose n new.script.faults) (ap (λ (s : SourceState S). s.faults) script) rose

  begins : (taken : Option (List ℕ)) → mid.script.left ≡ taken → old.script.left ≡ taken
  begins taken e = sym (ap (λ (s : SourceState S). s.left) script) ∙ e

  writes : (text : List ℕ) → new.written ≡ after_known mid.written text → new.written ≡ after_known old.written text
  writes text e = e ∙ ap (λ w. after_known w text) unwritten.written

  front : (text : List ℕ) → WritesFront mid.written new.written text → WritesFront old.written new.written text
  front text w = subst (λ x. WritesFront x new.written text) unwritten.written w

  pub line : (text : List ℕ) (wanted status : ℕ) → LineMeans text wanted mid new status → LineMeans text wanted old new status
  line text wanted status (Told s w) = Told s (writes text w)
  line text wanted status (Cut s rose w) = Cut s (put_rose rose) (front text w)

  module _ (base : List Fact) where
    due : (text : List ℕ) → IsReplyDue base mid new text → IsReplyDue base old new text
    due text (Whole bytes later taken is) = Whole bytes later (begins _ taken) is
    due text (Ended bytes taken end is) = Ended bytes (begins _ taken) end is
    due text (Fault rose bytes taken is) = Fault (read_rose rose) bytes (begins _ taken) is
    due text (Limit bytes later taken full is) = Limit bytes later (begins _ taken) full is

    replay : (status : ℕ) → ReplayMeans base mid new status → ReplayMeans base old new status
    replay status (Answered s a) = Answered s (record { bytes = a.bytes; taken = begins _ a.taken; end = a.end; short = a.short; text = writes _ a.text })
    replay status (Stopped s rose a) = Stopped s (read_rose rose) (record { bytes = a.bytes; taken = begins _ a.taken; short = a.short; text = writes _ a.text })
    replay status (CutOff s rose a) = CutOff s (put_rose rose) (record { due = a.due; is_due = due a.due a.is_due; front = front a.due a.front })
    replay status (Starved s a) = Starved s (record { bytes = a.bytes; later = a.later; taken = begins _ a.taken; text = writes _ a.text })
    replay status (Overlong s a) = Overlong s (record { bytes = a.bytes; later = a.later; taken = begins _ a.taken; full = a.full; text = writes _ a.text })

  check : (realm : RealmParts) (status : ℕ) → CheckMeans realm mid new status → CheckMeans realm old new status
  check realm status (Checked u l) = Checked (u ∙ script) (line _ 0 status l)
  check realm status (Unchecked u s w) = Unchecked (u ∙ script) s (w ∙ unwritten.written)

  pub work : (command : Command) (given : Option RealmParts) (status : ℕ) → WorkMeans command given mid new status → WorkMeans command given old new status
  work commands.Replay given status w = replay _ status w
  work commands.Check given status w = check _ status w
