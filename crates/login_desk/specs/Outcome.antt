-- How a script comes out: what was taken of it, and what was written.
use Rattle.std.specs.Prelude.{◌≡◌, ℕ, ◌^◌, ◌<◌, List, [], ◌++◌, length, Option, codes, ◌∷◌}
use Rattle.facts.specs.declared.fact.Fact.{Fact}
use Rattle.login_base.specs.Outside.{before_known, after_known, IsAtEnd, Rose}
use Rattle.script_lines.specs.Lines.{lines, whole_lines}
use Rattle.login_desk.specs.Outside.{OutsideState}
use Rattle.script_play.specs.Play.{play_text}
use Rattle.login_desk.specs.Turn.{WritesFront}
use Rattle.login_desk.specs.declared.play.End.{End}
use Rattle.login_desk.specs.declared.play.End.TheVariants as ends
use Rattle.login_desk.specs.declared.turn.Turn.{Turn}
use Rattle.login_desk.specs.declared.turn.Turn.TheVariants as turns

-- ---- error lines

abbrev pub read_line : List ℕ
read_line = codes "error 4 read" ++ 10 ∷ []

abbrev pub script_line : List ℕ
script_line = codes "error 9 script" ++ 10 ∷ []

-- ---- outcomes

-- the whole script was taken, of fewer than 2^32 bytes, and the text of the play of its lines was written
pub record IsAnswered {S R : Type 0} (base : List Fact) (old new : OutsideState S R) : Type 0 where
  pub bytes : List ℕ
  pub taken : old.script.left ≡ before_known bytes new.script.left
  pub end : IsAtEnd new.script.left
  pub short : length bytes < 2 ^ 32
  pub text : new.written ≡ after_known old.written (play_text base (lines bytes))

-- fewer than 2^32 bytes were taken; the text of the play of the whole lines in them was written, and then the last line
pub record IsStopped {S R : Type 0} (base : List Fact) (old new : OutsideState S R) (last : List ℕ) : Type 0 where
  pub bytes : List ℕ
  pub taken : old.script.left ≡ before_known bytes new.script.left
  pub short : length bytes < 2 ^ 32
  pub text : new.written ≡ after_known old.written (play_text base (whole_lines bytes) ++ last)

-- 2^32 bytes were taken; the text of the play of the whole lines in them was written, and then the last line
pub record IsOverlong {S R : Type 0} (base : List Fact) (old new : OutsideState S R) (last : List ℕ) : Type 0 where
  pub bytes : List ℕ
  pub later : Option (List ℕ)
  pub taken : old.script.left ≡ before_known bytes later
  pub full : length bytes ≡ 2 ^ 32
  pub text : new.written ≡ after_known old.written (play_text base (whole_lines bytes) ++ last)

-- the text of the play of the first whole lines was written
pub record IsStarved {S R : Type 0} (base : List Fact) (old new : OutsideState S R) : Type 0 where
  pub bytes : List ℕ
  pub later : Option (List ℕ)
  pub taken : old.script.left ≡ before_known bytes later
  pub text : new.written ≡ after_known old.written (play_text base (whole_lines bytes))

-- what is due to be written in a replay that ends in a write that fails
pub data IsReplyDue {S R : Type 0} (base : List Fact) (old new : OutsideState S R) (due : List ℕ) : Type 0 where
  -- the text of the play of the first whole lines
  Whole : (bytes : List ℕ) (later : Option (List ℕ)) → old.script.left ≡ before_known bytes later → due ≡ play_text base (whole_lines bytes) → IsReplyDue base old new due
  -- that of all lines, where the script is at its end
  Ended : (bytes : List ℕ) → old.script.left ≡ before_known bytes new.script.left → IsAtEnd new.script.left → due ≡ play_text base (lines bytes) → IsReplyDue base old new due
  -- that of the whole lines before a fault, and the line on the fault
  Fault : Rose old.script.faults new.script.faults → (bytes : List ℕ) → old.script.left ≡ before_known bytes new.script.left → due ≡ play_text base (whole_lines bytes) ++ read_line → IsReplyDue base old new due
  -- that of the whole lines in 2^32 bytes, and the line on their number
  Limit : (bytes : List ℕ) (later : Option (List ℕ)) → old.script.left ≡ before_known bytes later → length bytes ≡ 2 ^ 32 → due ≡ play_text base (whole_lines bytes) ++ script_line → IsReplyDue base old new due

-- a front of what was due was written
pub record IsCutOff {S R : Type 0} (base : List Fact) (old new : OutsideState S R) : Type 0 where
  pub due : List ℕ
  pub is_due : IsReplyDue base old new due
  pub front : WritesFront old.written new.written due

abbrev pub PlayEnds : {S R : Type 0} → List Fact → OutsideState S R → OutsideState S R → End → Type 0
PlayEnds base old new ends.Done = IsAnswered base old new
PlayEnds base old new ends.ReadFailed = IsStopped base old new []
PlayEnds base old new ends.PutFailed = IsCutOff base old new
PlayEnds base old new ends.TooLong = IsOverlong base old new []
PlayEnds base old new ends.Memory = IsStarved base old new

-- how a script comes out whose last line comes out so
abbrev pub end_of : Turn → End
end_of turns.Told = ends.Done
end_of turns.Failed = ends.PutFailed
end_of turns.Memory = ends.Memory
