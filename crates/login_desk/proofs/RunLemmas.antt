-- A run, part after part.
use Rattle.std.proofs.Common.{◌≡◌, ℕ, ◌<◌, List, [], ◌∷◌, ◌++◌, Err, length, refl, sym, ap, subst, ◌∙◌, append_assoc, inl, inr, arith}
use Rattle.std.specs.Prelude.{Option, ◌⊎◌}
use Rattle.std.proofs.lemmas.Bool.{lt-ltb}
use Rattle.std.proofs.lemmas.List.{append-nil}
use Rattle.facts.specs.declared.fact.Fact.{Fact}
use Rattle.realm_fields.specs.declared.fault.RealmFault.TheVariants.{OutOfRange}
use Rattle.login_base.specs.Outside.{before_known, after_known, Rose, IsAtEnd}
use Rattle.login_desk.specs.declared.command.Command.{Command}
use Rattle.realm_fields.specs.declared.fault.RealmFault.{RealmFault}
use Rattle.login_desk.specs.declared.status.Outcome.{Outcome}
use Rattle.login_desk.specs.declared.status.Outcome.TheVariants as outcomes
use Rattle.script_lines.specs.Lines.{whole_lines}
use Rattle.login_desk.specs.Outcome.{IsStopped, IsOverlong, read_line, script_line}
use Rattle.login_desk.specs.Outcome.IsReplyDue.{Fault, Limit}
use Rattle.login_desk.specs.Outside.{SourceState, OutsideState, IsUnread, IsUnwritten}
use Rattle.script_play.specs.Play.{play_text}
use Rattle.login_desk.specs.RealmGiven.{realm_given, refusal_line}
use Rattle.login_desk.specs.Run.{LineMeans, LineEnds, ReplayMeans, BytesMean, CommandMeans}
use Rattle.login_desk.specs.Run.LineMeans.{Told, Cut}
use Rattle.login_desk.specs.Run.ReplayMeans.{Stopped, CutOff, Overlong}
use Rattle.login_desk.specs.Run.BytesMean.{Denied, Unmet, Met}
use Rattle.login_desk.specs.Run.CommandMeans.{Faulty, Refused, Unmade, Goes}
use Rattle.login_desk.specs.Statuses.{number_of}
use Rattle.login_desk.specs.Turn.{WritesFront}
use Rattle.login_desk.specs.Whole.{TakesTooMany, whole_limit}
use Rattle.login_desk.proofs.KnownLemmas.{after_known-append}
use Rattle.login_desk.proofs.MovedLemmas.{line, work}

-- ---- the last line

-- the line was written, or a write failed
pub line_means : {S R : Type 0} (old new : OutsideState S R) (text : List ℕ) (wanted outcome : Outcome) → LineEnds old.written new.written text wanted outcome
    → (outcome ≡ outcomes.PutFailed → Rose old.write_faults new.write_faults) → LineMeans text (number_of wanted) old new (number_of outcome)
line_means old new text wanted outcome (inl w) rose = Told (ap number_of w.0) w.1
line_means old new text wanted outcome (inr w) rose = Cut (ap number_of w.0) (rose w.0) w.1

-- a text was written, and then the last line in whole or in part
module _ (before mid after : Option (List ℕ)) (text last : List ℕ) (told : mid ≡ after_known before (text ++ [])) where
  told_text : mid ≡ after_known before text
  told_text = told ∙ ap (after_known before) (append-nil text)

  all_after : after ≡ after_known mid last → after ≡ after_known before (text ++ last)
  all_after e = e ∙ ap (λ x. after_known x last) told_text ∙ after_known-append before text last

  front_after : WritesFront mid after last → WritesFront before after (text ++ last)
  front_after w = record {
    front = text ++ w.front;
    unwritten = w.unwritten;
    cut = ap (λ l. text ++ l) w.cut ∙ sym (append_assoc text w.front w.unwritten);
    written = w.written ∙ ap (λ x. after_known x w.front) told_text ∙ after_known-append before text w.front;
  }

module _ {S R : Type 0} (base : List Fact) (old mid new : OutsideState S R) (outcome : Outcome) (rose_put : outcome ≡ outcomes.PutFailed → Rose old.write_faults new.write_faults) where
  pub at_fault : IsStopped base old mid [] → Rose old.script.faults mid.script.faults → IsUnread mid new → LineEnds mid.written new.written read_line outcomes.ReadFailed outcome → ReplayMeans base old new (number_of outcome)
  at_fault s rose u w =
      let left = ap (λ (x : SourceState S). x.left) (sym u.script) in
      let taken = s.taken ∙ ap (before_known s.bytes) left in
      let rose_read = subst (λ (x : SourceState S). Rose old.script.faults x.faults) (sym u.script) rose in
      go taken rose_read w
    where
      text : List ℕ
      text = play_text base (whole_lines s.bytes)

      go : old.script.left ≡ before_known s.bytes new.script.left → Rose old.script.faults new.script.faults → LineEnds mid.written new.written read_line outcomes.ReadFailed outcome → ReplayMeans base old new (number_of outcome)
      go taken r (inl w) = Stopped (ap number_of w.0) r (record { bytes = s.bytes; taken = taken; short = s.short; text = all_after old.written mid.written new.written text read_line s.text w.1 })
      go taken r (inr w) = CutOff (ap number_of w.0) (rose_put w.0) (record {
        due = text ++ read_line;
        is_due = Fault r s.bytes taken refl;
        front = front_after old.written mid.written new.written text read_line s.text w.1;
      })

  pub at_limit : IsOverlong base old mid [] → LineEnds mid.written new.written script_line outcomes.TooLong outcome → ReplayMeans base old new (number_of outcome)
  at_limit s (inl w) = Overlong (ap number_of w.0) (record {
    bytes = s.bytes;
    later = s.later;
    taken = s.taken;
    full = s.full;
    text = all_after old.written mid.written new.written (play_text base (whole_lines s.bytes)) script_line s.text w.1;
  })
  at_limit s (inr w) = CutOff (ap number_of w.0) (rose_put w.0) (record {
    due = play_text base (whole_lines s.bytes) ++ script_line;
    is_due = Limit s.bytes s.later s.taken s.full refl;
    front = front_after old.written mid.written new.written (play_text base (whole_lines s.bytes)) script_line s.text w.1;
  })

-- ---- the realm, and what comes after it

-- more bytes than a realm may have are none
pub too_many : (bytes : List ℕ) → whole_limit < length bytes → realm_given bytes ≡ Err (OutOfRange [])
unfolding realm_given
too_many [] many = absurd (omega arith)
too_many (b ∷ bytes) many = rw (lt-ltb whole_limit (length (b ∷ bytes)) many) refl

pub denied : {S R : Type 0} (command : Command) (bytes : List ℕ) (old new : OutsideState S R) (refusal : RealmFault) (outcome : Outcome) → new.script ≡ old.script → realm_given bytes ≡ Err refusal
    → LineMeans (refusal_line refusal) 3 old new (number_of outcome) ⊎ ((outcome ≡ outcomes.Memory) × (new.written ≡ old.written)) → BytesMean command bytes old new (number_of outcome)
denied command bytes old new refusal outcome u meant (inl l) = Denied u refusal meant l
denied command bytes old new refusal outcome u meant (inr w) = Unmet u (ap number_of w.0) w.1

module _ {S R : Type 0} (command : Command) (old mid new : OutsideState S R) (script : mid.script ≡ old.script) (unwritten : IsUnwritten old mid) (realm : new.realm ≡ mid.realm) where
  left : mid.realm.left ≡ new.realm.left
  left = ap (λ (x : SourceState R). x.left) (sym realm)

  pub with_bytes : (bytes : List ℕ) (status : ℕ) → old.realm.left ≡ before_known bytes mid.realm.left → IsAtEnd mid.realm.left → BytesMean command bytes mid new status → CommandMeans command old new status
  with_bytes bytes status taken end (Denied u refusal meant l) = Refused (u ∙ script) refusal (record {
    bytes = bytes;
    taken = taken ∙ ap (before_known bytes) left;
    whole = inl (subst IsAtEnd left end);
    meant = meant;
  }) (line old mid new script unwritten _ 3 status l)
  with_bytes bytes status taken end (Unmet u s w) = Unmade (u ∙ script) s (w ∙ unwritten.written)
  with_bytes bytes status taken end (Met given meant w) = Goes given (record {
    bytes = bytes;
    taken = taken ∙ ap (before_known bytes) left;
    end = subst IsAtEnd left end;
    meant = meant;
  }) (work old mid new script unwritten command given status w)

  pub at_many : (outcome : Outcome) → new.script ≡ mid.script → TakesTooMany old.realm.left mid.realm.left
      → LineMeans (refusal_line (OutOfRange [])) 3 mid new (number_of outcome) ⊎ ((outcome ≡ outcomes.Memory) × (new.written ≡ mid.written)) → CommandMeans command old new (number_of outcome)
  at_many outcome u t (inl l) = Refused (u ∙ script) _ (record {
    bytes = t.bytes;
    taken = t.taken ∙ ap (before_known t.bytes) left;
    whole = inr t.many;
    meant = too_many t.bytes t.many;
  }) (line old mid new script unwritten _ 3 (number_of outcome) l)
  at_many outcome u t (inr w) = Unmade (u ∙ script) (ap number_of w.0) (w.1 ∙ unwritten.written)

  pub at_realm_fault : (outcome : Outcome) (bytes : List ℕ) → new.script ≡ mid.script → old.realm.left ≡ before_known bytes mid.realm.left → Rose old.realm.faults mid.realm.faults
      → LineMeans read_line 4 mid new (number_of outcome) → CommandMeans command old new (number_of outcome)
  at_realm_fault outcome bytes u taken rose l = Faulty (u ∙ script) (record {
    rose = subst (λ (x : SourceState R). Rose old.realm.faults x.faults) (sym realm) rose;
    bytes = bytes;
    taken = taken ∙ ap (before_known bytes) left;
  }) (line old mid new script unwritten _ 4 (number_of outcome) l)
