-- Lines with their newlines are the lines again, and what one more line adds to a play.
use Rattle.std.proofs.Common.{◌≡◌, ℕ, ◌+◌, ◌-◌, ◌^◌, ◌<◌, ◌≤◌, Bool, true, false, cond, List, [], ◌∷◌, ◌++◌, length, refl, sym, ap, subst, ◌∙◌, append_assoc, arith}
use Rattle.std.specs.Prelude.{Option}
use Rattle.std.specs.List.{AllByRecursion}
use Rattle.std.proofs.lemmas.Bool.{ne_eqb}
use Rattle.std.proofs.lemmas.Grind.{flat_map-append}
use Rattle.std.proofs.lemmas.List.{append-nil, length-append}
use Rattle.std.proofs.lemmas.List.Sums.{fold-append}
use Rattle.facts.specs.declared.fact.Fact.{Fact}
use Rattle.facts.specs.Realms.{last_version}
use Rattle.facts.specs.Serials.{last_tab_serial, last_stored_serial}
use Rattle.hall_answers.specs.HasSerials.{HasSerials}
use Rattle.login_base.specs.Outside.{before_known, after_known}
use Rattle.login_hall.specs.Growth.{chronicle_of}
use Rattle.login_desk.specs.declared.turn.Turn.{Turn}
use Rattle.login_desk.specs.declared.turn.Turn.TheVariants as turns
use Rattle.login_desk.specs.Going.{Going}
use Rattle.login_desk.specs.Intake.{Held, rest, IsFront, TakesLine, TakesLast, FindsEnd, MeetsFault, MeetsLimit}
use Rattle.script_lines.specs.Lines.{lines, whole_lines, IsLine, line_limit, with_newline, unlines, is_skipped}
use Rattle.login_desk.specs.Outcome.{IsAnswered, IsStopped, IsOverlong, IsStarved, IsCutOff, PlayEnds, end_of}
use Rattle.login_desk.specs.Outcome.IsReplyDue.{Whole, Ended}
use Rattle.login_desk.specs.Outside.{SourceState, OutsideState, IsUnread}
use Rattle.script_play.specs.Play.{PlayState, Play, Brings, facts_in, state_of, after, nothing, script_line_brings, line_brings, with_line, play, play_text}
use Rattle.login_desk.specs.Turn.{Answers, TurnEnds, WritesFront}
use Rattle.login_desk.proofs.KnownLemmas.{before_known-nil, after_known-nil, after_known-append, one_more}
use Rattle.login_desk.proofs.LineLemmas.{is_skipped-front, script_line-front}

-- ---- lines of bytes

lines-with_newline : (line later : List ℕ) → IsLine line → lines (with_newline line ++ later) ≡ line ∷ lines later
unfolding lines
lines-with_newline [] later h = refl
lines-with_newline (b ∷ line) later h = rw (ne_eqb b 10 h.0, lines-with_newline line later h.1) refl

lines-last : (b : ℕ) (line : List ℕ) → IsLine (b ∷ line) → lines (b ∷ line) ≡ (b ∷ line) ∷ []
unfolding lines
lines-last b [] h = rw (ne_eqb b 10 h.0) refl
lines-last b (c ∷ line) h = rw (ne_eqb b 10 h.0, lines-last c line h.1) refl

whole_lines-with_newline : (line later : List ℕ) → IsLine line → whole_lines (with_newline line ++ later) ≡ line ∷ whole_lines later
unfolding whole_lines
whole_lines-with_newline [] later h = refl
whole_lines-with_newline (b ∷ line) later h = rw (ne_eqb b 10 h.0, whole_lines-with_newline line later h.1) refl

whole_lines-part : (part : List ℕ) → IsLine part → whole_lines part ≡ []
unfolding whole_lines
whole_lines-part [] h = refl
whole_lines-part (b ∷ part) h = rw (ne_eqb b 10 h.0, whole_lines-part part h.1) refl

lines-unlines : (done : List (List ℕ)) (later : List ℕ) → AllByRecursion IsLine done → lines (unlines done ++ later) ≡ done ++ lines later
lines-unlines [] later h = refl
lines-unlines (line ∷ done) later h = ap lines (append_assoc (with_newline line) (unlines done) later) ∙ lines-with_newline line (unlines done ++ later) h.0 ∙ ap (λ l. line ∷ l) (lines-unlines done later h.1)

whole_lines-unlines : (done : List (List ℕ)) (part : List ℕ) → AllByRecursion IsLine done → IsLine part → whole_lines (unlines done ++ part) ≡ done
whole_lines-unlines [] part h p = whole_lines-part part p
whole_lines-unlines (line ∷ done) part h p = ap whole_lines (append_assoc (with_newline line) (unlines done) part) ∙ whole_lines-with_newline line (unlines done ++ part) h.0 ∙ ap (λ l. line ∷ l) (whole_lines-unlines done part h.1 p)

lines-all : (done : List (List ℕ)) → AllByRecursion IsLine done → lines (unlines done) ≡ done
unfolding lines
lines-all done h = ap lines (sym (append-nil (unlines done))) ∙ lines-unlines done [] h ∙ append-nil done

lines-with_last : (done : List (List ℕ)) (line : List ℕ) → AllByRecursion IsLine done → IsLine line → 0 < length line → lines (unlines done ++ line) ≡ done ++ line ∷ []
lines-with_last done [] h p some = absurd (omega arith)
lines-with_last done (b ∷ line) h p some = lines-unlines done (b ∷ line) h ∙ ap (λ l. done ++ l) (lines-last b line p)

length-unlines : (done : List (List ℕ)) → length done ≤ length (unlines done)
length-unlines [] = omega arith
length-unlines (line ∷ done) = omega (arith, length-unlines done, length-append (with_newline line) (unlines done), length-append line (10 ∷ []))

whole_lines-all : (done : List (List ℕ)) → AllByRecursion IsLine done → whole_lines (unlines done) ≡ done
whole_lines-all done h = ap whole_lines (sym (append-nil (unlines done))) ∙ whole_lines-unlines done [] h tt

unlines-push : (done : List (List ℕ)) (line : List ℕ) → unlines (done ++ line ∷ []) ≡ unlines done ++ with_newline line
unlines-push done line = flat_map-append with_newline done (line ∷ []) ∙ ap (λ l. unlines done ++ l) (append-nil (with_newline line))

all-push : (done : List (List ℕ)) (line : List ℕ) → AllByRecursion IsLine done → IsLine line → AllByRecursion IsLine (done ++ line ∷ [])
all-push [] line h p = (p, tt)
all-push (first ∷ done) line h p = (h.0, all-push done line h.1 p)

-- ---- plays

play-push : (base : List Fact) (done : List (List ℕ)) (line : List ℕ) → play base (done ++ line ∷ []) ≡ with_line base (play base done) line
unfolding play
play-push base done line = fold-append (with_line base) _ done (line ∷ [])

-- a line that asks nothing leaves the play as it is
pub skipped_turn : (player : PlayState) (line : List ℕ) (written : Option (List ℕ)) → is_skipped line ≡ true
    → Answers player player line × (written ≡ after_known written (line_brings player line).text)
unfolding line_brings
skipped_turn player line written h =
    let none : line_brings player line ≡ nothing player = rw h refl in
    let same : player ≡ after player (nothing player) = λ i. record { base = player.base; journal = sym (append-nil player.journal) i; begun = player.begun } in (
      record {
        goes_on = same ∙ ap (after player) (sym none);
        raises = record { tabs = omega arith; stored = omega arith; version = omega arith };
      },
      after_known-nil written ∙ ap (λ (b : Brings). after_known written b.text) (sym none),
    )

-- what is kept of a line stands for the line
brings-front : (now : PlayState) (line kept : List ℕ) → IsFront line_limit line kept → line_brings now kept ≡ line_brings now line
unfolding line_brings
brings-front now line kept h =
    λ i. cond (sym (is_skipped-front line kept h) i) (nothing now) (script_line_brings now (sym (script_line-front line kept h) i))

-- ---- between two lines

facts-start : (player : PlayState) → player.journal ≡ [] → facts_in player ≡ player.base
unfolding chronicle_of
facts-start player j = ap (chronicle_of player.base) j ∙ append-nil player.base

pub starts : {S R : Type 0} (old : OutsideState S R) (held : Held) (player : PlayState) → held.pending ≡ [] → held.taken ≡ 0
    → player.journal ≡ [] → player.begun ≡ [] → Going player.base old old held player
unfolding play
starts old held player p t j b =
    let facts = facts-start player j in
    record {
      done = [];
      plain = tt;
      came = sym (before_known-nil old.script.left) ∙ ap (λ l. before_known l old.script.left) (sym p) ∙ sym (before_known-nil (rest held old.script.left));
      count = t;
      text = after_known-nil old.written;
      over = λ i. record { base = player.base; journal = j i; begun = b i };
      tabs = omega (arith, ap last_tab_serial facts);
      stored = omega (arith, ap last_stored_serial facts);
      version = omega (arith, ap last_version facts);
      unread = refl;
      reads = omega arith;
      puts = omega arith;
      ends = refl;
    }

module _ {S R : Type 0} (base : List Fact) (old now : OutsideState S R) (held : Held) (player : PlayState) (h : Going base old now held player) where
  -- so few lines leave room for more serials
  pub few_serials : HasSerials base (2 ^ 62) → held.taken ≤ 2 ^ 32 → HasSerials (facts_in player) (2 ^ 63 - 8)
  few_serials first le = record {
    tabs = omega (arith, first.tabs, h.tabs, h.count, length-unlines h.done);
    stored = omega (arith, first.stored, h.stored, h.count, length-unlines h.done);
    version = omega (arith, first.version, h.version, h.count, length-unlines h.done);
  }

  same_brings : (line kept : List ℕ) → IsFront line_limit line kept → line_brings player kept ≡ line_brings (state_of base (play base h.done)) line
  same_brings line kept f = brings-front player line kept f ∙ ap (λ p. line_brings p line) h.over

  text-push : (line kept : List ℕ) → IsFront line_limit line kept → play_text base h.done ++ (line_brings player kept).text ≡ play_text base (h.done ++ line ∷ [])
  text-push line kept f =
      ap (λ (b : Brings). play_text base h.done ++ b.text) (same_brings line kept f)
      ∙ ap (λ (p : Play). p.text) (sym (play-push base h.done line))

  told : (written : Option (List ℕ)) (line kept : List ℕ) → IsFront line_limit line kept → written ≡ after_known now.written (line_brings player kept).text → written ≡ after_known old.written (play_text base (h.done ++ line ∷ []))
  told written line kept f e =
      e ∙ ap (λ x. after_known x (line_brings player kept).text) h.text
      ∙ after_known-append old.written (play_text base h.done) (line_brings player kept).text ∙ ap (after_known old.written) (text-push line kept f)

  front : (written : Option (List ℕ)) (line kept : List ℕ) → IsFront line_limit line kept → WritesFront now.written written (line_brings player kept).text → WritesFront old.written written (play_text base (h.done ++ line ∷ []))
  front written line kept f w = record {
    front = play_text base h.done ++ w.front;
    unwritten = w.unwritten;
    cut = sym (text-push line kept f) ∙ ap (λ l. play_text base h.done ++ l) w.cut ∙ sym (append_assoc (play_text base h.done) w.front w.unwritten);
    written = w.written ∙ ap (λ x. after_known x w.front) h.text ∙ after_known-append old.written (play_text base h.done) w.front;
  }

  pub starved : (new : OutsideState S R) → new.written ≡ now.written → IsStarved base old new
  starved new e = record {
    bytes = unlines h.done;
    later = rest held now.script.left;
    taken = h.came;
    text = e ∙ h.text ∙ ap (λ l. after_known old.written (play_text base l)) (sym (whole_lines-all h.done h.plain));
  }

  pub answered : (new : OutsideState S R) → new.written ≡ now.written → FindsEnd held now.script.left new.script.left → IsAnswered base old new
  answered new e t = record {
    bytes = unlines h.done;
    taken = h.came ∙ ap (before_known (unlines h.done)) t.came;
    end = t.end;
    short = omega (arith, h.count, t.short);
    text = e ∙ h.text ∙ ap (λ l. after_known old.written (play_text base l)) (sym (lines-all h.done h.plain));
  }

  part_text : (written : Option (List ℕ)) (part : List ℕ) → written ≡ now.written → IsLine part → written ≡ after_known old.written (play_text base (whole_lines (unlines h.done ++ part)) ++ [])
  part_text written part e p =
      e ∙ h.text ∙ ap (λ l. after_known old.written (play_text base l)) (sym (whole_lines-unlines h.done part h.plain p))
      ∙ ap (after_known old.written) (sym (append-nil (play_text base (whole_lines (unlines h.done ++ part)))))

  pub stopped : (new : OutsideState S R) → new.written ≡ now.written → MeetsFault held now.script.left new.script.left → IsStopped base old new []
  stopped new e t = record {
    bytes = unlines h.done ++ t.part;
    taken = one_more old.script.left (rest held now.script.left) new.script.left (unlines h.done) t.part h.came t.came;
    short = omega (arith, h.count, t.short, length-append (unlines h.done) t.part);
    text = part_text new.written t.part e t.plain;
  }

  pub overlong : (new : OutsideState S R) → new.written ≡ now.written → MeetsLimit held now.script.left → IsOverlong base old new []
  overlong new e t = record {
    bytes = unlines h.done ++ t.part;
    later = t.later;
    taken = one_more old.script.left (rest held now.script.left) t.later (unlines h.done) t.part h.came t.came;
    full = omega (arith, h.count, t.full, length-append (unlines h.done) t.part);
    text = part_text new.written t.part e t.plain;
  }

  -- a line was taken, and then something was written
  module _ (kept : List ℕ) (mid new : OutsideState S R) (same : mid.written ≡ now.written) (unread : IsUnread mid new) where
    module _ (next : Held) (taken : TakesLine held now.script.left kept next mid.script.left) where
      t : TakesLine held now.script.left kept next new.script.left
      t = subst (λ s. TakesLine held now.script.left kept next s) (sym (ap (λ (x : SourceState S). x.left) unread.script)) taken

      came_line : old.script.left ≡ before_known (unlines (h.done ++ t.line ∷ [])) (rest next new.script.left)
      came_line =
          one_more old.script.left (rest held now.script.left) (rest next new.script.left) (unlines h.done) (with_newline t.line) h.came t.came
          ∙ ap (λ l. before_known l (rest next new.script.left)) (sym (unlines-push h.done t.line))

      pub cut : WritesFront mid.written new.written (line_brings player kept).text → IsCutOff base old new
      cut w = record {
        due = play_text base (h.done ++ t.line ∷ []);
        is_due = Whole (unlines (h.done ++ t.line ∷ [])) (rest next new.script.left) came_line (ap (play_text base) (sym (whole_lines-all (h.done ++ t.line ∷ []) (all-push h.done t.line h.plain t.plain))));
        front = front new.written t.line kept t.front (subst (λ x. WritesFront x new.written (line_brings player kept).text) same w);
      }

      pub goes_on : (grown : PlayState) → Answers player grown kept → new.written ≡ after_known mid.written (line_brings player kept).text → now.script.faults ≤ mid.script.faults
          → now.write_faults ≤ new.write_faults → mid.script.ends ≡ now.script.ends → mid.realm ≡ now.realm → Going base old new next grown
      goes_on grown a e reads puts ends realm =
          let pushed : length (h.done ++ t.line ∷ []) ≡ length h.done + 1 = length-append h.done (t.line ∷ []) in
          record {
            done = h.done ++ t.line ∷ [];
            plain = all-push h.done t.line h.plain t.plain;
            came = came_line;
            count = let e = ap length (unlines-push h.done t.line) in omega (arith, e, t.count, h.count, length-append (unlines h.done) (with_newline t.line), length-append t.line (10 ∷ []));
            text = told new.written t.line kept t.front (e ∙ ap (λ x. after_known x (line_brings player kept).text) same);
            over =
                a.goes_on ∙ ap (after player) (same_brings t.line kept t.front) ∙ ap (λ p. after p (line_brings (state_of base (play base h.done)) t.line)) h.over
                ∙ ap (state_of base) (sym (play-push base h.done t.line));
            tabs = omega (arith, a.raises.tabs, h.tabs, pushed);
            stored = omega (arith, a.raises.stored, h.stored, pushed);
            version = omega (arith, a.raises.version, h.version, pushed);
            unread = unread.realm ∙ realm ∙ h.unread;
            reads = let e = ap (λ (x : SourceState S). x.faults) unread.script in omega (arith, reads, h.reads, e);
            puts = omega (arith, puts, h.puts);
            ends = ap (λ (x : SourceState S). x.ends) unread.script ∙ ends ∙ h.ends;
          }

    module _ (taken : TakesLast held now.script.left kept mid.script.left) where
      last : TakesLast held now.script.left kept new.script.left
      last = subst (λ s. TakesLast held now.script.left kept s) (sym (ap (λ (x : SourceState S). x.left) unread.script)) taken

      came_last : old.script.left ≡ before_known (unlines h.done ++ last.line) new.script.left
      came_last = one_more old.script.left (rest held now.script.left) new.script.left (unlines h.done) last.line h.came last.came

      is_last : lines (unlines h.done ++ last.line) ≡ h.done ++ last.line ∷ []
      is_last = lines-with_last h.done last.line h.plain last.plain last.some

      pub last_turn : (grown : PlayState) (turn : Turn) → TurnEnds player grown kept mid.written new.written turn → PlayEnds base old new (end_of turn)
      last_turn grown turns.Told e = record {
        bytes = unlines h.done ++ last.line;
        taken = came_last;
        end = last.end;
        short = omega (arith, h.count, last.short, length-append (unlines h.done) last.line);
        text = told new.written last.line kept last.front (e.1 ∙ ap (λ x. after_known x (line_brings player kept).text) same) ∙ ap (λ l. after_known old.written (play_text base l)) (sym is_last);
      }
      last_turn grown turns.Failed w = record {
        due = play_text base (h.done ++ last.line ∷ []);
        is_due = Ended (unlines h.done ++ last.line) came_last last.end (ap (play_text base) (sym is_last));
        front = front new.written last.line kept last.front (subst (λ x. WritesFront x new.written (line_brings player kept).text) same w);
      }
      last_turn grown turns.Memory e = starved new (e ∙ same)

-- nothing was taken, and nothing written
pub starved_first : {S R : Type 0} (base : List Fact) (old : OutsideState S R) → IsStarved base old old
unfolding whole_lines play
starved_first base old = record { bytes = []; later = old.script.left; taken = sym (before_known-nil old.script.left); text = after_known-nil old.written }
