use Rattle.std.proofs.Common.{sym, ◌∙◌}
use Rattle.login_desk.proofs.CauseLemmas.{known, is_done, replayed, checked, scriptless, usage, outside, unread, realm, refused, read, read_cause, put, memory, long, complete}
use Rattle.login_desk.proofs.run.run.Goals as goal

pub returns : goal.returns
returns g c =
    let means = c.outcome_of.ensures.means in
    let command = c.command_of.ensures.command in
    let number = c.status.ensures.number in
    record {
      does = rw (number, ← command) means;
      known = rw number (known c.outcome_of.result);
      replayed = λ e is. replayed _ _ _ _ means (sym number ∙ e) (command ∙ is);
      checked = λ e is. checked _ _ _ _ means (sym number ∙ e) (command ∙ is);
      realm_end = λ e. c.outcome_of.ensures.realm_end (is_done c.outcome_of.result (sym number ∙ e));
      script_end = λ e is. c.outcome_of.ensures.script_end (is_done c.outcome_of.result (sym number ∙ e)) (command ∙ is);
      scriptless = λ is. scriptless _ _ _ _ means (command ∙ is);
      usage = λ e. (usage _ _ _ _ means (sym number ∙ e)).1;
      grammar = λ e. sym command ∙ (usage _ _ _ _ means (sym number ∙ e)).0;
      outside = λ is. rw number (outside _ _ _ _ means (command ∙ is));
      unread = λ is. unread _ _ _ _ means (command ∙ is);
      realm = λ e. rw (← command) (realm _ _ _ _ means (sym number ∙ e));
      refused = λ h faultless. rw number (refused _ _ _ faultless _ means (rw command h));
      read = λ e. rw (← command) (read _ _ _ _ means (sym number ∙ e));
      read_cause = λ e. read_cause _ _ _ _ means (sym number ∙ e);
      put = λ e. rw (← command) (put _ _ _ _ means (sym number ∙ e)).0;
      put_cause = λ e. (put _ _ _ _ means (sym number ∙ e)).1;
      memory = λ e. rw (← command) (memory _ _ _ _ means (sym number ∙ e));
      long = λ e. rw (← command) (long _ _ _ _ means (sym number ∙ e));
      complete = λ h faultless. rw number (complete _ _ _ faultless _ means (rw command h));
    }
