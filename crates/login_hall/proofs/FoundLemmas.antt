-- What is found for an ask belongs to it.
use Rattle.std.proofs.Common.{◌≡◌, ℕ, true, List, Some, None, refl, sym, ap, ◌∙◌}
use Rattle.std.specs.Prelude.{Option}
use Rattle.login_base.specs.declared.draws.Draws.{Draws}
use Rattle.asks.specs.declared.ask.Ask.{Ask}
use Rattle.asks.specs.declared.finding.Finding.{Finding}
use Rattle.asks.specs.declared.finding.PasswordUse.{PasswordUse}
use Rattle.asks.specs.declared.finding.PasswordUse.TheVariants as uses
use Rattle.facts.specs.declared.user_password.UserPassword.{UserPassword}
use Rattle.asks.specs.Passwords.{password_use, password_text, emptied, is_solved, is_finding_of}
use Rattle.facts.specs.declared.fact.Fact.{Fact}
use Rattle.asks.specs.declared.finding.Finding.TheVariants as findings
use Rattle.asks.specs.Solved.{SolvedAsk}
use Rattle.asks.proofs.PasswordLemmas.{emptied_ask, emptied_plain}
use Rattle.login_hall.specs.declared.task.Task.{Task}
use Rattle.login_hall.specs.declared.task.Task.TheVariants as tasks
use Rattle.hall_answers.specs.Passwords.{IsKeepable}
use Rattle.login_hall.specs.Found.{task_for, finding_of, HasRounds, has_password, target_password, found, finding_for, solved_of}
use Rattle.hall_answers.specs.Setting.{realm_now}

-- the finding is one of what the ask does with its password
finding_belongs : (usage : PasswordUse) (target : Option UserPassword) (iterations : ℕ) (draws : Draws) (task : Task) (password : List ℕ) → task_for usage target iterations draws ≡ Some task → HasRounds task → is_finding_of usage (finding_of task password) ≡ true
unfolding task_for finding_of
finding_belongs uses.NoPassword target iterations draws task password h rounds = absurd cc
finding_belongs uses.Checks target iterations draws (tasks.Check None) password h rounds = refl
finding_belongs uses.Checks target iterations draws (tasks.Check (Some kept)) password h rounds = refl
finding_belongs uses.Checks target iterations draws (tasks.Derive salt count) password h rounds = absurd cc
finding_belongs uses.Sets target iterations draws (tasks.Check kept) password h rounds = absurd cc
finding_belongs uses.Sets target iterations draws (tasks.Derive salt count) password h rounds = rounds

pub work_is_solved : (ask : Ask) (target : Option UserPassword) (iterations : ℕ) (draws : Draws) (task : Task) → task_for (password_use ask) target iterations draws ≡ Some task → HasRounds task → is_solved (emptied ask) (finding_of task (password_text ask)) ≡ true
work_is_solved ask target iterations draws task h rounds =
    let e = emptied_ask ask in
    rw (e.0, e.1) (finding_belongs (password_use ask) target iterations draws task (password_text ask) h rounds)

-- an ask without a password is itself when it is emptied
pub task_none : (usage : PasswordUse) (target : Option UserPassword) (iterations : ℕ) (draws : Draws) → task_for usage target iterations draws ≡ None → usage ≡ uses.NoPassword
unfolding task_for
task_none uses.NoPassword target iterations draws h = refl
task_none uses.Checks target iterations draws h = absurd cc
task_none uses.Sets target iterations draws h = absurd cc

pub task_some : (usage : PasswordUse) (target : Option UserPassword) (iterations : ℕ) (draws : Draws) (task : Task) → task_for usage target iterations draws ≡ Some task → has_password usage ≡ true
unfolding task_for
task_some uses.NoPassword target iterations draws task h = absurd cc
task_some uses.Checks target iterations draws task h = refl
task_some uses.Sets target iterations draws task h = refl

module _ (chronicle : List Fact) (moment : ℕ) (ask : Ask) (draws : Draws) where
  pub solved_some : (task : Task) → task_for (password_use ask) (target_password chronicle moment ask) (realm_now chronicle).iterations draws ≡ Some task
      → ◌≡◌ {A = SolvedAsk} (record { ask = emptied ask; finding = finding_of task (password_text ask) }) (solved_of chronicle moment ask draws)
  unfolding found
  solved_some task h = ap (λ (o : Option Task). let solved : SolvedAsk = record { ask = emptied ask; finding = finding_for o (password_text ask) } in solved) (sym h)

  pub solved_none : task_for (password_use ask) (target_password chronicle moment ask) (realm_now chronicle).iterations draws ≡ None
      → ◌≡◌ {A = SolvedAsk} (record { ask = ask; finding = findings.None }) (solved_of chronicle moment ask draws)
  unfolding found
  solved_none h =
      ap (λ (a : Ask). let solved : SolvedAsk = record { ask = a; finding = findings.None } in solved) (sym (emptied_plain ask (task_none (password_use ask) (target_password chronicle moment ask) (realm_now chronicle).iterations draws h)))
      ∙ ap (λ (o : Option Task). let solved : SolvedAsk = record { ask = emptied ask; finding = finding_for o (password_text ask) } in solved) (sym h)

-- a finding that belongs to an ask can be kept
pub is_keepable : (usage : PasswordUse) (finding : Finding) → is_finding_of usage finding ≡ true → IsKeepable finding
is_keepable uses.Sets (findings.Derived salt count digest) h = h
is_keepable uses.NoPassword (findings.Derived salt count digest) h = absurd cc
is_keepable uses.Checks (findings.Derived salt count digest) h = absurd cc
is_keepable usage findings.None h = tt
is_keepable usage (findings.Checked had fits) h = tt
