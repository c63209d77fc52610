use Rattle.std.proofs.Common.{sym, subst, ◌∙◌}
use Rattle.asks.specs.Passwords.{password_use}
use Rattle.login_hall.specs.Found.{target_password, MayHave}
use Rattle.hall_answers.specs.Setting.{realm_now}
use Rattle.login_hall.proofs.FoundLemmas.{work_is_solved, task_none, task_some, solved_some, solved_none}
use Rattle.login_hall.proofs.found.begun.Goals as goal

pub work_of-requires-clause-solved : goal.work_of-requires-clause-solved
work_of-requires-clause-solved c =
    work_is_solved c.args.ask (target_password c.args.chronicle.now.list c.args.moment c.args.ask) (realm_now c.args.chronicle.now.list).iterations c.args.draws.now c.in-Some.task
    (sym c.task_of.ensures.task ∙ c.in-Some.is) (subst MayHave c.in-Some.is c.task_of.ensures.rounds)

pub work_of-requires-clause-rounds : goal.work_of-requires-clause-rounds
work_of-requires-clause-rounds c = subst MayHave c.in-Some.is c.task_of.ensures.rounds

pub ready-requires : goal.ready-requires
ready-requires c = task_none (password_use c.args.ask) (target_password c.args.chronicle.now.list c.args.moment c.args.ask) (realm_now c.args.chronicle.now.list).iterations c.args.draws.now (sym c.task_of.ensures.task ∙ c.in-None.is)

pub returns-in-Some-clause-solved : goal.returns-in-Some-clause-solved
returns-in-Some-clause-solved c = c.work_of.ensures ∙ solved_some c.args.chronicle.now.list c.args.moment c.args.ask c.args.draws.now c.in-Some.task (sym c.task_of.ensures.task ∙ c.in-Some.is)

pub returns-in-Some-clause-work : goal.returns-in-Some-clause-work
returns-in-Some-clause-work c = sym (task_some (password_use c.args.ask) (target_password c.args.chronicle.now.list c.args.moment c.args.ask) (realm_now c.args.chronicle.now.list).iterations c.args.draws.now c.in-Some.task (sym c.task_of.ensures.task ∙ c.in-Some.is))

pub returns-in-None-clause-solved : goal.returns-in-None-clause-solved
returns-in-None-clause-solved c = c.ready.ensures ∙ solved_none c.args.chronicle.now.list c.args.moment c.args.ask c.args.draws.now (sym c.task_of.ensures.task ∙ c.in-None.is)
