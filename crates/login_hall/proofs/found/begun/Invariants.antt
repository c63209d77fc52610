use Rattle.login_hall.proofs.found.begun.Given as goal

abbrev pub ghosts-task_of : goal.ghosts-task_of
ghosts-task_of a = record { name = a.blank.name; parts = a.blank.parts }
