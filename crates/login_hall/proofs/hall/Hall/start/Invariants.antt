use Rattle.login_hall.proofs.hall.Hall.start.Given as goal

abbrev pub ghosts-start_facts : goal.ghosts-start_facts
ghosts-start_facts a = record { name = a.blank.name; parts = a.blank.parts }
