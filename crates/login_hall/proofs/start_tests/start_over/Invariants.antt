use Rattle.login_hall.proofs.start_tests.start_over.Given as goal

abbrev pub ghosts-start_facts : goal.ghosts-start_facts
ghosts-start_facts a = record { name = a.blank.name; parts = a.blank.parts }
